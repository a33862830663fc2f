use Rattle.std.proofs.Common.{◌≡◌, ◌≤◌, take}
use Rattle.pdn_startup.specs.Starting.{TakesFiles}
use Rattle.pdn_startup.proofs.imports.import_tables.Given as goal

abbrev pub invariant-loop-at : goal.invariant-loop-at
invariant-loop-at g l = record {
  taken : TakesFiles (g.F.Files.held l.initial.files) l.site (take l.at l.schema.tables) (g.K.SiteKeeper.batches l.initial.keeper) (g.K.SiteKeeper.batches l.keeper);
  same : g.F.Files.held l.files ≡ g.F.Files.held l.initial.files;
  files_later : g.F.Files.faults l.initial.files ≤ g.F.Files.faults l.files;
  keeper_later : g.K.SiteKeeper.faults l.initial.keeper ≤ g.K.SiteKeeper.faults l.keeper;
}
