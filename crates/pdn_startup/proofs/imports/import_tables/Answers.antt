use Rattle.std.proofs.Common.{◌<◌, Option, List, ℕ, length, arith, ap, ◌∙◌, subst}
use Rattle.std.proofs.lemmas.Result.{err_from_is_err_and}
use Rattle.pdn_schema.specs.Models.{SchemaModel, table_of}
use Rattle.pdn_startup.specs.Starting.{TakesFile}
use Rattle.pdn_startup.proofs.Taking.{takes_next, refused_at, file_or_weaker, either_rose}
use Rattle.pdn_startup.proofs.imports.import_tables.Goals as goal

pub returns-in_err-import_table-clause-taken : goal.returns-in_err-import_table-clause-taken
returns-in_err-import_table-clause-taken g c =
    let p = err_from_is_err_and c.from_residual.result c.from_residual.ensures.1 in
    let inv = c.loop-at.invariant in
    let made = c.in_err-import_table.ensures in
    let tables = c.args.schema.now.tables in
    let k = c.loop-at.at in
    let kept = g.K.SiteKeeper.batches c.loop-at.keeper in
    let here : k < length tables = omega (arith, c.loop-at-test.true, c.len-at-end.ensures, ap (λ (s : SchemaModel). length s.tables) c.schema.view_is) in
    rw (p.1, p.2) (file_or_weaker _ _
    (refused_at (g.F.Files.held c.args.files.now) c.args.site _ _ _ tables k _ kept here inv.taken inv.same
    (either_rose _ _ _ _ _ _ inv.files_later inv.keeper_later))
    c.in_err-import_table.field-0.0 made.taken)

pub loop-at-preserved : goal.loop-at-preserved
loop-at-preserved g c =
    let inv = c.loop-at.invariant in
    let made = c.in_ok-import_table.ensures in
    let tables = c.args.schema.now.tables in
    let k = c.loop-at.at in
    let here : k < length tables = omega (arith, c.loop-at-test.true, c.len-at-end.ensures, ap (λ (s : SchemaModel). length s.tables) c.schema.view_is) in
    let took = subst (λ (files : Option (List ℕ → Option (List ℕ))). TakesFile files c.args.site (table_of c.args.schema.now k) (g.K.SiteKeeper.batches c.loop-at.keeper) (g.K.SiteKeeper.batches c.import_table.new.keeper)) inv.same made.taken in
    record {
      taken = takes_next (g.F.Files.held c.args.files.now) c.args.site tables k _ _ _ here inv.taken took;
      same = made.same ∙ inv.same;
      files_later = omega (arith, inv.files_later, made.files_later);
      keeper_later = omega (arith, inv.keeper_later, made.keeper_later);
    }
