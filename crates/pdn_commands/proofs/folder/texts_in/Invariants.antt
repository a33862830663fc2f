use Rattle.std.proofs.Common.{◌≡◌, length}
use Rattle.pdn_query.proofs.Steps.{Stepped}
use Rattle.pdn_commands.specs.Twinning.{finding}
use Rattle.pdn_commands.proofs.folder.texts_in.Given as goal

abbrev pub invariant-loop-at : goal.invariant-loop-at
invariant-loop-at g l = record {
  stepped : Stepped (g.W.Outside.state l.fn.world) (g.W.Outside.state l.world) (finding l.folder) l.schema.tables l.at l.texts.items;
  count : length l.texts.items ≡ l.at;
  same : (g.W.Outside.state l.world).told ≡ (g.W.Outside.state l.fn.world).told;
}
