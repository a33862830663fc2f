use Rattle.std.proofs.Common.{◌≡◌, ◌<◌, ◌-◌, ◌^◌, length}
use Rattle.std.specs.List.{All}
use Rattle.pdn_base.specs.Operators.{Rows}
use Rattle.pdn_query.specs.Each.{keeping}
use Rattle.pdn_query.proofs.Steps.{Stepped}
use Rattle.pdn_query.proofs.kept.kept_tables.Given as goal

abbrev pub invariant-loop-at : goal.invariant-loop-at
invariant-loop-at g l = record {
  stepped : Stepped (g.W.Outside.state l.fn.world) (g.W.Outside.state l.world) (keeping l.site) l.schema.tables l.at l.lists.items;
  count : length l.lists.items ≡ l.at;
  short : All (λ (rows : Rows). length rows < 2 ^ 32 - 1) l.lists.items;
  same : (g.W.Outside.state l.world).told ≡ (g.W.Outside.state l.fn.world).told;
}
