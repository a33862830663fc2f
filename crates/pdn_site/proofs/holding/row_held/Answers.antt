use Rattle.std.proofs.Common.{List, IfOk, subst}
use Rattle.pdn_base.specs.declared.marks.Kind.{Kind}
use Rattle.pdn_obl_rows.specs.Encoding.{RowIsOf}
use Rattle.pdn_site.proofs.holding.row_held.Goals as goal

pub returns-then-are_of : goal.returns-then-are_of
returns-then-are_of c = subst (λ (kinds : List Kind). IfOk c.row_known.result (λ _. RowIsOf kinds c.args.values.now)) (c.are_of.ensures c.if-are_of.true) c.row_known.ensures
