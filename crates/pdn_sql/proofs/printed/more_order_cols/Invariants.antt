use Rattle.std.proofs.Common.{◌≡◌, ◌∷◌, ◌++◌, take}
use Rattle.pdn_sql.specs.declared.token.Token.TheVariants.{Mark}
use Rattle.pdn_sql.specs.declared.token.Symbol.TheVariants as marks
use Rattle.pdn_sql.specs.declared.query.OrderCol.{OrderCol}
use Rattle.pdn_sql.specs.Printing.{each, order_col_tokens}
use Rattle.pdn_sql.proofs.printed.more_order_cols.Given as goal

abbrev pub invariant-loop-x : goal.invariant-loop-x
invariant-loop-x l = l.out.items ≡ l.fn.out.items ++ each (λ (x : OrderCol). Mark marks.Comma ∷ order_col_tokens x) (take l.x-index l.rest)
