use Rattle.std.proofs.Common.{◌≡◌, ◌∷◌, ◌++◌, take}
use Rattle.pdn_sql.specs.declared.token.Token.TheVariants.{Mark}
use Rattle.pdn_sql.specs.declared.token.Symbol.TheVariants as marks
use Rattle.pdn_sql.specs.declared.query.Col.{Col}
use Rattle.pdn_sql.specs.Printing.{each, col_tokens}
use Rattle.pdn_sql.proofs.printed.more_cols.Given as goal

abbrev pub invariant-loop-x : goal.invariant-loop-x
invariant-loop-x l = l.out.items ≡ l.fn.out.items ++ each (λ (x : Col). Mark marks.Comma ∷ col_tokens x) (take l.x-index l.rest)
