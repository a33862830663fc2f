use Rattle.std.proofs.Common.{◌≡◌, ◌∷◌, ◌++◌, take}
use Rattle.pdn_sql.specs.declared.token.Token.TheVariants.{Word}
use Rattle.pdn_sql.specs.declared.token.Keyword.TheVariants as words
use Rattle.pdn_sql.specs.declared.query.SqlClause.{SqlClause}
use Rattle.pdn_sql.specs.Printing.{each, clause_tokens}
use Rattle.pdn_sql.proofs.printed.more_cond.Given as goal

abbrev pub invariant-loop-x : goal.invariant-loop-x
invariant-loop-x l = l.out.items ≡ l.fn.out.items ++ each (λ (x : SqlClause). Word words.And ∷ clause_tokens x.any) (take l.x-index l.rest)
