use Rattle.std.proofs.Common.{◌≡◌, ◌∷◌, ◌++◌, take}
use Rattle.pdn_sql.specs.declared.token.Token.TheVariants.{Mark}
use Rattle.pdn_sql.specs.declared.token.Symbol.TheVariants as marks
use Rattle.pdn_sql.specs.declared.query.Item.{Item}
use Rattle.pdn_sql.specs.Printing.{each, item_tokens}
use Rattle.pdn_sql.proofs.printed.more_items.Given as goal

abbrev pub invariant-loop-x : goal.invariant-loop-x
invariant-loop-x l = l.out.items ≡ l.fn.out.items ++ each (λ (x : Item). Mark marks.Comma ∷ item_tokens x) (take l.x-index l.rest)
