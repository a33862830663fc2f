use Rattle.std.proofs.Common.{◌++◌, ◌∷◌, [], List, ℕ, Bool, cond, sym, ◌∙◌, ap₂}
use Rattle.pdn_tree.specs.Columns.{has}
use Rattle.pdn_plan.proofs.KeepLaws.{kept_more}
use Rattle.pdn_plan.proofs.split.needed_below.Goals as goal

pub loop-column-preserved : goal.loop-column-preserved
loop-column-preserved c = c.in_ok-out.ensures
    ∙ ap₂ (λ (xs : List ℕ) (b : Bool). xs ++ cond b (c.loop-column.column ∷ []) []) c.loop-column.invariant c.has.ensures
    ∙ sym (kept_more (has c.args.needed.now) c.loop-column.column)
