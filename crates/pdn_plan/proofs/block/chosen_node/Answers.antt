use Rattle.std.proofs.Common.{List, ℕ, ap₂, ◌∙◌}
use Rattle.pdn_tree.specs.Columns.{Clauses, clauses_at, place_in}
use Rattle.pdn_plan.specs.Planning.{filtered}
use Rattle.pdn_plan.proofs.block.chosen_node.Goals as goal

pub returns : goal.returns
returns c = c.in_ok-chosen.ensures
    ∙ ap₂ filtered (c.in_ok-asked.ensures ∙ ap₂ (λ (ks : List ℕ) (cs : Clauses). clauses_at (place_in ks) cs) c.in_ok-kept.ensures c.in_ok-rest.ensures) c.in_ok-tree.ensures
