-- What is made of a tree, seen through a function.
use Rattle.std.proofs.Common.{◌≡◌, sym, ap, ap₂, ◌∙◌, subst}
use Rattle.pdn_tree.specs.declared.node.Node.{Node, Node-F, fold-Node, fold-roll-Node}
use Rattle.pdn_tree.specs.declared.node.Node.TheFolds.{ind-Node, map-Node}

module _ {X Y : Type 0} (step : Node-F X → X) (step' : Node-F Y → Y) (f : X → Y) (at_step : (y : Node-F X) → f (step y) ≡ step' (map-Node X Y f y)) where
  abbrev Seen : Node → Type 0
  Seen n = f (fold-Node X step n) ≡ fold-Node Y step' n

  abbrev plain : Node-F ((n : Node) × Seen n) → Node-F Node
  plain y = map-Node ((n : Node) × Seen n) Node (λ e. e.0) y

  layer : (y : Node-F ((n : Node) × Seen n)) → f (step (map-Node Node X (fold-Node X step) (plain y))) ≡ step' (map-Node Node Y (fold-Node Y step') (plain y))
  layer (Node-F.Scan table) = at_step (Node-F.Scan table)
  layer (Node-F.Filter child cond) = at_step (Node-F.Filter (fold-Node X step child.0) cond) ∙ ap (λ (z : Y). step' (Node-F.Filter z cond)) child.1
  layer (Node-F.Project child columns) = at_step (Node-F.Project (fold-Node X step child.0) columns) ∙ ap (λ (z : Y). step' (Node-F.Project z columns)) child.1
  layer (Node-F.Join left right on) = at_step (Node-F.Join (fold-Node X step left.0) (fold-Node X step right.0) on) ∙ ap₂ (λ (z w : Y). step' (Node-F.Join z w on)) left.1 right.1
  layer (Node-F.Group child keys having) = at_step (Node-F.Group (fold-Node X step child.0) keys having) ∙ ap (λ (z : Y). step' (Node-F.Group z keys having)) child.1
  layer (Node-F.Count child) = at_step (Node-F.Count (fold-Node X step child.0)) ∙ ap (λ (z : Y). step' (Node-F.Count z)) child.1
  layer (Node-F.Distinct child) = at_step (Node-F.Distinct (fold-Node X step child.0)) ∙ ap (λ (z : Y). step' (Node-F.Distinct z)) child.1
  layer (Node-F.Number child partition order) = at_step (Node-F.Number (fold-Node X step child.0) partition order) ∙ ap (λ (z : Y). step' (Node-F.Number z partition order)) child.1
  layer (Node-F.Top child order limit) = at_step (Node-F.Top (fold-Node X step child.0) order limit) ∙ ap (λ (z : Y). step' (Node-F.Top z order limit)) child.1

  pub fold_seen : (n : Node) → f (fold-Node X step n) ≡ fold-Node Y step' n
  fold_seen = ind-Node Seen (λ x y is.
      ap f (fold-roll-Node X step x)
      ∙ subst (λ (z : Node-F Node). f (step (map-Node Node X (fold-Node X step) z)) ≡ step' (map-Node Node Y (fold-Node Y step') z)) is (layer y)
      ∙ sym (fold-roll-Node Y step' x))
