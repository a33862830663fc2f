-- A fold over a tree, node by node.
use Rattle.std.proofs.Common.{◌≡◌, ℕ, List, Option, ap, ap₂, ◌∙◌, sym}
use Rattle.pdn_base.specs.declared.order.Key.{Key}
use Rattle.pdn_tree.specs.declared.node.Node.{Node, Node-F, fold-Node, fold-roll-Node}
use Rattle.pdn_tree.specs.declared.node.Node.TheVariants.{rolls-Scan, rolls-Filter, rolls-Project, rolls-Join, rolls-Group, rolls-Count, rolls-Distinct, rolls-Number, rolls-Top}
use Rattle.pdn_tree.specs.declared.node.Node.TheVariants as node
use Rattle.pdn_tree.specs.Columns.{Clauses}

module _ (X : Type 0) (step : Node-F X → X) where
  pub at_scan : (table : ℕ) → fold-Node X step (node.Scan table) ≡ step (Node-F.Scan table)
  at_scan table = ap (fold-Node X step) (sym (rolls-Scan table)) ∙ fold-roll-Node X step (Node-F.Scan table)

  pub at_filter : (n : Node) (x : X) (cond : Clauses) → fold-Node X step n ≡ x → fold-Node X step (node.Filter n cond) ≡ step (Node-F.Filter x cond)
  at_filter n x cond is = ap (fold-Node X step) (sym (rolls-Filter n cond)) ∙ fold-roll-Node X step (Node-F.Filter n cond) ∙ ap (λ (y : X). step (Node-F.Filter y cond)) is

  pub at_project : (n : Node) (x : X) (columns : List ℕ) → fold-Node X step n ≡ x → fold-Node X step (node.Project n columns) ≡ step (Node-F.Project x columns)
  at_project n x columns is = ap (fold-Node X step) (sym (rolls-Project n columns)) ∙ fold-roll-Node X step (Node-F.Project n columns) ∙ ap (λ (y : X). step (Node-F.Project y columns)) is

  pub at_join : (l r : Node) (x y : X) (on : Clauses) → fold-Node X step l ≡ x → fold-Node X step r ≡ y → fold-Node X step (node.Join l r on) ≡ step (Node-F.Join x y on)
  at_join l r x y on is also = ap (fold-Node X step) (sym (rolls-Join l r on)) ∙ fold-roll-Node X step (Node-F.Join l r on) ∙ ap₂ {C = X} (λ (u v : X). step (Node-F.Join u v on)) is also

  pub at_group : (n : Node) (x : X) (keys : List ℕ) (having : Option ℕ) → fold-Node X step n ≡ x → fold-Node X step (node.Group n keys having) ≡ step (Node-F.Group x keys having)
  at_group n x keys having is = ap (fold-Node X step) (sym (rolls-Group n keys having)) ∙ fold-roll-Node X step (Node-F.Group n keys having) ∙ ap (λ (y : X). step (Node-F.Group y keys having)) is

  pub at_count : (n : Node) (x : X) → fold-Node X step n ≡ x → fold-Node X step (node.Count n) ≡ step (Node-F.Count x)
  at_count n x is = ap (fold-Node X step) (sym (rolls-Count n)) ∙ fold-roll-Node X step (Node-F.Count n) ∙ ap (λ (y : X). step (Node-F.Count y)) is

  pub at_distinct : (n : Node) (x : X) → fold-Node X step n ≡ x → fold-Node X step (node.Distinct n) ≡ step (Node-F.Distinct x)
  at_distinct n x is = ap (fold-Node X step) (sym (rolls-Distinct n)) ∙ fold-roll-Node X step (Node-F.Distinct n) ∙ ap (λ (y : X). step (Node-F.Distinct y)) is

  pub at_number : (n : Node) (x : X) (partition : List ℕ) (order : List Key) → fold-Node X step n ≡ x → fold-Node X step (node.Number n partition order) ≡ step (Node-F.Number x partition order)
  at_number n x partition order is = ap (fold-Node X step) (sym (rolls-Number n partition order)) ∙ fold-roll-Node X step (Node-F.Number n partition order) ∙ ap (λ (y : X). step (Node-F.Number y partition order)) is

  pub at_top : (n : Node) (x : X) (order : List Key) (limit : Option ℕ) → fold-Node X step n ≡ x → fold-Node X step (node.Top n order limit) ≡ step (Node-F.Top x order limit)
  at_top n x order limit is = ap (fold-Node X step) (sym (rolls-Top n order limit)) ∙ fold-roll-Node X step (Node-F.Top n order limit) ∙ ap (λ (y : X). step (Node-F.Top y order limit)) is
