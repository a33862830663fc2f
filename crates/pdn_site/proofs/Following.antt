-- What is made along a slice column, seen through a function.
use Rattle.std.proofs.Common.{◌≡◌, ℕ, Bool, List, refl, ap, ap₂, ◌∙◌, subst, get_or}
use Rattle.pdn_schema.specs.Models.{SchemaModel}
use Rattle.pdn_tree.specs.declared.node.Node.{Node, Node-F, fold-roll-Node}
use Rattle.pdn_tree.specs.declared.node.Node.TheFolds.{ind-Node, map-Node}
use Rattle.pdn_level.specs.Links.{link_at}
use Rattle.pdn_level.specs.Slices.{Followed, followed_step, followed, linked, slice_step}

module _ {X Y : Type 0} (schema : SchemaModel) (leaf : ℕ → ℕ → X) (step : Node-F X → X) (leaf' : ℕ → ℕ → Y) (step' : Node-F Y → Y) (f : X → Y)
    (at_leaf : (table s : ℕ) → f (leaf table s) ≡ leaf' table s) (at_step : (y : Node-F X) → f (step y) ≡ step' (map-Node X Y f y)) where
  record Seen (x : Followed X) (y : Followed Y) : Type 0 where
    pub same : x.slices ≡ y.slices
    pub at : (s : ℕ) → f (x.at s) ≡ y.at s

  abbrev Maps : Node → Type 0
  Maps n = Seen (followed schema leaf step n) (followed schema leaf' step' n)

  layer : (y : Node-F ((n : Node) × Maps n)) → Seen (followed_step schema leaf step (map-Node Node (Followed X) (followed schema leaf step) (map-Node ((n : Node) × Maps n) Node (λ e. e.0) y)))
      (followed_step schema leaf' step' (map-Node Node (Followed Y) (followed schema leaf' step') (map-Node ((n : Node) × Maps n) Node (λ e. e.0) y)))
  layer (Node-F.Scan table) = record { same = refl; at = at_leaf table }
  layer (Node-F.Filter child cond) = record { same = child.1.same; at = λ s. at_step (Node-F.Filter ((followed schema leaf step child.0).at s) cond) ∙ ap (λ (y : Y). step' (Node-F.Filter y cond)) (child.1.at s) }
  layer (Node-F.Project child columns) = record {
    same = ap (λ (bs : List Bool). slice_step schema (Node-F.Project bs columns)) child.1.same;
    at = λ s. at_step (Node-F.Project ((followed schema leaf step child.0).at (get_or columns s 0)) columns) ∙ ap (λ (y : Y). step' (Node-F.Project y columns)) (child.1.at (get_or columns s 0));
  }
  layer (Node-F.Join left right on) =
      let l = followed schema leaf step left.0 in
      let r = followed schema leaf step right.0 in
      let l' = followed schema leaf' step' left.0 in
      let r' = followed schema leaf' step' right.0 in
      let link : (s : ℕ) → link_at l.slices r.slices on s ≡ link_at l'.slices r'.slices on s = λ s. ap₂ (λ (p q : List Bool). link_at p q on s) left.1.same right.1.same in
      record {
        same = ap₂ (λ (p q : List Bool). linked p q on) left.1.same right.1.same;
        at = λ s. at_step (Node-F.Join (l.at (link_at l.slices r.slices on s).left) (r.at (link_at l.slices r.slices on s).right) on)
            ∙ ap₂ (λ (y z : Y). step' (Node-F.Join y z on)) (left.1.at (link_at l.slices r.slices on s).left) (right.1.at (link_at l.slices r.slices on s).right)
            ∙ ap (λ k. step' (Node-F.Join (l'.at k.left) (r'.at k.right) on)) (link s);
      }
  layer (Node-F.Group child keys having) = record {
    same = ap (λ (bs : List Bool). slice_step schema (Node-F.Group bs keys having)) child.1.same;
    at = λ s. at_step (Node-F.Group ((followed schema leaf step child.0).at (get_or keys s 0)) keys having) ∙ ap (λ (y : Y). step' (Node-F.Group y keys having)) (child.1.at (get_or keys s 0));
  }
  layer (Node-F.Count child) = record { same = refl; at = λ s. at_step (Node-F.Count ((followed schema leaf step child.0).at s)) ∙ ap (λ (y : Y). step' (Node-F.Count y)) (child.1.at s) }
  layer (Node-F.Distinct child) = record { same = child.1.same; at = λ s. at_step (Node-F.Distinct ((followed schema leaf step child.0).at s)) ∙ ap (λ (y : Y). step' (Node-F.Distinct y)) (child.1.at s) }
  layer (Node-F.Number child partition order) = record {
    same = ap (λ (bs : List Bool). slice_step schema (Node-F.Number bs partition order)) child.1.same;
    at = λ s. at_step (Node-F.Number ((followed schema leaf step child.0).at s) partition order) ∙ ap (λ (y : Y). step' (Node-F.Number y partition order)) (child.1.at s);
  }
  layer (Node-F.Top child order limit) = record {
    same = ap (λ (bs : List Bool). slice_step schema (Node-F.Top bs order limit)) child.1.same;
    at = λ s. at_step (Node-F.Top ((followed schema leaf step child.0).at s) order limit) ∙ ap (λ (y : Y). step' (Node-F.Top y order limit)) (child.1.at s);
  }

  followed_seen : (n : Node) → Maps n
  followed_seen = ind-Node Maps (λ x y is.
      rw (fold-roll-Node (Followed X) (followed_step schema leaf step) x, fold-roll-Node (Followed Y) (followed_step schema leaf' step') x)
      (subst (λ (z : Node-F Node). Seen (followed_step schema leaf step (map-Node Node (Followed X) (followed schema leaf step) z)) (followed_step schema leaf' step' (map-Node Node (Followed Y) (followed schema leaf' step') z))) is (layer y)))

  pub followed_at : (n : Node) (s : ℕ) → f ((followed schema leaf step n).at s) ≡ (followed schema leaf' step' n).at s
  followed_at n = (followed_seen n).at

  pub followed_same : (n : Node) → (followed schema leaf step n).slices ≡ (followed schema leaf' step' n).slices
  followed_same n = (followed_seen n).same
