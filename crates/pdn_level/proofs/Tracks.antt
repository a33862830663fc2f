-- Following a slice column: whatever is made of the tree, its slice columns are the same.
use Rattle.std.proofs.Common.{◌≡◌, ℕ, List, Bool, refl, ap, ap₂, subst}
use Rattle.pdn_schema.specs.Models.{SchemaModel}
use Rattle.pdn_tree.specs.declared.node.Node.{Node, Node-F, fold-roll-Node}
use Rattle.pdn_tree.specs.declared.node.Node.TheFolds.{ind-Node, map-Node}
use Rattle.pdn_level.specs.declared.staged.Leaf.{Leaf}
use Rattle.pdn_level.specs.Slices.{slice_step, slices, Followed, followed_step, followed, linked}
use Rattle.pdn_level.specs.Levels.{Survey, survey_step, survey, leaf_of, leaves_step}

module _ {X : Type 0} (schema : SchemaModel) (leaf : ℕ → ℕ → X) (step : Node-F X → X) where
  abbrev Same : Node → Type 0
  Same n = (followed schema leaf step n).slices ≡ slices schema n

  layer : (y : Node-F ((n : Node) × Same n))
      → (followed_step schema leaf step (map-Node Node (Followed X) (followed schema leaf step) (map-Node ((n : Node) × Same n) Node (λ e. e.0) y))).slices
      ≡ slice_step schema (map-Node Node (List Bool) (slices schema) (map-Node ((n : Node) × Same n) Node (λ e. e.0) y))
  layer (Node-F.Scan table) = refl
  layer (Node-F.Filter child cond) = child.1
  layer (Node-F.Project child columns) = ap (λ (bs : List Bool). slice_step schema (Node-F.Project bs columns)) child.1
  layer (Node-F.Join left right on) = ap₂ (λ (bs cs : List Bool). linked bs cs on) left.1 right.1
  layer (Node-F.Group child keys having) = ap (λ (bs : List Bool). slice_step schema (Node-F.Group bs keys having)) child.1
  layer (Node-F.Count child) = refl
  layer (Node-F.Distinct child) = child.1
  layer (Node-F.Number child partition order) = ap (λ (bs : List Bool). slice_step schema (Node-F.Number bs partition order)) child.1
  layer (Node-F.Top child order limit) = ap (λ (bs : List Bool). slice_step schema (Node-F.Top bs order limit)) child.1

  pub followed_slices : (n : Node) → (followed schema leaf step n).slices ≡ slices schema n
  followed_slices = ind-Node Same (λ x y is.
      rw (fold-roll-Node (Followed X) (followed_step schema leaf step) x, fold-roll-Node (List Bool) (slice_step schema) x)
      (subst (λ (z : Node-F Node). (followed_step schema leaf step (map-Node Node (Followed X) (followed schema leaf step) z)).slices ≡ slice_step schema (map-Node Node (List Bool) (slices schema) z)) is (layer y)))

-- what is known of a tree traces its slice columns so
abbrev Surveyed : SchemaModel → Node → Type 0
Surveyed schema n = (survey schema n).track ≡ followed schema leaf_of leaves_step n

survey_layer : (schema : SchemaModel) (y : Node-F ((n : Node) × Surveyed schema n))
    → (survey_step schema (map-Node Node Survey (survey schema) (map-Node ((n : Node) × Surveyed schema n) Node (λ e. e.0) y))).track
    ≡ followed_step schema leaf_of leaves_step (map-Node Node (Followed (List Leaf)) (followed schema leaf_of leaves_step) (map-Node ((n : Node) × Surveyed schema n) Node (λ e. e.0) y))
survey_layer schema (Node-F.Scan table) = refl
survey_layer schema (Node-F.Filter child cond) = ap (λ (t : Followed (List Leaf)). followed_step schema leaf_of leaves_step (Node-F.Filter t cond)) child.1
survey_layer schema (Node-F.Project child columns) = ap (λ (t : Followed (List Leaf)). followed_step schema leaf_of leaves_step (Node-F.Project t columns)) child.1
survey_layer schema (Node-F.Join left right on) = ap₂ (λ (t u : Followed (List Leaf)). followed_step schema leaf_of leaves_step (Node-F.Join t u on)) left.1 right.1
survey_layer schema (Node-F.Group child keys having) = ap (λ (t : Followed (List Leaf)). followed_step schema leaf_of leaves_step (Node-F.Group t keys having)) child.1
survey_layer schema (Node-F.Count child) = ap (λ (t : Followed (List Leaf)). followed_step schema leaf_of leaves_step (Node-F.Count t)) child.1
survey_layer schema (Node-F.Distinct child) = ap (λ (t : Followed (List Leaf)). followed_step schema leaf_of leaves_step (Node-F.Distinct t)) child.1
survey_layer schema (Node-F.Number child partition order) = ap (λ (t : Followed (List Leaf)). followed_step schema leaf_of leaves_step (Node-F.Number t partition order)) child.1
survey_layer schema (Node-F.Top child order limit) = ap (λ (t : Followed (List Leaf)). followed_step schema leaf_of leaves_step (Node-F.Top t order limit)) child.1

pub survey_track : (schema : SchemaModel) (n : Node) → (survey schema n).track ≡ followed schema leaf_of leaves_step n
survey_track schema = ind-Node (Surveyed schema) (λ x y is.
    rw (fold-roll-Node Survey (survey_step schema) x, fold-roll-Node (Followed (List Leaf)) (followed_step schema leaf_of leaves_step) x)
    (subst (λ (z : Node-F Node). (survey_step schema (map-Node Node Survey (survey schema) z)).track ≡ followed_step schema leaf_of leaves_step (map-Node Node (Followed (List Leaf)) (followed schema leaf_of leaves_step) z)) is (survey_layer schema y)))
