-- The segments of a tree by its level.
use Rattle.std.proofs.Common.{◌≡◌, ℕ, List, [], ◌∷◌, ◌++◌, refl, ap, ◌∙◌}
use Rattle.pdn_schema.specs.Models.{SchemaModel}
use Rattle.pdn_tree.specs.declared.node.Node.{Node, Node-F, fold-roll-Node}
use Rattle.pdn_tree.specs.declared.node.Node.TheFolds.{ind-Node, map-Node}
use Rattle.pdn_level.specs.declared.staged.Level.{Level}
use Rattle.pdn_level.specs.declared.staged.Level.TheVariants as level
use Rattle.pdn_level.specs.Models.{SegmentModel}
use Rattle.pdn_level.specs.Levels.{Survey, survey, survey_step, segments_at, below_at, first_slice}

-- the segments of a survey are those of its level, over some that are below
abbrev Over : Survey → Type 0
Over s = (below : List ℕ → List SegmentModel) × ((path : List ℕ) → s.segments path ≡ segments_at s.level s.track path (below path))

step_over : (schema : SchemaModel) (y : Node-F Survey) → Over (survey_step schema y)
step_over schema (Node-F.Scan table) = ((λ path. []), λ path. refl)
step_over schema (Node-F.Filter child condition) = (below_at 0 child, λ path. refl)
step_over schema (Node-F.Project child columns) = (below_at 0 child, λ path. refl)
step_over schema (Node-F.Join left right on) = ((λ path. below_at 0 left path ++ below_at 1 right path), λ path. refl)
step_over schema (Node-F.Group child keys having) = (below_at 0 child, λ path. refl)
step_over schema (Node-F.Count child) = (below_at 0 child, λ path. refl)
step_over schema (Node-F.Distinct child) = (below_at 0 child, λ path. refl)
step_over schema (Node-F.Number child partition order) = (below_at 0 child, λ path. refl)
step_over schema (Node-F.Top child order limit) = (below_at 0 child, λ path. refl)

pub is_over : (schema : SchemaModel) (n : Node) → Over (survey schema n)
is_over schema = ind-Node (λ n. Over (survey schema n)) (λ x y is. rw (fold-roll-Node Survey (survey_step schema) x) (step_over schema (map-Node Node Survey (survey schema) x)))

pub local_segments : (schema : SchemaModel) (n : Node) (path : List ℕ) → (survey schema n).level ≡ level.Local → (survey schema n).segments path ≡ []
local_segments schema n path h =
    let o = is_over schema n in
    o.1 path ∙ ap (λ (l : Level). segments_at l (survey schema n).track path (o.0 path)) h

pub sliced_segments : (schema : SchemaModel) (n : Node) (path : List ℕ) → (survey schema n).level ≡ level.Sliced
    → (survey schema n).segments path ≡ record { path = path; leaves = (survey schema n).track.at (first_slice (survey schema n).track.slices) } ∷ []
sliced_segments schema n path h =
    let o = is_over schema n in
    o.1 path ∙ ap (λ (l : Level). segments_at l (survey schema n).track path (o.0 path)) h
