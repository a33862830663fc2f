-- Levels, and the segments of a tree with their leaves.
use Rattle.std.specs.Prelude.{ℕ, ◌&&◌, ◌||◌, not, Bool, true, false, cond, List, [], ◌∷◌, ◌++◌, suc}
use Rattle.std.specs.List.{list_any}
use Rattle.pdn_schema.specs.Models.{SchemaModel}
use Rattle.pdn_tree.specs.declared.node.Node.{Node, fold-Node}
use Rattle.pdn_tree.specs.declared.node.Node.TheOpen.{Node-F}
use Rattle.pdn_level.specs.Slices.{Followed, followed_step}
use Rattle.pdn_level.specs.declared.staged.Level.{Level}
use Rattle.pdn_level.specs.declared.staged.Level.TheVariants as level
use Rattle.pdn_level.specs.declared.staged.Leaf.{Leaf}
use Rattle.pdn_level.specs.Models.{SegmentModel, Graded}

-- ---- levels

abbrev pub is_secure : Level → Bool
is_secure level.Local = false
is_secure level.Sliced = false
is_secure level.Secure = true

-- where there are slice columns, and no node that is read is secure
abbrev pub sliced_if : List Bool → Bool → Level
sliced_if slices secure_below = cond (list_any (λ s. s) slices && not secure_below) level.Sliced level.Secure

-- a Filter or a Project
abbrev pub kept_level : List Bool → Level → Level
kept_level slices level.Local = level.Local
kept_level slices level.Sliced = sliced_if slices false
kept_level slices level.Secure = sliced_if slices true

-- a node's level, by its slice columns and the levels of what it reads
abbrev pub level_step : List Bool → Node-F Level → Level
level_step slices (Node-F.Scan table) = level.Local
level_step slices (Node-F.Filter child cond) = kept_level slices child
level_step slices (Node-F.Project child columns) = kept_level slices child
level_step slices (Node-F.Join left right on) = sliced_if slices (is_secure left || is_secure right)
level_step slices (Node-F.Group child keys having) = sliced_if slices (is_secure child)
level_step slices (Node-F.Count child) = sliced_if slices (is_secure child)
level_step slices (Node-F.Distinct child) = sliced_if slices (is_secure child)
level_step slices (Node-F.Number child partition order) = sliced_if slices (is_secure child)
level_step slices (Node-F.Top child order limit) = sliced_if slices (is_secure child)

-- ---- leaves

-- the leaf that reads a table, with the table's column that is traced
abbrev pub leaf_of : ℕ → ℕ → List Leaf
leaf_of table column = record { table = table; column = column } ∷ []

-- the leaves of a node, left to right
abbrev pub leaves_step : Node-F (List Leaf) → List Leaf
leaves_step (Node-F.Scan table) = []
leaves_step (Node-F.Filter child cond) = child
leaves_step (Node-F.Project child columns) = child
leaves_step (Node-F.Join left right on) = left ++ right
leaves_step (Node-F.Group child keys having) = child
leaves_step (Node-F.Count child) = child
leaves_step (Node-F.Distinct child) = child
leaves_step (Node-F.Number child partition order) = child
leaves_step (Node-F.Top child order limit) = child

-- ---- segments

-- the first slice column
abbrev pub first_slice : List Bool → ℕ
first_slice [] = 0
first_slice (s ∷ ss) = cond s 0 (suc (first_slice ss))

-- What is known of a tree: its slice columns with the leaves to which each is traced, its level, and its segments where it
-- stands at a path from the root.
pub record Survey : Type 0 where
  pub track : Followed (List Leaf)
  pub level : Level
  pub segments : List ℕ → List SegmentModel

-- a tree that is Sliced is one segment, whatever is below it; a Secure one has those below it
abbrev pub segments_at : Level → Followed (List Leaf) → List ℕ → List SegmentModel → List SegmentModel
segments_at level.Local track path below = []
segments_at level.Sliced track path below = record { path = path; leaves = track.at (first_slice track.slices) } ∷ []
segments_at level.Secure track path below = below

abbrev pub survey_at : Followed (List Leaf) → Level → (List ℕ → List SegmentModel) → Survey
survey_at track level below = record { track = track; level = level; segments = λ path. segments_at level track path (below path) }

-- the segments of what is read at this step of the way
abbrev pub below_at : ℕ → Survey → List ℕ → List SegmentModel
below_at way child path = child.segments (path ++ way ∷ [])

abbrev pub survey_over : Followed (List Leaf) → Node-F Level → (List ℕ → List SegmentModel) → Survey
survey_over track levels below = survey_at track (level_step track.slices levels) below

abbrev pub survey_step : SchemaModel → Node-F Survey → Survey
survey_step schema (Node-F.Scan table) = survey_over (followed_step schema leaf_of leaves_step (Node-F.Scan table)) (Node-F.Scan table) (λ path. [])
survey_step schema (Node-F.Filter child cond) = survey_over (followed_step schema leaf_of leaves_step (Node-F.Filter child.track cond)) (Node-F.Filter child.level cond) (below_at 0 child)
survey_step schema (Node-F.Project child columns) = survey_over (followed_step schema leaf_of leaves_step (Node-F.Project child.track columns)) (Node-F.Project child.level columns) (below_at 0 child)
survey_step schema (Node-F.Join left right on) = survey_over (followed_step schema leaf_of leaves_step (Node-F.Join left.track right.track on)) (Node-F.Join left.level right.level on) (λ path. below_at 0 left path ++ below_at 1 right path)
survey_step schema (Node-F.Group child keys having) = survey_over (followed_step schema leaf_of leaves_step (Node-F.Group child.track keys having)) (Node-F.Group child.level keys having) (below_at 0 child)
survey_step schema (Node-F.Count child) = survey_over (followed_step schema leaf_of leaves_step (Node-F.Count child.track)) (Node-F.Count child.level) (below_at 0 child)
survey_step schema (Node-F.Distinct child) = survey_over (followed_step schema leaf_of leaves_step (Node-F.Distinct child.track)) (Node-F.Distinct child.level) (below_at 0 child)
survey_step schema (Node-F.Number child partition order) = survey_over (followed_step schema leaf_of leaves_step (Node-F.Number child.track partition order)) (Node-F.Number child.level partition order) (below_at 0 child)
survey_step schema (Node-F.Top child order limit) = survey_over (followed_step schema leaf_of leaves_step (Node-F.Top child.track order limit)) (Node-F.Top child.level order limit) (below_at 0 child)

abbrev pub survey : SchemaModel → Node → Survey
survey schema = fold-Node Survey (survey_step schema)

-- the slice columns and the level of a tree
abbrev pub graded : SchemaModel → Node → Graded
graded schema n = record { slices = (survey schema n).track.slices; level = (survey schema n).level }

-- the level of a tree
abbrev pub level_of_node : SchemaModel → Node → Level
level_of_node schema n = (survey schema n).level

-- the leaves to which a slice column is traced
abbrev pub leaves_of : SchemaModel → Node → ℕ → List Leaf
leaves_of schema n column = (survey schema n).track.at column

-- the segments of a tree whose root stands at a path, in post-order
abbrev pub segments_of : SchemaModel → Node → List ℕ → List SegmentModel
segments_of schema n path = (survey schema n).segments path
