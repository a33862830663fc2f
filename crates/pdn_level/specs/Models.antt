-- Segments as contracts see them.
use Rattle.std.specs.Prelude.{ℕ, Bool, List}
use Rattle.pdn_level.specs.declared.staged.Leaf.{Leaf}
use Rattle.pdn_level.specs.declared.staged.Level.{Level}

pub record SegmentModel : Type 0 where
  pub path : List ℕ
  pub leaves : List Leaf

-- the slice columns and the level of a tree
pub record Graded : Type 0 where
  pub slices : List Bool
  pub level : Level
