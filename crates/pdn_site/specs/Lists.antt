-- The lists of a unit: how long each is, and how long the longest.
use Rattle.std.specs.Prelude.{ℕ, max}
use Rattle.pdn_schema.specs.Models.{SchemaModel}
use Rattle.pdn_tree.specs.declared.node.Node.{Node, out-Node}
use Rattle.pdn_tree.specs.declared.node.Node.TheOpen.{Node-F}
use Rattle.pdn_tree.specs.declared.node.Node.TheFolds.{map-Node}
use Rattle.pdn_level.specs.Padding.{Padding, leaf_padding, padding_step}
use Rattle.pdn_level.specs.Slices.{followed}

-- a list's padding, and the length of the longest list from the leaves up to it
pub record Sized : Type 0 where
  pub padding : Padding
  pub longest : ℕ

abbrev pub grown : ℕ → Padding → Sized
grown below padding = record { padding = padding; longest = max below padding.room }

abbrev pub sized_leaf : SchemaModel → ℕ → ℕ → ℕ → Sized
sized_leaf schema sites table column = grown 0 (leaf_padding schema sites table column)

abbrev pub sized_step : Node-F Sized → Sized
sized_step (Node-F.Scan table) = grown 0 (padding_step (Node-F.Scan table))
sized_step (Node-F.Filter child cond) = grown child.longest (padding_step (Node-F.Filter child.padding cond))
sized_step (Node-F.Project child columns) = grown child.longest (padding_step (Node-F.Project child.padding columns))
sized_step (Node-F.Join left right on) = grown (max left.longest right.longest) (padding_step (Node-F.Join left.padding right.padding on))
sized_step (Node-F.Group child keys having) = grown child.longest (padding_step (Node-F.Group child.padding keys having))
sized_step (Node-F.Count child) = grown child.longest (padding_step (Node-F.Count child.padding))
sized_step (Node-F.Distinct child) = grown child.longest (padding_step (Node-F.Distinct child.padding))
sized_step (Node-F.Number child partition order) = grown child.longest (padding_step (Node-F.Number child.padding partition order))
sized_step (Node-F.Top child order limit) = grown child.longest (padding_step (Node-F.Top child.padding order limit))

-- the lists of a node, where each tree that it reads has these
abbrev pub sized_over : Node → Sized → Sized
sized_over n lists = sized_step (map-Node Node Sized (λ m. lists) (out-Node n))

-- the lists of a tree in a unit, where a slice column is followed: of 2 sites in a secure unit, of 1 in a plain one
abbrev pub sized : SchemaModel → ℕ → Node → ℕ → Sized
sized schema sites n column = (followed schema (sized_leaf schema sites) sized_step n).at column
