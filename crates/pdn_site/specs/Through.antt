-- What is made of a tree along leaves, left to right: each table that it reads is read at the column of the next leaf.
use Rattle.std.specs.Prelude.{ℕ, ◌+◌, ◌<◌, ◌≤◌, ◌≡◌, List, [], ◌∷◌, drop, Option, Some, None}
use Rattle.pdn_schema.specs.Models.{SchemaModel}
use Rattle.pdn_tree.specs.declared.node.Node.{Node, fold-Node}
use Rattle.pdn_tree.specs.declared.node.Node.TheOpen.{Node-F}
use Rattle.pdn_level.specs.declared.staged.Leaf.{Leaf}
use Rattle.pdn_site.specs.Lists.{Sized, sized_leaf, sized_step}

-- of a tree, how many tables it reads, and what is made of it
pub record Through (X : Type 0) : Type 0 where
  pub scans : ℕ
  pub at : List Leaf → X

abbrev pub leaf_column : List Leaf → ℕ
leaf_column [] = 0
leaf_column (leaf ∷ leaves) = leaf.column

abbrev pub through_step : {X : Type 0} → (ℕ → ℕ → X) → (Node-F X → X) → Node-F (Through X) → Through X
through_step leaf step (Node-F.Scan table) = record { scans = 1; at = λ leaves. leaf table (leaf_column leaves) }
through_step leaf step (Node-F.Filter child cond) = record { scans = child.scans; at = λ leaves. step (Node-F.Filter (child.at leaves) cond) }
through_step leaf step (Node-F.Project child columns) = record { scans = child.scans; at = λ leaves. step (Node-F.Project (child.at leaves) columns) }
through_step leaf step (Node-F.Join left right on) = record { scans = left.scans + right.scans; at = λ leaves. step (Node-F.Join (left.at leaves) (right.at (drop left.scans leaves)) on) }
through_step leaf step (Node-F.Group child keys having) = record { scans = child.scans; at = λ leaves. step (Node-F.Group (child.at leaves) keys having) }
through_step leaf step (Node-F.Count child) = record { scans = child.scans; at = λ leaves. step (Node-F.Count (child.at leaves)) }
through_step leaf step (Node-F.Distinct child) = record { scans = child.scans; at = λ leaves. step (Node-F.Distinct (child.at leaves)) }
through_step leaf step (Node-F.Number child partition order) = record { scans = child.scans; at = λ leaves. step (Node-F.Number (child.at leaves) partition order) }
through_step leaf step (Node-F.Top child order limit) = record { scans = child.scans; at = λ leaves. step (Node-F.Top (child.at leaves) order limit) }

abbrev pub through : {X : Type 0} → (ℕ → ℕ → X) → (Node-F X → X) → Node → Through X
through {X} leaf step = fold-Node (Through X) (through_step leaf step)

-- the lists of a unit
abbrev pub sized_through : SchemaModel → ℕ → Node → List Leaf → Sized
sized_through schema sites n leaves = (through (sized_leaf schema sites) sized_step n).at leaves

-- lists that were sized, or not where one has more than 4096 rows
abbrev pub IsSized : Sized → Option Sized → Type 0
IsSized lists None = 4096 < lists.longest
IsSized lists (Some found) = (found ≡ lists) × (lists.longest ≤ 4096)
