-- The slice columns of a tree, and how one of them is followed down to the tables.
use Rattle.std.specs.Prelude.{ℕ, ◌+◌, ◌&&◌, Bool, false, List, [], ◌∷◌, ◌++◌, map, length, get_or}
use Rattle.std.specs.List.{list_any, range_with_len}
use Rattle.pdn_base.specs.declared.cond.Cmp.{Cmp}
use Rattle.pdn_schema.specs.Models.{SchemaModel}
use Rattle.pdn_tree.specs.declared.node.Node.{Node, fold-Node}
use Rattle.pdn_tree.specs.declared.node.Node.TheOpen.{Node-F}
use Rattle.pdn_tree.specs.Shapes.{is_public, table_columns}
use Rattle.pdn_tree.specs.Columns.{has}
use Rattle.pdn_level.specs.Links.{slice_at, links, link_at, names_column}

-- the columns of the joined row that some clause links
abbrev pub linked : List Bool → List Bool → List (List Cmp) → List Bool
linked left right on = map (λ s. list_any (names_column (length left) s) (links left right on)) (range_with_len 0 (length left + length right))

-- the slice columns that are among a partition
abbrev pub among : List ℕ → List Bool → List Bool
among partition child = map (λ s. has partition s && slice_at child s) (range_with_len 0 (length child))

-- For each column that a node gives, whether it is a slice column: of a table, a public one; of a Filter or a Project, one of
-- what it reads; of a Join, one that a clause links; of a Group, one among its keys; of a Number, one among its partition.
abbrev pub slice_step : SchemaModel → Node-F (List Bool) → List Bool
slice_step schema (Node-F.Scan table) = map (λ c. is_public c.mark) (table_columns schema table)
slice_step schema (Node-F.Filter child cond) = child
slice_step schema (Node-F.Project child columns) = map (slice_at child) columns
slice_step schema (Node-F.Join left right on) = linked left right on
slice_step schema (Node-F.Group child keys having) = map (slice_at child) keys ++ false ∷ []
slice_step schema (Node-F.Count child) = false ∷ []
slice_step schema (Node-F.Distinct child) = child
slice_step schema (Node-F.Number child partition order) = among partition child ++ false ∷ []
slice_step schema (Node-F.Top child order limit) = map (λ s. false) child

-- the slice columns of a tree
abbrev pub slices : SchemaModel → Node → List Bool
slices schema = fold-Node (List Bool) (slice_step schema)

-- What is made of a tree when one of its slice columns is followed: from the column of a table that it comes to, and from
-- what is made of what each node reads.
pub record Followed (X : Type 0) : Type 0 where
  pub slices : List Bool
  pub at : ℕ → X

-- A slice column is the same one of what a Filter, a Distinct or a Number reads; of a Project or a Group the column that it
-- names there; of a Join the two columns of the first clause that links it.
abbrev pub followed_step : {X : Type 0} → SchemaModel → (ℕ → ℕ → X) → (Node-F X → X) → Node-F (Followed X) → Followed X
followed_step schema leaf step (Node-F.Scan table) = record { slices = slice_step schema (Node-F.Scan table); at = λ s. leaf table s }
followed_step schema leaf step (Node-F.Filter child cond) = record { slices = slice_step schema (Node-F.Filter child.slices cond); at = λ s. step (Node-F.Filter (child.at s) cond) }
followed_step schema leaf step (Node-F.Project child columns) = record { slices = slice_step schema (Node-F.Project child.slices columns); at = λ s. step (Node-F.Project (child.at (get_or columns s 0)) columns) }
followed_step schema leaf step (Node-F.Join left right on) = record {
  slices = slice_step schema (Node-F.Join left.slices right.slices on);
  at = λ s. step (Node-F.Join (left.at (link_at left.slices right.slices on s).left) (right.at (link_at left.slices right.slices on s).right) on);
}
followed_step schema leaf step (Node-F.Group child keys having) = record { slices = slice_step schema (Node-F.Group child.slices keys having); at = λ s. step (Node-F.Group (child.at (get_or keys s 0)) keys having) }
followed_step schema leaf step (Node-F.Count child) = record { slices = slice_step schema (Node-F.Count child.slices); at = λ s. step (Node-F.Count (child.at s)) }
followed_step schema leaf step (Node-F.Distinct child) = record { slices = slice_step schema (Node-F.Distinct child.slices); at = λ s. step (Node-F.Distinct (child.at s)) }
followed_step schema leaf step (Node-F.Number child partition order) = record { slices = slice_step schema (Node-F.Number child.slices partition order); at = λ s. step (Node-F.Number (child.at s) partition order) }
followed_step schema leaf step (Node-F.Top child order limit) = record { slices = slice_step schema (Node-F.Top child.slices order limit); at = λ s. step (Node-F.Top (child.at s) order limit) }

abbrev pub followed : {X : Type 0} → SchemaModel → (ℕ → ℕ → X) → (Node-F X → X) → Node → Followed X
followed {X} schema leaf step = fold-Node (Followed X) (followed_step schema leaf step)
