-- A tree whose leaves read only the rows that have a value in a column.
use Rattle.std.specs.Prelude.{ℕ, ◌+◌, List, [], ◌∷◌, drop, None}
use Rattle.pdn_base.specs.declared.value.Value.{Value}
use Rattle.pdn_base.specs.declared.value.Value.TheVariants as value
use Rattle.pdn_base.specs.declared.cond.Op.TheVariants as op
use Rattle.pdn_base.specs.declared.cond.Operand.{Operand}
use Rattle.pdn_base.specs.declared.cond.Operand.TheVariants as operand
use Rattle.pdn_base.specs.declared.cond.Cmp.{Cmp}
use Rattle.pdn_tree.specs.declared.node.Node.{Node, fold-Node, out-Node, roll-Node}
use Rattle.pdn_tree.specs.declared.node.Node.TheVariants as node
use Rattle.pdn_tree.specs.declared.node.Node.TheOpen.{Node-F}
use Rattle.pdn_tree.specs.declared.node.Node.TheFolds.{map-Node}
use Rattle.pdn_level.specs.declared.staged.Leaf.{Leaf}

abbrev pub constant : Value → Operand
constant (value.Int n) = operand.Int n
constant (value.Code c) = operand.Code c

-- the condition that a column has a value
abbrev pub has_value : ℕ → Value → List (List Cmp)
has_value column v = (record { left = record { column = column; plus = None }; op = op.Eq; right = constant v } ∷ []) ∷ []

abbrev pub narrowed_scan : Value → ℕ → List Leaf → Node
narrowed_scan v table [] = node.Scan table
narrowed_scan v table (leaf ∷ leaves) = node.Filter (node.Scan table) (has_value leaf.column v)

-- of a tree, how many tables it reads, and the tree that reads them through leaves, left to right
pub record Narrowing : Type 0 where
  pub scans : ℕ
  pub tree : List Leaf → Node

abbrev pub narrowing_step : Value → Node-F Narrowing → Narrowing
narrowing_step v (Node-F.Scan table) = record { scans = 1; tree = narrowed_scan v table }
narrowing_step v (Node-F.Filter child cond) = record { scans = child.scans; tree = λ leaves. node.Filter (child.tree leaves) cond }
narrowing_step v (Node-F.Project child columns) = record { scans = child.scans; tree = λ leaves. node.Project (child.tree leaves) columns }
narrowing_step v (Node-F.Join left right on) = record { scans = left.scans + right.scans; tree = λ leaves. node.Join (left.tree leaves) (right.tree (drop left.scans leaves)) on }
narrowing_step v (Node-F.Group child keys having) = record { scans = child.scans; tree = λ leaves. node.Group (child.tree leaves) keys having }
narrowing_step v (Node-F.Count child) = record { scans = child.scans; tree = λ leaves. node.Count (child.tree leaves) }
narrowing_step v (Node-F.Distinct child) = record { scans = child.scans; tree = λ leaves. node.Distinct (child.tree leaves) }
narrowing_step v (Node-F.Number child partition order) = record { scans = child.scans; tree = λ leaves. node.Number (child.tree leaves) partition order }
narrowing_step v (Node-F.Top child order limit) = record { scans = child.scans; tree = λ leaves. node.Top (child.tree leaves) order limit }

abbrev pub narrowing : Value → Node → Narrowing
narrowing v = fold-Node Narrowing (narrowing_step v)

-- how many tables a tree reads
abbrev pub scans : Value → Node → ℕ
scans v n = (narrowing v n).scans

-- the tree in which each Scan that has a leaf, left to right, gives only the rows with the value in the leaf's column
abbrev pub narrowed : Value → Node → List Leaf → Node
narrowed v n leaves = (narrowing v n).tree leaves

-- a node of the same kind, that reads this tree
abbrev pub over : Node → Node → Node
over n child = roll-Node (map-Node Node Node (λ m. child) (out-Node n))
