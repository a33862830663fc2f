-- A site's words in a secure unit, by the leaves of its segment as they come.
use Rattle.std.specs.Prelude.{ℕ, Bool, true, false, cond, List, [], ◌∷◌, ◌++◌, drop}
use Rattle.pdn_base.specs.declared.value.Value.{Value}
use Rattle.pdn_base.specs.Operators.{Rows}
use Rattle.pdn_schema.specs.Models.{SchemaModel}
use Rattle.pdn_tree.specs.declared.node.Node.{Node, fold-Node}
use Rattle.pdn_tree.specs.declared.node.Node.TheOpen.{Node-F}
use Rattle.pdn_tree.specs.Meaning.{mean}
use Rattle.pdn_tree.specs.Meaning.{table_of as rows_of}
use Rattle.pdn_tree.specs.Shapes.{kinds}
use Rattle.pdn_level.specs.declared.staged.Leaf.{Leaf}
use Rattle.pdn_level.specs.Padding.{per_of}
use Rattle.pdn_site.specs.Narrowing.{Narrowing, narrowing_step}
use Rattle.pdn_site.specs.SiteRows.{entered}

-- a site's rows of the first leaf's table, for which there is room
abbrev pub first_per : SchemaModel → List Leaf → ℕ
first_per schema [] = 0
first_per schema (leaf ∷ leaves) = per_of schema leaf.table leaf.column

-- a leaf's words: its rows through its table's leaf
abbrev pub leaf_words : SchemaModel → List Rows → Node → List Leaf → List ℕ
leaf_words schema tables tree leaves = entered (mean (rows_of tables) tree) (kinds schema tree) (first_per schema leaves)

abbrev pub local_step : Node-F Bool → Bool
local_step (Node-F.Scan table) = true
local_step (Node-F.Filter child condition) = child
local_step (Node-F.Project child columns) = child
local_step (Node-F.Join left right on) = false
local_step (Node-F.Group child keys having) = false
local_step (Node-F.Count child) = false
local_step (Node-F.Distinct child) = false
local_step (Node-F.Number child partition order) = false
local_step (Node-F.Top child order limit) = false

-- whether a tree is of Scans, Filters and Projects alone
abbrev pub is_local : Node → Bool
is_local = fold-Node Bool local_step

-- of a tree, how many tables it reads, its narrowing, and its words; where it is Local they are one leaf's
pub record Entering : Type 0 where
  pub scans : ℕ
  pub is_local : Bool
  pub tree : List Leaf → Node
  pub words : List Leaf → List ℕ

module _ (schema : SchemaModel) (tables : List Rows) (v : Value) where
  abbrev pub entering_of : Narrowing → Bool → (List Leaf → List ℕ) → Entering
  entering_of narrowing local below = record { scans = narrowing.scans; is_local = local; tree = narrowing.tree; words = λ leaves. cond local (leaf_words schema tables (narrowing.tree leaves) leaves) (below leaves) }

  abbrev pub narrowing_of : Entering → Narrowing
  narrowing_of e = record { scans = e.scans; tree = e.tree }

  abbrev pub entering_step : Node-F Entering → Entering
  entering_step (Node-F.Scan table) = entering_of (narrowing_step v (Node-F.Scan table)) true (λ leaves. [])
  entering_step (Node-F.Filter child condition) = entering_of (narrowing_step v (Node-F.Filter (narrowing_of child) condition)) child.is_local child.words
  entering_step (Node-F.Project child columns) = entering_of (narrowing_step v (Node-F.Project (narrowing_of child) columns)) child.is_local child.words
  entering_step (Node-F.Join left right on) = entering_of (narrowing_step v (Node-F.Join (narrowing_of left) (narrowing_of right) on)) false (λ leaves. left.words leaves ++ right.words (drop left.scans leaves))
  entering_step (Node-F.Group child keys having) = entering_of (narrowing_step v (Node-F.Group (narrowing_of child) keys having)) false child.words
  entering_step (Node-F.Count child) = entering_of (narrowing_step v (Node-F.Count (narrowing_of child))) false child.words
  entering_step (Node-F.Distinct child) = entering_of (narrowing_step v (Node-F.Distinct (narrowing_of child))) false child.words
  entering_step (Node-F.Number child partition order) = entering_of (narrowing_step v (Node-F.Number (narrowing_of child) partition order)) false child.words
  entering_step (Node-F.Top child order limit) = entering_of (narrowing_step v (Node-F.Top (narrowing_of child) order limit)) false child.words

  abbrev pub entering : Node → Entering
  entering = fold-Node Entering entering_step

  -- the words of a tree's leaves
  abbrev pub entered_words : Node → List Leaf → List ℕ
  entered_words n leaves = (entering n).words leaves
