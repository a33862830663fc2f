-- What the circuits of units mean: the rows of their lists, over any words that satisfy their gates.
use Rattle.std.specs.Prelude.{◌≡◌, ℕ, ◌+◌, ◌*◌, ◌^◌, ◌≤◌, nat_lt, Bool, true, ◌&&◌, List, ◌++◌, length, map, slice_index, Option, Some, None}
use Rattle.std.specs.List.{list_all}
use Rattle.pdn_base.specs.declared.marks.Kind.{Kind}
use Rattle.pdn_base.specs.declared.site.Site.TheVariants.{A, B}
use Rattle.pdn_base.specs.declared.cond.Operand.{Operand}
use Rattle.pdn_base.specs.declared.cond.Operand.TheVariants as operand
use Rattle.pdn_base.specs.declared.cond.Cmp.{Cmp}
use Rattle.pdn_base.specs.declared.value.Value.{Value}
use Rattle.pdn_schema.specs.Models.{SchemaModel}
use Rattle.pdn_schema.specs.Rows.{AreValid, union}
use Rattle.pdn_tree.specs.Meaning.{table_of as rows_of}
use Rattle.pdn_tree.specs.Shapes.{kinds, shape}
use Rattle.pdn_level.specs.Links.{slice_at}
use Rattle.pdn_level.specs.Slices.{slices}
use Rattle.pdn_level.specs.Cutting.{mean_at}
use Rattle.pdn_tree.specs.declared.node.Node.{Node, fold-Node}
use Rattle.pdn_tree.specs.declared.node.Node.TheOpen.{Node-F}
use Rattle.pdn_base.specs.Operators.{Rows, SameRows}
use Rattle.pdn_circuit.specs.Gates.{InputWords}
use Rattle.pdn_circuit.specs.Plain.{Yields, Ends}
use Rattle.pdn_obl_rows.specs.Lists.{PaddedList, IsShaped, valid_rows}
use Rattle.pdn_obl_rows.specs.Encoding.{RowsAreOf, list_from, Stand}
use Rattle.pdn_site.specs.Laying.{Taken, list_words, with_words}
use Rattle.pdn_site.specs.Circuits.{table_kinds, leaf_list, unit_list, list_gates}
use Rattle.pdn_site.specs.Lists.{sized}
use Rattle.pdn_site.specs.SiteRows.{entered, unit_words}

-- a site's tables are valid, and their values are such as the code's types hold
pub record AreTables (schema : SchemaModel) (tables : List Rows) : Type 0 where
  pub valid : AreValid schema tables
  pub of : (table : ℕ) → RowsAreOf (table_kinds schema table) (rows_of tables table)

-- A list of these columns and this length, whose valid rows are these as a bag.
pub record Holds (words : List ℕ) (list : PaddedList) (columns : List Kind) (count : ℕ) (meant : Rows) : Type 0 where
  pub shaped : IsShaped list
  pub kinds : list.kinds ≡ columns
  pub len : list.len ≡ count
  pub rows : SameRows (valid_rows words list) meant
  pub are : RowsAreOf columns (valid_rows words list)

-- ---- numbers in a tree
abbrev pub is_number : Option ℕ → Bool
is_number None = true
is_number (Some n) = nat_lt n (2 ^ 32)

abbrev pub operand_number : Operand → Bool
operand_number (operand.Term t) = is_number t.plus
operand_number (operand.Int n) = nat_lt n (2 ^ 32)
operand_number (operand.Code c) = nat_lt c (2 ^ 64)

abbrev pub cmp_numbers : Cmp → Bool
cmp_numbers c = is_number c.left.plus && operand_number c.right

abbrev pub cond_numbers : List (List Cmp) → Bool
cond_numbers clauses = list_all (list_all cmp_numbers) clauses

abbrev pub numbers_step : Node-F Bool → Bool
numbers_step (Node-F.Scan table) = true
numbers_step (Node-F.Filter child cond) = child && cond_numbers cond
numbers_step (Node-F.Project child columns) = child
numbers_step (Node-F.Join left right on) = (left && right) && cond_numbers on
numbers_step (Node-F.Group child keys having) = child && is_number having
numbers_step (Node-F.Count child) = child
numbers_step (Node-F.Distinct child) = child
numbers_step (Node-F.Number child partition order) = child
numbers_step (Node-F.Top child order limit) = child && is_number limit

-- the numbers of a tree's conditions and limits have 32 bits, and its codes 64, as their types in the code do
abbrev pub numbers_fit : Node → Bool
numbers_fit = fold-Node Bool numbers_step

-- ---- a leaf of both sites
-- the words of one list of each site were taken
abbrev pub past_leaf : List Kind → ℕ → Taken → Taken
past_leaf kinds len taken = with_words B (list_words kinds len) (with_words A (list_words kinds len) taken)

-- both sites' rows, each entered as the site's next words
abbrev pub LeafMeans : Type 0
LeafMeans = (inputs : InputWords) (words : List ℕ) (kinds : List Kind) (len : ℕ) (a b : Rows) → RowsAreOf kinds a → RowsAreOf kinds b → length a ≤ len → length b ≤ len → (taken after : Taken) →
    Stand inputs.a taken.a (entered a kinds len) → Stand inputs.b taken.b (entered b kinds len) → (list : PaddedList) →
    Yields inputs words (leaf_list kinds len taken) (list, after) → Holds words list kinds (2 * len) (a ++ b) × (after ≡ past_leaf kinds len taken)

-- ---- a secure unit
-- so many words of A and of B were taken
abbrev pub past : ℕ → ℕ → Taken → Taken
past a b taken = record { a = taken.a + a; b = taken.b + b; given = taken.given; segments = taken.segments }

-- Where a tree that fits the schema is followed from one of its slice columns, and no list is too long: over both sites' words, the
-- list holds what the tree means over the union where its leaves are cut at the value, and has the length that was laid down.
abbrev pub UnitMeans : Type 0
UnitMeans = (schema : SchemaModel) (a b : List Rows) → AreTables schema a → AreTables schema b → (v : Value) (top : Node) (column : ℕ) → (shape schema top).sound ≡ true → numbers_fit top ≡ true → slice_at (slices schema top) column ≡ true →
    (sized schema 2 top column).longest ≤ 4096 → (inputs : InputWords) (words : List ℕ) → Ends words → (taken after : Taken) →
    Stand inputs.a taken.a (unit_words schema a v top column) → Stand inputs.b taken.b (unit_words schema b v top column) → (list : PaddedList) →
    Yields inputs words (unit_list schema v top column taken) (list, after) →
    Holds words list (kinds schema top) (sized schema 2 top column).padding.room (mean_at schema (union a b) v top column)
    × (after ≡ past (length (unit_words schema a v top column)) (length (unit_words schema b v top column)) taken)

-- ---- a unit's outputs
-- the words of a list's gates
abbrev pub words_out : List ℕ → PaddedList → List ℕ
words_out words list = map (slice_index words) (list_gates list)

-- Words that stand from a place on, as a list's gates gave them, are read as the same rows.
abbrev pub OutputMeans : Type 0
OutputMeans = (words : List ℕ) (list : PaddedList) → IsShaped list → (outputs : List ℕ) (first : ℕ) → Stand outputs first (words_out words list) →
    valid_rows outputs (list_from first list.kinds list.len) ≡ valid_rows words list
