-- What a site puts into a unit: a function of its own tables and of what is public.
use Rattle.std.specs.Prelude.{ℕ, ◌+◌, Bool, true, false, cond, List, [], ◌∷◌, ◌++◌, map, get_or}
use Rattle.std.specs.List.{flat_map}
use Rattle.pdn_base.specs.declared.marks.Kind.{Kind}
use Rattle.pdn_base.specs.declared.marks.Kind.TheVariants as kind
use Rattle.pdn_base.specs.declared.site.Site.{Site}
use Rattle.pdn_base.specs.declared.site.Site.TheVariants.{A, B}
use Rattle.pdn_base.specs.declared.value.Value.{Value}
use Rattle.pdn_base.specs.Operators.{Rows, listed}
use Rattle.pdn_schema.specs.Models.{SchemaModel, table_of}
use Rattle.pdn_obl_rows.specs.Encoding.{encoded}
use Rattle.pdn_tree.specs.declared.node.Node.{Node, fold-Node}
use Rattle.pdn_tree.specs.declared.node.Node.TheVariants as node
use Rattle.pdn_tree.specs.declared.node.Node.TheOpen.{Node-F}
use Rattle.pdn_tree.specs.Meaning.{mean_step}
use Rattle.pdn_tree.specs.Meaning.{table_of as rows_of}
use Rattle.pdn_tree.specs.Shapes.{kind_at, kinds}
use Rattle.pdn_level.specs.declared.staged.Level.{Level}
use Rattle.pdn_level.specs.declared.staged.Level.TheVariants as level
use Rattle.pdn_level.specs.Slices.{followed}
use Rattle.pdn_level.specs.Levels.{level_of_node}
use Rattle.pdn_level.specs.Cutting.{at, mean_at, slice_column}
use Rattle.pdn_site.specs.declared.unit.UnitKind.{UnitKind}
use Rattle.pdn_site.specs.declared.unit.UnitKind.TheVariants.{Plain, Secure, Root}
use Rattle.pdn_level.specs.Padding.{per_of}
use Rattle.pdn_site.specs.Circuits.{table_kinds, counted_kinds}

-- rows as they enter a circuit: in ascending order of all columns, from the first place on
abbrev pub entered : Rows → List Kind → ℕ → List ℕ
entered rows kinds len = encoded (listed [] rows) kinds len

-- ---- a secure unit

-- Of a tree in a unit: whether it is Local, its rows at this site with each leaf cut at the unit's value, and the words of its
-- leaves so far.
pub record Own : Type 0 where
  pub is_local : Bool
  pub kinds : List Kind
  pub len : ℕ
  pub rows : Rows
  pub words : List ℕ

abbrev pub own_leaf : SchemaModel → List Rows → Value → ℕ → ℕ → Own
own_leaf schema tables v table column = record {
  is_local = true;
  kinds = table_kinds schema table;
  len = per_of schema table column;
  rows = at column v (rows_of tables table);
  words = [];
}

-- the words of a tree's leaves, where a Local tree is one
abbrev pub words_below : Own → List ℕ
words_below own = cond own.is_local (entered own.rows own.kinds own.len) own.words

abbrev pub own_part : Own → List Kind → Rows → Own
own_part child kinds rows = record { is_local = child.is_local; kinds = kinds; len = child.len; rows = rows; words = child.words }

abbrev pub own_over : List ℕ → List Kind → Rows → Own
own_over words kinds rows = record { is_local = false; kinds = kinds; len = 0; rows = rows; words = words }

abbrev pub own_step : Node-F Own → Own
own_step (Node-F.Scan table) = own_over [] [] []
own_step (Node-F.Filter child cond) = own_part child child.kinds (mean_step (λ t. []) (Node-F.Filter child.rows cond))
own_step (Node-F.Project child columns) = own_part child (map (kind_at child.kinds) columns) (mean_step (λ t. []) (Node-F.Project child.rows columns))
own_step (Node-F.Join left right on) = own_over (words_below left ++ words_below right) (left.kinds ++ right.kinds) (mean_step (λ t. []) (Node-F.Join left.rows right.rows on))
own_step (Node-F.Group child keys having) = own_over (words_below child) (counted_kinds child.kinds keys) (mean_step (λ t. []) (Node-F.Group child.rows keys having))
own_step (Node-F.Count child) = own_over (words_below child) (kind.Int ∷ []) (mean_step (λ t. []) (Node-F.Count child.rows))
own_step (Node-F.Distinct child) = own_over (words_below child) child.kinds (mean_step (λ t. []) (Node-F.Distinct child.rows))
own_step (Node-F.Number child partition order) = own_over (words_below child) (child.kinds ++ kind.Int ∷ []) (mean_step (λ t. []) (Node-F.Number child.rows partition order))
own_step (Node-F.Top child order limit) = own_over (words_below child) child.kinds (mean_step (λ t. []) (Node-F.Top child.rows order limit))

-- a site's words in the secure unit of this value, leaf by leaf
abbrev pub unit_words : SchemaModel → List Rows → Value → Node → ℕ → List ℕ
unit_words schema tables v top column = let own : Own = (followed schema (own_leaf schema tables v) own_step top).at column in words_below own

-- a plain unit's rows: what its segment means at its value over the site's own rows
abbrev pub plain_rows : SchemaModel → List Rows → Value → Node → List (List Value)
plain_rows schema tables v top = mean_at schema (rows_of tables) v top (slice_column schema top)

-- ---- the root

abbrev pub is_of : Site → UnitKind → Bool
is_of A (Plain A) = true
is_of A (Plain B) = false
is_of B (Plain A) = false
is_of B (Plain B) = true
is_of site Secure = false
is_of site Root = false

-- a unit of a segment as its site reads it
pub record Slice : Type 0 where
  pub kind : UnitKind
  pub value : Value
  pub len : ℕ

-- a plain unit of this site enters with its rows; no other has words of its own here
abbrev pub slice_words : Site → SchemaModel → List Rows → Node → Slice → List ℕ
slice_words site schema tables top slice = cond (is_of site slice.kind) (entered (plain_rows schema tables slice.value top) (kinds schema top) slice.len) []

-- a site's words of the leaves and segments of a tree in the root, where segment i comes next, and which comes after
pub record OwnRoot : Type 0 where
  pub words : List ℕ
  pub segments : ℕ

pub record RootRows : Type 0 where
  pub tree : Node
  pub rows : Rows
  pub len : ℕ
  pub words : ℕ → OwnRoot

abbrev pub root_by : Level → Site → SchemaModel → List Rows → List (List Slice) → Node → Rows → ℕ → (ℕ → OwnRoot) → ℕ → OwnRoot
root_by level.Local site schema tables slices tree rows len below i = record { words = entered rows (kinds schema tree) len; segments = i }
root_by level.Sliced site schema tables slices tree rows len below i = record { words = flat_map (slice_words site schema tables tree) (get_or slices i []); segments = i + 1 }
root_by level.Secure site schema tables slices tree rows len below i = below i

abbrev pub root_own : Site → SchemaModel → List Rows → List (List Slice) → Node → Rows → ℕ → (ℕ → OwnRoot) → RootRows
root_own site schema tables slices tree rows len below = record { tree = tree; rows = rows; len = len; words = root_by (level_of_node schema tree) site schema tables slices tree rows len below }

abbrev pub no_words : ℕ → OwnRoot
no_words i = record { words = []; segments = i }

abbrev pub words_of_both : (ℕ → OwnRoot) → (ℕ → OwnRoot) → ℕ → OwnRoot
words_of_both left right i =
    let l : OwnRoot = left i in
    let r : OwnRoot = right l.segments in
    record { words = l.words ++ r.words; segments = r.segments }

abbrev pub root_words_step : Site → SchemaModel → List Rows → List (List Slice) → Node-F RootRows → RootRows
root_words_step site schema tables slices (Node-F.Scan table) = root_own site schema tables slices (node.Scan table) (rows_of tables table) (table_of schema table).rows no_words
root_words_step site schema tables slices (Node-F.Filter child cond) = root_own site schema tables slices (node.Filter child.tree cond) (mean_step (λ t. []) (Node-F.Filter child.rows cond)) child.len child.words
root_words_step site schema tables slices (Node-F.Project child columns) = root_own site schema tables slices (node.Project child.tree columns) (mean_step (λ t. []) (Node-F.Project child.rows columns)) child.len child.words
root_words_step site schema tables slices (Node-F.Join left right on) = root_own site schema tables slices (node.Join left.tree right.tree on) [] 0 (words_of_both left.words right.words)
root_words_step site schema tables slices (Node-F.Group child keys having) = root_own site schema tables slices (node.Group child.tree keys having) [] 0 child.words
root_words_step site schema tables slices (Node-F.Count child) = root_own site schema tables slices (node.Count child.tree) [] 0 child.words
root_words_step site schema tables slices (Node-F.Distinct child) = root_own site schema tables slices (node.Distinct child.tree) [] 0 child.words
root_words_step site schema tables slices (Node-F.Number child partition order) = root_own site schema tables slices (node.Number child.tree partition order) [] 0 child.words
root_words_step site schema tables slices (Node-F.Top child order limit) = root_own site schema tables slices (node.Top child.tree order limit) [] 0 child.words

-- a site's words in the root, leaf by leaf and segment by segment
abbrev pub root_words : Site → SchemaModel → List Rows → List (List Slice) → Node → List ℕ
root_words site schema tables slices root =
    let own : RootRows = fold-Node RootRows (root_words_step site schema tables slices) root in
    let all : OwnRoot = own.words 0 in
    all.words
