-- What a query as written means, without a plan.
use Rattle.std.specs.Prelude.{◌≡◌, codes, ℕ, suc, ◌+◌, ◌==◌, ◌&&◌, Bool, true, false, cond, List, [], ◌∷◌, ◌++◌, map, filter, length, count_by, Option, Some, None, find}
use Rattle.std.specs.List.{list_any, list_all, range_with_len, flat_map, AllByRecursion}
use Rattle.std.specs.Ordering.{is_lt, ordering_then}
use Rattle.std.specs.Str.{bytes_eq}
use Rattle.std.proofs.Common.{Ordering, Equal}
use Rattle.pdn_base.specs.declared.value.Value.{Value}
use Rattle.pdn_base.specs.declared.value.Value.TheVariants as value
use Rattle.pdn_base.specs.declared.order.Key.{Key}
use Rattle.pdn_base.specs.Values.{value_cmp, cells_cmp, same_row, cell, cut, directed}
use Rattle.pdn_base.specs.Conditions.{plus, compares}
use Rattle.pdn_base.specs.Bags.{pairs, distinct}
use Rattle.pdn_base.specs.Operators.{joined, allows, distinct_rows, top_rows}
use Rattle.pdn_schema.specs.Models.{TableModel, SchemaModel}
use Rattle.pdn_sql.specs.declared.query.Name.{Name}
use Rattle.pdn_sql.specs.declared.query.Col.{Col}
use Rattle.pdn_sql.specs.declared.query.SqlTerm.{SqlTerm}
use Rattle.pdn_sql.specs.declared.query.SqlOperand.{SqlOperand}
use Rattle.pdn_sql.specs.declared.query.SqlOperand.TheVariants as written
use Rattle.pdn_sql.specs.declared.query.SqlCmp.{SqlCmp}
use Rattle.pdn_sql.specs.declared.query.SqlClause.{SqlClause}
use Rattle.pdn_sql.specs.declared.query.Source.{Source}
use Rattle.pdn_sql.specs.declared.query.OrderCol.{OrderCol}
use Rattle.pdn_sql.specs.declared.query.OrderName.{OrderName}
use Rattle.pdn_sql.specs.declared.query.What.{What}
use Rattle.pdn_sql.specs.declared.query.What.TheVariants as what
use Rattle.pdn_sql.specs.declared.query.Item.{Item}
use Rattle.pdn_sql.specs.declared.query.Block.{Block}
use Rattle.pdn_sql.specs.declared.query.Named.{Named}
use Rattle.pdn_sql.specs.declared.query.Query.{Query}
use Rattle.pdn_tree.specs.Meaning.{Rows}
use Rattle.pdn_tree.specs.Columns.{Wide}

-- ---- names

-- a column in the row of all sources: its source's name in the block, and its own
pub record Title : Type 0 where
  pub of : List ℕ
  pub name : List ℕ

abbrev pub of_means : Option Name → List ℕ → Bool
of_means None alias = true
of_means (Some n) alias = bytes_eq n.text alias

abbrev pub means_title : Col → Title → Bool
means_title col t = of_means col.of t.of && bytes_eq col.name.text t.name

-- where the column that is meant stands
abbrev pub title_place : List Title → Col → ℕ
title_place [] col = 0
title_place (t ∷ ts) col = cond (means_title col t) 0 (suc (title_place ts col))

-- ---- conditions

abbrev pub sql_value : List Title → List Value → SqlTerm → Value
sql_value titles row t = plus t.plus (cell row (title_place titles t.col))

abbrev pub right_value : List Title → List Value → SqlOperand → Value
right_value titles row (written.Term t) = sql_value titles row t
right_value titles row (written.Int n) = value.Int n
right_value titles row (written.Code c) = value.Code c

abbrev pub sql_true : List Title → List Value → SqlCmp → Bool
sql_true titles row c = compares c.op (sql_value titles row c.left) (right_value titles row c.right)

-- every clause has a true comparison
abbrev pub all_true : List Title → List Value → List SqlClause → Bool
all_true titles row clauses = list_all (λ clause. list_any (sql_true titles row) clause.any) clauses

-- ---- sources

-- rows, with their columns' names
pub record NamedRows : Type 0 where
  pub columns : List (List ℕ)
  pub rows : Rows

-- an earlier block of WITH, by what it means
pub record Known : Type 0 where
  pub name : List ℕ
  pub gives : NamedRows

abbrev pub table_rows : (ℕ → Rows) → ℕ → List TableModel → List ℕ → NamedRows
table_rows tables at [] name = record { columns = []; rows = [] }
table_rows tables at (t ∷ ts) name = cond (bytes_eq name t.name) (record { columns = map (λ c. c.name) t.columns; rows = tables at }) (table_rows tables (suc at) ts name)

abbrev pub known_or : Option Known → NamedRows → NamedRows
known_or None next = next
known_or (Some k) next = k.gives

-- an earlier block of WITH, or a table
abbrev pub stands_for : SchemaModel → (ℕ → Rows) → List Known → List ℕ → NamedRows
stands_for schema tables known name = known_or (find (λ k. bytes_eq name k.name) known) (table_rows tables 0 schema.tables name)

-- a source: its columns by their names in the block, its rows, and its ON
pub record Standing : Type 0 where
  pub titles : List Title
  pub rows : Rows
  pub on : List SqlClause

abbrev pub titled : List ℕ → List (List ℕ) → List Title
titled alias columns = map (λ n. record { of = alias; name = n }) columns

abbrev pub standing_of : List ℕ → NamedRows → List SqlClause → Standing
standing_of alias n on = record { titles = titled alias n.columns; rows = n.rows; on = on }

-- the name by which a source is known in its block
abbrev pub known_as : Option Name → Name → List ℕ
known_as (Some alias) name = alias.text
known_as None name = name.text

abbrev pub standing : SchemaModel → (ℕ → Rows) → List Known → Source → Standing
standing schema tables known s = standing_of (known_as s.alias s.name) (stands_for schema tables known s.name.text) s.on

-- all sources, side by side
abbrev pub product : Rows → List Standing → Rows
product rows [] = rows
product rows (s ∷ ss) = product (pairs joined rows s.rows) ss

abbrev pub all_titles : List Standing → List Title
all_titles ss = flat_map (λ s. s.titles) ss

-- every ON holds, by the names of the sources up to it
abbrev pub ons_true : List Title → List Value → List Standing → Bool
ons_true before row [] = true
ons_true before row (s ∷ ss) = all_true (before ++ s.titles) row s.on && ons_true (before ++ s.titles) row ss

-- the rows of the product of which every ON and every WHERE clause is true
abbrev pub chosen_rows : List Standing → List SqlClause → Rows
chosen_rows ss asked = filter (λ row. ons_true [] row ss && all_true (all_titles ss) row asked) (product ([] ∷ []) ss)

-- ---- what a block makes of the rows chosen

-- what the items of a block are read off: a row, and the number that a COUNT or a ROW_NUMBER shows beside it
pub record Entry : Type 0 where
  pub row : List Value
  pub number : ℕ

-- the rows x and y have equal values in these columns; `at` is where a column stands
abbrev pub agree : (Col → ℕ) → List Col → List Value → List Value → Bool
agree at cols x y = same_row (cut (map at cols) x) (cut (map at cols) y)

-- GROUP BY: the first row of each group whose size HAVING allows, and that size
abbrev pub grouped : (List Value → List Value → Bool) → Option ℕ → Rows → List Entry
grouped same having rows =
    let size : List Value → ℕ = λ row. count_by (same row) rows in
    map (λ row. record { row = row; number = size row }) (filter (λ row. allows having (size row)) (distinct same rows))

-- COUNT(*) of all rows: one entry
abbrev pub counted : Rows → List Entry
counted rows = record { row = []; number = length rows } ∷ []

-- a ROW_NUMBER's window
pub record Window : Type 0 where
  pub partition : List Col
  pub order : List OrderCol

-- by the window's columns, first to last, each in its direction
abbrev pub window_cmp : (Col → ℕ) → List OrderCol → List Value → List Value → Ordering
window_cmp at [] x y = Equal
window_cmp at (o ∷ os) x y = ordering_then (directed o.down value_cmp (cell x (at o.col)) (cell y (at o.col))) (window_cmp at os x y)

-- y stands before x: by the window's order, and then by the columns that the block names, from left to right
abbrev pub stands_before : (Col → ℕ) → List OrderCol → List ℕ → List Value → List Value → Bool
stands_before at order named y x = is_lt (ordering_then (window_cmp at order y x) (cells_cmp (cut named y) (cut named x)))

-- the place of x: 1, the rows of its partition that stand before it, and the rows like it that come earlier in the list
abbrev pub place_of : (Col → ℕ) → Window → List ℕ → Rows → Rows → List Value → ℕ
place_of at w named all earlier x = 1 + (count_by (λ y. agree at w.partition x y && stands_before at w.order named y x) all + count_by (λ y. same_row (cut named x) (cut named y)) earlier)

-- each row of the rest with its place, where these came earlier
abbrev pub numbered : (Col → ℕ) → Window → List ℕ → Rows → Rows → Rows → List Entry
numbered at w named all earlier [] = []
numbered at w named all earlier (x ∷ rest) = record { row = x; number = place_of at w named all earlier x } ∷ numbered at w named all (earlier ++ x ∷ []) rest

-- the columns that an item names
abbrev pub cols_in : What → List Col
cols_in (what.Column col) = col ∷ []
cols_in what.Count = []
cols_in (what.Number partition order) = partition ++ map (λ o. o.col) order

-- the places of the columns that items name, from left to right
abbrev pub named_places : (Col → ℕ) → ℕ → List Item → List ℕ
named_places at width items = filter (λ place. list_any (λ i. list_any (λ col. at col == place) (cols_in i.what)) items) (range_with_len 0 width)

abbrev pub shows_count : What → Bool
shows_count what.Count = true
shows_count w = false

abbrev pub window_or : What → Option Window → Option Window
window_or (what.Number partition order) next = Some (record { partition = partition; order = order })
window_or w next = next

-- the window of the first ROW_NUMBER
abbrev pub window_in : List Item → Option Window
window_in [] = None
window_in (i ∷ is) = window_or i.what (window_in is)

-- without GROUP BY and COUNT(*): the rows, each with its place where an item is a ROW_NUMBER
abbrev pub windowed : (Col → ℕ) → ℕ → List Item → Option Window → Rows → List Entry
windowed at width items None rows = map (λ row. record { row = row; number = 0 }) rows
windowed at width items (Some w) rows = numbered at w (named_places at width items) rows [] rows

-- without GROUP BY: where an item is COUNT(*), all rows are counted
abbrev pub ungrouped : (Col → ℕ) → ℕ → List Item → Bool → Rows → List Entry
ungrouped at width items true rows = counted rows
ungrouped at width items false rows = windowed at width items (window_in items) rows

-- the entries of a block, from its items, its GROUP BY and HAVING and the rows chosen
abbrev pub entries : (Col → ℕ) → ℕ → List Item → List Col → Option ℕ → Rows → List Entry
entries at width items [] having rows = ungrouped at width items (list_any (λ i. shows_count i.what) items) rows
entries at width items (col ∷ cols) having rows = grouped (agree at (col ∷ cols)) having rows

-- what an item shows of an entry
abbrev pub shown : (Col → ℕ) → Entry → What → Value
shown at e (what.Column col) = cell e.row (at col)
shown at e what.Count = value.Int e.number
shown at e (what.Number partition order) = value.Int e.number

-- the items of each entry, from left to right
abbrev pub shown_rows : (Col → ℕ) → List Item → List Entry → Rows
shown_rows at items es = map (λ e. map (λ i. shown at e i.what) items) es

abbrev pub once_if : Bool → Rows → Rows
once_if true rows = distinct_rows rows
once_if false rows = rows

abbrev pub block_rows : List Standing → Block → Rows
block_rows ss b =
    let at : Col → ℕ = title_place (all_titles ss) in
    once_if b.distinct (shown_rows at b.items (entries at (length (all_titles ss)) b.items b.group b.having (chosen_rows ss b.filter)))

-- the name of an item's column: its alias, else that of what it shows
abbrev pub item_name : Option Name → What → List ℕ
item_name (Some alias) w = alias.text
item_name None (what.Column col) = col.name.text
item_name None what.Count = codes "count"
item_name None (what.Number partition order) = codes "row_number"

unfoldable pub block_means : SchemaModel → (ℕ → Rows) → List Known → Block → NamedRows
block_means schema tables known b = record {
  columns = map (λ i. item_name i.alias i.what) b.items;
  rows = block_rows (map (standing schema tables known) b.sources) b;
}

-- the blocks of WITH, each by those before it
abbrev pub with_means : SchemaModel → (ℕ → Rows) → List Known → List Named → List Known
with_means schema tables known [] = known
with_means schema tables known (n ∷ ns) = with_means schema tables (known ++ record { name = n.name.text; gives = block_means schema tables known n.block } ∷ []) ns

-- the place of an output column of this name
abbrev pub output_place : List (List ℕ) → Name → ℕ
output_place [] name = 0
output_place (n ∷ ns) name = cond (bytes_eq name.text n) 0 (suc (output_place ns name))

-- ORDER BY
abbrev pub ordered_by : List (List ℕ) → List OrderName → List Key
ordered_by outputs order = map (λ o. record { column = output_place outputs o.name; down = o.down }) order

-- The answer of a query: the main block's rows in their order, the first of them.
unfoldable pub answer : SchemaModel → (ℕ → Rows) → Query → Rows
answer schema tables q =
    let main : NamedRows = block_means schema tables (with_means schema tables [] q.with) q.main in
    top_rows (ordered_by main.columns q.main.order) q.main.limit main.rows

-- ---- when an answer is spoken of

-- the rows of each table are as wide as it says
abbrev pub TablesFit : (ℕ → Rows) → ℕ → List TableModel → Type 0
TablesFit tables at [] = Unit {0}
TablesFit tables at (t ∷ ts) = Wide (length t.columns) (tables at) × TablesFit tables (suc at) ts

-- a block has a source, and its first source has no ON
abbrev pub StartsPlain : List Source → Type 0
StartsPlain [] = ⊥
StartsPlain (s ∷ ss) = s.on ≡ []

abbrev pub IsWritten : Query → Type 0
IsWritten q = AllByRecursion (λ n. StartsPlain n.block.sources) q.with × StartsPlain q.main.sources
