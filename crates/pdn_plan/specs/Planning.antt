-- The plan of a query: its sources, its blocks, and the whole.
use Rattle.std.specs.Prelude.{ℕ, suc, ◌+◌, Bool, true, false, cond, List, [], ◌∷◌, ◌++◌, map, filter, length, Option, Some, None, find, slice_get}
use Rattle.std.specs.List.{range_with_len, flat_map}
use Rattle.std.specs.Str.{bytes_eq}
use Rattle.pdn_base.specs.declared.marks.Kind.{Kind}
use Rattle.pdn_base.specs.declared.marks.Kind.TheVariants as kind
use Rattle.pdn_schema.specs.declared.schema.Column.{Column}
use Rattle.pdn_schema.specs.Models.{TableModel, SchemaModel}
use Rattle.pdn_sql.specs.declared.query.What.{What}
use Rattle.pdn_sql.specs.declared.query.What.TheVariants as what
use Rattle.pdn_sql.specs.declared.query.Item.{Item}
use Rattle.pdn_sql.specs.declared.query.Source.{Source}
use Rattle.pdn_sql.specs.declared.query.Block.{Block}
use Rattle.pdn_sql.specs.declared.query.Named.{Named}
use Rattle.pdn_sql.specs.declared.query.Query.{Query}
use Rattle.pdn_tree.specs.declared.node.Node.{Node}
use Rattle.pdn_tree.specs.declared.node.Node.TheVariants as node
use Rattle.pdn_tree.specs.Columns.{Clauses, clauses_at, place_in, shifted, has}
use Rattle.pdn_tree.specs.declared.plan.OutColumn.{OutColumn}
use Rattle.pdn_base.specs.declared.marks.Label.{Label}
use Rattle.pdn_plan.specs.declared.scope.Given.{Given}
use Rattle.pdn_plan.specs.declared.scope.Relation.{Relation}
use Rattle.pdn_plan.specs.declared.scope.Earlier.{Earlier}
use Rattle.pdn_tree.specs.Shapes.{labels, label_at}
use Rattle.pdn_plan.specs.Splitting.{Part, split, left_over, clauses_columns, ons}
use Rattle.pdn_plan.specs.Steps.{step_of, key_at, items_at, items_columns, output_name, alias_or, order_keys}
use Rattle.pdn_plan.specs.declared.steps.Step.{Step}
use Rattle.pdn_plan.specs.declared.steps.Step.TheVariants.{Grouped, Counted, Numbered, Unchanged}
use Rattle.pdn_plan.specs.Names.{place, col_kind, placed}
use Rattle.pdn_plan.specs.declared.scope.Bound.{Bound}
use Rattle.pdn_plan.specs.declared.scope.Seen.{Seen}

-- ---- sources

abbrev pub given_column : Column → Given
given_column c = record { name = c.name; kind = c.kind }

abbrev pub table_from : ℕ → List TableModel → List ℕ → Option Relation
table_from at [] name = None
table_from at (t ∷ ts) name = cond (bytes_eq name t.name) (Some (record { columns = map given_column t.columns; plan = node.Scan at })) (table_from (suc at) ts name)

abbrev pub earlier_or : Option Earlier → Option Relation → Option Relation
earlier_or None next = next
earlier_or (Some e) next = Some e.gives

-- an earlier block of WITH, or a table
abbrev pub relation : SchemaModel → List Earlier → List ℕ → Option Relation
relation schema earlier name = earlier_or (find (λ e. bytes_eq name e.name) earlier) (table_from 0 schema.tables name)

abbrev pub columns_of : Option Relation → List Given
columns_of None = []
columns_of (Some r) = r.columns

abbrev pub plan_of : Option Relation → Node
plan_of None = node.Scan 0
plan_of (Some r) = r.plan

-- the name by which a source is known in its block
abbrev pub source_name : Source → List ℕ
source_name s = alias_or s.alias s.name.text

abbrev pub seen_as : List ℕ → List Given → List Seen
seen_as alias columns = map (λ g. record { of = alias; name = g.name; kind = g.kind }) columns

-- the columns that a source brings
abbrev pub seen_by : SchemaModel → List Earlier → Source → List Seen
seen_by schema earlier s = seen_as (source_name s) (columns_of (relation schema earlier s.name.text))

-- the columns of all sources, side by side
abbrev pub scope_of : SchemaModel → List Earlier → List Source → List Seen
scope_of schema earlier sources = flat_map (seen_by schema earlier) sources

-- the sources, each ON by the columns of the sources up to it
abbrev pub bounds : SchemaModel → List Earlier → List Seen → List Source → List Bound
bounds schema earlier scope [] = []
bounds schema earlier scope (s ∷ ss) = record {
  plan = plan_of (relation schema earlier s.name.text);
  width = length (seen_by schema earlier s);
  on = placed (scope ++ seen_by schema earlier s) s.on;
} ∷ bounds schema earlier (scope ++ seen_by schema earlier s) ss

-- ---- the tree of the sources

-- a Filter, left out where there is nothing to ask
abbrev pub filtered : Clauses → Node → Node
filtered [] n = n
filtered (c ∷ cs) n = node.Filter n (c ∷ cs)

-- a Project, left out where it changes nothing
abbrev pub cut_to : ℕ → List ℕ → Node → Node
cut_to width columns n = cond (bytes_eq columns (range_with_len 0 width)) n (node.Project n columns)

abbrev pub part_node : Part → Node
part_node p = cut_to p.width p.keep (filtered p.local p.plan)

abbrev pub joins_node : ℕ → List ℕ → Node → List Part → Node
joins_node width kept so_far [] = so_far
joins_node width kept so_far (p ∷ ps) =
    joins_node (width + p.width) (kept ++ shifted width p.keep) (node.Join so_far (part_node p) (clauses_at (place_in (kept ++ shifted width p.keep)) p.on)) ps

-- joined from the left
abbrev pub sources_node : List Part → Node
sources_node [] = node.Scan 0
sources_node (p ∷ ps) = joins_node p.width p.keep (part_node p) ps

-- ---- the tree of a block

-- the columns that are named in ON, in the WHERE clauses that no source takes, in GROUP BY and in items
abbrev pub named : List Seen → List Bound → Block → List ℕ
named scope bs b =
    clauses_columns (ons bs) ++ (clauses_columns (left_over 0 (placed scope b.filter) bs)
    ++ (map (place scope) b.group ++ items_columns (place scope) b.items))

abbrev pub kept : List Seen → List Bound → Block → List ℕ
kept scope bs b = filter (has (named scope bs b)) (range_with_len 0 (length scope))

-- the sources joined, and the clauses that no source takes
abbrev pub chosen_node : List Seen → List Bound → Block → Node
chosen_node scope bs b = filtered
    (clauses_at (place_in (kept scope bs b)) (left_over 0 (placed scope b.filter) bs))
    (sources_node (split (has (named scope bs b)) 0 (placed scope b.filter) bs))

abbrev pub step_node : List ℕ → Step → Node → Node
step_node kept (Grouped keys having) n = node.Group n (map (place_in kept) keys) having
step_node kept Counted n = node.Count n
step_node kept (Numbered partition order) n = node.Number n (map (place_in kept) partition) (map (key_at (place_in kept)) order)
step_node kept Unchanged n = n

-- the places of which a step gives the columns first, and how many columns it gives
abbrev pub step_columns : List ℕ → Step → List ℕ
step_columns kept (Grouped keys having) = keys
step_columns kept Counted = []
step_columns kept (Numbered partition order) = kept
step_columns kept Unchanged = kept

abbrev pub step_width : List ℕ → Step → ℕ
step_width kept (Grouped keys having) = length keys + 1
step_width kept Counted = 1
step_width kept (Numbered partition order) = length kept + 1
step_width kept Unchanged = length kept

abbrev pub block_items : List Seen → List Bound → Block → List ℕ
block_items scope bs b =
    let columns : List ℕ = step_columns (kept scope bs b) (step_of (place scope) b) in
    items_at (λ c. place_in columns (place scope c)) (length columns) b.items

abbrev pub distinct_if : Bool → Node → Node
distinct_if true n = node.Distinct n
distinct_if false n = n

unfoldable pub block_node : List Seen → List Bound → Block → Node
block_node scope bs b = distinct_if b.distinct (cut_to
    (step_width (kept scope bs b) (step_of (place scope) b))
    (block_items scope bs b)
    (step_node (kept scope bs b) (step_of (place scope) b) (chosen_node scope bs b)))

abbrev pub what_kind : List Seen → What → Kind
what_kind scope (what.Column col) = col_kind scope col
what_kind scope what.Count = kind.Int
what_kind scope (what.Number partition order) = kind.Int

abbrev pub block_gives : List Seen → List Bound → Block → Relation
block_gives scope bs b = record {
  columns = map (λ i. record { name = output_name i; kind = what_kind scope i.what }) b.items;
  plan = block_node scope bs b;
}

abbrev pub block_relation : SchemaModel → List Earlier → Block → Relation
block_relation schema earlier b = block_gives (scope_of schema earlier b.sources) (bounds schema earlier [] b.sources) b

-- ---- the tree of a query

-- the blocks of WITH, each by those before it
abbrev pub bound_with : SchemaModel → List Earlier → List Named → List Earlier
bound_with schema earlier [] = earlier
bound_with schema earlier (n ∷ ns) = bound_with schema (earlier ++ record { name = n.name.text; gives = block_relation schema earlier n.block } ∷ []) ns

abbrev pub main_relation : SchemaModel → Query → Relation
main_relation schema q = block_relation schema (bound_with schema [] q.with) q.main

-- a tree, listed by the main block's order and cut at its limit
abbrev pub topped : Block → Node → Node
topped b n = node.Top n (order_keys (map output_name b.items) b.order) b.limit

abbrev pub root : SchemaModel → Query → Node
root schema q = topped q.main (main_relation schema q).plan

-- ---- the columns of an answer

abbrev pub seen_text : Option Seen → List ℕ
seen_text None = []
seen_text (Some s) = s.of ++ 46 ∷ s.name

-- by which name a refusal speaks of an item: by its source and column where it is a column, else by its output name
abbrev pub shown_as : List Seen → What → List ℕ → List ℕ
shown_as scope (what.Column col) name = seen_text (slice_get scope (place scope col))
shown_as scope what.Count name = name
shown_as scope (what.Number partition order) name = name

abbrev pub out_columns : List Seen → List Label → ℕ → List Item → List OutColumn
out_columns scope labels at [] = []
out_columns scope labels at (i ∷ is) = record {
  name = output_name i;
  source = shown_as scope i.what (output_name i);
  kind = what_kind scope i.what;
  label = label_at labels at;
} ∷ out_columns scope labels (suc at) is

abbrev pub columns : SchemaModel → Query → List OutColumn
columns schema q = out_columns (scope_of schema (bound_with schema [] q.with) q.main.sources) (labels schema (root schema q)) 0 q.main.items
