-- Why a query is refused: the rules of binding, in their order.
use Rattle.std.specs.Prelude.{◌≡◌, ℕ, Bool, true, false, not, ◌&&◌, ◌||◌, nat_lt, List, [], ◌∷◌, ◌++◌, map, length, count_by, Option, Some, None, is_none, is_some, Result, Ok, Err}
use Rattle.std.specs.List.{list_any}
use Rattle.std.specs.Str.{bytes_eq}
use Rattle.pdn_schema.specs.Models.{SchemaModel}
use Rattle.pdn_schema.specs.Names.{is_among}
use Rattle.pdn_sql.specs.declared.query.Col.{Col}
use Rattle.pdn_sql.specs.declared.query.What.{What}
use Rattle.pdn_sql.specs.declared.query.What.TheVariants as what
use Rattle.pdn_sql.specs.declared.query.Item.{Item}
use Rattle.pdn_sql.specs.declared.query.Source.{Source}
use Rattle.pdn_sql.specs.declared.query.Block.{Block}
use Rattle.pdn_sql.specs.declared.query.Named.{Named}
use Rattle.pdn_sql.specs.declared.query.OrderName.{OrderName}
use Rattle.pdn_sql.specs.declared.query.Query.{Query}
use Rattle.pdn_plan.specs.declared.plan_err.PlanErr.{PlanErr}
use Rattle.pdn_plan.specs.declared.plan_err.PlanErr.TheVariants as err
use Rattle.pdn_tree.specs.declared.plan.OutColumn.{OutColumn}
use Rattle.pdn_tree.specs.Columns.{has}
use Rattle.pdn_plan.specs.Names.{first, first_of, or_else, refuse_if, by_count, col_refusal, cond_refusal, place}
use Rattle.pdn_plan.specs.Steps.{step_of, output_name, is_number, counts}
use Rattle.pdn_plan.specs.Planning.{relation, source_name, seen_by, scope_of, bounds, kept, step_width, block_relation, root, columns}
use Rattle.pdn_tree.specs.Shapes.{has_join, nodes}
use Rattle.pdn_tree.specs.Plans.{PlanModel, forbidden}
use Rattle.pdn_plan.specs.declared.scope.Bound.{Bound}
use Rattle.pdn_plan.specs.declared.scope.Refusal.{Refusal}
use Rattle.pdn_plan.specs.declared.scope.Seen.{Seen}
use Rattle.pdn_plan.specs.declared.scope.Earlier.{Earlier}

-- kind 1: the name is no earlier block's and no table's. Kind 3: the source's name is one of those before it. Then its ON.
abbrev pub sources_refusal : SchemaModel → List Earlier → List (List ℕ) → List Seen → List Source → Option Refusal
sources_refusal schema earlier before scope [] = None
sources_refusal schema earlier before scope (s ∷ ss) = first (
    refuse_if (is_none (relation schema earlier s.name.text)) 1 s.name.text
    ∷ refuse_if (is_among before (source_name s)) 3 (source_name s)
    ∷ cond_refusal (scope ++ seen_by schema earlier s) s.on
    ∷ sources_refusal schema earlier (before ++ source_name s ∷ []) (scope ++ seen_by schema earlier s) ss
    ∷ [])

abbrev pub what_refusal : List Seen → What → Option Refusal
what_refusal scope (what.Column col) = col_refusal scope col
what_refusal scope what.Count = None
what_refusal scope (what.Number partition order) = or_else (first_of (col_refusal scope) partition) (first_of (λ o. col_refusal scope o.col) order)

abbrev pub items_refusal : List Seen → List Item → Option Refusal
items_refusal scope items = first_of (λ i. what_refusal scope i.what) items

-- what can't stand beside a count: a column that is no key, or a number
abbrev pub is_loose : List Seen → List Col → What → Bool
is_loose scope keys (what.Column col) = not (has (map (place scope) keys) (place scope col))
is_loose scope keys what.Count = false
is_loose scope keys (what.Number partition order) = true

abbrev pub is_some_of : {X : Type 0} → List X → Bool
is_some_of [] = false
is_some_of (x ∷ xs) = true

abbrev pub is_grouped : Block → Bool
is_grouped b = is_some_of b.group || counts b.items

-- kind 6: in a block with GROUP BY or a COUNT
abbrev pub loose_refusal : Bool → List Seen → Block → Option Refusal
loose_refusal false scope b = None
loose_refusal true scope b = first_of (λ i. refuse_if (is_loose scope b.group i.what) 6 (output_name i)) b.items

-- a COUNT, GROUP BY or ROW_NUMBER
abbrev pub is_counted : Block → Bool
is_counted b = is_grouped b || list_any (λ i. is_number i.what) b.items

-- a Join stands below what the sources give: there are several, or one of them has a Join
abbrev pub joins_below : List Bound → Bool
joins_below bs = nat_lt 1 (length bs) || list_any (λ s. has_join s.plan) bs

-- a node would have more than 16 columns: the joined sources, what is counted or numbered, or the items
abbrev pub is_wide : List Seen → List Bound → Block → Bool
is_wide scope bs b =
    nat_lt 16 (length (kept scope bs b))
    || (nat_lt 16 (step_width (kept scope bs b) (step_of (place scope) b))
    || nat_lt 16 (length b.items))

-- after the sources, where it is given whether a Join is below: WHERE, GROUP BY, items, what can't stand beside a count, counts
-- over a Join, columns
abbrev pub after_given : Bool → List Seen → List Bound → Block → Option Refusal
after_given joins scope bs b = first (
    cond_refusal scope b.filter
    ∷ first_of (col_refusal scope) b.group
    ∷ items_refusal scope b.items
    ∷ loose_refusal (is_grouped b) scope b
    ∷ refuse_if (is_counted b && joins) 5 []
    ∷ refuse_if (is_wide scope bs b) 9 []
    ∷ [])

unfoldable pub after_sources : List Seen → List Bound → Block → Option Refusal
after_sources scope bs b = after_given (joins_below bs) scope bs b

-- a block: its sources, and what comes after them
abbrev pub block_refusal : SchemaModel → List Earlier → Block → Option Refusal
block_refusal schema earlier b = or_else
    (sources_refusal schema earlier [] [] b.sources)
    (after_sources (scope_of schema earlier b.sources) (bounds schema earlier [] b.sources) b)

abbrev pub repeat_refusal : List (List ℕ) → List (List ℕ) → Option Refusal
repeat_refusal before [] = None
repeat_refusal before (n ∷ ns) = or_else (refuse_if (is_among before n) 3 n) (repeat_refusal (before ++ n ∷ []) ns)

-- a block of WITH: kind 7 for an order or a limit, kind 3 for a name that is taken and for an output name that was there
abbrev pub with_refusal : SchemaModel → List Earlier → Named → Option Refusal
with_refusal schema earlier n = first (
    block_refusal schema earlier n.block
    ∷ refuse_if (is_some_of n.block.order || is_some n.block.limit) 7 n.name.text
    ∷ refuse_if (is_some (relation schema earlier n.name.text)) 3 n.name.text
    ∷ repeat_refusal [] (map output_name n.block.items)
    ∷ [])

-- an order's name is to be one output name
abbrev pub order_refusal : List (List ℕ) → OrderName → Option Refusal
order_refusal outputs o = by_count (count_by (bytes_eq o.name.text) outputs) o.name.text

abbrev pub main_refusal : SchemaModel → List Earlier → Block → Option Refusal
main_refusal schema earlier b = or_else
    (block_refusal schema earlier b)
    (first_of (order_refusal (map output_name b.items)) b.order)

abbrev pub blocks_refusal : SchemaModel → List Earlier → List Named → Block → Option Refusal
blocks_refusal schema earlier [] main = main_refusal schema earlier main
blocks_refusal schema earlier (n ∷ ns) main = or_else
    (with_refusal schema earlier n)
    (blocks_refusal schema (earlier ++ record { name = n.name.text; gives = block_relation schema earlier n.block } ∷ []) ns main)

-- the blocks in order, and then kind 8 for more than 32 nodes
unfoldable pub refusal : SchemaModel → Query → Option Refusal
refusal schema q = or_else
    (blocks_refusal schema [] q.with q.main)
    (refuse_if (nat_lt 32 (nodes (root schema q))) 8 [])

-- the plan that a query has where it is not refused
unfoldable pub plan : SchemaModel → Query → PlanModel
plan schema q = record { root = root schema q; columns = columns schema q }

-- What binding gives: the plan, where nothing is refused and no column is forbidden; else the first refusal; else the first
-- forbidden column. Want of memory may come at any time.
abbrev pub Refuses : SchemaModel → Query → PlanErr → Type 0
Refuses schema q (err.Refused kind name) = refusal schema q ≡ Some (record { kind = kind; name = name })
Refuses schema q (err.Forbidden column label) = (refusal schema q ≡ None) × ((c : OutColumn) × (forbidden (plan schema q).columns ≡ Some c) × (c.source ≡ column) × (c.label ≡ label))
Refuses schema q err.Memory = Unit {0}

abbrev pub BindGives : SchemaModel → Query → Result PlanModel PlanErr → Type 0
BindGives schema q (Ok p) = (refusal schema q ≡ None) × (forbidden (plan schema q).columns ≡ None) × (p ≡ plan schema q)
BindGives schema q (Err e) = Refuses schema q e
