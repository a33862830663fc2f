-- The blocks of WITH, bound with what is kept of those before them.
use Rattle.std.proofs.Common.{◌≡◌, ℕ, suc, List, [], ◌∷◌, ◌++◌, Option, Some, None, is_none, is_some, find, ap, ap₂, ◌∙◌, sym, refl, Bool, true, false, ◌||◌, cond, nat_lt, length, map}
use Rattle.std.specs.Str.{bytes_eq}
use Rattle.std.proofs.lemmas.List.{map-append}
use Rattle.pdn_schema.specs.Models.{TableModel, SchemaModel}
use Rattle.pdn_schema.specs.Names.{is_among}
use Rattle.pdn_sql.specs.declared.query.Source.{Source}
use Rattle.pdn_sql.specs.declared.query.Block.{Block}
use Rattle.pdn_sql.specs.declared.query.Named.{Named}
use Rattle.pdn_tree.specs.declared.node.Node.{Node}
use Rattle.pdn_tree.specs.declared.node.Node.TheVariants as node
use Rattle.pdn_plan.specs.declared.scope.Bound.{Bound}
use Rattle.pdn_plan.specs.declared.scope.Given.{Given}
use Rattle.pdn_plan.specs.declared.scope.Refusal.{Refusal}
use Rattle.pdn_plan.specs.declared.scope.Relation.{Relation}
use Rattle.pdn_plan.specs.declared.scope.Seen.{Seen}
use Rattle.pdn_plan.specs.declared.scope.Earlier.{Earlier}
use Rattle.pdn_tree.specs.Columns.{Clauses}
use Rattle.pdn_plan.specs.Steps.{output_name}
use Rattle.pdn_plan.specs.Names.{or_else, refuse_if, cond_refusal, placed, first_of}
use Rattle.pdn_plan.specs.Planning.{given_column, table_from, earlier_or, relation, columns_of, plan_of, source_name, seen_as, seen_by, scope_of, bounds, block_node, block_gives, block_relation, bound_with}
use Rattle.pdn_plan.specs.Binding.{sources_refusal, after_sources, block_refusal, is_some_of, repeat_refusal, with_refusal, order_refusal, main_refusal}
use Rattle.pdn_plan.specs.Keeping.{capped, capped_relation, kept_as, all_kept, with_refusals}
use Rattle.pdn_plan.proofs.SizeLaws.{nodes-Scan}
use Rattle.pdn_plan.proofs.Capping.{capped-small, capped-twice, kept_bound, kept_bounds, refusal-kept, node-kept}

abbrev giving : List Given → Node → Relation
giving columns n = record { columns = columns; plan = n }

abbrev a_bound : Node → ℕ → Clauses → Bound
a_bound n width on = record { plan = n; width = width; on = on }

abbrev an_earlier : List ℕ → Relation → Earlier
an_earlier name r = record { name = name; gives = r }

-- ---- what a name stands for

abbrev kept_found : Option Relation → Option Relation
kept_found None = None
kept_found (Some r) = Some (capped_relation r)

scan-kept : (columns : List Given) (at : ℕ) → kept_found (Some (record { columns = columns; plan = node.Scan at })) ≡ Some (record { columns = columns; plan = node.Scan at })
scan-kept columns at = ap (λ (n : Node). Some (giving columns n)) (capped-small (node.Scan at) (ap (nat_lt 32) (nodes-Scan at)))

table-kept : (at : ℕ) (ts : List TableModel) (name : List ℕ) → kept_found (table_from at ts name) ≡ table_from at ts name
table-kept at [] name = refl
table-kept at (t ∷ ts) name = one (bytes_eq name t.name) (table-kept (suc at) ts name)
  where
    one : (b : Bool) → kept_found (table_from (suc at) ts name) ≡ table_from (suc at) ts name → kept_found (cond b (Some (record { columns = map given_column t.columns; plan = node.Scan at })) (table_from (suc at) ts name)) ≡ cond b (Some (record { columns = map given_column t.columns; plan = node.Scan at })) (table_from (suc at) ts name)
    one true next = scan-kept (map given_column t.columns) at
    one false next = next

known-kept : (es : List Earlier) (next : Option Relation) (name : List ℕ) → kept_found next ≡ next
    → earlier_or (find (λ e. bytes_eq name e.name) (all_kept es)) next ≡ kept_found (earlier_or (find (λ e. bytes_eq name e.name) es) next)
known-kept [] next name h = sym h
known-kept (e ∷ es) next name h = one (bytes_eq name e.name) (known-kept es next name h)
  where
    one : (b : Bool) → earlier_or (find (λ e. bytes_eq name e.name) (all_kept es)) next ≡ kept_found (earlier_or (find (λ e. bytes_eq name e.name) es) next) → earlier_or (cond b (Some (kept_as e)) (find (λ e. bytes_eq name e.name) (all_kept es))) next ≡ kept_found (earlier_or (cond b (Some e) (find (λ e. bytes_eq name e.name) es)) next)
    one true rest = refl
    one false rest = rest

relation-kept : (schema : SchemaModel) (es : List Earlier) (name : List ℕ) → relation schema (all_kept es) name ≡ kept_found (relation schema es name)
relation-kept schema es name = known-kept es (table_from 0 schema.tables name) name (table-kept 0 schema.tables name)

columns-kept : (r : Option Relation) → columns_of (kept_found r) ≡ columns_of r
columns-kept None = refl
columns-kept (Some r) = refl

plan-kept : (r : Option Relation) → plan_of (kept_found r) ≡ capped (plan_of r)
plan-kept None = sym (capped-small (node.Scan 0) (ap (nat_lt 32) (nodes-Scan 0)))
plan-kept (Some r) = refl

none-kept : (r : Option Relation) → is_none (kept_found r) ≡ is_none r
none-kept None = refl
none-kept (Some r) = refl

some-kept : (r : Option Relation) → is_some (kept_found r) ≡ is_some r
some-kept None = refl
some-kept (Some r) = refl

-- ---- sources

seen-kept : (schema : SchemaModel) (es : List Earlier) (s : Source) → seen_by schema (all_kept es) s ≡ seen_by schema es s
seen-kept schema es s = ap (seen_as (source_name s)) (ap columns_of (relation-kept schema es s.name.text) ∙ columns-kept (relation schema es s.name.text))

pub scope-kept : (schema : SchemaModel) (es : List Earlier) (ss : List Source) → scope_of schema (all_kept es) ss ≡ scope_of schema es ss
scope-kept schema es [] = refl
scope-kept schema es (s ∷ ss) = ap₂ (λ xs ys. xs ++ ys) (seen-kept schema es s) (scope-kept schema es ss)

bounds-kept : (schema : SchemaModel) (es : List Earlier) (scope : List Seen) (ss : List Source) → bounds schema (all_kept es) scope ss ≡ kept_bounds (bounds schema es scope ss)
bounds-kept schema es scope [] = refl
bounds-kept schema es scope (s ∷ ss) =
    ap₂ (λ (n : Node) (seen : List Seen). a_bound n (length seen) (placed (scope ++ seen) s.on) ∷ bounds schema (all_kept es) (scope ++ seen) ss)
    (ap plan_of (relation-kept schema es s.name.text) ∙ plan-kept (relation schema es s.name.text))
    (seen-kept schema es s)
    ∙ ap (λ bs. kept_bound (record { plan = plan_of (relation schema es s.name.text); width = length (seen_by schema es s); on = placed (scope ++ seen_by schema es s) s.on }) ∷ bs) (bounds-kept schema es (scope ++ seen_by schema es s) ss)

sources-kept : (schema : SchemaModel) (es : List Earlier) (before : List (List ℕ)) (scope : List Seen) (ss : List Source) → sources_refusal schema (all_kept es) before scope ss ≡ sources_refusal schema es before scope ss
sources-kept schema es before scope [] = refl
sources-kept schema es before scope (s ∷ ss) =
    ap₂ (λ (unknown : Bool) (seen : List Seen). or_else (refuse_if unknown 1 s.name.text) (or_else (refuse_if (is_among before (source_name s)) 3 (source_name s))
    (or_else (cond_refusal (scope ++ seen) s.on) (or_else (sources_refusal schema (all_kept es) (before ++ source_name s ∷ []) (scope ++ seen) ss) None))))
    (ap is_none (relation-kept schema es s.name.text) ∙ none-kept (relation schema es s.name.text))
    (seen-kept schema es s)
    ∙ ap (λ rest. or_else (refuse_if (is_none (relation schema es s.name.text)) 1 s.name.text) (or_else (refuse_if (is_among before (source_name s)) 3 (source_name s))
    (or_else (cond_refusal (scope ++ seen_by schema es s) s.on) (or_else rest None))))
    (sources-kept schema es (before ++ source_name s ∷ []) (scope ++ seen_by schema es s) ss)

-- ---- a block

block-refusal-kept : (schema : SchemaModel) (es : List Earlier) (b : Block) → block_refusal schema (all_kept es) b ≡ block_refusal schema es b
block-refusal-kept schema es b = ap₂ or_else (sources-kept schema es [] [] b.sources)
    (ap₂ (λ scope bs. after_sources scope bs b) (scope-kept schema es b.sources) (bounds-kept schema es [] b.sources)
    ∙ refusal-kept (scope_of schema es b.sources) (bounds schema es [] b.sources) b)

with-refusal-kept : (schema : SchemaModel) (es : List Earlier) (n : Named) → with_refusal schema (all_kept es) n ≡ with_refusal schema es n
with-refusal-kept schema es n = ap₂ (λ (r : Option Refusal) (taken : Bool). or_else r (or_else (refuse_if (is_some_of n.block.order || is_some n.block.limit) 7 n.name.text)
    (or_else (refuse_if taken 3 n.name.text) (or_else (repeat_refusal [] (map output_name n.block.items)) None))))
    (block-refusal-kept schema es n.block)
    (ap is_some (relation-kept schema es n.name.text) ∙ some-kept (relation schema es n.name.text))

pub main-refusal-kept : (schema : SchemaModel) (es : List Earlier) (b : Block) → main_refusal schema (all_kept es) b ≡ main_refusal schema es b
main-refusal-kept schema es b = ap (λ r. or_else r (first_of (order_refusal (map output_name b.items)) b.order)) (block-refusal-kept schema es b)

abbrev pub node_of : SchemaModel → List Earlier → Block → Node
node_of schema es b = block_node (scope_of schema es b.sources) (bounds schema es [] b.sources) b

pub tree-kept : (schema : SchemaModel) (es : List Earlier) (b : Block) → capped (node_of schema (all_kept es) b) ≡ capped (node_of schema es b)
tree-kept schema es b =
    ap₂ (λ scope bs. capped (block_node scope bs b)) (scope-kept schema es b.sources) (bounds-kept schema es [] b.sources)
    ∙ node-kept (scope_of schema es b.sources) (bounds schema es [] b.sources) b

relation-of-block : (schema : SchemaModel) (es : List Earlier) (b : Block) → capped_relation (block_relation schema (all_kept es) b) ≡ capped_relation (block_relation schema es b)
relation-of-block schema es b = ap₂ (λ (scope : List Seen) (n : Node). giving (block_gives scope [] b).columns n) (scope-kept schema es b.sources) (tree-kept schema es b)

-- ---- the blocks of WITH

abbrev pub as_earlier : SchemaModel → List Earlier → Named → Earlier
as_earlier schema es n = record { name = n.name.text; gives = block_relation schema es n.block }

-- what is kept tells what the next block gives, as far as it is kept
earlier-alike : (schema : SchemaModel) (es fs : List Earlier) (n : Named) → all_kept es ≡ all_kept fs → kept_as (as_earlier schema es n) ≡ kept_as (as_earlier schema fs n)
earlier-alike schema es fs n e = ap (an_earlier n.name.text)
    (sym (relation-of-block schema es n.block) ∙ ap (λ ks. capped_relation (block_relation schema ks n.block)) e ∙ relation-of-block schema fs n.block)

more-alike : (schema : SchemaModel) (es fs : List Earlier) (n : Named) → all_kept es ≡ all_kept fs → all_kept (es ++ as_earlier schema es n ∷ []) ≡ all_kept (fs ++ as_earlier schema fs n ∷ [])
more-alike schema es fs n e = map-append kept_as es (as_earlier schema es n ∷ []) ∙ ap₂ (λ xs x. xs ++ x ∷ []) e (earlier-alike schema es fs n e) ∙ sym (map-append kept_as fs (as_earlier schema fs n ∷ []))

pub with-alike : (schema : SchemaModel) (ns : List Named) (es fs : List Earlier) → all_kept es ≡ all_kept fs → all_kept (bound_with schema es ns) ≡ all_kept (bound_with schema fs ns)
with-alike schema [] es fs e = e
with-alike schema (n ∷ ns) es fs e = with-alike schema ns (es ++ as_earlier schema es n ∷ []) (fs ++ as_earlier schema fs n ∷ []) (more-alike schema es fs n e)

pub refusals-alike : (schema : SchemaModel) (ns : List Named) (es fs : List Earlier) → all_kept es ≡ all_kept fs → with_refusals schema es ns ≡ with_refusals schema fs ns
refusals-alike schema [] es fs e = refl
refusals-alike schema (n ∷ ns) es fs e = ap₂ or_else
    (sym (with-refusal-kept schema es n) ∙ ap (λ ks. with_refusal schema ks n) e ∙ with-refusal-kept schema fs n)
    (refusals-alike schema ns (es ++ as_earlier schema es n ∷ []) (fs ++ as_earlier schema fs n ∷ []) (more-alike schema es fs n e))

-- one more block, kept
pub kept-once : (schema : SchemaModel) (es : List Earlier) (n : Named) → all_kept es ≡ es → all_kept (es ++ kept_as (as_earlier schema es n) ∷ []) ≡ es ++ kept_as (as_earlier schema es n) ∷ []
kept-once schema es n h = map-append kept_as es (kept_as (as_earlier schema es n) ∷ [])
    ∙ ap₂ (λ xs (t : Node). xs ++ an_earlier n.name.text (giving (block_relation schema es n.block).columns t) ∷ []) h (capped-twice (node_of schema es n.block))

pub kept-next : (schema : SchemaModel) (es : List Earlier) (n : Named) → all_kept es ≡ es → all_kept (es ++ kept_as (as_earlier schema es n) ∷ []) ≡ all_kept (es ++ as_earlier schema es n ∷ [])
kept-next schema es n h = kept-once schema es n h ∙ ap (λ xs. xs ++ kept_as (as_earlier schema es n) ∷ []) (sym h) ∙ sym (map-append kept_as es (as_earlier schema es n ∷ []))
