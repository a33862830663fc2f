-- A query is refused, and planned, as it is by what is kept of its blocks of WITH.
use Rattle.std.proofs.Common.{◌≡◌, ◌+◌, ℕ, suc, List, [], ◌∷◌, ◌++◌, Option, Some, None, find, ap, ap₂, ◌∙◌, sym, refl, Bool, true, false, cond, nat_lt, map, arith, ltb-true, lt-ltb}
use Rattle.std.specs.Str.{bytes_eq}
use Rattle.std.specs.List.{AllByRecursion}
use Rattle.std.proofs.lemmas.Bool.{true≢false}
use Rattle.pdn_schema.specs.Models.{TableModel, SchemaModel}
use Rattle.pdn_sql.specs.declared.query.Source.{Source}
use Rattle.pdn_sql.specs.declared.query.Block.{Block}
use Rattle.pdn_sql.specs.declared.query.Named.{Named}
use Rattle.pdn_sql.specs.declared.query.Query.{Query}
use Rattle.pdn_tree.specs.declared.node.Node.{Node}
use Rattle.pdn_tree.specs.declared.node.Node.TheVariants as node
use Rattle.pdn_plan.specs.declared.scope.Refusal.{Refusal}
use Rattle.pdn_plan.specs.declared.scope.Relation.{Relation}
use Rattle.pdn_plan.specs.declared.scope.Seen.{Seen}
use Rattle.pdn_plan.specs.declared.scope.Earlier.{Earlier}
use Rattle.pdn_tree.specs.Shapes.{nodes, tops}
use Rattle.pdn_plan.specs.Steps.{output_name, order_keys}
use Rattle.pdn_plan.specs.Names.{or_else, refuse_if}
use Rattle.pdn_plan.specs.Planning.{given_column, table_from, earlier_or, plan_of, seen_by, scope_of, bounds, bound_with, topped, root}
use Rattle.pdn_plan.specs.Binding.{with_refusal, main_refusal, blocks_refusal, refusal}
use Rattle.pdn_plan.specs.Keeping.{capped, all_kept, with_refusals, main_tree, main_refusals}
use Rattle.pdn_plan.proofs.SizeLaws.{nodes-Top, tops-Top, tops-Scan}
use Rattle.pdn_plan.proofs.BlockSizes.{NoTops, block-topless}
use Rattle.pdn_plan.proofs.Capping.{same-size, same-tree}
use Rattle.pdn_plan.proofs.KeepingLaws.{as_earlier, node_of, main-refusal-kept, tree-kept}

or-else-more : (a b c : Option Refusal) → or_else a (or_else b c) ≡ or_else (or_else a b) c
or-else-more None b c = refl
or-else-more (Some r) b c = refl

-- the blocks of WITH first, and then the main block
blocks-split : (schema : SchemaModel) (es : List Earlier) (ns : List Named) (main : Block) → blocks_refusal schema es ns main ≡ or_else (with_refusals schema es ns) (main_refusal schema (bound_with schema es ns) main)
blocks-split schema es [] main = refl
blocks-split schema es (n ∷ ns) main =
    ap (or_else (with_refusal schema es n)) (blocks-split schema (es ++ as_earlier schema es n ∷ []) ns main)
    ∙ or-else-more (with_refusal schema es n) (with_refusals schema (es ++ as_earlier schema es n ∷ []) ns) (main_refusal schema (bound_with schema (es ++ as_earlier schema es n ∷ []) ns) main)

-- ---- with a Top above

larger-top : (b : Block) (m : Node) → nat_lt 32 (nodes m) ≡ true → nat_lt 32 (nodes (topped b m)) ≡ true
larger-top b m e = lt-ltb 32 (nodes (topped b m)) (omega (arith, ltb-true 32 (nodes m) e, nodes-Top m (order_keys (map output_name b.items) b.order) b.limit))

top-size : (b : Block) (m n : Node) → capped m ≡ capped n → nat_lt 32 (nodes (topped b m)) ≡ nat_lt 32 (nodes (topped b n))
top-size b m n e = one (nat_lt 32 (nodes m)) refl
  where
    one : (x : Bool) → nat_lt 32 (nodes m) ≡ x → nat_lt 32 (nodes (topped b m)) ≡ nat_lt 32 (nodes (topped b n))
    one true f = larger-top b m f ∙ sym (larger-top b n (sym (same-size m n e) ∙ f))
    one false f = ap (λ t. nat_lt 32 (nodes (topped b t))) (same-tree m n e f)

top-same : (b : Block) (m n : Node) → capped m ≡ capped n → nat_lt 32 (nodes (topped b m)) ≡ false → topped b m ≡ topped b n
top-same b m n e small = one (nat_lt 32 (nodes m)) refl
  where
    one : (x : Bool) → nat_lt 32 (nodes m) ≡ x → topped b m ≡ topped b n
    one true f = absurd (true≢false (sym (larger-top b m f) ∙ small))
    one false f = ap (topped b) (same-tree m n e f)

-- A query's first refusal, from what is kept.
pub refusal-by-kept : (schema : SchemaModel) (q : Query) → refusal schema q ≡ or_else (with_refusals schema [] q.with) (main_refusals schema (all_kept (bound_with schema [] q.with)) q.main)
unfolding refusal
refusal-by-kept schema q =
    let es : List Earlier = bound_with schema [] q.with in
    ap₂ (λ (r : Option Refusal) (large : Bool). or_else r (refuse_if large 8 []))
    (blocks-split schema [] q.with q.main ∙ ap (or_else (with_refusals schema [] q.with)) (sym (main-refusal-kept schema es q.main)))
    (sym (top-size q.main (node_of schema (all_kept es) q.main) (node_of schema es q.main) (tree-kept schema es q.main)))
    ∙ sym (or-else-more (with_refusals schema [] q.with) (main_refusal schema (all_kept es) q.main) (refuse_if (nat_lt 32 (nodes (main_tree schema (all_kept es) q.main))) 8 []))

-- Where that is not too large, it is the query's tree.
pub root-by-kept : (schema : SchemaModel) (q : Query) → nat_lt 32 (nodes (main_tree schema (all_kept (bound_with schema [] q.with)) q.main)) ≡ false
    → main_tree schema (all_kept (bound_with schema [] q.with)) q.main ≡ root schema q
root-by-kept schema q small =
    let es : List Earlier = bound_with schema [] q.with in
    top-same q.main (node_of schema (all_kept es) q.main) (node_of schema es q.main) (tree-kept schema es q.main) small

-- ---- no block has a Top

abbrev Topless : List Earlier → Type 0
Topless es = AllByRecursion (λ e. tops e.gives.plan ≡ 0) es

table-topless : (at : ℕ) (ts : List TableModel) (name : List ℕ) → tops (plan_of (table_from at ts name)) ≡ 0
table-topless at [] name = tops-Scan 0
table-topless at (t ∷ ts) name = one (bytes_eq name t.name) (table-topless (suc at) ts name)
  where
    one : (b : Bool) → tops (plan_of (table_from (suc at) ts name)) ≡ 0 → tops (plan_of (cond b (Some (record { columns = map given_column t.columns; plan = node.Scan at })) (table_from (suc at) ts name))) ≡ 0
    one true next = tops-Scan at
    one false next = next

known-topless : (es : List Earlier) (next : Option Relation) (name : List ℕ) → Topless es → tops (plan_of next) ≡ 0 → tops (plan_of (earlier_or (find (λ e. bytes_eq name e.name) es) next)) ≡ 0
known-topless [] next name h n = n
known-topless (e ∷ es) next name h n = one (bytes_eq name e.name) (known-topless es next name h.1 n)
  where
    one : (b : Bool) → tops (plan_of (earlier_or (find (λ e. bytes_eq name e.name) es) next)) ≡ 0 → tops (plan_of (earlier_or (cond b (Some e) (find (λ e. bytes_eq name e.name) es)) next)) ≡ 0
    one true rest = h.0
    one false rest = rest

bounds-topless : (schema : SchemaModel) (es : List Earlier) (scope : List Seen) (ss : List Source) → Topless es → NoTops (bounds schema es scope ss)
bounds-topless schema es scope [] h = tt
bounds-topless schema es scope (s ∷ ss) h = (known-topless es (table_from 0 schema.tables s.name.text) s.name.text h (table-topless 0 schema.tables s.name.text), bounds-topless schema es (scope ++ seen_by schema es s) ss h)

topless-block : (schema : SchemaModel) (es : List Earlier) (b : Block) → Topless es → tops (node_of schema es b) ≡ 0
topless-block schema es b h = block-topless (scope_of schema es b.sources) (bounds schema es [] b.sources) b (bounds-topless schema es [] b.sources h)

topless-more : (es : List Earlier) (e : Earlier) → Topless es → tops e.gives.plan ≡ 0 → Topless (es ++ e ∷ [])
topless-more [] e h k = (k, tt)
topless-more (x ∷ es) e h k = (h.0, topless-more es e h.1 k)

with-topless : (schema : SchemaModel) (ns : List Named) (es : List Earlier) → Topless es → Topless (bound_with schema es ns)
with-topless schema [] es h = h
with-topless schema (n ∷ ns) es h = with-topless schema ns (es ++ as_earlier schema es n ∷ []) (topless-more es (as_earlier schema es n) h (topless-block schema es n.block h))

-- The root of a query's tree is its one Top.
pub one-top : (schema : SchemaModel) (q : Query) → tops (root schema q) ≡ 1
one-top schema q =
    let es : List Earlier = bound_with schema [] q.with in
    tops-Top (node_of schema es q.main) (order_keys (map output_name q.main.items) q.main.order) q.main.limit
    ∙ ap (λ n. 1 + n) (topless-block schema es q.main (with-topless schema q.with [] tt))
