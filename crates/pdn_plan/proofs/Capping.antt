-- Binding reads nothing of an earlier block's tree but what a capped tree keeps.
use Rattle.std.proofs.Common.{◌≡◌, ◌≤◌, ◌<◌, ◌+◌, ◌-◌, ℕ, suc, zero, List, [], ◌∷◌, ◌++◌, None, ap, ap₂, ◌∙◌, sym, refl, Bool, true, false, ◌||◌, ◌&&◌, cond, nat_lt, length, map, filter, arith, lt-ltb}
use Rattle.std.specs.List.{list_any, range_with_len}
use Rattle.std.proofs.lemmas.Bool.{true≢false}
use Rattle.std.proofs.lemmas.List.{length-map}
use Rattle.pdn_sql.specs.declared.query.Block.{Block}
use Rattle.pdn_tree.specs.declared.node.Node.{Node}
use Rattle.pdn_tree.specs.declared.node.Node.TheVariants as node
use Rattle.pdn_plan.specs.declared.scope.Bound.{Bound}
use Rattle.pdn_plan.specs.declared.scope.Seen.{Seen}
use Rattle.pdn_tree.specs.Columns.{Clauses, has}
use Rattle.pdn_tree.specs.Shapes.{nodes, has_join}
use Rattle.pdn_plan.specs.Splitting.{left_over, left_by, clauses_columns, ons}
use Rattle.pdn_plan.specs.Steps.{step_of, items_columns}
use Rattle.pdn_plan.specs.Names.{first_of, or_else, refuse_if, place, placed, cond_refusal, col_refusal}
use Rattle.pdn_plan.specs.Planning.{named, kept, step_width, block_node}
use Rattle.pdn_plan.specs.Binding.{joins_below, is_wide, is_counted, is_grouped, items_refusal, loose_refusal, after_sources}
use Rattle.pdn_plan.specs.Keeping.{deepened, least_tree, stand_in, capped}
use Rattle.pdn_plan.proofs.SizeLaws.{above-Distinct, nodes-Distinct, nodes-Scan, nodes-Join, joins-Scan, joins-Join}
use Rattle.pdn_plan.proofs.BlockSizes.{is_large, some_large, block-large, block-joins}

-- ---- the tree that stands for a large one

deepened-nodes : (k : ℕ) (n : Node) → nodes (deepened k n) ≡ k + nodes n
deepened-nodes zero n = omega arith
deepened-nodes (suc k) n = omega (arith, nodes-Distinct (deepened k n), deepened-nodes k n)

-- one more Distinct, by a number that is not 0
pub deepened_more : (k : ℕ) (n : Node) → 0 < k → node.Distinct (deepened (k - 1) n) ≡ deepened k n
deepened_more zero n h = absurd (omega arith)
deepened_more (suc k) n h = ap (λ j. node.Distinct (deepened j n)) (omega arith)

deepened-joins : (k : ℕ) (n : Node) → has_join (deepened k n) ≡ has_join n
deepened-joins zero n = refl
deepened-joins (suc k) n = (above-Distinct (deepened k n)).same_join ∙ deepened-joins k n

least-some : (b : Bool) → 1 ≤ nodes (least_tree b)
least-some true = omega (arith, nodes-Join (node.Scan 0) (node.Scan 0) [])
least-some false = omega (arith, nodes-Scan 0)

least-joins : (b : Bool) → has_join (least_tree b) ≡ b
least-joins true = joins-Join (node.Scan 0) (node.Scan 0) []
least-joins false = joins-Scan 0

stand-in-large : (b : Bool) → nat_lt 32 (nodes (stand_in b)) ≡ true
unfolding stand_in
stand-in-large b = lt-ltb 32 (nodes (deepened 32 (least_tree b))) (omega (arith, deepened-nodes 32 (least_tree b), least-some b))

stand-in-joins : (b : Bool) → has_join (stand_in b) ≡ b
unfolding stand_in
stand-in-joins b = deepened-joins 32 (least_tree b) ∙ least-joins b

-- ---- a capped tree

capped-by : (n : Node) (b : Bool) → nat_lt 32 (nodes n) ≡ b → capped n ≡ cond b (stand_in (has_join n)) n
unfolding capped
capped-by n b e = ap (λ x. cond x (stand_in (has_join n)) n) e

pub capped-small : (n : Node) → nat_lt 32 (nodes n) ≡ false → capped n ≡ n
capped-small n e = capped-by n false e

pub capped-large : (n : Node) → nat_lt 32 (nodes n) ≡ true → capped n ≡ stand_in (has_join n)
capped-large n e = capped-by n true e

pub capped-size : (n : Node) → nat_lt 32 (nodes (capped n)) ≡ nat_lt 32 (nodes n)
capped-size n = one (nat_lt 32 (nodes n)) refl
  where
    one : (b : Bool) → nat_lt 32 (nodes n) ≡ b → nat_lt 32 (nodes (capped n)) ≡ nat_lt 32 (nodes n)
    one true e = ap (λ m. nat_lt 32 (nodes m)) (capped-large n e) ∙ stand-in-large (has_join n) ∙ sym e
    one false e = ap (λ m. nat_lt 32 (nodes m)) (capped-small n e)

pub capped-joins : (n : Node) → has_join (capped n) ≡ has_join n
capped-joins n = one (nat_lt 32 (nodes n)) refl
  where
    one : (b : Bool) → nat_lt 32 (nodes n) ≡ b → has_join (capped n) ≡ has_join n
    one true e = ap has_join (capped-large n e) ∙ stand-in-joins (has_join n)
    one false e = ap has_join (capped-small n e)

pub capped-twice : (n : Node) → capped (capped n) ≡ capped n
capped-twice n = one (nat_lt 32 (nodes n)) refl
  where
    one : (b : Bool) → nat_lt 32 (nodes n) ≡ b → capped (capped n) ≡ capped n
    one true e = capped-large (capped n) (capped-size n ∙ e) ∙ ap stand_in (capped-joins n) ∙ sym (capped-large n e)
    one false e = ap capped (capped-small n e)

-- large trees that agree on Joins are capped alike
capped-alike : (m n : Node) → nat_lt 32 (nodes m) ≡ true → nat_lt 32 (nodes n) ≡ true → has_join m ≡ has_join n → capped m ≡ capped n
capped-alike m n e f j = capped-large m e ∙ ap stand_in j ∙ sym (capped-large n f)

-- trees that are capped alike are as large, as far as 32, and the same where they are not larger
pub same-size : (m n : Node) → capped m ≡ capped n → nat_lt 32 (nodes m) ≡ nat_lt 32 (nodes n)
same-size m n e = sym (capped-size m) ∙ ap (λ x. nat_lt 32 (nodes x)) e ∙ capped-size n

pub same-tree : (m n : Node) → capped m ≡ capped n → nat_lt 32 (nodes m) ≡ false → m ≡ n
same-tree m n e f = sym (capped-small m f) ∙ e ∙ capped-small n (sym (same-size m n e) ∙ f)

-- ---- a source with a capped tree

-- a source with another tree
abbrev pub bound_by : Node → Bound → Bound
bound_by n b = record { plan = n; width = b.width; on = b.on }

abbrev pub kept_bound : Bound → Bound
kept_bound b = bound_by (capped b.plan) b

abbrev pub kept_bounds : List Bound → List Bound
kept_bounds bs = map kept_bound bs

small-kept : (bs : List Bound) → some_large bs ≡ false → kept_bounds bs ≡ bs
small-kept [] e = refl
small-kept (b ∷ bs) e = one (is_large b) refl e (small-kept bs)
  where
    one : (x : Bool) → is_large b ≡ x → (x || some_large bs) ≡ false → (some_large bs ≡ false → kept_bounds bs ≡ bs) → kept_bounds (b ∷ bs) ≡ b ∷ bs
    one true f g next = absurd (true≢false g)
    one false f g next = ap₂ (λ (n : Node) (cs : List Bound). bound_by n b ∷ cs) (capped-small b.plan f) (next g)

large-kept : (bs : List Bound) → some_large (kept_bounds bs) ≡ some_large bs
large-kept [] = refl
large-kept (b ∷ bs) = ap₂ (λ x y. x || y) (capped-size b.plan) (large-kept bs)

some-joins-kept : (bs : List Bound) → list_any (λ s. has_join s.plan) (kept_bounds bs) ≡ list_any (λ s. has_join s.plan) bs
some-joins-kept [] = refl
some-joins-kept (b ∷ bs) = ap₂ (λ x y. x || y) (capped-joins b.plan) (some-joins-kept bs)

joins-kept : (bs : List Bound) → joins_below (kept_bounds bs) ≡ joins_below bs
joins-kept bs = ap₂ (λ n x. nat_lt 1 n || x) (length-map bs kept_bound) (some-joins-kept bs)

ons-kept : (bs : List Bound) → ons (kept_bounds bs) ≡ ons bs
ons-kept [] = refl
ons-kept (b ∷ bs) = ap (λ cs. b.on ++ cs) (ons-kept bs)

left-over-kept : (bs : List Bound) (from : ℕ) (asked : Clauses) → left_over from asked (kept_bounds bs) ≡ left_over from asked bs
left-over-kept [] from asked = refl
left-over-kept (b ∷ bs) from asked = left-over-kept bs (from + b.width) (left_by from b.width asked)

named-kept : (scope : List Seen) (bs : List Bound) (b : Block) → named scope (kept_bounds bs) b ≡ named scope bs b
named-kept scope bs b = ap₂ (λ (cs ds : Clauses). clauses_columns cs ++ (clauses_columns ds ++ (map (place scope) b.group ++ items_columns (place scope) b.items))) (ons-kept bs) (left-over-kept bs 0 (placed scope b.filter))

columns-kept : (scope : List Seen) (bs : List Bound) (b : Block) → kept scope (kept_bounds bs) b ≡ kept scope bs b
columns-kept scope bs b = ap (λ needed. filter (has needed) (range_with_len 0 (length scope))) (named-kept scope bs b)

wide-kept : (scope : List Seen) (bs : List Bound) (b : Block) → is_wide scope (kept_bounds bs) b ≡ is_wide scope bs b
wide-kept scope bs b = ap (λ ks. nat_lt 16 (length ks) || (nat_lt 16 (step_width ks (step_of (place scope) b)) || nat_lt 16 (length b.items))) (columns-kept scope bs b)

-- ---- a block

pub refusal-kept : (scope : List Seen) (bs : List Bound) (b : Block) → after_sources scope (kept_bounds bs) b ≡ after_sources scope bs b
unfolding after_sources
refusal-kept scope bs b = ap₂ (λ x y. or_else (cond_refusal scope b.filter) (or_else (first_of (col_refusal scope) b.group) (or_else (items_refusal scope b.items) (or_else (loose_refusal (is_grouped b) scope b)
    (or_else (refuse_if (is_counted b && x) 5 []) (or_else (refuse_if y 9 []) None)))))) (joins-kept bs) (wide-kept scope bs b)

pub node-kept : (scope : List Seen) (bs : List Bound) (b : Block) → capped (block_node scope (kept_bounds bs) b) ≡ capped (block_node scope bs b)
node-kept scope bs b = one (some_large bs) refl
  where
    one : (x : Bool) → some_large bs ≡ x → capped (block_node scope (kept_bounds bs) b) ≡ capped (block_node scope bs b)
    one true e = capped-alike _ _
        (lt-ltb 32 _ (block-large scope (kept_bounds bs) b (large-kept bs ∙ e)))
        (lt-ltb 32 _ (block-large scope bs b e))
        (block-joins scope (kept_bounds bs) b ∙ joins-kept bs ∙ sym (block-joins scope bs b))
    one false e = ap (λ cs. capped (block_node scope cs b)) (small-kept bs e)
