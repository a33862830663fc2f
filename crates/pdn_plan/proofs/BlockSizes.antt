-- Size, Joins and Tops of a block's tree, by its sources.
use Rattle.std.proofs.Common.{◌≡◌, ◌≤◌, ◌<◌, ◌+◌, ℕ, suc, List, [], ◌∷◌, ◌++◌, ap, ap₂, ◌∙◌, sym, refl, Bool, true, false, ◌||◌, nat_lt, length, arith, ltb-true, lt-ltb}
use Rattle.std.specs.List.{list_any, AllByRecursion}
use Rattle.pdn_sql.specs.declared.query.Block.{Block}
use Rattle.pdn_tree.specs.declared.node.Node.{Node}
use Rattle.pdn_tree.specs.declared.node.Node.TheVariants as node
use Rattle.pdn_plan.specs.declared.scope.Bound.{Bound}
use Rattle.pdn_plan.specs.declared.scope.Seen.{Seen}
use Rattle.pdn_tree.specs.Columns.{Clauses, clauses_at, place_in, shifted, has}
use Rattle.pdn_tree.specs.Shapes.{nodes, has_join, tops}
use Rattle.pdn_plan.specs.Splitting.{Part, split, left_by, local_to, kept_of}
use Rattle.pdn_plan.specs.Steps.{step_of}
use Rattle.pdn_plan.specs.Names.{place, placed}
use Rattle.pdn_plan.specs.Planning.{filtered, cut_to, part_node, joins_node, sources_node, step_node, named, kept, chosen_node, step_width, block_items, block_node}
use Rattle.pdn_plan.specs.Binding.{joins_below}
use Rattle.pdn_plan.proofs.SizeLaws.{Above, above-more, above-filtered, above-cut, above-step, above-distinct, joins-Scan, tops-Scan, nodes-Join, joins-Join, tops-Join}

-- a source's tree has more than 32 nodes
abbrev pub is_large : Bound → Bool
is_large b = nat_lt 32 (nodes b.plan)

abbrev pub some_large : List Bound → Bool
some_large bs = list_any is_large bs

abbrev pub NoTops : List Bound → Type 0
NoTops bs = AllByRecursion (λ b. tops b.plan ≡ 0) bs

part_of : (ℕ → Bool) → ℕ → Clauses → Bound → Part
part_of needed from asked b = record { plan = b.plan; width = b.width; local = local_to from b.width asked; keep = kept_of needed from b.width; on = b.on }

above-part : (p : Part) → Above (part_node p) p.plan
above-part p = above-more (above-cut p.width p.keep (filtered p.local p.plan)) (above-filtered p.local p.plan)

-- ---- sizes

joins-larger : (needed : ℕ → Bool) (bs : List Bound) (w : ℕ) (ks : List ℕ) (n : Node) (from : ℕ) (asked : Clauses) → nodes n ≤ nodes (joins_node w ks n (split needed from asked bs))
joins-larger needed [] w ks n from asked = omega arith
joins-larger needed (b ∷ bs) w ks n from asked =
    let p : Part = record { plan = b.plan; width = b.width; local = local_to from b.width asked; keep = kept_of needed from b.width; on = b.on } in
    let kept : List ℕ = ks ++ shifted w p.keep in
    let on : Clauses = clauses_at (place_in kept) b.on in
    omega (arith, nodes-Join n (part_node p) on, joins-larger needed bs (w + b.width) kept (node.Join n (part_node p) on) (from + b.width) (left_by from b.width asked))

large-or : (a b : Bool) → (a || b) ≡ true → (C : Type 0) → (a ≡ true → C) → (b ≡ true → C) → C
large-or true b e C f g = f refl
large-or false b e C f g = g e

joins-large : (needed : ℕ → Bool) (bs : List Bound) (w : ℕ) (ks : List ℕ) (n : Node) (from : ℕ) (asked : Clauses) → some_large bs ≡ true → 32 < nodes (joins_node w ks n (split needed from asked bs))
joins-large needed [] w ks n from asked h = absurd cc
joins-large needed (b ∷ bs) w ks n from asked h =
    let p : Part = record { plan = b.plan; width = b.width; local = local_to from b.width asked; keep = kept_of needed from b.width; on = b.on } in
    let kept : List ℕ = ks ++ shifted w p.keep in
    let on : Clauses = clauses_at (place_in kept) b.on in
    large-or (is_large b) (some_large bs) h _
    (λ e. omega (arith, ltb-true 32 (nodes b.plan) e, (above-part p).no_smaller, nodes-Join n (part_node p) on, joins-larger needed bs (w + b.width) kept (node.Join n (part_node p) on) (from + b.width) (left_by from b.width asked)))
    (λ e. joins-large needed bs (w + b.width) kept (node.Join n (part_node p) on) (from + b.width) (left_by from b.width asked) e)

sources-large : (needed : ℕ → Bool) (bs : List Bound) (asked : Clauses) → some_large bs ≡ true → 32 < nodes (sources_node (split needed 0 asked bs))
sources-large needed [] asked h = absurd cc
sources-large needed (b ∷ bs) asked h =
    let p : Part = record { plan = b.plan; width = b.width; local = local_to 0 b.width asked; keep = kept_of needed 0 b.width; on = b.on } in
    large-or (is_large b) (some_large bs) h _
    (λ e. omega (arith, ltb-true 32 (nodes b.plan) e, (above-part p).no_smaller, joins-larger needed bs b.width p.keep (part_node p) (0 + b.width) (left_by 0 b.width asked)))
    (λ e. joins-large needed bs b.width p.keep (part_node p) (0 + b.width) (left_by 0 b.width asked) e)

-- ---- Joins

joins-joined : (needed : ℕ → Bool) (bs : List Bound) (w : ℕ) (ks : List ℕ) (n : Node) (from : ℕ) (asked : Clauses) → has_join (joins_node w ks n (split needed from asked bs)) ≡ (nat_lt 0 (length bs) || has_join n)
joins-joined needed [] w ks n from asked = refl
joins-joined needed (b ∷ bs) w ks n from asked =
    let p : Part = record { plan = b.plan; width = b.width; local = local_to from b.width asked; keep = kept_of needed from b.width; on = b.on } in
    let kept : List ℕ = ks ++ shifted w p.keep in
    let on : Clauses = clauses_at (place_in kept) b.on in
    joins-joined needed bs (w + b.width) kept (node.Join n (part_node p) on) (from + b.width) (left_by from b.width asked)
    ∙ ap (λ x. nat_lt 0 (length bs) || x) (joins-Join n (part_node p) on)
    ∙ or-true (nat_lt 0 (length bs))
    ∙ sym (ap (λ x. x || has_join n) (lt-ltb 0 (suc (length bs)) (omega arith)))
  where
    or-true : (x : Bool) → (x || true) ≡ true
    or-true true = refl
    or-true false = refl

sources-joined : (needed : ℕ → Bool) (bs : List Bound) (asked : Clauses) → has_join (sources_node (split needed 0 asked bs)) ≡ joins_below bs
sources-joined needed [] asked = joins-Scan 0
sources-joined needed (b ∷ []) asked =
    let p : Part = record { plan = b.plan; width = b.width; local = local_to 0 b.width asked; keep = kept_of needed 0 b.width; on = b.on } in
    (above-part p).same_join ∙ or-none (has_join b.plan)
  where
    or-none : (x : Bool) → x ≡ (x || false)
    or-none true = refl
    or-none false = refl
sources-joined needed (b ∷ c ∷ bs) asked =
    let p : Part = record { plan = b.plan; width = b.width; local = local_to 0 b.width asked; keep = kept_of needed 0 b.width; on = b.on } in
    joins-joined needed (c ∷ bs) b.width p.keep (part_node p) (0 + b.width) (left_by 0 b.width asked)
    ∙ ap (λ x. x || has_join (part_node p)) (lt-ltb 0 (suc (length bs)) (omega arith))
    ∙ sym (ap (λ x. x || list_any (λ s. has_join s.plan) (b ∷ c ∷ bs)) (lt-ltb 1 (suc (suc (length bs))) (omega arith)))

-- ---- Tops

joins-topless : (needed : ℕ → Bool) (bs : List Bound) (w : ℕ) (ks : List ℕ) (n : Node) (from : ℕ) (asked : Clauses) → tops n ≡ 0 → NoTops bs → tops (joins_node w ks n (split needed from asked bs)) ≡ 0
joins-topless needed [] w ks n from asked e h = e
joins-topless needed (b ∷ bs) w ks n from asked e h =
    let p : Part = record { plan = b.plan; width = b.width; local = local_to from b.width asked; keep = kept_of needed from b.width; on = b.on } in
    let kept : List ℕ = ks ++ shifted w p.keep in
    let on : Clauses = clauses_at (place_in kept) b.on in
    joins-topless needed bs (w + b.width) kept (node.Join n (part_node p) on) (from + b.width) (left_by from b.width asked)
    (tops-Join n (part_node p) on ∙ ap₂ (λ x y. x + y) e ((above-part p).same_tops ∙ h.0)) h.1

sources-topless : (needed : ℕ → Bool) (bs : List Bound) (asked : Clauses) → NoTops bs → tops (sources_node (split needed 0 asked bs)) ≡ 0
sources-topless needed [] asked h = tops-Scan 0
sources-topless needed (b ∷ bs) asked h =
    let p : Part = record { plan = b.plan; width = b.width; local = local_to 0 b.width asked; keep = kept_of needed 0 b.width; on = b.on } in
    joins-topless needed bs b.width p.keep (part_node p) (0 + b.width) (left_by 0 b.width asked) ((above-part p).same_tops ∙ h.0) h.1

-- ---- a block

above-sources : (scope : List Seen) (bs : List Bound) (b : Block) → Above (block_node scope bs b) (sources_node (split (has (named scope bs b)) 0 (placed scope b.filter) bs))
unfolding block_node
above-sources scope bs b =
    let chosen : Node = chosen_node scope bs b in
    let stepped : Node = step_node (kept scope bs b) (step_of (place scope) b) chosen in
    let cut : Node = cut_to (step_width (kept scope bs b) (step_of (place scope) b)) (block_items scope bs b) stepped in
    above-more (above-distinct b.distinct cut)
    (above-more (above-cut _ (block_items scope bs b) stepped)
    (above-more (above-step (kept scope bs b) (step_of (place scope) b) chosen)
    (above-filtered _ (sources_node (split (has (named scope bs b)) 0 (placed scope b.filter) bs)))))

-- a block of which a source has more than 32 nodes has more than 32
pub block-large : (scope : List Seen) (bs : List Bound) (b : Block) → some_large bs ≡ true → 32 < nodes (block_node scope bs b)
block-large scope bs b h = omega (arith, (above-sources scope bs b).no_smaller, sources-large (has (named scope bs b)) bs (placed scope b.filter) h)

-- a Join is in a block's tree where its sources are several or one of them has one
pub block-joins : (scope : List Seen) (bs : List Bound) (b : Block) → has_join (block_node scope bs b) ≡ joins_below bs
block-joins scope bs b = (above-sources scope bs b).same_join ∙ sources-joined (has (named scope bs b)) bs (placed scope b.filter)

pub block-topless : (scope : List Seen) (bs : List Bound) (b : Block) → NoTops bs → tops (block_node scope bs b) ≡ 0
block-topless scope bs b h = (above-sources scope bs b).same_tops ∙ sources-topless (has (named scope bs b)) bs (placed scope b.filter) h
