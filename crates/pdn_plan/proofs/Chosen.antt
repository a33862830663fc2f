-- The tree of a block's sources gives the rows that the block chose, cut to the columns that are kept.
use Rattle.std.proofs.Common.{◌≡◌, ℕ, ◌+◌, ◌<◌, Bool, true, false, cond, List, [], ◌∷◌, ◌++◌, map, sym, refl, ap, ap₂, ◌∙◌, subst, arith, map-id, append-nil, zero-add}
use Rattle.std.specs.Str.{bytes_eq}
use Rattle.std.proofs.lemmas.Slice.Eq.{bytes_eq-Decides}
use Rattle.std.specs.List.{AllByRecursion, range_with_len}
use Rattle.pdn_base.specs.declared.cond.Cmp.{Cmp}
use Rattle.pdn_base.specs.Values.{cut}
use Rattle.pdn_base.specs.Conditions.{meets}
use Rattle.pdn_base.specs.Operators.{filter_rows, project_rows, join_rows, joined}
use Rattle.pdn_base.proofs.Perms.{Perm}
use Rattle.pdn_tree.specs.declared.node.Node.{Node}
use Rattle.pdn_tree.specs.declared.node.Node.TheVariants as node
use Rattle.pdn_tree.specs.Meaning.{Rows, mean}
use Rattle.pdn_tree.specs.Columns.{Clauses, clauses_at, place_in, shifted, Names, Has, Wide}
use Rattle.pdn_plan.specs.Splitting.{Part, left_by, split, left_over, ons}
use Rattle.pdn_plan.specs.Planning.{filtered, cut_to, part_node, joins_node, sources_node}
use Rattle.pdn_plan.proofs.Blocks.{product, clauses_so_far, kept_so_far, planned, joins}
use Rattle.pdn_tree.proofs.ColumnLaws.{names-weaker, meets-at, cell-cut}
use Rattle.pdn_plan.proofs.Pushing.{filter-all, filter-map, filter-agree, filter_both, meets-perm, pushed, AllFit}
use Rattle.pdn_plan.proofs.SplitLaws.{split_asks}
use Rattle.pdn_plan.proofs.KeepLaws.{needed_below, keep_more, has_needed, AllSound, split_fits}
use Rattle.pdn_tree.proofs.NodeLaws.{mean-Filter, mean-Project, mean-Join}
use Rattle.pdn_plan.proofs.WidthLaws.{wide-filter, project-all}
use Rattle.pdn_plan.specs.declared.scope.Bound.{Bound}

-- a Filter and a Project that are left out change nothing
pub filtered-means : (tables : ℕ → Rows) (cs : Clauses) (n : Node) → mean tables (filtered cs n) ≡ filter_rows cs (mean tables n)
filtered-means tables [] n = sym (filter-all _ (λ row. refl) (mean tables n))
filtered-means tables (c ∷ cs) n = mean-Filter tables n (c ∷ cs)

pub cut-means : (tables : ℕ → Rows) (width : ℕ) (columns : List ℕ) (n : Node) → Wide width (mean tables n) → mean tables (cut_to width columns n) ≡ project_rows columns (mean tables n)
cut-means tables width columns n wide = one (bytes_eq columns (range_with_len 0 width)) refl
  where
    one : (b : Bool) → bytes_eq columns (range_with_len 0 width) ≡ b → mean tables (cond b n (node.Project n columns)) ≡ project_rows columns (mean tables n)
    one true e = sym (ap (λ cs. project_rows cs (mean tables n)) ((bytes_eq-Decides columns (range_with_len 0 width)).0 e) ∙ project-all width (mean tables n) wide)
    one false e = mean-Project tables n columns

part-means : (tables : ℕ → Rows) (p : Part) → Wide p.width (mean tables p.plan) → mean tables (part_node p) ≡ planned (mean tables) p
part-means tables p wide =
    cut-means tables p.width p.keep (filtered p.local p.plan) (subst (λ (rows : Rows). Wide p.width rows) (sym (filtered-means tables p.local p.plan)) (wide-filter p.width (meets p.local) (mean tables p.plan) wide))
    ∙ ap (project_rows p.keep) (filtered-means tables p.local p.plan)

abbrev pub AllWide : (ℕ → Rows) → List Part → Type 0
AllWide tables ps = AllByRecursion (λ p. Wide p.width (mean tables p.plan)) ps

joins-mean : (tables : ℕ → Rows) (ps : List Part) (width : ℕ) (kept : List ℕ) (n : Node) → AllWide tables ps → mean tables (joins_node width kept n ps) ≡ joins (mean tables) width kept (mean tables n) ps
joins-mean tables [] width kept n wide = refl
joins-mean tables (p ∷ ps) width kept n wide =
    let on : Clauses = clauses_at (place_in (kept ++ shifted width p.keep)) p.on in
    joins-mean tables ps (width + p.width) (kept ++ shifted width p.keep) (node.Join n (part_node p) on) wide.1
    ∙ ap (λ rows. joins (mean tables) (width + p.width) (kept ++ shifted width p.keep) rows ps)
    (mean-Join tables n (part_node p) on ∙ ap (join_rows on (mean tables n)) (part-means tables p wide.0))

-- the row of no columns, with which every product begins
abbrev pub start : Rows
start = [] ∷ []

-- a product that begins with it begins with the first source
start_joined : (rows : Rows) → join_rows [] start rows ≡ rows
start_joined rows = filter-all _ (λ row. refl) (map (joined []) rows ++ []) ∙ append-nil (map (joined []) rows) ∙ map-id rows

pub shifted-zero : (ks : List ℕ) → shifted 0 ks ≡ ks
shifted-zero [] = refl
shifted-zero (k ∷ ks) = ap₂ (λ c cs. c ∷ cs) (zero-add k) (shifted-zero ks)

-- the first source has no ON
abbrev pub NoFirstOn : List Bound → Type 0
NoFirstOn [] = ⊥
NoFirstOn (b ∷ bs) = b.on ≡ []

sources-mean : (tables : ℕ → Rows) (p : Part) (ps : List Part) → AllWide tables (p ∷ ps) → p.on ≡ [] → mean tables (sources_node (p ∷ ps)) ≡ joins (mean tables) 0 [] start (p ∷ ps)
sources-mean tables p ps wide none =
    joins-mean tables ps p.width p.keep (part_node p) wide.1
    ∙ ap (λ rows. joins (mean tables) p.width p.keep rows ps) (part-means tables p wide.0 ∙ sym (start_joined (planned (mean tables) p)))
    ∙ ap (λ w. joins (mean tables) w p.keep (join_rows [] start (planned (mean tables) p)) ps) (sym (zero-add p.width))
    ∙ ap (λ ks. joins (mean tables) (0 + p.width) ks (join_rows [] start (planned (mean tables) p)) ps) (sym (shifted-zero p.keep))
    ∙ ap (λ on. joins (mean tables) (0 + p.width) (shifted 0 p.keep) (join_rows (clauses_at (place_in (shifted 0 p.keep)) on) start (planned (mean tables) p)) ps) (sym none)

-- the widths of all sources
abbrev pub width_of : ℕ → List Bound → ℕ
width_of from [] = from
width_of from (b ∷ bs) = width_of (from + b.width) bs

pub kept_is : (needed : ℕ → Bool) (bs : List Bound) (from : ℕ) (asked : Clauses) → kept_so_far from (needed_below needed from) (split needed from asked bs) ≡ needed_below needed (width_of from bs)
kept_is needed [] from asked = refl
kept_is needed (b ∷ bs) from asked = ap (λ kept. kept_so_far (from + b.width) kept (split needed (from + b.width) (left_by from b.width asked) bs)) (keep_more needed from b.width) ∙ kept_is needed bs (from + b.width) (left_by from b.width asked)

-- the rows of the joined sources of which the rest is true are those of the product of which all is true, cut
rows_kept : (m : Node → Rows) (ss : List Part) (rest asked : Clauses) → AllFit m 0 [] ss
    → Names (Has (kept_so_far 0 [] ss)) rest → Perm (List Cmp) (clauses_so_far 0 [] ss ++ rest) asked
    → filter_rows (clauses_at (place_in (kept_so_far 0 [] ss)) rest) (joins m 0 [] start ss)
    ≡ project_rows (kept_so_far 0 [] ss) (filter_rows asked (product m start ss))
rows_kept m ss rest asked fit rest_kept same =
    let all : List ℕ = kept_so_far 0 [] ss in
    let chosen : Rows = filter_rows (clauses_so_far 0 [] ss) (product m start ss) in
    ap (λ rows. filter_rows (clauses_at (place_in all) rest) rows) (pushed m ss 0 [] [] start (refl, tt) tt tt fit)
    ∙ filter-map (meets (clauses_at (place_in all) rest)) (cut all) chosen
    ∙ ap (map (cut all)) (filter-agree _ _ (λ row. meets-at (place_in all) row (cut all row) rest (names-weaker _ _ (λ c h. cell-cut all row c h) rest rest_kept)) chosen)
    ∙ ap (project_rows all) (filter_both (clauses_so_far 0 [] ss) rest (product m start ss) ∙ filter-agree _ _ (meets-perm same) (product m start ss))

-- a column that is needed and there
abbrev pub Wanted : (ℕ → Bool) → ℕ → ℕ → Type 0
Wanted needed width c = (needed c ≡ true) × (c < width)

parts-wide : (tables : ℕ → Rows) (needed : ℕ → Bool) (bs : List Bound) (from : ℕ) (asked : Clauses) → AllSound (mean tables) needed from bs → AllWide tables (split needed from asked bs)
parts-wide tables needed [] from asked h = tt
parts-wide tables needed (b ∷ bs) from asked h = (h.0.wide, parts-wide tables needed bs (from + b.width) (left_by from b.width asked) h.1)

split-sources : (tables : ℕ → Rows) (needed : ℕ → Bool) (bs : List Bound) (asked : Clauses) → AllSound (mean tables) needed 0 bs → NoFirstOn bs
    → mean tables (sources_node (split needed 0 asked bs)) ≡ joins (mean tables) 0 [] start (split needed 0 asked bs)
split-sources tables needed [] asked h none = absurd none
split-sources tables needed (b ∷ bs) asked h none = sources-mean tables _ _ (parts-wide tables needed (b ∷ bs) 0 asked h) none

-- The plan of a block's sources and conditions: the rows of the product of which all is true, cut to what is needed.
pub chosen-means : (tables : ℕ → Rows) (needed : ℕ → Bool) (bs : List Bound) (asked : Clauses) → AllSound (mean tables) needed 0 bs → NoFirstOn bs
    → Names (Wanted needed (width_of 0 bs)) (left_over 0 asked bs)
    → let all = needed_below needed (width_of 0 bs) in
    mean tables (filtered (clauses_at (place_in all) (left_over 0 asked bs)) (sources_node (split needed 0 asked bs)))
    ≡ project_rows all (filter_rows (ons bs ++ asked) (product (mean tables) start (split needed 0 asked bs)))
chosen-means tables needed bs asked sound none names =
    let ss : List Part = split needed 0 asked bs in
    let rest : Clauses = left_over 0 asked bs in
    let kept : kept_so_far 0 [] ss ≡ needed_below needed (width_of 0 bs) = kept_is needed bs 0 asked in
    let has : (c : ℕ) → Wanted needed (width_of 0 bs) c → Has (kept_so_far 0 [] ss) c = λ c h. subst (λ (ks : List ℕ). Has ks c) (sym kept) (has_needed needed c 0 (width_of 0 bs) h.0 (omega arith) (omega (arith, h.1))) in
    filtered-means tables (clauses_at (place_in (needed_below needed (width_of 0 bs))) rest) (sources_node ss)
    ∙ ap (filter_rows (clauses_at (place_in (needed_below needed (width_of 0 bs))) rest)) (split-sources tables needed bs asked sound none)
    ∙ ap (λ ks. filter_rows (clauses_at (place_in ks) rest) (joins (mean tables) 0 [] start ss)) (sym kept)
    ∙ rows_kept (mean tables) ss rest (ons bs ++ asked) (split_fits (mean tables) needed bs 0 asked sound)
    (names-weaker _ _ has rest names) (split_asks needed bs 0 [] asked)
    ∙ ap (λ ks. project_rows ks (filter_rows (ons bs ++ asked) (product (mean tables) start ss))) kept
