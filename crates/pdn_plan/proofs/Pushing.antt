-- Filters and cuts that are pushed below the joins change nothing: not even the order of the rows.
use Rattle.std.proofs.Common.{◌≡◌, ℕ, ◌+◌, ◌<◌, Bool, true, false, ◌&&◌, cond, List, [], ◌∷◌, ◌++◌, map, filter, length, sym, refl, ap, ap₂, ◌∙◌, arith, ⊎_elim, length-append}
use Rattle.std.specs.List.{AllByRecursion}
use Rattle.std.proofs.lemmas.Bool.{cases_Bool}
use Rattle.std.proofs.lemmas.List.{map-append}
use Rattle.std.proofs.lemmas.List.Elements.{filter-append}
use Rattle.pdn_base.specs.declared.value.Value.{Value}
use Rattle.pdn_base.specs.Values.{cut}
use Rattle.pdn_base.specs.Conditions.{meets, clause_true}
use Rattle.pdn_base.proofs.Perms.{Perm}
use Rattle.pdn_base.proofs.Perms.Perm.{none, more, exchange, then}
use Rattle.pdn_base.specs.Bags.{pairs}
use Rattle.pdn_base.specs.Operators.{filter_rows, project_rows, join_rows, joined}
use Rattle.pdn_tree.specs.Meaning.{Rows}
use Rattle.pdn_tree.specs.Columns.{Clauses, clauses_at, Names, place_in, Has, shifted, Below, Wide}
use Rattle.pdn_plan.specs.Splitting.{Part}
use Rattle.pdn_tree.specs.declared.node.Node.{Node}
use Rattle.pdn_plan.proofs.Blocks.{product, clauses_so_far, kept_so_far, planned, joins}
use Rattle.pdn_tree.proofs.ColumnLaws.{meets-at, names-weaker, meets-append, cell-right, cut-joined, cell-cut, cut-cut, all_names, meets-left, names-append, names-at}
use Rattle.pdn_base.specs.declared.cond.Cmp.{Cmp}

-- filters, maps and pairs
pub filter-map : {X Y : Type 0} (p : Y → Bool) (f : X → Y) (xs : List X) → filter p (map f xs) ≡ map f (filter (λ x. p (f x)) xs)
filter-map p f [] = refl
filter-map {X} {Y} p f (x ∷ xs) = one (p (f x)) _ _ _ (filter-map p f xs)
  where
    one : (b : Bool) (x : X) (ys : List Y) (zs : List X) → ys ≡ map f zs → cond b (f x ∷ ys) ys ≡ map f (cond b (x ∷ zs) zs)
    one true x ys zs e = ap (λ us. f x ∷ us) e
    one false x ys zs e = e

pub filter-agree : {X : Type 0} (p q : X → Bool) → ((x : X) → p x ≡ q x) → (xs : List X) → filter p xs ≡ filter q xs
filter-agree p q h [] = refl
filter-agree p q h (x ∷ xs) = ap₂ (λ b ys. cond b (x ∷ ys) ys) (h x) (filter-agree p q h xs)

pub map-agree : {X Y : Type 0} (f g : X → Y) → ((x : X) → f x ≡ g x) → (xs : List X) → map f xs ≡ map g xs
map-agree f g h [] = refl
map-agree f g h (x ∷ xs) = ap₂ (λ y ys. y ∷ ys) (h x) (map-agree f g h xs)

pub map-map : {X Y Z : Type 0} (g : Y → Z) (f : X → Y) (xs : List X) → map g (map f xs) ≡ map (λ x. g (f x)) xs
map-map g f [] = refl
map-map g f (x ∷ xs) = ap (λ ys. g (f x) ∷ ys) (map-map g f xs)

pub filter-none : {X : Type 0} (p : X → Bool) → ((x : X) → p x ≡ false) → (xs : List X) → filter p xs ≡ []
filter-none p h [] = refl
filter-none p h (x ∷ xs) = rw (h x) (filter-none p h xs)

pub filter-all : {X : Type 0} (p : X → Bool) → ((x : X) → p x ≡ true) → (xs : List X) → filter p xs ≡ xs
filter-all p h [] = refl
filter-all p h (x ∷ xs) = rw (h x) (ap (λ ys. x ∷ ys) (filter-all p h xs))

pub filter-filter : {X : Type 0} (p q : X → Bool) (xs : List X) → filter p (filter q xs) ≡ filter (λ x. q x && p x) xs
filter-filter p q [] = refl
filter-filter {X} p q (x ∷ xs) = one (q x) (p x) x _ _ (filter-filter p q xs) refl
  where
    one : (b c : Bool) (x : X) (ys zs : List X) → filter p ys ≡ zs → p x ≡ c → filter p (cond b (x ∷ ys) ys) ≡ cond (b && c) (x ∷ zs) zs
    one true true x ys zs e h = rw h (ap (λ us. x ∷ us) e)
    one true false x ys zs e h = rw h e
    one false c x ys zs e h = e

-- two filters, one after the other, are one
pub filter_both : (cs ds : Clauses) (rows : Rows) → filter_rows ds (filter_rows cs rows) ≡ filter_rows (cs ++ ds) rows
filter_both cs ds rows = filter-filter (meets ds) (meets cs) rows ∙ filter-agree _ _ (λ row. sym (meets-append cs ds row)) rows

-- what one left row makes
one_row : (w : ℕ) (kept keep : List ℕ) (local on : Clauses) (a : List Value) → length a ≡ w → Below w kept → Names (Has (kept ++ shifted w keep)) on → (S : Rows)
    → filter_rows (clauses_at (place_in (kept ++ shifted w keep)) on) (map (joined (cut kept a)) (project_rows keep (filter_rows local S)))
    ≡ project_rows (kept ++ shifted w keep) (filter_rows on (filter_rows (clauses_at (λ c. w + c) local) (map (joined a) S)))
one_row w kept keep local on a long below names S =
    let all : List ℕ = kept ++ shifted w keep in
    let side : map (joined (cut kept a)) (project_rows keep (filter_rows local S)) ≡ project_rows all (map (joined a) (filter_rows local S)) =
    map-map (joined (cut kept a)) (cut keep) (filter_rows local S)
    ∙ map-agree _ _ (λ b. sym (cut-joined w a b long kept keep below)) (filter_rows local S)
    ∙ sym (map-map (cut all) (joined a) (filter_rows local S)) in
    let locals : map (joined a) (filter_rows local S) ≡ filter_rows (clauses_at (λ c. w + c) local) (map (joined a) S) =
    sym (filter-map (meets (clauses_at (λ c. w + c) local)) (joined a) S
    ∙ ap (map (joined a)) (filter-agree _ _ (λ b. meets-at (λ c. w + c) b (a ++ b) local (all_names (λ c. cell-right w a b long c) local)) S)) in
    ap (filter_rows (clauses_at (place_in all) on)) side
    ∙ filter-map (meets (clauses_at (place_in all) on)) (cut all) (map (joined a) (filter_rows local S))
    ∙ ap (map (cut all)) (filter-agree _ _ (λ row. meets-at (place_in all) row (cut all row) on (names-weaker _ _ (λ c h. cell-cut all row c h) on names)) (map (joined a) (filter_rows local S))
    ∙ ap (filter_rows on) locals)

-- all clauses on the pairs of one left row that meets its own
kept_row : (w : ℕ) (cs ls on : Clauses) (a : List Value) → length a ≡ w → Names (λ c. c < w) cs → meets cs a ≡ true → (S : Rows)
    → filter_rows (cs ++ (ls ++ on)) (map (joined a) S) ≡ filter_rows on (filter_rows ls (map (joined a) S))
kept_row w cs ls on a long names h S =
    sym (filter_both cs (ls ++ on) (map (joined a) S))
    ∙ ap (filter_rows (ls ++ on)) (filter-map (meets cs) (joined a) S ∙ ap (map (joined a)) (filter-all _ (λ b. meets-left w a b long cs names ∙ h) S))
    ∙ sym (filter_both ls on (map (joined a) S))

dropped_row : (w : ℕ) (cs ds : Clauses) (a : List Value) → length a ≡ w → Names (λ c. c < w) cs → meets cs a ≡ false → (S : Rows)
    → filter_rows (cs ++ ds) (map (joined a) S) ≡ []
dropped_row w cs ds a long names h S =
    sym (filter_both cs ds (map (joined a) S))
    ∙ ap (filter_rows ds) (filter-map (meets cs) (joined a) S ∙ ap (map (joined a)) (filter-none _ (λ b. meets-left w a b long cs names ∙ h) S))

-- one more source joined, one left row at a time
step_kept : (m : Node → Rows) (w : ℕ) (kept : List ℕ) (cs : Clauses) (a : List Value) (P : Rows) (s : Part) → length a ≡ w → Below w kept → Names (λ c. c < w) cs → Names (Has (kept ++ shifted w s.keep)) s.on → meets cs a ≡ true
    → join_rows (clauses_at (place_in (kept ++ shifted w s.keep)) s.on) (project_rows kept (filter_rows cs P)) (planned m s)
    ≡ project_rows (kept ++ shifted w s.keep) (filter_rows (cs ++ (clauses_at (λ c. w + c) s.local ++ s.on)) (pairs joined P (m s.plan)))
    → join_rows (clauses_at (place_in (kept ++ shifted w s.keep)) s.on) (cut kept a ∷ project_rows kept (filter_rows cs P)) (planned m s)
    ≡ project_rows (kept ++ shifted w s.keep) (filter_rows (cs ++ (clauses_at (λ c. w + c) s.local ++ s.on)) (pairs joined (a ∷ P) (m s.plan)))
step_kept m w kept cs a P s long below small names h next =
    let all : List ℕ = kept ++ shifted w s.keep in
    let every : Clauses = cs ++ (clauses_at (λ c. w + c) s.local ++ s.on) in
    filter-append (meets (clauses_at (place_in all) s.on)) (map (joined (cut kept a)) (planned m s)) (pairs joined (project_rows kept (filter_rows cs P)) (planned m s))
    ∙ ap₂ (λ xs ys. xs ++ ys)
    (one_row w kept s.keep s.local s.on a long below names (m s.plan) ∙ ap (project_rows all) (sym (kept_row w cs (clauses_at (λ c. w + c) s.local) s.on a long small h (m s.plan))))
    next
    ∙ sym (ap (project_rows all) (filter-append (meets every) (map (joined a) (m s.plan)) (pairs joined P (m s.plan))) ∙ map-append (cut all) (filter_rows every (map (joined a) (m s.plan))) (filter_rows every (pairs joined P (m s.plan))))

step_dropped : (w : ℕ) (all : List ℕ) (cs ds : Clauses) (a : List Value) (P S : Rows) → length a ≡ w → Names (λ c. c < w) cs → meets cs a ≡ false
    → project_rows all (filter_rows (cs ++ ds) (pairs joined P S)) ≡ project_rows all (filter_rows (cs ++ ds) (pairs joined (a ∷ P) S))
step_dropped w all cs ds a P S long small h = sym (ap (project_rows all) (filter-append (meets (cs ++ ds)) (map (joined a) S) (pairs joined P S)
    ∙ ap (λ zs. zs ++ filter_rows (cs ++ ds) (pairs joined P S)) (dropped_row w cs ds a long small h S)))

pub join_step : (m : Node → Rows) (w : ℕ) (kept : List ℕ) (cs : Clauses) (P : Rows) (s : Part) → Wide w P → Below w kept → Names (λ c. c < w) cs → Names (Has (kept ++ shifted w s.keep)) s.on
    → join_rows (clauses_at (place_in (kept ++ shifted w s.keep)) s.on) (project_rows kept (filter_rows cs P)) (planned m s)
    ≡ project_rows (kept ++ shifted w s.keep) (filter_rows (cs ++ (clauses_at (λ c. w + c) s.local ++ s.on)) (pairs joined P (m s.plan)))
join_step m w kept cs [] s wide below small names = refl
join_step m w kept cs (a ∷ P) s wide below small names =
    let next = join_step m w kept cs P s wide.1 below small names in
    ⊎_elim
    (λ h. rw h (step_kept m w kept cs a P s wide.0 below small names h next))
    (λ h. rw h (next ∙ step_dropped w (kept ++ shifted w s.keep) cs (clauses_at (λ c. w + c) s.local ++ s.on) a P (m s.plan) wide.0 small h))
    (cases_Bool (meets cs a))

-- what a source needs of what stands before it
pub record Fits (m : Node → Rows) (w : ℕ) (kept : List ℕ) (s : Part) : Type 0 where
  pub wide : Wide s.width (m s.plan)
  pub keeps : Below s.width s.keep
  pub local : Names (λ c. c < s.width) s.local
  pub on : Names (λ c. c < w + s.width) s.on
  pub on_kept : Names (Has (kept ++ shifted w s.keep)) s.on

abbrev pub AllFit : (Node → Rows) → ℕ → List ℕ → List Part → Type 0
AllFit m w kept [] = Unit {0}
AllFit m w kept (s ∷ ss) = Fits m w kept s × AllFit m (w + s.width) (kept ++ shifted w s.keep) ss

pub wide-row : (w v : ℕ) (a : List Value) → length a ≡ w → (S : Rows) → Wide v S → Wide (w + v) (map (joined a) S)
wide-row w v a e [] h = tt
wide-row w v a e (b ∷ S) h = (omega (arith, length-append a b, h.0), wide-row w v a e S h.1)

pub wide-append : (n : ℕ) (xs ys : Rows) → Wide n xs → Wide n ys → Wide n (xs ++ ys)
wide-append n [] ys h k = k
wide-append n (x ∷ xs) ys h k = (h.0, wide-append n xs ys h.1 k)

pub wide-pairs : (w v : ℕ) (P S : Rows) → Wide w P → Wide v S → Wide (w + v) (pairs joined P S)
wide-pairs w v [] S h k = tt
wide-pairs w v (a ∷ P) S h k = wide-append (w + v) (map (joined a) S) (pairs joined P S) (wide-row w v a h.0 S k) (wide-pairs w v P S h.1 k)

pub below-both : (w v : ℕ) (ks ms : List ℕ) → Below w ks → Below v ms → Below (w + v) (ks ++ shifted w ms)
below-both w v [] [] h k = tt
below-both w v [] (m ∷ ms) h k = (omega (arith, k.0), below-both w v [] ms h k.1)
below-both w v (c ∷ ks) ms h k = (omega (arith, h.0), below-both w v ks ms h.1 k)

names-so-far : (w v : ℕ) (cs ls on : Clauses) → Names (λ c. c < w) cs → Names (λ c. c < v) ls → Names (λ c. c < w + v) on → Names (λ c. c < w + v) (cs ++ (clauses_at (λ c. w + c) ls ++ on))
names-so-far w v cs ls on h k l = names-append _ cs (clauses_at (λ c. w + c) ls ++ on) (names-weaker _ _ (λ c b. omega (arith, b)) cs h)
    (names-append _ (clauses_at (λ c. w + c) ls) on (names-at _ (λ c. w + c) ls (names-weaker _ _ (λ c b. omega (arith, b)) ls k)) l)

-- the whole product
pub pushed : (m : Node → Rows) (ss : List Part) (w : ℕ) (kept : List ℕ) (cs : Clauses) (P : Rows) → Wide w P → Below w kept → Names (λ c. c < w) cs → AllFit m w kept ss
    → joins m w kept (project_rows kept (filter_rows cs P)) ss ≡ project_rows (kept_so_far w kept ss) (filter_rows (clauses_so_far w cs ss) (product m P ss))
pushed m [] w kept cs P wide below small fit = refl
pushed m (s ∷ ss) w kept cs P wide below small fit =
    ap (λ rows. joins m (w + s.width) (kept ++ shifted w s.keep) rows ss) (join_step m w kept cs P s wide below small fit.0.on_kept)
    ∙ pushed m ss (w + s.width) (kept ++ shifted w s.keep) (cs ++ (clauses_at (λ c. w + c) s.local ++ s.on)) (pairs joined P (m s.plan))
    (wide-pairs w s.width P (m s.plan) wide fit.0.wide) (below-both w s.width kept s.keep below fit.0.keeps) (names-so-far w s.width cs s.local s.on small fit.0.local fit.0.on) fit.1

-- the order of clauses does not matter
pub meets-perm : {cs ds : Clauses} → Perm (List Cmp) cs ds → (row : List Value) → meets cs row ≡ meets ds row
meets-perm none row = refl
meets-perm (more c p) row = ap (λ b. clause_true row c && b) (meets-perm p row)
meets-perm (exchange c d cs) row = and_exchange (clause_true row c) (clause_true row d) (meets cs row)
  where
    and_exchange : (a b c : Bool) → (a && (b && c)) ≡ (b && (a && c))
    and_exchange true true c = refl
    and_exchange true false c = refl
    and_exchange false true c = refl
    and_exchange false false c = refl
meets-perm (then p q) row = meets-perm p row ∙ meets-perm q row

-- A block of sources, filters and items: its plan means what it says.
pub block_means : (m : Node → Rows) (ss : List Part) (w : ℕ) (kept : List ℕ) (cs : Clauses) (P : Rows) (rest asked : Clauses) (items : List ℕ) → Wide w P → Below w kept → Names (λ c. c < w) cs → AllFit m w kept ss
    → Names (Has (kept_so_far w kept ss)) rest → AllByRecursion (Has (kept_so_far w kept ss)) items → Perm (List Cmp) (clauses_so_far w cs ss ++ rest) asked
    → project_rows (map (place_in (kept_so_far w kept ss)) items) (filter_rows (clauses_at (place_in (kept_so_far w kept ss)) rest) (joins m w kept (project_rows kept (filter_rows cs P)) ss))
    ≡ project_rows items (filter_rows asked (product m P ss))
block_means m ss w kept cs P rest asked items wide below small fit rest_kept items_kept same =
    let all : List ℕ = kept_so_far w kept ss in
    let chosen : Rows = filter_rows (clauses_so_far w cs ss) (product m P ss) in
    ap (λ rows. project_rows (map (place_in all) items) (filter_rows (clauses_at (place_in all) rest) rows)) (pushed m ss w kept cs P wide below small fit)
    ∙ ap (project_rows (map (place_in all) items)) (filter-map (meets (clauses_at (place_in all) rest)) (cut all) chosen
    ∙ ap (map (cut all)) (filter-agree _ _ (λ row. meets-at (place_in all) row (cut all row) rest (names-weaker _ _ (λ c h. cell-cut all row c h) rest rest_kept)) chosen))
    ∙ map-map (cut (map (place_in all) items)) (cut all) (filter_rows rest chosen)
    ∙ map-agree _ _ (λ row. cut-cut all items row items_kept) (filter_rows rest chosen)
    ∙ ap (project_rows items) (filter_both (clauses_so_far w cs ss) rest (product m P ss) ∙ filter-agree _ _ (meets-perm same) (product m P ss))
