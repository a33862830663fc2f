-- Filters, cells and widths of rows.
use Rattle.std.proofs.Common.{◌≡◌, ℕ, suc, zero, ◌+◌, ◌<◌, ◌≤◌, Bool, true, false, ◌&&◌, ◌==◌, cond, List, [], ◌∷◌, ◌++◌, map, filter, length, get_or, refl, ap, ap₂, subst, arith, length-append, eqb-true}
use Rattle.std.specs.List.{AllByRecursion}
use Rattle.std.proofs.lemmas.List.{get_or_append_left, get_or-append-add, length-map}
use Rattle.pdn_base.specs.declared.value.Value.{Value}
use Rattle.pdn_base.specs.declared.value.Value.TheVariants as value
use Rattle.pdn_base.specs.Values.{cell, cut}
use Rattle.pdn_base.specs.Bags.{pairs}
use Rattle.pdn_base.specs.Operators.{joined, project_rows}
use Rattle.pdn_tree.specs.Meaning.{Rows}
use Rattle.pdn_tree.specs.Columns.{Wide, Has, place_in}

pub filter-map : {X Y : Type 0} (p : Y → Bool) (f : X → Y) (xs : List X) → filter p (map f xs) ≡ map f (filter (λ x. p (f x)) xs)
filter-map p f [] = refl
filter-map {X} {Y} p f (x ∷ xs) = one (p (f x)) _ _ _ (filter-map p f xs)
  where
    one : (b : Bool) (x : X) (ys : List Y) (zs : List X) → ys ≡ map f zs → cond b (f x ∷ ys) ys ≡ map f (cond b (x ∷ zs) zs)
    one true x ys zs e = ap (λ us. f x ∷ us) e
    one false x ys zs e = e

pub filter-agree : {X : Type 0} (p q : X → Bool) → ((x : X) → p x ≡ q x) → (xs : List X) → filter p xs ≡ filter q xs
filter-agree p q h [] = refl
filter-agree p q h (x ∷ xs) = ap₂ (λ b ys. cond b (x ∷ ys) ys) (h x) (filter-agree p q h xs)

pub filter-none : {X : Type 0} (p : X → Bool) → ((x : X) → p x ≡ false) → (xs : List X) → filter p xs ≡ []
filter-none p h [] = refl
filter-none p h (x ∷ xs) = rw (h x) (filter-none p h xs)

pub filter-filter : {X : Type 0} (p q : X → Bool) (xs : List X) → filter p (filter q xs) ≡ filter (λ x. q x && p x) xs
filter-filter p q [] = refl
filter-filter {X} p q (x ∷ xs) = one (q x) (p x) x _ _ (filter-filter p q xs) refl
  where
    one : (b c : Bool) (x : X) (ys zs : List X) → filter p ys ≡ zs → p x ≡ c → filter p (cond b (x ∷ ys) ys) ≡ cond (b && c) (x ∷ zs) zs
    one true true x ys zs e h = rw h (ap (λ us. x ∷ us) e)
    one true false x ys zs e h = rw h e
    one false c x ys zs e h = e

pub both_true : (a b : Bool) → (a && b) ≡ true → (a ≡ true) × (b ≡ true)
both_true true b e = (refl, e)
both_true false b e = absurd cc

-- cells
pub cell-left : (w : ℕ) (a b : List Value) → length a ≡ w → (c : ℕ) → c < w → cell (a ++ b) c ≡ cell a c
cell-left w a b e c h = get_or_append_left a b (value.Int 0) c (omega arith)

pub cell-right : (w : ℕ) (a b : List Value) → length a ≡ w → (c : ℕ) → cell (a ++ b) (w + c) ≡ cell b c
cell-right w a b e c = subst (λ (n : ℕ). cell (a ++ b) (n + c) ≡ cell b c) e (get_or-append-add a b c (value.Int 0))

pub cell-cut-at : (columns : List ℕ) (s : ℕ) → s < length columns → (row : List Value) → cell (cut columns row) s ≡ cell row (get_or columns s 0)
cell-cut-at [] s h row = absurd (omega (arith, h))
cell-cut-at (c ∷ cs) zero h row = refl
cell-cut-at (c ∷ cs) (suc s) h row = cell-cut-at cs s (omega (arith, h)) row

place_step : (k c : ℕ) (ks : List ℕ) (row : List Value) → (Has ks c → cell (cut ks row) (place_in ks c) ≡ cell row c) → Has (k ∷ ks) c → (b : Bool) → (k == c) ≡ b → cell (cell row k ∷ cut ks row) (cond b 0 (suc (place_in ks c))) ≡ cell row c
place_step k c ks row next h true e = ap (cell row) (eqb-true k c e)
place_step k c ks row next h false e = next (rw e at h)

pub cell-cut : (kept : List ℕ) (row : List Value) (c : ℕ) → Has kept c → cell (cut kept row) (place_in kept c) ≡ cell row c
cell-cut [] row c h = absurd cc
cell-cut (k ∷ ks) row c h = place_step k c ks row (cell-cut ks row c) h (k == c) refl

-- widths
pub wide-filter : (w : ℕ) (p : List Value → Bool) (rows : Rows) → Wide w rows → Wide w (filter p rows)
wide-filter w p [] h = tt
wide-filter w p (x ∷ xs) h = one (p x) (wide-filter w p xs h.1)
  where
    one : (b : Bool) → Wide w (filter p xs) → Wide w (cond b (x ∷ filter p xs) (filter p xs))
    one true k = (h.0, k)
    one false k = k

pub wide-project : (columns : List ℕ) (rows : Rows) → Wide (length columns) (project_rows columns rows)
wide-project columns [] = tt
wide-project columns (x ∷ xs) = (length-map columns (cell x), wide-project columns xs)

wide-row : (w v : ℕ) (a : List Value) → length a ≡ w → (S : Rows) → Wide v S → Wide (w + v) (map (joined a) S)
wide-row w v a e [] h = tt
wide-row w v a e (b ∷ S) h = (omega (arith, length-append a b, h.0), wide-row w v a e S h.1)

pub wide-append : (n : ℕ) (xs ys : Rows) → Wide n xs → Wide n ys → Wide n (xs ++ ys)
wide-append n [] ys h k = k
wide-append n (x ∷ xs) ys h k = (h.0, wide-append n xs ys h.1 k)

pub wide-pairs : (w v : ℕ) (P S : Rows) → Wide w P → Wide v S → Wide (w + v) (pairs joined P S)
wide-pairs w v [] S h k = tt
wide-pairs w v (a ∷ P) S h k = wide-append (w + v) (map (joined a) S) (pairs joined P S) (wide-row w v a h.0 S k) (wide-pairs w v P S h.1 k)

-- facts of all elements
pub all-append : {X : Type 0} (P : X → Type 0) (xs ys : List X) → AllByRecursion P xs → AllByRecursion P ys → AllByRecursion P (xs ++ ys)
all-append P [] ys h k = k
all-append P (x ∷ xs) ys h k = (h.0, all-append P xs ys h.1 k)

pub all_on : {X : Type 0} (P Q : X → Type 0) → ((x : X) → P x → Q x) → (xs : List X) → AllByRecursion P xs → AllByRecursion Q xs
all_on P Q w [] h = tt
all_on P Q w (x ∷ xs) h = (w x h.0, all_on P Q w xs h.1)

pub all_filter : {X : Type 0} (P : X → Type 0) (p : X → Bool) (xs : List X) → AllByRecursion P xs → AllByRecursion P (filter p xs)
all_filter P p [] h = tt
all_filter {X} P p (x ∷ xs) h = one (p x) (all_filter P p xs h.1)
  where
    one : (b : Bool) → AllByRecursion P (filter p xs) → AllByRecursion P (cond b (x ∷ filter p xs) (filter p xs))
    one true k = (h.0, k)
    one false k = k

pub passes : {X : Type 0} (p : X → Bool) (xs : List X) → AllByRecursion (λ x. p x ≡ true) (filter p xs)
passes p [] = tt
passes {X} p (x ∷ xs) = one (p x) refl (passes p xs)
  where
    one : (b : Bool) → p x ≡ b → AllByRecursion (λ y. p y ≡ true) (filter p xs) → AllByRecursion (λ y. p y ≡ true) (cond b (x ∷ filter p xs) (filter p xs))
    one true e k = (e, k)
    one false e k = k

-- elements past the end
pub get_or-past : {X : Type 0} (xs : List X) (d : X) (i : ℕ) → length xs ≤ i → get_or xs i d ≡ d
get_or-past [] d i h = refl
get_or-past (x ∷ xs) d zero h = absurd (omega (arith, h))
get_or-past (x ∷ xs) d (suc i) h = get_or-past xs d i (omega (arith, h))
