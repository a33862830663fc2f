-- Equal bags and exchanges of neighbours are one; and which functions take equal bags to equal bags.
use Rattle.std.proofs.Common.{◌≡◌, ℕ, ◌+◌, ◌<◌, Bool, true, false, not, cond, List, [], ◌∷◌, ◌++◌, map, filter, length, sum_by, sym, refl, ap, ◌∙◌, subst, arith, min, true≢false, ⊎_elim, IsPermutation}
use Rattle.std.proofs.lemmas.List.Sorted.{sum_by-IsPermutation}
use Rattle.std.proofs.lemmas.Bool.{cases_Bool}
use Rattle.std.proofs.lemmas.List.Sums.{sum_by-cons}
use Rattle.pdn_base.specs.Bags.{times, SameBag, TestsEquality, distinct, pairs}
use Rattle.pdn_base.proofs.Perms.{Perm, Perm-refl, Perm-same, Perm-sum, Perm-length, Perm-append, Perm-map, Perm-filter, Perm-flat_map, Perm-flat_map_each}
use Rattle.pdn_base.proofs.Perms.Perm.{none, more, exchange, then}

-- xs with the first of its x taken out
abbrev pub without : {X : Type 0} → (X → X → Bool) → X → List X → List X
without same x [] = []
without same x (y ∷ ys) = cond (same x y) ys (y ∷ without same x ys)

pub times-cons : {X : Type 0} (same : X → X → Bool) (x y : X) (ys : List X) → times same x (y ∷ ys) ≡ cond (same x y) 1 0 + times same x ys
times-cons same x y ys = sum_by-cons (λ z. cond (same x z) 1 0) y ys

pub times-hit : {X : Type 0} (same : X → X → Bool) (x y : X) (ys : List X) → same x y ≡ true → times same x (y ∷ ys) ≡ 1 + times same x ys
times-hit same x y ys e = times-cons same x y ys ∙ ap (λ b. cond b 1 0 + times same x ys) e

pub times-miss : {X : Type 0} (same : X → X → Bool) (x y : X) (ys : List X) → same x y ≡ false → times same x (y ∷ ys) ≡ times same x ys
times-miss same x y ys e = omega (arith, times-cons same x y ys ∙ ap (λ b. cond b 1 0 + times same x ys) e)

pub found : {X : Type 0} {same : X → X → Bool} → TestsEquality same → (x : X) (ys : List X) → 0 < times same x ys → Perm X (x ∷ without same x ys) ys
found t x [] h = absurd (omega (arith, h))
found {X} {same} t x (y ∷ ys) h = ⊎_elim
    (λ e. rw e (subst (λ (z : X). Perm X (x ∷ ys) (z ∷ ys)) (t.equal x y e) (Perm-refl (x ∷ ys))))
    (λ e. rw e (then (exchange x y (without same x ys)) (more y (found t x ys (omega (arith, times-miss same x y ys e))))))
    (cases_Bool (same x y))

pub times-same : {X : Type 0} (same : X → X → Bool) (x : X) {xs ys : List X} → Perm X xs ys → times same x xs ≡ times same x ys
times-same same x p = Perm-sum (λ z. cond (same x z) 1 0) p

-- each element equally often: the same by exchanges
pub Perm-from_times : {X : Type 0} {same : X → X → Bool} → TestsEquality same → (xs ys : List X) → ((x : X) → times same x xs ≡ times same x ys) → Perm X xs ys
Perm-from_times t [] [] h = none
Perm-from_times {X} {same} t [] (y ∷ ys) h = absurd (omega (arith, h y, times-hit same y y ys (t.itself y)))
Perm-from_times {X} {same} t (x ∷ xs) ys h =
    let in_ys : 0 < times same x ys = omega (arith, h x, times-hit same x x xs (t.itself x)) in
    let there : Perm X (x ∷ without same x ys) ys = found t x ys in_ys in
    then (more x (Perm-from_times t xs (without same x ys) (λ z. omega (arith, times-cons same z x xs, times-cons same z x (without same x ys), times-same same z there, h z)))) there

-- SameBag has the laws of exchanges, both ways
pub Perm-from_bag : {X : Type 0} {same : X → X → Bool} → TestsEquality same → {xs ys : List X} → SameBag same xs ys → Perm X xs ys
Perm-from_bag t {xs} {ys} b = Perm-from_times t xs ys b.times

pub SameBag-from_perm : {X : Type 0} (same : X → X → Bool) {xs ys : List X} → Perm X xs ys → SameBag same xs ys
SameBag-from_perm same p = record { times = λ x. times-same same x p }

pub SameBag-from_permutation : {X : Type 0} (same : X → X → Bool) (xs ys : List X) → IsPermutation xs ys → SameBag same xs ys
SameBag-from_permutation same xs ys p = record { times = λ x. sym (sum_by-IsPermutation (λ z. cond (same x z) 1 0) xs ys p) }

-- an equivalence
pub SameBag-refl : {X : Type 0} (same : X → X → Bool) (xs : List X) → SameBag same xs xs
SameBag-refl same xs = record { times = λ x. refl }

pub SameBag-sym : {X : Type 0} {same : X → X → Bool} {xs ys : List X} → SameBag same xs ys → SameBag same ys xs
SameBag-sym b = record { times = λ x. sym (b.times x) }

pub SameBag-trans : {X : Type 0} {same : X → X → Bool} {xs ys zs : List X} → SameBag same xs ys → SameBag same ys zs → SameBag same xs zs
SameBag-trans b c = record { times = λ x. b.times x ∙ c.times x }

pub SameBag-sum : {X : Type 0} {same : X → X → Bool} → TestsEquality same → (f : X → ℕ) {xs ys : List X} → SameBag same xs ys → sum_by f xs ≡ sum_by f ys
SameBag-sum t f b = Perm-sum f (Perm-from_bag t b)

pub SameBag-length : {X : Type 0} {same : X → X → Bool} → TestsEquality same → {xs ys : List X} → SameBag same xs ys → length xs ≡ length ys
SameBag-length t b = Perm-length (Perm-from_bag t b)

pub SameBag-append : {X : Type 0} {same : X → X → Bool} → TestsEquality same → {xs ys us vs : List X} → SameBag same xs ys → SameBag same us vs → SameBag same (xs ++ us) (ys ++ vs)
SameBag-append {X} {same} t b c = SameBag-from_perm same (Perm-append (Perm-from_bag t b) (Perm-from_bag t c))

pub SameBag-map : {X Y : Type 0} {same : X → X → Bool} → TestsEquality same → (other : Y → Y → Bool) (f : X → Y) {xs ys : List X} → SameBag same xs ys → SameBag other (map f xs) (map f ys)
SameBag-map t other f b = SameBag-from_perm other (Perm-map f (Perm-from_bag t b))

pub SameBag-filter : {X : Type 0} {same : X → X → Bool} → TestsEquality same → (p : X → Bool) {xs ys : List X} → SameBag same xs ys → SameBag same (filter p xs) (filter p ys)
SameBag-filter {X} {same} t p b = SameBag-from_perm same (Perm-filter p (Perm-from_bag t b))

pub SameBag-pairs : {X Y Z : Type 0} {same : X → X → Bool} {like : Y → Y → Bool} → TestsEquality same → TestsEquality like → (other : Z → Z → Bool) (both : X → Y → Z) {xs ys : List X} {us vs : List Y} → SameBag same xs ys → SameBag like us vs → SameBag other (pairs both xs us) (pairs both ys vs)
SameBag-pairs {X} {Y} {Z} t s other both {xs} {ys} {us} {vs} b c = SameBag-from_perm other (then
    (Perm-flat_map (λ x. map (both x) us) (Perm-from_bag t b))
    (Perm-flat_map_each (λ x. map (both x) us) (λ x. map (both x) vs) (λ x. Perm-map (both x) (Perm-from_bag s c)) ys))

-- distinct
pub filter-swap : {X : Type 0} (p q : X → Bool) (xs : List X) → filter p (filter q xs) ≡ filter q (filter p xs)
filter-swap p q [] = refl
filter-swap p q (x ∷ xs) = grind (arith, filter-swap p q xs)

pub same-back : {X : Type 0} {same : X → X → Bool} → TestsEquality same → (x y : X) → same x y ≡ false → same y x ≡ false
same-back {X} {same} t x y e = ⊎_elim
    (λ yes_back. absurd (true≢false (sym (subst (λ (z : X). same x z ≡ true) (sym (t.equal y x yes_back)) (t.itself x)) ∙ e)))
    (λ no_back. no_back)
    (cases_Bool (same y x))

distinct_step : {X : Type 0} (b c : Bool) (x y : X) (us vs : List X) → Perm X us vs → b ≡ false → c ≡ false → Perm X (x ∷ cond (not b) (y ∷ us) us) (y ∷ cond (not c) (x ∷ vs) vs)
distinct_step false false x y us vs p d e = then (exchange x y us) (more y (more x p))
distinct_step true c x y us vs p d e = absurd cc
distinct_step false true x y us vs p d e = absurd cc

distinct-exchange : {X : Type 0} {same : X → X → Bool} → TestsEquality same → (x y : X) (xs : List X) → Perm X (distinct same (x ∷ y ∷ xs)) (distinct same (y ∷ x ∷ xs))
distinct-exchange {X} {same} t x y xs = ⊎_elim
    (λ e. subst (λ (z : X). Perm X (distinct same (x ∷ z ∷ xs)) (distinct same (z ∷ x ∷ xs))) (t.equal x y e) (Perm-refl (distinct same (x ∷ x ∷ xs))))
    (λ e. distinct_step (same x y) (same y x) x y _ _ (Perm-same _ _ (filter-swap (λ z. not (same x z)) (λ z. not (same y z)) (distinct same xs))) e (same-back t x y e))
    (cases_Bool (same x y))

pub Perm-distinct : {X : Type 0} {same : X → X → Bool} → TestsEquality same → {xs ys : List X} → Perm X xs ys → Perm X (distinct same xs) (distinct same ys)
Perm-distinct t none = none
Perm-distinct {X} {same} t (more x p) = more x (Perm-filter (λ y. not (same x y)) (Perm-distinct t p))
Perm-distinct t (exchange x y xs) = distinct-exchange t x y xs
Perm-distinct t (then p q) = then (Perm-distinct t p) (Perm-distinct t q)

pub SameBag-distinct : {X : Type 0} {same : X → X → Bool} → TestsEquality same → {xs ys : List X} → SameBag same xs ys → SameBag same (distinct same xs) (distinct same ys)
SameBag-distinct {X} {same} t b = SameBag-from_perm same (Perm-distinct t (Perm-from_bag t b))

-- how often an element stands in a filtered list
filtered_hit : {X : Type 0} (same : X → X → Bool) (p : X → Bool) (x : X) (ys : List X) → same x x ≡ true → times same x (filter p ys) ≡ cond (p x) (times same x ys) 0 → (b : Bool) → p x ≡ b → times same x (filter p (x ∷ ys)) ≡ cond (p x) (times same x (x ∷ ys)) 0
filtered_hit same p x ys r h true e = rw e (times-hit same x x (filter p ys) r ∙ ap (λ n. 1 + n) (rw e at h) ∙ sym (times-hit same x x ys r))
filtered_hit same p x ys r h false e = rw e (rw e at h)

filtered_miss : {X : Type 0} (same : X → X → Bool) (p : X → Bool) (x y : X) (ys : List X) → same x y ≡ false → times same x (filter p ys) ≡ cond (p x) (times same x ys) 0 → (b : Bool) → p y ≡ b → times same x (filter p (y ∷ ys)) ≡ cond (p x) (times same x (y ∷ ys)) 0
filtered_miss same p x y ys m h true e = rw e (times-miss same x y (filter p ys) m ∙ h ∙ ap (λ n. cond (p x) n 0) (sym (times-miss same x y ys m)))
filtered_miss same p x y ys m h false e = rw e (h ∙ ap (λ n. cond (p x) n 0) (sym (times-miss same x y ys m)))

cond_zero : (b : Bool) → ◌≡◌ {A = ℕ} 0 (cond b 0 0)
cond_zero true = refl
cond_zero false = refl

pub times-filter : {X : Type 0} {same : X → X → Bool} → TestsEquality same → (p : X → Bool) (x : X) (xs : List X) → times same x (filter p xs) ≡ cond (p x) (times same x xs) 0
times-filter t p x [] = cond_zero (p x)
times-filter {X} {same} t p x (y ∷ ys) = ⊎_elim
    (λ e. subst (λ (z : X). times same x (filter p (z ∷ ys)) ≡ cond (p x) (times same x (z ∷ ys)) 0) (t.equal x y e) (filtered_hit same p x ys (t.itself x) (times-filter t p x ys) (p x) refl))
    (λ e. filtered_miss same p x y ys e (times-filter t p x ys) (p y) refl)
    (cases_Bool (same x y))

distinct_times : {X : Type 0} {same : X → X → Bool} → TestsEquality same → (x y : X) (ys : List X) → times same x (distinct same ys) ≡ min 1 (times same x ys) → (b : Bool) → same x y ≡ b → times same x (distinct same (y ∷ ys)) ≡ min 1 (times same x (y ∷ ys))
distinct_times {X} {same} t x y ys h true e = omega (arith, times-hit same x y ys e, times-hit same x y (filter (λ z. not (same y z)) (distinct same ys)) e, times-filter t (λ z. not (same y z)) x (distinct same ys) ∙ ap (λ b. cond (not b) (times same x (distinct same ys)) 0) (subst (λ (z : X). same z x ≡ true) (t.equal x y e) (t.itself x)))
distinct_times {X} {same} t x y ys h false e = omega (arith, h, times-miss same x y ys e, times-miss same x y (filter (λ z. not (same y z)) (distinct same ys)) e, times-filter t (λ z. not (same y z)) x (distinct same ys) ∙ ap (λ b. cond (not b) (times same x (distinct same ys)) 0) (same-back t x y e))

-- each that occurs, once
pub times-distinct : {X : Type 0} {same : X → X → Bool} → TestsEquality same → (x : X) (xs : List X) → times same x (distinct same xs) ≡ min 1 (times same x xs)
times-distinct t x [] = refl
times-distinct {X} {same} t x (y ∷ ys) = distinct_times t x y ys (times-distinct t x ys) (same x y) refl
