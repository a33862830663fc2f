-- Ascending values: each that occurs, once.
use Rattle.std.proofs.Common.{◌≡◌, ◌+◌, Bool, true, false, ◌||◌, cond, List, [], ◌∷◌, ◌++◌, count_by, refl, sym, ap, ap₂, ◌∙◌, subst, true≢false, Ordering, Less, Equal, Greater}
use Rattle.std.specs.List.{AllByRecursion}
use Rattle.std.specs.Ordering.{is_eq, ordering_reverse}
use Rattle.std.proofs.lemmas.List.Sums.{sum_by-cons}
use Rattle.pdn_base.specs.declared.value.Value.{Value}
use Rattle.pdn_base.specs.Totals.{value_cmp-total}
use Rattle.pdn_base.specs.Values.{value_cmp}
use Rattle.pdn_base.proofs.RowLaws.{value_cmp-ties, is_eq-tie}
use Rattle.pdn_level.specs.Cutting.{same_value}
use Rattle.pdn_site.specs.Directories.{placed_by, placed, ascending, stands_in}

-- each before all that follow
pub Asc : List Value → Type 0
Asc [] = Unit {0}
Asc (w ∷ ws) = AllByRecursion (λ u. value_cmp w u ≡ Less) ws × Asc ws

below_trans : (v w : Value) (ws : List Value) → value_cmp v w ≡ Less → AllByRecursion (λ u. value_cmp w u ≡ Less) ws → AllByRecursion (λ u. value_cmp v u ≡ Less) ws
below_trans v w [] e h = tt
below_trans v w (u ∷ us) e h = (value_cmp-total.trans v w u e h.0, below_trans v w us e h.1)

back : (v w : Value) (o : Ordering) → value_cmp v w ≡ o → value_cmp w v ≡ ordering_reverse o
back v w o e = value_cmp-total.antisymm w v ∙ ap ordering_reverse e

placed_below : (u v : Value) (ws : List Value) → value_cmp u v ≡ Less → AllByRecursion (λ w. value_cmp u w ≡ Less) ws → AllByRecursion (λ w. value_cmp u w ≡ Less) (placed v ws)
placed_below u v [] e h = (e, tt)
placed_below u v (w ∷ ws) e h = by (value_cmp v w) (placed_below u v ws e h.1)
  where
    by : (o : Ordering) → AllByRecursion (λ x. value_cmp u x ≡ Less) (placed v ws) → AllByRecursion (λ x. value_cmp u x ≡ Less) (placed_by o v w ws (placed v ws))
    by Less k = (e, h)
    by Equal k = h
    by Greater k = (h.0, k)

asc_by : (v w : Value) (ws : List Value) → Asc (w ∷ ws) → Asc (placed v ws) → (o : Ordering) → value_cmp v w ≡ o → Asc (placed_by o v w ws (placed v ws))
unfolding Asc
asc_by v w ws h k Less e = ((e, below_trans v w ws e h.0), h)
asc_by v w ws h k Equal e = h
asc_by v w ws h k Greater e = (placed_below w v ws (back v w Greater e) h.0, k)

placed_asc : (v : Value) (ws : List Value) → Asc ws → Asc (placed v ws)
unfolding Asc
placed_asc v [] h = (tt, tt)
placed_asc v (w ∷ ws) h = asc_by v w ws h (placed_asc v ws h.1) (value_cmp v w) refl

pub ascending_asc : (vs : List Value) → Asc (ascending vs)
unfolding Asc
ascending_asc [] = tt
ascending_asc (v ∷ vs) = placed_asc v (ascending vs) (ascending_asc vs)

-- ---- which values stand there
or_swap : (a b c : Bool) → (a || (b || c)) ≡ (b || (a || c))
or_swap true true c = refl
or_swap true false c = refl
or_swap false true c = refl
or_swap false false c = refl

or_once : (a c : Bool) → (a || c) ≡ (a || (a || c))
or_once true c = refl
or_once false c = refl

stands_placed : (x v : Value) (ws : List Value) → stands_in (placed v ws) x ≡ (same_value x v || stands_in ws x)
stands_placed x v [] = refl
stands_placed x v (w ∷ ws) = by (stands_placed x v ws) (value_cmp v w) refl
  where
    by : stands_in (placed v ws) x ≡ (same_value x v || stands_in ws x) → (o : Ordering) → value_cmp v w ≡ o → stands_in (placed_by o v w ws (placed v ws)) x ≡ (same_value x v || (same_value x w || stands_in ws x))
    by k Less e = refl
    by k Equal e = or_once (same_value x w) (stands_in ws x) ∙ ap (λ (u : Value). same_value x u || (same_value x w || stands_in ws x)) (sym (value_cmp-ties v w e))
    by k Greater e = ap (λ b. same_value x w || b) k ∙ or_swap (same_value x w) (same_value x v) (stands_in ws x)

pub stands_ascending : (x : Value) (vs : List Value) → stands_in (ascending vs) x ≡ stands_in vs x
stands_ascending x [] = refl
stands_ascending x (v ∷ vs) = stands_placed x v (ascending vs) ∙ ap (λ b. same_value x v || b) (stands_ascending x vs)

or_true_right : (a : Bool) → (a || true) ≡ true
or_true_right true = refl
or_true_right false = refl

pub stands_left : (x : Value) (xs ys : List Value) → stands_in xs x ≡ true → stands_in (xs ++ ys) x ≡ true
stands_left x [] ys h = absurd (true≢false (sym h))
stands_left x (v ∷ xs) ys h = by (stands_left x xs ys) (same_value x v) h
  where
    by : (stands_in xs x ≡ true → stands_in (xs ++ ys) x ≡ true) → (b : Bool) → (b || stands_in xs x) ≡ true → (b || stands_in (xs ++ ys) x) ≡ true
    by rest true k = refl
    by rest false k = rest k

pub stands_right : (x : Value) (xs ys : List Value) → stands_in ys x ≡ true → stands_in (xs ++ ys) x ≡ true
stands_right x [] ys h = h
stands_right x (v ∷ xs) ys h = ap (λ b. same_value x v || b) (stands_right x xs ys h) ∙ or_true_right (same_value x v)

-- ---- how often
none_below : (x : Value) (ws : List Value) → AllByRecursion (λ w. value_cmp x w ≡ Less) ws → count_by (λ v. same_value v x) ws ≡ 0
none_below x [] h = refl
none_below x (w ∷ ws) h = sum_by-cons (λ v. cond (same_value v x) 1 0) w ws ∙ ap₂ (λ m n. m + n) (ap (λ o. cond (is_eq o) 1 0) (back x w Less h.0)) (none_below x ws h.1)

is_eq_back : (o : Ordering) → is_eq (ordering_reverse o) ≡ is_eq o
is_eq_back Less = refl
is_eq_back Equal = refl
is_eq_back Greater = refl

same_back : (x y : Value) → same_value y x ≡ same_value x y
same_back x y = ap is_eq (value_cmp-total.antisymm y x) ∙ is_eq_back (value_cmp x y)

pub once : (x : Value) (ws : List Value) → Asc ws → stands_in ws x ≡ true → count_by (λ v. same_value v x) ws ≡ 1
unfolding Asc
once x [] h s = absurd (true≢false (sym s))
once x (w ∷ ws) h s = by h.0 (once x ws h.1) (same_value x w) refl
  where
    by : AllByRecursion (λ u. value_cmp w u ≡ Less) ws → (stands_in ws x ≡ true → count_by (λ v. same_value v x) ws ≡ 1) → (b : Bool) → same_value x w ≡ b → count_by (λ v. same_value v x) (w ∷ ws) ≡ 1
    by below rest true e =
        let is : x ≡ w = value_cmp-ties x w (is_eq-tie _ e) in
        sum_by-cons (λ v. cond (same_value v x) 1 0) w ws
        ∙ ap₂ (λ m n. m + n) (ap (λ b. cond b 1 0) (same_back x w ∙ e)) (none_below x ws (subst (λ (u : Value). AllByRecursion (λ v. value_cmp u v ≡ Less) ws) (sym is) below))
    by below rest false e =
        sum_by-cons (λ v. cond (same_value v x) 1 0) w ws
        ∙ ap₂ (λ m n. m + n) (ap (λ b. cond b 1 0) (same_back x w ∙ e)) (rest (ap (λ b. b || stands_in ws x) (sym e) ∙ s))
