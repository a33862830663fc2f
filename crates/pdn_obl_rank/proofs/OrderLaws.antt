-- Orders of numbers that are put together from parts, and orders of rows that are put together from columns.
use Rattle.std.proofs.Common.{◌≡◌, ℕ, suc, ◌+◌, ◌*◌, ◌<◌, ◌≤◌, Bool, true, false, not, ◌||◌, cond, List, [], ◌∷◌, ◌++◌, length, map, filter, refl, sym, ap, ap₂, ◌∙◌, subst, arith, Ordering, Less, Equal, Greater, nat_eq}
use Rattle.std.specs.List.{range_with_len}
use Rattle.std.specs.Ordering.{nat_cmp, ordering_then, MatchOrdering}
use Rattle.std.specs.Cmp.{nat_cmp_is}
use Rattle.std.proofs.lemmas.Bool.{eqb-true}
use Rattle.std.proofs.lemmas.Cmp.{ranked, tied_itself}
use Rattle.pdn_base.specs.declared.marks.Kind.{Kind}
use Rattle.pdn_base.specs.declared.marks.Kind.TheVariants as kind
use Rattle.pdn_base.specs.declared.value.Value.{Value}
use Rattle.pdn_base.specs.declared.order.Key.{Key}
use Rattle.pdn_base.specs.Values.{value_cmp, cells_cmp, cell, directed, key_cmp, keys_cmp, row_cmp}
use Rattle.pdn_base.specs.Totals.{value_cmp-total}
use Rattle.pdn_base.proofs.RowLaws.{value_cmp-ties}
use Rattle.pdn_obl_rows.specs.Lists.{value_of}
use Rattle.pdn_obl_rank.specs.Keys.{ascending, is_named, sort_key}

-- ---- numbers in two parts
mul_above : (m b d : ℕ) → b < d → m * b + m ≤ m * d
mul_above m b d h = grind arith

parts_match : (o p : Ordering) (m a b c d : ℕ) → a < m → c < m → MatchOrdering o (b < d) (b ≡ d) (d < b) → MatchOrdering p (a < c) (a ≡ c) (c < a)
    → MatchOrdering (ordering_then o p) (a + m * b < c + m * d) (a + m * b ≡ c + m * d) (c + m * d < a + m * b)
parts_match Less p m a b c d h k x y = omega (arith, mul_above m b d x)
parts_match Greater p m a b c d h k x y = omega (arith, mul_above m d b x)
parts_match Equal Less m a b c d h k x y = omega (arith, ap (λ n. m * n) x)
parts_match Equal Equal m a b c d h k x y = omega (arith, ap (λ n. m * n) x)
parts_match Equal Greater m a b c d h k x y = omega (arith, ap (λ n. m * n) x)

-- two numbers whose higher parts decide first
pub parts_order : (m a b c d : ℕ) → a < m → c < m → nat_cmp (a + m * b) (c + m * d) ≡ ordering_then (nat_cmp b d) (nat_cmp a c)
parts_order m a b c d h k = sym (nat_cmp_is (a + m * b) (c + m * d) (ordering_then (nat_cmp b d) (nat_cmp a c))
    (parts_match (nat_cmp b d) (nat_cmp a c) m a b c d h k (ranked b d (nat_cmp b d) refl) (ranked a c (nat_cmp a c) refl)))

inverted_match : (o : Ordering) (t a b c d : ℕ) → a + c ≡ t → b + d ≡ t → MatchOrdering o (b < a) (b ≡ a) (a < b) → MatchOrdering o (c < d) (c ≡ d) (d < c)
inverted_match Less t a b c d h k x = omega (arith, h, k, x)
inverted_match Equal t a b c d h k x = omega (arith, h, k, x)
inverted_match Greater t a b c d h k x = omega (arith, h, k, x)

-- two numbers, each with another that makes the same sum
pub inverted_order : (t a b c d : ℕ) → a + c ≡ t → b + d ≡ t → nat_cmp c d ≡ nat_cmp b a
inverted_order t a b c d h k = sym (nat_cmp_is c d (nat_cmp b a) (inverted_match (nat_cmp b a) t a b c d h k (ranked b a (nat_cmp b a) refl)))

-- ---- values and rows
pub value_order : (k : Kind) (m n : ℕ) → value_cmp (value_of k m) (value_of k n) ≡ nat_cmp m n
value_order kind.Int m n = refl
value_order kind.Code m n = refl

then_once : (o p q : Ordering) → ordering_then (ordering_then o p) q ≡ ordering_then o (ordering_then p q)
then_once Less p q = refl
then_once Equal p q = refl
then_once Greater p q = refl

keys_append : (xs ys : List Key) (x y : List Value) → keys_cmp (xs ++ ys) x y ≡ ordering_then (keys_cmp xs x y) (keys_cmp ys x y)
keys_append [] ys x y = refl
keys_append (k ∷ ks) ys x y = ap (ordering_then (key_cmp k x y)) (keys_append ks ys x y) ∙ sym (then_once (key_cmp k x y) (keys_cmp ks x y) (keys_cmp ys x y))

-- all columns from one on
keys_all : (from : ℕ) (x y us vs : List Value) → length us ≡ length vs → ((c : ℕ) → c < length us → cell x (from + c) ≡ cell us c) → ((c : ℕ) → c < length vs → cell y (from + c) ≡ cell vs c)
    → keys_cmp (map ascending (range_with_len from (length us))) x y ≡ cells_cmp us vs
keys_all from x y [] [] l h k = refl
keys_all from x y [] (v ∷ vs) l h k = absurd (omega arith)
keys_all from x y (u ∷ us) [] l h k = absurd (omega arith)
keys_all from x y (u ∷ us) (v ∷ vs) l h k =
    let z : from + 0 ≡ from = omega arith in
    ap₂ ordering_then (ap₂ value_cmp (ap (cell x) (sym z) ∙ h 0 (omega arith)) (ap (cell y) (sym z) ∙ k 0 (omega arith)))
    (keys_all (from + 1) x y us vs (omega arith)
    (λ c b. let e : from + 1 + c ≡ from + suc c = omega arith in ap (cell x) e ∙ h (suc c) (omega arith))
    (λ c b. let e : from + 1 + c ≡ from + suc c = omega arith in ap (cell y) e ∙ k (suc c) (omega arith)))

-- columns that tie may be left out
keys_skip : (p : ℕ → Bool) (x y : List Value) (cs : List ℕ) → ((c : ℕ) → p c ≡ true → value_cmp (cell x c) (cell y c) ≡ Equal)
    → keys_cmp (map ascending (filter (λ c. not (p c)) cs)) x y ≡ keys_cmp (map ascending cs) x y
keys_skip p x y [] h = refl
keys_skip p x y (c ∷ cs) h = step (p c) refl (keys_skip p x y cs h)
  where
    step : (b : Bool) → p c ≡ b → keys_cmp (map ascending (filter (λ c. not (p c)) cs)) x y ≡ keys_cmp (map ascending cs) x y
        → keys_cmp (map ascending (cond (not b) (c ∷ filter (λ c. not (p c)) cs) (filter (λ c. not (p c)) cs))) x y ≡ ordering_then (value_cmp (cell x c) (cell y c)) (keys_cmp (map ascending cs) x y)
    step true e rest = rest ∙ sym (ap (λ o. ordering_then o (keys_cmp (map ascending cs) x y)) (h c e))
    step false e rest = ap (ordering_then (value_cmp (cell x c) (cell y c))) rest

ties_both : (o p : Ordering) → ordering_then o p ≡ Equal → (o ≡ Equal) × (p ≡ Equal)
ties_both Less p e = absurd cc
ties_both Equal p e = (refl, e)
ties_both Greater p e = absurd cc

itself : (v : Value) → value_cmp v v ≡ Equal
itself v = tied_itself value_cmp-total v

directed_tie : (down : Bool) (u v : Value) → directed down value_cmp u v ≡ Equal → value_cmp u v ≡ Equal
directed_tie true u v e = subst (λ (w : Value). value_cmp u w ≡ Equal) (sym (value_cmp-ties v u e)) (itself u)
directed_tie false u v e = e

-- rows that tie by an order tie in each of its columns
named_ties : (order : List Key) (x y : List Value) → keys_cmp order x y ≡ Equal → (c : ℕ) → is_named order c ≡ true → value_cmp (cell x c) (cell y c) ≡ Equal
named_ties [] x y e c h = absurd cc
named_ties (k ∷ ks) x y e c h =
    let both = ties_both (key_cmp k x y) (keys_cmp ks x y) e in
    step (nat_eq k.column c) refl h both.0 (named_ties ks x y both.1 c)
  where
    step : (b : Bool) → nat_eq k.column c ≡ b → (b || is_named ks c) ≡ true → key_cmp k x y ≡ Equal → (is_named ks c ≡ true → value_cmp (cell x c) (cell y c) ≡ Equal) → value_cmp (cell x c) (cell y c) ≡ Equal
    step true same h first rest = subst (λ (d : ℕ). value_cmp (cell x d) (cell y d) ≡ Equal) (eqb-true k.column c same) (directed_tie k.down (cell x k.column) (cell y k.column) first)
    step false same h first rest = rest h

after_order : (o p q : Ordering) → (o ≡ Equal → p ≡ q) → ordering_then o p ≡ ordering_then o q
after_order Less p q h = refl
after_order Equal p q h = h refl
after_order Greater p q h = refl

-- the sort key orders rows as the order does
pub sort_key_order : (order : List Key) (n : ℕ) (x y : List Value) → length x ≡ n → length y ≡ n → keys_cmp (sort_key order n) x y ≡ row_cmp order x y
sort_key_order order n x y h k =
    let rest : List Key = map ascending (filter (λ c. not (is_named order c)) (range_with_len 0 n)) in
    keys_append order rest x y
    ∙ after_order (keys_cmp order x y) (keys_cmp rest x y) (cells_cmp x y) (λ e.
    keys_skip (is_named order) x y (range_with_len 0 n) (named_ties order x y e)
    ∙ ap (λ m. keys_cmp (map ascending (range_with_len 0 m)) x y) (sym h)
    ∙ keys_all 0 x y x y (h ∙ sym k) (λ c b. ap (cell x) (let z : 0 + c ≡ c = omega arith in z)) (λ c b. ap (cell y) (let z : 0 + c ≡ c = omega arith in z)))
