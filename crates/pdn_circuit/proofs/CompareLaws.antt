-- What the blocks that compare and add come to, in each lane.
use Rattle.std.proofs.Common.{◌≡◌, ℕ, zero, suc, ◌+◌, ◌-◌, ◌*◌, ◌/◌, ◌%◌, ◌^◌, ◌<◌, ◌≤◌, min, max, Bool, true, false, List, [], ◌∷◌, ◌++◌, length, get_or, map, refl, sym, ap, ap₂, ◌∙◌, subst, arith, Ordering, Less, Equal, Greater, pow-suc}
use Rattle.std.specs.Prelude.{slice_index}
use Rattle.std.specs.Ordering.{nat_cmp, is_eq, ordering_then, MatchOrdering}
use Rattle.std.specs.Cmp.{nat_cmp_is}
use Rattle.std.specs.Int.{bit_at}
use Rattle.std.specs.List.{range_with_len}
use Rattle.std.proofs.lemmas.Cmp.{ranked}
use Rattle.std.proofs.lemmas.Nat.Bits.{bit_at_xor, bit_at_and, bit_at-lt, bit_at_ones, bit_at-zero, bit_at-suc, bit_at_lowest}
use Rattle.std.proofs.lemmas.List.FromFn.{length-map-range_with_len}
use Rattle.pdn_base.specs.Words.{◌⊕◌, ◌⊗◌}
use Rattle.pdn_circuit.specs.declared.gate.Gate.TheVariants.{Xor, And}
use Rattle.pdn_circuit.specs.Gates.{InputWords}
use Rattle.pdn_circuit.specs.Blocks.{Making, gives, one, ◌>>=◌}
use Rattle.pdn_circuit.specs.Plain.{Yields, Ends, lane_of, number_in, truth}
use Rattle.pdn_circuit.specs.Compare.{zero_gate, one_gate, not_gates, or_gates, agree_gates, all_gates, all_of_gates, equal_gates, less_gates, sum_gates, literal_planes, plus_gates, less_lane}
use Rattle.pdn_circuit.proofs.PlainLaws.{Twice, yields-one, yields-gives, yields-then}

pub lane_of-lt : (words : List ℕ) (lane gate : ℕ) → lane_of words lane gate < 2
lane_of-lt words lane gate = bit_at-lt (slice_index words gate) lane

-- ---- one gate in a lane
pub xor_lane : (words : List ℕ) (lane g x y : ℕ) → slice_index words g ≡ slice_index words x ⊕ slice_index words y → lane_of words lane g ≡ (lane_of words lane x + lane_of words lane y) % 2
xor_lane words lane g x y e = ap (λ n. bit_at n lane) e ∙ bit_at_xor (slice_index words x) (slice_index words y) lane

pub and_lane : (words : List ℕ) (lane g x y : ℕ) → slice_index words g ≡ slice_index words x ⊗ slice_index words y → lane_of words lane g ≡ min (lane_of words lane x) (lane_of words lane y)
and_lane words lane g x y e = ap (λ n. bit_at n lane) e ∙ bit_at_and (slice_index words x) (slice_index words y) lane

zero_lane : (words : List ℕ) (lane : ℕ) → Ends words → lane_of words lane 0 ≡ 0
zero_lane words lane e = ap (λ n. bit_at n lane) e.zeros ∙ bit_at-zero lane

one_lane : (words : List ℕ) (lane : ℕ) → lane < 64 → Ends words → lane_of words lane 1 ≡ 1
one_lane words lane h e = ap (λ n. bit_at n lane) e.ones ∙ bit_at_ones 64 lane h

-- a gate of 0 or 1 is a literal lane
pub literal_lane : (words : List ℕ) (lane d : ℕ) → lane < 64 → Ends words → d < 2 → lane_of words lane d ≡ d
literal_lane words lane zero h e b = zero_lane words lane e
literal_lane words lane (suc zero) h e b = one_lane words lane h e
literal_lane words lane (suc (suc d)) h e b = absurd (omega arith)

-- ---- the order of two numbers, from their lowest digits and the rest
digit_match : (o p : Ordering) (x y m n : ℕ) → x < 2 → y < 2 → MatchOrdering o (m < n) (m ≡ n) (n < m) → MatchOrdering p (x < y) (x ≡ y) (y < x)
    → MatchOrdering (ordering_then o p) (x + 2 * m < y + 2 * n) (x + 2 * m ≡ y + 2 * n) (y + 2 * n < x + 2 * m)
digit_match Less p x y m n a b h k = omega arith
digit_match Greater p x y m n a b h k = omega arith
digit_match Equal Less x y m n a b h k = omega arith
digit_match Equal Equal x y m n a b h k = omega arith
digit_match Equal Greater x y m n a b h k = omega arith

digit_order : (x y m n : ℕ) → x < 2 → y < 2 → nat_cmp (x + 2 * m) (y + 2 * n) ≡ ordering_then (nat_cmp m n) (nat_cmp x y)
digit_order x y m n a b = sym (nat_cmp_is (x + 2 * m) (y + 2 * n) (ordering_then (nat_cmp m n) (nat_cmp x y))
    (digit_match (nat_cmp m n) (nat_cmp x y) x y m n a b (ranked m n (nat_cmp m n) refl) (ranked x y (nat_cmp x y) refl)))

-- ---- less
less_digit : (p : Ordering) (x y lt : ℕ) → x < 2 → y < 2 → lt < 2 → MatchOrdering p (x < y) (x ≡ y) (y < x) → (lt + min ((x + y) % 2) ((y + lt) % 2)) % 2 ≡ less_lane p lt
less_digit Less x y lt a b c h = omega arith
less_digit Equal x y lt a b c h = omega arith
less_digit Greater x y lt a b c h = omega arith

less_then : (o p : Ordering) (init : ℕ) → less_lane (ordering_then o p) init ≡ less_lane o (less_lane p init)
less_then Less p init = refl
less_then Equal p init = refl
less_then Greater p init = refl

sum_digit : (x k c u v g t d : ℕ) → x < 2 → k < 2 → c < 2 → u ≡ (x + c) % 2 → v ≡ (k + c) % 2 → g ≡ min u v → t ≡ (u + k) % 2 → d ≡ (g + c) % 2 → t + 2 * d ≡ x + k + c
sum_digit x k c u v g t d h i j e f a b o = omega arith

equal_digit : (p : Ordering) (x y : ℕ) → x < 2 → y < 2 → MatchOrdering p (x < y) (x ≡ y) (y < x) → ((x + y) % 2 + 1) % 2 ≡ truth (is_eq p)
equal_digit Less x y a b h = omega arith
equal_digit Equal x y a b h = omega arith
equal_digit Greater x y a b h = omega arith

equal_then : (o p : Ordering) (a : ℕ) → a < 2 → min (min a (truth (is_eq p))) (truth (is_eq o)) ≡ min a (truth (is_eq (ordering_then o p)))
equal_then Less p a b = omega arith
equal_then Equal p a b = grind arith
equal_then Greater p a b = omega arith

truth-le : (b : Bool) → min 1 (truth b) ≡ truth b
truth-le true = refl
truth-le false = refl

shift_range : {X : Type 0} (f : ℕ → X) (a w : ℕ) → map f (range_with_len (a + 1) w) ≡ map (λ i. f (suc i)) (range_with_len a w)
shift_range f a zero = refl
shift_range f a (suc w) = ap₂ (λ x xs. x ∷ xs) (ap f (omega arith)) (shift_range f (a + 1) w)

map_same : {X Y : Type 0} (f g : X → Y) → ((x : X) → f x ≡ g x) → (xs : List X) → map f xs ≡ map g xs
map_same f g h [] = refl
map_same f g h (x ∷ xs) = ap₂ (λ y ys. y ∷ ys) (h x) (map_same f g h xs)

literal_more : (w number : ℕ) → literal_planes (suc w) number ≡ bit_at number 0 ∷ literal_planes w (number / 2)
literal_more w number = ap (λ (xs : List ℕ). bit_at number 0 ∷ xs) (shift_range (bit_at number) 0 w ∙ map_same _ _ (bit_at-suc number) (range_with_len 0 w))

pub literal_is : (words : List ℕ) (lane w number : ℕ) → lane < 64 → Ends words → number < 2 ^ w → number_in words lane (literal_planes w number) ≡ number
literal_is words lane zero number h e b = omega arith
literal_is words lane (suc w) number h e b =
    ap (number_in words lane) (literal_more w number)
    ∙ omega (arith, literal_lane words lane (bit_at number 0) h e (bit_at-lt number 0), bit_at_lowest number, literal_is words lane w (number / 2) h e (omega (arith, pow-suc 2 w)))

pub length-literal : (w number : ℕ) → length (literal_planes w number) ≡ w
length-literal w number = length-map-range_with_len (bit_at number) 0 w

-- the least of the lanes of a and of these
abbrev pub least : List ℕ → ℕ → ℕ → List ℕ → ℕ
least words lane a [] = a
least words lane a (t ∷ ts) = least words lane (min a (lane_of words lane t)) ts

module _ {inputs : InputWords} {words : List ℕ} (lane : ℕ) where
  -- one gate in a lane
  pub xor_is : (x y : ℕ) {g : ℕ} → Yields inputs words (one (Xor x y)) g → lane_of words lane g ≡ (lane_of words lane x + lane_of words lane y) % 2
  xor_is x y {g} m = xor_lane words lane g x y (yields-one _ m)

  pub and_is : (x y : ℕ) {g : ℕ} → Yields inputs words (one (And x y)) g → lane_of words lane g ≡ min (lane_of words lane x) (lane_of words lane y)
  and_is x y {g} m = and_lane words lane g x y (yields-one _ m)

  pub or_is : (x y : ℕ) {g : ℕ} → Yields inputs words (or_gates x y) g → lane_of words lane g ≡ max (lane_of words lane x) (lane_of words lane y)
  or_is x y m =
      let a = yields-then _ _ m in
      let b = yields-then _ _ a.rest in
      omega (arith, and_is _ _ a.first, xor_is _ _ b.first, xor_is _ _ b.rest, lane_of-lt words lane x, lane_of-lt words lane y)

  -- ---- less
  pub less_is : (less : ℕ) (xs ys : List ℕ) {g : ℕ} → length xs ≡ length ys → Yields inputs words (less_gates less xs ys) g
      → lane_of words lane g ≡ less_lane (nat_cmp (number_in words lane xs) (number_in words lane ys)) (lane_of words lane less)
  less_is less [] [] l m = ap (lane_of words lane) (yields-gives _ m)
  less_is less [] (y ∷ ys) l m = absurd (omega arith)
  less_is less (x ∷ xs) [] l m = absurd (omega arith)
  less_is less (x ∷ xs) (y ∷ ys) {g} l m =
      let a = yields-then _ _ m in
      let b = yields-then _ _ a.rest in
      let c = yields-then _ _ b.rest in
      let d = yields-then _ _ c.rest in
      let i : ℕ = lane_of words lane x in
      let j : ℕ = lane_of words lane y in
      let k : ℕ = lane_of words lane less in
      let o : Ordering = nat_cmp (number_in words lane xs) (number_in words lane ys) in
      let here : lane_of words lane d.x ≡ less_lane (nat_cmp i j) k
      = xor_is _ _ d.first ∙ ap (λ n. (k + n) % 2) (and_is _ _ c.first ∙ ap₂ min (xor_is _ _ a.first) (xor_is _ _ b.first))
      ∙ less_digit (nat_cmp i j) i j k (lane_of-lt words lane x) (lane_of-lt words lane y) (lane_of-lt words lane less) (ranked i j (nat_cmp i j) refl) in
      less_is d.x xs ys (omega arith) d.rest ∙ ap (less_lane o) here ∙ sym (less_then o (nat_cmp i j) k)
      ∙ ap (λ p. less_lane p k) (sym (digit_order i j (number_in words lane xs) (number_in words lane ys) (lane_of-lt words lane x) (lane_of-lt words lane y)))

  -- ---- all of some
  all_is : (acc : ℕ) (ts : List ℕ) {g : ℕ} → Yields inputs words (all_gates acc ts) g → lane_of words lane g ≡ least words lane (lane_of words lane acc) ts
  all_is acc [] m = ap (lane_of words lane) (yields-gives _ m)
  all_is acc (t ∷ ts) m =
      let a = yields-then _ _ m in
      all_is a.x ts a.rest ∙ ap (λ n. least words lane n ts) (and_is _ _ a.first)

  -- ---- sums
  pub sum_is : (carry : ℕ) (xs ys : List ℕ) {zs : List ℕ} → length xs ≡ length ys → Yields inputs words (sum_gates carry xs ys) zs
      → number_in words lane zs ≡ number_in words lane xs + number_in words lane ys + lane_of words lane carry
  sum_is carry [] [] l m = ap (number_in words lane) (yields-gives _ m) ∙ omega arith
  sum_is carry [] (y ∷ ys) l m = absurd (omega arith)
  sum_is carry (x ∷ xs) [] l m = absurd (omega arith)
  sum_is carry (x ∷ xs) (y ∷ ys) {zs} l m =
      let u = yields-then _ _ m in
      let v = yields-then _ _ u.rest in
      let b = yields-then _ _ v.rest in
      let s = yields-then _ _ b.rest in
      let n = yields-then _ _ s.rest in
      let r = yields-then _ _ n.rest in
      let here : lane_of words lane s.x + 2 * lane_of words lane n.x ≡ lane_of words lane x + lane_of words lane y + lane_of words lane carry
      = sum_digit _ _ _ _ _ _ _ _ (lane_of-lt words lane x) (lane_of-lt words lane y) (lane_of-lt words lane carry) (xor_is _ _ u.first) (xor_is _ _ v.first) (and_is _ _ b.first) (xor_is _ _ s.first) (xor_is _ _ n.first) in
      ap (number_in words lane) (yields-gives _ r.rest) ∙ omega (arith, sum_is n.x xs ys (omega arith) r.first)

  pub length-sum : (carry : ℕ) (xs ys : List ℕ) {zs : List ℕ} → length xs ≡ length ys → Yields inputs words (sum_gates carry xs ys) zs → length zs ≡ length xs + 1
  length-sum carry [] ys l m = ap length (yields-gives _ m)
  length-sum carry (x ∷ xs) [] l m = absurd (omega arith)
  length-sum carry (x ∷ xs) (y ∷ ys) l m =
      let u = yields-then _ _ m in
      let v = yields-then _ _ u.rest in
      let b = yields-then _ _ v.rest in
      let s = yields-then _ _ b.rest in
      let n = yields-then _ _ s.rest in
      let r = yields-then _ _ n.rest in
      ap length (yields-gives _ r.rest) ∙ omega (arith, length-sum n.x xs ys (omega arith) r.first)

  module _ (low : lane < 64) (ends : Ends words) where
    pub not_is : (x : ℕ) {g : ℕ} → Yields inputs words (not_gates x) g → lane_of words lane g ≡ 1 - lane_of words lane x
    not_is x m = omega (arith, xor_is _ _ m, one_lane words lane low ends, lane_of-lt words lane x)

    pub all_of_is : (ts : List ℕ) {g : ℕ} → Yields inputs words (all_of_gates ts) g → lane_of words lane g ≡ least words lane 1 ts
    all_of_is [] m = ap (lane_of words lane) (yields-gives _ m) ∙ one_lane words lane low ends
    all_of_is (t ∷ ts) m = all_is t ts m ∙ ap (λ a. least words lane a ts) (omega (arith, lane_of-lt words lane t))

    pub agree_is : (xs ys : List ℕ) (a : ℕ) {ts : List ℕ} → a < 2 → length xs ≡ length ys → Yields inputs words (agree_gates xs ys) ts
        → least words lane a ts ≡ min a (truth (is_eq (nat_cmp (number_in words lane xs) (number_in words lane ys))))
    agree_is [] [] a h l m = ap (least words lane a) (yields-gives _ m) ∙ omega arith
    agree_is [] (y ∷ ys) a h l m = absurd (omega arith)
    agree_is (x ∷ xs) [] a h l m = absurd (omega arith)
    agree_is (x ∷ xs) (y ∷ ys) a {ts} h l m =
        let d = yields-then _ _ m in
        let t = yields-then _ _ d.rest in
        let r = yields-then _ _ t.rest in
        let i : ℕ = lane_of words lane x in
        let j : ℕ = lane_of words lane y in
        let o : Ordering = nat_cmp (number_in words lane xs) (number_in words lane ys) in
        let here : lane_of words lane t.x ≡ truth (is_eq (nat_cmp i j))
        = xor_is _ _ t.first ∙ ap₂ (λ u v. (u + v) % 2) (xor_is _ _ d.first) (one_lane words lane low ends)
        ∙ equal_digit (nat_cmp i j) i j (lane_of-lt words lane x) (lane_of-lt words lane y) (ranked i j (nat_cmp i j) refl) in
        ap (least words lane a) (yields-gives _ r.rest)
        ∙ agree_is xs ys (min a (lane_of words lane t.x)) (omega (arith, lane_of-lt words lane t.x)) (omega arith) r.first
        ∙ ap (λ u. min (min a u) (truth (is_eq o))) here
        ∙ equal_then o (nat_cmp i j) a h
        ∙ ap (λ p. min a (truth (is_eq p))) (sym (digit_order i j (number_in words lane xs) (number_in words lane ys) (lane_of-lt words lane x) (lane_of-lt words lane y)))

    pub equal_is : (xs ys : List ℕ) {g : ℕ} → length xs ≡ length ys → Yields inputs words (equal_gates xs ys) g
        → lane_of words lane g ≡ truth (is_eq (nat_cmp (number_in words lane xs) (number_in words lane ys)))
    equal_is xs ys l m =
        let a = yields-then _ _ m in
        all_of_is a.x a.rest ∙ agree_is xs ys 1 (omega arith) l a.first ∙ truth-le (is_eq (nat_cmp (number_in words lane xs) (number_in words lane ys)))

    pub plus_is : (xs : List ℕ) (number : ℕ) {zs : List ℕ} → number < 2 ^ length xs → Yields inputs words (plus_gates xs number) zs
        → number_in words lane zs ≡ number_in words lane xs + number
    plus_is xs number b m =
        omega (arith, sum_is zero_gate xs (literal_planes (length xs) number) (sym (length-literal (length xs) number)) m, literal_is words lane (length xs) number low ends b, zero_lane words lane ends)
