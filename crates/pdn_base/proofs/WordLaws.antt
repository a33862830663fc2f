-- The algebra of words: each law bit by bit, and then digits by omega.
use Rattle.std.proofs.Common.{◌≡◌, ℕ, zero, suc, ◌+◌, ◌-◌, ◌*◌, ◌/◌, ◌%◌, ◌^◌, ◌<◌, ◌≤◌, refl, sym, ap, ◌∙◌, ⊎_elim, subst, pow-add, arith}
use Rattle.std.specs.Int.{bit_at}
use Rattle.std.proofs.lemmas.Bool.{cases_lt}
use Rattle.std.proofs.lemmas.Nat.Bits.{bit_at_xor, bit_at_and, bit_at-lt, bit_at-zero, bit_at_above, bit_at_ones, bit_at_cat_low, bit_at_cat_high, same_from_bits}
use Rattle.std.specs.Int.Bits.{xor_self, xor_zero_l, xor_zero_r, xor_assoc}
use Rattle.std.proofs.lemmas.Nat.{xor_comm, xor_shr, xor_mod, pow_pos, shr-shr, shr_split}
use Rattle.std.proofs.Math.Nat.{mod-eq_of_lt, mod-lt, zero-mul, zero-add, add-zero, mul-lt-mul_of_pos_right, lt_of_lt_of_le}
use Rattle.std.proofs.Math.Pow.{pow_mono}
use Rattle.pdn_base.specs.Words.{◌⊕◌, ◌⊗◌, spread, moved, IsProduct}

pub and-xor : (a b c : ℕ) → a ⊗ (b ⊕ c) ≡ a ⊗ b ⊕ a ⊗ c
and-xor a b c = same_from_bits _ _ (λ i. simp (bit_at_and, bit_at_xor) (omega arith))

pub and_comm : (a b : ℕ) → a ⊗ b ≡ b ⊗ a
and_comm a b = same_from_bits _ _ (λ i. simp bit_at_and (omega arith))

pub xor-and : (a b c : ℕ) → (a ⊕ b) ⊗ c ≡ a ⊗ c ⊕ b ⊗ c
xor-and a b c = and_comm (a ⊕ b) c ∙ and-xor c a b ∙ rw (and_comm c a, and_comm c b) refl

-- ---- sums in which pairs cancel
pub xor_twice : (a b : ℕ) → a ⊕ (a ⊕ b) ≡ b
xor_twice a b = sym (xor_assoc a a b) ∙ rw (xor_self a) (xor_zero_l b)

pub xor_pairs : (a b c d : ℕ) → (a ⊕ b) ⊕ (c ⊕ d) ≡ (a ⊕ c) ⊕ (b ⊕ d)
xor_pairs a b c d = same_from_bits _ _ (λ i. simp bit_at_xor (omega arith))

-- ---- products
regroup : (c k l m n o p : ℕ) → (c ⊕ k ⊕ l ⊕ m) ⊕ (n ⊕ c ⊕ o ⊕ p) ≡ ((k ⊕ o) ⊕ (l ⊕ p)) ⊕ m ⊕ n
regroup c k l m n o p = same_from_bits _ _ (λ i. simp bit_at_xor (omega arith))

cancel : (k l m n : ℕ) → ((l ⊕ n) ⊕ (m ⊕ n)) ⊕ ((k ⊕ m) ⊕ (l ⊕ n)) ⊕ n ≡ k
cancel k l m n = same_from_bits _ _ (λ i. simp bit_at_xor (omega arith))

masked : (x y p q : ℕ) → ((x ⊕ p) ⊗ q ⊕ (y ⊕ q) ⊗ p) ⊕ (x ⊕ p) ⊗ (y ⊕ q) ⊕ p ⊗ q ≡ x ⊗ y
masked x y p q = simp (and-xor, xor-and) (rw (and_comm y p, and_comm q p) (cancel (x ⊗ y) (x ⊗ q) (p ⊗ y) (p ⊗ q)))

pub product : (x y a0 a1 b0 b1 c0 : ℕ) → IsProduct x y a0 a1 b0 b1 c0
product x y a0 a1 b0 b1 c0 =
    let d : ℕ = x ⊕ (a0 ⊕ a1) in
    let e : ℕ = y ⊕ (b0 ⊕ b1) in
    rw (xor_assoc x a0 a1, xor_assoc y b0 b1)
    (regroup c0 (d ⊗ b0) (e ⊗ a0) (d ⊗ e) ((a0 ⊕ a1) ⊗ (b0 ⊕ b1)) (d ⊗ b1) (e ⊗ a1)
    ∙ rw (← and-xor d b0 b1, ← and-xor e a0 a1) (masked x y (a0 ⊕ a1) (b0 ⊕ b1)))

-- ---- lanes
spread_digits : (a b m : ℕ) → a < 2 → b < 2 → (a + b) % 2 * m ≡ (a * m) ⊕ (b * m)
spread_digits zero b m h k = rw (zero-add b, mod-eq_of_lt k, zero-mul m) (sym (xor_zero_l (b * m)))
spread_digits (suc zero) zero m h k = rw (zero-mul m) (sym (xor_zero_r (1 * m)))
spread_digits (suc zero) (suc zero) m h k = rw (xor_self (1 * m)) (zero-mul m)
spread_digits (suc (suc a)) b m h k = absurd (omega arith)
spread_digits (suc zero) (suc (suc b)) m h k = absurd (omega arith)

pub spread-xor : (a b lane : ℕ) → spread (a ⊕ b) lane ≡ spread a lane ⊕ spread b lane
unfolding spread
spread-xor a b lane = rw (bit_at_xor a b lane) (spread_digits (bit_at a lane) (bit_at b lane) (2 ^ 64 - 1) (bit_at-lt a lane) (bit_at-lt b lane))

low : (a i to : ℕ) → i < to → bit_at (a * 2 ^ to) i ≡ 0
low a i to h = ap (λ n. bit_at n i) (sym (add-zero (a * 2 ^ to))) ∙ bit_at_cat_low a to 0 i h ∙ bit_at-zero i

high : (a i to : ℕ) → to ≤ i → bit_at (a * 2 ^ to) i ≡ bit_at a (i - to)
high a i to h = ap (λ n. bit_at n i) (sym (add-zero (a * 2 ^ to))) ∙ bit_at_cat_high a to 0 i (pow_pos to) h

shifted-xor : (a b to : ℕ) → (a ⊕ b) * 2 ^ to ≡ a * 2 ^ to ⊕ b * 2 ^ to
shifted-xor a b to = same_from_bits _ _ (λ i. ⊎_elim
    (λ h. simp bit_at_xor (rw (low (a ⊕ b) i to h, low a i to h, low b i to h) refl))
    (λ h. simp bit_at_xor (rw (high (a ⊕ b) i to h, high a i to h, high b i to h) (bit_at_xor a b (i - to))))
    (cases_lt i to))

pub moved-xor : (a b from count to : ℕ) → moved (a ⊕ b) from count to ≡ moved a from count to ⊕ moved b from count to
unfolding moved
moved-xor a b from count to = rw (xor_shr a b from, xor_mod (a / 2 ^ from) (b / 2 ^ from) count) (shifted-xor (a / 2 ^ from % 2 ^ count) (b / 2 ^ from % 2 ^ count) to)

-- ---- the lanes of words
bit_at_shr : (n from i : ℕ) → bit_at (n / 2 ^ from) i ≡ bit_at n (from + i)
bit_at_shr n from i = ap (λ m. m % 2) (shr-shr n from i)

bit_at_mod : (n count i : ℕ) → i < count → bit_at (n % 2 ^ count) i ≡ bit_at n i
bit_at_mod n count i h = sym (bit_at_cat_low (n / 2 ^ count) count (n % 2 ^ count) i h) ∙ ap (λ m. bit_at m i) (shr_split n count)

-- the lanes that are moved to
pub bit_at-moved : (word from count to i : ℕ) → to ≤ i → i < to + count → bit_at (moved word from count to) i ≡ bit_at word (from + (i - to))
unfolding moved
bit_at-moved word from count to i h k = high (word / 2 ^ from % 2 ^ count) i to h ∙ bit_at_mod (word / 2 ^ from) count (i - to) (omega arith) ∙ bit_at_shr word from (i - to)

-- the lanes below these, and those above
pub bit_at-moved_below : (word from count to i : ℕ) → i < to → bit_at (moved word from count to) i ≡ 0
unfolding moved
bit_at-moved_below word from count to i h = low (word / 2 ^ from % 2 ^ count) i to h

pub bit_at-moved_above : (word from count to i : ℕ) → to + count ≤ i → bit_at (moved word from count to) i ≡ 0
unfolding moved
bit_at-moved_above word from count to i h =
    high (word / 2 ^ from % 2 ^ count) i to (omega arith) ∙ bit_at_above (word / 2 ^ from % 2 ^ count) count (i - to) (mod-lt (word / 2 ^ from) (pow_pos count)) (omega arith)

pub moved-lt : (word from count to width : ℕ) → to + count ≤ width → moved word from count to < 2 ^ width
unfolding moved
moved-lt word from count to width h =
    let kept : word / 2 ^ from % 2 ^ count < 2 ^ count = mod-lt (word / 2 ^ from) (pow_pos count) in
    lt_of_lt_of_le (mul-lt-mul_of_pos_right kept (pow_pos to)) (subst (λ (k : ℕ). k ≤ 2 ^ width) (pow-add 2 count to) (pow_mono {i = count + to} {j = width} (omega arith)))

-- one lane in all lanes
pub bit_at-spread : (word lane i : ℕ) → i < 64 → bit_at (spread word lane) i ≡ bit_at word lane
unfolding spread
bit_at-spread word lane i h = spread_digit (bit_at word lane) i (bit_at-lt word lane) h
  where
    spread_digit : (d i : ℕ) → d < 2 → i < 64 → bit_at (d * (2 ^ 64 - 1)) i ≡ d
    spread_digit zero i k h = ap (λ m. bit_at m i) (let e : zero * (2 ^ 64 - 1) ≡ 0 = omega arith in e) ∙ bit_at-zero i
    spread_digit (suc zero) i k h = ap (λ m. bit_at m i) (let e : 1 * (2 ^ 64 - 1) ≡ 2 ^ 64 - 1 = omega arith in e) ∙ bit_at_ones 64 i h
    spread_digit (suc (suc d)) i k h = absurd (omega arith)

-- ---- what a change of masks cancels
pub open_same : (x y a b : ℕ) → y ⊕ a ⊕ (b ⊕ (x ⊕ y)) ≡ x ⊕ a ⊕ b
open_same x y a b = same_from_bits _ _ (λ i. simp bit_at_xor (omega arith))

pub open_same_first : (x y a b : ℕ) → y ⊕ (a ⊕ (x ⊕ y)) ⊕ b ≡ x ⊕ a ⊕ b
open_same_first x y a b = same_from_bits _ _ (λ i. simp bit_at_xor (omega arith))

pub sent_same : (x y s a : ℕ) → (y ⊕ s) ⊕ (a ⊕ (x ⊕ y)) ≡ (x ⊕ s) ⊕ a
sent_same x y s a = same_from_bits _ _ (λ i. simp bit_at_xor (omega arith))

other_way : (x y s a : ℕ) → (y ⊕ (x ⊕ s)) ⊕ (a ⊕ (x ⊕ y)) ≡ s ⊕ a
other_way x y s a = same_from_bits _ _ (λ i. simp bit_at_xor (omega arith))

-- where the sums of two words and two shares are the same
pub sent_same_sum : (x y s u a : ℕ) → x ⊕ s ≡ y ⊕ u → u ⊕ (a ⊕ (x ⊕ y)) ≡ s ⊕ a
sent_same_sum x y s u a h = ap (λ n. n ⊕ (a ⊕ (x ⊕ y))) (sym (xor_twice y u) ∙ ap (λ n. y ⊕ n) (sym h)) ∙ other_way x y s a

pub product_same : (o n c : ℕ) → n ⊕ (c ⊕ o ⊕ n) ≡ o ⊕ c
product_same o n c = same_from_bits _ _ (λ i. simp bit_at_xor (omega arith))

pub there_and_back : (a x y : ℕ) → (a ⊕ (x ⊕ y)) ⊕ (y ⊕ x) ≡ a
there_and_back a x y = same_from_bits _ _ (λ i. simp bit_at_xor (omega arith))

pub kept_and_back : (c o n : ℕ) → (c ⊕ o ⊕ n) ⊕ n ⊕ o ≡ c
kept_and_back c o n = same_from_bits _ _ (λ i. simp bit_at_xor (omega arith))

-- from a sum and one part the other part
pub other_part : (p q v : ℕ) → p ⊕ q ≡ v → v ⊕ p ≡ q
other_part p q v h = ap (λ n. n ⊕ p) (sym h) ∙ xor_comm (p ⊕ q) p ∙ xor_twice p q

-- B's share of a product, told from the words
pub product_b : (x y a0 a1 b0 b1 c0 : ℕ) →
    x ⊗ y ⊕ (c0 ⊕ (x ⊕ a0 ⊕ a1) ⊗ b0 ⊕ (y ⊕ b0 ⊕ b1) ⊗ a0 ⊕ (x ⊕ a0 ⊕ a1) ⊗ (y ⊕ b0 ⊕ b1))
    ≡ (a0 ⊕ a1) ⊗ (b0 ⊕ b1) ⊕ c0 ⊕ (x ⊕ a0 ⊕ a1) ⊗ b1 ⊕ (y ⊕ b0 ⊕ b1) ⊗ a1
product_b x y a0 a1 b0 b1 c0 = other_part _ _ _ (product x y a0 a1 b0 b1 c0)

-- ---- what two sides open
pub opens_by_a : (x s a b : ℕ) → (s ⊕ a) ⊕ ((x ⊕ s) ⊕ b) ≡ x ⊕ a ⊕ b
opens_by_a x s a b = same_from_bits _ _ (λ i. simp bit_at_xor (omega arith))

pub opens_by_b : (x s a b : ℕ) → ((x ⊕ s) ⊕ b) ⊕ (s ⊕ a) ≡ x ⊕ a ⊕ b
opens_by_b x s a b = same_from_bits _ _ (λ i. simp bit_at_xor (omega arith))

-- ---- masks on outputs
pub mask_gone : (x y n : ℕ) → (x ⊕ n) ⊕ (y ⊕ n) ≡ x ⊕ y
mask_gone x y n = same_from_bits _ _ (λ i. simp bit_at_xor (omega arith))

pub covered : (x y n : ℕ) → y ⊕ (n ⊕ (x ⊕ y)) ≡ x ⊕ n
covered x y n = same_from_bits _ _ (λ i. simp bit_at_xor (omega arith))

pub covered_rest : (v x y n : ℕ) → v ⊕ y ⊕ (n ⊕ (x ⊕ y)) ≡ v ⊕ x ⊕ n
covered_rest v x y n = same_from_bits _ _ (λ i. simp bit_at_xor (omega arith))
