-- Bits that are moved by shifts and a mask.
use Rattle.std.proofs.Common.{◌≡◌, ℕ, ◌+◌, ◌*◌, ◌-◌, ◌/◌, ◌%◌, ◌^◌, ◌<◌, ◌≤◌, bit_and, ap, ◌∙◌, subst, arith, pow-add}
use Rattle.std.proofs.lemmas.Nat.{and_mask, pow_pos}
use Rattle.std.proofs.Math.Nat.{mod-eq_of_lt, mod-lt, mul-lt-mul_of_pos_right, pow-le-pow_right, one-mul, lt_of_lt_of_le}
use Rattle.std.proofs.Math.Pow.{pow-lt}

pub shifted_is : (word from count to : ℕ) → to + count ≤ 64 → (count ≡ 64 → ⊥)
    → bit_and (word / 2 ^ from) (1 * 2 ^ count % 2 ^ 64 - 1) * 2 ^ to % 2 ^ 64 ≡ word / 2 ^ from % 2 ^ count * 2 ^ to
shifted_is word from count to h n =
    let small : 2 ^ count < 2 ^ 64 = pow-lt {i = count} {j = 64} (omega arith) in
    let mask : 1 * 2 ^ count % 2 ^ 64 ≡ 2 ^ count = ap (λ k. k % 2 ^ 64) (one-mul (2 ^ count)) ∙ mod-eq_of_lt small in
    let kept : word / 2 ^ from % 2 ^ count < 2 ^ count = mod-lt (word / 2 ^ from) (pow_pos count) in
    let fits : word / 2 ^ from % 2 ^ count * 2 ^ to < 2 ^ 64 = lt_of_lt_of_le (mul-lt-mul_of_pos_right kept (pow_pos to)) (subst (λ (k : ℕ). k ≤ 2 ^ 64) (pow-add 2 count to) (pow-le-pow_right {n = 2} (omega arith) {i = count + to} {j = 64} (omega arith))) in
    rw (mask, and_mask (word / 2 ^ from) count) (mod-eq_of_lt fits)
