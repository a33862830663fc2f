-- Names.
use Rattle.std.proofs.Common.{◌≡◌, ℕ, ◌+◌, ◌<◌, Bool, true, false, List, length, drop, get_or, refl, arith, drop-cons, add-one, ap, ◌∙◌}
use Rattle.std.specs.Prelude.{◌&&◌}
use Rattle.std.proofs.lemmas.Bool.{false≢true}
use Rattle.std.proofs.lemmas.Bool.Decides.{nat_tests}
use Rattle.pdn_schema.specs.Names.{is_name_byte, all_name_bytes, is_name}

pub and_true : (x y : Bool) → x && y ≡ true → (x ≡ true) × (y ≡ true)
and_true true y e = (refl, e)
and_true false y e = absurd (false≢true e)

pub name_bytes_of : (w : List ℕ) → is_name w ≡ true → all_name_bytes w ≡ true
unfolding is_name
name_bytes_of w e = (and_true _ (all_name_bytes w) (and_true _ _ e).0).1

-- a byte of a name is ASCII
pub ascii : (b : ℕ) → is_name_byte b ≡ true → b < 128
ascii b e = grind (arith, nat_tests)

pub bytes_step : (w : List ℕ) (i d : ℕ) → i < length w → all_name_bytes (drop i w) ≡ true → (get_or w i d < 128) × (all_name_bytes (drop (i + 1) w) ≡ true)
bytes_step w i d lt all =
    let h = and_true _ _ (rw (drop-cons w i d lt) at all) in
    (ascii _ h.0, ap (λ (n : ℕ). all_name_bytes (drop n w)) (add-one i) ∙ h.1)
