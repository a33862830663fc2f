-- A code's text and its number.
use Rattle.std.proofs.Common.{◌≡◌, ℕ, ◌-◌, ◌<◌, ◌≤◌, Bool, true, false, ◌&&◌, List, [], ◌∷◌, ◌++◌, length, get_or, replicate, refl, ap, ◌∙◌, arith, suc, zero, length-append}
use Rattle.std.specs.List.{list_all}
use Rattle.std.specs.Int.{w64, from_be_bytes}
use Rattle.std.proofs.lemmas.List.{length-replicate}
use Rattle.std.proofs.lemmas.Nat.{be_bytes_8}
use Rattle.pdn_base.specs.Codes.{is_code, is_code_byte, code_number, before_zero, code_text, IsCodeNumber}

-- what the tests say
and-first : (b c : Bool) → (b && c) ≡ true → b ≡ true
and-first true c e = refl
and-first false c e = absurd cc

and-second : (b c : Bool) → (b && c) ≡ true → c ≡ true
and-second true c e = e
and-second false c e = absurd cc

code_byte-range : (b : ℕ) → is_code_byte b ≡ true → (0 < b) × (b < 256)
unfolding is_code_byte
code_byte-range b e = (grind (arith, e), grind (arith, e))

before_zero-zeros : (k : ℕ) → before_zero (replicate k 0) ≡ []
before_zero-zeros zero = refl
before_zero-zeros (suc k) = refl

before_zero-filled : (bytes : List ℕ) (k : ℕ) → list_all is_code_byte bytes ≡ true → before_zero (bytes ++ replicate k 0) ≡ bytes
before_zero-filled [] k e = before_zero-zeros k
before_zero-filled (b ∷ bytes) k e =
    let range = code_byte-range b (and-first (is_code_byte b) (list_all is_code_byte bytes) e) in
    grind (arith, range.0, before_zero-filled bytes k (and-second (is_code_byte b) (list_all is_code_byte bytes) e))

zeros-small : (k i : ℕ) → get_or (replicate k 0) i 0 < 256
zeros-small zero i = omega arith
zeros-small (suc k) zero = omega arith
zeros-small (suc k) (suc i) = zeros-small k i

code_bytes-small : (bytes : List ℕ) (k : ℕ) → list_all is_code_byte bytes ≡ true → (i : ℕ) → get_or (bytes ++ replicate k 0) i 0 < 256
code_bytes-small [] k e i = zeros-small k i
code_bytes-small (b ∷ bytes) k e zero = (code_byte-range b (and-first (is_code_byte b) (list_all is_code_byte bytes) e)).1
code_bytes-small (b ∷ bytes) k e (suc i) = code_bytes-small bytes k (and-second (is_code_byte b) (list_all is_code_byte bytes) e) i

pub is_code-length : (bytes : List ℕ) → is_code bytes ≡ true → length bytes ≤ 8
unfolding is_code
is_code-length bytes e = grind (arith, e)

is_code-bytes : (bytes : List ℕ) → is_code bytes ≡ true → list_all is_code_byte bytes ≡ true
unfolding is_code
is_code-bytes bytes e = grind (arith, e)

-- a code's text, back from its number
pub code_text-number : (bytes : List ℕ) → is_code bytes ≡ true → code_text (code_number bytes) ≡ bytes
unfolding code_text code_number
code_text-number bytes e =
    let filled : List ℕ = bytes ++ replicate (8 - length bytes) 0 in
    let all = is_code-bytes bytes e in
    let long : length filled ≡ 8 = omega (arith, length-append bytes (replicate (8 - length bytes) 0), length-replicate {A = ℕ} (8 - length bytes) 0, is_code-length bytes e) in
    ap before_zero (be_bytes_8 filled (from_be_bytes w64 filled) long (code_bytes-small bytes (8 - length bytes) all) refl)
    ∙ before_zero-filled bytes (8 - length bytes) all

pub code_number-IsCodeNumber : (bytes : List ℕ) → is_code bytes ≡ true → IsCodeNumber (code_number bytes)
code_number-IsCodeNumber bytes e = rw (code_text-number bytes e, e) refl
