-- The text of a code is ASCII.
use Rattle.std.proofs.Common.{◌≡◌, ◌<◌, ℕ, List, [], ◌∷◌, true, Some, refl, arith, zero, suc, zero-lt-suc}
use Rattle.std.proofs.lemmas.Bool.{and_parts}
use Rattle.std.proofs.lemmas.Bool.Decides.{nat_tests}
use Rattle.std.specs.List.{list_all}
use Rattle.std.specs.Str.{IsUtf8, IsAscii}
use Rattle.std.proofs.lemmas.Str.{IsUtf8-from_ascii}
use Rattle.std.proofs.lemmas.Option.{cond_some}
use Rattle.std.specs.Prelude.{Result, Ok, Err, MatchResult, IsOk}
use Rattle.pdn_base.specs.Codes.{is_code, is_code_byte, read_code, code_number}

byte_ascii : (b : ℕ) → is_code_byte b ≡ true → b < 128
unfolding is_code_byte
byte_ascii b e = grind (arith, nat_tests)

ascii : (bytes : List ℕ) → list_all is_code_byte bytes ≡ true → IsAscii bytes
ascii [] e i = zero-lt-suc 127
ascii (b ∷ bytes) e zero = byte_ascii b (and_parts (is_code_byte b) (list_all is_code_byte bytes) e).0
ascii (b ∷ bytes) e (suc i) = ascii bytes (and_parts (is_code_byte b) (list_all is_code_byte bytes) e).1 i

code_bytes : (bytes : List ℕ) → is_code bytes ≡ true → list_all is_code_byte bytes ≡ true
unfolding is_code
code_bytes bytes e = (and_parts _ (list_all is_code_byte bytes) e).1

pub code_is_text : (bytes : List ℕ) (code : ℕ) → read_code bytes ≡ Some code → IsUtf8 bytes
code_is_text bytes code reads = IsUtf8-from_ascii bytes (ascii bytes (code_bytes bytes (cond_some (is_code bytes) (code_number bytes) code reads).0))

-- a reading that gives up for no other cause
pub reads_text : {A E : Type 0} (r : Result A E) (P : A → Type 0) (Q : Type 0) (R : E → Type 0) → MatchResult r P (λ e. ¬ Q × R e) → Q → IsOk r
reads_text (Ok x) P Q R cases is = refl
reads_text (Err e) P Q R cases is = absurd (cases.0 is)
