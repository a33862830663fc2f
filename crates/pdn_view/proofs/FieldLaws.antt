-- Words as they are read again.
use Rattle.std.proofs.Common.{◌≡◌, ◌<◌, ◌^◌, ◌-◌, ◌+◌, ◌*◌, ℕ, Bool, true, false, cond, ltb, leb, eqb, List, [], ◌∷◌, ◌++◌, length, get_or, take, Option, Some, None, Result, Ok, Err, fold, refl, sym, ap, subst, ◌∙◌, arith, rules}
use Rattle.std.specs.Prelude.{◌&&◌, nat_lt, nat_le, decimal}
use Rattle.std.specs.Char.{is_ascii_digit}
use Rattle.std.specs.List.{list_all}
use Rattle.std.specs.Int.{w64, to_be_bytes, from_be_bytes}
use Rattle.std.proofs.lemmas.Bool.{le-leb, lt-ltb, leb-true, ltb-true}
use Rattle.std.proofs.lemmas.List.{length-append, take_at}
use Rattle.std.proofs.lemmas.Nat.{from_be_bytes-to_be_bytes_8}
use Rattle.std.proofs.lemmas.Fmt.{decimal_nonempty, digits_decimal, digits_value-decimal, length-decimal-le}
use Rattle.std.proofs.lemmas.Bool.Decides.{nat_tests}
use Rattle.std.proofs.lemmas.List.Sums.{AllPass-from_list_all}
use Rattle.std.proofs.lemmas.Str.Parse.{IsNumeralModel, numerals_by_fold}
use Rattle.hex.specs.Hex.{IsBytes, decode_sized}
use Rattle.hex.specs.declared.error.FromHexError.{FromHexError}
use Rattle.hex.proofs.HexLemmas.{decode_of-ok, decode_sized-encode_lower, decode_sized-ok, decode_sized-twice}
use Rattle.pdn_base.specs.declared.value.Value.{Value}
use Rattle.pdn_base.specs.declared.value.Value.TheVariants as value
use Rattle.pdn_base.specs.Codes.{IsCodeNumber, is_code, code_number, read_code, code_text}
use Rattle.pdn_base.proofs.CodeLaws.{code_number-IsCodeNumber}
use Rattle.pdn_base.specs.Numbers.{value_of}
use Rattle.pdn_view.specs.declared.view.Party.{Party}
use Rattle.pdn_view.specs.declared.view.Party.TheVariants as parties
use Rattle.pdn_view.specs.Views.{IsValue, IsWord}
use Rattle.pdn_view.specs.Lines.{party_text, value_text, word_text}
use Rattle.pdn_view.specs.Guesses.{mapped, is_number, number_of, small, unquoted, value_in, decoded, word_in, party_in}
use Rattle.pdn_view.proofs.Checks.{and_true, cond_some, mapped_some}
use Rattle.pdn_view.proofs.Solid.{high_bytes}

-- ---- numbers

own : IsNumeralModel (λ ds. list_all is_ascii_digit ds ≡ true) value_of
own = numerals_by_fold _ (search rules) (λ n ds. fold (λ v d. v * 10 + (d - 48)) n ds) (search rules)

pub number_again : (n : ℕ) → n < 2 ^ 64 → number_of (decimal n) ≡ Some n
unfolding number_of
number_again n h =
    let some : ltb 0 (length (decimal n)) ≡ true = lt-ltb _ _ (decimal_nonempty n h) in
    let short : leb (length (decimal n)) 20 ≡ true = le-leb _ _ (length-decimal-le 20 n (omega arith) (omega arith) h) in
    let value : value_of (decimal n) ≡ n = digits_value-decimal own n h in
    let fits : ltb n 18446744073709551616 ≡ true = lt-ltb n 18446744073709551616 (omega arith) in
    rw (some, short, digits_decimal own n h, value, fits) refl

pub number_fits : (ds : List ℕ) (n : ℕ) → number_of ds ≡ Some n → n < 2 ^ 64
unfolding number_of
number_fits ds n e =
    let c = cond_some (is_number ds) (Some (value_of ds)) n e in
    let two = and_true (nat_lt 0 (length ds) && nat_le (length ds) 20) (list_all is_ascii_digit ds && nat_lt (value_of ds) 18446744073709551616) c.0 in
    let last = and_true (list_all is_ascii_digit ds) (nat_lt (value_of ds) 18446744073709551616) two.1 in
    let is : value_of ds ≡ n = cc (c.1) in
    omega (arith, is, ltb-true (value_of ds) 18446744073709551616 last.1)

-- ---- values

small_again : (n : ℕ) → n < 2 ^ 32 → small (Some n) ≡ Some n
small_again n h = rw (lt-ltb n 4294967296 (omega arith)) refl

small_fits : (o : Option ℕ) (n : ℕ) → small o ≡ Some n → n < 2 ^ 32
small_fits None n e = absurd cc
small_fits (Some m) n e =
    let c = cond_some (nat_lt m 4294967296) (Some m) n e in
    let is : m ≡ n = cc (c.1) in
    omega (arith, is, ltb-true m 4294967296 c.0)

-- a digit is no quote
unquoted_decimal : (n : ℕ) → n < 2 ^ 64 → eqb (get_or (decimal n) 0 0) 39 ≡ false
unquoted_decimal n h =
    let first = AllPass-from_list_all is_ascii_digit (decimal n) (digits_decimal own n h) 0 0 (decimal_nonempty n h) in
    let low = and_true (leb 48 (get_or (decimal n) 0 0)) (leb (get_or (decimal n) 0 0) 57) first in
    let least = leb-true 48 (get_or (decimal n) 0 0) low.0 in
    grind (arith, nat_tests)

quoted : (text : List ℕ) → unquoted (39 ∷ text ++ 39 ∷ []) ≡ text
quoted text =
    let long : length (text ++ 39 ∷ []) ≡ length text + 1 = length-append text (39 ∷ []) in
    let len : length (39 ∷ text ++ 39 ∷ []) - 2 ≡ length text = omega (arith, long) in
    ap (λ k. take k (text ++ 39 ∷ [])) len ∙ take_at text (39 ∷ []) (length text) refl

pub value_again : (v : Value) → IsValue v → value_in (value_text v) ≡ Some v
unfolding value_in
value_again (value.Int n) h =
    rw (unquoted_decimal n (omega arith), number_again n (omega arith), small_again n h) refl
value_again (value.Code c) h = rw (quoted (code_text c), h) refl

code_fits : (text : List ℕ) (c : ℕ) → read_code text ≡ Some c → IsCodeNumber c
code_fits text c e =
    let is = cond_some (is_code text) (Some (code_number text)) c e in
    let same : code_number text ≡ c = cc (is.1) in
    subst IsCodeNumber same (code_number-IsCodeNumber text is.0)

quote_fits : (text : List ℕ) (b : Bool) (v : Value) → cond b (mapped value.Code (read_code (unquoted text))) (mapped value.Int (small (number_of text))) ≡ Some v → IsValue v
quote_fits text true v e =
    let m = mapped_some value.Code (read_code (unquoted text)) v e in
    subst IsValue m.2 (code_fits (unquoted text) m.0 m.1)
quote_fits text false v e =
    let m = mapped_some value.Int (small (number_of text)) v e in
    subst IsValue m.2 (small_fits (number_of text) m.0 m.1)

pub value_fits : (text : List ℕ) (v : Value) → value_in text ≡ Some v → IsValue v
unfolding value_in
value_fits text v e = quote_fits text (eqb (get_or text 0 0) 39) v e

-- ---- words

pub word_again : (w : ℕ) → IsWord w → word_in (word_text w) ≡ Some w
unfolding word_in word_text
word_again w h =
    rw (decode_sized-encode_lower (to_be_bytes w64 w) 8 refl (high_bytes 8 w)) (ap Some (from_be_bytes-to_be_bytes_8 w h))

bytes_fit : (bytes : List ℕ) → IsBytes bytes → IsWord (from_be_bytes w64 bytes)
bytes_fit bytes h = omega (arith, h 0, h 1, h 2, h 3, h 4, h 5, h 6, h 7)

decoded_fits : (digits : List ℕ) (r : Result (List ℕ) FromHexError) (w : ℕ) → decode_sized digits 8 ≡ r → decoded r ≡ Some w → IsWord w
decoded_fits digits (Ok bytes) w is e =
    let len = decode_sized-ok digits 8 bytes is in
    let fits = decode_of-ok digits bytes (sym (decode_sized-twice digits 8 len) ∙ is) in
    let same : from_be_bytes w64 bytes ≡ w = cc e in
    subst IsWord same (bytes_fit bytes fits.3)
decoded_fits digits (Err f) w is e = absurd cc

pub word_fits : (digits : List ℕ) (w : ℕ) → word_in digits ≡ Some w → IsWord w
unfolding word_in
word_fits digits w e = decoded_fits digits (decode_sized digits 8) w refl e

-- ---- parties

pub party_again : (party : Party) → party_in (party_text party) ≡ Some party
party_again parties.A = refl
party_again parties.B = refl
party_again parties.Broker = refl
