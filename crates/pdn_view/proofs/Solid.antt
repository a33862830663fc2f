-- Words whose bytes are all above the blank.
use Rattle.std.proofs.Common.{◌≡◌, ◌<◌, ℕ, zero, suc, ◌+◌, ◌/◌, ◌%◌, ◌==◌, Bool, true, false, ltb, eqb, Some, List, [], ◌∷◌, refl, ◌∙◌, arith, length, slice_index}
use Rattle.std.proofs.lemmas.Bool.Decides.{nat_tests}
use Rattle.std.specs.Prelude.{not, ◌&&◌, nat_lt, nat_le, decimal}
use Rattle.std.specs.List.{list_all}
use Rattle.std.specs.Fmt.{digit_glyph, digits_onto, digits}
use Rattle.std.specs.Int.{w64, to_be_bytes, byte_at, bytes_high_first}
use Rattle.std.proofs.lemmas.Bool.{cond_both, lt-ltb, ltb-true, leb-true}
use Rattle.std.proofs.lemmas.List.Folds.{list_all-append}
use Rattle.std.proofs.lemmas.List.Sums.{AllPass-from_list_all}
use Rattle.hex.specs.Hex.{IsBytes, lower_digits, encode_with}
use Rattle.pdn_base.specs.declared.value.Value.{Value}
use Rattle.pdn_base.specs.declared.value.Value.TheVariants as value
use Rattle.pdn_base.specs.declared.site.Site.{Site}
use Rattle.pdn_base.specs.declared.site.Site.TheVariants.{A, B}
use Rattle.pdn_base.specs.Codes.{is_code_byte, is_code, code_number, read_code, code_text}
use Rattle.pdn_base.specs.Texts.{site_text}
use Rattle.pdn_view.specs.declared.view.Party.{Party}
use Rattle.pdn_view.specs.declared.view.Party.TheVariants as parties
use Rattle.pdn_view.specs.Views.{IsValue}
use Rattle.pdn_view.specs.Lines.{party_text, value_text, word_text}
use Rattle.pdn_view.specs.Cuts.{without}
use Rattle.pdn_view.proofs.Checks.{and_true, both_true, cond_some}

abbrev pub solid : List ℕ → Bool
solid word = list_all (λ byte. nat_lt 32 byte) word

glyph : (d : ℕ) → nat_lt 32 (digit_glyph false d) ≡ true
glyph d = cond_both (ltb d 10) (48 + d) (87 + d) (λ x. nat_lt 32 x ≡ true) (λ e. lt-ltb 32 (48 + d) (omega arith)) (λ e. lt-ltb 32 (87 + d) (omega arith))

solid_onto : (k n : ℕ) (more : List ℕ) → solid more ≡ true → solid (digits_onto k 10 false n more) ≡ true
solid_onto zero n more h = h
solid_onto (suc k) n more h =
    let here : solid (digit_glyph false (n % 10) ∷ more) ≡ true = both_true _ _ (glyph (n % 10)) h in
    cond_both (n / 10 == 0) _ _ (λ x. solid x ≡ true) (λ e. here) (λ e. solid_onto k (n / 10) (digit_glyph false (n % 10) ∷ more) here)

pub solid_decimal : (n : ℕ) → solid (decimal n) ≡ true
unfolding digits
solid_decimal n = solid_onto 64 n [] refl

code_byte : (b : ℕ) → is_code_byte b ≡ true → nat_lt 32 b ≡ true
unfolding is_code_byte
code_byte b e =
    let all = and_true (nat_le 0x21 b && nat_le b 0x7E && not (eqb b 0x22) && not (eqb b 0x27)) (not (eqb b 0x2C)) e in
    let four = and_true (nat_le 0x21 b && nat_le b 0x7E && not (eqb b 0x22)) (not (eqb b 0x27)) all.0 in
    let three = and_true (nat_le 0x21 b && nat_le b 0x7E) (not (eqb b 0x22)) four.0 in
    let low = and_true (nat_le 0x21 b) (nat_le b 0x7E) three.0 in
    lt-ltb 32 b (omega (arith, leb-true 0x21 b low.0))

solid_from : (bytes : List ℕ) → list_all is_code_byte bytes ≡ true → solid bytes ≡ true
solid_from [] e = refl
solid_from (b ∷ bs) e = let h = and_true (is_code_byte b) (list_all is_code_byte bs) e in both_true _ _ (code_byte b h.0) (solid_from bs h.1)

code_solid : (text : List ℕ) (number : ℕ) → read_code text ≡ Some number → solid text ≡ true
unfolding is_code
code_solid text number e =
    let is = cond_some (nat_le 1 (length text) && nat_le (length text) 8 && list_all is_code_byte text) (Some (code_number text)) number e in
    solid_from text (and_true (nat_le 1 (length text) && nat_le (length text) 8) (list_all is_code_byte text) is.0).1

pub solid_value : (v : Value) → IsValue v → solid (value_text v) ≡ true
solid_value (value.Int n) h = solid_decimal n
solid_value (value.Code c) h = list_all-append _ (code_text c) (39 ∷ []) ∙ both_true _ true (code_solid (code_text c) c h) refl

hex_digit : (d : ℕ) → d < 16 → nat_lt 32 (slice_index lower_digits d) ≡ true
hex_digit d h = AllPass-from_list_all (λ byte. nat_lt 32 byte) lower_digits refl d 0 h

solid_hex : (bytes : List ℕ) → IsBytes bytes → solid (encode_with lower_digits bytes) ≡ true
unfolding encode_with
solid_hex [] h = refl
solid_hex (b ∷ bs) h =
    let small : b < 256 = h 0 in
    both_true _ _ (hex_digit (b / 16) (omega arith)) (both_true _ _ (hex_digit (b % 16) (omega arith)) (solid_hex bs (λ i. h (suc i))))

byte_small : (k n : ℕ) → byte_at k n < 256
byte_small zero n = omega arith
byte_small (suc k) n = omega arith

pub high_bytes : (k n : ℕ) → IsBytes (bytes_high_first k n)
high_bytes zero n i = omega arith
high_bytes (suc k) n zero = byte_small k n
high_bytes (suc k) n (suc i) = high_bytes k n i

pub solid_word : (w : ℕ) → solid (word_text w) ≡ true
unfolding word_text
solid_word w = solid_hex (to_be_bytes w64 w) (high_bytes 8 w)

pub solid_site : (site : Site) → solid (site_text site) ≡ true
solid_site A = refl
solid_site B = refl

pub solid_party : (party : Party) → solid (party_text party) ≡ true
solid_party parties.A = refl
solid_party parties.B = refl
solid_party parties.Broker = refl

other : (byte b : ℕ) → byte < 33 → 32 < b → not (eqb b byte) ≡ true
other byte b small large = grind (arith, nat_tests)

pub solid_without : (byte : ℕ) → byte < 33 → (word : List ℕ) → solid word ≡ true → without byte word ≡ true
solid_without byte small [] e = refl
solid_without byte small (b ∷ bs) e =
    let h = and_true (nat_lt 32 b) (solid bs) e in
    both_true _ _ (other byte b small (ltb-true 32 b h.0)) (solid_without byte small bs h.1)
