-- The words of a line.
use Rattle.std.proofs.Common.{◌≡◌, ℕ, ◌-◌, ◌≢◌, List, length, drop, take, Some, None, ltb, true, refl, sym, ap, ◌∙◌, arith}
use Rattle.std.proofs.lemmas.Bool.{lt-ltb}
use Rattle.pdn_schema.specs.Words.{run, is_word_byte, word_piece}
use Rattle.pdn_schema.proofs.Cutting.{tail_is}

pub no_word : (line : List ℕ) (i n : ℕ) → n ≡ run is_word_byte (take (length line - i) (drop i line)) → n ≡ 0 → word_piece (drop i line) ≡ record { more = 0; gives = None }
no_word line i n is none =
    let len : run is_word_byte (drop i line) ≡ 0 = ap (run is_word_byte) (sym (tail_is i line)) ∙ sym is ∙ none in
    rw len refl

pub a_word : (line : List ℕ) (i n : ℕ) → n ≡ run is_word_byte (take (length line - i) (drop i line)) → n ≢ 0 → word_piece (drop i line) ≡ record { more = n - 1; gives = Some (take n (take (length line - i) (drop i line))) }
a_word line i n is some =
    let len : run is_word_byte (drop i line) ≡ n = ap (run is_word_byte) (sym (tail_is i line)) ∙ sym is in
    let long : ltb 0 n ≡ true = lt-ltb 0 n (omega arith) in
    rw (tail_is i line, len, long) refl
