-- Lists of one column of numbers: whatever their words are, their rows hold numbers.
use Rattle.std.proofs.Common.{◌≡◌, ℕ, zero, suc, ◌+◌, ◌*◌, ◌^◌, ◌/◌, ◌%◌, ◌<◌, ◌≤◌, List, [], ◌∷◌, ◌++◌, length, get_or, map, filter, take, refl, sym, ap, ◌∙◌, subst, arith, length-append, pow-suc, ⊎_elim}
use Rattle.std.specs.Prelude.{slice_index, slice_index_or, sum}
use Rattle.std.specs.List.{All, range_with_len}
use Rattle.std.proofs.lemmas.Bool.{cases_lt}
use Rattle.std.proofs.lemmas.List.{length-map, get_or-map, get_or_append_left, get_or_at}
use Rattle.std.proofs.lemmas.List.Sums.{sum_by-append, sum_by-cons}
use Rattle.std.proofs.lemmas.Nat.Bits.{bit_at-lt}
use Rattle.pdn_base.specs.declared.marks.Kind.{Kind}
use Rattle.pdn_base.specs.declared.marks.Kind.TheVariants as kind
use Rattle.pdn_base.specs.declared.value.Value.{Value}
use Rattle.pdn_circuit.specs.Building.{Made}
use Rattle.pdn_circuit.specs.Plain.{lane_of, number_in}
use Rattle.pdn_circuit.proofs.CompareLaws.{lane_of-lt}
use Rattle.pdn_obl_rows.specs.Lists.{PaddedList, IsShaped, words_for, word_planes, number_at, row_at, is_valid, valid_rows}
use Rattle.pdn_obl_rows.specs.Encoding.{RowIsOf, RowsAreOf, planes_from, list_from}
use Rattle.pdn_obl_rows.specs.Operators.{AllOf, AllThere, IsThere, list_at, length_of, no_list}
use Rattle.pdn_obl_rows.proofs.ThereLaws.{there_later}

number_small : (words : List ℕ) (lane : ℕ) (ps : List ℕ) → number_in words lane ps < 2 ^ length ps
number_small words lane [] = omega arith
number_small words lane (p ∷ ps) = omega (arith, lane_of-lt words lane p, number_small words lane ps, pow-suc 2 (length ps))

row_number : (words : List ℕ) (len row : ℕ) → RowIsOf (kind.Int ∷ []) (row_at words (list_from 0 (kind.Int ∷ []) len) row)
row_number words len row =
    let planes : List (List ℕ) = take 32 (planes_from (0 + words_for len) (words_for len) 32) in
    (number_small words (row % 64) (word_planes (row / 64) planes), tt)

pub numbers_are : (words : List ℕ) (len : ℕ) → RowsAreOf (kind.Int ∷ []) (valid_rows words (list_from 0 (kind.Int ∷ []) len))
numbers_are words len =
    let list : PaddedList = list_from 0 (kind.Int ∷ []) len in
    let rows : List ℕ = filter (is_valid words list) (range_with_len 0 len) in
    record {
      at = λ i h.
          let within : i < length rows = omega (arith, length-map rows (row_at words list)) in
          subst (λ (r : List Value). RowIsOf (kind.Int ∷ []) r) (sym (get_or-map (row_at words list) rows i 0 [] within)) (row_number words len (get_or rows i 0));
    }

-- ---- one list more
each_more : (P : PaddedList → Type 0) (old : List PaddedList) (l : PaddedList) → ((m : ℕ) → m < length old → P (list_at old m)) → P l → (m : ℕ) → m < length (old ++ l ∷ []) → P (list_at (old ++ l ∷ []) m)
each_more P old l before here m h = ⊎_elim
    (λ w. subst (λ (x : PaddedList). P x) (sym (get_or_append_left old (l ∷ []) no_list m w)) (before m w))
    (λ w. let at : length old ≡ m = omega (arith, length-append old (l ∷ [])) in subst (λ (x : PaddedList). P x) (sym (get_or_at old l [] no_list m at)) here)
    (cases_lt m (length old))

pub lists_none : (ks : List Kind) (made : Made) (lists : List PaddedList) → lists ≡ [] → AllOf ks lists × AllThere made lists × (length_of lists ≡ 0)
lists_none ks made lists e = subst (λ (ls : List PaddedList). AllOf ks ls × AllThere made ls × (length_of ls ≡ 0)) (sym e)
    (record { kinds = λ m h. absurd (omega arith); shaped = λ m h. absurd (omega arith) }, record { at = λ m h. absurd (omega arith) }, refl)

pub lists_more : (ks : List Kind) (a b : Made) (old new : List PaddedList) (l : PaddedList) → AllOf ks old → AllThere a old → length a.gates ≤ length b.gates → l.kinds ≡ ks → IsShaped l → IsThere b l → new ≡ old ++ l ∷ []
    → AllOf ks new × AllThere b new × (length_of new ≡ length_of old + l.len)
lists_more ks a b old new l same there h k s t e = subst (λ (ls : List PaddedList). AllOf ks ls × AllThere b ls × (length_of ls ≡ length_of old + l.len)) (sym e) (
  record { kinds = each_more (λ (x : PaddedList). x.kinds ≡ ks) old l same.kinds k; shaped = each_more IsShaped old l same.shaped s },
  record { at = each_more (IsThere b) old l (λ m w. there_later a b (list_at old m) h (there.at m w)) t },
  sum_by-append (λ (x : PaddedList). x.len) old (l ∷ []) ∙ omega (arith, sum_by-cons (λ (x : PaddedList). x.len) l []),
)
