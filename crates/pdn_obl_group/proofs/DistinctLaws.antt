-- What the gates of distinct come to.
use Rattle.std.proofs.Common.{◌≡◌, ℕ, ◌+◌, ◌*◌, Bool, not, ◌&&◌, ltb, List, length, get_or, map, sym, ap, ◌∙◌, subst, arith, ⊎_elim}
use Rattle.std.proofs.lemmas.Bool.{cases_lt, cond-true, cond-false, lt-ltb, le-ltb}
use Rattle.pdn_base.specs.Values.{same_row}
use Rattle.pdn_base.specs.Operators.{distinct_rows}
use Rattle.pdn_circuit.specs.Blocks.{Making}
use Rattle.pdn_circuit.specs.Gates.{InputWords}
use Rattle.pdn_circuit.specs.Plain.{Yields, Ends, truth}
use Rattle.pdn_circuit.proofs.PlainLaws.{yields-gives, yields-then}
use Rattle.pdn_obl_rows.specs.Lists.{PaddedList, IsShaped, row_at, is_valid, valid_rows}
use Rattle.pdn_obl_rows.specs.Operators.{with_valid}
use Rattle.pdn_obl_rows.proofs.RowsLaws.{filter_range}
use Rattle.pdn_obl_group.specs.Loops.{SpreadRow, is_match, goes_past, is_repeat}
use Rattle.pdn_obl_group.specs.Operators.{distinct_word, distinct_row, unmarked, distinct_gates}
use Rattle.pdn_obl_group.proofs.LoopLaws.{KeptWords, IsSpread, Marks, kept_begin, turns_keep, words_keep, row_is, match_is, after_row, marks_begin, marks_later, marks_past}
use Rattle.pdn_obl_group.proofs.PlaneLaws.{Lanes, unmarked_is, valid_by}
use Rattle.pdn_obl_group.proofs.RepeatLaws.{first_of}

-- the rows before row j have marked theirs
abbrev Marked : List ℕ → PaddedList → ℕ → ℕ → ℕ → Type 0
Marked words list j w dup = Marks words (after_row (is_match words list)) j w dup

module _ {inputs : InputWords} {words : List ℕ} (ends : Ends words) (list : PaddedList) (shaped : IsShaped list) where
  word_marks : (j : ℕ) (row : SpreadRow) → IsSpread words list j row → (w dup : ℕ) {out : ℕ} → Marked words list j w dup → Yields inputs words (distinct_word list j row w dup) out → Marked words list (j + 1) w out
  word_marks j row is w dup {out} m y = ⊎_elim
      (λ l.
      let a = yields-then _ _ (subst (λ (making : Making ℕ). Yields inputs words making out) (cond-true (goes_past w j) _ _ (lt-ltb j (64 * w + 63) l)) y) in
      marks_later (is_match words list) j w dup a.x l m (λ lane h. match_is ends list shaped j w lane h row is a.first) a.rest)
      (λ l. subst (λ (g : ℕ). Marked words list (j + 1) w g) (sym (yields-gives _ (subst (λ (making : Making ℕ). Yields inputs words making out) (cond-false (goes_past w j) _ _ (le-ltb j (64 * w + 63) l)) y))) (marks_past (is_match words list) j w dup l m))
      (cases_lt j (64 * w + 63))

  row_marks : (count j : ℕ) (dups : List ℕ) {out : List ℕ} → KeptWords count 0 (Marked words list j) dups → Yields inputs words (distinct_row list j dups) out → KeptWords count 0 (Marked words list (j + 1)) out
  row_marks count j dups {out} k y = ⊎_elim
      (λ l.
      let a = yields-then _ _ (subst (λ (making : Making (List ℕ)). Yields inputs words making out) (cond-true (ltb (j + 1) (64 * length dups)) _ _ (lt-ltb (j + 1) (64 * length dups) l)) y) in
      words_keep 0 0 (distinct_word list j a.x) count (Marked words list j) (Marked words list (j + 1)) (λ w d o h m z. word_marks j a.x (row_is list j a.first) w d m z) k a.rest)
      (λ l. subst (λ (ds : List ℕ). KeptWords count 0 (Marked words list (j + 1)) ds) (sym (yields-gives _ (subst (λ (making : Making (List ℕ)). Yields inputs words making out) (cond-false (ltb (j + 1) (64 * length dups)) _ _ (le-ltb (j + 1) (64 * length dups) l)) y)))
      (record { count = k.count; at = λ w h. marks_past (is_match words list) j w (get_or dups w 0) (omega (arith, k.count)) (k.at w h) }))
      (cases_lt (j + 1) (64 * length dups))

  pub distinct_is : {out : PaddedList} → Yields inputs words (distinct_gates list) out → valid_rows words out ≡ distinct_rows (valid_rows words list)
  distinct_is {out} y =
      let a = yields-then _ _ y in
      let b = yields-then _ _ a.rest in
      let count : ℕ = length list.valid in
      let n : ℕ = list.len in
      let marked = turns_keep (distinct_row list) (λ j dups. KeptWords count 0 (Marked words list j) dups) (λ j ds os k z. row_marks count j ds k z) 0 n _ _ (kept_begin count 0 0 (Marked words list 0) (λ w. marks_begin (after_row (is_match words list)) ends w)) a.first in
      let truths : ℕ → Bool = λ i. is_valid words list i && not (is_repeat words list n i) in
      let kept : KeptWords count 0 (Lanes words truths) b.x
      = words_keep 0 0 (unmarked list.valid) count (Marked words list (0 + n)) (Lanes words truths)
      (λ w d o h m z. let e : 0 + n ≡ n = omega arith in unmarked_is ends list (is_repeat words list n) w d (record { at = λ lane l. m.lanes lane l ∙ ap (λ k. truth (is_repeat words list k (64 * w + lane))) e }) z)
      marked b.first in
      ap (valid_rows words) (yields-gives _ b.rest)
      ∙ ap (map (row_at words list)) (filter_range (is_valid words (with_valid list b.x)) truths 0 n (λ i h. valid_by words truths count (with_valid list b.x) shaped.valid kept i (omega arith)))
      ∙ first_of same_row (row_at words list) (is_valid words list) 0 n
