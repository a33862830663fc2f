-- Values that stand in too many rows, row by row.
use Rattle.std.proofs.Common.{◌≡◌, ℕ, ◌+◌, ◌<◌, ◌≤◌, List, [], length, get_or, Some, None, refl, sym, ap, subst, ◌∙◌, arith, inl, inr, ◌⊎◌}
use Rattle.std.specs.Prelude.{Option, IfSome, MatchOption}
use Rattle.std.proofs.lemmas.Bool.{cases_lt}
use Rattle.std.proofs.lemmas.Option.{slice_get_read, get_or_from_slice_get}
use Rattle.pdn_base.specs.declared.value.Value.{Value}
use Rattle.pdn_base.specs.Values.{number_of, cell}
use Rattle.pdn_schema.specs.Rows.{standing}
use Rattle.pdn_schema.proofs.ValidLaws.{at_most, not_over, stands_in}
use Rattle.pdn_keeper.specs.Batches.{IsLeastOver}

abbrev pub IsAtMost : Option Value → ℕ → Type 0
IsAtMost None number = ⊥
IsAtMost (Some v) number = number_of v ≤ number

pub record StandsOver (column per : ℕ) (rows : List (List Value)) (v : Value) : Type 0 where
  pub row : ℕ
  pub within : row < length rows
  pub is : cell (get_or rows row []) column ≡ v
  pub over : per < standing column (number_of v) rows

-- the least value of the first rows that stands in too many
pub record LeastSoFar (column per : ℕ) (rows : List (List Value)) (i : ℕ) (least : Option Value) : Type 0 where
  pub each : (k : ℕ) → k < i → per < standing column (number_of (cell (get_or rows k []) column)) rows → IsAtMost least (number_of (cell (get_or rows k []) column))
  pub is : IfSome least (StandsOver column per rows)

pub least_none : (column per : ℕ) (rows : List (List Value)) → LeastSoFar column per rows 0 None
least_none column per rows = record { each = λ k lt over. absurd (omega (arith, lt)); is = tt }

row_here : (rows : List (List Value)) (i : ℕ) (row : List Value) → i < length rows → row ≡ get_or rows i row → get_or rows i [] ≡ row
row_here rows i row lt is = get_or_from_slice_get rows i row [] (slice_get_read rows (length rows) i row refl lt is)

cell_here : (rows : List (List Value)) (i column : ℕ) (row : List Value) (v : Value) → i < length rows → row ≡ get_or rows i row → v ≡ cell row column → cell (get_or rows i []) column ≡ v
cell_here rows i column row v lt is says = ap (λ (r : List Value). cell r column) (row_here rows i row lt is) ∙ sym says

lower : (least : Option Value) (l : Value) (number : ℕ) → IfSome least (λ v. number_of l ≤ number_of v) → IsAtMost least number → number_of l ≤ number
lower None l number within at = absurd at
lower (Some v) l number within at = omega (arith, within, at)

over_still : (column per : ℕ) (rows : List (List Value)) (least : Option Value) (l : Value) → IfSome least (StandsOver column per rows) → least ≡ Some l → StandsOver column per rows l
over_still column per rows least l is same = subst (λ (o : Option Value). IfSome o (StandsOver column per rows)) same is

pub least_next : (column per : ℕ) (rows : List (List Value)) (i : ℕ) (row : List Value) (v : Value) (least : Option Value) (l : Value) → i < length rows → row ≡ get_or rows i row → v ≡ cell row column
    → per < standing column (number_of v) rows → (l ≡ v) ⊎ (least ≡ Some l) → number_of l ≤ number_of v → IfSome least (λ o. number_of l ≤ number_of o) → LeastSoFar column per rows i least → LeastSoFar column per rows (i + 1) (Some l)
least_next column per rows i row v least l lt is says over one within within_least before =
    let here : cell (get_or rows i []) column ≡ v = cell_here rows i column row v lt is says in
    record {
      each = λ k less too_many. elim (cases_lt k i) [
        | inl earlier ↦ lower least l (number_of (cell (get_or rows k []) column)) within_least (before.each k earlier too_many)
        | inr later ↦
            let at : i ≡ k = omega (arith, less, later) in
            subst (λ (n : ℕ). number_of l ≤ number_of (cell (get_or rows n []) column)) at (subst (λ (x : Value). number_of l ≤ number_of x) (sym here) within)
      ];
      is = elim one [
        | inl same ↦ subst (StandsOver column per rows) (sym same) (record { row = i; within = lt; is = here; over = over })
        | inr same ↦ over_still column per rows least l before.is same
      ];
    }

pub least_keeps : (column per : ℕ) (rows : List (List Value)) (i : ℕ) (row : List Value) (v : Value) (least : Option Value) → i < length rows → row ≡ get_or rows i row → v ≡ cell row column
    → standing column (number_of v) rows ≤ per → LeastSoFar column per rows i least → LeastSoFar column per rows (i + 1) least
least_keeps column per rows i row v least lt is says fine before =
    let here : cell (get_or rows i []) column ≡ v = cell_here rows i column row v lt is says in
    record {
      each = λ k less too_many. elim (cases_lt k i) [
        | inl earlier ↦ before.each k earlier too_many
        | inr later ↦
            let at : k ≡ i = omega (arith, less, later) in
            let there = subst (λ (n : ℕ). per < standing column (number_of (cell (get_or rows n []) column)) rows) at too_many in
            let over = subst (λ (x : Value). per < standing column (number_of x) rows) here there in
            absurd (omega (arith, fine, over))
      ];
      is = before.is;
    }

least_is : (column per : ℕ) (rows : List (List Value)) (i : ℕ) (v : Value) → length rows ≤ i → LeastSoFar column per rows i (Some v) → IsLeastOver column per rows v
least_is column per rows i v past all = record {
  row = all.is.row;
  within = all.is.within;
  is = all.is.is;
  over = all.is.over;
  least = λ number over.
      let s = stands_in column number rows (omega (arith, over)) in
      subst (λ (n : ℕ). number_of v ≤ n) s.is (all.each s.at (omega (arith, past, s.within)) (subst (λ (n : ℕ). per < standing column n rows) (sym s.is) over));
}

none_over : (column per : ℕ) (rows : List (List Value)) (i : ℕ) → length rows ≤ i → LeastSoFar column per rows i None → (number : ℕ) → standing column number rows ≤ per
none_over column per rows i past all =
    not_over column per rows (λ k lt. at_most per (standing column (number_of (cell (get_or rows k []) column)) rows) (λ over. all.each k (omega (arith, past, lt)) over))

pub least_done : (column per : ℕ) (rows : List (List Value)) (i : ℕ) (least : Option Value) → length rows ≤ i → LeastSoFar column per rows i least
    → MatchOption least ((number : ℕ) → standing column number rows ≤ per) (IsLeastOver column per rows)
least_done column per rows i None past all = none_over column per rows i past all
least_done column per rows i (Some v) past all = least_is column per rows i v past all
