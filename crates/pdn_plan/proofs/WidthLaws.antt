-- How wide the rows of each operator are.
use Rattle.std.proofs.Common.{◌≡◌, ℕ, ◌+◌, Bool, true, false, not, cond, List, [], ◌∷◌, ◌++◌, map, filter, length, sym, refl, ap, ap₂, ◌∙◌, subst, arith, length-append, Option}
use Rattle.std.proofs.lemmas.List.{length-map}
use Rattle.std.specs.List.{range_with_len}
use Rattle.pdn_base.specs.declared.value.Value.{Value}
use Rattle.pdn_base.specs.declared.value.Value.TheVariants as value
use Rattle.pdn_base.specs.declared.order.Key.{Key}
use Rattle.pdn_base.specs.Values.{cell, cut, same_row}
use Rattle.pdn_base.specs.Bags.{times}
use Rattle.pdn_base.specs.Operators.{project_rows, group_rows, distinct_rows, number_rows, number_from, allows, place_of}
use Rattle.pdn_tree.specs.Meaning.{Rows}
use Rattle.pdn_tree.specs.Columns.{Wide}
use Rattle.pdn_tree.proofs.ColumnLaws.{cell-right}
use Rattle.pdn_plan.proofs.Pushing.{map-map, map-agree}
use Rattle.pdn_plan.proofs.KeepLaws.{range-shift}

pub wide-filter : (w : ℕ) (p : List Value → Bool) (rows : Rows) → Wide w rows → Wide w (filter p rows)
wide-filter w p [] h = tt
wide-filter w p (x ∷ xs) h = one (p x) (wide-filter w p xs h.1)
  where
    one : (b : Bool) → Wide w (filter p xs) → Wide w (cond b (x ∷ filter p xs) (filter p xs))
    one true k = (h.0, k)
    one false k = k

pub wide-project : (columns : List ℕ) (rows : Rows) → Wide (length columns) (project_rows columns rows)
wide-project columns [] = tt
wide-project columns (x ∷ xs) = (length-map columns (cell x), wide-project columns xs)

pub wide-distinct : (w : ℕ) (rows : Rows) → Wide w rows → Wide w (distinct_rows rows)
wide-distinct w [] h = tt
wide-distinct w (x ∷ xs) h = (h.0, wide-filter w (λ y. not (same_row x y)) (distinct_rows xs) (wide-distinct w xs h.1))

pub wide-longer : (w : ℕ) (f : List Value → Value) (rows : Rows) → Wide w rows → Wide (w + 1) (map (λ row. row ++ f row ∷ []) rows)
wide-longer w f [] h = tt
wide-longer w f (x ∷ xs) h = (omega (arith, length-append x (f x ∷ []), h.0), wide-longer w f xs h.1)

pub wide-group : (keys : List ℕ) (having : Option ℕ) (rows : Rows) → Wide (length keys + 1) (group_rows keys having rows)
wide-group keys having rows =
    let all : Rows = project_rows keys rows in
    wide-longer (length keys) (λ key. value.Int (times same_row key all)) (filter (λ key. allows having (times same_row key all)) (distinct_rows all))
    (wide-filter (length keys) (λ key. allows having (times same_row key all)) (distinct_rows all) (wide-distinct (length keys) all (wide-project keys rows)))

wide-from : (w : ℕ) (partition : List ℕ) (order : List Key) (all earlier rest : Rows) → Wide w rest → Wide (w + 1) (number_from partition order all earlier rest)
wide-from w partition order all earlier [] h = tt
wide-from w partition order all earlier (x ∷ xs) h = (omega (arith, length-append x (value.Int (place_of partition order all earlier x) ∷ []), h.0), wide-from w partition order all (earlier ++ x ∷ []) xs h.1)

pub wide-number : (w : ℕ) (partition : List ℕ) (order : List Key) (rows : Rows) → Wide w rows → Wide (w + 1) (number_rows partition order rows)
wide-number w partition order rows h = wide-from w partition order rows [] rows h

-- a row cut to all of its columns
pub cut-range : (row : List Value) → cut (range_with_len 0 (length row)) row ≡ row
cut-range [] = refl
cut-range (x ∷ xs) = ap (λ cs. x ∷ cs)
    (ap (map (cell (x ∷ xs))) (sym (range-shift 1 0 (length xs)))
    ∙ map-map (cell (x ∷ xs)) (λ c. 1 + c) (range_with_len 0 (length xs))
    ∙ map-agree _ _ (λ c. cell-right 1 (x ∷ []) xs refl c) (range_with_len 0 (length xs))
    ∙ cut-range xs)

pub project-all : (w : ℕ) (rows : Rows) → Wide w rows → project_rows (range_with_len 0 w) rows ≡ rows
project-all w [] h = refl
project-all w (x ∷ xs) h = ap₂ (λ y ys. y ∷ ys) (subst (λ (n : ℕ). cut (range_with_len 0 n) x ≡ x) h.0 (cut-range x)) (project-all w xs h.1)
