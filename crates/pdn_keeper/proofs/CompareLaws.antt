-- Two lists of rows place by place.
use Rattle.std.proofs.Common.{◌≡◌, ℕ, ◌+◌, ◌<◌, ◌≤◌, true, false, List, [], ◌∷◌, ◌++◌, length, take, get_or, Some, None, refl, sym, ap, subst, ◌∙◌, arith}
use Rattle.std.specs.List.{slice_get}
use Rattle.std.proofs.lemmas.Bool.{false≢true}
use Rattle.std.proofs.lemmas.List.{take_all, take_more}
use Rattle.std.proofs.lemmas.Option.{slice_get_past, slice_get_within, slice_get_read, slice_get-get_or, get_or_from_slice_get}
use Rattle.pdn_base.specs.declared.value.Value.{Value}
use Rattle.pdn_base.specs.Values.{same_row}
use Rattle.pdn_base.proofs.RowLaws.{same_row-tests}
use Rattle.pdn_keeper.specs.Batches.{DifferFirst}

some_none : {X : Type 0} {x : X} → Some x ≡ None → ⊥
some_none e = absurd cc

some_same : {X : Type 0} {x y : X} → Some x ≡ Some y → x ≡ y
some_same e = cc

kept_there : (kept : List (List Value)) (i : ℕ) (x : List Value) → i < length kept → x ≡ get_or kept i x → slice_get kept i ≡ Some x
kept_there kept i x lt is = slice_get_read kept (length kept) i x refl lt is

pub same_next : (kept rows : List (List Value)) (i : ℕ) (x y : List Value) → i < length kept → x ≡ get_or kept i x → slice_get rows i ≡ Some y → same_row x y ≡ true → take i kept ≡ take i rows → take (i + 1) kept ≡ take (i + 1) rows
same_next kept rows i x y lt is there same so_far =
    let xx : get_or kept i x ≡ x = get_or_from_slice_get kept i x x (kept_there kept i x lt is) in
    let yy : get_or rows i y ≡ y = get_or_from_slice_get rows i y y there in
    take_more kept i x lt ∙ ap (λ (zs : List (List Value)). zs ++ get_or kept i x ∷ []) so_far
    ∙ ap (λ (z : List Value). take i rows ++ z ∷ []) (xx ∙ same_row-tests.equal x y same ∙ sym yy) ∙ sym (take_more rows i y (slice_get_within rows i y there))

pub differ_here : (kept rows : List (List Value)) (i : ℕ) (x y : List Value) → i < length kept → x ≡ get_or kept i x → slice_get rows i ≡ Some y → same_row x y ≡ false → take i kept ≡ take i rows → DifferFirst kept rows i
differ_here kept rows i x y lt is there other so_far = record {
  before = so_far;
  here = λ e.
      let same : x ≡ y = some_same (sym (kept_there kept i x lt is) ∙ e ∙ there) in
      false≢true (sym other ∙ ap (same_row x) (sym same) ∙ same_row-tests.itself x);
}

pub differ_missing : (kept rows : List (List Value)) (i : ℕ) (x : List Value) → i < length kept → x ≡ get_or kept i x → slice_get rows i ≡ None → take i kept ≡ take i rows → DifferFirst kept rows i
differ_missing kept rows i x lt is none so_far = record {
  before = so_far;
  here = λ e. some_none (sym (kept_there kept i x lt is) ∙ e ∙ none);
}

pub differ_past : (kept rows : List (List Value)) (i : ℕ) → length kept ≤ i → i ≤ length kept → take i kept ≡ take i rows → length kept < length rows → DifferFirst kept rows (length kept)
differ_past kept rows i past within so_far lt =
    let at : i ≡ length kept = omega (arith, past, within) in
    record {
      before = subst (λ (n : ℕ). take n kept ≡ take n rows) at so_far;
      here = λ e. some_none (sym (slice_get-get_or rows (length kept) [] lt) ∙ sym e ∙ slice_get_past kept (length kept) (omega arith));
    }

pub same_all : (kept rows : List (List Value)) (i : ℕ) → length kept ≤ i → i ≤ length kept → length rows ≤ length kept → take i kept ≡ take i rows → kept ≡ rows
same_all kept rows i past within few so_far = sym (take_all i kept past) ∙ so_far ∙ take_all i rows (omega (arith, past, few))
