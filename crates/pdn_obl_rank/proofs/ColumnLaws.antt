-- A column of counts, put together from ints.
use Rattle.std.proofs.Common.{◌≡◌, ℕ, List, [], ◌∷◌, ◌++◌, map, refl, sym, ap, ap₂, ◌∙◌}
use Rattle.std.specs.Prelude.{slice_index}
use Rattle.std.specs.List.{range_with_len}
use Rattle.pdn_base.specs.declared.marks.Kind.TheVariants as kind
use Rattle.pdn_obl_rows.specs.Lists.{PaddedList}
use Rattle.pdn_obl_rows.proofs.OperatorLaws.{map_after}
use Rattle.pdn_obl_rows.proofs.ShapeLaws.{list_is}
use Rattle.pdn_obl_group.specs.Loops.{count_planes}
use Rattle.pdn_obl_rank.specs.Numbers.{with_counts}

column_is : (counters : List (List ℕ)) (bits : List ℕ) → map (λ bit. map (λ (number : List ℕ). slice_index number bit) (map count_planes counters)) bits ≡ map (λ p. map (λ (counter : List ℕ). slice_index (count_planes counter) p) counters) bits
column_is counters [] = refl
column_is counters (p ∷ ps) = ap₂ (λ (x : List ℕ) (xs : List (List ℕ)). x ∷ xs)
    (sym (map_after (λ (counter : List ℕ). slice_index (count_planes counter) p) (λ (number : List ℕ). slice_index number p) count_planes (λ c. refl) counters)) (column_is counters ps)

pub counted_list : (list out : PaddedList) (counters ints column : List (List ℕ)) → out.len ≡ list.len → out.valid ≡ list.valid → out.kinds ≡ list.kinds ++ kind.Int ∷ [] → ints ≡ map count_planes counters
    → column ≡ map (λ bit. map (λ (number : List ℕ). slice_index number bit) ints) (range_with_len 0 32) → out.planes ≡ list.planes ++ column → out ≡ with_counts list counters
counted_list list out counters ints column l v k i c p =
    list_is out (with_counts list counters) l v k
    (p ∙ ap (λ (ps : List (List ℕ)). list.planes ++ ps) (c ∙ ap (λ (ns : List (List ℕ)). map (λ bit. map (λ (number : List ℕ). slice_index number bit) ns) (range_with_len 0 32)) i ∙ column_is counters (range_with_len 0 32)))
