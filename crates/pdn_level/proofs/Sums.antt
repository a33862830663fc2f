-- A tree's rows are the sum of its slices.
use Rattle.std.proofs.Common.{◌≡◌, ℕ, ◌<◌, Bool, true, cond, List, [], ◌∷◌, ◌++◌, length, flat_map, count_by, sym, refl, ap, ap₂, ◌∙◌, subst, arith, ⊎_elim}
use Rattle.std.specs.List.{AllByRecursion}
use Rattle.std.specs.Ordering.{is_eq}
use Rattle.std.proofs.lemmas.Cmp.{tied_itself}
use Rattle.std.proofs.lemmas.Bool.{cases_Bool}
use Rattle.pdn_base.specs.declared.value.Value.{Value}
use Rattle.pdn_base.specs.Totals.{value_cmp-total}
use Rattle.pdn_base.specs.Values.{cell, same_row}
use Rattle.pdn_base.specs.Bags.{times}
use Rattle.pdn_base.specs.Operators.{SameRows}
use Rattle.pdn_base.proofs.BagLaws.{times-cons, times-hit, times-filter}
use Rattle.pdn_base.proofs.RowLaws.{same_row-tests, value_cmp-ties, is_eq-tie}
use Rattle.pdn_schema.specs.Models.{SchemaModel}
use Rattle.pdn_tree.specs.declared.node.Node.{Node}
use Rattle.pdn_tree.specs.Meaning.{Rows, mean, mean_step}
use Rattle.pdn_level.specs.declared.staged.Leaf.{Leaf}
use Rattle.pdn_level.specs.Links.{slice_at}
use Rattle.pdn_level.specs.Slices.{slices}
use Rattle.pdn_level.specs.Cutting.{same_value, at, slice_column, AreWide, HasOne, HaveEach, SlicesAdd}
use Rattle.pdn_level.proofs.Lists.{all_on}
use Rattle.pdn_level.proofs.OperatorSlices.{slices_sum}
use Rattle.pdn_level.proofs.Tracks.{followed_slices}
use Rattle.pdn_level.proofs.Soundness.{Cut, HasRow, cut_means, cut_leaf, followed_rows, followed_leaves}

value_itself : (v : Value) → same_value v v ≡ true
value_itself v = ap is_eq (tied_itself value_cmp-total v)

some_times : (x : List Value) (rows : Rows) → 0 < times same_row x rows → 0 < length rows
some_times x [] h = h
some_times x (y ∷ ys) h = omega arith

-- a row is among those with its own value
stands : (c : ℕ) (row : List Value) (rows : Rows) → 0 < times same_row row rows → 0 < length (at c (cell row c) rows)
stands c row rows h = some_times row (at c (cell row c) rows)
    (subst (λ (n : ℕ). 0 < n) (sym (times-filter same_row-tests (λ r. same_value (cell row c) (cell r c)) row rows ∙ ap (λ b. cond b (times same_row row rows) 0) (value_itself (cell row c)))) h)

-- a value that stands in a column is one of the values that have each of the column's once
has_one : (values : List Value) (c : ℕ) (v : Value) (rows : Rows) → AllByRecursion (HasOne values c) rows → 0 < length (at c v rows) → count_by (λ u. same_value u v) values ≡ 1
has_one values c v [] h there = absurd (omega (arith, there))
has_one values c v (row ∷ rows) h there = ⊎_elim
    (λ e. subst (λ (u : Value). count_by (λ w. same_value w u) values ≡ 1) (sym (value_cmp-ties v (cell row c) (is_eq-tie _ e))) h.0)
    (λ e. has_one values c v rows h.1 (subst (λ (b : Bool). 0 < length (cond b (row ∷ at c v rows) (at c v rows))) e there))
    (cases_Bool (same_value v (cell row c)))

first_leaf : (tables : ℕ → Rows) (values : List Value) (v : Value) (leaves : List Leaf) → 0 < length leaves → AllByRecursion (HasRow tables v) leaves → HaveEach tables leaves values → count_by (λ u. same_value u v) values ≡ 1
first_leaf tables values v [] some found each = absurd (omega (arith, some))
first_leaf tables values v (leaf ∷ leaves) some found each = has_one values leaf.column v (tables leaf.table) each.0 found.0

-- each row of a list occurs in it
members : (rows : Rows) → AllByRecursion (λ row. 0 < times same_row row rows) rows
members [] = tt
members (x ∷ xs) = (omega (arith, times-hit same_row x x xs (same_row-tests.itself x)), all_on _ _ (λ row h. omega (arith, h, times-cons same_row row x xs)) xs (members xs))

flat_agree : {X Y : Type 0} (f g : X → List Y) → ((x : X) → f x ≡ g x) → (xs : List X) → flat_map f xs ≡ flat_map g xs
flat_agree f g h [] = refl
flat_agree f g h (x ∷ xs) = ap₂ (λ ys zs. ys ++ zs) (h x) (flat_agree f g h xs)

pub slices_add : (schema : SchemaModel) (tables : ℕ → Rows) (n : Node) (values : List Value) (leaves : List Leaf) → slice_at (slices schema n) (slice_column schema n) ≡ true
    → leaves ≡ (followed_leaves schema n).at (slice_column schema n) → AreWide schema tables → HaveEach tables leaves values → SlicesAdd schema tables n values
slices_add schema tables n values leaves sliced traced wide each =
    let c : ℕ = slice_column schema n in
    let cut : (v : Value) → Cut schema tables v n = λ v. cut_means schema tables v wide n in
    let has : (v : Value) → slice_at (followed_rows schema tables v n).slices c ≡ true = λ v. subst (λ (bs : List Bool). slice_at bs c ≡ true) (sym (followed_slices schema (cut_leaf tables v) (mean_step tables) n)) sliced in
    let once : (row : List Value) → 0 < times same_row row (mean tables n) → HasOne values c row = λ row there.
    let v : Value = cell row c in
    first_leaf tables values v leaves
    (subst (λ (ls : List Leaf). 0 < length ls) (sym traced) ((cut v).some c (has v)))
    (subst (λ (ls : List Leaf). AllByRecursion (HasRow tables v) ls) (sym traced) ((cut v).found c (has v) (subst (λ (rows : Rows). 0 < length rows) (sym ((cut v).cuts c (has v))) (stands c row (mean tables n) there))))
    each in
    record {
      sum = subst (λ (rows : Rows). SameRows (mean tables n) rows) (flat_agree _ _ (λ v. sym ((cut v).cuts c (has v))) values) (slices_sum c values (mean tables n) once);
      occurs = all_on _ _ once (mean tables n) (members (mean tables n));
    }
