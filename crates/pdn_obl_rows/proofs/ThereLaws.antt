-- Gates that a list names are gates of the builder.
use Rattle.std.proofs.Common.{◌≡◌, ℕ, ◌+◌, ◌-◌, ◌<◌, ◌≤◌, List, [], ◌∷◌, ◌++◌, length, get_or, map, take, drop, replicate, Option, Some, None, refl, sym, ap, ◌∙◌, subst, arith}
use Rattle.std.specs.Prelude.{slice_index, slice_index_or}
use Rattle.std.specs.List.{All}
use Rattle.std.proofs.lemmas.List.{length-map}
use Rattle.std.proofs.lemmas.List.Elements.{All-from_get_or, All-get_or, All-map, All-take, All-drop, All-weaker, All-append, All-replicate, All-same, All-nil, All-push}
use Rattle.pdn_base.specs.declared.marks.Kind.{Kind}
use Rattle.pdn_base.specs.declared.marks.Kind.TheVariants as kind
use Rattle.pdn_circuit.specs.Building.{Made}
use Rattle.pdn_circuit.specs.Compare.{zero_gate}
use Rattle.pdn_obl_rows.specs.Lists.{PaddedList, IsShaped, width_of, words_for, plane_at, kind_at, planes_before, column_planes, word_planes}
use Rattle.pdn_obl_rows.specs.Conditions.{column_word, filled, PlusFits}
use Rattle.pdn_obl_rows.specs.Operators.{IsThere, AllThere, list_at, with_valid}
use Rattle.pdn_obl_rows.proofs.CellLaws.{length-column_planes}

pub later : (m n : ℕ) (gates : List ℕ) → m ≤ n → All (λ g. g < m) gates → All (λ g. g < n) gates
later m n gates h a = All-weaker (λ g. g < m) (λ g. g < n) (λ g l. omega arith) gates a

pub there_later : (old now : Made) (list : PaddedList) → length old.gates ≤ length now.gates → IsThere old list → IsThere now list
there_later old now list h t = record {
  valid = later (length old.gates) (length now.gates) list.valid h t.valid;
  planes = All-weaker (λ plane. All (λ g. g < length old.gates) plane) (λ plane. All (λ g. g < length now.gates) plane) (λ plane a. later (length old.gates) (length now.gates) plane h a) list.planes t.planes;
}

-- a word of a plane is within it
pub word_within : (list : PaddedList) (word : ℕ) → IsShaped list → word < words_for list.len → All (λ plane. word < length plane) list.planes
word_within list word s h = All-from_get_or (λ plane. word < length plane) list.planes [] (λ p l. omega (arith, s.words p l))

pub column_within : (list : PaddedList) (word column : ℕ) → IsShaped list → word < words_for list.len → All (λ plane. word < length plane) (column_planes list.kinds column list.planes)
column_within list word column s h =
    All-take (λ plane. word < length plane) (width_of (kind_at list.kinds column)) (drop (planes_before list.kinds column) list.planes)
    (All-drop (λ plane. word < length plane) (planes_before list.kinds column) list.planes (word_within list word s h))

-- a word of each plane of a column is there
module _ (made : Made) (list : PaddedList) (t : IsThere made list) (s : IsShaped list) (word : ℕ) (h : word < words_for list.len) where
  words_there : All (λ plane. slice_index plane word < length made.gates) list.planes
  words_there = All-from_get_or (λ plane. slice_index plane word < length made.gates) list.planes []
      (λ p l. All-get_or (λ g. g < length made.gates) (plane_at list.planes p) word 0 (omega (arith, s.words p l)) (t.planes p [] l))

  pub column_there : (column : ℕ) → All (λ g. g < length made.gates) (column_word list word column)
  column_there column =
      All-map (λ g. g < length made.gates) (λ plane. slice_index plane word) (column_planes list.kinds column list.planes)
      (All-take (λ plane. slice_index plane word < length made.gates) (width_of (kind_at list.kinds column)) (drop (planes_before list.kinds column) list.planes)
      (All-drop (λ plane. slice_index plane word < length made.gates) (planes_before list.kinds column) list.planes words_there))

  pub valid_there : slice_index list.valid word < length made.gates
  valid_there = All-get_or (λ g. g < length made.gates) list.valid word 0 (omega (arith, s.valid)) t.valid

pub length-column_word : (list : PaddedList) (word column : ℕ) → IsShaped list → column < length list.kinds → length (column_word list word column) ≡ width_of (kind_at list.kinds column)
length-column_word list word column s h =
    length-map (column_planes list.kinds column list.planes) (λ (plane : List ℕ). slice_index plane word) ∙ length-column_planes list.kinds column list.planes s.planes h

-- a sum is of 32 planes
pub sum_wide : (k : Kind) (n : ℕ) → PlusFits k (Some n) → width_of k ≡ 32
sum_wide kind.Int n f = refl
sum_wide kind.Code n f = absurd f

pub filled_there : (count width : ℕ) (planes wide : List ℕ) → 0 < count → All (λ g. g < count) planes → wide ≡ filled width planes → All (λ g. g < count) wide
filled_there count width planes wide h a e =
    All-same (λ g. g < count) wide (filled width planes) e
    (All-append (λ g. g < count) planes (replicate (width - length planes) zero_gate) a (All-replicate (λ g. g < count) (width - length planes) zero_gate (omega arith)))

pub with_valid_there : (made : Made) (list out : PaddedList) (valid : List ℕ) → IsThere made list → All (λ g. g < length made.gates) valid → out ≡ with_valid list valid → IsThere made out
with_valid_there made list out valid t a e = subst (λ (o : PaddedList). IsThere made o) (sym e) (record { valid = a; planes = t.planes })

pub all_there_later : (old now : Made) (lists : List PaddedList) → length old.gates ≤ length now.gates → AllThere old lists → AllThere now lists
all_there_later old now lists h t = record { at = λ m l. there_later old now (list_at lists m) h (t.at m l) }

-- ---- planes that are made one after the other
pub planes_none : (n : ℕ) (xs : List (List ℕ)) → xs ≡ [] → All (λ (plane : List ℕ). All (λ g. g < n) plane) xs
planes_none n xs e = All-same (λ (plane : List ℕ). All (λ g. g < n) plane) xs [] e (All-nil (λ (plane : List ℕ). All (λ g. g < n) plane))

pub planes_push : (n m : ℕ) (xs ys : List (List ℕ)) (x : List ℕ) → All (λ (plane : List ℕ). All (λ g. g < n) plane) xs → n ≤ m → All (λ g. g < m) x → ys ≡ xs ++ x ∷ [] → All (λ (plane : List ℕ). All (λ g. g < m) plane) ys
planes_push n m xs ys x all h here e =
    All-same (λ (plane : List ℕ). All (λ g. g < m) plane) ys (xs ++ x ∷ []) e
    (All-push (λ (plane : List ℕ). All (λ g. g < m) plane) xs x (All-weaker (λ (plane : List ℕ). All (λ g. g < n) plane) (λ (plane : List ℕ). All (λ g. g < m) plane) (λ plane a. later n m plane h a) xs all) here)
