-- What the gates of an append come to.
use Rattle.std.proofs.Common.{◌≡◌, ℕ, zero, suc, ◌+◌, ◌-◌, ◌*◌, ◌/◌, ◌%◌, ◌<◌, ◌≤◌, Bool, List, [], ◌∷◌, ◌++◌, length, get_or, map, filter, take, refl, sym, ap, ap₂, ◌∙◌, subst, arith, length-append, append-nil, ⊎_elim, nat_eq}
use Rattle.std.specs.Prelude.{slice_index}
use Rattle.std.specs.List.{range_with_len, flat_map, sum_by}
use Rattle.std.proofs.lemmas.Bool.{cases_lt}
use Rattle.std.proofs.lemmas.List.{get_or_append_left, get_or-append-add, take_more, take_all}
use Rattle.std.proofs.lemmas.List.Concat.{flat_map-append}
use Rattle.std.proofs.lemmas.List.FromFn.{get_or-range_with_len, length-range_with_len, get_or-map-range_with_len, length-map-range_with_len}
use Rattle.std.proofs.lemmas.List.Sums.{sum_by-cons, sum_by-append}
use Rattle.pdn_base.specs.declared.marks.Kind.{Kind}
use Rattle.pdn_base.specs.declared.value.Value.{Value}
use Rattle.pdn_circuit.specs.declared.lay.Pick.{Pick}
use Rattle.pdn_circuit.specs.Gates.{InputWords}
use Rattle.pdn_circuit.specs.Laying.{OfOneWord, HasOneGateAWord, lay_gates}
use Rattle.pdn_circuit.specs.Plain.{Yields, lane_of}
use Rattle.pdn_circuit.proofs.LayPlain.{lay_is}
use Rattle.pdn_circuit.proofs.PlainLaws.{yields-gives, yields-then, yields-each}
use Rattle.pdn_obl_rows.specs.Lists.{PaddedList, IsShaped, widths, plane_at, lane_in, cells_at, row_at, is_valid, valid_rows}
use Rattle.pdn_obl_rows.specs.Operators.{no_list, list_at, AllOf, row_picks, append_picks, valid_of, plane_of, kinds_of, length_of, append_gates}
use Rattle.pdn_obl_rows.proofs.LaidLaws.{same_from, same_cells, shifted_rows, rows_add}

-- ---- picks
length-row_picks : (index len : ℕ) (plane : List ℕ) → length (row_picks index len plane) ≡ len
length-row_picks index len plane = length-map-range_with_len (λ row. record { list = index; row = row; gate = slice_index plane (row / 64) }) 0 len

row_pick : (index len : ℕ) (plane : List ℕ) (r : ℕ) (other : Pick) → r < len → get_or (row_picks index len plane) r other ≡ record { list = index; row = r; gate = slice_index plane (r / 64) }
row_pick index len plane r other h = get_or-map-range_with_len (λ row. record { list = index; row = row; gate = slice_index plane (row / 64) }) 0 len r r other h (omega arith)

pub length-append_picks : (plane : PaddedList → List ℕ) (from : ℕ) (lists : List PaddedList) → length (append_picks plane from lists) ≡ length_of lists
length-append_picks plane from [] = refl
length-append_picks plane from (l ∷ ls) =
    omega (arith, length-append (row_picks from l.len (plane l)) (append_picks plane (from + 1) ls), length-row_picks from l.len (plane l), length-append_picks plane (from + 1) ls, sum_by-cons (λ (k : PaddedList). k.len) l ls)

pick_at : (plane : PaddedList → List ℕ) (from : ℕ) (lists : List PaddedList) (m r : ℕ) (other : Pick) → m < length lists → r < (list_at lists m).len
    → get_or (append_picks plane from lists) (length_of (take m lists) + r) other ≡ record { list = from + m; row = r; gate = slice_index (plane (list_at lists m)) (r / 64) }
pick_at plane from [] m r other h k = absurd (omega arith)
pick_at plane from (l ∷ ls) zero r other h k =
    let own : List Pick = row_picks from l.len (plane l) in
    let e : 0 + r ≡ r = omega arith in
    let f : from ≡ from + zero = omega arith in
    ap (λ i. get_or (own ++ append_picks plane (from + 1) ls) i other) e
    ∙ get_or_append_left own (append_picks plane (from + 1) ls) other r (omega (arith, length-row_picks from l.len (plane l)))
    ∙ row_pick from l.len (plane l) r other k ∙ ap (λ i. record { list = i; row = r; gate = slice_index (plane l) (r / 64) }) f
pick_at plane from (l ∷ ls) (suc m) r other h k =
    let own : List Pick = row_picks from l.len (plane l) in
    let e : length_of (take (suc m) (l ∷ ls)) + r ≡ length own + (length_of (take m ls) + r) = omega (arith, sum_by-cons (λ (k : PaddedList). k.len) l (take m ls), length-row_picks from l.len (plane l)) in
    let f : from + 1 + m ≡ from + suc m = omega arith in
    ap (λ i. get_or (own ++ append_picks plane (from + 1) ls) i other) e
    ∙ get_or-append-add own (append_picks plane (from + 1) ls) (length_of (take m ls) + r) other
    ∙ pick_at plane (from + 1) ls m r other (omega arith) k ∙ ap (λ i. record { list = i; row = r; gate = slice_index (plane (list_at ls m)) (r / 64) }) f

-- a pick's gate is told by its list and its word
record IsTold (plane : PaddedList → List ℕ) (from : ℕ) (lists : List PaddedList) (p : Pick) : Type 0 where
  within : from ≤ p.list
  gate : p.gate ≡ slice_index (plane (list_at lists (p.list - from))) (p.row / 64)

told : (plane : PaddedList → List ℕ) (from : ℕ) (lists : List PaddedList) (k : ℕ) (other : Pick) → k < length (append_picks plane from lists) → IsTold plane from lists (get_or (append_picks plane from lists) k other)
told plane from [] k other h = absurd (omega arith)
told plane from (l ∷ ls) k other h = ⊎_elim
    (λ w.
    let e = get_or_append_left own more other k w ∙ row_pick from l.len (plane l) k other (omega (arith, length-row_picks from l.len (plane l))) in
    let z : 0 ≡ from - from = omega arith in
    subst (λ (p : Pick). IsTold plane from (l ∷ ls) p) (sym e) (record { within = omega arith; gate = ap (λ i. slice_index (plane (list_at (l ∷ ls) i)) (k / 64)) z }))
    (λ w.
    let i : ℕ = k - length own in
    let s : length own + i ≡ k = omega arith in
    let e = ap (λ n. get_or (own ++ more) n other) (sym s) ∙ get_or-append-add own more i other in
    let rest = told plane (from + 1) ls i other (omega (arith, length-append own more)) in
    let p : Pick = get_or more i other in
    let below = rest.within in
    let n : suc (p.list - (from + 1)) ≡ p.list - from = omega arith in
    subst (λ (q : Pick). IsTold plane from (l ∷ ls) q) (sym e) (record { within = omega arith; gate = rest.gate ∙ ap (λ i. slice_index (plane (list_at (l ∷ ls) i)) (p.row / 64)) n }))
    (cases_lt k (length own))
  where
    own : List Pick
    own = row_picks from l.len (plane l)

    more : List Pick
    more = append_picks plane (from + 1) ls

pub append_sources : (plane : PaddedList → List ℕ) (lists : List PaddedList) → HasOneGateAWord (append_picks plane 0 lists)
append_sources plane lists = record {
  at = λ j k other h l w.
      let a = told plane 0 lists j other h in
      let b = told plane 0 lists k other l in
      a.gate ∙ ap₂ (λ i word. slice_index (plane (list_at lists (i - 0))) word) w.list w.word ∙ sym b.gate;
}

-- ---- rows
module _ {inputs : InputWords} {words : List ℕ} where
  placed : (plane : PaddedList → List ℕ) (lists : List PaddedList) {laid : List ℕ} → Yields inputs words (lay_gates (append_picks plane 0 lists)) laid → (m r : ℕ) → m < length lists → r < (list_at lists m).len
      → length_of (take m lists) + r < length_of lists → lane_in words laid (length_of (take m lists) + r) ≡ lane_in words (plane (list_at lists m)) r
  placed plane lists y m r h k b =
      let other : Pick = record { list = 0; row = 0; gate = 0 } in
      lay_is (append_picks plane 0 lists) (append_sources plane lists) y (length_of (take m lists) + r) other (omega (arith, length-append_picks plane 0 lists))
      ∙ ap (λ (p : Pick). lane_of words (p.row % 64) p.gate) (pick_at plane 0 lists m r other h k)

some_more : (lists : List PaddedList) (m : ℕ) → m < length lists → length_of (take m lists) + (list_at lists m).len ≤ length_of lists
some_more [] m h = absurd (omega arith)
some_more (l ∷ ls) zero h = omega (arith, sum_by-cons (λ (k : PaddedList). k.len) l ls)
some_more (l ∷ ls) (suc m) h = omega (arith, sum_by-cons (λ (k : PaddedList). k.len) l ls, sum_by-cons (λ (k : PaddedList). k.len) l (take m ls), some_more ls m (omega arith))

pub append_means : (inputs : InputWords) (words : List ℕ) (lists : List PaddedList) (out : PaddedList) → AllOf (kinds_of lists) lists → Yields inputs words (append_gates lists) out → valid_rows words out ≡ flat_map (valid_rows words) lists
append_means inputs words lists out all y =
    let a = yields-then _ _ y in
    let b = yields-then _ _ a.rest in
    let kinds : List Kind = kinds_of lists in
    let w : ℕ = widths kinds in
    let planes : List (List ℕ) = b.x in
    let each_plane = yields-each (λ p. lay_gates (append_picks (plane_of p) 0 lists)) (range_with_len 0 w) b.x b.first in
    let count : length planes ≡ w = each_plane.count ∙ length-range_with_len 0 w in
    let new : PaddedList = record { len = length_of lists; valid = a.x; kinds = kinds; planes = planes } in
    let plane_is : (p : ℕ) → p < w → Yields inputs words (lay_gates (append_picks (plane_of p) 0 lists)) (plane_at planes p)
    = λ p h. subst (λ i. Yields inputs words (lay_gates (append_picks (plane_of i) 0 lists)) (plane_at planes p)) (get_or-range_with_len 0 w p 0 h ∙ omega arith) (each_plane.at p 0 [] (omega (arith, length-range_with_len 0 w))) in
    let valid_at : (m r : ℕ) → m < length lists → r < (list_at lists m).len → is_valid words new (length_of (take m lists) + r) ≡ is_valid words (list_at lists m) r
    = λ m r h k. ap (λ n. nat_eq n 1) (placed valid_of lists a.first m r h k (omega (arith, some_more lists m h))) in
    let row_is : (m r : ℕ) → m < length lists → r < (list_at lists m).len → row_at words new (length_of (take m lists) + r) ≡ row_at words (list_at lists m) r
    = λ m r h k.
    let l : PaddedList = list_at lists m in
    let shape = all.shaped m h in
    let wide : length l.planes ≡ w = shape.planes ∙ ap widths (all.kinds m h) in
    same_cells words (length_of (take m lists) + r) r kinds planes l.planes
    (same_from words (length_of (take m lists) + r) r planes l.planes (omega (arith, count, wide)) (λ p c. placed (plane_of p) lists (plane_is p (omega (arith, count))) m r h k (omega (arith, some_more lists m h))))
    ∙ ap (λ (ks : List Kind). cells_at words r ks l.planes) (sym (all.kinds m h)) in
    let upto : (m : ℕ) → m ≤ length lists → map (row_at words new) (filter (is_valid words new) (range_with_len 0 (length_of (take m lists)))) ≡ flat_map (valid_rows words) (take m lists)
    = rows_upto words new lists valid_at row_is in
    ap (valid_rows words) (yields-gives _ b.rest)
    ∙ ap (λ (ls : List PaddedList). map (row_at words new) (filter (is_valid words new) (range_with_len 0 (length_of ls)))) (sym (take_all (length lists) lists (omega arith)))
    ∙ upto (length lists) (omega arith) ∙ ap (flat_map (valid_rows words)) (take_all (length lists) lists (omega arith))
  where
    rows_upto : (words : List ℕ) (new : PaddedList) (lists : List PaddedList) → ((m r : ℕ) → m < length lists → r < (list_at lists m).len → is_valid words new (length_of (take m lists) + r) ≡ is_valid words (list_at lists m) r)
        → ((m r : ℕ) → m < length lists → r < (list_at lists m).len → row_at words new (length_of (take m lists) + r) ≡ row_at words (list_at lists m) r)
        → (m : ℕ) → m ≤ length lists → map (row_at words new) (filter (is_valid words new) (range_with_len 0 (length_of (take m lists)))) ≡ flat_map (valid_rows words) (take m lists)
    rows_upto words new lists v r zero h = refl
    rows_upto words new lists v r (suc m) h =
        let l : PaddedList = list_at lists m in
        let n : ℕ = length_of (take m lists) in
        let s : suc m ≡ m + 1 = omega arith in
        let more : take (suc m) lists ≡ take m lists ++ l ∷ [] = ap (λ i. take i lists) s ∙ take_more lists m no_list (omega arith) in
        let len : length_of (take (suc m) lists) ≡ n + l.len = ap length_of more ∙ sum_by-append (λ (k : PaddedList). k.len) (take m lists) (l ∷ []) ∙ omega (arith, sum_by-cons (λ (k : PaddedList). k.len) l []) in
        let z : 0 + n ≡ n = omega arith in
        ap (λ i. map (row_at words new) (filter (is_valid words new) (range_with_len 0 i))) len
        ∙ rows_add (row_at words new) (is_valid words new) 0 n l.len
        ∙ ap₂ (λ (xs ys : List (List Value)). xs ++ ys) (rows_upto words new lists v r m (omega arith))
        (ap (λ i. map (row_at words new) (filter (is_valid words new) (range_with_len i l.len))) z
        ∙ shifted_rows (row_at words new) (row_at words l) (is_valid words new) (is_valid words l) n 0 l.len
        (λ i b. let e : i ≡ 0 + i = omega arith in v m i (omega arith) b ∙ ap (is_valid words l) e)
        (λ i b. let e : i ≡ 0 + i = omega arith in r m i (omega arith) b ∙ ap (row_at words l) e))
        ∙ sym (ap (flat_map (valid_rows words)) more ∙ flat_map-append (valid_rows words) (take m lists) (l ∷ []) ∙ ap (λ (xs : List (List Value)). flat_map (valid_rows words) (take m lists) ++ xs) (append-nil (valid_rows words l)))
