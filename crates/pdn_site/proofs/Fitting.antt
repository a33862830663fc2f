-- Rows of kinds whose pinned columns hold a value, through each operator.
use Rattle.std.proofs.Common.{◌≡◌, ℕ, zero, suc, ◌+◌, ◌^◌, ◌<◌, ◌≤◌, Bool, true, false, not, List, [], ◌∷◌, ◌++◌, length, map, filter, take, refl, sym, ap₂, ◌∙◌, arith, length-append, Option, Some, None}
use Rattle.std.specs.List.{AllByRecursion, range_with_len}
use Rattle.std.proofs.lemmas.List.{length-map}
use Rattle.std.proofs.lemmas.List.Sums.{count_by-le-length, length-filter}
use Rattle.std.proofs.lemmas.List.FromFn.{length-range_with_len}
use Rattle.pdn_base.specs.declared.marks.Kind.{Kind}
use Rattle.pdn_base.specs.declared.marks.Kind.TheVariants as kind
use Rattle.pdn_base.specs.declared.value.Value.{Value}
use Rattle.pdn_base.specs.declared.value.Value.TheVariants as value
use Rattle.pdn_base.specs.declared.order.Key.{Key}
use Rattle.pdn_base.specs.declared.cond.Cmp.{Cmp}
use Rattle.pdn_base.specs.Values.{cell, cut, same_row}
use Rattle.pdn_base.specs.Conditions.{meets}
use Rattle.pdn_base.specs.Bags.{times, distinct, pairs}
use Rattle.pdn_base.specs.Operators.{Rows, joined, join_rows, filter_rows, project_rows, group_rows, distinct_rows, number_from, place_of, before_in, counted, allows, listed, limited, top_rows}
use Rattle.pdn_base.proofs.Listing.{listed-rows}
use Rattle.pdn_obl_rows.specs.Lists.{PaddedList, kind_at, row_at, is_valid, valid_rows}
use Rattle.pdn_obl_rows.specs.Encoding.{RowIsOf}
use Rattle.pdn_obl_group.specs.Means.{HoldOnly}
use Rattle.pdn_obl_group.proofs.CutLaws.{cut_kinds}
use Rattle.pdn_level.specs.Links.{slice_at}
use Rattle.pdn_site.specs.Circuits.{all_pinned}
use Rattle.pdn_site.proofs.RowLists.{all_perm, all_filter, all_append, all_map}

abbrev pub HasPinned : List Bool → Value → List Value → Type 0
HasPinned pinned v row = (c : ℕ) → slice_at pinned c ≡ true → cell row c ≡ v

-- a row of these kinds, with the value in each pinned column
pub record IsFit (columns : List Kind) (pinned : List Bool) (v : Value) (row : List Value) : Type 0 where
  pub of : RowIsOf columns row
  pub pins : HasPinned pinned v row

abbrev pub AreFit : List Kind → List Bool → Value → Rows → Type 0
AreFit columns pinned v rows = AllByRecursion (IsFit columns pinned v) rows

-- ---- one row
row_append : (left right : List Kind) (x y : List Value) → RowIsOf left x → RowIsOf right y → RowIsOf (left ++ right) (x ++ y)
row_append [] right [] y h k = k
row_append [] right (u ∷ us) y h k = absurd h
row_append (l ∷ ls) right [] y h k = absurd h
row_append (l ∷ ls) right (u ∷ us) y h k = (h.0, row_append ls right us y h.1 k)

pins_append : (left : List Kind) (ps qs : List Bool) (v : Value) (x y : List Value) → RowIsOf left x → length ps ≡ length left → HasPinned ps v x → HasPinned qs v y → HasPinned (ps ++ qs) v (x ++ y)
pins_append [] [] qs v [] y h l a b c e = b c e
pins_append [] (p ∷ ps) qs v x y h l a b c e = absurd (omega (arith, l))
pins_append [] [] qs v (u ∷ us) y h l a b c e = absurd h
pins_append (k ∷ ks) [] qs v x y h l a b c e = absurd (omega (arith, l))
pins_append (k ∷ ks) (p ∷ ps) qs v [] y h l a b c e = absurd h
pins_append (k ∷ ks) (p ∷ ps) qs v (u ∷ us) y h l a b zero e = a zero e
pins_append (k ∷ ks) (p ∷ ps) qs v (u ∷ us) y h l a b (suc c) e = pins_append ks ps qs v us y h.1 (omega (arith, l)) (λ i f. a (suc i) f) b c e

pub fit_join : (left right : List Kind) (ps qs : List Bool) (v : Value) (x y : List Value) → length ps ≡ length left → IsFit left ps v x → IsFit right qs v y → IsFit (left ++ right) (ps ++ qs) v (x ++ y)
fit_join left right ps qs v x y l a b = record { of = row_append left right x y a.of b.of; pins = pins_append left ps qs v x y a.of l a.pins b.pins }

fit_one : (v : Value) (n : ℕ) → n < 2 ^ 32 → IsFit (kind.Int ∷ []) (false ∷ []) v (value.Int n ∷ [])
fit_one v n h = record { of = (h, tt); pins = pins }
  where
    pins : HasPinned (false ∷ []) v (value.Int n ∷ [])
    pins zero e = absurd cc
    pins (suc c) e = absurd cc

fit_last : (columns : List Kind) (pinned : List Bool) (v : Value) (row : List Value) (n : ℕ) → length pinned ≡ length columns → IsFit columns pinned v row → n < 2 ^ 32 → IsFit (columns ++ kind.Int ∷ []) (pinned ++ false ∷ []) v (row ++ value.Int n ∷ [])
fit_last columns pinned v row n l h few = fit_join columns (kind.Int ∷ []) pinned (false ∷ []) v row (value.Int n ∷ []) l h (fit_one v n few)

pins_cut : (pinned : List Bool) (v : Value) (row : List Value) (columns : List ℕ) → HasPinned pinned v row → HasPinned (map (slice_at pinned) columns) v (cut columns row)
pins_cut pinned v row [] h c e = absurd cc
pins_cut pinned v row (d ∷ ds) h zero e = h d e
pins_cut pinned v row (d ∷ ds) h (suc c) e = pins_cut pinned v row ds h c e

pub fit_cut : (kinds : List Kind) (pinned : List Bool) (v : Value) (row : List Value) (columns : List ℕ) → AllByRecursion (λ c. c < length kinds) columns → IsFit kinds pinned v row → IsFit (map (kind_at kinds) columns) (map (slice_at pinned) columns) v (cut columns row)
fit_cut kinds pinned v row columns there h = record { of = cut_kinds kinds row columns h.of there; pins = pins_cut pinned v row columns h.pins }

-- ---- each row
module _ (columns : List Kind) (pinned : List Bool) (v : Value) where
  pub fit_filter : (clauses : List (List Cmp)) (rows : Rows) → AreFit columns pinned v rows → AreFit columns pinned v (filter_rows clauses rows)
  fit_filter clauses rows h = all_filter (IsFit columns pinned v) (meets clauses) rows h

  pub fit_project : (chosen : List ℕ) (rows : Rows) → AllByRecursion (λ c. c < length columns) chosen → AreFit columns pinned v rows → AreFit (map (kind_at columns) chosen) (map (slice_at pinned) chosen) v (project_rows chosen rows)
  fit_project chosen rows there h = all_map (IsFit columns pinned v) (IsFit (map (kind_at columns) chosen) (map (slice_at pinned) chosen) v) (cut chosen) (λ row f. fit_cut columns pinned v row chosen there f) rows h

  pub fit_distinct : (rows : Rows) → AreFit columns pinned v rows → AreFit columns pinned v (distinct_rows rows)
  fit_distinct [] h = tt
  fit_distinct (x ∷ xs) h = (h.0, all_filter (IsFit columns pinned v) (λ y. not (same_row x y)) (distinct same_row xs) (fit_distinct xs h.1))

  pub fit_pairs : (columns' : List Kind) (pinned' : List Bool) (on : List (List Cmp)) (xs ys : Rows) → length pinned ≡ length columns → AreFit columns pinned v xs → AreFit columns' pinned' v ys → AreFit (columns ++ columns') (pinned ++ pinned') v (join_rows on xs ys)
  fit_pairs columns' pinned' on xs ys l h k = all_filter (IsFit (columns ++ columns') (pinned ++ pinned') v) (meets on) (pairs joined xs ys) (each_pair xs h)
    where
      each_pair : (xs : Rows) → AreFit columns pinned v xs → AreFit (columns ++ columns') (pinned ++ pinned') v (pairs joined xs ys)
      each_pair [] h = tt
      each_pair (x ∷ xs) h =
          all_append (IsFit (columns ++ columns') (pinned ++ pinned') v) (map (joined x) ys) (pairs joined xs ys)
          (all_map (IsFit columns' pinned' v) (IsFit (columns ++ columns') (pinned ++ pinned') v) (joined x) (λ y f. fit_join columns columns' pinned pinned' v x y l h.0 f) ys k)
          (each_pair xs h.1)

  pub fit_number_from : (partition : List ℕ) (order : List Key) (all earlier rest : Rows) → length pinned ≡ length columns → length all ≤ 4096 → length earlier + length rest ≤ 4096 → AreFit columns pinned v rest
      → AreFit (columns ++ kind.Int ∷ []) (pinned ++ false ∷ []) v (number_from partition order all earlier rest)
  fit_number_from partition order all earlier [] l few less h = tt
  fit_number_from partition order all earlier (x ∷ rest) l few less h = (
    fit_last columns pinned v x (place_of partition order all earlier x) l h.0 (omega (arith, few, less, count_by-le-length (before_in partition order x) all, count_by-le-length (same_row x) earlier)),
    fit_number_from partition order all (earlier ++ x ∷ []) rest l few (omega (arith, less, length-append earlier (x ∷ []))) h.1,
  )

  pub fit_top : (order : List Key) (limit : Option ℕ) (rows : Rows) → AreFit columns pinned v rows → AreFit columns pinned v (top_rows order limit rows)
  fit_top order limit rows h = cut_to limit (all_perm (IsFit columns pinned v) (listed-rows order rows) h)
    where
      first : (n : ℕ) (xs : Rows) → AreFit columns pinned v xs → AreFit columns pinned v (take n xs)
      first zero xs h = tt
      first (suc n) [] h = tt
      first (suc n) (x ∷ xs) h = (h.0, first n xs h.1)

      cut_to : (limit : Option ℕ) → AreFit columns pinned v (listed order rows) → AreFit columns pinned v (limited limit (listed order rows))
      cut_to None h = h
      cut_to (Some n) h = first n (listed order rows) h

pub fit_count : (v : Value) (n : ℕ) → n < 2 ^ 32 → AreFit (kind.Int ∷ []) (false ∷ []) v ((value.Int n ∷ []) ∷ [])
fit_count v n h = (fit_one v n h, tt)

pub fit_group : (columns : List Kind) (pinned : List Bool) (v : Value) (keys : List ℕ) (having : Option ℕ) (rows : Rows) → AllByRecursion (λ c. c < length columns) keys → length rows < 2 ^ 32 → AreFit columns pinned v rows
    → AreFit (map (kind_at columns) keys ++ kind.Int ∷ []) (map (slice_at pinned) keys ++ false ∷ []) v (group_rows keys having rows)
fit_group columns pinned v keys having rows there few h =
    let ks : List Kind = map (kind_at columns) keys in
    let ps : List Bool = map (slice_at pinned) keys in
    let all : Rows = project_rows keys rows in
    let same : length ps ≡ length ks = length-map keys (slice_at pinned) ∙ sym (length-map keys (kind_at columns)) in
    let most : length all ≡ length rows = length-map rows (cut keys) in
    all_map (IsFit ks ps v) (IsFit (ks ++ kind.Int ∷ []) (ps ++ false ∷ []) v) (counted all)
    (λ key f. fit_last ks ps v key (times same_row key all) same f (omega (arith, few, most, count_by-le-length (same_row key) all)))
    (filter (λ key. allows having (times same_row key all)) (distinct same_row all))
    (all_filter (IsFit ks ps v) (λ key. allows having (times same_row key all)) (distinct same_row all) (fit_distinct ks ps v all (fit_project columns pinned v keys rows there h)))

-- ---- where all columns are pinned, each is the value
pinned_at : (pinned : List Bool) → all_pinned pinned ≡ true → (c : ℕ) → c < length pinned → slice_at pinned c ≡ true
pinned_at [] e c h = absurd (omega arith)
pinned_at (true ∷ ps) e zero h = refl
pinned_at (true ∷ ps) e (suc c) h = pinned_at ps e c (omega arith)
pinned_at (false ∷ ps) e c h = absurd cc

value_row : (v : Value) (columns : List Kind) (row : List Value) → RowIsOf columns row → ((c : ℕ) → c < length columns → cell row c ≡ v) → row ≡ map (λ k. v) columns
value_row v [] [] r h = refl
value_row v [] (u ∷ us) r h = absurd r
value_row v (k ∷ ks) [] r h = absurd r
value_row v (k ∷ ks) (u ∷ us) r h = ap₂ (λ x (xs : List Value). x ∷ xs) (h 0 (omega arith)) (value_row v ks us r.1 (λ c l. h (suc c) (omega arith)))

pub only_value : (columns : List Kind) (pinned : List Bool) (v : Value) (rows : Rows) → length pinned ≡ length columns → all_pinned pinned ≡ true → AreFit columns pinned v rows → HoldOnly v columns rows
only_value columns pinned v [] l e h = tt
only_value columns pinned v (row ∷ rows) l e h = (value_row v columns row h.0.of (λ c b. h.0.pins c (pinned_at pinned e c (omega (arith, b, l)))), only_value columns pinned v rows l e h.1)

-- ---- a list has no more valid rows than its length
pub few_valid : (words : List ℕ) (list : PaddedList) → length (valid_rows words list) ≤ list.len
few_valid words list =
    let chosen : List ℕ = filter (is_valid words list) (range_with_len 0 list.len) in
    omega (arith, length-map chosen (row_at words list), length-filter (is_valid words list) (range_with_len 0 list.len), count_by-le-length (is_valid words list) (range_with_len 0 list.len), length-range_with_len 0 list.len)
