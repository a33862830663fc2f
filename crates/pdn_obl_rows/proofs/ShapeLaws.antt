-- The shapes of lists.
use Rattle.std.proofs.Common.{◌≡◌, ℕ, zero, suc, ◌+◌, ◌-◌, ◌<◌, ◌≤◌, List, [], ◌∷◌, ◌++◌, length, get_or, map, take, drop, refl, sym, ap, ap₂, ◌∙◌, subst, arith, ⊎_elim, length-append}
use Rattle.std.specs.Prelude.{slice_index_or}
use Rattle.std.specs.List.{AllByRecursion, flat_map}
use Rattle.std.proofs.lemmas.Bool.{cases_lt}
use Rattle.std.proofs.lemmas.List.{take_more, get_or_append_left, get_or-append-add, get_or-take, get_or-drop, length-take, length-drop, drop-drop}
use Rattle.std.proofs.lemmas.List.Sums.{sum_by-append, sum_by-cons}
use Rattle.pdn_base.specs.declared.marks.Kind.{Kind}
use Rattle.pdn_base.specs.declared.marks.Kind.TheVariants as kind
use Rattle.pdn_obl_rows.specs.Lists.{PaddedList, IsShaped, width_of, widths, words_for, plane_at, kind_at, planes_before, column_planes}
use Rattle.pdn_obl_rows.specs.Operators.{projected}
use Rattle.pdn_obl_rows.proofs.CellLaws.{widths-cons, before_within, length-column_planes}

pub before_more : (kinds : List Kind) (c before width : ℕ) → c < length kinds → before ≡ planes_before kinds c → width ≡ width_of (kind_at kinds c) → before + width ≡ planes_before kinds (c + 1)
before_more kinds c before width h e w =
    let k : Kind = kind_at kinds c in
    ap₂ (λ a b. a + b) e w ∙ sym (ap widths (take_more kinds c kind.Int h) ∙ sum_by-append width_of (take c kinds) (k ∷ []) ∙ omega (arith, sum_by-cons width_of k []))

-- planes of so many words
pub record AllLong (words : ℕ) (planes : List (List ℕ)) : Type 0 where
  pub at : (p : ℕ) → p < length planes → length (plane_at planes p) ≡ words

pub long_none : (words : ℕ) → AllLong words []
long_none words = record { at = λ p h. absurd (omega arith) }

pub long_append : (words : ℕ) (xs ys : List (List ℕ)) → AllLong words xs → AllLong words ys → AllLong words (xs ++ ys)
long_append words xs ys a b = record {
  at = λ p h. ⊎_elim
      (λ l. ap length (get_or_append_left xs ys [] p l) ∙ a.at p l)
      (λ l. let e : length xs + (p - length xs) ≡ p = omega arith in
      ap (λ n. length (plane_at (xs ++ ys) n)) (sym e) ∙ ap length (get_or-append-add xs ys (p - length xs) []) ∙ b.at (p - length xs) (omega (arith, length-append xs ys)))
      (cases_lt p (length xs));
}

pub long_take : (words n : ℕ) (xs : List (List ℕ)) → AllLong words xs → AllLong words (take n xs)
long_take words n xs a = record { at = λ p h. ap length (get_or-take n xs p [] (omega (arith, length-take n xs))) ∙ a.at p (omega (arith, length-take n xs)) }

pub long_drop : (words n : ℕ) (xs : List (List ℕ)) → AllLong words xs → AllLong words (drop n xs)
long_drop words n xs a = record { at = λ p h. ap length (get_or-drop n xs p []) ∙ a.at (n + p) (omega (arith, length-drop n xs)) }

chosen_long : (words : ℕ) (kinds : List Kind) (planes : List (List ℕ)) (columns : List ℕ) → AllLong words planes → AllLong words (flat_map (λ c. column_planes kinds c planes) columns)
chosen_long words kinds planes [] a = long_none words
chosen_long words kinds planes (c ∷ cs) a =
    long_append words (column_planes kinds c planes) (flat_map (λ d. column_planes kinds d planes) cs)
    (long_take words (width_of (kind_at kinds c)) (drop (planes_before kinds c) planes) (long_drop words (planes_before kinds c) planes a)) (chosen_long words kinds planes cs a)

chosen_count : (kinds : List Kind) (planes : List (List ℕ)) (columns : List ℕ) → length planes ≡ widths kinds → AllByRecursion (λ c. c < length kinds) columns
    → length (flat_map (λ c. column_planes kinds c planes) columns) ≡ widths (map (kind_at kinds) columns)
chosen_count kinds planes [] l h = refl
chosen_count kinds planes (c ∷ cs) l h =
    omega (arith, length-append (column_planes kinds c planes) (flat_map (λ d. column_planes kinds d planes) cs), length-column_planes kinds c planes l h.0, chosen_count kinds planes cs l h.1, widths-cons (kind_at kinds c) (map (kind_at kinds) cs))

pub projected_shaped : (list : PaddedList) (columns : List ℕ) → IsShaped list → AllByRecursion (λ c. c < length list.kinds) columns → IsShaped (projected list columns)
projected_shaped list columns s h =
    let long = chosen_long (words_for list.len) list.kinds list.planes columns (record { at = s.words }) in
    record { valid = s.valid; planes = chosen_count list.kinds list.planes columns s.planes h; words = long.at }

pub list_is : (a b : PaddedList) → a.len ≡ b.len → a.valid ≡ b.valid → a.kinds ≡ b.kinds → a.planes ≡ b.planes → a ≡ b
list_is a b l v k p =
    ap (λ n. record { len = n; valid = a.valid; kinds = a.kinds; planes = a.planes }) l
    ∙ ap (λ (x : List ℕ). record { len = b.len; valid = x; kinds = a.kinds; planes = a.planes }) v
    ∙ ap (λ (x : List Kind). record { len = b.len; valid = b.valid; kinds = x; planes = a.planes }) k
    ∙ ap (λ (x : List (List ℕ)). record { len = b.len; valid = b.valid; kinds = b.kinds; planes = x }) p

-- an element within a list, whatever stands for those past it
pub get_or_any : {X : Type 0} (xs : List X) (k : ℕ) (d e : X) → k < length xs → get_or xs k d ≡ get_or xs k e
get_or_any [] k d e h = absurd (omega arith)
get_or_any (x ∷ xs) zero d e h = refl
get_or_any (x ∷ xs) (suc k) d e h = get_or_any xs k d e (omega arith)

-- ---- the planes from a column on
pub column_room : (kinds : List Kind) (c width : ℕ) (planes rest : List (List ℕ)) → length planes ≡ widths kinds → c < length kinds → rest ≡ drop (planes_before kinds c) planes → width ≡ width_of (kind_at kinds c) → width ≤ length rest
column_room kinds c width planes rest l h e w = omega (arith, ap length e, length-drop (planes_before kinds c) planes, before_within kinds c h, w, l)

pub column_next : (kinds : List Kind) (c width : ℕ) (planes rest next : List (List ℕ)) → c < length kinds → rest ≡ drop (planes_before kinds c) planes → width ≡ width_of (kind_at kinds c) → next ≡ drop width rest
    → next ≡ drop (planes_before kinds (c + 1)) planes
column_next kinds c width planes rest next h e w d =
    d ∙ ap (drop width) e ∙ drop-drop width (planes_before kinds c) planes ∙ ap (λ n. drop n planes) (before_more kinds c (planes_before kinds c) width h refl w)

pub column_last : (kinds : List Kind) (c width : ℕ) (planes rest out : List (List ℕ)) → rest ≡ drop (planes_before kinds c) planes → width ≡ width_of (kind_at kinds c) → out ≡ take width rest → out ≡ column_planes kinds c planes
column_last kinds c width planes rest out e w d = d ∙ ap₂ (λ n (ps : List (List ℕ)). take n ps) w e
