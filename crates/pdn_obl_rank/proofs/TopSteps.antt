-- The gates of top, made one after the other.
use Rattle.std.proofs.Common.{◌≡◌, ℕ, ◌^◌, ◌<◌, ◌≤◌, List, [], ◌∷◌, ◌++◌, length, get_or, Option, refl, sym, ap, ◌∙◌, subst, arith}
use Rattle.std.specs.Prelude.{nat_lt}
use Rattle.std.specs.List.{All, range_with_len}
use Rattle.std.proofs.lemmas.List.FromFn.{length-range_with_len}
use Rattle.std.proofs.lemmas.Bool.{le-ltb}
use Rattle.pdn_base.specs.declared.order.Key.{Key}
use Rattle.pdn_base.specs.declared.cond.Cmp.{Cmp}
use Rattle.pdn_base.specs.declared.marks.Kind.TheVariants as kind
use Rattle.pdn_circuit.specs.declared.tally.BuildErr.{BuildErr}
use Rattle.pdn_circuit.specs.declared.tally.BuildErr.TheVariants.{Memory}
use Rattle.pdn_circuit.specs.Blocks.{Making, gives, ◌>>=◌, each}
use Rattle.pdn_circuit.specs.Building.{Made, Makes, Stops, Along}
use Rattle.pdn_circuit.proofs.Making.{along_next, along_stops, along_memory}
use Rattle.pdn_obl_rows.specs.Lists.{PaddedList, IsShaped, plane_at}
use Rattle.pdn_obl_rows.specs.Conditions.{CondFits, and_gates}
use Rattle.pdn_obl_rows.specs.Operators.{filter_word, filter_gates}
use Rattle.pdn_obl_rows.proofs.ShapeLaws.{get_or_any, list_is}
use Rattle.pdn_obl_rows.proofs.Walks.{first_stops, first_made, second_stops, second_made, last_gives}
use Rattle.pdn_obl_rank.specs.Numbers.{number_gates}
use Rattle.pdn_obl_rank.specs.Tops.{within, first_gates, limit_gates, kept_gates, cleared_gates, top_gates}
use Rattle.pdn_obl_rank.proofs.ThereLaws.{each_gives}
use Rattle.pdn_obl_rank.proofs.TopLaws.{fits_limit}

-- ---- the first rows of the order
module _ (old : Made) (list : PaddedList) (order : List Key) (limit : ℕ) (none : List ℕ) (en : none ≡ []) where
  abbrev whole : Making (List ℕ)
  whole = first_gates list order limit

  abbrev filtering : PaddedList → Making PaddedList
  filtering numbered = filter_gates numbered (within (length list.kinds) limit)

  abbrev rest : PaddedList → Making (List ℕ)
  rest numbered = filtering numbered >>= λ kept. gives kept.valid

  pub not_numbered : (new : Made) (err : BuildErr) → Stops old new (number_gates list none order (length old.gates)) err → Stops old new (whole (length old.gates)) err
  not_numbered new err s = first_stops old whole (number_gates list [] order) rest refl new err (subst (λ (p : List ℕ). Stops old new (number_gates list p order (length old.gates)) err) en s)

  module _ (m1 : Made) (numbered : PaddedList) (m : Makes old m1 (number_gates list none order (length old.gates)) numbered) where
    begun : Along old whole m1 (rest numbered)
    begun = first_made old whole (number_gates list [] order) rest refl m1 numbered (subst (λ (p : List ℕ). Makes old m1 (number_gates list p order (length old.gates)) numbered) en m)

    kinds_are : numbered.kinds ≡ list.kinds ++ kind.Int ∷ []
    unfolding gives ◌>>=◌
    kinds_are = ap (λ (l : PaddedList). l.kinds) m.gives

    valid_is : numbered.valid ≡ list.valid
    unfolding gives ◌>>=◌
    valid_is = ap (λ (l : PaddedList). l.valid) m.gives

    module _ (cond : List (List Cmp)) (column : ℕ) (ec : cond ≡ within column limit) (e : column ≡ length list.kinds) where
      same : cond ≡ within (length list.kinds) limit
      same = ec ∙ ap (λ n. within n limit) e

      pub cond_fits : limit < 2 ^ 32 → CondFits numbered.kinds cond
      cond_fits h = subst (λ ks. CondFits ks cond) (sym kinds_are) (subst (λ (on : List (List Cmp)). CondFits (list.kinds ++ kind.Int ∷ []) on) (sym same) (fits_limit list limit h))

      pub not_kept : (new : Made) (err : BuildErr) → Stops m1 new (filter_gates numbered cond (length m1.gates)) err → Stops old new (whole (length old.gates)) err
      not_kept new err s =
          along_stops old m1 new whole (filtering numbered) (λ kept. gives kept.valid) err begun (subst (λ (on : List (List Cmp)). Stops m1 new (filter_gates numbered on (length m1.gates)) err) same s)

      module _ (m2 : Made) (kept : PaddedList) (k : Makes m1 m2 (filter_gates numbered cond (length m1.gates)) kept) where
        done : Along old whole m2 (gives kept.valid)
        done = along_next old m1 m2 whole (filtering numbered) (λ kept. gives kept.valid) kept begun (subst (λ (on : List (List Cmp)). Makes m1 m2 (filter_gates numbered on (length m1.gates)) kept) same k)

        pub no_copy : Stops old m2 (whole (length old.gates)) Memory
        no_copy = along_memory old m2 whole (gives kept.valid) done

        pub kept_made : (valid : List ℕ) → valid ≡ kept.valid → Makes old m2 (whole (length old.gates)) valid
        kept_made valid is = last_gives old m2 whole kept.valid valid done is

        pub kept_count : length kept.valid ≡ length list.valid
        unfolding gives ◌>>=◌
        kept_count =
            let holds = each_gives (filter_word numbered cond) (λ j x. Unit {0}) (λ j n. tt) (range_with_len 0 (length numbered.valid)) (length m1.gates) in
            ap (λ (l : PaddedList). length l.valid) k.gives ∙ holds.count ∙ length-range_with_len 0 (length numbered.valid) ∙ ap length valid_is

-- ---- the planes of a list, cleared
cleared_shaped : (list : PaddedList) (valid : List ℕ) (planes : List (List ℕ)) (n : ℕ) → planes ≡ (each (cleared_gates valid) list.planes n).result → IsShaped list → length valid ≡ length list.valid
    → IsShaped (record { len = list.len; valid = valid; kinds = list.kinds; planes = planes })
cleared_shaped list valid planes n e shaped h =
    let holds = each_gives (cleared_gates valid) (λ (plane out : List ℕ). length out ≡ length plane)
    (λ plane m. let inner = each_gives (λ w. and_gates (get_or valid w 0) (get_or plane w 0)) (λ w g. Unit {0}) (λ w i. tt) (range_with_len 0 (length plane)) m in inner.count ∙ length-range_with_len 0 (length plane)) list.planes n in
    let count : length planes ≡ length list.planes = ap length e ∙ holds.count in
    record {
      valid = h ∙ shaped.valid;
      planes = count ∙ shaped.planes;
      words = λ p l. ap (λ (ps : List (List ℕ)). length (plane_at ps p)) e ∙ holds.at p [] [] (omega (arith, l, count)) ∙ shaped.words p (omega (arith, l, count));
    }

-- each plane is as long as the valid one
pub planes_wide : (list : PaddedList) (valid : List ℕ) → IsShaped list → length valid ≡ length list.valid → All (λ plane. length plane ≡ length valid) list.planes
planes_wide list valid shaped h = λ k d l. wide k d l
  where
    wide : (k : ℕ) (d : List ℕ) → k < length list.planes → length (get_or list.planes k d) ≡ length valid
    wide k d l = ap length (get_or_any list.planes k d [] l) ∙ shaped.words k l ∙ sym shaped.valid ∙ sym h

-- a limit that is no less than the length
pub limit_is : (list : PaddedList) (order : List Key) (limit : ℕ) → list.len ≤ limit → limit_gates (nat_lt limit list.len) list order limit ≡ gives list.valid
limit_is list order limit h = ap (λ c. limit_gates c list order limit) (le-ltb limit list.len h)

-- ---- the whole of top
module _ (old : Made) (list : PaddedList) (order : List Key) (limit : Option ℕ) where
  abbrev topping : Making PaddedList
  topping = top_gates list order limit

  abbrev topped : List ℕ → List (List ℕ) → PaddedList
  topped valid planes = record { len = list.len; valid = valid; kinds = list.kinds; planes = planes }

  pub not_limited : (new : Made) (err : BuildErr) → Stops old new (kept_gates list order limit (length old.gates)) err → Stops old new (topping (length old.gates)) err
  not_limited new err s = first_stops old topping (kept_gates list order limit) (λ valid. each (cleared_gates valid) list.planes >>= λ planes. gives (topped valid planes)) refl new err s

  module _ (m1 : Made) (valid : List ℕ) (m : Makes old m1 (kept_gates list order limit (length old.gates)) valid) (xs : List ℕ) (ex : xs ≡ valid) (ps : List (List ℕ)) (ep : ps ≡ list.planes) where
    same_each : each (cleared_gates xs) ps ≡ each (cleared_gates valid) list.planes
    same_each = ap (λ (ys : List ℕ). each (cleared_gates ys) ps) ex ∙ ap (λ (qs : List (List ℕ)). each (cleared_gates valid) qs) ep

    pub not_cleared : (new : Made) (err : BuildErr) → Stops m1 new (each (cleared_gates xs) ps (length m1.gates)) err → Stops old new (topping (length old.gates)) err
    not_cleared new err s =
        second_stops old topping (kept_gates list order limit) (λ valid. each (cleared_gates valid) list.planes) (λ valid planes. gives (topped valid planes)) refl m1 new valid err m
        (subst (λ (making : Making (List (List ℕ))). Stops m1 new (making (length m1.gates)) err) same_each s)

    module _ (m2 : Made) (planes : List (List ℕ)) (k : Makes m1 m2 (each (cleared_gates xs) ps (length m1.gates)) planes) where
      all_cleared : Makes m1 m2 (each (cleared_gates valid) list.planes (length m1.gates)) planes
      all_cleared = subst (λ (making : Making (List (List ℕ))). Makes m1 m2 (making (length m1.gates)) planes) same_each k

      cleared_along : Along old topping m2 (gives (topped valid planes))
      cleared_along = second_made old topping (kept_gates list order limit) (λ valid. each (cleared_gates valid) list.planes) (λ valid planes. gives (topped valid planes)) refl m1 m2 valid planes m all_cleared

      module _ (out : PaddedList) (el : out.len ≡ list.len) (ev : out.valid ≡ valid) (ek : out.kinds ≡ list.kinds) (es : out.planes ≡ planes) where
        is : out ≡ topped valid planes
        is = list_is out (topped valid planes) el ev ek es

        pub top_made : (result : PaddedList) → result ≡ out → Makes old m2 (topping (length old.gates)) result
        top_made result e = last_gives old m2 topping (topped valid planes) result cleared_along (e ∙ is)

        pub top_shaped : IsShaped list → length valid ≡ length list.valid → IsShaped out
        top_shaped shaped h = subst (λ (l : PaddedList). IsShaped l) (sym is) (cleared_shaped list valid planes (length m1.gates) all_cleared.gives shaped h)
