-- A leaf: the list of A's rows and then of B's.
use Rattle.std.proofs.Common.{length-append, get_or, ◌≡◌, ℕ, zero, suc, ◌+◌, ◌*◌, ◌/◌, ◌<◌, List, [], ◌∷◌, ◌++◌, length, refl, sym, ap, ap₂, ◌∙◌, subst, arith, append-nil}
use Rattle.std.specs.List.{range_with_len}
use Rattle.std.proofs.lemmas.List.FromFn.{length-range_with_len, length-map-range_with_len}
use Rattle.std.proofs.lemmas.List.Sums.{sum_by-cons}
use Rattle.std.specs.Prelude.{slice_index}
use Rattle.pdn_base.specs.declared.marks.Kind.{Kind}
use Rattle.pdn_base.specs.declared.site.Site.TheVariants.{A, B}
use Rattle.pdn_base.specs.Operators.{Rows, SameRows, listed}
use Rattle.pdn_base.proofs.BagLaws.{SameBag-append}
use Rattle.pdn_base.proofs.RowLaws.{same_row-tests}
use Rattle.pdn_circuit.specs.Gates.{InputWords}
use Rattle.pdn_circuit.specs.Plain.{Yields}
use Rattle.pdn_circuit.specs.Laying.{lay_gates, words_of_rows}
use Rattle.pdn_circuit.proofs.PlainLaws.{yields-gives, yields-then, yields-each}
use Rattle.pdn_circuit.proofs.LayPlain.{lay_count}
use Rattle.pdn_obl_rows.specs.Lists.{PaddedList, IsShaped, widths, words_for, valid_rows}
use Rattle.pdn_obl_rows.specs.Encoding.{RowIsOf, RowsAreOf, Stand}
use Rattle.pdn_obl_rows.specs.Operators.{list_at, AllOf, row_picks, append_picks, valid_of, plane_of, kinds_of, length_of, append_gates}
use Rattle.pdn_obl_rows.proofs.AppendLaws.{append_means}
use Rattle.pdn_site.specs.Laying.{Taken, list_words, with_words, input_list}
use Rattle.pdn_site.specs.SiteRows.{entered}
use Rattle.pdn_site.specs.Meaning.{Holds, LeafMeans}
use Rattle.pdn_site.proofs.RowLists.{all_append, of_all, to_all, listed_are, listed_few, listed_same}
use Rattle.pdn_site.proofs.LayingLaws.{Read, laid-then, laid-making, input_read}

-- ---- the shape of lists one after the other
length_picks : (plane : PaddedList → List ℕ) (from : ℕ) (lists : List PaddedList) → length (append_picks plane from lists) ≡ length_of lists
length_picks plane from [] = refl
length_picks plane from (l ∷ ls) =
    let own : length (row_picks from l.len (plane l)) ≡ l.len = length-map-range_with_len (λ row. record { list = from; row = row; gate = slice_index (plane l) (row / 64) }) 0 l.len in
    omega (arith, length-append (row_picks from l.len (plane l)) (append_picks plane (from + 1) ls), own, length_picks plane (from + 1) ls, sum_by-cons (λ (k : PaddedList). k.len) l ls)

words_same : (rows len : ℕ) → rows ≡ len → words_of_rows rows ≡ words_for len
unfolding words_for
words_same rows len e = ap words_of_rows e

pub record IsAppended (lists : List PaddedList) (out : PaddedList) : Type 0 where
  pub len : out.len ≡ length_of lists
  pub kinds : out.kinds ≡ kinds_of lists
  pub shaped : IsShaped out

module _ {inputs : InputWords} {words : List ℕ} where
  pub appended : (lists : List PaddedList) {out : PaddedList} → Yields inputs words (append_gates lists) out → IsAppended lists out
  appended lists {out} y =
      let a = yields-then _ _ y in
      let b = yields-then _ _ a.rest in
      let w : ℕ = widths (kinds_of lists) in
      let all = yields-each (λ p. lay_gates (append_picks (plane_of p) 0 lists)) (range_with_len 0 w) b.x b.first in
      let count : length b.x ≡ w = all.count ∙ length-range_with_len 0 w in
      subst (λ (o : PaddedList). IsAppended lists o) (sym (yields-gives _ b.rest)) (record {
        len = refl;
        kinds = refl;
        shaped = record {
          valid = lay_count (append_picks valid_of 0 lists) a.first ∙ words_same _ (length_of lists) (length_picks valid_of 0 lists);
          planes = count;
          words = λ p h.
              let k : ℕ = get_or (range_with_len 0 w) p 0 in
              lay_count (append_picks (plane_of k) 0 lists) (all.at p 0 [] (omega (arith, h, all.count))) ∙ words_same _ (length_of lists) (length_picks (plane_of k) 0 lists);
        };
      })

-- two lists of the same kinds
pub two_of : (kinds : List Kind) (l r : PaddedList) → l.kinds ≡ kinds → r.kinds ≡ kinds → IsShaped l → IsShaped r → AllOf kinds (l ∷ r ∷ [])
two_of kinds l r kl kr sl sr = record { kinds = at_kinds; shaped = at_shaped }
  where
    at_kinds : (m : ℕ) → m < 2 → (list_at (l ∷ r ∷ []) m).kinds ≡ kinds
    at_kinds zero h = kl
    at_kinds (suc zero) h = kr
    at_kinds (suc (suc m)) h = absurd (omega arith)

    at_shaped : (m : ℕ) → m < 2 → IsShaped (list_at (l ∷ r ∷ []) m)
    at_shaped zero h = sl
    at_shaped (suc zero) h = sr
    at_shaped (suc (suc m)) h = absurd (omega arith)

two_hold : (inputs : InputWords) (words : List ℕ) (kinds : List Kind) (len : ℕ) (a b xs ys : Rows) (l r out : PaddedList) → Read words l kinds len xs → Read words r kinds len ys → RowsAreOf kinds xs → RowsAreOf kinds ys
    → SameRows xs a → SameRows ys b → Yields inputs words (append_gates (l ∷ r ∷ [])) out → Holds words out kinds (2 * len) (a ++ b)
two_hold inputs words kinds len a b xs ys l r out rl rr are_x are_y same_x same_y y =
    let lists : List PaddedList = l ∷ r ∷ [] in
    let shape = appended lists y in
    let same : AllOf (kinds_of lists) lists = subst (λ (ks : List Kind). AllOf ks lists) (sym rl.kinds) (two_of kinds l r rl.kinds rr.kinds rl.shaped rr.shaped) in
    let is : valid_rows words out ≡ xs ++ ys
    = append_means inputs words lists out same y ∙ ap₂ (λ (us vs : Rows). us ++ vs) rl.rows (append-nil (valid_rows words r) ∙ rr.rows) in
    record {
      shaped = shape.shaped;
      kinds = shape.kinds ∙ rl.kinds;
      len = omega (arith, shape.len, rl.len, rr.len, sum_by-cons (λ (k : PaddedList). k.len) l (r ∷ []), sum_by-cons (λ (k : PaddedList). k.len) r []);
      rows = subst (λ (zs : Rows). SameRows zs (a ++ b)) (sym is) (SameBag-append same_row-tests same_x same_y);
      are = subst (λ (zs : Rows). RowsAreOf kinds zs) (sym is) (of_all kinds (xs ++ ys) (all_append (RowIsOf kinds) xs ys (to_all kinds xs are_x) (to_all kinds ys are_y)));
    }

pub leaf_means : LeafMeans
leaf_means inputs words kinds len a b are_a are_b few_a few_b taken after stand_a stand_b list y =
    let first = laid-then (input_list A kinds len) _ taken y in
    let own_a = input_read A kinds len taken (listed [] a) (listed_are kinds a are_a) (listed_few a len few_a) stand_a first.first in
    let second = laid-then (input_list B kinds len) _ first.between first.rest in
    let at_b : first.between ≡ with_words A (list_words kinds len) taken = own_a.1 in
    let own_b = input_read B kinds len first.between (listed [] b) (listed_are kinds b are_b) (listed_few b len few_b) (subst (λ (n : ℕ). Stand inputs.b n (entered b kinds len)) (sym (ap (λ (t : Taken). t.b) at_b)) stand_b) second.first in
    let last = laid-making (append_gates (first.x ∷ second.x ∷ [])) second.between second.rest in (
      two_hold inputs words kinds len a b (listed [] a) (listed [] b) first.x second.x list own_a.0 own_b.0 (listed_are kinds a are_a) (listed_are kinds b are_b) (listed_same a) (listed_same b) last.0,
      last.1 ∙ own_b.1 ∙ ap (with_words B (list_words kinds len)) at_b,
    )
