-- Layings: what one after the other yields, and the lists whose words come from outside.
use Rattle.std.proofs.Common.{◌≡◌, ℕ, zero, suc, ◌+◌, ◌<◌, ◌≤◌, List, length, map, refl, sym, ap, ◌∙◌, subst, arith}
use Rattle.std.specs.Prelude.{slice_index}
use Rattle.std.specs.List.{range_with_len}
use Rattle.pdn_base.specs.declared.marks.Kind.{Kind}
use Rattle.pdn_base.specs.declared.site.Site.{Site}
use Rattle.pdn_base.specs.declared.value.Value.{Value}
use Rattle.pdn_circuit.specs.declared.gate.Gate.{Gate}
use Rattle.pdn_circuit.specs.declared.gate.Gate.TheVariants.{Input, Given}
use Rattle.pdn_circuit.specs.Gates.{InputWords, words_of, gate_value}
use Rattle.pdn_circuit.specs.Blocks.{Making}
use Rattle.pdn_circuit.specs.Plain.{Satisfies, Yields}
use Rattle.pdn_circuit.proofs.PlainLaws.{yields-gives, yields-then}
use Rattle.pdn_obl_rows.specs.Lists.{PaddedList, IsShaped, widths, words_for, plane_at, valid_rows}
use Rattle.pdn_obl_rows.specs.Encoding.{RowsAreOf, encoded, planes_from, list_from, Stand}
use Rattle.pdn_obl_rows.proofs.EncodingLaws.{length-planes_from, length-encoded, encoded_means}
use Rattle.pdn_obl_rows.proofs.ShapeLaws.{AllLong}
use Rattle.std.proofs.lemmas.List.FromFn.{length-range_with_len}
use Rattle.pdn_site.specs.Laying.{Taken, Laying, making, next, list_words, list_of, came_from, with_words, input_list, with_given, given_list}

-- what the first of two yields, where it ends, and the other from there on
pub record LaidTwice {X Y : Type 0} (inputs : InputWords) (words : List ℕ) (before : Laying X) (after : X → Laying Y) (taken : Taken) (z : Y × Taken) : Type 0 where
  pub x : X
  pub between : Taken
  pub first : Yields inputs words (before taken) (x, between)
  pub rest : Yields inputs words (after x between) z

module _ {inputs : InputWords} {words : List ℕ} where
  pub laid-then : {X Y : Type 0} (before : Laying X) (after : X → Laying Y) (taken : Taken) {z : Y × Taken} → Yields inputs words (next before after taken) z → LaidTwice inputs words before after taken z
  laid-then before after taken y =
      let a = yields-then _ _ y in
      record { x = a.x.0; between = a.x.1; first = a.first; rest = a.rest }

  -- gates that take no words
  pub laid-making : {X : Type 0} (gates : Making X) (taken : Taken) {z : X × Taken} → Yields inputs words (making gates taken) z → Yields inputs words gates z.0 × (z.1 ≡ taken)
  laid-making {X} gates taken {z} y =
      let a = yields-then _ _ y in
      let is : z ≡ (a.x, taken) = yields-gives _ a.rest in
      (subst (λ (x : X). Yields inputs words gates x) (sym (ap (λ (p : X × Taken). p.0) is)) a.first, ap (λ (p : X × Taken). p.1) is)

-- ---- gates of one kind
satisfied_each : (inputs : InputWords) (words : List ℕ) (gate : ℕ → Gate) (n first count : ℕ) → Satisfies inputs words n (map gate (range_with_len first count))
    → (k : ℕ) → k < count → slice_index words (n + k) ≡ gate_value inputs words (gate (first + k))
satisfied_each inputs words gate n first zero s k h = absurd (omega arith)
satisfied_each inputs words gate n first (suc count) s zero h =
    let e : n + zero ≡ n = omega arith in
    let f : first ≡ first + zero = omega arith in
    ap (slice_index words) e ∙ s.0 ∙ ap (λ i. gate_value inputs words (gate i)) f
satisfied_each inputs words gate n first (suc count) s (suc k) h =
    let e : n + suc k ≡ n + 1 + k = omega arith in
    let f : first + 1 + k ≡ first + suc k = omega arith in
    ap (slice_index words) e ∙ satisfied_each inputs words gate (n + 1) (first + 1) count s.1 k (omega arith) ∙ ap (λ i. gate_value inputs words (gate i)) f

from_long : (first words count : ℕ) → AllLong words (planes_from first words count)
from_long first words count = record { at = λ p h. at first words count p (omega (arith, h, length-planes_from first words count)) }
  where
    at : (first words count p : ℕ) → p < count → length (plane_at (planes_from first words count) p) ≡ words
    at first words zero p h = absurd (omega arith)
    at first words (suc count) zero h = length-range_with_len first words
    at first words (suc count) (suc p) h = at (first + words) words count p (omega arith)

pub from_shaped : (first : ℕ) (kinds : List Kind) (len : ℕ) → IsShaped (list_from first kinds len)
from_shaped first kinds len =
    let long = from_long (first + words_for len) (words_for len) (widths kinds) in
    record { valid = length-range_with_len first (words_for len); planes = length-planes_from (first + words_for len) (words_for len) (widths kinds); words = long.at }

-- the rows that were written as the words from a place on, and where their list stands
pub record Read (words : List ℕ) (list : PaddedList) (columns : List Kind) (count : ℕ) (entered : List (List Value)) : Type 0 where
  pub shaped : IsShaped list
  pub kinds : list.kinds ≡ columns
  pub len : list.len ≡ count
  pub rows : valid_rows words list ≡ entered

-- words that were given, at the gates of a list
pub record IsGiven (words : List ℕ) (columns : List Kind) (count : ℕ) (given : List ℕ) (made : PaddedList) : Type 0 where
  pub at : ℕ
  pub list : made ≡ list_from at columns count
  pub stand : Stand words at given

module _ {inputs : InputWords} {words : List ℕ} where
  list_of-read : (gate : ℕ → Gate) (source : List ℕ) → ((i : ℕ) → gate_value inputs words (gate i) ≡ slice_index source i) → (first : ℕ) (kinds : List Kind) (len : ℕ) (rows : List (List Value)) → RowsAreOf kinds rows → length rows ≤ len
      → Stand source first (encoded rows kinds len) → {list : PaddedList} → Yields inputs words (list_of gate first kinds len) list → Read words list kinds len rows
  list_of-read gate source is first kinds len rows are few stand {list} y =
      let n : ℕ = y.at in
      let many : length (encoded rows kinds len) ≡ list_words kinds len = length-encoded rows kinds len in
      let there : Stand words n (encoded rows kinds len)
      = record { at = λ k h. satisfied_each inputs words gate n first (list_words kinds len) y.satisfied k (omega (arith, h, many)) ∙ is (first + k) ∙ stand.at k h } in
      subst (λ (l : PaddedList). Read words l kinds len rows) (sym y.gives) (record {
        shaped = from_shaped n kinds len;
        kinds = refl;
        len = refl;
        rows = encoded_means words n rows kinds len are few there;
      })

  -- the next words of a site
  pub input_read : (site : Site) (kinds : List Kind) (len : ℕ) (taken : Taken) (rows : List (List Value)) → RowsAreOf kinds rows → length rows ≤ len → Stand (words_of site inputs) (came_from site taken) (encoded rows kinds len)
      → {z : PaddedList × Taken} → Yields inputs words (input_list site kinds len taken) z → Read words z.0 kinds len rows × (z.1 ≡ with_words site (list_words kinds len) taken)
  input_read site kinds len taken rows are few stand {z} y =
      let a = yields-then _ _ y in
      let is : z ≡ (a.x, with_words site (list_words kinds len) taken) = yields-gives _ a.rest in (
        subst (λ (l : PaddedList). Read words l kinds len rows) (sym (ap (λ (p : PaddedList × Taken). p.0) is)) (list_of-read (Input site) (words_of site inputs) (λ i. refl) (came_from site taken) kinds len rows are few stand a.first),
        ap (λ (p : PaddedList × Taken). p.1) is,
      )

  -- the next given words, read where their gates stand
  pub given_gates : (kinds : List Kind) (len : ℕ) (taken : Taken) (given : List ℕ) → length given ≡ list_words kinds len → Stand inputs.given taken.given given → {z : PaddedList × Taken} → Yields inputs words (given_list kinds len taken) z
      → IsGiven words kinds len given z.0 × (z.1 ≡ with_given (list_words kinds len) taken)
  given_gates kinds len taken given many stand {z} y =
      let a = yields-then _ _ y in
      let first = a.first in
      let is : z ≡ (a.x, with_given (list_words kinds len) taken) = yields-gives _ a.rest in
      let there : Stand words first.at given = record { at = λ k h. satisfied_each inputs words Given first.at taken.given (list_words kinds len) first.satisfied k (omega (arith, h, many)) ∙ stand.at k h } in (
        subst (λ (l : PaddedList). IsGiven words kinds len given l) (sym (ap (λ (p : PaddedList × Taken). p.0) is ∙ first.gives)) (record { at = first.at; list = refl; stand = there }),
        ap (λ (p : PaddedList × Taken). p.1) is,
      )
