-- The change of a query's tape: what is read on it, that it is undone, and what it keeps.
use Rattle.std.proofs.Common.{◌≡◌, ℕ, ◌<◌, true, false, List, length, refl, sym, ap, ◌∙◌, ⊎_elim}
use Rattle.std.specs.Prelude.{◌&&◌, nat_lt, ◌==◌, slice_index}
use Rattle.std.proofs.lemmas.Bool.{cond-true, cond-false, cases_Bool, and_from, and_parts, eq-eqb, eqb-true, lt-ltb, ltb-true}
use Rattle.pdn_base.specs.declared.site.Site.{Site}
use Rattle.pdn_base.specs.Operators.{Rows}
use Rattle.pdn_schema.specs.Models.{SchemaModel}
use Rattle.pdn_tree.specs.declared.node.Node.{Node}
use Rattle.pdn_site.specs.Models.{UnitModel}
use Rattle.pdn_gmw.proofs.Meeting.{length-first_words}
use Rattle.pdn_shift.specs.Changes.{shift_words}
use Rattle.pdn_shift.proofs.Undoing.{back_words_law}
use Rattle.pdn_broker.specs.Runs.{Tape}
use Rattle.pdn_broker.specs.Prepared.{PreparedModel, prepared_of}
use Rattle.pdn_worlds.specs.PlainWords.{net_at, plain_at}
use Rattle.pdn_worlds.specs.TapeChange.{section_length_at, has_section, section_words, changed_words, is_of_query, shift_tape}
use Rattle.pdn_worlds.proofs.TapeRows.{word_of_first, first_are}

pub length-section_words : (p : PreparedModel) (tape : Tape) (ticket u : ℕ) → length (section_words p tape ticket u) ≡ section_length_at p u
length-section_words p tape ticket u = length-first_words (tape ticket u) (section_length_at p u)

-- a unit with a section reads the changed words on the changed tape
pub changed_is_read : (site : Site) (p q : PreparedModel) (tape : Tape) (ticket u : ℕ) → has_section p u ≡ true
    → section_words p (shift_tape site p q ticket tape) ticket u ≡ changed_words site p q tape ticket u
changed_is_read site p q tape ticket u h =
    let len : ℕ = section_length_at p u in
    let undone = back_words_law site (net_at p u) (plain_at p u) (plain_at q u) (section_words p tape ticket u) (length-section_words p tape ticket u) in
    first_are (shift_tape site p q ticket tape ticket u) (changed_words site p q tape ticket u) len undone.long
    (λ k b. cond-true (is_of_query p ticket ticket u k) _ _
    (and_from (ticket == ticket) (has_section p u && nat_lt k len) (eq-eqb ticket ticket refl) (and_from (has_section p u) (nat_lt k len) h (lt-ltb k len b))))

-- ---- two worlds of one schema, one tree and the same units
module _ (site : Site) (schema : SchemaModel) (root : Node) (a b c d : List Rows) (units : List UnitModel) (tape : Tape) (ticket : ℕ) where
  abbrev p : PreparedModel
  p = prepared_of schema root a b units

  abbrev q : PreparedModel
  q = prepared_of schema root c d units

  abbrev next : Tape
  next = shift_tape site p q ticket tape

  -- the change of a section with the worlds exchanged
  changed_back : (u : ℕ) → has_section p u ≡ true → changed_words site q p next ticket u ≡ section_words p tape ticket u
  changed_back u h =
      ap (shift_words site (net_at p u) (plain_at q u) (plain_at p u)) (changed_is_read site p q tape ticket u h)
      ∙ (back_words_law site (net_at p u) (plain_at p u) (plain_at q u) (section_words p tape ticket u) (length-section_words p tape ticket u)).back

  pub same_words : (at u place : ℕ) → is_of_query q ticket at u place ≡ is_of_query p ticket at u place
  same_words at u place = refl

  pub kept : (at u place : ℕ) → is_of_query p ticket at u place ≡ false → next at u place ≡ tape at u place
  kept at u place e = cond-false (is_of_query p ticket at u place) _ _ e

  back_here : (at u place : ℕ) → at ≡ ticket → has_section p u ≡ true → place < section_length_at p u → slice_index (changed_words site q p next ticket u) place ≡ tape at u place
  back_here at u place e h l =
      ap (λ (words : List ℕ). slice_index words place) (changed_back u h)
      ∙ word_of_first (tape ticket u) (section_length_at p u) place l
      ∙ ap (λ n. tape n u place) (sym e)

  back_within : (at u place : ℕ) → is_of_query p ticket at u place ≡ true → shift_tape site q p ticket next at u place ≡ tape at u place
  back_within at u place e =
      let parts = and_parts (at == ticket) (has_section p u && nat_lt place (section_length_at p u)) e in
      let more = and_parts (has_section p u) (nat_lt place (section_length_at p u)) parts.1 in
      cond-true (is_of_query q ticket at u place) (slice_index (changed_words site q p next ticket u) place) (next at u place) (same_words at u place ∙ e)
      ∙ back_here at u place (eqb-true at ticket parts.0) more.0 (ltb-true place (section_length_at p u) more.1)

  back_outside : (at u place : ℕ) → is_of_query p ticket at u place ≡ false → shift_tape site q p ticket next at u place ≡ tape at u place
  back_outside at u place e =
      cond-false (is_of_query q ticket at u place) (slice_index (changed_words site q p next ticket u) place) (next at u place) (same_words at u place ∙ e)
      ∙ kept at u place e

  pub back : (at u place : ℕ) → shift_tape site q p ticket next at u place ≡ tape at u place
  back at u place = ⊎_elim (λ e. back_within at u place e) (λ e. back_outside at u place e) (cases_Bool (is_of_query p ticket at u place))
