-- The first words of a row of a tape, and what a changed section holds.
use Rattle.std.proofs.Common.{◌≡◌, ℕ, ◌<◌, List, length, get_or, sym, ◌∙◌, arith}
use Rattle.std.proofs.lemmas.List.FromFn.{get_or-map-range_with_len, fill_by_all}
use Rattle.pdn_base.specs.declared.site.Site.{Site}
use Rattle.pdn_circuit.specs.Gates.{Net, InputWords}
use Rattle.pdn_dealer.specs.Sections.{section_length, layout_of}
use Rattle.pdn_dealer.specs.Tapes.{first_words}
use Rattle.pdn_dealer.proofs.SectionWords.{covers_of, layout_of_words}
use Rattle.pdn_gmw.proofs.Meeting.{length-first_words}
use Rattle.pdn_shift.specs.Changes.{shift, shift_words}
use Rattle.pdn_shift.proofs.Undoing.{back_law}

pub word_of_first : (row : ℕ → ℕ) (len k : ℕ) → k < len → get_or (first_words row len) k 0 ≡ row k
word_of_first row len k l = get_or-map-range_with_len row 0 len k k 0 l (omega arith)

-- a row that begins with these words
pub first_are : (row : ℕ → ℕ) (words : List ℕ) (len : ℕ) → length words ≡ len → ((k : ℕ) → k < len → row k ≡ get_or words k 0) → first_words row len ≡ words
first_are row words len l h = sym (fill_by_all row words len 0 l (λ k b. sym (h k b)))

pub first_same : (row other : ℕ → ℕ) (len : ℕ) → ((k : ℕ) → row k ≡ other k) → first_words row len ≡ first_words other len
first_same row other len h = first_are row (first_words other len) len (length-first_words other len) (λ k b. h k ∙ sym (word_of_first other len k b))

-- changed words are laid out as the changed section
pub layout_changed : (site : Site) (net : Net) (first second : InputWords) (words : List ℕ) → length words ≡ section_length net
    → layout_of net (shift_words site net first second words) ≡ shift site net first second (layout_of net words)
layout_changed site net first second words l =
    layout_of_words net (shift site net first second (layout_of net words)) (back_law site net first second (layout_of net words) (covers_of net words l)).covers
