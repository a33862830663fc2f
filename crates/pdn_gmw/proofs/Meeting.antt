-- The halves of one section meet.
use Rattle.std.proofs.Common.{◌≡◌, ℕ, List, [], ◌∷◌, length, map, refl, sym, ap, ◌∙◌, subst}
use Rattle.std.specs.List.{range_with_len}
use lib.Lanes.{zip2}
use Rattle.std.proofs.lemmas.List.{length-map}
use Rattle.std.proofs.lemmas.List.FromFn.{length-range_with_len}
use Rattle.pdn_base.specs.declared.site.Site.{Site}
use Rattle.pdn_base.specs.declared.site.Site.TheVariants.{A, B}
use Rattle.pdn_circuit.specs.Gates.{Net, input_count, given_count}
use Rattle.pdn_dealer.specs.Tapes.{first_words}
use Rattle.pdn_dealer.specs.Sections.{Five, Layout, PartWords, triple_of, part_of, section_length, layout_of}
use Rattle.pdn_dealer.proofs.SectionWords.{covers_of}
use Rattle.pdn_gmw.specs.Halves.{HalfWords}
use Rattle.pdn_gmw.specs.Steps.{HalfState, half_words, Fits, begun}
use Rattle.pdn_gmw.specs.Pairs.{joined_five, joined, AreParts, ArePair}

fives_again : (fs : List Five) → zip2 joined_five (map (triple_of A) fs) (map (triple_of B) fs) ≡ fs
fives_again [] = refl
fives_again (f ∷ fs) = ap (λ (gs : List Five). f ∷ gs) (fives_again fs)

-- the parts of a section make that section
pub joined_again : (t : Layout) → joined (part_of A t) (part_of B t) ≡ t
joined_again t = ap (λ (fs : List Five). record t { fives = fs }) (fives_again t.fives)

pub parts_of_one : (t : Layout) (a b : PartWords) → a ≡ part_of A t → b ≡ part_of B t → AreParts a b
parts_of_one t a b e f =
    subst (λ (p : PartWords). AreParts p b) (sym e) (subst (λ (p : PartWords). AreParts (part_of A t) p) (sym f)
    (record { part_a = ap (part_of A) (joined_again t); part_b = ap (part_of B) (joined_again t) }))

-- a part of a section of the circuit's length fits it
pub part_fits : (net : Net) (site : Site) (words own given : List ℕ) (part : PartWords) → length words ≡ section_length net → part ≡ part_of site (layout_of net words)
    → length own ≡ input_count site net.gates → length given ≡ given_count net.gates → Fits net (half_words site own given part)
part_fits net site words own given part l e o g =
    let covers = covers_of net words l in
    subst (λ (p : PartWords). Fits net (half_words site own given p)) (sym e)
    (record { own = o; given = g; r = covers.r; triples = length-map (layout_of net words).fives (triple_of site) ∙ covers.fives; masks = covers.masks })

-- two halves that were begun on the parts of one section can run against each other
pub halves_of_section : (net : Net) (t : Layout) (own_a own_b given_a given_b : List ℕ) (part_a part_b : PartWords) (a b : HalfState) → part_a ≡ part_of A t → part_b ≡ part_of B t → length given_b ≡ length given_a
    → a ≡ begun net (half_words A own_a given_a part_a) → b ≡ begun net (half_words B own_b given_b part_b) → ArePair a b
halves_of_section net t own_a own_b given_a given_b part_a part_b a b pa pb l ea eb =
    subst (λ (h : HalfState). ArePair h b) (sym ea) (subst (λ (h : HalfState). ArePair (begun net (half_words A own_a given_a part_a)) h) (sym eb)
    (record { site_a = refl; site_b = refl; one_net = refl; fresh_a = refl; fresh_b = refl; parts = parts_of_one t part_a part_b pa pb; shares = l }))

pub length-first_words : (word : ℕ → ℕ) (len : ℕ) → length (first_words word len) ≡ len
length-first_words word len = length-map (range_with_len 0 len) word ∙ length-range_with_len 0 len

-- a half on the schedule of a circuit is one of that circuit
pub fits_on : (net now : Net) (half : HalfWords) → now ≡ net → Fits net half → Fits now half
fits_on net now half e f = subst (λ (n : Net). Fits n half) (sym e) f

pub begun_on : (s : HalfState) (net now : Net) (half : HalfWords) → now ≡ net → s ≡ begun now half → s ≡ begun net half
begun_on s net now half e b = b ∙ ap (λ (n : Net). begun n half) e
