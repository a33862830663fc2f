-- Two halves of one section, and their run.
use Rattle.std.specs.Prelude.{◌≡◌, length}
use lib.Lanes.{zip2}
use Rattle.pdn_base.specs.Words.{xor_lists}
use Rattle.pdn_base.specs.declared.site.Site.TheVariants.{A, B}
use Rattle.pdn_circuit.specs.Gates.{InputWords}
use Rattle.pdn_dealer.specs.declared.parts.Triple.{Triple}
use Rattle.pdn_dealer.specs.Sections.{Five, Layout, PartWords, part_of}
use Rattle.pdn_gmw.specs.Shares.{World, view_of, put_out}
use Rattle.pdn_gmw.specs.Steps.{HalfState, begun, FinishedHalf, finished_of}

-- the section of which two parts are A's and B's
abbrev pub joined_five : Triple → Triple → Five
joined_five s t = record { a0 = s.a; a1 = t.a; b0 = s.b; b1 = t.b; c0 = s.c }

abbrev pub joined : PartWords → PartWords → Layout
joined a b = record { r = a.r; fives = zip2 joined_five a.triples b.triples; masks = a.masks }

pub record AreParts (a b : PartWords) : Type 0 where
  pub part_a : part_of A (joined a b) ≡ a
  pub part_b : part_of B (joined a b) ≡ b

-- two halves of one circuit and one section, A's first, that have made no step; each has a share of each given word
pub record ArePair (a b : HalfState) : Type 0 where
  pub site_a : a.half.site ≡ A
  pub site_b : b.half.site ≡ B
  pub one_net : b.net ≡ a.net
  pub fresh_a : a ≡ begun a.net a.half
  pub fresh_b : b ≡ begun b.net b.half
  pub parts : AreParts a.half.part b.half.part
  pub shares : length b.half.given ≡ length a.half.given

-- the words on which they run: each site's own, and the given ones, of which each holds a share
abbrev pub inputs_of : HalfState → HalfState → InputWords
inputs_of a b = record { a = a.half.own; b = b.half.own; given = xor_lists a.half.given b.half.given }

abbrev pub world_of : HalfState → HalfState → World
world_of a b = record { inputs = inputs_of a b; given_a = a.half.given }

abbrev pub section_of_pair : HalfState → HalfState → Layout
section_of_pair a b = joined a.half.part b.half.part

pub record Run : Type 0 where
  pub a : FinishedHalf
  pub b : FinishedHalf

-- what they finish with: the views and the shares that the plain values say
abbrev pub run_of : HalfState → HalfState → Run
run_of a b = record {
  a = finished_of a.net a.half (view_of A (world_of a b) (section_of_pair a b) a.net) (put_out A (world_of a b) (section_of_pair a b) a.net);
  b = finished_of b.net b.half (view_of B (world_of a b) (section_of_pair a b) b.net) (put_out B (world_of a b) (section_of_pair a b) b.net);
}
