-- The run of a circuit by two halves, on the section of the tape that is dealt for a ticket and a unit.
use Rattle.std.specs.Prelude.{◌≡◌, ℕ, List, length}
use Rattle.pdn_base.specs.declared.site.Site.{Site}
use Rattle.pdn_base.specs.declared.site.Site.TheVariants.{A, B}
use Rattle.pdn_base.specs.Words.{xor_lists}
use Rattle.pdn_circuit.specs.Gates.{Net, input_count, given_count}
use Rattle.pdn_dealer.specs.Sections.{Layout, layout_of, section_length, part_of}
use Rattle.pdn_dealer.specs.Tapes.{first_words}
use Rattle.pdn_gmw.specs.Shares.{World}
use Rattle.pdn_gmw.specs.Steps.{HalfState, begun, half_words}
use Rattle.pdn_gmw.specs.Pairs.{Run, run_of}
use Rattle.pdn_broker.specs.declared.answered.Dealt.{Dealt}

-- a list for each site
pub record Both : Type 0 where
  pub a : List ℕ
  pub b : List ℕ

-- each site has as many shares, and together they come to these words
pub record Shared (a b words : List ℕ) : Type 0 where
  pub same : length b ≡ length a
  pub opens : xor_lists a b ≡ words

-- what the sites begin with: each its own words, and its shares of the given ones
abbrev pub world : Both → Both → World
world own given = record { inputs = record { a = own.a; b = own.b; given = xor_lists given.a given.b }; given_a = given.a }

-- as many words as the circuit takes
pub record Takes (net : Net) (own given : Both) : Type 0 where
  pub own_a : length own.a ≡ input_count A net.gates
  pub own_b : length own.b ≡ input_count B net.gates
  pub given_a : length given.a ≡ given_count net.gates
  pub given_b : length given.b ≡ given_count net.gates

-- ---- sections

-- a word for each ticket, unit and place
abbrev pub Tape : Type 0
Tape = ℕ → ℕ → ℕ → ℕ

-- the section of a circuit that is dealt for this ticket and unit: the first words of the tape there
unfoldable pub section_at : Tape → Dealt → Net → Layout
section_at tape at net = layout_of net (first_words (tape at.ticket at.unit) (section_length net))

-- ---- runs

-- a site's half of a circuit with its own words, its shares of the given ones, and its part of a section
abbrev pub half_on : Site → Net → Layout → List ℕ → List ℕ → HalfState
half_on site net t own given = begun net (half_words site own given (part_of site t))

-- the run of both halves against each other on one section
unfoldable pub run_on : Net → Layout → Both → Both → Run
run_on net t own given = run_of (half_on A net t own.a given.a) (half_on B net t own.b given.b)

-- what each half put out
abbrev pub put_out_by : Run → Both
put_out_by run = record { a = run.a.outputs; b = run.b.outputs }
