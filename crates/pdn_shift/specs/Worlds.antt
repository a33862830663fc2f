-- Two worlds of one unit that a site can't tell apart.
use Rattle.std.specs.Prelude.{◌≡◌, ℕ, List, length}
use Rattle.pdn_base.specs.declared.site.Site.{Site}
use Rattle.pdn_circuit.specs.Gates.{Net, InputWords, words_of, InOrder}
use Rattle.pdn_dealer.specs.Sections.{Layout, Covers, layout_of}
use Rattle.pdn_gmw.specs.Shares.{World, view_of, output_shares, put_out}
use Rattle.pdn_gmw.specs.Halves.{given_shares}
use Rattle.pdn_shift.specs.Changes.{shift}

-- A has a share of each given word
abbrev pub IsShared : World → Type 0
IsShared world = length world.given_a ≡ length world.inputs.given

-- the site's own words and its own shares of the given words are the same
pub record SameFor (site : Site) (first second : World) : Type 0 where
  pub own : words_of site first.inputs ≡ words_of site second.inputs
  pub given : given_shares site first ≡ given_shares site second

-- so are what the site sees, its shares of the outputs, and what it puts out
pub record Alike (site : Site) (net : Net) (first second : World) (t s : Layout) : Type 0 where
  pub view : view_of site first t net ≡ view_of site second s net
  pub shares : output_shares site first t net ≡ output_shares site second s net
  pub outputs : put_out site first t net ≡ put_out site second s net

-- the law of one unit
abbrev pub UnitLaw : Type 0
UnitLaw = (site : Site) (net : Net) (first second : World) (t : Layout) → InOrder net.gates → Covers net t
    → IsShared first → IsShared second → SameFor site first second → Alike site net first second t (shift site net first.inputs second.inputs t)

-- the same of two sections as words, whatever the shares of the given words
abbrev pub LooksAlike : Site → Net → InputWords → InputWords → List ℕ → List ℕ → Type 0
LooksAlike site net first second old new =
    (shares others : List ℕ) →
    let one : World = record { inputs = first; given_a = shares } in
    let two : World = record { inputs = second; given_a = others } in
    IsShared one → IsShared two → SameFor site one two → Alike site net one two (layout_of net old) (layout_of net new)
