-- What each side of a circuit's run holds, sends and sees, told from the plain values and the whole section.
pub use Rattle.pdn_gmw.specs.declared.masked.Masked.{Masked}
pub use Rattle.pdn_gmw.specs.declared.views.GateView.{GateView}
use Rattle.std.specs.Prelude.{ℕ, ◌+◌, List, [], ◌∷◌, ◌++◌, length, map, slice_index, slice_index_or, cond}
use Rattle.std.specs.List.{fold}
use lib.Lanes.{zip2}
use Rattle.pdn_base.specs.Words.{◌⊕◌, ◌⊗◌, spread, moved, xor_lists}
use Rattle.pdn_circuit.specs.Gates.{Net, InputWords, gate_value, operands_of, is_input}
use Rattle.pdn_circuit.specs.declared.gate.Gate.{Gate}
use Rattle.pdn_circuit.specs.declared.gate.Gate.TheVariants.{Input, Given, Const, Xor, And, Spread, Move}
use Rattle.pdn_base.specs.declared.site.Site.{Site}
use Rattle.pdn_base.specs.declared.site.Site.TheVariants.{A, B}
use Rattle.pdn_dealer.specs.declared.parts.Triple.{Triple}
use Rattle.pdn_dealer.specs.Sections.{Five, no_five, Layout, part_of}

-- the words that a run begins with: the plain ones, and A's shares of the given ones
pub record World : Type 0 where
  pub inputs : InputWords
  pub given_a : List ℕ

abbrev pub blank : Masked
blank = record { d = 0; e = 0 }

-- the gates so far: their values, A's shares of them, what each side has sent, and how many Input gates there were
pub record Walk : Type 0 where
  pub words : List ℕ
  pub a : List ℕ
  pub from_a : List Masked
  pub from_b : List Masked
  pub inputs : ℕ

abbrev pub start : Walk
start = record { words = []; a = []; from_a = []; from_b = []; inputs = 0 }

-- B's share of a gate: with A's it makes the value
abbrev pub b_share : Walk → ℕ → ℕ
b_share w k = slice_index w.words k ⊕ slice_index w.a k

abbrev pub five_at : Layout → ℕ → Five
five_at t k = slice_index_or t.fives k no_five

-- A's share of an input: A masks its own, and has the mask alone of B's
abbrev pub input_share : Site → ℕ → ℕ → ℕ
input_share A word r = word ⊕ r
input_share B word r = r

-- A's share of a product, where d and e are open
abbrev pub product_share : Five → ℕ → ℕ → ℕ
product_share f d e = f.c0 ⊕ d ⊗ f.b0 ⊕ e ⊗ f.a0 ⊕ d ⊗ e

-- A's share of a gate
abbrev pub a_share : World → Layout → Walk → Gate → ℕ
a_share world t w (Input site index) = input_share site (gate_value world.inputs w.words (Input site index)) (slice_index t.r w.inputs)
a_share world t w (Given index) = slice_index world.given_a index
a_share world t w (Const word) = word
a_share world t w (Xor x y) = slice_index w.a x ⊕ slice_index w.a y
a_share world t w (And x y) =
    let f = five_at t (length w.from_a) in
    product_share f (slice_index w.words x ⊕ f.a0 ⊕ f.a1) (slice_index w.words y ⊕ f.b0 ⊕ f.b1)
a_share world t w (Spread x lane) = spread (slice_index w.a x) lane
a_share world t w (Move x from count to) = moved (slice_index w.a x) from count to

-- what each side sends for a gate: for an And gate its shares of the operands, masked by its a and b
abbrev pub a_sends : Layout → Walk → Gate → List Masked
a_sends t w gate =
    let f = five_at t (length w.from_a) in
    map (λ p. record { d = slice_index w.a p.x ⊕ f.a0; e = slice_index w.a p.y ⊕ f.b0 }) (operands_of gate)

abbrev pub b_sends : Layout → Walk → Gate → List Masked
b_sends t w gate =
    let f = five_at t (length w.from_a) in
    map (λ p. record { d = b_share w p.x ⊕ f.a1; e = b_share w p.y ⊕ f.b1 }) (operands_of gate)

abbrev pub inputs_after : ℕ → Gate → ℕ
inputs_after count gate = cond (is_input gate) (count + 1) count

abbrev pub step : World → Layout → Walk → Gate → Walk
step world t w gate = record {
  words = w.words ++ gate_value world.inputs w.words gate ∷ [];
  a = w.a ++ a_share world t w gate ∷ [];
  from_a = w.from_a ++ a_sends t w gate;
  from_b = w.from_b ++ b_sends t w gate;
  inputs = inputs_after w.inputs gate;
}

-- the whole run of a circuit
abbrev pub walk : World → Layout → List Gate → Walk
walk world t gates = fold (step world t) start gates

-- ---- what a site has and hears
abbrev pub share_at : Site → Walk → ℕ → ℕ
share_at A w k = slice_index w.a k
share_at B w k = b_share w k

abbrev pub sent_to : Site → Walk → List Masked
sent_to A w = w.from_b
sent_to B w = w.from_a

-- the shares of the outputs
abbrev pub output_shares : Site → World → Layout → Net → List ℕ
output_shares site world t net = map (share_at site (walk world t net.gates)) net.outputs

-- the same as they are put out, with their masks where the circuit is released
abbrev pub put_out : Site → World → Layout → Net → List ℕ
put_out site world t net = cond net.released (xor_lists (output_shares site world t net) t.masks) (output_shares site world t net)

abbrev pub other_site : Site → Site
other_site A = B
other_site B = A

-- ---- what a site sees
-- r, where the gate is an Input gate of this site
abbrev pub r_here : Site → Gate → ℕ → List ℕ
r_here A (Input A index) r = r ∷ []
r_here A (Input B index) r = []
r_here B (Input A index) r = []
r_here B (Input B index) r = r ∷ []
r_here site (Given index) r = []
r_here site (Const word) r = []
r_here site (Xor x y) r = []
r_here site (And x y) r = []
r_here site (Spread x lane) r = []
r_here site (Move x from count to) r = []

-- the words r of a site's Input gates among these gates, before which there were `count` Input gates
abbrev pub r_words : Site → List ℕ → ℕ → List Gate → List ℕ
r_words site r count [] = []
r_words site r count (gate ∷ gates) = r_here site gate (slice_index r count) ++ r_words site r (inputs_after count gate) gates

pub record UnitWords : Type 0 where
  pub own : List ℕ
  pub other : List ℕ
  pub gates : List GateView
  pub masks : List ℕ

abbrev pub gate_view : Triple → Masked → GateView
gate_view t m = record { a = t.a; b = t.b; c = t.c; d = m.d; e = m.e }

-- its part of the section, and for each And gate the two words that it received
abbrev pub view_of : Site → World → Layout → Net → UnitWords
view_of site world t net = record {
  own = r_words site t.r 0 net.gates;
  other = r_words (other_site site) t.r 0 net.gates;
  gates = zip2 gate_view (part_of site t).triples (sent_to site (walk world t net.gates));
  masks = t.masks;
}
