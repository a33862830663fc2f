-- One half: what it computes and sends, from its own words, its part and the words that it received.
use Rattle.std.specs.Prelude.{◌<◌, ◌≤◌, ◌+◌, ◌≡◌, ℕ, List, [], ◌∷◌, ◌++◌, length, map, slice_index, slice_index_or, cond}
use Rattle.std.specs.List.{fold}
use lib.Lanes.{zip2}
use Rattle.pdn_base.specs.Words.{◌⊕◌, ◌⊗◌, spread, moved, xor_lists}
use Rattle.pdn_circuit.specs.Gates.{Net, words_of, output_words, operands_of}
use Rattle.pdn_circuit.specs.declared.gate.Gate.{Gate}
use Rattle.pdn_circuit.specs.declared.gate.Gate.TheVariants.{Input, Given, Const, Xor, And, Spread, Move}
use Rattle.pdn_base.specs.declared.site.Site.{Site}
use Rattle.pdn_base.specs.declared.site.Site.TheVariants.{A, B}
use Rattle.pdn_dealer.specs.declared.parts.Triple.{Triple}
use Rattle.pdn_dealer.specs.Sections.{Layout, no_triple, PartWords, part_of, Covers}
use Rattle.pdn_gmw.specs.Shares.{World, Masked, blank, Walk, walk, inputs_after, put_out, other_site, r_words, gate_view, UnitWords, view_of}

-- what a half begins with
pub record HalfWords : Type 0 where
  pub site : Site
  pub own : List ℕ
  pub given : List ℕ
  pub part : PartWords

-- the gates so far: its shares, what it has sent, and how many Input gates there were
pub record HalfWalk : Type 0 where
  pub shares : List ℕ
  pub sent : List Masked
  pub inputs : ℕ

abbrev pub half_start : HalfWalk
half_start = record { shares = []; sent = []; inputs = 0 }

abbrev pub triple_at : HalfWords → ℕ → Triple
triple_at h k = slice_index_or h.part.triples k no_triple

abbrev pub heard_at : List Masked → ℕ → Masked
heard_at heard k = slice_index_or heard k blank

-- by the half's site, and that of the Input gate
abbrev pub half_input : Site → Site → ℕ → ℕ → ℕ
half_input A A word r = word ⊕ r
half_input A B word r = r
half_input B A word r = r
half_input B B word r = word ⊕ r

abbrev pub half_const : Site → ℕ → ℕ
half_const A word = word
half_const B word = 0

-- its share of a product, where d and e are open: one half alone adds their product
abbrev pub half_product : Site → Triple → ℕ → ℕ → ℕ
half_product A t d e = t.c ⊕ d ⊗ t.b ⊕ e ⊗ t.a ⊕ d ⊗ e
half_product B t d e = t.c ⊕ d ⊗ t.b ⊕ e ⊗ t.a

-- the two words that it sends for And gate k, of x and y
abbrev pub masked_from : HalfWords → List ℕ → ℕ → ℕ → ℕ → Masked
masked_from h shares k x y = record { d = slice_index shares x ⊕ (triple_at h k).a; e = slice_index shares y ⊕ (triple_at h k).b }

-- its share of a gate, where so many Input gates and And gates stand before
abbrev pub share_from : HalfWords → List Masked → List ℕ → ℕ → ℕ → Gate → ℕ
share_from h heard shares inputs k (Input site index) = half_input h.site site (slice_index h.own index) (slice_index h.part.r inputs)
share_from h heard shares inputs k (Given index) = slice_index h.given index
share_from h heard shares inputs k (Const word) = half_const h.site word
share_from h heard shares inputs k (Xor x y) = slice_index shares x ⊕ slice_index shares y
share_from h heard shares inputs k (And x y) =
    let mine = masked_from h shares k x y in
    let theirs = heard_at heard k in
    half_product h.site (triple_at h k) (mine.d ⊕ theirs.d) (mine.e ⊕ theirs.e)
share_from h heard shares inputs k (Spread x lane) = spread (slice_index shares x) lane
share_from h heard shares inputs k (Move x from count to) = moved (slice_index shares x) from count to

abbrev pub half_masked : HalfWords → HalfWalk → ℕ → ℕ → Masked
half_masked h w x y = masked_from h w.shares (length w.sent) x y

abbrev pub half_share : HalfWords → List Masked → HalfWalk → Gate → ℕ
half_share h heard w gate = share_from h heard w.shares w.inputs (length w.sent) gate

abbrev pub half_sends : HalfWords → HalfWalk → Gate → List Masked
half_sends h w gate = map (λ p. half_masked h w p.x p.y) (operands_of gate)

abbrev pub half_step : HalfWords → List Masked → HalfWalk → Gate → HalfWalk
half_step h heard w gate = record {
  shares = w.shares ++ half_share h heard w gate ∷ [];
  sent = w.sent ++ half_sends h w gate;
  inputs = inputs_after w.inputs gate;
}

abbrev pub half_walk : HalfWords → List Masked → List Gate → HalfWalk
half_walk h heard gates = fold (half_step h heard) half_start gates

abbrev pub half_outputs : HalfWords → List Masked → Net → List ℕ
half_outputs h heard net =
    let shares = map (λ o. slice_index (half_walk h heard net.gates).shares o) net.outputs in
    cond net.released (xor_lists shares h.part.masks) shares

abbrev pub half_view : HalfWords → List Masked → Net → UnitWords
half_view h heard net = record {
  own = r_words h.site h.part.r 0 net.gates;
  other = r_words (other_site h.site) h.part.r 0 net.gates;
  gates = zip2 gate_view h.part.triples heard;
  masks = h.part.masks;
}

-- ---- two honest halves of one section
abbrev pub given_shares : Site → World → List ℕ
given_shares A world = world.given_a
given_shares B world = xor_lists world.inputs.given world.given_a

abbrev pub half_of : Site → World → Layout → HalfWords
half_of site world t = record { site = site; own = words_of site world.inputs; given = given_shares site world; part = part_of site t }

-- each has heard what the other sends on what it heard itself
pub record HaveTalked (a b : HalfWords) (gates : List Gate) (to_a to_b : List Masked) : Type 0 where
  pub by_b : to_a ≡ (half_walk b to_b gates).sent
  pub by_a : to_b ≡ (half_walk a to_a gates).sent

abbrev pub shares_of : Site → Walk → List ℕ
shares_of A w = w.a
shares_of B w = xor_lists w.words w.a

-- then what they heard and hold is what the plain values say
pub record AreShares (world : World) (t : Layout) (gates : List Gate) (to_a to_b : List Masked) : Type 0 where
  pub heard_a : to_a ≡ (walk world t gates).from_b
  pub heard_b : to_b ≡ (walk world t gates).from_a
  pub shares_a : (half_walk (half_of A world t) to_a gates).shares ≡ shares_of A (walk world t gates)
  pub shares_b : (half_walk (half_of B world t) to_b gates).shares ≡ shares_of B (walk world t gates)

abbrev pub HalvesLaw : Type 0
HalvesLaw = (world : World) (t : Layout) (gates : List Gate) (to_a to_b : List Masked) → length world.given_a ≡ length world.inputs.given
    → HaveTalked (half_of A world t) (half_of B world t) gates to_a to_b → AreShares world t gates to_a to_b

-- so what they see and put out is what the definitions say, and what they put out comes to the plain words
pub record IsRun (world : World) (t : Layout) (net : Net) (to_a to_b : List Masked) : Type 0 where
  pub view_a : half_view (half_of A world t) to_a net ≡ view_of A world t net
  pub view_b : half_view (half_of B world t) to_b net ≡ view_of B world t net
  pub outputs_a : half_outputs (half_of A world t) to_a net ≡ put_out A world t net
  pub outputs_b : half_outputs (half_of B world t) to_b net ≡ put_out B world t net
  pub opens : xor_lists (half_outputs (half_of A world t) to_a net) (half_outputs (half_of B world t) to_b net) ≡ output_words world.inputs net

abbrev pub RunLaw : Type 0
RunLaw = (world : World) (t : Layout) (net : Net) (to_a to_b : List Masked) → length world.given_a ≡ length world.inputs.given → Covers net t
    → HaveTalked (half_of A world t) (half_of B world t) net.gates to_a to_b → IsRun world t net to_a to_b

-- ---- what a half reads is there
abbrev pub IsOwn : Site → Site → ℕ → ℕ → Type 0
IsOwn A A index len = index < len
IsOwn A B index len = Unit {0}
IsOwn B A index len = Unit {0}
IsOwn B B index len = index < len

-- what is read at a gate is there
abbrev pub CanShare : HalfWords → List Masked → ℕ → ℕ → ℕ → Gate → Type 0
CanShare h heard len inputs k (Input site index) = IsOwn h.site site index (length h.own) × (inputs < length h.part.r)
CanShare h heard len inputs k (Given index) = index < length h.given
CanShare h heard len inputs k (Const word) = Unit {0}
CanShare h heard len inputs k (Xor x y) = (x < len) × (y < len)
CanShare h heard len inputs k (And x y) = (x < len) × (y < len) × (k < length h.part.triples) × (k < length heard)
CanShare h heard len inputs k (Spread x lane) = (x < len) × (lane < 64)
CanShare h heard len inputs k (Move x from count to) = (x < len) × (1 ≤ count) × (from + count ≤ 64) × (to + count ≤ 64)
