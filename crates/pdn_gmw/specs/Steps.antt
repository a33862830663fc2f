-- A half as it goes: what it holds, what its next step gives, and what it holds after each call.
use Rattle.std.specs.Prelude.{◌≡◌, ℕ, ◌+◌, max, Bool, cond, map, nat_lt, List, [], ◌∷◌, length, replicate, Result, Ok, Err, slice_index}
use Rattle.std.specs.List.{fold, flat_map}
use Rattle.pdn_base.specs.Words.{◌⊕◌, xor_lists}
use Rattle.pdn_base.specs.declared.site.Site.{Site}
use Rattle.pdn_circuit.specs.Gates.{Net, input_count, given_count}
use Rattle.pdn_circuit.specs.Depths.{and_rounds, depths_of}
use Rattle.pdn_dealer.specs.Sections.{PartWords, r_count, five_count, mask_count}
use Rattle.pdn_gmw.specs.declared.stage.Stage.{Stage}
use Rattle.pdn_gmw.specs.declared.stage.Stage.TheVariants.{Ready, Sent, Wanting, Over}
use Rattle.pdn_gmw.specs.declared.step.FrameErr.{FrameErr}
use Rattle.pdn_gmw.specs.declared.step.FrameErr.TheVariants.{Length}
use Rattle.pdn_gmw.specs.Shares.{Masked, blank, UnitWords}
use Rattle.pdn_gmw.specs.Halves.{HalfWords, half_walk, half_view, half_outputs}
use Rattle.pdn_gmw.specs.Rounds.{pick, put}

-- what a half began with, what it heard for each And gate (blank where nothing has come), how many frames it has
-- taken, and what its last step was
pub record HalfState : Type 0 where
  pub net : Net
  pub half : HalfWords
  pub heard : List Masked
  pub taken : ℕ
  pub stage : Stage

abbrev pub half_words : Site → List ℕ → List ℕ → PartWords → HalfWords
half_words site own given part = record { site = site; own = own; given = given; part = part }

-- the lists of a half have the circuit's lengths
pub record Fits (net : Net) (half : HalfWords) : Type 0 where
  pub own : length half.own ≡ input_count half.site net.gates
  pub given : length half.given ≡ given_count net.gates
  pub r : length half.part.r ≡ r_count net
  pub triples : length half.part.triples ≡ five_count net
  pub masks : length half.part.masks ≡ mask_count net

-- a half that has made no step
abbrev pub begun : Net → HalfWords → HalfState
begun net half = record { net = net; half = half; heard = replicate (five_count net) blank; taken = 0; stage = Ready }

-- ---- frames
-- in which round the words of each And gate go, in gate order: that of its depth
abbrev pub rounds_of : Net → List ℕ
rounds_of net = and_rounds net.gates (depths_of net.gates)

-- how many frames each half sends: as many as the deepest gate is deep
abbrev pub frame_count : Net → ℕ
frame_count net = fold max 0 (depths_of net.gates)

abbrev pub masked_words : Masked → List ℕ
masked_words m = m.d ∷ m.e ∷ []

abbrev pub masked_of : List ℕ → List Masked
masked_of [] = []
masked_of (d ∷ []) = []
masked_of (d ∷ e ∷ words) = record { d = d; e = e } ∷ masked_of words

-- the words of one frame: those of its round, from what is sent for all And gates
abbrev pub frame_words : Net → ℕ → List Masked → List ℕ
frame_words net taken sent = flat_map masked_words (pick (taken + 1) (rounds_of net) sent)

-- the frame that a half sends when it has taken so many; the other side's is as long
abbrev pub next_frame : HalfState → List ℕ
next_frame s = frame_words s.net s.taken (half_walk s.half s.heard s.net.gates).sent

-- ---- steps
abbrev pub next_stage : Stage → Bool → Stage
next_stage Ready more = cond more Sent Over
next_stage Sent more = Wanting
next_stage Wanting more = Wanting
next_stage Over more = Over

abbrev pub stage_after : HalfState → Stage
stage_after s = next_stage s.stage (nat_lt s.taken (frame_count s.net))

abbrev pub after_next : HalfState → HalfState
after_next s = record s { stage = stage_after s }

-- what was heard goes to its And gates
abbrev pub heard_more : HalfState → List ℕ → List Masked
heard_more s frame = put (s.taken + 1) (rounds_of s.net) s.heard (masked_of frame)

abbrev pub after_take : HalfState → List ℕ → HalfState
after_take s frame = record s { heard = heard_more s frame; taken = s.taken + 1; stage = Ready }

-- a frame of the right length is taken, and no other
abbrev pub IsTaken : HalfState → HalfState → List ℕ → Result (Unit {0}) FrameErr → Type 0
IsTaken old new frame (Ok done) = (length frame ≡ length (next_frame old)) × (new ≡ after_take old frame)
IsTaken old new frame (Err (Length got want)) =
    (got ≡ length frame) × (want ≡ length (next_frame old)) × (got ≡ want → ⊥) × (new ≡ old)

-- ---- the end
-- a share as it is put out: under its mask where the circuit is released
abbrev pub covered : Bool → List ℕ → ℕ → ℕ → ℕ
covered released masks at share = cond released (share ⊕ slice_index masks at) share

abbrev pub shares_out : Net → HalfWords → List ℕ → List ℕ
shares_out net half shares =
    let outs = map (λ o. slice_index shares o) net.outputs in
    cond net.released (xor_lists outs half.part.masks) outs

pub record FinishedHalf : Type 0 where
  pub net : Net
  pub site : Site
  pub own : List ℕ
  pub given : List ℕ
  pub view : UnitWords
  pub outputs : List ℕ

abbrev pub finished_of : Net → HalfWords → UnitWords → List ℕ → FinishedHalf
finished_of net half view outputs = record { net = net; site = half.site; own = half.own; given = half.given; view = view; outputs = outputs }

abbrev pub finished : HalfState → FinishedHalf
finished s = finished_of s.net s.half (half_view s.half s.heard s.net) (half_outputs s.half s.heard s.net)
