-- What a half keeps, and how far it has come.
use Rattle.std.specs.Prelude.{◌≡◌, ℕ, ◌+◌, ◌*◌, ◌<◌, ◌≤◌, List, length, take, map}
use Rattle.pdn_circuit.specs.Gates.{IsCircuit}
use Rattle.pdn_gmw.specs.declared.stage.Stage.{Stage}
use Rattle.pdn_gmw.specs.declared.stage.Stage.TheVariants.{Ready, Sent, Wanting, Over}
use Rattle.pdn_gmw.specs.declared.half.Half.TheInside.{Inside}
use Rattle.pdn_gmw.specs.Shares.{r_words, other_site}
use Rattle.pdn_gmw.specs.Layers.{layer_of}
use Rattle.pdn_gmw.specs.Known.{held, received, KnownTo}
use Rattle.pdn_gmw.specs.Steps.{HalfState, Fits, frame_count, next_frame}

abbrev pub state_of : Inside → HalfState
state_of h = record {
  net = h.schedule;
  half = held h.holdings h.views.items;
  heard = map received h.views.items;
  taken = h.taken;
  stage = h.stage;
}

-- what holds beside the rest after each step
abbrev pub AtStage : HalfState → List ℕ → Stage → Type 0
AtStage s frame Ready = Unit {0}
AtStage s frame Sent = (s.taken < frame_count s.net) × (take (2 * length (layer_of s.net.gates (s.taken + 1)).ands) frame ≡ next_frame s)
AtStage s frame Wanting = (s.taken < frame_count s.net) × (take (2 * length (layer_of s.net.gates (s.taken + 1)).ands) frame ≡ next_frame s)
AtStage s frame Over = s.taken ≡ frame_count s.net

pub record IsHalf (h : Inside) : Type 0 where
  pub circuit : IsCircuit h.schedule
  pub fits : Fits h.schedule (held h.holdings h.views.items)
  pub own_r : h.own_r.items ≡ r_words h.holdings.site h.holdings.r 0 h.schedule.gates
  pub other_r : h.other_r.items ≡ r_words (other_site h.holdings.site) h.holdings.r 0 h.schedule.gates
  pub shares : length h.shares.items ≡ length h.schedule.gates
  pub taken : h.taken ≤ frame_count h.schedule
  pub known : KnownTo (held h.holdings h.views.items) (map received h.views.items) h.schedule.gates h.taken h.shares.items
  pub frame : (d : ℕ) → d ≤ frame_count h.schedule → 2 * length (layer_of h.schedule.gates d).ands ≤ length h.frame.items
  pub outputs : length h.outputs.items ≡ length h.schedule.outputs
  pub stage : AtStage (state_of h) h.frame.items h.stage
