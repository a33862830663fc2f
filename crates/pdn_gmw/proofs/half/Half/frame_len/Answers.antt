use Rattle.std.proofs.Common.{◌≡◌, ◌<◌, ◌+◌, ◌*◌, length, map, subst, sym, ap, ◌∙◌, arith}
use Rattle.pdn_circuit.specs.Gates.{Net}
use Rattle.pdn_gmw.specs.declared.stage.Stage.{Stage}
use Rattle.pdn_gmw.specs.Layers.{LayerWords, layer_of}
use Rattle.pdn_gmw.specs.Known.{received}
use Rattle.pdn_gmw.specs.Places.{state_of, AtStage}
use Rattle.pdn_gmw.specs.Steps.{HalfState, frame_count, next_frame}
use Rattle.pdn_gmw.proofs.Stepping.{frame_long, few_ands}
use Rattle.pdn_gmw.proofs.half.Half.frame_len.Goals as goal

pub after-layer-requires : goal.after-layer-requires
after-layer-requires c =
    let net : Net = c.self.inside.schedule in
    let waits : c.self.inside.taken < frame_count net = (subst (λ (t : Stage). AtStage (state_of c.self.inside) c.self.inside.frame.items t) (ap (λ (s : HalfState). s.stage) c.self.view_is ∙ c.requires) c.self.invariant.stage).0 in
    omega arith

pub returns-clause-words : goal.returns-clause-words
returns-clause-words c =
    let inv = c.self.invariant in
    let net : Net = c.self.inside.schedule in
    let waits : c.self.inside.taken < frame_count net = (subst (λ (t : Stage). AtStage (state_of c.self.inside) c.self.inside.frame.items t) (ap (λ (s : HalfState). s.stage) c.self.view_is ∙ c.requires) inv.stage).0 in
    let ands : c.layer.inside.ands.items ≡ (layer_of net.gates (c.self.inside.taken + 1)).ands
    = ap (λ (l : LayerWords). l.ands) (c.layer.view_is ∙ c.after-layer.ensures.layer) in
    let two : 2 * c.len.result ≡ 2 * length (layer_of net.gates (c.self.inside.taken + 1)).ands = omega (arith, c.len.ensures, ap length ands) in
    two
    ∙ sym (frame_long c.self.inside.holdings c.self.inside.views.items (map received c.self.inside.views.items) net c.self.inside.taken c.self.inside.shares.items inv.circuit inv.known)
    ∙ ap (λ (s : HalfState). length (next_frame s)) c.self.view_is

pub returns-clause-few : goal.returns-clause-few
returns-clause-few c =
    let inv = c.self.invariant in
    let net : Net = c.self.inside.schedule in
    let few = inv.circuit.few_gates in
    let waits : c.self.inside.taken < frame_count net = (subst (λ (t : Stage). AtStage (state_of c.self.inside) c.self.inside.frame.items t) (ap (λ (s : HalfState). s.stage) c.self.view_is ∙ c.requires) inv.stage).0 in
    let ands : c.layer.inside.ands.items ≡ (layer_of net.gates (c.self.inside.taken + 1)).ands
    = ap (λ (l : LayerWords). l.ands) (c.layer.view_is ∙ c.after-layer.ensures.layer) in
    omega (arith, c.len.ensures, ap length ands, few_ands net.gates (c.self.inside.taken + 1), few)
