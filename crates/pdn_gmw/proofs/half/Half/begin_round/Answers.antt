use Rattle.std.proofs.Common.{◌≡◌, ◌≤◌, ◌+◌, ◌*◌, ℕ, List, length, take, subst, sym, ap, ◌∙◌, arith}
use Rattle.std.proofs.lemmas.List.{length-map, with_items_is}
use Rattle.pdn_circuit.specs.Gates.{Net}
use Rattle.pdn_dealer.specs.Sections.{five_count}
use Rattle.pdn_gmw.specs.Layers.{LayerAnd, LayerWords, layer_of}
use Rattle.pdn_gmw.specs.Known.{own_triple, AndsThere}
use Rattle.pdn_gmw.specs.Steps.{frame_count}
use Rattle.pdn_gmw.proofs.Stepping.{ands_there, frame_made}
use Rattle.pdn_gmw.proofs.half.Half.begin_round.Goals as goal

pub write_frame-requires-clause-there : goal.write_frame-requires-clause-there
write_frame-requires-clause-there c =
    let inv = c.self.invariant in
    let net : Net = c.self.inside.schedule in
    let d : ℕ = c.self.inside.taken + 1 in
    let within : d ≤ frame_count net = omega (arith, c.if-self-frames.true, c.frames.ensures.count) in
    let ands : c.as_slice.result.now ≡ (layer_of net.gates d).ands
    = c.as_slice.ensures.value ∙ ap (λ (l : LayerWords). l.ands) (c.layer.view_is ∙ c.after-layer.ensures.layer) in
    let long : length c.self.inside.views.items ≡ five_count net = sym (length-map c.self.inside.views.items own_triple) ∙ inv.fits.triples in
    subst (λ (ss : List LayerAnd). AndsThere ss (length c.as_slice-then-self-frames.result.now) (length c.as_slice-then-self-frames-2.result.now)) (sym ands)
    (ands_there net d (length c.as_slice-then-self-frames.result.now) (length c.as_slice-then-self-frames-2.result.now) inv.circuit (ap length c.as_slice-then-self-frames.ensures.value ∙ long) (ap length c.as_slice-then-self-frames-2.ensures.value ∙ inv.shares))

pub invariant_of-self : goal.invariant_of-self
invariant_of-self c =
    let inv = c.self.invariant in
    let net : Net = c.self.inside.schedule in
    let d : ℕ = c.self.inside.taken + 1 in
    let within : d ≤ frame_count net = omega (arith, c.if-self-frames.true, c.frames.ensures.count) in
    let ands : c.as_slice.result.now ≡ (layer_of net.gates d).ands
    = c.as_slice.ensures.value ∙ ap (λ (l : LayerWords). l.ands) (c.layer.view_is ∙ c.after-layer.ensures.layer) in
    let long : length c.write_frame.new.frame ≡ length c.self.inside.frame.items = c.write_frame.ensures.long ∙ ap length c.as_mut_slice.ensures.value in
    let items = with_items_is c.self.inside.frame c.write_frame.new.frame (c.write_frame.ensures.long ∙ c.as_mut_slice.ensures.len) in
    record {
      circuit = inv.circuit;
      fits = inv.fits;
      own_r = inv.own_r;
      other_r = inv.other_r;
      shares = inv.shares;
      taken = inv.taken;
      known = inv.known;
      frame = λ k b. let f = inv.frame k b in subst (λ (xs : List ℕ). 2 * length (layer_of net.gates k).ands ≤ length xs) (sym items) (omega (arith, f, long));
      outputs = inv.outputs;
      stage = (
        omega (arith, within),
        ap (take (2 * length (layer_of net.gates d).ands)) items ∙ frame_made c.self.inside.holdings c.self.inside.views.items c.as_slice-then-self-frames.result.now net c.self.inside.taken c.self.inside.shares.items c.as_slice-then-self-frames-2.result.now c.write_frame.new.frame c.as_slice.result.now
            inv.circuit inv.known ands c.as_slice-then-self-frames.ensures.value c.as_slice-then-self-frames-2.ensures.value c.write_frame.ensures.words,
      );
    }
