use Rattle.std.proofs.Common.{◌≡◌, ◌<◌, ◌+◌, ◌*◌, ℕ, List, length, map, take, refl, subst, sym, ap, ◌∙◌, arith}
use Rattle.std.proofs.lemmas.List.{length-map, with_items_is}
use Rattle.pdn_circuit.specs.Gates.{Net}
use Rattle.pdn_dealer.specs.Sections.{five_count}
use Rattle.pdn_gmw.specs.declared.stage.Stage.{Stage}
use Rattle.pdn_gmw.specs.declared.stage.Stage.TheVariants.{Ready}
use Rattle.pdn_gmw.specs.Shares.{GateView}
use Rattle.pdn_gmw.specs.Layers.{LayerAnd, LayerWords, layer_of}
use Rattle.pdn_gmw.specs.Known.{HeldWords, held, own_triple, received, AndsThere}
use Rattle.pdn_gmw.specs.Places.{state_of, AtStage}
use Rattle.pdn_gmw.specs.Steps.{HalfState, next_frame}
use Rattle.std.specs.Prelude.{slice_index}
use Rattle.std.specs.List.{flat_map, fold}
use Rattle.std.specs.Vec.{with_items}
use Rattle.pdn_gmw.specs.Known.{and_sends, heard_by, and_put, settled_by, linear_settled, KnownTo}
use Rattle.pdn_gmw.specs.Steps.{Fits, after_take, masked_words}
use Rattle.pdn_gmw.proofs.Stepping.{ands_there, rest_there, frame_is, frame_long, known_next, held_kept, state_taken, length-heard_by, length-ands_put}
use Rattle.pdn_gmw.proofs.Exchanging.{exchanged}
use Rattle.pdn_gmw.proofs.half.Half.settle.Goals as goal

pub settle_ands-requires-clause-there : goal.settle_ands-requires-clause-there
settle_ands-requires-clause-there c =
    let inv = c.self.invariant in
    let net : Net = c.self.inside.schedule in
    let t : ℕ = c.self.inside.taken in
    let ands : c.as_slice.result.now ≡ (layer_of net.gates (t + 1)).ands = c.as_slice.ensures.value ∙ ap (λ (l : LayerWords). l.ands) (c.layer.view_is ∙ c.after-layer.ensures.layer) in
    let long : length c.self.inside.views.items ≡ five_count net = sym (length-map c.self.inside.views.items own_triple) ∙ inv.fits.triples in
    subst (λ (ss : List LayerAnd). AndsThere ss (length c.as_mut_slice.result.now) (length c.as_mut_slice-2.result.now)) (sym ands)
    (ands_there net (t + 1) (length c.as_mut_slice.result.now) (length c.as_mut_slice-2.result.now) inv.circuit (ap length c.as_mut_slice.ensures.value ∙ long) (ap length c.as_mut_slice-2.ensures.value ∙ inv.shares))

pub share_rest-requires-clause-there : goal.share_rest-requires-clause-there
share_rest-requires-clause-there c =
    let inv = c.self.invariant in
    let net : Net = c.self.inside.schedule in
    let t : ℕ = c.self.inside.taken in
    let rest : c.as_slice-2.result.now ≡ (layer_of net.gates (t + 1)).rest = c.as_slice-2.ensures.value ∙ ap (λ (l : LayerWords). l.rest) (c.layer.view_is ∙ c.after-layer.ensures.layer) in
    subst (λ (n : Net). (m : ℕ) → m < length c.as_slice-2.result.now → slice_index c.as_slice-2.result.now m < length n.gates) (sym c.circuit.ensures)
    (subst (λ (xs : List ℕ). (m : ℕ) → m < length xs → slice_index xs m < length net.gates) (sym rest) (rest_there net.gates (t + 1)))

pub invariant_of-self : goal.invariant_of-self
invariant_of-self c =
    let inv = c.self.invariant in
    let net : Net = c.self.inside.schedule in
    let t : ℕ = c.self.inside.taken in
    let stands = subst (λ (g : Stage). AtStage (state_of c.self.inside) c.self.inside.frame.items g) (ap (λ (s : HalfState). s.stage) c.self.view_is ∙ c.requires.wanting) inv.stage in
    let hw : HeldWords = c.self.inside.holdings in
    let views : List GateView = c.self.inside.views.items in
    let next : List GateView = c.settle_ands.new.views in
    let shares : List ℕ = c.self.inside.shares.items in
    let heard : List ℕ = c.args.frame.now in
    let ss : List LayerAnd = (layer_of net.gates (t + 1)).ands in
    let ands : c.as_slice.result.now ≡ ss = c.as_slice.ensures.value ∙ ap (λ (l : LayerWords). l.ands) (c.layer.view_is ∙ c.after-layer.ensures.layer) in
    let rest : c.as_slice-2.result.now ≡ (layer_of net.gates (t + 1)).rest = c.as_slice-2.ensures.value ∙ ap (λ (l : LayerWords). l.rest) (c.layer.view_is ∙ c.after-layer.ensures.layer) in
    let long : length views ≡ five_count net = sym (length-map views own_triple) ∙ inv.fits.triples in
    let sent : List ℕ = take (2 * c.len.result) c.deref.result.now in
    let count : c.len.result ≡ length ss = omega (arith, c.len.ensures, ap (λ (l : LayerWords). length l.ands) (c.layer.view_is ∙ c.after-layer.ensures.layer)) in
    let as_sent : sent ≡ flat_map (λ s. masked_words (and_sends views shares s)) ss
    = ap (λ (n : ℕ). take (2 * n) c.deref.result.now) count
    ∙ ap (take (2 * length ss)) c.deref.ensures.value ∙ stands.1
    ∙ frame_is hw views (map received views) net t shares inv.circuit inv.known in
    let as_heard : next ≡ heard_by ss heard views
    = c.settle_ands.ensures.views ∙ ap (λ (vs : List GateView). heard_by c.as_slice.result.now heard vs) c.as_mut_slice.ensures.value ∙ ap (λ (rs : List LayerAnd). heard_by rs heard views) ands in
    let two : length heard ≡ 2 * length ss
    = c.requires.long ∙ ap (λ (s : HalfState). length (next_frame s)) (sym c.self.view_is) ∙ frame_long hw views (map received views) net t shares inv.circuit inv.known in
    let after : List ℕ = fold (and_put hw.site next shares) shares ss in
    let settled : c.settle_ands.new.shares ≡ after
    = c.settle_ands.ensures.shares
    ∙ ap (λ site. settled_by site c.as_mut_slice.result.now c.as_slice.result.now sent heard c.as_mut_slice-2.result.now) c.site.ensures
    ∙ ap (λ (vs : List GateView). settled_by hw.site vs c.as_slice.result.now sent heard c.as_mut_slice-2.result.now) c.as_mut_slice.ensures.value
    ∙ ap (λ (rs : List LayerAnd). settled_by hw.site views rs sent heard c.as_mut_slice-2.result.now) ands
    ∙ ap (settled_by hw.site views ss sent heard) c.as_mut_slice-2.ensures.value
    ∙ exchanged hw.site net (t + 1) sent heard shares views long two as_sent
    ∙ ap (λ (vs : List GateView). fold (and_put hw.site vs shares) shares ss) (sym as_heard) in
    let first = with_items_is c.self.inside.shares c.settle_ands.new.shares (c.settle_ands.ensures.long ∙ c.as_mut_slice-2.ensures.len) in
    let begun : c.as_mut_slice-3.result.now ≡ after = c.as_mut_slice-3.ensures.value ∙ first ∙ settled in
    let done : c.share_rest.new.shares ≡ fold (linear_settled net.gates) after (layer_of net.gates (t + 1)).rest
    = c.share_rest.ensures.shares
    ∙ ap (λ (n : Net). fold (linear_settled n.gates) c.as_mut_slice-3.result.now c.as_slice-2.result.now) c.circuit.ensures
    ∙ ap (λ (xs : List ℕ). fold (linear_settled net.gates) xs c.as_slice-2.result.now) begun
    ∙ ap (fold (linear_settled net.gates) after) rest in
    let after_long : length after ≡ length net.gates = length-ands_put hw.site next shares ss shares ∙ inv.shares in
    let many : length next ≡ length c.as_mut_slice.result.now = ap length c.settle_ands.ensures.views ∙ length-heard_by c.as_slice.result.now heard c.as_mut_slice.result.now in
    let seen = with_items_is c.self.inside.views next (many ∙ c.as_mut_slice.ensures.len) in
    let items = with_items_is (with_items c.self.inside.shares c.settle_ands.new.shares) c.share_rest.new.shares (c.share_rest.ensures.long ∙ c.as_mut_slice-3.ensures.len) in
    let kept : held hw next ≡ held hw views = ap (held hw) as_heard ∙ held_kept hw ss heard views in
    record {
      circuit = inv.circuit;
      fits = subst (λ (vs : List GateView). Fits net (held hw vs)) (sym seen) (subst (Fits net) (sym kept) inv.fits);
      own_r = inv.own_r;
      other_r = inv.other_r;
      shares = ap length items ∙ c.share_rest.ensures.long ∙ ap length begun ∙ after_long;
      taken = omega (arith, stands.0);
      known = subst (λ (vs : List GateView). KnownTo (held hw vs) (map received vs) net.gates (t + 1) (with_items (with_items c.self.inside.shares c.settle_ands.new.shares) c.share_rest.new.shares).items) (sym seen)
          (subst (KnownTo (held hw next) (map received next) net.gates (t + 1)) (sym (items ∙ done))
          (known_next hw views next net t heard shares after inv.circuit long inv.shares after_long inv.known as_heard refl));
      frame = inv.frame;
      outputs = inv.outputs;
      stage = tt;
    }

pub returns : goal.returns
returns c =
    let inv = c.self.invariant in
    let net : Net = c.self.inside.schedule in
    let t : ℕ = c.self.inside.taken in
    let long : length c.self.inside.views.items ≡ five_count net = sym (length-map c.self.inside.views.items own_triple) ∙ inv.fits.triples in
    let hw : HeldWords = c.self.inside.holdings in
    let views : List GateView = c.self.inside.views.items in
    let next : List GateView = c.settle_ands.new.views in
    let ands : c.as_slice.result.now ≡ (layer_of net.gates (t + 1)).ands = c.as_slice.ensures.value ∙ ap (λ (l : LayerWords). l.ands) (c.layer.view_is ∙ c.after-layer.ensures.layer) in
    let as_heard : next ≡ heard_by (layer_of net.gates (t + 1)).ands c.args.frame.now views
    = c.settle_ands.ensures.views ∙ ap (λ (vs : List GateView). heard_by c.as_slice.result.now c.args.frame.now vs) c.as_mut_slice.ensures.value ∙ ap (λ (rs : List LayerAnd). heard_by rs c.args.frame.now views) ands in
    let many : length next ≡ length c.as_mut_slice.result.now = ap length c.settle_ands.ensures.views ∙ length-heard_by c.as_slice.result.now c.args.frame.now c.as_mut_slice.result.now in
    let seen = with_items_is c.self.inside.views next (many ∙ c.as_mut_slice.ensures.len) in
    ap (λ (vs : List GateView). record { net = net; half = held hw vs; heard = map received vs; taken = t + 1; stage = Ready }) seen
    ∙ state_taken net hw views next t c.args.frame.now c.self.inside.stage long as_heard
    ∙ ap (λ (s : HalfState). after_take s c.args.frame.now) c.self.view_is
