use Rattle.std.proofs.Common.{◌≡◌, ◌*◌, ◌+◌, ◌<◌, ℕ, List, length, arith, ap, ◌∙◌}
use Rattle.std.proofs.lemmas.List.{length-set}
use Rattle.std.specs.Prelude.{slice_index_or}
use Rattle.pdn_base.specs.Words.{◌⊕◌}
use Rattle.pdn_gmw.specs.Shares.{GateView}
use Rattle.pdn_gmw.specs.Halves.{half_product}
use Rattle.pdn_gmw.specs.Known.{own_triple}
use Rattle.pdn_gmw.specs.Layers.{LayerAnd}
use Rattle.pdn_gmw.proofs.Hearing.{heard_more, hears}
use Rattle.pdn_gmw.proofs.Exchanging.{settled_more}
use Rattle.pdn_gmw.proofs.rounds.settle_ands.Goals as goal

pub loop-k-preserved : goal.loop-k-preserved
loop-k-preserved c =
    let o : LayerAnd = record { gate = 0; number = 0; x = 0; y = 0 } in
    let inv = c.loop-k.invariant in
    let ss : List LayerAnd = c.args.ands.now in
    let k : ℕ = c.loop-k.k in
    let s : LayerAnd = slice_index_or ss k o in
    let v : GateView = c.index-views-at.result in
    let heard : List ℕ = c.args.frames.heard.now in
    let sent : List ℕ = c.args.frames.sent.now in
    let d : ℕ = slice_index_or heard (2 * k) c.index-frames-k.result in
    let e : ℕ = slice_index_or heard (2 * k + 1) c.index-frames-k-in-loop-k.result in
    let x : ℕ = slice_index_or sent (2 * k) c.index-frames-k-in-loop-k-2.result in
    let y : ℕ = slice_index_or sent (2 * k + 1) c.index-frames-k-in-loop-k-3.result in
    let rd : d ≡ slice_index_or heard (2 * k) d = ap (λ (i : ℕ). slice_index_or heard (2 * k) i) c.index-frames-k.is in
    let re : e ≡ slice_index_or heard (2 * k + 1) e = ap (λ (i : ℕ). slice_index_or heard (2 * k + 1) i) c.index-frames-k-in-loop-k.is in
    let rx : x ≡ slice_index_or sent (2 * k) x = ap (λ (i : ℕ). slice_index_or sent (2 * k) i) c.index-frames-k-in-loop-k-2.is in
    let ry : y ≡ slice_index_or sent (2 * k + 1) y = ap (λ (i : ℕ). slice_index_or sent (2 * k + 1) i) c.index-frames-k-in-loop-k-3.is in
    let many = inv.as_many in
    let at = c.requires.there k o c.loop-k-test.true in
    let there : s.number < length c.loop-k.views = omega (arith, at.0, many) in
    let share : c.product_share.result ≡ half_product c.args.site (own_triple v) (x ⊕ d) (y ⊕ e)
    = c.product_share.ensures ∙ ap (λ (w : ℕ). half_product c.args.site (own_triple v) w c.xor-e.result) c.xor-d.ensures ∙ ap (λ (w : ℕ). half_product c.args.site (own_triple v) (x ⊕ d) w) c.xor-e.ensures in
    record {
      long = length-set c.loop-k.shares s.gate c.product_share.result ∙ inv.long;
      as_many = length-set c.loop-k.views s.number (hears v d e) ∙ inv.as_many;
      views = heard_more ss heard c.args.views.now c.loop-k.views k d e o v c.loop-k-test.true c.requires.heard inv.views there c.index-views-at.is rd re;
      shares = settled_more c.args.site ss sent heard c.args.shares.now c.loop-k.shares c.args.views.now c.loop-k.views k d e x y c.product_share.result o v
          c.loop-k-test.true c.requires.sent c.requires.heard inv.shares inv.views there c.index-views-at.is rd re rx ry share;
    }
