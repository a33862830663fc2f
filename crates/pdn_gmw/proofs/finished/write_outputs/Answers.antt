use Rattle.std.proofs.Common.{◌≡◌, ◌<◌, [], length, get_or, ap, sym, ◌∙◌, subst, arith}
use Rattle.std.proofs.lemmas.List.{length-set, get_or_read}
use Rattle.pdn_circuit.specs.Gates.{Net}
use Rattle.pdn_gmw.specs.Known.{held}
use Rattle.pdn_gmw.proofs.Putting.{put_out_more, all_put_out, share_read}
use Rattle.pdn_gmw.proofs.finished.write_outputs.Goals as goal

pub loop-k-preserved : goal.loop-k-preserved
loop-k-preserved c =
    let inv = c.loop-k.invariant in
    let here : c.loop-k.k < length c.args.circuit.now.outputs = omega (arith, c.loop-k-test.true, inv.end) in
    let inside_here : c.loop-k.k < length c.circuit.inside.outputs.items = subst (λ (n : Net). c.loop-k.k < length n.outputs) (sym c.circuit.view_is) here in
    let place : c.index.result.now ≡ get_or c.circuit.inside.outputs.items c.loop-k.k 0 = get_or_read c.circuit.inside.outputs.items c.loop-k.k c.index.result.now inside_here c.index.ensures 0 in
    let below = c.circuit.invariant.outputs c.loop-k.k inside_here in
    let gates : length c.circuit.inside.gates.items ≡ length c.args.circuit.now.gates = ap (λ (n : Net). length n.gates) c.circuit.view_is in
    record {
      long = length-set c.loop-k.outputs.items c.loop-k.k c.cover.result ∙ inv.long;
      end = inv.end;
      before = put_out_more c.args.circuit.now (held c.args.holdings.now []) c.args.shares.now c.loop-k.outputs.items c.loop-k.k c.cover.result c.requires.masks here inv.long
          (share_read _ c.args.circuit.now c.args.holdings.now.masks c.args.shares.now c.loop-k.k c.index.result.now c.index-shares-index.result c.cover.result c.circuit.view_is here
          c.index.ensures (omega (arith, place, below, gates, c.requires.shares)) c.index-shares-index.is c.cover.ensures)
          inv.before;
    }

pub returns : goal.returns
returns c =
    let inv = c.loop-k.invariant in
    all_put_out c.args.circuit.now (held c.args.holdings.now []) c.args.shares.now c.loop-k.outputs.items c.requires.masks inv.long (λ j b. inv.before j (omega (arith, c.loop-k-test.false, inv.end)))
