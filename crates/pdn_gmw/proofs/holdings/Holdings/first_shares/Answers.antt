use Rattle.std.proofs.Common.{◌≡◌, ◌<◌, ℕ, List, length, map, replicate, subst, sym, ap, ◌∙◌, arith}
use Rattle.std.specs.Prelude.{slice_index}
use Rattle.std.specs.List.{fold, range_with_len}
use Rattle.std.specs.Vec.{with_items}
use Rattle.std.proofs.lemmas.List.{with_items_is, length-replicate}
use Rattle.pdn_circuit.specs.Gates.{Net, IsCircuit}
use Rattle.pdn_gmw.specs.Layers.{LayerWords, layer_of}
use Rattle.pdn_gmw.specs.Known.{LeavesThere, leaf_at, leaf_settled, linear_settled}
use Rattle.pdn_gmw.proofs.Stepping.{rest_there}
use Rattle.pdn_gmw.proofs.Leaves.{leaves_there, leaves_settled}
use Rattle.pdn_gmw.proofs.holdings.Holdings.first_shares.Goals as goal

pub share_leaves-requires : goal.share_leaves-requires
share_leaves-requires c =
    let net : Net = c.args.schedule.now in
    let is : IsCircuit net = subst IsCircuit (c.circuit.view_is ∙ c.circuit-circuit.ensures) c.circuit.invariant in
    let long : length c.as_mut_slice.result.now ≡ length net.gates = omega (arith, ap length c.as_mut_slice.ensures.value, ap length c.in_ok-shares.ensures, length-replicate {A = ℕ} c.len.result 0, c.len.ensures, ap (λ (n : Net). length n.gates) (c.circuit.view_is ∙ c.circuit-circuit.ensures)) in
    subst (λ (n : ℕ). LeavesThere c.args.self.now n c.leaves.result.now) (sym long)
    (subst (LeavesThere c.args.self.now (length net.gates)) (sym c.leaves.ensures) (leaves_there net c.args.self.now is c.requires))

pub share_rest-requires-clause-long : goal.share_rest-requires-clause-long
share_rest-requires-clause-long c =
    let all = c.circuit.view_is in
    let begun : length c.as_mut_slice.result.now ≡ length c.circuit.inside.gates.items = omega (arith, ap length c.as_mut_slice.ensures.value, ap length c.in_ok-shares.ensures, length-replicate {A = ℕ} c.len.result 0, c.len.ensures) in
    let items = with_items_is c.in_ok-shares.shares c.share_leaves.new.shares (c.share_leaves.ensures.long ∙ c.as_mut_slice.ensures.len) in
    ap length (c.as_mut_slice-2.ensures.value ∙ items) ∙ c.share_leaves.ensures.long ∙ begun ∙ ap (λ (n : Net). length n.gates) all

pub share_rest-requires-clause-there : goal.share_rest-requires-clause-there
share_rest-requires-clause-there c =
    let net : Net = c.args.schedule.now in
    let rest : c.as_slice.result.now ≡ (layer_of net.gates 0).rest
    = c.as_slice.ensures.value ∙ ap (λ (l : LayerWords). l.rest) (c.first.view_is ∙ c.first-first.ensures) in
    subst (λ (n : Net). (m : ℕ) → m < length c.as_slice.result.now → slice_index c.as_slice.result.now m < length n.gates) (sym c.circuit-circuit.ensures)
    (subst (λ (xs : List ℕ). (m : ℕ) → m < length xs → slice_index xs m < length net.gates) (sym rest) (rest_there net.gates 0))

pub returns : goal.returns
returns c =
    let net : Net = c.args.schedule.now in
    let rest : c.as_slice.result.now ≡ (layer_of net.gates 0).rest
    = c.as_slice.ensures.value ∙ ap (λ (l : LayerWords). l.rest) (c.first.view_is ∙ c.first-first.ensures) in
    let count : c.len.result ≡ length net.gates = omega (arith, c.len.ensures, ap (λ (n : Net). length n.gates) (c.circuit.view_is ∙ c.circuit-circuit.ensures)) in
    let zeros : c.as_mut_slice.result.now ≡ replicate (length net.gates) 0 = c.as_mut_slice.ensures.value ∙ c.in_ok-shares.ensures ∙ ap (λ (n : ℕ). replicate n 0) count in
    let leaves : c.share_leaves.new.shares ≡ map (leaf_at c.args.self.now net.gates) (range_with_len 0 (length net.gates))
    = c.share_leaves.ensures.shares
    ∙ ap (λ (xs : List ℕ). fold (leaf_settled c.args.self.now) xs c.leaves.result.now) zeros
    ∙ ap (fold (leaf_settled c.args.self.now) (replicate (length net.gates) 0)) c.leaves.ensures
    ∙ leaves_settled c.args.self.now net.gates in
    let first = with_items_is c.in_ok-shares.shares c.share_leaves.new.shares (c.share_leaves.ensures.long ∙ c.as_mut_slice.ensures.len) in
    with_items_is (with_items c.in_ok-shares.shares c.share_leaves.new.shares) c.share_rest.new.shares (c.share_rest.ensures.long ∙ c.as_mut_slice-2.ensures.len)
    ∙ c.share_rest.ensures.shares
    ∙ ap (λ (n : Net). fold (linear_settled n.gates) c.as_mut_slice-2.result.now c.as_slice.result.now) c.circuit-circuit.ensures
    ∙ ap (λ (xs : List ℕ). fold (linear_settled net.gates) xs c.as_slice.result.now) (c.as_mut_slice-2.ensures.value ∙ first ∙ leaves)
    ∙ ap (fold (linear_settled net.gates) (map (leaf_at c.args.self.now net.gates) (range_with_len 0 (length net.gates)))) rest
