use Rattle.std.proofs.Common.{◌≡◌, ℕ, List, length, ap, sym, ◌∙◌, subst, arith}
use Rattle.std.specs.Prelude.{slice_index}
use Rattle.std.proofs.lemmas.List.{take_all}
use Rattle.pdn_circuit.specs.Gates.{Net, IsCircuit}
use Rattle.pdn_circuit.specs.Depths.{IsDepth, depths_of}
use Rattle.pdn_circuit.proofs.DepthMeaning.{depths_mean}
use Rattle.pdn_circuit.proofs.depths.gate_depths.Goals as goal

pub returns-clause-means : goal.returns-clause-means
returns-clause-means c =
    let net : Net = c.args.circuit.now in
    let is : IsCircuit net = subst IsCircuit c.circuit.view_is c.circuit.invariant in
    let whole : c.loop-gate.depths.items ≡ depths_of net.gates
    = c.loop-gate.invariant.depths ∙ ap depths_of (take_all c.loop-gate.gate-index net.gates (omega (arith, c.loop-gate-test.false, c.deref-gate-items.ensures.len, ap (λ (n : Net). length n.gates) c.circuit.view_is))) in
    subst (λ (ds : List ℕ). IsDepth net.gates (slice_index ds)) (sym whole) (depths_mean net.gates is.gates.order)
