use Rattle.std.proofs.Common.{◌≡◌, ◌<◌, ℕ, [], length, get_or}
use Rattle.pdn_gmw.specs.Known.{held}
use Rattle.pdn_gmw.specs.Steps.{shares_out}
use Rattle.pdn_gmw.proofs.finished.write_outputs.Given as goal

abbrev pub invariant-loop-k : goal.invariant-loop-k
invariant-loop-k l = record {
  long : length l.outputs.items ≡ length l.circuit.outputs;
  end : l.k-end ≡ length l.circuit.outputs;
  before : (j : ℕ) → j < l.k → get_or l.outputs.items j 0 ≡ get_or (shares_out l.circuit (held l.holdings []) l.shares) j 0;
}
