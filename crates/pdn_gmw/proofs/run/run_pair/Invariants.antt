use Rattle.std.proofs.Common.{◌≡◌}
use Rattle.pdn_gmw.specs.Steps.{frame_count}
use Rattle.pdn_gmw.proofs.Running.{state_a, state_b}
use Rattle.pdn_gmw.proofs.run.run_pair.Given as goal

abbrev pub invariant-loop : goal.invariant-loop
invariant-loop l = record {
  end : l.end ≡ frame_count l.fn.a.net;
  a : l.half_a ≡ state_a l.fn.a l.fn.b l.counter;
  b : l.half_b ≡ state_b l.fn.a l.fn.b l.counter;
}
