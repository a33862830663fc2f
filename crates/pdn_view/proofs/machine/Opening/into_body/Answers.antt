use Rattle.std.proofs.Common.{arith}
use Rattle.pdn_view.proofs.machine.Opening.into_body.Goals as goal

pub invariant_of-result-2 : goal.invariant_of-result-2
invariant_of-result-2 c = omega (arith, c.in_ok-number.ensures.small, c.in_ok-dues.dues.small, c.in_ok-dues.dues.ok.0, c.in_ok-dues.dues.ok.1)
