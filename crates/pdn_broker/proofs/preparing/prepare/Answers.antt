use Rattle.pdn_broker.proofs.PreparingLaws.{all_ready, memory_refused}
use Rattle.pdn_broker.proofs.SameRefusals.{memory_alike, error_alike, too_large_alike}
use Rattle.pdn_broker.proofs.preparing.prepare.Goals as goal

pub together-requires : goal.together-requires
together-requires c =
    all_ready _ _ _ _ _ _ _ _ _ _ _ c.in_ok-engines.ensures.made c.requires.sound c.look_at_plan.ensures c.in_ok-made.ensures.view c.in_ok-made.ensures.units c.in_ok-made.ensures.stand c.in_ok-ends.ensures.columns c.in_ok-ends.ensures.order c.in_ok-ends.ensures.own

pub returns-in_err-ends-clause-refused : goal.returns-in_err-ends-clause-refused
returns-in_err-ends-clause-refused c = memory_refused _ _ _ _ _ c.from_residual-in_err-ends.ensures.1

pub returns-in_err-ends-clause-same : goal.returns-in_err-ends-clause-same
returns-in_err-ends-clause-same c = memory_alike _ _ _ _ _ c.from_residual-in_err-ends.ensures.1

pub returns-in_err-made-clause-same : goal.returns-in_err-made-clause-same
returns-in_err-made-clause-same c =
    error_alike _ _ _ _ _ _ c.from_residual-in_err-made.ensures.1 (too_large_alike _ _ _ _ _ _ _ c.requires.sound c.in_ok-engines.ensures.made c.in_err-made.ensures.large)
