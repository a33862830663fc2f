use Rattle.std.proofs.Common.{arith}
use Rattle.pdn_twin.specs.declared.unit_twin.UnitTwin.{UnitTwin}
use Rattle.pdn_twin.proofs.SectionWords.{taken_more, taken_all, taken_none}
use Rattle.pdn_twin.proofs.runs.by_world.Goals as goal

pub loop-twin-init : goal.loop-twin-init
loop-twin-init c =
    let rest = c.into_iter-twin-iterator.ensures.into_iter_gives.0 in
    record {
      first = taken_none (λ (t : UnitTwin). t.first) _ _ _ c.new-runs.ensures.first rest;
      second = taken_none (λ (t : UnitTwin). t.second) _ _ _ c.new-runs.ensures.second rest;
      changed = taken_none (λ (t : UnitTwin). t.change) _ _ _ c.new-runs.ensures.changed rest;
    }

pub loop-twin-preserved : goal.loop-twin-preserved
loop-twin-preserved c =
    let steps = c.in-Some.ensures.steps.0 in
    record {
      first = taken_more (λ (t : UnitTwin). t.first) _ _ _ _ _ _ steps c.in_ok-push.ensures.first c.loop-twin.invariant.first;
      second = taken_more (λ (t : UnitTwin). t.second) _ _ _ _ _ _ steps c.in_ok-push.ensures.second c.loop-twin.invariant.second;
      changed = taken_more (λ (t : UnitTwin). t.change) _ _ _ _ _ _ steps c.in_ok-push.ensures.changed c.loop-twin.invariant.changed;
    }

pub returns-clause-first : goal.returns-clause-first
returns-clause-first c = taken_all (λ (t : UnitTwin). t.first) _ _ _ (omega (arith, c.in-None.ensures.steps.0)) c.loop-twin.invariant.first

pub returns-clause-second : goal.returns-clause-second
returns-clause-second c = taken_all (λ (t : UnitTwin). t.second) _ _ _ (omega (arith, c.in-None.ensures.steps.0)) c.loop-twin.invariant.second

pub returns-clause-changed : goal.returns-clause-changed
returns-clause-changed c = taken_all (λ (t : UnitTwin). t.change) _ _ _ (omega (arith, c.in-None.ensures.steps.0)) c.loop-twin.invariant.changed
