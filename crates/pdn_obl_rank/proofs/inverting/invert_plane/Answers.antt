use Rattle.std.proofs.Common.{arith, refl, get_or}
use Rattle.pdn_circuit.specs.Blocks.{each}
use Rattle.pdn_circuit.specs.Compare.{not_gates}
use Rattle.pdn_circuit.proofs.Making.{exit_tries, extends_longer}
use Rattle.pdn_obl_rank.proofs.Looping.{loop_begin, loop_refuses, loop_next, loop_end, gates_none, gates_push, makes_rises}
use Rattle.pdn_obl_rank.proofs.inverting.invert_plane.Goals as goal

pub loop-k-init : goal.loop-k-init
loop-k-init c = record { along = loop_begin (not_gates) _ _ _ c.new-words.ensures.items; longer = omega arith; there = gates_none _ _ c.new-words.ensures.items }

pub returns-in_err-gate-clause-made : goal.returns-in_err-gate-clause-made
returns-in_err-gate-clause-made c =
    exit_tries _ _ (each (not_gates) c.args.plane.now) _ _ c.from_residual.ensures.1
    (loop_refuses (not_gates) _ _ _ _ _ (get_or c.args.plane.now c.loop-k.k 0) 0 refl c.loop-k-test.true c.loop-k.invariant.along _ _ c.in_err-gate.ensures.made)

pub loop-k-preserved : goal.loop-k-preserved
loop-k-preserved c =
    let along = loop_next (not_gates) _ _ _ _ _ (get_or c.args.plane.now c.loop-k.k 0) 0 refl c.loop-k-test.true c.loop-k.invariant.along _ _ _ c.in_ok-gate.ensures.made c.in_ok-push.ensures.items in
    let rises = makes_rises _ _ _ _ c.in_ok-gate.ensures.made in
    record {
      along = along;
      longer = extends_longer _ _ along.stands;
      there = gates_push _ _ rises _ _ _ c.loop-k.invariant.there c.in_ok-gate.ensures.there c.in_ok-push.ensures.items;
    }

pub returns-clause-made : goal.returns-clause-made
returns-clause-made c = loop_end (not_gates) _ _ _ c.loop-k.k _ c.loop-k-test.false c.loop-k.invariant.along
