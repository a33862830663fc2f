use Rattle.std.proofs.Common.{arith, sym, ◌∙◌}
use Rattle.pdn_circuit.specs.Blocks.{each}
use Rattle.pdn_obl_group.specs.Loops.{spread_gates}
use Rattle.pdn_circuit.proofs.Making.{exit_tries, extends_longer}
use Rattle.pdn_obl_rank.proofs.Looping.{loop_begin, loop_refuses, loop_next, loop_end, gates_none, gates_push, makes_rises}
use Rattle.pdn_obl_rank.proofs.spreading.spread_planes.Goals as goal

pub loop-k-init : goal.loop-k-init
loop-k-init c = record { along = loop_begin (spread_gates c.args.row) _ _ _ c.new-bits.ensures.items; longer = omega arith; there = gates_none _ _ c.new-bits.ensures.items }

pub returns-in_err-lane-clause-made : goal.returns-in_err-lane-clause-made
returns-in_err-lane-clause-made c =
    exit_tries _ _ (each (spread_gates c.args.row) c.args.planes.now) _ _ c.from_residual.ensures.1
    (loop_refuses (spread_gates c.args.row) _ _ _ _ _ c.words_of.result.now c.index-planes-k.result (sym c.index-planes-k.is ∙ sym c.words_of.ensures) c.loop-k-test.true c.loop-k.invariant.along _ _ c.in_err-lane.ensures.made)

pub loop-k-preserved : goal.loop-k-preserved
loop-k-preserved c =
    let along = loop_next (spread_gates c.args.row) _ _ _ _ _ c.words_of.result.now c.index-planes-k.result (sym c.index-planes-k.is ∙ sym c.words_of.ensures) c.loop-k-test.true c.loop-k.invariant.along _ _ _ c.in_ok-lane.ensures.made c.in_ok-push.ensures.items in
    let rises = makes_rises _ _ _ _ c.in_ok-lane.ensures.made in
    record {
      along = along;
      longer = extends_longer _ _ along.stands;
      there = gates_push _ _ rises _ _ _ c.loop-k.invariant.there c.in_ok-lane.ensures.there c.in_ok-push.ensures.items;
    }

pub returns-clause-made : goal.returns-clause-made
returns-clause-made c = loop_end (spread_gates c.args.row) _ _ _ c.loop-k.k _ c.loop-k-test.false c.loop-k.invariant.along
