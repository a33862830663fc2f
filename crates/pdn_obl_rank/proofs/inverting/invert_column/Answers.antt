use Rattle.std.proofs.Common.{arith, sym, ◌∙◌}
use Rattle.pdn_circuit.specs.Blocks.{each}
use Rattle.pdn_circuit.specs.Compare.{not_gates}
use Rattle.pdn_circuit.proofs.Making.{exit_tries, extends_longer}
use Rattle.pdn_obl_rank.proofs.Looping.{loop_begin, loop_stops, loop_next, loop_memory, loop_end, planes_none, planes_push, makes_rises}
use Rattle.pdn_obl_rank.proofs.inverting.invert_column.Goals as goal

pub loop-k-init : goal.loop-k-init
loop-k-init c = record { along = loop_begin (λ plane. each not_gates plane) _ _ _ c.new-inverted.ensures.items; longer = omega arith; there = planes_none _ _ c.new-inverted.ensures.items }

pub returns-in_err-plane-clause-made : goal.returns-in_err-plane-clause-made
returns-in_err-plane-clause-made c =
    exit_tries _ _ (each (λ plane. each not_gates plane) c.args.planes.now) _ _ c.from_residual.ensures.1
    (loop_stops (λ plane. each not_gates plane) _ _ _ _ _ c.words_of.result.now c.index-planes-k.result (sym c.index-planes-k.is ∙ sym c.words_of.ensures) c.loop-k-test.true c.loop-k.invariant.along _ _ c.in_err-plane.ensures.made)

pub returns-in_err-push-clause-made : goal.returns-in_err-push-clause-made
returns-in_err-push-clause-made c =
    exit_tries _ _ (each (λ plane. each not_gates plane) c.args.planes.now) _ _ c.from_residual-in_err-push.ensures.1
    (loop_memory (λ plane. each not_gates plane) _ _ _ _ _ c.words_of.result.now c.index-planes-k.result (sym c.index-planes-k.is ∙ sym c.words_of.ensures) c.loop-k-test.true c.loop-k.invariant.along _ _ c.in_ok-plane.ensures.made)

pub loop-k-preserved : goal.loop-k-preserved
loop-k-preserved c =
    let along = loop_next (λ plane. each not_gates plane) _ _ _ _ _ c.words_of.result.now c.index-planes-k.result (sym c.index-planes-k.is ∙ sym c.words_of.ensures) c.loop-k-test.true c.loop-k.invariant.along _ _ _ c.in_ok-plane.ensures.made c.in_ok-push.ensures.items in
    let rises = makes_rises _ _ _ _ c.in_ok-plane.ensures.made in
    record {
      along = along;
      longer = extends_longer _ _ along.stands;
      there = planes_push _ _ rises _ _ _ c.loop-k.invariant.there c.in_ok-plane.ensures.there c.in_ok-push.ensures.items;
    }

pub returns-clause-made : goal.returns-clause-made
returns-clause-made c = loop_end (λ plane. each not_gates plane) _ _ _ c.loop-k.k _ c.loop-k-test.false c.loop-k.invariant.along
