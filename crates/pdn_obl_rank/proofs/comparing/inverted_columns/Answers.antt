use Rattle.std.proofs.Common.{arith, refl, get_or}
use Rattle.pdn_circuit.specs.Blocks.{each}
use Rattle.pdn_obl_rank.specs.Keys.{inverted_gates}
use Rattle.pdn_circuit.proofs.Making.{extends_longer}
use Rattle.pdn_obl_rank.proofs.Looping.{loop_begin, loop_stops, loop_next, loop_memory, loop_end, exit_items, columns_none, columns_push, makes_rises}
use Rattle.pdn_obl_rank.proofs.comparing.inverted_columns.Goals as goal

pub loop-k-init : goal.loop-k-init
loop-k-init c = record { along = loop_begin (inverted_gates c.args.list.now) _ _ _ c.new-inverted.ensures.items; longer = omega arith; there = columns_none _ _ c.new-inverted.ensures.items }

pub returns-in_err-column-clause-made : goal.returns-in_err-column-clause-made
returns-in_err-column-clause-made c =
    exit_items _ _ (each (inverted_gates c.args.list.now) c.args.downs.now) _ _ c.from_residual.ensures.1
    (loop_stops (inverted_gates c.args.list.now) _ _ _ _ _ (get_or c.args.downs.now c.loop-k.k 0) 0 refl c.loop-k-test.true c.loop-k.invariant.along _ _ c.in_err-column.ensures.made)

pub returns-in_err-push-clause-made : goal.returns-in_err-push-clause-made
returns-in_err-push-clause-made c =
    exit_items _ _ (each (inverted_gates c.args.list.now) c.args.downs.now) _ _ c.from_residual-in_err-push.ensures.1
    (loop_memory (inverted_gates c.args.list.now) _ _ _ _ _ (get_or c.args.downs.now c.loop-k.k 0) 0 refl c.loop-k-test.true c.loop-k.invariant.along _ _ c.in_ok-column.ensures.made)

pub loop-k-preserved : goal.loop-k-preserved
loop-k-preserved c =
    let along = loop_next (inverted_gates c.args.list.now) _ _ _ _ _ (get_or c.args.downs.now c.loop-k.k 0) 0 refl c.loop-k-test.true c.loop-k.invariant.along _ _ _ c.in_ok-column.ensures.made c.in_ok-push.ensures.items in
    let rises = makes_rises _ _ _ _ c.in_ok-column.ensures.made in
    record {
      along = along;
      longer = extends_longer _ _ along.stands;
      there = columns_push _ _ rises _ _ _ c.loop-k.invariant.there c.in_ok-column.ensures.there c.in_ok-push.ensures.items;
    }

pub returns-clause-made : goal.returns-clause-made
returns-clause-made c = loop_end (inverted_gates c.args.list.now) _ _ _ c.loop-k.k _ c.loop-k-test.false c.loop-k.invariant.along
