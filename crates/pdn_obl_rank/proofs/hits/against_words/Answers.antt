use Rattle.std.proofs.Common.{length, arith, []}
use Rattle.pdn_circuit.specs.Blocks.{each}
use Rattle.std.proofs.Common.{slice_index_or}
use Rattle.std.specs.List.{range_with_len}
use Rattle.pdn_obl_rank.specs.Numbers.{against_gates}
use Rattle.pdn_circuit.proofs.Making.{extends_longer}
use Rattle.pdn_obl_rank.proofs.Looping.{loop_begin, loop_stops, loop_next, loop_memory, loop_end, exit_items, planes_none, planes_push, makes_rises, range_at, range_in, range_end}
use Rattle.pdn_obl_rank.proofs.hits.against_words.Goals as goal

pub loop-word-init : goal.loop-word-init
loop-word-init c = record { along = loop_begin (λ w. against_gates c.args.compared.now c.args.lanes.now.valid c.args.lanes.now.part c.args.lanes.now.key c.args.row w (slice_index_or c.args.counters.now w [])) _ _ _ c.new-more.ensures.items; longer = omega arith; there = planes_none _ _ c.new-more.ensures.items }

pub returns-in_err-counter-clause-made : goal.returns-in_err-counter-clause-made
returns-in_err-counter-clause-made c =
    exit_items _ _ (each (λ w. against_gates c.args.compared.now c.args.lanes.now.valid c.args.lanes.now.part c.args.lanes.now.key c.args.row w (slice_index_or c.args.counters.now w [])) (range_with_len 0 (length c.args.counters.now))) _ _ c.from_residual.ensures.1
    (loop_stops (λ w. against_gates c.args.compared.now c.args.lanes.now.valid c.args.lanes.now.part c.args.lanes.now.key c.args.row w (slice_index_or c.args.counters.now w [])) _ _ _ _ _ c.loop-word.word 0 (range_at _ _ c.loop-word-test.true) (range_in _ _ c.loop-word-test.true) c.loop-word.invariant.along _ _ c.in_err-counter.ensures.made)

pub returns-in_err-push-clause-made : goal.returns-in_err-push-clause-made
returns-in_err-push-clause-made c =
    exit_items _ _ (each (λ w. against_gates c.args.compared.now c.args.lanes.now.valid c.args.lanes.now.part c.args.lanes.now.key c.args.row w (slice_index_or c.args.counters.now w [])) (range_with_len 0 (length c.args.counters.now))) _ _ c.from_residual-in_err-push.ensures.1
    (loop_memory (λ w. against_gates c.args.compared.now c.args.lanes.now.valid c.args.lanes.now.part c.args.lanes.now.key c.args.row w (slice_index_or c.args.counters.now w [])) _ _ _ _ _ c.loop-word.word 0 (range_at _ _ c.loop-word-test.true) (range_in _ _ c.loop-word-test.true) c.loop-word.invariant.along _ _ c.in_ok-counter.ensures.made)

pub loop-word-preserved : goal.loop-word-preserved
loop-word-preserved c =
    let along = loop_next (λ w. against_gates c.args.compared.now c.args.lanes.now.valid c.args.lanes.now.part c.args.lanes.now.key c.args.row w (slice_index_or c.args.counters.now w [])) _ _ _ _ _ c.loop-word.word 0 (range_at _ _ c.loop-word-test.true) (range_in _ _ c.loop-word-test.true) c.loop-word.invariant.along _ _ _ c.in_ok-counter.ensures.made c.in_ok-push.ensures.items in
    let rises = makes_rises _ _ _ _ c.in_ok-counter.ensures.made in
    record {
      along = along;
      longer = extends_longer _ _ along.stands;
      there = planes_push _ _ rises _ _ _ c.loop-word.invariant.there c.in_ok-counter.ensures.there c.in_ok-push.ensures.items;
    }

pub returns-clause-made : goal.returns-clause-made
returns-clause-made c = loop_end (λ w. against_gates c.args.compared.now c.args.lanes.now.valid c.args.lanes.now.part c.args.lanes.now.key c.args.row w (slice_index_or c.args.counters.now w [])) _ _ _ c.loop-word.word _ (range_end _ _ c.loop-word-test.false) c.loop-word.invariant.along
