use Rattle.std.proofs.Common.{length, arith, []}
use Rattle.pdn_circuit.specs.Blocks.{each}
use Rattle.std.proofs.Common.{nat_eq, slice_index_or}
use Rattle.std.specs.List.{range_with_len, list_any}
use Rattle.pdn_obl_rank.specs.Keys.{spread_column}
use Rattle.pdn_circuit.proofs.Making.{extends_longer}
use Rattle.pdn_obl_rank.proofs.Looping.{loop_begin, loop_stops, loop_next, loop_memory, loop_end, exit_items, planes_none, planes_push, makes_rises, range_at, range_in, range_end}
use Rattle.pdn_obl_rank.proofs.spreading.spread_used.Goals as goal

pub loop-place-init : goal.loop-place-init
loop-place-init c = record { along = loop_begin (λ place. spread_column (list_any (nat_eq place) c.args.used.now) (slice_index_or c.args.columns.now place []) c.args.row) _ _ _ c.new-lanes.ensures.items; longer = omega arith; there = planes_none _ _ c.new-lanes.ensures.items }

pub returns-in_err-column-clause-made : goal.returns-in_err-column-clause-made
returns-in_err-column-clause-made c =
    exit_items _ _ (each (λ place. spread_column (list_any (nat_eq place) c.args.used.now) (slice_index_or c.args.columns.now place []) c.args.row) (range_with_len 0 (length c.args.columns.now))) _ _ c.from_residual.ensures.1
    (loop_stops (λ place. spread_column (list_any (nat_eq place) c.args.used.now) (slice_index_or c.args.columns.now place []) c.args.row) _ _ _ _ _ c.loop-place.place 0 (range_at _ _ c.loop-place-test.true) (range_in _ _ c.loop-place-test.true) c.loop-place.invariant.along _ _ c.in_err-column.ensures.made)

pub returns-in_err-push-clause-made : goal.returns-in_err-push-clause-made
returns-in_err-push-clause-made c =
    exit_items _ _ (each (λ place. spread_column (list_any (nat_eq place) c.args.used.now) (slice_index_or c.args.columns.now place []) c.args.row) (range_with_len 0 (length c.args.columns.now))) _ _ c.from_residual-in_err-push.ensures.1
    (loop_memory (λ place. spread_column (list_any (nat_eq place) c.args.used.now) (slice_index_or c.args.columns.now place []) c.args.row) _ _ _ _ _ c.loop-place.place 0 (range_at _ _ c.loop-place-test.true) (range_in _ _ c.loop-place-test.true) c.loop-place.invariant.along _ _ c.in_ok-column.ensures.made)

pub loop-place-preserved : goal.loop-place-preserved
loop-place-preserved c =
    let along = loop_next (λ place. spread_column (list_any (nat_eq place) c.args.used.now) (slice_index_or c.args.columns.now place []) c.args.row) _ _ _ _ _ c.loop-place.place 0 (range_at _ _ c.loop-place-test.true) (range_in _ _ c.loop-place-test.true) c.loop-place.invariant.along _ _ _ c.in_ok-column.ensures.made c.in_ok-push.ensures.items in
    let rises = makes_rises _ _ _ _ c.in_ok-column.ensures.made in
    record {
      along = along;
      longer = extends_longer _ _ along.stands;
      there = planes_push _ _ rises _ _ _ c.loop-place.invariant.there c.in_ok-column.ensures.there c.in_ok-push.ensures.items;
    }

pub returns-clause-made : goal.returns-clause-made
returns-clause-made c = loop_end (λ place. spread_column (list_any (nat_eq place) c.args.used.now) (slice_index_or c.args.columns.now place []) c.args.row) _ _ _ c.loop-place.place _ (range_end _ _ c.loop-place-test.false) c.loop-place.invariant.along
