use Rattle.std.proofs.Common.{ℕ, ap, arith, refl, length}
use Rattle.std.specs.Prelude.{slice_index_or}
use Rattle.pdn_circuit.specs.Blocks.{Making}
use Rattle.pdn_circuit.proofs.Making.{extends_longer, along_memory}
use Rattle.pdn_obl_rows.proofs.ThereLaws.{there_later}
use Rattle.pdn_obl_rows.proofs.Walks.{range_begin, range_stops, range_next, range_end}
use Rattle.pdn_obl_group.specs.Loops.{each_word}
use Rattle.pdn_obl_group.specs.Operators.{distinct_word}
use Rattle.pdn_obl_group.proofs.Steps.{exit_vec, none_there, push_there, pushed_count, spread_later}
use Rattle.pdn_obl_group.proofs.repeats.distinct_words.Goals as goal

pub loop-word-init : goal.loop-word-init
loop-word-init c = record {
  along = range_begin (λ w. distinct_word c.args.list.now c.args.row c.args.spread.now w (slice_index_or c.args.dups.now w 0)) c.args.b.now (length c.args.dups.now) _ c.new-next.ensures.items;
  longer = omega arith;
  there = none_there _ _ c.new-next.ensures.items;
  count = ap length c.new-next.ensures.items;
}

pub distinct_word-requires-clause-there : goal.distinct_word-requires-clause-there
distinct_word-requires-clause-there c = there_later _ _ _ c.loop-word.invariant.longer c.requires.there

pub distinct_word-requires-clause-spread : goal.distinct_word-requires-clause-spread
distinct_word-requires-clause-spread c = spread_later _ _ _ _ c.loop-word.invariant.longer c.requires.spread

pub returns-in_err-dup-clause-made : goal.returns-in_err-dup-clause-made
returns-in_err-dup-clause-made c =
    let f : ℕ → Making ℕ = λ w. distinct_word c.args.list.now c.args.row c.args.spread.now w (slice_index_or c.args.dups.now w 0) in
    exit_vec _ _ (each_word 0 (distinct_word c.args.list.now c.args.row c.args.spread.now) c.args.dups.now) _ _ c.from_residual.ensures.1
    (range_stops f _ _ _ _ c.loop-word.word (length c.args.dups.now) c.loop-word-test.true c.loop-word.invariant.along _ _ c.in_err-dup.ensures.made)

pub returns-in_err-push-clause-made : goal.returns-in_err-push-clause-made
returns-in_err-push-clause-made c =
    let f : ℕ → Making ℕ = λ w. distinct_word c.args.list.now c.args.row c.args.spread.now w (slice_index_or c.args.dups.now w 0) in
    exit_vec _ _ (each_word 0 (distinct_word c.args.list.now c.args.row c.args.spread.now) c.args.dups.now) _ _ c.from_residual-in_err-push.ensures.1
    (along_memory _ _ _ _ (range_next f _ _ _ _ c.loop-word.word (length c.args.dups.now) c.loop-word-test.true c.loop-word.invariant.along _ _ _ c.in_ok-dup.ensures.made refl))

pub loop-word-preserved : goal.loop-word-preserved
loop-word-preserved c =
    let f : ℕ → Making ℕ = λ w. distinct_word c.args.list.now c.args.row c.args.spread.now w (slice_index_or c.args.dups.now w 0) in
    let along = range_next f _ _ _ _ c.loop-word.word (length c.args.dups.now) c.loop-word-test.true c.loop-word.invariant.along _ _ _ c.in_ok-dup.ensures.made c.in_ok-push.ensures.items in
    record {
      along = along;
      longer = extends_longer _ _ along.stands;
      there = push_there _ _ _ _ c.in_ok-push.ensures.items c.in_ok-dup.ensures.made c.loop-word.invariant.there c.in_ok-dup.ensures.there;
      count = pushed_count _ _ _ _ c.in_ok-push.ensures.items c.loop-word.invariant.count;
    }

pub returns-clause-made : goal.returns-clause-made
returns-clause-made c =
    let f : ℕ → Making ℕ = λ w. distinct_word c.args.list.now c.args.row c.args.spread.now w (slice_index_or c.args.dups.now w 0) in
    range_end f _ _ _ _ c.loop-word.word (length c.args.dups.now) c.loop-word-test.false c.loop-word.invariant.along
