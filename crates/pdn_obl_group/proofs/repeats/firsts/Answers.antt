use Rattle.std.proofs.Common.{ℕ, arith, refl, length}
use Rattle.std.specs.Prelude.{slice_index_or}
use Rattle.pdn_circuit.specs.Blocks.{Making}
use Rattle.pdn_circuit.proofs.Making.{extends_longer, along_memory}
use Rattle.pdn_obl_rows.proofs.Walks.{range_begin, range_stops, range_next, range_end}
use Rattle.pdn_obl_group.specs.Loops.{each_word}
use Rattle.pdn_obl_group.specs.Operators.{unmarked}
use Rattle.pdn_obl_group.proofs.Steps.{exit_vec, none_there, push_there}
use Rattle.pdn_obl_group.proofs.repeats.firsts.Goals as goal

pub loop-word-init : goal.loop-word-init
loop-word-init c = record {
  along = range_begin (λ w. unmarked c.args.list.now.valid w (slice_index_or c.args.dups.now w 0)) c.args.b.now (length c.args.dups.now) _ c.new-words.ensures.items;
  longer = omega arith;
  there = none_there _ _ c.new-words.ensures.items;
}

pub returns-in_err-first-clause-made : goal.returns-in_err-first-clause-made
returns-in_err-first-clause-made c =
    let f : ℕ → Making ℕ = λ w. unmarked c.args.list.now.valid w (slice_index_or c.args.dups.now w 0) in
    exit_vec _ _ (each_word 0 (unmarked c.args.list.now.valid) c.args.dups.now) _ _ c.from_residual.ensures.1
    (range_stops f _ _ _ _ c.loop-word.word (length c.args.dups.now) c.loop-word-test.true c.loop-word.invariant.along _ _ c.in_err-first.ensures.made)

pub returns-in_err-push-clause-made : goal.returns-in_err-push-clause-made
returns-in_err-push-clause-made c =
    let f : ℕ → Making ℕ = λ w. unmarked c.args.list.now.valid w (slice_index_or c.args.dups.now w 0) in
    exit_vec _ _ (each_word 0 (unmarked c.args.list.now.valid) c.args.dups.now) _ _ c.from_residual-in_err-push.ensures.1
    (along_memory _ _ _ _ (range_next f _ _ _ _ c.loop-word.word (length c.args.dups.now) c.loop-word-test.true c.loop-word.invariant.along _ _ _ c.in_ok-first.ensures.made refl))

pub loop-word-preserved : goal.loop-word-preserved
loop-word-preserved c =
    let f : ℕ → Making ℕ = λ w. unmarked c.args.list.now.valid w (slice_index_or c.args.dups.now w 0) in
    let along = range_next f _ _ _ _ c.loop-word.word (length c.args.dups.now) c.loop-word-test.true c.loop-word.invariant.along _ _ _ c.in_ok-first.ensures.made c.in_ok-push.ensures.items in
    record {
      along = along;
      longer = extends_longer _ _ along.stands;
      there = push_there _ _ _ _ c.in_ok-push.ensures.items c.in_ok-first.ensures.made c.loop-word.invariant.there c.in_ok-first.ensures.there;
    }

pub returns-clause-made : goal.returns-clause-made
returns-clause-made c =
    let f : ℕ → Making ℕ = λ w. unmarked c.args.list.now.valid w (slice_index_or c.args.dups.now w 0) in
    range_end f _ _ _ _ c.loop-word.word (length c.args.dups.now) c.loop-word-test.false c.loop-word.invariant.along
