use Rattle.std.proofs.Common.{arith, List, ℕ}
use Rattle.std.specs.Prelude.{slice_index}
use Rattle.pdn_circuit.specs.Blocks.{Making}
use Rattle.pdn_circuit.proofs.Making.{exit_tries, extends_longer}
use Rattle.pdn_obl_rows.specs.Conditions.{and_gates}
use Rattle.pdn_obl_rank.specs.Tops.{cleared_gates}
use Rattle.pdn_obl_rank.proofs.Looping.{loop_begin, loop_refuses, loop_next, loop_memory, loop_end, gates_none, gates_push, makes_rises, range_at, range_in, range_end}
use Rattle.pdn_obl_rank.proofs.limiting.cleared_plane.Goals as goal

abbrev word_gates : List ℕ → List ℕ → ℕ → Making ℕ
word_gates valid plane = λ w. and_gates (slice_index valid w) (slice_index plane w)

pub loop-word-init : goal.loop-word-init
loop-word-init c = record { along = loop_begin (word_gates c.args.valid.now c.args.plane.now) _ _ _ c.new-words.ensures.items; longer = omega arith; there = gates_none _ _ c.new-words.ensures.items }

pub returns-in_err-gate-clause-made : goal.returns-in_err-gate-clause-made
returns-in_err-gate-clause-made c =
    exit_tries _ _ (cleared_gates c.args.valid.now c.args.plane.now) _ _ c.from_residual.ensures.1
    (loop_refuses (word_gates c.args.valid.now c.args.plane.now) _ _ _ _ _ c.loop-word.word 0 (range_at _ _ c.loop-word-test.true) (range_in _ _ c.loop-word-test.true) c.loop-word.invariant.along _ _ c.in_err-gate.ensures.made)

pub returns-in_err-push-clause-made : goal.returns-in_err-push-clause-made
returns-in_err-push-clause-made c =
    exit_tries _ _ (cleared_gates c.args.valid.now c.args.plane.now) _ _ c.from_residual-in_err-push.ensures.1
    (loop_memory (word_gates c.args.valid.now c.args.plane.now) _ _ _ _ _ c.loop-word.word 0 (range_at _ _ c.loop-word-test.true) (range_in _ _ c.loop-word-test.true) c.loop-word.invariant.along _ _ c.in_ok-gate.ensures.made)

pub loop-word-preserved : goal.loop-word-preserved
loop-word-preserved c =
    let along = loop_next (word_gates c.args.valid.now c.args.plane.now) _ _ _ _ _ c.loop-word.word 0 (range_at _ _ c.loop-word-test.true) (range_in _ _ c.loop-word-test.true) c.loop-word.invariant.along _ _ _ c.in_ok-gate.ensures.made c.in_ok-push.ensures.items in
    let rises = makes_rises _ _ _ _ c.in_ok-gate.ensures.made in
    record {
      along = along;
      longer = extends_longer _ _ along.stands;
      there = gates_push _ _ rises _ _ _ c.loop-word.invariant.there c.in_ok-gate.ensures.there c.in_ok-push.ensures.items;
    }

pub returns-clause-made : goal.returns-clause-made
returns-clause-made c = loop_end (word_gates c.args.valid.now c.args.plane.now) _ _ _ c.loop-word.word _ (range_end _ _ c.loop-word-test.false) c.loop-word.invariant.along
