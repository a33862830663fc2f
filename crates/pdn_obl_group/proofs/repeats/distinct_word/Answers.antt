use Rattle.std.proofs.Common.{◌≡◌, ◌<◌, ◌≤◌, ◌+◌, ◌*◌, ℕ, arith, subst, sym, length}
use Rattle.std.proofs.lemmas.Bool.{cond-true, cond-false, lt-ltb, le-ltb}
use Rattle.pdn_circuit.specs.Blocks.{Making, gives, ◌>>=◌}
use Rattle.pdn_circuit.specs.Building.{Makes}
use Rattle.pdn_circuit.proofs.Making.{exit_tries, makes_none}
use Rattle.pdn_obl_rows.specs.Lists.{PaddedList}
use Rattle.pdn_obl_rows.proofs.Walks.{first_stops, second_tries}
use Rattle.pdn_obl_group.specs.Loops.{SpreadRow, match_gates, goes_past, mark_later}
use Rattle.pdn_obl_group.specs.Operators.{distinct_word}
use Rattle.pdn_obl_group.proofs.repeats.distinct_word.Goals as goal

past_is : (list : PaddedList) (j : ℕ) (row : SpreadRow) (w dup : ℕ) → j < 64 * w + 63 → distinct_word list j row w dup ≡ (match_gates list row w >>= λ hit. mark_later w j hit dup)
past_is list j row w dup h = cond-true (goes_past w j) _ _ (lt-ltb j (64 * w + 63) h)

before_is : (list : PaddedList) (j : ℕ) (row : SpreadRow) (w dup : ℕ) → 64 * w + 63 ≤ j → distinct_word list j row w dup ≡ gives dup
before_is list j row w dup h = cond-false (goes_past w j) _ _ (le-ltb j (64 * w + 63) h)

pub returns-in_err-hit-clause-made : goal.returns-in_err-hit-clause-made
returns-in_err-hit-clause-made c =
    let list = c.args.list.now in
    exit_tries _ _ (distinct_word list c.args.row c.args.spread.now c.args.word c.args.dup) _ _ c.from_residual.ensures.1
    (first_stops _ _ (match_gates list c.args.spread.now c.args.word) (λ hit. mark_later c.args.word c.args.row hit c.args.dup)
    (past_is list c.args.row c.args.spread.now c.args.word c.args.dup (omega (arith, c.if-from-word.true, c.from.ensures))) _ _ c.in_err-hit.ensures.made)

pub returns-in_ok-hit-clause-made : goal.returns-in_ok-hit-clause-made
returns-in_ok-hit-clause-made c =
    let list = c.args.list.now in
    second_tries _ _ (match_gates list c.args.spread.now c.args.word) (λ hit. mark_later c.args.word c.args.row hit c.args.dup)
    (past_is list c.args.row c.args.spread.now c.args.word c.args.dup (omega (arith, c.if-from-word.true, c.from.ensures))) _ _ _ _ c.in_ok-hit.ensures.made c.mark_later.ensures.made

pub returns-else-from-word-clause-made : goal.returns-else-from-word-clause-made
returns-else-from-word-clause-made c =
    let made = c.args.b.now in
    subst (λ (m : Making ℕ). Makes made made (m (length made.gates)) c.args.dup) (sym (before_is c.args.list.now c.args.row c.args.spread.now c.args.word c.args.dup (omega (arith, c.if-from-word.false, c.from.ensures)))) (makes_none made c.args.dup)
