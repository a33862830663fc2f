use Rattle.std.proofs.Common.{◌≡◌, ◌∙◌, ◌<◌, ◌≤◌, ◌+◌, ◌*◌, ℕ, List, ltb, arith, subst, sym, length}
use Rattle.std.proofs.lemmas.Bool.{cond-true, cond-false, lt-ltb, le-ltb}
use Rattle.pdn_circuit.specs.Blocks.{Making, gives, ◌>>=◌}
use Rattle.pdn_circuit.specs.Building.{Makes}
use Rattle.pdn_circuit.proofs.Making.{makes_none}
use Rattle.pdn_obl_rows.specs.Lists.{PaddedList}
use Rattle.pdn_obl_rows.proofs.Walks.{first_stops, first_made}
use Rattle.pdn_obl_group.specs.Loops.{row_gates, each_word}
use Rattle.pdn_obl_group.specs.Operators.{distinct_word, distinct_row}
use Rattle.pdn_obl_group.proofs.Steps.{exit_vec, last_vec, few_words}
use Rattle.pdn_obl_group.proofs.repeats.distinct_row.Goals as goal

some_after : (list : PaddedList) (j : ℕ) (dups : List ℕ) → j + 1 < 64 * length dups → distinct_row list j dups ≡ (row_gates list j >>= λ row. each_word 0 (distinct_word list j row) dups)
some_after list j dups h = cond-true (ltb (j + 1) (64 * length dups)) _ _ (lt-ltb (j + 1) (64 * length dups) h)

none_after : (list : PaddedList) (j : ℕ) (dups : List ℕ) → 64 * length dups ≤ j + 1 → distinct_row list j dups ≡ gives dups
none_after list j dups h = cond-false (ltb (j + 1) (64 * length dups)) _ _ (le-ltb (j + 1) (64 * length dups) h)

pub overflow_mul-dups : goal.overflow_mul-dups
overflow_mul-dups c =
    let shaped = c.rows-shaped.ensures.shaped in
    omega (arith, few_words c.args.list.now.len (length c.args.dups.now) (omega (arith, c.rows-shaped.type_inv, c.rows-shaped.ensures.length)) (c.requires.count ∙ shaped.valid))

pub returns-in_err-spread-clause-made : goal.returns-in_err-spread-clause-made
returns-in_err-spread-clause-made c =
    let list = c.args.list.now in
    exit_vec _ _ (distinct_row list c.args.row c.args.dups.now) _ _ c.from_residual.ensures.1
    (first_stops _ _ (row_gates list c.args.row) (λ row. each_word 0 (distinct_word list c.args.row row) c.args.dups.now) (some_after list c.args.row c.args.dups.now (omega (arith, c.if-from-dups.true, c.from.ensures))) _ _ c.in_err-spread.ensures.made)

pub distinct_words-requires-clause-few : goal.distinct_words-requires-clause-few
distinct_words-requires-clause-few c =
    let shaped = c.rows-shaped.ensures.shaped in
    omega (arith, few_words c.args.list.now.len (length c.args.dups.now) (omega (arith, c.rows-shaped.type_inv, c.rows-shaped.ensures.length)) (c.requires.count ∙ shaped.valid))

pub returns-in_ok-spread-clause-made : goal.returns-in_ok-spread-clause-made
returns-in_ok-spread-clause-made c =
    let list = c.args.list.now in
    last_vec _ _ _ (distinct_row list c.args.row c.args.dups.now) (each_word 0 (distinct_word list c.args.row c.in_ok-spread.spread) c.args.dups.now) _
    (first_made _ _ (row_gates list c.args.row) (λ row. each_word 0 (distinct_word list c.args.row row) c.args.dups.now) (some_after list c.args.row c.args.dups.now (omega (arith, c.if-from-dups.true, c.from.ensures))) _ _ c.in_ok-spread.ensures.made)
    c.distinct_words.ensures.made

pub returns-in_ok-same-clause-made : goal.returns-in_ok-same-clause-made
returns-in_ok-same-clause-made c =
    let made = c.args.b.now in
    subst (λ (m : Making (List ℕ)). Makes made made (m (length made.gates)) c.in_ok-same.same.items) (sym (none_after c.args.list.now c.args.row c.args.dups.now (omega (arith, c.if-from-dups.false, c.from.ensures))))
    (subst (λ (xs : List ℕ). Makes made made (gives xs (length made.gates)) c.in_ok-same.same.items) c.in_ok-same.ensures.items (makes_none made c.in_ok-same.same.items))
