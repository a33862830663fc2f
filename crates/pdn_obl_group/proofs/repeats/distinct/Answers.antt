use Rattle.std.proofs.Common.{◌∙◌, ℕ, List, replicate, ap, refl, subst, length}
use Rattle.std.specs.Prelude.{slice_index_or}
use Rattle.pdn_circuit.specs.Blocks.{Making, gives, ◌>>=◌}
use Rattle.pdn_circuit.specs.Building.{Makes, Stops}
use Rattle.pdn_circuit.proofs.Making.{exit_tries}
use Rattle.pdn_obl_rows.specs.Lists.{PaddedList}
use Rattle.pdn_obl_rows.specs.Operators.{with_valid}
use Rattle.pdn_obl_rows.proofs.Walks.{first_stops, second_stops, second_made, last_gives, range_count}
use Rattle.pdn_obl_group.specs.Loops.{in_turn, each_word}
use Rattle.pdn_obl_group.specs.Operators.{distinct_row, unmarked, distinct_gates}
use Rattle.pdn_obl_group.proofs.repeats.distinct.Goals as goal

abbrev marks_of : PaddedList → Making (List ℕ)
marks_of list = in_turn (distinct_row list) 0 list.len (replicate (length list.valid) 0)

abbrev firsts_of : PaddedList → List ℕ → Making (List ℕ)
firsts_of list dups = each_word 0 (unmarked list.valid) dups

pub returns-in_err-dups-clause-made : goal.returns-in_err-dups-clause-made
returns-in_err-dups-clause-made c =
    let list = c.args.list.now in
    exit_tries _ _ (distinct_gates list) _ _ c.from_residual.ensures.1
    (first_stops _ _ (marks_of list) (λ dups. firsts_of list dups >>= λ valid. gives (with_valid list valid)) refl _ _ c.in_err-dups.ensures.made)

pub returns-in_err-valid-clause-made : goal.returns-in_err-valid-clause-made
returns-in_err-valid-clause-made c =
    let list = c.args.list.now in
    exit_tries _ _ (distinct_gates list) _ _ c.from_residual-in_err-valid.ensures.1
    (second_stops _ _ (marks_of list) (firsts_of list) (λ dups valid. gives (with_valid list valid)) refl _ _ _ _ c.in_ok-dups.ensures.made
    (subst (λ (ds : List ℕ). Stops c.marked.new.b c.firsts.new.b (firsts_of list ds (length c.marked.new.b.gates)) c.in_err-valid.field-0.0) c.deref.ensures.value c.in_err-valid.ensures.made))

pub with_valid-requires : goal.with_valid-requires
with_valid-requires c =
    range_count (λ w. unmarked c.args.list.now.valid w (slice_index_or c.deref.result.now w 0)) (length c.deref.result.now) _ _ _ c.in_ok-valid.ensures.made
    ∙ ap length c.deref.ensures.value ∙ c.in_ok-dups.ensures.count

pub returns-in-Ok-clause-made : goal.returns-in-Ok-clause-made
returns-in-Ok-clause-made c =
    let list = c.args.list.now in
    last_gives _ _ (distinct_gates list) (with_valid list c.in_ok-valid.valid.items) _
    (second_made _ _ (marks_of list) (firsts_of list) (λ dups valid. gives (with_valid list valid)) refl _ _ _ _ c.in_ok-dups.ensures.made
    (subst (λ (ds : List ℕ). Makes c.marked.new.b c.firsts.new.b (firsts_of list ds (length c.marked.new.b.gates)) c.in_ok-valid.valid.items) c.deref.ensures.value c.in_ok-valid.ensures.made))
    c.in-Ok.ensures
