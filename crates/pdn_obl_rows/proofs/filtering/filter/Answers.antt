use Rattle.std.proofs.Common.{length, refl, subst, List, ℕ}
use Rattle.std.specs.List.{range_with_len}
use Rattle.pdn_base.specs.declared.cond.Cmp.{Cmp}
use Rattle.pdn_circuit.specs.Blocks.{each, gives}
use Rattle.pdn_circuit.specs.Building.{Makes, Stops}
use Rattle.pdn_circuit.proofs.Making.{exit_tries}
use Rattle.pdn_obl_rows.specs.Operators.{filter_word, filter_gates, with_valid}
use Rattle.pdn_obl_rows.proofs.Walks.{first_stops, first_made, last_gives, range_count}
use Rattle.pdn_obl_rows.proofs.filtering.filter.Goals as goal

pub returns-in_err-valid-clause-made : goal.returns-in_err-valid-clause-made
returns-in_err-valid-clause-made c =
    let list = c.args.list.now in
    let count = length list.valid in
    exit_tries _ _ (filter_gates list c.args.cond.now) _ _ c.from_residual.ensures.1
    (first_stops _ _ (each (filter_word list c.args.cond.now) (range_with_len 0 count)) (λ valid. gives (with_valid list valid)) refl _ _
    (subst (λ (on : List (List Cmp)). Stops c.args.b.now c.filter_words.new.b (each (filter_word list on) (range_with_len 0 count) (length c.args.b.now.gates)) c.in_err-valid.field-0.0) c.clauses.ensures c.in_err-valid.ensures.made))

pub with_valid-requires : goal.with_valid-requires
with_valid-requires c = range_count (filter_word c.args.list.now c.clauses.result.now) (length c.args.list.now.valid) _ _ _ c.in_ok-valid.ensures.made

pub returns-in-Ok-clause-made : goal.returns-in-Ok-clause-made
returns-in-Ok-clause-made c =
    let list = c.args.list.now in
    let count = length list.valid in
    last_gives _ _ (filter_gates list c.args.cond.now) (with_valid list c.in_ok-valid.valid.items) _
    (first_made _ _ (each (filter_word list c.args.cond.now) (range_with_len 0 count)) (λ valid. gives (with_valid list valid)) refl _ _
    (subst (λ (on : List (List Cmp)). Makes c.args.b.now c.filter_words.new.b (each (filter_word list on) (range_with_len 0 count) (length c.args.b.now.gates)) c.in_ok-valid.valid.items) c.clauses.ensures c.in_ok-valid.ensures.made))
    c.in-Ok.ensures
