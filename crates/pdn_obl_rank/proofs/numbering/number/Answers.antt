use Rattle.std.proofs.Common.{arith, ap, ap₂, ◌∙◌, replicate, length}
use Rattle.pdn_circuit.proofs.Making.{exit_tries}
use Rattle.pdn_obl_rows.specs.Lists.{PaddedList}
use Rattle.pdn_obl_group.specs.Loops.{no_count}
use Rattle.pdn_obl_rank.specs.Numbers.{number_gates}
use Rattle.pdn_obl_rank.proofs.NumberThere.{rows_fit, zeros_there, numbered_there}
use Rattle.pdn_obl_rank.proofs.Looping.{makes_rises}
use Rattle.pdn_circuit.proofs.Building.{two_there}
use Rattle.pdn_obl_group.proofs.Steps.{given_list}
use Rattle.pdn_obl_rank.proofs.NumberSteps.{not_compared, not_counted, numbered}
use Rattle.pdn_obl_rank.proofs.numbering.number.Goals as goal

pub count_rows-requires-clause-rows : goal.count_rows-requires-clause-rows
count_rows-requires-clause-rows c =
    let cmp = c.in_ok-compared.ensures.made in
    rows_fit c.args.list.now c.args.partition.now c.args.order.now _ _ _ (ap (λ (l : PaddedList). l.len) c.list.view_is) c.valid.ensures.shaped cmp.is

pub count_rows-requires-clause-counters : goal.count_rows-requires-clause-counters
count_rows-requires-clause-counters c = zeros_there _ (length c.valid.result.now) c.list.inside.len _ (two_there _ c.len-gates.ensures.kept.begins) c.in_ok-none.ensures.zero

pub returns-in_err-compared-clause-made : goal.returns-in_err-compared-clause-made
returns-in_err-compared-clause-made c =
    exit_tries _ _ (number_gates c.args.list.now c.args.partition.now c.args.order.now) _ _ c.from_residual-in_err-compared.ensures.1
    (not_compared _ c.args.list.now c.args.partition.now c.args.order.now _ _ c.in_err-compared.ensures.made)

pub returns-in_err-counters-clause-made : goal.returns-in_err-counters-clause-made
returns-in_err-counters-clause-made c =
    exit_tries _ _ (number_gates c.args.list.now c.args.partition.now c.args.order.now) _ _ c.from_residual-in_err-counters.ensures.1
    (not_counted _ c.args.list.now c.args.partition.now c.args.order.now _ _ c.in_ok-compared.ensures.made _ _ (ap (λ (l : PaddedList). l.len) c.list.view_is)
    (c.in_ok-none.ensures.zero ∙ ap₂ (λ m n. replicate m (no_count n)) (ap length c.valid.ensures.valid) (ap (λ (l : PaddedList). l.len) c.list.view_is)) _ _ c.in_err-counters.ensures.made)

pub returns-clause-made : goal.returns-clause-made
returns-clause-made c =
    numbered _ c.args.list.now c.args.partition.now c.args.order.now _ _ c.in_ok-compared.ensures.made _ _ (ap (λ (l : PaddedList). l.len) c.list.view_is)
    (c.in_ok-none.ensures.zero ∙ ap₂ (λ m n. replicate m (no_count n)) (ap length c.valid.ensures.valid) (ap (λ (l : PaddedList). l.len) c.list.view_is)) _ _ _ _ c.in_ok-counters.ensures.made c.as_slice.ensures.value
    c.with_counts.ensures.gives c.with_counts.ensures.memory

pub returns-clause-there : goal.returns-clause-there
returns-clause-there c =
    let cmp = c.in_ok-compared.ensures.made in
    let first = makes_rises _ _ _ _ cmp.made in
    let second = makes_rises _ _ _ _ c.in_ok-counters.ensures.made in
    let two = two_there _ c.len-gates.ensures.kept.begins in
    given_list _ _ _ (numbered_there c.args.b.now c.count_rows.new.b c.args.list.now _ c.as_slice.result.now (omega (arith, first, second)) (omega (arith, two, second)) c.requires.there c.in_ok-counters.ensures.there c.as_slice.ensures.value) c.with_counts.ensures.gives
