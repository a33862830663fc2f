use Rattle.std.proofs.Common.{[], List, ℕ}
use Rattle.pdn_circuit.specs.Blocks.{Making}
use Rattle.pdn_circuit.proofs.Making.{along_begin, along_next, along_stops}
use Rattle.pdn_obl_group.specs.Loops.{each_word}
use Rattle.pdn_obl_rank.specs.Numbers.{RowLanes, lanes_gates, against_gates, row_gates}
use Rattle.pdn_obl_rank.proofs.Looping.{exit_items, last_items}
use Rattle.pdn_obl_rank.proofs.counting.count_row.Goals as goal

pub returns-in_err-lanes-clause-made : goal.returns-in_err-lanes-clause-made
returns-in_err-lanes-clause-made c =
    let whole : Making (List (List ℕ)) = row_gates c.args.compared.now c.args.row c.args.counters.now in
    let rest : RowLanes → Making (List (List ℕ)) = λ l. each_word [] (against_gates c.args.compared.now l.valid l.part l.key c.args.row) c.args.counters.now in
    exit_items _ _ whole _ _ c.from_residual.ensures.1 (along_stops _ _ _ whole (lanes_gates c.args.compared.now c.args.row) rest _ (along_begin _ whole) c.in_err-lanes.ensures.made)

pub returns-clause-made : goal.returns-clause-made
returns-clause-made c =
    let whole : Making (List (List ℕ)) = row_gates c.args.compared.now c.args.row c.args.counters.now in
    let rest : RowLanes → Making (List (List ℕ)) = λ l. each_word [] (against_gates c.args.compared.now l.valid l.part l.key c.args.row) c.args.counters.now in
    last_items _ _ _ whole (rest c.in_ok-lanes.lanes) _ (along_next _ _ _ whole (lanes_gates c.args.compared.now c.args.row) rest _ (along_begin _ whole) c.in_ok-lanes.ensures.made) c.against_words.ensures.made
