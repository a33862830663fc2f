use Rattle.std.proofs.Common.{length, List, ℕ}
use Rattle.pdn_circuit.specs.Blocks.{Making, add_bit_gates}
use Rattle.pdn_circuit.proofs.Making.{exit_tries, along_begin, along_next, along_stops, along_last, along_last_stops, stops}
use Rattle.pdn_obl_rank.specs.Numbers.{hit_gates, against_gates}
use Rattle.pdn_obl_rank.proofs.hits.against.Goals as goal

pub returns-in_err-hit-clause-made : goal.returns-in_err-hit-clause-made
returns-in_err-hit-clause-made c =
    let whole : Making (List ℕ) = against_gates c.args.compared.now c.args.lanes.now.valid c.args.lanes.now.part c.args.lanes.now.key c.args.row c.args.word c.args.counter.now in
    exit_tries _ _ whole _ _ c.from_residual.ensures.1
    (along_stops _ _ _ whole (hit_gates c.args.compared.now c.args.lanes.now.valid c.args.lanes.now.part c.args.lanes.now.key c.args.row c.args.word) (λ hit. add_bit_gates c.args.counter.now hit) _ (along_begin _ whole) c.in_err-hit.ensures.made)

pub returns-in_err-bits-clause-made : goal.returns-in_err-bits-clause-made
returns-in_err-bits-clause-made c =
    let whole : Making (List ℕ) = against_gates c.args.compared.now c.args.lanes.now.valid c.args.lanes.now.part c.args.lanes.now.key c.args.row c.args.word c.args.counter.now in
    exit_tries _ _ whole _ _ c.from_residual-in_err-bits.ensures.1
    (along_last_stops _ _ _ whole (add_bit_gates c.args.counter.now c.in_ok-hit.hit) _
    (along_next _ _ _ whole (hit_gates c.args.compared.now c.args.lanes.now.valid c.args.lanes.now.part c.args.lanes.now.key c.args.row c.args.word) (λ hit. add_bit_gates c.args.counter.now hit) _ (along_begin _ whole) c.in_ok-hit.ensures.made)
    (stops _ _ (add_bit_gates c.args.counter.now c.in_ok-hit.hit (length c.hit.new.b.gates)) _ c.in_err-bits.ensures.made))

pub returns-clause-made : goal.returns-clause-made
returns-clause-made c =
    let whole : Making (List ℕ) = against_gates c.args.compared.now c.args.lanes.now.valid c.args.lanes.now.part c.args.lanes.now.key c.args.row c.args.word c.args.counter.now in
    along_last _ _ _ whole (add_bit_gates c.args.counter.now c.in_ok-hit.hit) _
    (along_next _ _ _ whole (hit_gates c.args.compared.now c.args.lanes.now.valid c.args.lanes.now.part c.args.lanes.now.key c.args.row c.args.word) (λ hit. add_bit_gates c.args.counter.now hit) _ (along_begin _ whole) c.in_ok-hit.ensures.made)
    c.in_ok-bits.ensures.made
