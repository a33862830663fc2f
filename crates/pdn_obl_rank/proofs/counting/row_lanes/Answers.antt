use Rattle.std.proofs.Common.{◌∙◌, ◌++◌, ◌/◌, refl, sym, subst, List, ℕ}
use Rattle.pdn_circuit.proofs.Making.{exit_tries}
use Rattle.pdn_obl_rank.specs.Numbers.{lanes_gates}
use Rattle.pdn_obl_rank.specs.Building.{ColumnsReach}
use Rattle.pdn_obl_rank.proofs.LaneSteps.{no_valid, no_row, lanes_made, made_there, places_within}
use Rattle.pdn_obl_rank.proofs.counting.row_lanes.Goals as goal

pub returns-in_err-valid-clause-made : goal.returns-in_err-valid-clause-made
returns-in_err-valid-clause-made c =
    exit_tries _ _ (lanes_gates c.args.compared.now c.args.row) _ _ c.from_residual-in_err-valid.ensures.1 (no_valid _ c.args.compared.now c.args.row c.valid.result.now c.args.compared.now.columns (c.args.compared.now.partition ++ c.args.compared.now.key) c.valid.ensures refl refl _ _ c.in_err-valid.ensures.made)

pub spread_used-requires-clause-row : goal.spread_used-requires-clause-row
spread_used-requires-clause-row c = let t = c.requires.there in subst (λ (cs : List (List (List ℕ))). ColumnsReach (c.args.row / 64) cs) (sym c.columns.ensures) (t.words (c.args.row / 64) c.requires.row)

pub returns-in_err-lanes-clause-made : goal.returns-in_err-lanes-clause-made
returns-in_err-lanes-clause-made c =
    exit_tries _ _ (lanes_gates c.args.compared.now c.args.row) _ _ c.from_residual-in_err-lanes.ensures.1 (no_row _ c.args.compared.now c.args.row c.valid.result.now c.columns.result.now c.as_slice.result.now c.valid.ensures c.columns.ensures (c.as_slice.ensures.value ∙ c.in_ok-used.ensures) _ _ c.in_ok-valid.ensures.made _ _ c.in_err-lanes.ensures.made)

pub lanes_of-requires-clause-partition : goal.lanes_of-requires-clause-partition
lanes_of-requires-clause-partition c = let t = c.requires.there in places_within _ c.args.compared.now c.args.row c.valid.result.now c.columns.result.now c.as_slice.result.now c.valid.ensures c.columns.ensures (c.as_slice.ensures.value ∙ c.in_ok-used.ensures) _ _ c.in_ok-valid.ensures.made _ _ c.in_ok-lanes.ensures.made t c.args.compared.now.partition _ c.as_slice-2.ensures.value t.partition_in

pub lanes_of-requires-clause-key : goal.lanes_of-requires-clause-key
lanes_of-requires-clause-key c = let t = c.requires.there in places_within _ c.args.compared.now c.args.row c.valid.result.now c.columns.result.now c.as_slice.result.now c.valid.ensures c.columns.ensures (c.as_slice.ensures.value ∙ c.in_ok-used.ensures) _ _ c.in_ok-valid.ensures.made _ _ c.in_ok-lanes.ensures.made t c.args.compared.now.key _ c.as_slice-2.ensures.value t.key_in

pub returns-clause-made : goal.returns-clause-made
returns-clause-made c = lanes_made _ c.args.compared.now c.args.row c.valid.result.now c.columns.result.now c.as_slice.result.now c.valid.ensures c.columns.ensures (c.as_slice.ensures.value ∙ c.in_ok-used.ensures) _ _ c.in_ok-valid.ensures.made _ _ c.in_ok-lanes.ensures.made c.requires.there _ _ c.as_slice-2.ensures.value c.in_ok-all.ensures

pub returns-clause-there : goal.returns-clause-there
returns-clause-there c = made_there _ c.args.compared.now c.args.row c.valid.result.now c.columns.result.now c.as_slice.result.now c.valid.ensures c.columns.ensures (c.as_slice.ensures.value ∙ c.in_ok-used.ensures) _ _ c.in_ok-valid.ensures.made _ _ c.in_ok-lanes.ensures.made c.requires.there _ _ c.as_slice-2.ensures.value c.in_ok-all.ensures c.in_ok-valid.ensures.there c.in_ok-lanes.ensures.there
