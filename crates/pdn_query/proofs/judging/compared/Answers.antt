use Rattle.pdn_agree.specs.Spots.{as_leaf}
use Rattle.pdn_query.proofs.Judges.{found_same, found_apart}
use Rattle.pdn_query.proofs.judging.compared.Goals as goal

pub returns-in-None-clause-came : goal.returns-in-None-clause-came
returns-in-None-clause-came c = λ w next. found_same w c.args.schema.now c.args.first.now c.args.second.now next c.in-None.ensures

pub returns-in-Some-clause-came : goal.returns-in-Some-clause-came
returns-in-Some-clause-came c = λ w next. found_apart w c.args.schema.now c.args.first.now c.args.second.now next (as_leaf c.in-Some.spot) _ c.in-Some.ensures c.disagreeing.ensures
