use Rattle.pdn_query.proofs.Gathers.{all_judged}
use Rattle.pdn_query.proofs.Judges.{judged_wrong}
use Rattle.pdn_query.proofs.judging.judged.Goals as goal

pub returns-in-None-clause-came : goal.returns-in-None-clause-came
returns-in-None-clause-came c = λ w next. all_judged w c.args.schema.now c.args.site c.args.tables.now next c.in-None.ensures

pub returns-in-Some-clause-came : goal.returns-in-Some-clause-came
returns-in-Some-clause-came c = λ w next. judged_wrong w c.args.schema.now c.args.site c.args.tables.now next c.in-Some.table c.in-Some.cause _ c.requires.count c.in-Some.ensures c.wrong_rows.ensures
