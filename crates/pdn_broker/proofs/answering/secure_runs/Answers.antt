use Rattle.std.proofs.Common.{◌∙◌}
use Rattle.pdn_broker.proofs.PreparedLaws.{runs_given}
use Rattle.pdn_broker.proofs.answering.secure_runs.Goals as goal

pub returns : goal.returns
returns g c = runs_given c.as_slice.result.now _ c.run_all.result c.run_all.ensures.count c.run_all.ensures.each (c.as_slice.ensures.value ∙ c.in_ok-jobs.ensures)
