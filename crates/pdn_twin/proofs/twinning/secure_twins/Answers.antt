use mir.Syntax.{named}
use denote.Exit.{no}
use denote.Param.Send.{param_sync, arg_sync}
use Rattle.std.proofs.Common.{◌∙◌}
use Rattle.pdn_twin.proofs.WorldLaws.{same_units}
use Rattle.pdn_twin.proofs.Crossing.{job_sync}
use Rattle.pdn_twin.proofs.TwinLaws.{twins_given}
use Rattle.pdn_twin.proofs.twinning.secure_twins.Goals as goal

pub secure_jobs-requires-after_bounds : goal.secure_jobs-requires-after_bounds
secure_jobs-requires-after_bounds g c κs within = same_units c.args.worlds.now.site c.args.worlds.now.first c.args.worlds.now.second c.requires.alike

pub run_all-requires-sync-J : goal.run_all-requires-sync-J
run_all-requires-sync-J g c κs within = param_sync 1 _ (arg_sync _ no _ (job_sync (record { mir = named 3; lft = _ }) _ _ c.type_bounds.sync-D))

pub returns : goal.returns
returns g c = twins_given c.as_slice.result.now _ c.run_all.result c.run_all.ensures.count c.run_all.ensures.each (c.as_slice.ensures.value ∙ c.in_ok-jobs.ensures)
