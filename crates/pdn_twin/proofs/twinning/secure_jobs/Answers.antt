use Rattle.pdn_broker.specs.Units.{is_secure}
use Rattle.pdn_broker.proofs.PreparedLaws.{pushed_more}
use Rattle.pdn_twin.specs.UnitTwins.{secure_twin}
use Rattle.pdn_twin.proofs.twinning.secure_jobs.Goals as goal

pub loop-unit-preserved : goal.loop-unit-preserved
loop-unit-preserved g c =
    pushed_more (secure_twin c.args.worlds.now.site c.args.worlds.now.first c.args.worlds.now.second (g.D.Deal.tape c.args.deal.now) c.args.ticket) is_secure c.args.worlds.now.first.units c.loop-unit.unit c.loop-unit.jobs.items
    c.push_job.new.jobs.items c.loop-unit.invariant c.in_ok-push_job.ensures
