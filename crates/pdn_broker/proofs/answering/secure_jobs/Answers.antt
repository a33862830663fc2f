use Rattle.pdn_broker.specs.Units.{is_secure}
use Rattle.pdn_broker.specs.Running.{secure_run}
use Rattle.pdn_broker.proofs.PreparedLaws.{pushed_more}
use Rattle.pdn_broker.proofs.answering.secure_jobs.Goals as goal

pub loop-k-preserved : goal.loop-k-preserved
loop-k-preserved g c =
    pushed_more (secure_run c.args.prepared.now (g.D.Deal.tape c.args.deal.now) c.args.ticket) is_secure c.args.prepared.now.units c.loop-k.k c.loop-k.jobs.items c.push_job.new.jobs.items c.loop-k.invariant c.in_ok-push_job.ensures
