use Rattle.std.proofs.Common.{◌≡◌, map}
use Rattle.pdn_broker.specs.Units.{is_secure, numbers_upto}
use Rattle.pdn_broker.specs.Running.{secure_run}
use Rattle.pdn_broker.proofs.answering.secure_jobs.Given as goal

abbrev pub invariant-loop-k : goal.invariant-loop-k
invariant-loop-k g l = l.jobs.items ≡ map (secure_run l.prepared (g.D.Deal.tape l.deal) l.ticket) (numbers_upto is_secure l.prepared.units l.k)
