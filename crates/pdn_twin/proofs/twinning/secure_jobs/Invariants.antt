use Rattle.std.proofs.Common.{◌≡◌, map}
use Rattle.pdn_broker.specs.Units.{is_secure, numbers_upto}
use Rattle.pdn_twin.specs.UnitTwins.{secure_twin}
use Rattle.pdn_twin.proofs.twinning.secure_jobs.Given as goal

abbrev pub invariant-loop-unit : goal.invariant-loop-unit
invariant-loop-unit g l =
    l.jobs.items ≡ map (secure_twin l.worlds.site l.worlds.first l.worlds.second (g.D.Deal.tape l.deal) l.ticket) (numbers_upto is_secure l.worlds.first.units l.unit)
