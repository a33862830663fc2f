use Rattle.std.proofs.Common.{◌≡◌, map}
use Rattle.pdn_broker.specs.Units.{is_dealt, numbers_upto}
use Rattle.pdn_broker.proofs.units.dealt_sections.Given as goal

abbrev pub invariant-loop-k : goal.invariant-loop-k
invariant-loop-k l = l.dealt.items ≡ map (λ u. record { ticket = l.ticket; unit = u }) (numbers_upto is_dealt l.units l.k)
