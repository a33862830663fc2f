use Rattle.std.proofs.Common.{length}
use Rattle.pdn_view.proofs.TextLaws.{Read}
use Rattle.pdn_view.proofs.reading.read_view.Given as goal

abbrev pub invariant-loop-front : goal.invariant-loop-front
invariant-loop-front l = Read l.bytes l.state l.rest l.line

abbrev pub decreases-loop-front : goal.decreases-loop-front
decreases-loop-front l = length l.rest
