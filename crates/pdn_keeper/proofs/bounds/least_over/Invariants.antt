use Rattle.pdn_keeper.proofs.BoundLaws.{LeastSoFar}
use Rattle.pdn_keeper.proofs.bounds.least_over.Given as goal

abbrev pub invariant-loop-row : goal.invariant-loop-row
invariant-loop-row l = LeastSoFar l.column l.per l.rows l.row-index l.least
