use Rattle.pdn_http.proofs.RouteLaws.{NoneBefore}
use Rattle.pdn_http.proofs.route.call_at.Given as goal

abbrev pub invariant-loop-at : goal.invariant-loop-at
invariant-loop-at l = NoneBefore l.callers l.path l.at
