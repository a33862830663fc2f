use Rattle.std.proofs.Common.{◌≡◌}
use Rattle.pdn_obl_rows.specs.Encoding.{planes_from}
use Rattle.pdn_site.proofs.laying.planes_from.Given as goal

abbrev pub invariant-loop-k : goal.invariant-loop-k
invariant-loop-k l = l.planes.items ≡ planes_from l.first l.words l.k
