use Rattle.std.proofs.Common.{length}
use Rattle.pdn_http.proofs.fields.+body_size.Given as goal

abbrev pub decreases-body_size : goal.decreases-body_size
decreases-body_size l = length l.lines.now
