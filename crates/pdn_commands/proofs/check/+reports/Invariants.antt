use Rattle.std.proofs.Common.{length}
use Rattle.pdn_commands.proofs.check.+reports.Given as goal

abbrev pub decreases-reports : goal.decreases-reports
decreases-reports l = length l.queries.now
