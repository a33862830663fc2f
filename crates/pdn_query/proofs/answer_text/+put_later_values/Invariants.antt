use Rattle.std.proofs.Common.{length}
use Rattle.pdn_query.proofs.answer_text.+put_later_values.Given as goal

abbrev pub decreases-put_later_values : goal.decreases-put_later_values
decreases-put_later_values l = length l.values.now
