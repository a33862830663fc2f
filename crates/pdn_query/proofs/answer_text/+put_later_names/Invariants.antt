use Rattle.std.proofs.Common.{length}
use Rattle.pdn_query.proofs.answer_text.+put_later_names.Given as goal

abbrev pub decreases-put_later_names : goal.decreases-put_later_names
decreases-put_later_names l = length l.columns.now
