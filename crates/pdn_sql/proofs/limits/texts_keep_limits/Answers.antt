use Rattle.pdn_sql.proofs.LimitLaws.{file_keeps}
use Rattle.pdn_sql.proofs.limits.texts_keep_limits.Goals as goal

pub returns : goal.returns
returns c = file_keeps c.args.most c.args.bytes.now
