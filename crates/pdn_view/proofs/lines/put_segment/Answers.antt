use Rattle.std.proofs.Common.{rules, append_assoc}
use Rattle.pdn_view.proofs.LineLaws.{values_are}
use Rattle.pdn_view.proofs.lines.put_segment.Goals as goal

pub returns : goal.returns
returns c = rw (values_are c.args.site c.args.values.now) (search (rules, append_assoc))
