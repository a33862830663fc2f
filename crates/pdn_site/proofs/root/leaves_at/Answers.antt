use Rattle.std.proofs.Common.{rules}
use Rattle.pdn_site.proofs.Standing.{leaves_by, stands_within}
use Rattle.pdn_site.proofs.root.leaves_at.Goals as goal

pub returns-clause-leaves : goal.returns-clause-leaves
returns-clause-leaves c = leaves_by c.args.schema.now c.args.staged.now c.args.top.now c.args.segment c.segment_at-found.result.now c.as_slice.result.now c.requires.stands c.requires.level (search rules) (search rules)

pub returns-clause-within : goal.returns-clause-within
returns-clause-within c = stands_within c.args.schema.now c.args.staged.now c.args.top.now c.args.segment c.requires.stands c.requires.level
