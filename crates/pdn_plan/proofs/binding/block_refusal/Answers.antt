use Rattle.std.proofs.Common.{rules}
use Rattle.pdn_plan.proofs.RefusalLaws.{block_later}
use Rattle.pdn_plan.proofs.binding.block_refusal.Goals as goal

pub returns : goal.returns
returns c = block_later c.args.schema.now c.args.earlier.now c.args.block.now c.in_ok-of_sources.of_sources c.in_ok-later.later c.args.scope.now c.args.bound.now c.joins_below-joins.result
    (search rules) (search rules) c.requires.scope c.requires.bound c.joins_below-joins.ensures c.in_ok-later.ensures
