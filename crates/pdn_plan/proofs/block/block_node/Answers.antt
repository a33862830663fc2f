use Rattle.std.proofs.Common.{rules}
use Rattle.pdn_plan.proofs.RefusalLaws.{block_node_is}
use Rattle.pdn_plan.proofs.block.block_node.Goals as goal

pub returns : goal.returns
returns c = block_node_is c.args.scope.now c.args.bounds.now c.args.block.now c.in_ok-kept.kept.items c.in_ok-step.step c.in_ok-chosen.chosen c.in_ok-tree.tree c.in_ok-cut.cut c.in_ok-node.node c.in_ok-items.items.items c.in_ok-width.width
    (search rules) (search rules) (search rules) (search rules) (search rules) (search rules) (search rules) (search rules)
