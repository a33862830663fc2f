use Rattle.std.proofs.Common.{ap, ◌∙◌, arith}
use Rattle.pdn_tree.specs.declared.node.Node.TheVariants as node
use Rattle.pdn_plan.proofs.Capping.{deepened_more}
use Rattle.pdn_plan.proofs.block.+deepened.Goals as goal

pub returns : goal.returns
returns t c = c.in_ok-deeper.ensures ∙ ap node.Distinct c.in_ok-child.ensures ∙ deepened_more c.args.count c.args.tree (omega (arith, c.if-count-eq0.false))
