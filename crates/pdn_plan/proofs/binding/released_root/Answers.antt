use Rattle.std.proofs.Common.{rules}
use Rattle.pdn_plan.proofs.BindingLaws.{root_one, plan_gives, columns_are}
use Rattle.pdn_plan.proofs.binding.released_root.Goals as goal

pub released_plan-requires-clause-one : goal.released_plan-requires-clause-one
released_plan-requires-clause-one c = root_one c.args.schema.now c.args.query.now c.args.tree c.requires.root

pub returns : goal.returns
returns c = plan_gives c.args.schema.now c.args.query.now c.args.tree c.in_ok-columns.columns.items c.released_plan.result c.requires.passes c.requires.root
    (columns_are c.args.schema.now c.args.query.now c.args.tree c.args.scope.now _ c.in_ok-columns.columns.items c.in_ok-columns.ensures (search rules) c.requires.root c.requires.scope)
    c.released_plan.ensures
