use Rattle.pdn_twin_tests.proofs.Agreeing.{are_worlds}
use Rattle.pdn_twin_tests.proofs.worlds.worlds_of.Goals as goal

pub returns : goal.returns
returns c = are_worlds c.args.site c.args.schema.now c.args.plan.now.root c.args.tables.now.own c.args.tables.now.first c.args.tables.now.second c.in_ok-first.first c.in_ok-second.second c.in_ok-first.ensures c.in_ok-second.ensures c.in_ok-compared.ensures
