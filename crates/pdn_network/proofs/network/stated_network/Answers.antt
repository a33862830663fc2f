use Rattle.pdn_network.proofs.NetworkLaws.{valid_a, valid_b}
use Rattle.pdn_network.proofs.network.stated_network.Goals as goal

pub returns-clause-valid_a : goal.returns-clause-valid_a
returns-clause-valid_a c = rw (c.in_ok-network_schema.ensures, c.in_ok-tables.ensures, c.in_ok-rows_a.ensures) (valid_a c.args.seed c.args.patients c.requires)

pub returns-clause-valid_b : goal.returns-clause-valid_b
returns-clause-valid_b c = rw (c.in_ok-network_schema.ensures, c.in_ok-tables-2.ensures, c.in_ok-rows_b.ensures) (valid_b c.args.seed c.args.patients c.requires)
