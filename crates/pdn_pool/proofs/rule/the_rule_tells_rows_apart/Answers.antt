use Rattle.pdn_pool.proofs.RowLaws.{in_turn, after_a_join, drawn_twice, left_out}
use Rattle.pdn_pool.proofs.rule.the_rule_tells_rows_apart.Goals as goal

pub returns : goal.returns
returns c = record { in_turn = in_turn; after_a_join = after_a_join; drawn_twice = drawn_twice; left_out = left_out }
