use Rattle.std.proofs.Common.{◌≡◌, ◌++◌, take, drop}
use Rattle.pdn_base.specs.Operators.{number_from, number_rows}
use Rattle.pdn_plain.proofs.numbers.number.Given as goal

abbrev pub invariant-loop-at : goal.invariant-loop-at
invariant-loop-at l = l.numbered.items ++ number_from l.partition l.order l.rows (take l.at l.rows) (drop l.at l.rows) ≡ number_rows l.partition l.order l.rows
