use Rattle.std.proofs.Common.{refl, arith}
use Rattle.pdn_schema.proofs.CauseLaws.{floor_small, calls_small, rows_small, per_small}
use Rattle.pdn_schema.proofs.partial.Partial.add.Goals as goal

pub overflow_cast-result : goal.overflow_cast-result
overflow_cast-result c = omega (arith, floor_small c.args.self c.in-Floor.n (rw c.in-Floor.is at c.requires))

pub overflow_cast-calls : goal.overflow_cast-calls
overflow_cast-calls c = omega (arith, calls_small c.args.self c.in-Caller.name c.in-Caller.calls (rw c.in-Caller.is at c.requires))

pub overflow_cast-rows : goal.overflow_cast-rows
overflow_cast-rows c = omega (arith, rows_small c.args.self c.in-Table.name c.in-Table.rows (rw c.in-Table.is at c.requires))

pub overflow_cast-per : goal.overflow_cast-per
overflow_cast-per c = omega (arith, per_small c.args.self _ c.in-Column.per c.in-Column.mark (rw c.in-Column.is at c.requires) refl)
