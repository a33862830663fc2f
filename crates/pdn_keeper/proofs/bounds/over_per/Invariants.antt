use Rattle.std.proofs.Common.{take}
use Rattle.pdn_schema.specs.Rows.{KeepEach}
use Rattle.pdn_keeper.proofs.bounds.over_per.Given as goal

abbrev pub invariant-loop-i : goal.invariant-loop-i
invariant-loop-i l = KeepEach (take l.i l.columns) l.rows
