use Rattle.std.proofs.Common.{◌≡◌, take}
use Rattle.pdn_schema.proofs.schema.copy_callers.Given as goal

abbrev pub invariant-loop-c : goal.invariant-loop-c
invariant-loop-c l = l.copies.items ≡ take l.c-index l.callers
