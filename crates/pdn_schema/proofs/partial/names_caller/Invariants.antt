use Rattle.std.proofs.Common.{◌≡◌, drop}
use Rattle.pdn_schema.specs.Names.{is_among}
use Rattle.pdn_schema.specs.Schemas.{caller_names}
use Rattle.pdn_schema.proofs.partial.names_caller.Given as goal

abbrev pub invariant-loop-c : goal.invariant-loop-c
invariant-loop-c l = is_among (caller_names (drop l.c-index l.callers)) l.name ≡ is_among (caller_names l.callers) l.name
