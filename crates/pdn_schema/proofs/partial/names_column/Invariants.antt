use Rattle.std.proofs.Common.{◌≡◌, drop}
use Rattle.pdn_schema.specs.Names.{is_among}
use Rattle.pdn_schema.specs.Schemas.{column_names}
use Rattle.pdn_schema.proofs.partial.names_column.Given as goal

abbrev pub invariant-loop-c : goal.invariant-loop-c
invariant-loop-c l = is_among (column_names (drop l.c-index l.columns)) l.name ≡ is_among (column_names l.columns) l.name
