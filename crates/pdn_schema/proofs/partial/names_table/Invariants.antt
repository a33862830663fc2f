use Rattle.std.proofs.Common.{◌≡◌, drop}
use Rattle.pdn_schema.specs.Names.{is_among}
use Rattle.pdn_schema.specs.Schemas.{table_names}
use Rattle.pdn_schema.proofs.partial.names_table.Given as goal

abbrev pub invariant-loop-t : goal.invariant-loop-t
invariant-loop-t l = is_among (table_names (drop l.t-index l.tables)) l.name ≡ is_among (table_names l.tables) l.name
