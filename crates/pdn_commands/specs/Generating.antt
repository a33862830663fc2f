-- What `gen` should do: the standing queries of a stated network are answered in order, each in short.
use Rattle.std.specs.Prelude.{ℕ, List}
use Rattle.pdn_base.specs.Operators.{Rows}
use Rattle.pdn_schema.specs.Models.{SchemaModel}
use Rattle.pdn_sql.specs.declared.query.Query.{Query}
use Rattle.pdn_network.specs.Network.{network_schema, tables_a, tables_b}
use Rattle.pdn_network.specs.Standing.{standing}
use Rattle.pdn_gen.specs.Gen.{over, short_text}
use Rattle.pdn_query.specs.Script.{Script, Say}
use Rattle.pdn_commands.specs.Running.{numbered}

-- one query over both sites' tables, answered in short
abbrev pub short_step : SchemaModel → List Rows → List Rows → ℕ → ℕ → ℕ → Query → Script → Script
short_step s a b seed patients number query next = over s a b query (λ rows units. Say (short_text seed patients number rows units) next)

abbrev pub generate_script : ℕ → ℕ → Script
generate_script seed patients = numbered (short_step network_schema (tables_a seed patients) (tables_b seed patients) seed patients) 1 standing
