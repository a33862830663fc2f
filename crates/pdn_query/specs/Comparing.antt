-- What is public of two worlds is compared.
use Rattle.std.specs.Prelude.{List, Option, None, Some}
use Rattle.pdn_base.specs.Operators.{Rows}
use Rattle.pdn_base.specs.Texts.{refusal}
use Rattle.pdn_base.specs.declared.status.Status.TheVariants as status
use Rattle.pdn_schema.specs.Models.{SchemaModel, table_of}
use Rattle.pdn_level.specs.declared.staged.Leaf.{Leaf}
use Rattle.pdn_query.specs.Questions.{Agreeing}
use Rattle.pdn_query.specs.Script.{Script, Refuse, Ask, column_name}

-- what follows, or the refusal of the first public column in which the values differ
abbrev pub or_differ : SchemaModel → Script → Option Leaf → Script
or_differ s next None = next
or_differ s next (Some spot) = let t = table_of s spot.table in let refused = status.Disagree spot.table spot.column in
    Refuse refused (refusal t.name (column_name t spot.column) refused)

abbrev pub comparing : SchemaModel → List Rows → List Rows → Script → Script
comparing s first second next = Ask (Agreeing s first second) (or_differ s next)
