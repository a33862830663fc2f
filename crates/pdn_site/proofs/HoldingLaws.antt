-- Valid tables, each row of which is of the kinds of its own values, are tables such as circuits take.
use Rattle.std.proofs.Common.{◌≡◌, ℕ, ◌<◌, nat_lt, Bool, true, false, List, [], length, get_or, map, refl, sym, ap, subst, arith, ltb-true, Option}
use Rattle.std.specs.List.{All}
use Rattle.std.proofs.lemmas.Bool.{ltb-false}
use Rattle.std.proofs.lemmas.List.{get_or_past}
use Rattle.std.proofs.lemmas.List.Elements.{All-get_or}
use Rattle.std.proofs.lemmas.Option.{slice_get-get_or}
use Rattle.pdn_base.specs.declared.marks.Kind.{Kind}
use Rattle.pdn_base.specs.declared.value.Value.{Value}
use Rattle.pdn_base.specs.Operators.{Rows}
use Rattle.pdn_schema.specs.declared.schema.Column.{Column}
use Rattle.pdn_schema.specs.Models.{TableModel, SchemaModel, no_table, table_of}
use Rattle.pdn_schema.specs.Rows.{AreValid, HasKinds, kinds_of, column_kinds}
use Rattle.pdn_tree.specs.Shapes.{columns_in}
use Rattle.pdn_tree.specs.Meaning.{table_of as rows_of}
use Rattle.pdn_obl_rows.specs.Encoding.{RowIsOf, RowsAreOf}
use Rattle.pdn_site.specs.Circuits.{table_kinds}
use Rattle.pdn_site.specs.Meaning.{AreTables}

-- a row is of the kinds of its own values
abbrev pub IsKnown : List Value → Type 0
IsKnown row = RowIsOf (kinds_of row) row

-- each row is
abbrev pub AreKnown : Rows → Type 0
AreKnown rows = All IsKnown rows

pub rows_are : (columns : List Column) (rows : Rows) → All (HasKinds columns) rows → AreKnown rows → RowsAreOf (column_kinds columns) rows
rows_are columns rows h k = record { at = λ i l. subst (λ (kinds : List Kind). RowIsOf kinds (get_or rows i [])) (All-get_or (HasKinds columns) rows i [] l h) (All-get_or IsKnown rows i [] l k) }

kinds_there : (schema : SchemaModel) (table : ℕ) → table < length schema.tables → table_kinds schema table ≡ column_kinds (table_of schema table).columns
kinds_there schema table h = ap (λ (t : Option TableModel). map (λ (c : Column). c.kind) (columns_in t)) (slice_get-get_or schema.tables table no_table h)

none_are : (kinds : List Kind) → RowsAreOf kinds []
none_are kinds = record { at = λ i l. absurd (omega (arith, l)) }

pub tables_are : (schema : SchemaModel) (tables : List Rows) → AreValid schema tables → ((t : ℕ) → t < length tables → AreKnown (get_or tables t [])) → AreTables schema tables
tables_are schema tables valid known = record { valid = valid; of = λ table. by table (nat_lt table (length schema.tables)) refl }
  where
    by : (table : ℕ) (b : Bool) → nat_lt table (length schema.tables) ≡ b → RowsAreOf (table_kinds schema table) (rows_of tables table)
    by table true e =
        let within : table < length schema.tables = ltb-true table (length schema.tables) e in
        subst (λ (kinds : List Kind). RowsAreOf kinds (get_or tables table [])) (sym (kinds_there schema table within))
        (rows_are (table_of schema table).columns (get_or tables table []) (valid.each table within).kinds (known table (omega (arith, within, valid.count))))
    by table false e = subst (λ (rows : Rows). RowsAreOf (table_kinds schema table) rows) (sym (get_or_past tables table [] (omega (arith, valid.count, ltb-false table (length schema.tables) e)))) (none_are (table_kinds schema table))
