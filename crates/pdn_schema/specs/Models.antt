-- A schema as contracts see it.
use Rattle.std.specs.Prelude.{ℕ, List, [], get_or, Bool, Option}
use Rattle.pdn_schema.specs.declared.schema.Column.{Column}
use Rattle.pdn_schema.specs.declared.schema.Caller.{Caller}

pub record TableModel : Type 0 where
  pub name : List ℕ
  pub rows : ℕ
  pub columns : List Column

pub record SchemaModel : Type 0 where
  pub floor : ℕ
  pub callers : List Caller
  pub tables : List TableModel

-- a schema as far as it was read: the tables that are done, and the one that is open
pub record Part : Type 0 where
  pub begun : Bool
  pub floor : Option ℕ
  pub callers : List Caller
  pub done : List TableModel
  pub current : Option TableModel
  pub ended : Bool

abbrev pub no_table : TableModel
no_table = record { name = []; rows = 0; columns = [] }

abbrev pub table_of : SchemaModel → ℕ → TableModel
table_of s t = get_or s.tables t no_table
