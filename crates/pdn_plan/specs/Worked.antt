-- Queries over small tables with the rows that they give, worked out by hand from SQL's rules.
use Rattle.std.specs.Prelude.{◌≡◌, codes, ℕ, Bool, true, false, List, [], ◌∷◌, map, Some, None, get_or}
use Rattle.pdn_base.specs.declared.value.Value.TheVariants as value
use Rattle.pdn_base.specs.declared.marks.Kind.TheVariants as kind
use Rattle.pdn_base.specs.declared.marks.Label.TheVariants as label
use Rattle.pdn_base.specs.declared.cond.Op.{Op}
use Rattle.pdn_base.specs.declared.cond.Op.TheVariants as op
use Rattle.pdn_schema.specs.declared.schema.Column.{Column}
use Rattle.pdn_schema.specs.Models.{TableModel, SchemaModel}
use Rattle.pdn_sql.specs.declared.query.Name.{Name}
use Rattle.pdn_sql.specs.declared.query.Col.{Col}
use Rattle.pdn_sql.specs.declared.query.OrderName.{OrderName}
use Rattle.pdn_sql.specs.declared.query.What.{What}
use Rattle.pdn_sql.specs.declared.query.What.TheVariants as what
use Rattle.pdn_sql.specs.declared.query.Item.{Item}
use Rattle.pdn_sql.specs.declared.query.SqlTerm.{SqlTerm}
use Rattle.pdn_sql.specs.declared.query.SqlOperand.{SqlOperand}
use Rattle.pdn_sql.specs.declared.query.SqlOperand.TheVariants as written
use Rattle.pdn_sql.specs.declared.query.SqlClause.{SqlClause}
use Rattle.pdn_sql.specs.declared.query.Source.{Source}
use Rattle.pdn_sql.specs.declared.query.Block.{Block}
use Rattle.pdn_sql.specs.declared.query.Query.{Query}
use Rattle.pdn_tree.specs.Meaning.{Rows}
use Rattle.pdn_plan.specs.Answer.{answer}

-- ---- two tables: visit (pid, day) and person (pid, age)

abbrev pub column : List ℕ → Column
column name = record { name = name; kind = kind.Int; mark = label.Private; per = 0 }

abbrev pub table : List ℕ → List Column → TableModel
table name columns = record { name = name; rows = 8; columns = columns }

abbrev pub clinic : SchemaModel
clinic = record {
  floor = 1;
  callers = [];
  tables = table (codes "visit") (column (codes "pid") ∷ column (codes "day") ∷ [])
      ∷ table (codes "person") (column (codes "pid") ∷ column (codes "age") ∷ [])
      ∷ [];
}

abbrev pub rows_of : List (List ℕ) → Rows
rows_of rows = map (map value.Int) rows

abbrev pub visits : List (List ℕ)
visits = (1 ∷ 5 ∷ []) ∷ (2 ∷ 7 ∷ []) ∷ (1 ∷ 5 ∷ []) ∷ (1 ∷ 9 ∷ []) ∷ (3 ∷ 2 ∷ []) ∷ (2 ∷ 8 ∷ []) ∷ []

abbrev pub persons : List (List ℕ)
persons = (1 ∷ 40 ∷ []) ∷ (2 ∷ 30 ∷ []) ∷ []

abbrev pub held : ℕ → Rows
held at = rows_of (get_or (visits ∷ persons ∷ []) at [])

-- ---- queries

abbrev pub named : List ℕ → Name
named text = record { text = text; at = 0 }

abbrev pub col : List ℕ → Col
col name = record { of = None; name = named name }

abbrev pub col_of : List ℕ → List ℕ → Col
col_of alias name = record { of = Some (named alias); name = named name }

abbrev pub item : What → Item
item shown = record { what = shown; alias = None }

abbrev pub item_as : What → List ℕ → Item
item_as shown alias = record { what = shown; alias = Some (named alias) }

abbrev pub from : List ℕ → Source
from name = record { name = named name; alias = None; on = [] }

abbrev pub term : Col → SqlTerm
term c = record { col = c; plus = None }

abbrev pub clause : SqlTerm → Op → SqlOperand → SqlClause
clause left sign right = record { any = record { left = left; op = sign; right = right } ∷ [] }

-- a block that shows items of its sources, and nothing else
abbrev pub select : List Item → List Source → Block
select items sources = record { distinct = false; items = items; sources = sources; filter = []; group = []; having = None; order = []; limit = None }

abbrev pub order_by : List ℕ → Bool → OrderName
order_by name down = record { name = named name; down = down }

abbrev pub rows_shown : Query → Rows
rows_shown q = answer clinic held q

abbrev pub alone : Block → Query
alone main = record { with = []; main = main }

-- SELECT COUNT(*) AS n, pid FROM visit GROUP BY pid HAVING COUNT(*) >= 2 ORDER BY n DESC
abbrev pub often : Query
often = alone (record (select (item_as what.Count (codes "n") ∷ item (what.Column (col (codes "pid"))) ∷ []) (from (codes "visit") ∷ [])) {
  group = col (codes "pid") ∷ [];
  having = Some 2;
  order = order_by (codes "n") true ∷ [];
})

-- SELECT pid, ROW_NUMBER() OVER (PARTITION BY pid ORDER BY day DESC), day FROM visit
abbrev pub latest : Query
latest = alone (select (
    item (what.Column (col (codes "pid")))
    ∷ item (what.Number (col (codes "pid") ∷ []) (record { col = col (codes "day"); down = true } ∷ []))
    ∷ item (what.Column (col (codes "day")))
    ∷ [])
    (from (codes "visit") ∷ []))

-- SELECT DISTINCT day FROM visit WHERE pid < 3 ORDER BY day DESC, day LIMIT 3
abbrev pub days : Query
days = alone (record (select (item (what.Column (col (codes "day"))) ∷ []) (from (codes "visit") ∷ [])) {
  distinct = true;
  filter = clause (term (col (codes "pid"))) op.Lt (written.Int 3) ∷ [];
  order = order_by (codes "day") true ∷ order_by (codes "day") false ∷ [];
  limit = Some 3;
})

-- SELECT day, age FROM visit v JOIN person p ON v.pid = p.pid WHERE p.age + 1 > 35
abbrev pub joined : Query
joined = alone (record (select (item (what.Column (col (codes "day"))) ∷ item (what.Column (col (codes "age"))) ∷ []) (
    record { name = named (codes "visit"); alias = Some (named (codes "v")); on = [] }
    ∷ record {
      name = named (codes "person");
      alias = Some (named (codes "p"));
      on = clause (term (col_of (codes "v") (codes "pid"))) op.Eq (written.Term (term (col_of (codes "p") (codes "pid")))) ∷ [];
    }
    ∷ [])) {
      filter = clause (record { col = col_of (codes "p") (codes "age"); plus = Some 1 }) op.Gt (written.Int 35) ∷ [];
    })

-- WITH seen AS (SELECT DISTINCT pid FROM visit) SELECT COUNT(*) FROM seen
abbrev pub how_many : Query
how_many = record {
  with = record {
    name = named (codes "seen");
    block = record (select (item (what.Column (col (codes "pid"))) ∷ []) (from (codes "visit") ∷ [])) { distinct = true };
  }
      ∷ [];
  main = select (item what.Count ∷ []) (from (codes "seen") ∷ []);
}

-- SELECT COUNT(*) FROM visit WHERE day > 100
abbrev pub none_so_late : Query
none_so_late = alone (record (select (item what.Count ∷ []) (from (codes "visit") ∷ [])) {
  filter = clause (term (col (codes "day"))) op.Gt (written.Int 100) ∷ [];
})

-- ---- their rows, as they are listed

pub record AnswersWorked : Type 0 where
  pub often : rows_shown often ≡ rows_of ((3 ∷ 1 ∷ []) ∷ (2 ∷ 2 ∷ []) ∷ [])
  pub latest : rows_shown latest ≡ rows_of ((1 ∷ 1 ∷ 9 ∷ []) ∷ (1 ∷ 2 ∷ 5 ∷ []) ∷ (1 ∷ 3 ∷ 5 ∷ []) ∷ (2 ∷ 1 ∷ 8 ∷ []) ∷ (2 ∷ 2 ∷ 7 ∷ []) ∷ (3 ∷ 1 ∷ 2 ∷ []) ∷ [])
  pub days : rows_shown days ≡ rows_of ((9 ∷ []) ∷ (8 ∷ []) ∷ (7 ∷ []) ∷ [])
  pub joined : rows_shown joined ≡ rows_of ((5 ∷ 40 ∷ []) ∷ (5 ∷ 40 ∷ []) ∷ (9 ∷ 40 ∷ []) ∷ [])
  pub how_many : rows_shown how_many ≡ rows_of ((3 ∷ []) ∷ [])
  pub none_so_late : rows_shown none_so_late ≡ rows_of ((0 ∷ []) ∷ [])
