-- The standing queries word by word, each name with its place in the text.
use Rattle.std.specs.Prelude.{codes, ℕ, Bool, true, false, List, [], ◌∷◌, Some, None}
use Rattle.pdn_base.specs.Codes.{code_number}
use Rattle.pdn_base.specs.declared.cond.Op.{Op}
use Rattle.pdn_base.specs.declared.cond.Op.TheVariants as op
use Rattle.pdn_sql.specs.declared.query.Name.{Name}
use Rattle.pdn_sql.specs.declared.query.Col.{Col}
use Rattle.pdn_sql.specs.declared.query.What.{What}
use Rattle.pdn_sql.specs.declared.query.What.TheVariants as what
use Rattle.pdn_sql.specs.declared.query.Item.{Item}
use Rattle.pdn_sql.specs.declared.query.SqlTerm.{SqlTerm}
use Rattle.pdn_sql.specs.declared.query.SqlOperand.{SqlOperand}
use Rattle.pdn_sql.specs.declared.query.SqlOperand.TheVariants as written
use Rattle.pdn_sql.specs.declared.query.SqlClause.{SqlClause}
use Rattle.pdn_sql.specs.declared.query.Source.{Source}
use Rattle.pdn_sql.specs.declared.query.Block.{Block}
use Rattle.pdn_sql.specs.declared.query.Query.{Query}

abbrev name : List ℕ → ℕ → Name
name text at = record { text = text; at = at }

abbrev col : Name → Col
col n = record { of = None; name = n }

abbrev col_of : Name → Name → Col
col_of alias n = record { of = Some alias; name = n }

abbrev item : What → Item
item shown = record { what = shown; alias = None }

abbrev item_as : What → Name → Item
item_as shown alias = record { what = shown; alias = Some alias }

abbrev from : Name → Source
from n = record { name = n; alias = None; on = [] }

abbrev term : Col → SqlTerm
term c = record { col = c; plus = None }

abbrev plus : Col → ℕ → SqlTerm
plus c n = record { col = c; plus = Some n }

abbrev clause : SqlTerm → Op → SqlOperand → SqlClause
clause left sign right = record { any = record { left = left; op = sign; right = right } ∷ [] }

abbrev select : List Item → List Source → Block
select items sources = record { distinct = false; items = items; sources = sources; filter = []; group = []; having = None; order = []; limit = None }

abbrev pub numbered_block : Block
numbered_block = record (select (
    item (what.Column (col (name (codes "pid") 18)))
    ∷ item (what.Column (col (name (codes "day") 23)))
    ∷ item_as (what.Number ((col (name (codes "pid") 60)) ∷ []) (record { col = (col (name (codes "day") 73)); down = false } ∷ [])) (name (codes "r") 81)
    ∷ [])
    (from (name (codes "diag") 88) ∷ [])) {
      filter = clause (term (col (name (codes "code") 99))) op.Eq (written.Code (code_number (codes "cdiff"))) ∷ [];
    }

abbrev pub again_block : Block
again_block = record (select (item (what.Column (col_of (name (codes "a") 131) (name (codes "pid") 133))) ∷ []) (
    record { name = (name (codes "d") 142); alias = Some (name (codes "a") 144); on = [] }
    ∷ record {
      name = (name (codes "d") 151);
      alias = Some (name (codes "b") 153);
      on = clause (term (col_of (name (codes "a") 158) (name (codes "pid") 160))) op.Eq (written.Term (term (col_of (name (codes "b") 166) (name (codes "pid") 168))))
          ∷ clause (term (col_of (name (codes "b") 176) (name (codes "r") 178))) op.Eq (written.Term (plus (col_of (name (codes "a") 182) (name (codes "r") 184)) 1))
          ∷ [];
    }
    ∷ [])) {
      distinct = true;
      filter = clause (term (col_of (name (codes "b") 196) (name (codes "day") 198))) op.Ge (written.Term (plus (col_of (name (codes "a") 205) (name (codes "day") 207)) 15))
          ∷ clause (term (col_of (name (codes "b") 220) (name (codes "day") 222))) op.Le (written.Term (plus (col_of (name (codes "a") 229) (name (codes "day") 231)) 56))
          ∷ [];
      order = record { name = (name (codes "pid") 249); down = false } ∷ [];
    }

abbrev pub recurrent : Query
recurrent = record { with = record { name = (name (codes "d") 5); block = numbered_block } ∷ []; main = again_block }

abbrev pub common : Query
common = record {
  with = [];
  main = record (select (item (what.Column (col (name (codes "code") 260))) ∷ item_as what.Count (name (codes "n") 278) ∷ []) (from (name (codes "diag") 285) ∷ [])) {
    group = (col (name (codes "code") 299)) ∷ [];
    having = Some 3;
    order = record { name = (name (codes "n") 334); down = true } ∷ [];
    limit = Some 2;
  };
}

abbrev pub late : Query
late = record {
  with = [];
  main = record (select (item what.Count ∷ []) (from (name (codes "diag") 370) ∷ [])) {
    filter = clause (term (col (name (codes "day") 381))) op.Ge (written.Int 30) ∷ [];
  };
}
