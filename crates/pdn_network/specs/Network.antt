-- The stated network of a seed: its schema, and the rows of both sites.
use Rattle.std.specs.Prelude.{ℕ, ◌+◌, ◌*◌, ◌%◌, ◌==◌, Bool, not, if◌then◌else◌, List, [], ◌∷◌, map, filter, codes}
use Rattle.std.specs.List.{range_with_len}
use Rattle.pdn_base.specs.Codes.{code_number}
use Rattle.pdn_base.specs.Operators.{Rows}
use Rattle.pdn_base.specs.declared.marks.Kind.TheVariants as kinds
use Rattle.pdn_base.specs.declared.marks.Label.TheVariants as labels
use Rattle.pdn_base.specs.declared.value.Value.{Value}
use Rattle.pdn_base.specs.declared.value.Value.TheVariants as value
use Rattle.pdn_schema.specs.declared.schema.Column.{Column}
use Rattle.pdn_schema.specs.Models.{TableModel, SchemaModel}

-- ---- the schema

abbrev pub pid : Column
pid = record { name = codes "pid"; kind = kinds.Int; mark = labels.Public; per = 4 }

abbrev pub code : Column
code = record { name = codes "code"; kind = kinds.Code; mark = labels.Protected; per = 0 }

abbrev pub day : Column
day = record { name = codes "day"; kind = kinds.Int; mark = labels.Private; per = 0 }

abbrev pub diag : TableModel
diag = record { name = codes "diag"; rows = 256; columns = pid ∷ code ∷ day ∷ [] }

unfoldable pub network_schema : SchemaModel
network_schema = record { floor = 3; callers = []; tables = diag ∷ [] }

-- ---- the rows

-- how many days after day 10 a patient p is first seen (q), and how many days later again (g)
abbrev pub offset : ℕ → ℕ → ℕ
offset seed p = (7 * p + 13 * seed) % 11

abbrev pub gap : ℕ → ℕ → ℕ
gap seed p = (5 * p + seed) % 60

-- flu where p + seed is a multiple of 4, else cdiff
abbrev pub code_at_b : ℕ → ℕ → List ℕ
code_at_b seed p = if (p + seed) % 4 == 0 then codes "flu" else codes "cdiff"

abbrev pub row : ℕ → List ℕ → ℕ → List Value
row pid code day = value.Int pid ∷ value.Code (code_number code) ∷ value.Int day ∷ []

-- the patients 1, 2, .. for which something holds
abbrev pub patients_with : (ℕ → Bool) → ℕ → List ℕ
patients_with test patients = filter test (range_with_len 1 patients)

-- A has (p, cdiff, 10 + q) where q isn't 0
unfoldable pub rows_a : ℕ → ℕ → Rows
rows_a seed patients = map (λ p. row p (codes "cdiff") (10 + offset seed p)) (patients_with (λ p. not (offset seed p == 0)) patients)

-- B has (p, flu or cdiff, 10 + q + g) where q isn't 1
unfoldable pub rows_b : ℕ → ℕ → Rows
rows_b seed patients = map (λ p. row p (code_at_b seed p) (10 + offset seed p + gap seed p)) (patients_with (λ p. not (offset seed p == 1)) patients)

-- each site's tables: its rows of the one table
abbrev pub tables_a : ℕ → ℕ → List Rows
tables_a seed patients = rows_a seed patients ∷ []

abbrev pub tables_b : ℕ → ℕ → List Rows
tables_b seed patients = rows_b seed patients ∷ []
