-- The rows of a table in the union of valid tables are as wide as the schema says.
use Rattle.std.proofs.Common.{◌≡◌, ℕ, suc, ◌+◌, ◌<◌, List, [], ◌∷◌, length, get_or, sym, ap, ◌∙◌, subst, arith}
use Rattle.std.specs.List.{AllByRecursion}
use Rattle.std.proofs.lemmas.List.{length-map}
use Rattle.std.proofs.lemmas.List.Elements.{recursion_from_All}
use Rattle.pdn_schema.specs.declared.schema.Column.{Column}
use Rattle.pdn_schema.specs.Models.{TableModel, SchemaModel, no_table, table_of}
use Rattle.pdn_schema.specs.Rows.{HasKinds, IsValid, AreValid, union}
use Rattle.pdn_tree.specs.Columns.{Wide}
use Rattle.pdn_tree.specs.Meaning.{Rows}
use Rattle.pdn_plan.specs.Answer.{TablesFit}
use Rattle.pdn_plan.proofs.Looking.{all-append}

kinds_wide : (columns : List Column) (rows : Rows) → AllByRecursion (HasKinds columns) rows → Wide (length columns) rows
kinds_wide columns [] h = tt
kinds_wide columns (r ∷ rs) h = (sym (length-map r _) ∙ ap length h.0 ∙ length-map columns _, kinds_wide columns rs h.1)

valid_wide : (t : TableModel) (rows : Rows) → IsValid t rows → Wide (length t.columns) rows
valid_wide t rows valid = kinds_wide t.columns rows (recursion_from_All (HasKinds t.columns) rows valid.kinds)

union_wide : (s : SchemaModel) (a b : List Rows) → AreValid s a → AreValid s b → (t : ℕ) → t < length s.tables → let table = table_of s t in Wide (length table.columns) (union a b t)
union_wide s a b va vb t h =
    let table = table_of s t in
    all-append (λ row. length row ≡ length table.columns) (get_or a t []) (get_or b t []) (valid_wide table (get_or a t []) (va.each t h)) (valid_wide table (get_or b t []) (vb.each t h))

fit_from : (ts : List TableModel) (tables : ℕ → Rows) (at : ℕ) → ((t : ℕ) → t < length ts → let table = get_or ts t no_table in Wide (length table.columns) (tables (at + t))) → TablesFit tables at ts
fit_from [] tables at each = tt
fit_from (t ∷ ts) tables at each = (
  subst (λ n. Wide (length t.columns) (tables n)) (let e : at + 0 ≡ at = omega arith in e) (each 0 (omega arith)),
  fit_from ts tables (suc at) (λ k h. subst (λ n. let table = get_or ts k no_table in Wide (length table.columns) (tables n)) (let e : at + suc k ≡ suc at + k = omega arith in e) (each (suc k) (omega (arith, h)))),
)

pub union_fits : (s : SchemaModel) (a b : List Rows) → AreValid s a → AreValid s b → TablesFit (union a b) 0 s.tables
union_fits s a b va vb = fit_from s.tables (union a b) 0 (λ t h.
    subst (λ n. let table = table_of s t in Wide (length table.columns) (union a b n)) (let e : t ≡ 0 + t = omega arith in e) (union_wide s a b va vb t h))
