-- Going along the script of a query over given tables.
use Rattle.std.proofs.Common.{◌≡◌, ◌<◌, ◌≤◌, ◌-◌, ◌^◌, ℕ, zero, suc, List, [], ◌∷◌, length, get_or, refl, sym, ap, subst, ◌∙◌, Ok, Err, inl, inr, Result, arith}
use Rattle.std.specs.Prelude.{MatchResult}
use Rattle.std.specs.List.{All, AllByRecursion, slice_get}
use Rattle.std.proofs.lemmas.List.{get_or_default}
use Rattle.std.proofs.lemmas.List.Elements.{All-get_or}
use Rattle.pdn_base.specs.Operators.{Rows}
use Rattle.pdn_base.specs.declared.status.Status.TheVariants as status
use Rattle.pdn_base.specs.declared.marks.Kind.{Kind}
use Rattle.pdn_base.specs.declared.site.Site.{Site}
use Rattle.pdn_base.specs.declared.site.Site.TheVariants.{A, B}
use Rattle.pdn_base.specs.declared.rows_err.RowsErr.{RowsErr}
use Rattle.pdn_base.specs.declared.rows_err.RowsErr.TheVariants.{TooMany, PerValue, WrongType}
use Rattle.pdn_schema.specs.Models.{SchemaModel, TableModel, no_table, table_of}
use Rattle.pdn_schema.specs.Schemas.{IsSchema, IsTable}
use Rattle.pdn_schema.specs.Rows.{HasKinds, IsValid, AreValid, IsRefused, union}
use Rattle.pdn_sql.specs.declared.query.Query.{Query}
use Rattle.pdn_tree.specs.declared.node.Node.{Node}
use Rattle.pdn_plan.specs.Answer.{answer}
use Rattle.pdn_plan.specs.Planning.{root}
use Rattle.pdn_site.specs.Models.{UnitModel}
use Rattle.pdn_site.specs.Compiling.{Compiled}
use Rattle.pdn_broker.specs.Prepared.{PreparedModel}
use Rattle.pdn_script.specs.Stops.{stop_of}
use Rattle.pdn_script.specs.declared.stop.Stop.{Stop}
use Rattle.pdn_query.specs.Answering.{units_over, or_large, ticketing}
use Rattle.pdn_query.specs.Gathering.{WrongTable, LargeUnit, NotReady, AreReady}
use Rattle.pdn_query.specs.Script.{Script}
use Rattle.pdn_query.specs.Walk.{End, Along, Leads, Came}
use Rattle.pdn_query.specs.World.{WorldModel}
use Rattle.pdn_query.proofs.Walks.{begun, halted, refused}
use Rattle.pdn_gen.specs.Gen.{over}

-- ---- valid tables

valid_not_refused : (t : TableModel) (rows : Rows) (cause : RowsErr) → IsValid t rows → IsRefused t rows cause → ⊥
valid_not_refused t rows (WrongType row column) valid refused =
    refused.here.here (ap (λ (ks : List Kind). slice_get ks column) (All-get_or (HasKinds t.columns) rows row [] refused.within valid.kinds))
valid_not_refused t rows TooMany valid refused = omega (arith, refused.1, valid.few)
valid_not_refused t rows (PerValue column) valid refused =
    let over = refused.2 in
    omega (arith, over.over, valid.per column over.column over.is over.public over.number)

none_wrong : (s : SchemaModel) (site : Site) (tables : List Rows) (stop : Stop) → AreValid s tables → WrongTable s site tables stop → ⊥
none_wrong s site tables stop valid wrong = valid_not_refused (table_of s wrong.at) (get_or tables wrong.at []) wrong.here.wrong (valid.each wrong.at wrong.within) wrong.here.is

table_few : (ts : List TableModel) (k : ℕ) → AllByRecursion IsTable ts → k < length ts → (get_or ts k no_table).rows ≤ 256
table_few [] k each within = absurd (omega (arith, within))
table_few (t ∷ ts) zero each within = each.0.head.most
table_few (t ∷ ts) (suc k) each within = table_few ts k each.1 (omega (arith, within))

-- valid tables are short
pub short_tables : (s : SchemaModel) (tables : List Rows) → IsSchema s → AreValid s tables → All (λ (rows : Rows). length rows < 2 ^ 32 - 1) tables
short_tables s tables is valid k d within =
    let among : k < length s.tables = omega (arith, within, valid.count) in
    let few : length (get_or tables k []) ≤ 256 = omega (arith, (valid.each k among).few, table_few s.tables k is.tables.each among) in
    rw (get_or_default tables k d [] within) (omega (arith, few))

-- ---- made ready over valid tables

module _ (w : WorldModel) (s : SchemaModel) (top : Node) (a b : List Rows) (next : List UnitModel → Script) where
  units_on : (units : List UnitModel) → units_over s top a b ≡ Ok units → Leads w w (or_large next (units_over s top a b)) (next units)
  units_on units fits = subst (λ (c : Compiled). Leads w w (or_large next c) (next units)) (sym fits) (begun w (next units))

  too_large : (stop : Stop) → LargeUnit s top a b stop → Along w w (or_large next (units_over s top a b)) (stop_of stop)
  too_large stop u = subst (λ (c : Compiled). Along w w (or_large next c) (stop_of stop)) (sym u.passes) (refused w [] [] (status.TooLarge u.limit u.unit) stop u.refused)

  not_ready : (stop : Stop) → AreValid s a → AreValid s b → NotReady s top a b stop → Along w w (or_large next (units_over s top a b)) (stop_of stop)
  not_ready stop va vb (inl wrong) = absurd (none_wrong s A a stop va wrong)
  not_ready stop va vb (inr (inl (valid, wrong))) = absurd (none_wrong s B b stop vb wrong)
  not_ready stop va vb (inr (inr (inl (valid, also, large)))) = too_large stop large
  not_ready stop va vb (inr (inr (inr short))) = halted w (or_large next (units_over s top a b)) (stop_of stop) short

  pub ready_came : (result : Result PreparedModel Stop) → AreValid s a → AreValid s b → MatchResult result (AreReady s top a b) (NotReady s top a b) →
      Came w w (or_large next (units_over s top a b)) (λ p. next p.units) result
  ready_came (Ok p) va vb ready = subst (λ (units : List UnitModel). Leads w w (or_large next (units_over s top a b)) (next units)) (sym (ap (λ (q : PreparedModel). q.units) ready.made)) (units_on ready.units ready.fits)
  ready_came (Err stop) va vb not = not_ready stop va vb not

-- ---- a query over tables

abbrev pub after_units : SchemaModel → List Rows → List Rows → Query → (Rows → ℕ → Script) → List UnitModel → Script
after_units s a b query next units = ticketing (λ ticket. next (answer s (union a b) query) (length units))

over_is : (s : SchemaModel) (a b : List Rows) (query : Query) (top : Node) → top ≡ root s query → (next : Rows → ℕ → Script) → or_large (after_units s a b query next) (units_over s top a b) ≡ over s a b query next
over_is s a b query top is next = ap (λ (r : Node). or_large (after_units s a b query next) (units_over s r a b)) is

module _ {old mid : WorldModel} (s : SchemaModel) (a b : List Rows) (query : Query) (top : Node) (is : top ≡ root s query) (next : Rows → ℕ → Script) where
  pub along_over : (end : End) → Along old mid (or_large (after_units s a b query next) (units_over s top a b)) end → Along old mid (over s a b query next) end
  along_over end along = subst (λ (script : Script). Along old mid script end) (over_is s a b query top is next) along

  pub leads_over : (rest : Script) → Leads old mid (or_large (after_units s a b query next) (units_over s top a b)) rest → Leads old mid (over s a b query next) rest
  leads_over rest leads = subst (λ (script : Script). Leads old mid script rest) (over_is s a b query top is next) leads

-- the rows and the number of units, as they were come to
pub counted : (w now : WorldModel) (whole : Script) (s : SchemaModel) (a b : List Rows) (query : Query) (top : Node) (p : PreparedModel) (rows : Rows) (units : ℕ) (next : Rows → ℕ → Script) →
    AreReady s top a b p → rows ≡ answer s (union p.a.tables p.b.tables) query → units ≡ length p.units → Leads w now whole (next (answer s (union a b) query) (length p.units)) → Leads w now whole (next rows units)
counted w now whole s a b query top p rows units next ready are is leads =
    let of_a : p.a.tables ≡ a = ap (λ (q : PreparedModel). q.a.tables) ready.made in
    let of_b : p.b.tables ≡ b = ap (λ (q : PreparedModel). q.b.tables) ready.made in
    let means : rows ≡ answer s (union a b) query = are ∙ (λ i. answer s (union (of_a i) (of_b i)) query) in
    rw (means, is) leads

pub root_is : (s : SchemaModel) (a b : List Rows) (query : Query) (top : Node) (p : PreparedModel) → AreReady s top a b p → top ≡ root s query → p.a.root ≡ root s query
root_is s a b query top p ready is = ap (λ (q : PreparedModel). q.a.root) ready.made ∙ is
