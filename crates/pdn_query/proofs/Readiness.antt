-- A query made ready over both sites' tables.
use Rattle.std.proofs.Common.{◌≡◌, List, sym, subst, ap, ◌∙◌, Result, Ok, Err}
use Rattle.std.specs.Prelude.{MatchResult, IfOk}
use Rattle.pdn_base.specs.Operators.{Rows}
use Rattle.pdn_schema.specs.Models.{SchemaModel}
use Rattle.pdn_schema.specs.Rows.{AreValid}
use Rattle.pdn_sql.specs.declared.query.Query.{Query}
use Rattle.pdn_tree.specs.declared.node.Node.{Node}
use Rattle.pdn_plan.specs.Binding.{plan}
use Rattle.pdn_plan.specs.Planning.{root}
use Rattle.pdn_tree.specs.Plans.{PlanModel}
use Rattle.pdn_site.specs.Models.{UnitModel}
use Rattle.pdn_broker.specs.Prepared.{PreparedModel, IsPrepared, IsOf, PreparedForm, prepared_of}
use Rattle.pdn_script.specs.declared.stop.Stop.{Stop}
use Rattle.pdn_query.specs.Answering.{units_over}
use Rattle.pdn_query.specs.Gathering.{AreReady, IsReady, NotReady}
use Rattle.pdn_query.specs.Questions.{IsBound}

-- ---- a query that has a plan

pub bound_root : (s : SchemaModel) (query : Query) (p : PlanModel) → IsBound s query (Ok p) → p.root ≡ root s query
unfolding plan
bound_root s query p is = ap (λ (q : PlanModel). q.root) is.2

-- ---- what a query that is ready keeps of what it was made of

-- made of the same
same_made : {s t : SchemaModel} {root top : Node} {a c b d : List Rows} (units : List UnitModel) → s ≡ t → root ≡ top → a ≡ c → b ≡ d → prepared_of s root a b units ≡ prepared_of t top c d units
same_made units of_s of_r of_a of_b = λ i. prepared_of (of_s i) (of_r i) (of_a i) (of_b i) units

module _ (s : SchemaModel) (top : Node) (a b : List Rows) (p : PreparedModel) (is : IsOf s top a b p) where
  of_schema : p.a.schema ≡ s
  of_schema = is.schema

  of_root : p.a.root ≡ top
  of_root = is.root

  of_a : p.a.tables ≡ a
  of_a = is.a

  of_b : p.b.tables ≡ b
  of_b = is.b

  ready_a : IsPrepared p → AreValid s p.a.tables
  ready_a kept = subst (λ (schema : SchemaModel). AreValid schema p.a.tables) of_schema kept.tables_a.valid

  ready_b : IsPrepared p → AreValid s p.b.tables
  ready_b kept = subst (λ (schema : SchemaModel). AreValid schema p.b.tables) of_schema kept.tables_b.valid

  ready_units : IsPrepared p → units_over s top a b ≡ Ok p.units
  ready_units kept = rw (← of_schema, ← of_root, ← of_a, ← of_b) kept.units

  pub are_ready : IsPrepared p → PreparedForm → AreReady s top a b p
  are_ready kept form = record {
    valid_a = subst (AreValid s) of_a (ready_a kept);
    valid_b = subst (AreValid s) of_b (ready_b kept);
    units = p.units;
    fits = ready_units kept;
    made = form p kept ∙ same_made p.units of_schema of_root of_a of_b;
  }

-- ---- a query that is ready
module _ (s : SchemaModel) (top : Node) (a b : List Rows) (p : PreparedModel) (ready : AreReady s top a b p) where
  made_a : p.a.tables ≡ a
  made_a = ap (λ (q : PreparedModel). q.a.tables) ready.made

  made_b : p.b.tables ≡ b
  made_b = ap (λ (q : PreparedModel). q.b.tables) ready.made

  made_units : p.units ≡ ready.units
  made_units = ap (λ (q : PreparedModel). q.units) ready.made

  is_ready : IsReady s top p
  is_ready = record {
    form = ready.made ∙ (λ i. prepared_of s top (sym made_a i) (sym made_b i) (sym made_units i));
    valid_a = subst (AreValid s) (sym made_a) ready.valid_a;
    valid_b = subst (AreValid s) (sym made_b) ready.valid_b;
  }

pub where_ready : (s : SchemaModel) (top : Node) (a b : List Rows) (result : Result PreparedModel Stop) → MatchResult result (AreReady s top a b) (NotReady s top a b) → IfOk result (IsReady s top)
where_ready s top a b (Ok p) ready = is_ready s top a b p ready
where_ready s top a b (Err stop) not = tt

pub ready_root : (s : SchemaModel) (query : Query) (plan : PlanModel) (p : PreparedModel) → IsReady s plan.root p → IsBound s query (Ok plan) → p.a.root ≡ root s query
ready_root s query plan p ready binds = ap (λ (q : PreparedModel). q.a.root) ready.form ∙ bound_root s query plan binds
