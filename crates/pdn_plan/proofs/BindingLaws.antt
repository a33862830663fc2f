-- What binding gives, by what it computed.
use Rattle.std.proofs.Common.{◌≡◌, ℕ, List, [], ◌∷◌, Option, Some, None, Result, Ok, Err, MatchResult, IfOk, ap, ap₂, ◌∙◌, sym, refl, Bool, true, false, not, ◌&&◌, cond, nat_lt, map}
use Rattle.std.specs.List.{list_all}
use Rattle.pdn_schema.specs.Models.{SchemaModel}
use Rattle.pdn_schema.specs.Schemas.{IsSchema}
use Rattle.pdn_sql.specs.declared.query.Item.{Item}
use Rattle.pdn_sql.specs.declared.query.Block.{Block}
use Rattle.pdn_sql.specs.declared.query.Query.{Query}
use Rattle.pdn_tree.specs.declared.node.Node.{Node, Node-F, out-roll-Node}
use Rattle.pdn_tree.specs.declared.node.Node.TheVariants.{rolls-Top}
use Rattle.pdn_tree.specs.declared.node.Node.TheVariants as node
use Rattle.pdn_plan.specs.declared.plan_err.PlanErr.{PlanErr}
use Rattle.pdn_plan.specs.declared.plan_err.PlanErr.TheVariants as err
use Rattle.pdn_tree.specs.declared.plan.OutColumn.{OutColumn}
use Rattle.pdn_plan.specs.declared.scope.Refusal.{Refusal}
use Rattle.pdn_plan.specs.declared.scope.Seen.{Seen}
use Rattle.pdn_plan.specs.declared.scope.Earlier.{Earlier}
use Rattle.pdn_base.specs.declared.order.Key.{Key}
use Rattle.pdn_tree.specs.Shapes.{nodes, tops, labels, is_top, is_top_layer, is_public, fits}
use Rattle.pdn_plan.specs.Steps.{output_name, order_keys}
use Rattle.pdn_plan.specs.Names.{or_else, refuse_if}
use Rattle.pdn_tree.specs.Plans.{PlanModel, forbidden}
use Rattle.pdn_plan.specs.Planning.{scope_of, bound_with, root, main_relation, out_columns, columns}
use Rattle.pdn_plan.specs.Binding.{main_refusal, refusal, plan, Refuses, BindGives}
use Rattle.pdn_plan.specs.Keeping.{all_kept, with_refusals, main_tree, main_refusals, Tells, Forbids}
use Rattle.pdn_plan.specs.Answer.{IsWritten}
use Rattle.pdn_plan.proofs.PlanFits.{plan-fits}
use Rattle.pdn_plan.proofs.Looking.{or_none}
use Rattle.pdn_plan.proofs.KeepingLaws.{scope-kept}
use Rattle.pdn_plan.proofs.WholeLaws.{refusal-by-kept, root-by-kept, one-top}

some-first : (a b : Option Refusal) (r : Refusal) → a ≡ Some r → or_else a b ≡ Some r
some-first a b r e = ap (λ x. or_else x b) e

after-none : (a b c : Option Refusal) → a ≡ None → b ≡ c → or_else a b ≡ c
after-none a b c e f = ap (λ x. or_else x b) e ∙ f

pub tells_with : (schema : SchemaModel) (q : Query) (e : PlanErr) → Tells (with_refusals schema [] q.with) e → Refuses schema q e
tells_with schema q (err.Refused kind name) h = refusal-by-kept schema q ∙ some-first (with_refusals schema [] q.with) _ _ h
tells_with schema q (err.Forbidden column label) h = absurd h
tells_with schema q err.Memory h = tt

pub refusal-is : (schema : SchemaModel) (q : Query) (ks : List Earlier) → with_refusals schema [] q.with ≡ None → ks ≡ all_kept (bound_with schema [] q.with) → refusal schema q ≡ main_refusals schema ks q.main
refusal-is schema q ks none k = refusal-by-kept schema q ∙ after-none (with_refusals schema [] q.with) _ _ none (ap (λ es. main_refusals schema es q.main) (sym k))

pub tells_main : (schema : SchemaModel) (q : Query) (ks : List Earlier) (e : PlanErr) → with_refusals schema [] q.with ≡ None → ks ≡ all_kept (bound_with schema [] q.with) → Tells (main_refusals schema ks q.main) e → Refuses schema q e
tells_main schema q ks (err.Refused kind name) none k h = refusal-is schema q ks none k ∙ h
tells_main schema q ks (err.Forbidden column label) none k h = absurd h
tells_main schema q ks err.Memory none k h = tt

refuse-none : (b : Bool) (kind : ℕ) (name : List ℕ) → refuse_if b kind name ≡ None → b ≡ false
refuse-none true kind name e = absurd cc
refuse-none false kind name e = refl

-- where nothing is refused
pub passes_by_kept : (schema : SchemaModel) (q : Query) (ks : List Earlier) → with_refusals schema [] q.with ≡ None → ks ≡ all_kept (bound_with schema [] q.with) → main_refusals schema ks q.main ≡ None → refusal schema q ≡ None
passes_by_kept schema q ks none k main = refusal-is schema q ks none k ∙ main

pub root_is : (schema : SchemaModel) (q : Query) (ks : List Earlier) (n : Node) → ks ≡ all_kept (bound_with schema [] q.with) → main_refusals schema ks q.main ≡ None → n ≡ main_tree schema ks q.main → n ≡ root schema q
root_is schema q ks n k main t =
    let small : nat_lt 32 (nodes (main_tree schema ks q.main)) ≡ false = refuse-none _ 8 [] (or_none (main_refusal schema ks q.main) (refuse_if (nat_lt 32 (nodes (main_tree schema ks q.main))) 8 []) main).1 in
    t ∙ ap (λ xs. main_tree schema xs q.main) k ∙ root-by-kept schema q (ap (λ xs. nat_lt 32 (nodes (main_tree schema xs q.main))) (sym k) ∙ small)

pub scope_is : (schema : SchemaModel) (q : Query) (ks : List Earlier) (scope : List Seen) → ks ≡ all_kept (bound_with schema [] q.with) → scope ≡ scope_of schema ks q.main.sources → scope ≡ scope_of schema (bound_with schema [] q.with) q.main.sources
scope_is schema q ks scope k s = s ∙ ap (λ xs. scope_of schema xs q.main.sources) k ∙ scope-kept schema (bound_with schema [] q.with) q.main.sources

-- ---- what a plan keeps

top-is-top : (n : Node) (order : List Key) (limit : Option ℕ) → is_top (node.Top n order limit) ≡ true
top-is-top n order limit = ap is_top (sym (rolls-Top n order limit)) ∙ ap is_top_layer (out-roll-Node (Node-F.Top n order limit))

pub root_top : (schema : SchemaModel) (q : Query) (n : Node) → n ≡ root schema q → is_top n ≡ true
root_top schema q n e = ap is_top e ∙ top-is-top (main_relation schema q).plan (order_keys (map output_name q.main.items) q.main.order) q.main.limit

pub root_one : (schema : SchemaModel) (q : Query) (n : Node) → n ≡ root schema q → tops n ≡ 1
root_one schema q n e = ap tops e ∙ one-top schema q

-- ---- what is given

abbrev pub a_plan : Node → List OutColumn → PlanModel
a_plan n cs = record { root = n; columns = cs }

plan-is : (schema : SchemaModel) (q : Query) (n : Node) (cs : List OutColumn) → n ≡ root schema q → cs ≡ columns schema q → a_plan n cs ≡ plan schema q
unfolding plan
plan-is schema q n cs e c = ap₂ a_plan e c

-- where the columns are those of the answer, the tree's plan is given, or the first column that is forbidden
pub plan_gives : (schema : SchemaModel) (q : Query) (n : Node) (cs : List OutColumn) (result : Result PlanModel PlanErr) → refusal schema q ≡ None → n ≡ root schema q → cs ≡ columns schema q
    → MatchResult result (λ p. (forbidden cs ≡ None) × (p ≡ record { root = n; columns = cs })) (Forbids (forbidden cs)) → BindGives schema q result
plan_gives schema q n cs (Ok p) r e c m = (r, ap (λ (x : PlanModel). forbidden x.columns) (sym (plan-is schema q n cs e c)) ∙ m.0, m.1 ∙ plan-is schema q n cs e c)
plan_gives schema q n cs (Err (err.Refused kind name)) r e c m = absurd m
plan_gives schema q n cs (Err (err.Forbidden column label)) r e c m = (r, (m.0, ap (λ (x : PlanModel). forbidden x.columns) (sym (plan-is schema q n cs e c)) ∙ m.1, m.2, m.3))
plan_gives schema q n cs (Err err.Memory) r e c m = tt

pub columns_are : (schema : SchemaModel) (q : Query) (n : Node) (scope : List Seen) (items : List Item) (cs : List OutColumn) → cs ≡ out_columns scope (labels schema n) 0 items → items ≡ q.main.items
    → n ≡ root schema q → scope ≡ scope_of schema (bound_with schema [] q.with) q.main.sources → cs ≡ columns schema q
columns_are schema q n scope items cs c i e s = c ∙ ap (out_columns scope (labels schema n) 0) i ∙ ap₂ (λ (xs : List Seen) (m : Node). out_columns xs (labels schema m) 0 q.main.items) s e

-- the plan that is given fits the schema
pub gives_fits : (schema : SchemaModel) (q : Query) (result : Result PlanModel PlanErr) → IsSchema schema → BindGives schema q result → IsWritten q → IfOk result (λ p. fits schema p.root ≡ true)
unfolding plan
gives_fits schema q (Ok p) valid g written = ap (λ (x : PlanModel). fits schema x.root) g.2 ∙ plan-fits schema q valid written g.0
gives_fits schema q (Err e) valid g written = tt

-- ---- the main block

pub main_first : (schema : SchemaModel) (es : List Earlier) (main : Block) (r : Option Refusal) (e : PlanErr) → r ≡ main_refusal schema es main → Tells r e → Tells (main_refusals schema es main) e
main_first schema es main r (err.Refused kind name) m h = some-first (main_refusal schema es main) _ _ (sym m ∙ h)
main_first schema es main r (err.Forbidden column label) m h = absurd h
main_first schema es main r err.Memory m h = tt

pub main_size : (schema : SchemaModel) (es : List Earlier) (main : Block) (n : Node) (size : Option Refusal) → main_refusal schema es main ≡ None → n ≡ main_tree schema es main → size ≡ refuse_if (nat_lt 32 (nodes n)) 8 [] → main_refusals schema es main ≡ size
main_size schema es main n size none t s = after-none (main_refusal schema es main) _ _ none (ap (λ m. refuse_if (nat_lt 32 (nodes m)) 8 []) (sym t) ∙ sym s)

-- where no column is forbidden, each is public
pub open-to-all : (cs : List OutColumn) → forbidden cs ≡ None → list_all (λ c. is_public c.label) cs ≡ true
open-to-all [] e = refl
open-to-all (c ∷ cs) e = one (is_public c.label) e (open-to-all cs)
  where
    one : (b : Bool) → cond (not b) (Some c) (forbidden cs) ≡ None → (forbidden cs ≡ None → list_all (λ c. is_public c.label) cs ≡ true) → (b && list_all (λ c. is_public c.label) cs) ≡ true
    one true f next = next f
    one false f next = absurd cc
