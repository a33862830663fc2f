use Rattle.std.proofs.Common.{List, ℕ, ◌++◌, refl}
use Rattle.std.proofs.lemmas.Result.{err_from_is_err_and}
use Rattle.pdn_base.specs.Operators.{Rows}
use Rattle.pdn_tree.specs.Plans.{PlanModel}
use Rattle.pdn_view.specs.declared.view.Party.{Party}
use Rattle.pdn_query.specs.Answering.{answer_text, shown_text}
use Rattle.pdn_query.specs.Script.{Script}
use Rattle.pdn_query.specs.Showing.{ThreeViews, parties_of}
use Rattle.pdn_query.proofs.Walks.{leads_along, leads_same, halted}
use Rattle.pdn_query.proofs.answer.query_answer.Goals as goal

-- what follows the text of an answer
abbrev told : ℕ → List Party → (List ℕ → Script) → PlanModel → ℕ → Rows → ThreeViews → Script
told number parties next plan ticket rows views = next (answer_text number ticket plan.columns rows ++ shown_text parties views)

pub returns-in_err-answered-clause-came : goal.returns-in_err-answered-clause-came
returns-in_err-answered-clause-came g c =
    let p = err_from_is_err_and c.from_residual.result c.from_residual.ensures.1 in
    rw (p.1, p.2) (λ next. c.in_err-answered.ensures.came (told c.args.asked.number (parties_of c.args.asked.show) next))

pub returns-in_err-whole_text-clause-came : goal.returns-in_err-whole_text-clause-came
returns-in_err-whole_text-clause-came g c =
    let p = err_from_is_err_and c.from_residual-in_err-whole_text.result c.from_residual-in_err-whole_text.ensures.1 in
    rw (p.1, p.2) (λ next. leads_along (c.in_ok-answered.ensures.came (told c.args.asked.number (parties_of c.args.asked.show) next)) (halted _ _ _ refl))

pub returns-clause-came : goal.returns-clause-came
returns-clause-came g c = λ next. leads_same next _ _ c.in_ok-whole_text.ensures (c.in_ok-answered.ensures.came (told c.args.asked.number (parties_of c.args.asked.show) next))
