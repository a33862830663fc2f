use Rattle.std.proofs.Common.{refl, ◌∙◌}
use Rattle.std.proofs.lemmas.Result.{err_from_is_err_and}
use Rattle.pdn_query.proofs.Walks.{begun}
use Rattle.pdn_commands.specs.Twinning.{twin_query}
use Rattle.pdn_commands.proofs.Runs.{query_on, query_stopped, queries_done}
use Rattle.pdn_commands.proofs.twin.twin_all.Goals as goal

pub loop-i-init : goal.loop-i-init
loop-i-init g c = record { leads = λ views keeps. begun _ _; only = (refl, refl, refl) }

pub loop-i-preserved : goal.loop-i-preserved
loop-i-preserved g c = record {
  leads = λ views keeps. query_on (twin_query views (g.D.Deal.tape c.args.crew.now.deal.now) c.args.worlds.now) c.args.queries.now c.loop-i.i (c.loop-i.invariant.leads views keeps) c.index-queries-i.result c.loop-i-test.true c.index-queries-i.is (c.in_ok-twin_query.ensures.came views keeps);
  only = let f = c.loop-i.invariant.only in let s = c.in_ok-twin_query.ensures.only in (s.0 ∙ f.0, s.1 ∙ f.1, s.2 ∙ f.2);
}

pub returns-in_err-twin_query-clause-goes : goal.returns-in_err-twin_query-clause-goes
returns-in_err-twin_query-clause-goes g c =
    let p = err_from_is_err_and c.from_residual.result c.from_residual.ensures.1 in
    rw (p.1, p.2) (λ views keeps. query_stopped (twin_query views (g.D.Deal.tape c.args.crew.now.deal.now) c.args.worlds.now) c.args.queries.now c.loop-i.i (c.loop-i.invariant.leads views keeps) c.index-queries-i.result c.loop-i-test.true c.index-queries-i.is _ (c.in_err-twin_query.ensures.came views keeps))

pub returns-clause-goes : goal.returns-clause-goes
returns-clause-goes g c = λ views keeps. queries_done (twin_query views (g.D.Deal.tape c.args.crew.now.deal.now) c.args.worlds.now) c.args.queries.now c.loop-i.i (c.loop-i.invariant.leads views keeps) c.loop-i-test.false

pub returns-in_err-twin_query-clause-only : goal.returns-in_err-twin_query-clause-only
returns-in_err-twin_query-clause-only g c = let f = c.loop-i.invariant.only in let s = c.in_err-twin_query.ensures.only in (s.0 ∙ f.0, s.1 ∙ f.1, s.2 ∙ f.2)
