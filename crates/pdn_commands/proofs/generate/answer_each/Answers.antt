use Rattle.std.proofs.Common.{refl, ◌∙◌}
use Rattle.std.proofs.lemmas.Result.{err_from_is_err_and}
use Rattle.pdn_commands.specs.Generating.{short_step}
use Rattle.pdn_commands.proofs.Runs.{query_on, query_stopped, queries_done}
use Rattle.pdn_query.proofs.Walks.{begun}
use Rattle.pdn_commands.proofs.generate.answer_each.Goals as goal

pub loop-i-init : goal.loop-i-init
loop-i-init g c = record { leads = begun _ _; only = (refl, refl, refl) }

pub loop-i-preserved : goal.loop-i-preserved
loop-i-preserved g c = let network = c.args.network.now in record {
  leads = query_on (short_step network.schema network.a network.b c.args.size.seed c.args.size.patients) c.args.queries.now c.loop-i.i c.loop-i.invariant.leads c.index-queries-i.result c.loop-i-test.true c.index-queries-i.is c.in_ok-answer_short.ensures.came;
  only = let f = c.loop-i.invariant.only in let s = c.in_ok-answer_short.ensures.only in (s.0 ∙ f.0, s.1 ∙ f.1, s.2 ∙ f.2);
}

pub returns-in_err-answer_short-clause-goes : goal.returns-in_err-answer_short-clause-goes
returns-in_err-answer_short-clause-goes g c =
    let p = err_from_is_err_and c.from_residual.result c.from_residual.ensures.1 in
    let network = c.args.network.now in
    rw (p.1, p.2) (query_stopped (short_step network.schema network.a network.b c.args.size.seed c.args.size.patients) c.args.queries.now c.loop-i.i c.loop-i.invariant.leads c.index-queries-i.result c.loop-i-test.true c.index-queries-i.is _ c.in_err-answer_short.ensures.came)

pub returns-clause-goes : goal.returns-clause-goes
returns-clause-goes g c =
    let network = c.args.network.now in
    queries_done (short_step network.schema network.a network.b c.args.size.seed c.args.size.patients) c.args.queries.now c.loop-i.i c.loop-i.invariant.leads c.loop-i-test.false

pub returns-in_err-answer_short-clause-only : goal.returns-in_err-answer_short-clause-only
returns-in_err-answer_short-clause-only g c = let f = c.loop-i.invariant.only in let s = c.in_err-answer_short.ensures.only in (s.0 ∙ f.0, s.1 ∙ f.1, s.2 ∙ f.2)
