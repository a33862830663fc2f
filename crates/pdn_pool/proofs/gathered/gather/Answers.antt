use Rattle.std.proofs.Common.{length, All, IfOk, ◌∙◌, ap, arith}
use Rattle.std.proofs.lemmas.List.{length-replicate}
use Rattle.std.proofs.lemmas.Result.{IfOk-at_ok}
use Rattle.pdn_pool.specs.Results.{GivenAt}
use Rattle.pdn_pool.specs.Work.{IsWork}
use Rattle.pdn_pool.proofs.PlaceLaws.{all_next, all_some, each_gives, if_ok, gathering_begins, gathering_goes, gathering_ends}
use Rattle.pdn_pool.proofs.gathered.gather.Goals as goal

pub loop-worked-init : goal.loop-worked-init
loop-worked-init g c =
    let hand = c.new-joined.ensures.same in
    let rest = c.into_iter-worked-iterator.ensures.into_iter_gives.0 in (
      c.new-joined.ensures.own ∙ c.requires.first.0.0,
      gathering_begins g.J.Job.gives c.args.jobs.now _ _ _ _ _
          (ap length rest)
          (rw hand c.requires.first.1)
          (rw hand c.requires.first.0.1)
          (ap length c.in_ok-places.ensures ∙ length-replicate _ _),
      rw rest c.requires.each,
      rw rest c.requires.gives,
    )

pub place-requires : goal.place-requires
place-requires g c =
    let next = all_next (λ r. IfOk r (λ w. All (GivenAt g.J.Job.gives c.args.jobs.now) w.outs.items)) _ _ _ c.in-Some.ensures.steps.0 c.loop-worked.invariant.3 in
    let given = IfOk-at_ok (λ w. All (GivenAt g.J.Job.gives c.args.jobs.now) w.outs.items) c.in_ok-seat.was next.0 in
    let count = c.loop-worked.invariant.1.count in
    λ k d h. let below = (given k d h).below in omega arith

pub loop-worked-preserved : goal.loop-worked-preserved
loop-worked-preserved g c =
    let works = all_next (λ r. IfOk r (IsWork c.args.claims.now (length c.args.jobs.now))) _ _ _ c.in-Some.ensures.steps.0 c.loop-worked.invariant.2 in
    let gives = all_next (λ r. IfOk r (λ w. All (GivenAt g.J.Job.gives c.args.jobs.now) w.outs.items)) _ _ _ c.in-Some.ensures.steps.0 c.loop-worked.invariant.3 in
    let work = IfOk-at_ok (IsWork c.args.claims.now (length c.args.jobs.now)) c.in_ok-seat.was works.0 in
    let given = IfOk-at_ok (λ w. All (GivenAt g.J.Job.gives c.args.jobs.now) w.outs.items) c.in_ok-seat.was gives.0 in
    let fewer = ap length c.in-Some.ensures.steps.0 in
    let part = work.part in
    let more = c.join.ensures.weight in (
      c.join.ensures.own,
      gathering_goes g.J.Job.gives c.args.jobs.now _ _ _ _ _ _ _ _ _ _ _ _ c.loop-worked.invariant.1
          (omega arith) (omega arith) c.join.ensures.drawn work.drew work.ended given c.place.ensures,
      works.1,
      gives.1,
    )

pub results-requires : goal.results-requires
results-requires g c =
    let q = c.loop-worked.invariant.1 in
    let none = c.in-None.ensures.steps.0 in
    all_some g.J.Job.gives c.args.jobs.now c.loop-worked.places.items q.count
    (gathering_ends g.J.Job.gives c.args.jobs.now _ _ _ _ _ c.word.result q (omega arith) c.requires.some c.word.ensures.all)

pub returns-clause-each : goal.returns-clause-each
returns-clause-each g c =
    let q = c.loop-worked.invariant.1 in
    let none = c.in-None.ensures.steps.0 in
    let has = gathering_ends g.J.Job.gives c.args.jobs.now _ _ _ _ _ c.word.result q (omega arith) c.requires.some c.word.ensures.all in
    if_ok c.results.result (λ outs e. each_gives g.J.Job.gives c.args.jobs.now c.loop-worked.places.items outs.items e q.count has) c.results.ensures
