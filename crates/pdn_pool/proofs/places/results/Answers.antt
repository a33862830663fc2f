use Rattle.std.proofs.Common.{IsSome}
use Rattle.pdn_pool.proofs.PlaceLaws.{all_next, some_next}
use Rattle.pdn_pool.proofs.places.results.Goals as goal

pub loop-place-preserved : goal.loop-place-preserved
loop-place-preserved g c =
    let next = all_next IsSome _ _ _ c.in-Some.ensures.steps.0 c.loop-place.invariant.1 in
    (some_next _ _ _ _ _ _ _ c.in-Some.ensures.steps.0 c.unwrap.ensures c.in_ok-push.ensures.items c.loop-place.invariant.0, next.1)
