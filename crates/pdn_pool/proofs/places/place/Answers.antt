use Rattle.std.proofs.Common.{◌<◌, length, ◌∙◌}
use Rattle.std.proofs.lemmas.List.{length-set}
use Rattle.pdn_pool.proofs.PlaceLaws.{all_next, placed_next}
use Rattle.pdn_pool.proofs.places.place.Goals as goal

pub put-requires : goal.put-requires
put-requires g c =
    let next = all_next (λ p. p.0 < length c.args.places.now.items) _ _ _ c.in-Some.ensures.steps.0 c.loop-number.invariant.2 in
    rw c.loop-number.invariant.1 next.0

pub loop-number-preserved : goal.loop-number-preserved
loop-number-preserved g c =
    let next = all_next (λ p. p.0 < length c.args.places.now.items) _ _ _ c.in-Some.ensures.steps.0 c.loop-number.invariant.2 in
    let put = c.put.ensures in (
      rw put (placed_next _ _ _ _ _ c.in-Some.ensures.steps.0 c.loop-number.invariant.0),
      rw put (length-set _ _ _ ∙ c.loop-number.invariant.1),
      next.1,
    )
