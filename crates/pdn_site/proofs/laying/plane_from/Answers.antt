use Rattle.std.proofs.Common.{sym, ap, ◌∙◌, ◌+◌, ◌++◌, ◌∷◌, [], ℕ, List}
use Rattle.pdn_site.proofs.BuiltLaws.{range_more}
use Rattle.pdn_site.proofs.laying.plane_from.Goals as goal

pub loop-k-preserved : goal.loop-k-preserved
loop-k-preserved c = c.in_ok-push.ensures.items ∙ ap (λ (gates : List ℕ). gates ++ (c.args.first + c.loop-k.k) ∷ []) c.loop-k.invariant ∙ sym (range_more c.args.first c.loop-k.k)
