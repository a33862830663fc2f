use Rattle.std.proofs.Common.{sym, ap₂, ◌∙◌, ◌++◌, ◌∷◌, [], ℕ, List}
use Rattle.pdn_site.proofs.BuiltLaws.{planes_step}
use Rattle.pdn_site.proofs.laying.planes_from.Goals as goal

pub loop-k-preserved : goal.loop-k-preserved
loop-k-preserved c = c.in_ok-push.ensures.items ∙ ap₂ (λ (planes : List (List ℕ)) (plane : List ℕ). planes ++ plane ∷ []) c.loop-k.invariant c.in_ok-words.ensures ∙ sym (planes_step c.args.first c.args.words c.loop-k.k)
