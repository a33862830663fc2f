use Rattle.std.proofs.Common.{◌∙◌, ap, ◌++◌, List, ℕ}
use Rattle.pdn_obl_rank.proofs.ThereLaws.{up_more}
use Rattle.pdn_obl_rank.proofs.numbers.planes_up.Goals as goal

pub loop-k-preserved : goal.loop-k-preserved
loop-k-preserved c =
    up_more c.args.numbers.now c.loop-k.k c.index-numbers-k.result c.loop-k.planes.items c.push_all.new.planes.items c.loop-k-test.true c.loop-k.invariant
    (c.in_ok-push_all.ensures ∙ ap (λ (bits : List ℕ). c.loop-k.planes.items ++ bits) (c.bits_of.ensures ∙ c.index-numbers-k.is))
