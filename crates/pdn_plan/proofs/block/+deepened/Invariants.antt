use Rattle.pdn_plan.proofs.block.+deepened.Given as goal

abbrev pub decreases-deepened : goal.decreases-deepened
decreases-deepened l = l.count
