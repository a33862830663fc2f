-- Answers worked out, by computing.
use Rattle.std.proofs.Common.{refl}
use Rattle.pdn_plan.specs.Answer.{answer, block_means}
use Rattle.pdn_plan.specs.Worked.{AnswersWorked}

pub answers_worked : AnswersWorked
unfolding answer block_means
answers_worked = record { often = refl; latest = refl; days = refl; joined = refl; how_many = refl; none_so_late = refl }
