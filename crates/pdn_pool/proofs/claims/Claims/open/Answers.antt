use Rattle.pdn_pool.proofs.DrawSteps.{begins}
use Rattle.pdn_pool.proofs.claims.Claims.open.Goals as goal

pub of_words-requires : goal.of_words-requires
of_words-requires c = begins
