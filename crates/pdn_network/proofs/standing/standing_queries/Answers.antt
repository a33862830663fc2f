use Rattle.std.proofs.Common.{subst, List, ℕ, sym}
use Rattle.pdn_sql.specs.Reading.{Says}
use Rattle.pdn_network.specs.Standing.{standing, standing_text, recurrent_text, common_text, late_text}
use Rattle.pdn_network.proofs.StandingLaws.{standing_says}
use Rattle.pdn_network.proofs.standing.standing_queries.Goals as goal

pub unreachable-requires : goal.unreachable-requires
unfolding standing_text recurrent_text common_text late_text
unreachable-requires c = rw c.in-Err-At.field-0-is at (c.in-Err-At.ensures.only standing (subst (λ (bytes : List ℕ). Says 3 bytes standing) (sym c.as_bytes.ensures.value) standing_says))

pub returns-in-Ok : goal.returns-in-Ok
unfolding standing_text recurrent_text common_text late_text
returns-in-Ok c = c.in-Ok.ensures.only standing (subst (λ (bytes : List ℕ). Says 3 bytes standing) (sym c.as_bytes.ensures.value) standing_says)
