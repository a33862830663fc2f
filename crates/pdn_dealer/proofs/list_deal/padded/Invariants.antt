use Rattle.std.proofs.Common.{◌≡◌}
use Rattle.std.specs.Prelude.{slice_index}
use Rattle.pdn_dealer.specs.Tapes.{first_words}
use Rattle.pdn_dealer.proofs.list_deal.padded.Given as goal

abbrev pub invariant-loop-place : goal.invariant-loop-place
invariant-loop-place l = l.words.items ≡ first_words (slice_index l.given) l.place
