use Rattle.std.specs.Prelude.{slice_index}
use Rattle.pdn_dealer.proofs.TapeWords.{first_words_step}
use Rattle.pdn_dealer.proofs.list_deal.padded.Goals as goal

pub loop-place-preserved : goal.loop-place-preserved
loop-place-preserved c =
    first_words_step (slice_index c.args.given.now) c.loop-place.place _ _ _ c.loop-place.invariant c.word_or_zero.ensures c.in_ok-push.ensures.items
