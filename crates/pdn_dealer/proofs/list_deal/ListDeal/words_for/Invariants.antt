use Rattle.std.proofs.Common.{◌≡◌}
use Rattle.pdn_dealer.proofs.TapeWords.{words_from}
use Rattle.pdn_dealer.proofs.list_deal.ListDeal.words_for.Given as goal

abbrev pub invariant-loop-entry : goal.invariant-loop-entry
invariant-loop-entry l = words_from l.entry-items 0 l.ticket l.unit ≡ words_from l.entry-items l.entry-index l.ticket l.unit
