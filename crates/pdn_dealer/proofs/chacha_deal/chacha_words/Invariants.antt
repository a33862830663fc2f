use Rattle.std.proofs.Common.{◌≡◌}
use Rattle.rand_chacha.specs.ChaCha.{key_of}
use Rattle.pdn_dealer.specs.Tapes.{first_words, low_half, chacha_tape}
use Rattle.pdn_dealer.proofs.chacha_deal.chacha_words.Given as goal

abbrev pub invariant-loop : goal.invariant-loop
invariant-loop l = record {
  key : l.stream.key ≡ key_of l.fn.key;
  ticket : l.stream.stream ≡ l.ticket;
  place : l.stream.word_pos ≡ low_half l.unit l.counter;
  words : l.words.items ≡ first_words (chacha_tape l.fn.key l.ticket l.unit) l.counter;
}
