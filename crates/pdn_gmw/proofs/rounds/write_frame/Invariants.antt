use Rattle.std.proofs.Common.{◌≡◌, ◌*◌, length, take}
use Rattle.std.specs.List.{flat_map}
use Rattle.pdn_gmw.specs.Known.{and_sends}
use Rattle.pdn_gmw.specs.Steps.{masked_words}
use Rattle.pdn_gmw.proofs.rounds.write_frame.Given as goal

abbrev pub invariant-loop-k : goal.invariant-loop-k
invariant-loop-k l = record {
  long : length l.frame ≡ length l.initial.frame;
  words : take (2 * l.k) l.frame ≡ flat_map (λ s. masked_words (and_sends l.views l.shares s)) (take l.k l.ands);
}
