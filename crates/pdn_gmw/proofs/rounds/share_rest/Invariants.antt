use Rattle.std.proofs.Common.{◌≡◌, length, take}
use Rattle.std.specs.List.{fold}
use Rattle.pdn_gmw.specs.Known.{linear_settled}
use Rattle.pdn_gmw.proofs.rounds.share_rest.Given as goal

abbrev pub invariant-loop-k : goal.invariant-loop-k
invariant-loop-k l = record {
  long : length l.shares ≡ length l.initial.shares;
  shares : l.shares ≡ fold (linear_settled l.circuit.gates) l.initial.shares (take l.k l.rest);
}
