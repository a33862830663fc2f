use Rattle.std.proofs.Common.{◌≡◌, ◌+◌, drop}
use Rattle.pdn_obl_rank.specs.Keys.{place_among}
use Rattle.pdn_obl_rank.proofs.keys.place_among.Given as goal

abbrev pub invariant-loop-down : goal.invariant-loop-down
invariant-loop-down l = record {
  whole : place_among l.column l.downs ≡ l.place + place_among l.column (drop l.down-index l.downs);
  place : l.place ≡ l.down-index;
}
