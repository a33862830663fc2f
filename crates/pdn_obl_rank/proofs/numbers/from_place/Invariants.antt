use Rattle.std.proofs.Common.{◌≡◌, ◌<◌, ◌+◌, ◌-◌, ◌*◌, ◌^◌, nat_le}
use Rattle.pdn_circuit.specs.Plain.{truth}
use Rattle.pdn_obl_rows.specs.Encoding.{word_of}
use Rattle.pdn_obl_rank.proofs.numbers.from_place.Given as goal

abbrev pub invariant-loop-i : goal.invariant-loop-i
invariant-loop-i l = record {
  bits : l.bits ≡ word_of (λ row. truth (nat_le l.place row)) (64 * l.word + (64 - l.i)) l.i;
  small : l.bits < 2 ^ l.i;
}
