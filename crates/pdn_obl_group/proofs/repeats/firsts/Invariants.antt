use Rattle.std.proofs.Common.{◌-◌, ◌≤◌, ◌<◌, length}
use Rattle.std.specs.Prelude.{slice_index_or}
use Rattle.std.specs.List.{All, range_with_len}
use Rattle.pdn_circuit.specs.Blocks.{each, ◌>>=◌}
use Rattle.pdn_circuit.specs.Building.{Along}
use Rattle.pdn_circuit.proofs.Making.{give_after}
use Rattle.pdn_obl_group.specs.Loops.{each_word}
use Rattle.pdn_obl_group.specs.Operators.{unmarked}
use Rattle.pdn_obl_group.proofs.repeats.firsts.Given as goal

abbrev pub invariant-loop-word : goal.invariant-loop-word
invariant-loop-word l = record {
  along : Along l.initial.b (each_word 0 (unmarked l.list.valid) l.dups) l.b (each (λ w. unmarked l.list.valid w (slice_index_or l.dups w 0)) (range_with_len l.word (length l.dups - l.word)) >>= give_after l.words.items);
  longer : length l.initial.b.gates ≤ length l.b.gates;
  there : All (λ gate. gate < length l.b.gates) l.words.items;
}
