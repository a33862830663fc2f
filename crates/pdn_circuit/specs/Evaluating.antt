-- How evaluation goes along the gates. Not part of a promise.
use Rattle.std.specs.Prelude.{◌≡◌, ℕ, ◌+◌, ◌≤◌, List, length, map, take, drop}
use Rattle.std.specs.List.{range_with_len}
use Rattle.pdn_base.specs.Words.{xor_lists, and_lists}
use Rattle.pdn_circuit.specs.declared.gate.Gate.{Gate}
use Rattle.pdn_circuit.specs.declared.gate.Gate.TheVariants as gate
use Rattle.pdn_circuit.specs.declared.joined.Joint.{Joint}
use Rattle.pdn_circuit.specs.declared.joined.Joint.TheVariants.{Xor, And}
use Rattle.pdn_circuit.specs.declared.joined.Run.{Run}
use Rattle.pdn_circuit.specs.Gates.{InputWords, values}

-- these are the words of the first gates
pub record Stands (inputs : InputWords) (gates : List Gate) (words : List ℕ) : Type 0 where
  pub within : length words ≤ length gates
  pub words_are : words ≡ values inputs (take (length words) gates)

abbrev pub joined : Joint → ℕ → ℕ → Gate
joined Xor a b = gate.Xor a b
joined And a b = gate.And a b

abbrev pub run_gates : Joint → ℕ → ℕ → ℕ → List Gate
run_gates joint a b len = map (λ k. joined joint (a + k) (b + k)) (range_with_len 0 len)

abbrev pub joined_lists : Joint → List ℕ → List ℕ → List ℕ
joined_lists Xor xs ys = xor_lists xs ys
joined_lists And xs ys = and_lists xs ys

-- the words of a run's gates, over the words before them
abbrev pub run_words : Run → List ℕ → List ℕ
run_words run words = joined_lists run.joint (take run.len (drop run.a words)) (take run.len (drop run.b words))

-- the gates from a place on are this run
pub record IsRun (gates : List Gate) (at : ℕ) (run : Run) : Type 0 where
  pub some : 1 ≤ run.len
  pub within : at + run.len ≤ length gates
  pub a : run.a + run.len ≤ at
  pub b : run.b + run.len ≤ at
  pub here : take run.len (drop at gates) ≡ run_gates run.joint run.a run.b run.len
