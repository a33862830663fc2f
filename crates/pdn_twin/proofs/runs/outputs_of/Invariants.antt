use Rattle.std.proofs.Common.{◌≡◌, take}
use Rattle.std.specs.List.{flat_map}
use Rattle.pdn_gmw.specs.Pairs.{Run}
use Rattle.pdn_twin.proofs.runs.outputs_of.Given as goal

abbrev pub invariant-loop-k : goal.invariant-loop-k
invariant-loop-k l = record {
  a : l.a.items ≡ flat_map (λ (run : Run). run.a.outputs) (take l.k l.runs);
  b : l.b.items ≡ flat_map (λ (run : Run). run.b.outputs) (take l.k l.runs);
}
