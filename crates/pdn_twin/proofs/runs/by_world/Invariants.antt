use Rattle.std.proofs.Common.{◌≡◌, ◌++◌, map}
use Rattle.pdn_twin.specs.declared.unit_twin.UnitTwin.{UnitTwin}
use Rattle.pdn_twin.proofs.runs.by_world.Given as goal

abbrev pub invariant-loop-twin : goal.invariant-loop-twin
invariant-loop-twin l =
    let rest = l.twin-iterator.rest.items in
    record {
      first : l.runs.first.items ++ map (λ (t : UnitTwin). t.first) rest ≡ map (λ (t : UnitTwin). t.first) l.fn.twins.items;
      second : l.runs.second.items ++ map (λ (t : UnitTwin). t.second) rest ≡ map (λ (t : UnitTwin). t.second) l.fn.twins.items;
      changed : l.runs.changed.items ++ map (λ (t : UnitTwin). t.change) rest ≡ map (λ (t : UnitTwin). t.change) l.fn.twins.items;
    }
