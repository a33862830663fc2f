use Rattle.std.proofs.Common.{◌≡◌, ◌++◌, take}
use Rattle.std.specs.List.{flat_map}
use Rattle.pdn_site.proofs.outputs.list_gates.Given as goal

abbrev pub invariant-loop-plane : goal.invariant-loop-plane
invariant-loop-plane l = l.words.items ≡ l.list.valid ++ flat_map (λ plane. plane) (take l.plane-index l.plane-items)
