use Rattle.std.proofs.Common.{◌≡◌, ◌++◌, map, drop}
use Rattle.pdn_site.specs.Compiling.{parts_of}
use Rattle.pdn_site.specs.Budget.{shapes_along, all_of, Reaches}
use Rattle.pdn_site.proofs.compiling.below_root.Given as goal

abbrev pub invariant-loop-i : goal.invariant-loop-i
invariant-loop-i l = record {
  made : Reaches l.fn.left (all_of (shapes_along l.schema l.root 0 l.staged l.view)) l.left l.units.items (all_of (shapes_along l.schema l.root l.i (drop l.i l.staged) (drop l.i l.view)));
  parts : map parts_of (shapes_along l.schema l.root 0 l.staged l.view) ≡ l.parts.items ++ map parts_of (shapes_along l.schema l.root l.i (drop l.i l.staged) (drop l.i l.view));
}
