use Rattle.std.proofs.Common.{◌≡◌, ◌≤◌, ◌++◌, ◌+◌, ◌-◌, drop, length}
use Rattle.pdn_view.specs.Views.{slices}
use Rattle.pdn_view.proofs.due.add_slices.Given as goal

abbrev pub invariant-loop-i : goal.invariant-loop-i
invariant-loop-i l = record {
  left : l.dues.items ++ slices (drop l.i l.a) (drop l.j l.b) ≡ l.initial.dues.items ++ slices l.a l.b;
  first : l.i ≤ length l.a;
  second : l.j ≤ length l.b;
}

abbrev pub decreases-loop-i : goal.decreases-loop-i
decreases-loop-i l = (length l.a - l.i) + (length l.b - l.j)
