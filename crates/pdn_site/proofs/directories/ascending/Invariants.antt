use Rattle.std.proofs.Common.{◌≡◌, ◌-◌, drop, length}
use Rattle.pdn_site.specs.Directories.{ascending}
use Rattle.pdn_site.proofs.directories.ascending.Given as goal

abbrev pub invariant-loop-i : goal.invariant-loop-i
invariant-loop-i l = l.out.items ≡ ascending (drop (length l.values - l.i) l.values)
