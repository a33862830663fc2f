use Rattle.std.proofs.Common.{◌≡◌, ◌++◌, take, drop}
use Rattle.pdn_site.specs.Directories.{placed}
use Rattle.pdn_site.proofs.directories.place_of.Given as goal

abbrev pub invariant-loop-i : goal.invariant-loop-i
invariant-loop-i l = placed l.value l.values ≡ take l.i l.values ++ placed l.value (drop l.i l.values)
