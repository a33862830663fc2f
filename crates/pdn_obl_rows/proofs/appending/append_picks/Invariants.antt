use Rattle.std.proofs.Common.{◌≡◌, ◌++◌, drop}
use Rattle.pdn_obl_rows.specs.Operators.{append_picks, words_of}
use Rattle.pdn_obl_rows.proofs.appending.append_picks.Given as goal

abbrev pub invariant-loop-m : goal.invariant-loop-m
invariant-loop-m l = l.picks.items ++ append_picks (words_of l.which) l.m (drop l.m l.lists) ≡ append_picks (words_of l.which) 0 l.lists
