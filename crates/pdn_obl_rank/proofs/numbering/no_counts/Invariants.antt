use Rattle.std.proofs.Common.{◌≡◌, replicate}
use Rattle.pdn_obl_group.specs.Loops.{no_count}
use Rattle.pdn_obl_rank.proofs.numbering.no_counts.Given as goal

abbrev pub invariant-loop-k : goal.invariant-loop-k
invariant-loop-k l = l.counters.items ≡ replicate l.k (no_count l.len)
