use Rattle.std.proofs.Common.{◌≡◌}
use Rattle.pdn_obl_rank.specs.Keys.{sort_key}
use Rattle.pdn_obl_rank.proofs.keys.sort_key.Given as goal

abbrev pub invariant-loop-column : goal.invariant-loop-column
invariant-loop-column l = l.keys.items ≡ sort_key l.order l.column
