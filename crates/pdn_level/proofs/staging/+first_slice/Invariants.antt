use Rattle.std.proofs.Common.{length}
use Rattle.pdn_level.proofs.staging.+first_slice.Given as goal

abbrev pub decreases-first_slice : goal.decreases-first_slice
decreases-first_slice l = length l.slices.now
