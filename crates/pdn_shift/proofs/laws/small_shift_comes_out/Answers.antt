use Rattle.std.proofs.Common.{refl}
use Rattle.pdn_shift.proofs.laws.small_shift_comes_out.Goals as goal

pub returns : goal.returns
returns c = record { for_a = refl; for_b = refl; back_a = refl; back_b = refl; view_a = refl; view_b = refl; out_a = refl; out_b = refl }
