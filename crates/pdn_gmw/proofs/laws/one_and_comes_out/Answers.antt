use Rattle.std.proofs.Common.{refl}
use Rattle.pdn_gmw.proofs.laws.one_and_comes_out.Goals as goal

pub returns : goal.returns
returns c = record { from_a = refl; from_b = refl; view_a = refl; view_b = refl; out_a = refl; out_b = refl; one_frame = refl; rounds = refl; rounds_of_chain = refl }
