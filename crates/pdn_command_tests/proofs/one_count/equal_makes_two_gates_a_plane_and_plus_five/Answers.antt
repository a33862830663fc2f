use Rattle.std.proofs.Common.{refl, arith}
use Rattle.pdn_command_tests.proofs.Planes.{zeros_there}
use Rattle.pdn_command_tests.proofs.one_count.equal_makes_two_gates_a_plane_and_plus_five.Goals as goal

pub plus-requires-clause-there : goal.plus-requires-clause-there
plus-requires-clause-there g c = zeros_there _ 32 _ refl (omega (arith, c.in_ok-equal.ensures.there))
