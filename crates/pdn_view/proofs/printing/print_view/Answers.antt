use Rattle.std.proofs.Common.{arith}
use Rattle.pdn_view.proofs.printing.print_view.Goals as goal

pub put_parts-requires : goal.put_parts-requires
put_parts-requires c = omega (arith, c.in_ok-first.ensures.small, c.view.inside.units.small, c.view.inside.units.ok.0, c.view.inside.units.ok.1, c.as_slice-3.ensures.len)
