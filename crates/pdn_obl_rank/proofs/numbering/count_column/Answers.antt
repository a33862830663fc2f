use Rattle.std.proofs.Common.{map, List, ℕ}
use Rattle.std.specs.Prelude.{slice_index}
use Rattle.pdn_obl_rank.proofs.CompareLaws.{own_more}
use Rattle.pdn_obl_rank.proofs.numbering.count_column.Goals as goal

pub loop-bit-preserved : goal.loop-bit-preserved
loop-bit-preserved c =
    own_more (λ bit. map (λ (number : List ℕ). slice_index number bit) c.args.ints.now) c.loop-bit.bit c.loop-bit.planes.items c.push.new.self.items c.in_ok-count_plane.field-0 c.loop-bit.invariant c.in_ok-push.ensures.items c.in_ok-count_plane.ensures.gives
