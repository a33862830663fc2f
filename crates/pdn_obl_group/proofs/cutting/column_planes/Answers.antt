use Rattle.std.proofs.Common.{ℕ, ap, refl, subst, length}
use Rattle.std.specs.Int.{bit_at}
use Rattle.std.specs.List.{range_with_len}
use Rattle.pdn_circuit.specs.Blocks.{Making, each}
use Rattle.pdn_circuit.specs.Building.{Makes, Stops}
use Rattle.pdn_circuit.proofs.Making.{along_memory}
use Rattle.pdn_obl_rows.proofs.Walks.{range_begin, range_stops, range_next, range_end}
use Rattle.pdn_obl_group.specs.Operators.{bit_plane}
use Rattle.pdn_obl_group.proofs.Steps.{exit_vec, none_there, push_there, pushed_count}
use Rattle.pdn_obl_group.proofs.cutting.column_planes.Goals as goal

pub loop-bit-init : goal.loop-bit-init
loop-bit-init c = record {
  along = range_begin (λ bit. bit_plane (bit_at c.args.number bit)) c.args.b.now c.args.width _ c.new-planes.ensures.items;
  there = none_there _ _ c.new-planes.ensures.items;
  count = ap length c.new-planes.ensures.items;
}

pub returns-in_err-plane-clause-made : goal.returns-in_err-plane-clause-made
returns-in_err-plane-clause-made c =
    let f : ℕ → Making ℕ = λ bit. bit_plane (bit_at c.args.number bit) in
    exit_vec _ _ (each f (range_with_len 0 c.args.width)) _ _ c.from_residual.ensures.1
    (range_stops f _ _ _ _ c.loop-bit.bit c.args.width c.loop-bit-test.true c.loop-bit.invariant.along _ _
    (subst (λ (x : ℕ). Stops c.loop-bit.b c.bit_plane.new.b (bit_plane x (length c.loop-bit.b.gates)) c.in_err-plane.field-0.0) c.bit_of.ensures c.in_err-plane.ensures.made))

pub returns-in_err-push-clause-made : goal.returns-in_err-push-clause-made
returns-in_err-push-clause-made c =
    let f : ℕ → Making ℕ = λ bit. bit_plane (bit_at c.args.number bit) in
    exit_vec _ _ (each f (range_with_len 0 c.args.width)) _ _ c.from_residual-in_err-push.ensures.1
    (along_memory _ _ _ _ (range_next f _ _ _ _ c.loop-bit.bit c.args.width c.loop-bit-test.true c.loop-bit.invariant.along _ _ _
    (subst (λ (x : ℕ). Makes c.loop-bit.b c.bit_plane.new.b (bit_plane x (length c.loop-bit.b.gates)) c.in_ok-plane.plane) c.bit_of.ensures c.in_ok-plane.ensures.made) refl))

pub loop-bit-preserved : goal.loop-bit-preserved
loop-bit-preserved c =
    let f : ℕ → Making ℕ = λ bit. bit_plane (bit_at c.args.number bit) in
    let made = subst (λ (x : ℕ). Makes c.loop-bit.b c.bit_plane.new.b (bit_plane x (length c.loop-bit.b.gates)) c.in_ok-plane.plane) c.bit_of.ensures c.in_ok-plane.ensures.made in
    record {
      along = range_next f _ _ _ _ c.loop-bit.bit c.args.width c.loop-bit-test.true c.loop-bit.invariant.along _ _ _ made c.in_ok-push.ensures.items;
      there = push_there _ _ _ _ c.in_ok-push.ensures.items made c.loop-bit.invariant.there c.in_ok-plane.ensures.there;
      count = pushed_count _ _ _ _ c.in_ok-push.ensures.items c.loop-bit.invariant.count;
    }

pub returns-clause-made : goal.returns-clause-made
returns-clause-made c = range_end (λ bit. bit_plane (bit_at c.args.number bit)) _ _ _ _ c.loop-bit.bit c.args.width c.loop-bit-test.false c.loop-bit.invariant.along
