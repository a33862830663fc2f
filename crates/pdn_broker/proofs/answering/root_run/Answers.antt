use Rattle.std.proofs.Common.{◌-◌, length, sym, ap, ◌∙◌, arith}
use Rattle.std.proofs.lemmas.Result.{IfOk-weaker}
use Rattle.pdn_broker.specs.Prepared.{PreparedModel}
use Rattle.pdn_broker.specs.Running.{unit_at}
use Rattle.pdn_broker.proofs.PreparedLaws.{some_units, root_in_range, root_has_circuit, root_run_takes, root_run_is}
use Rattle.pdn_broker.proofs.answering.root_run.Goals as goal

pub overflow_sub-at : goal.overflow_sub-at
overflow_sub-at g c = omega (arith, c.units.ensures.count, some_units _ c.units.ensures.kept)

pub unit_at-root-requires : goal.unit_at-root-requires
unit_at-root-requires g c = root_in_range _ c.prepared.invariant _ (c.units.ensures.count ∙ ap (λ (p : PreparedModel). length p.units) (sym c.prepared.view_is))

pub circuit_of-requires : goal.circuit_of-requires
circuit_of-requires g c = root_has_circuit _ c.prepared.invariant _ _ (c.units.ensures.count ∙ ap (λ (p : PreparedModel). length p.units) (sym c.prepared.view_is)) c.unit_at-root.ensures

pub run_unit-requires-after_bounds : goal.run_unit-requires-after_bounds
run_unit-requires-after_bounds g c κs within =
    root_run_takes c.args.prepared.now c.units.ensures.kept (g.D.Deal.tape c.args.deal.now) c.args.ticket c.units.result _ _ _ _ c.units.ensures.count
    (c.unit_at-root.ensures ∙ ap (λ (p : PreparedModel). unit_at p (c.units.result - 1)) c.prepared.view_is) c.circuit_of.ensures c.in_ok-own.ensures c.requires

pub returns : goal.returns
returns g c =
    IfOk-weaker c.run_unit.result _ _
    (λ run is. root_run_is c.args.prepared.now c.units.ensures.kept (g.D.Deal.tape c.args.deal.now) c.args.ticket c.units.result _ _ _ _ run c.units.ensures.count
    (c.unit_at-root.ensures ∙ ap (λ (p : PreparedModel). unit_at p (c.units.result - 1)) c.prepared.view_is) c.circuit_of.ensures c.in_ok-own.ensures c.requires is)
    c.run_unit.ensures
