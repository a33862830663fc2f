use Rattle.std.proofs.Common.{◌-◌, length, sym, ap, ◌∙◌, arith, subst}
use Rattle.std.proofs.lemmas.Result.{IfOk-weaker}
use Rattle.pdn_gmw.specs.Steps.{FinishedHalf}
use Rattle.pdn_site.specs.Models.{UnitModel}
use Rattle.pdn_broker.specs.Prepared.{PreparedModel, IsPrepared}
use Rattle.pdn_broker.specs.Running.{unit_at}
use Rattle.pdn_broker.proofs.PreparedLaws.{some_units, root_in_range, opens_of, opened_same, opened_count, opened_kinds, opened_are}
use Rattle.pdn_broker.proofs.answering.rows_of.Goals as goal

pub overflow_sub-units : goal.overflow_sub-units
overflow_sub-units c = omega (arith, c.units.ensures.count, some_units _ c.units.ensures.kept)

pub unit_at-root-requires : goal.unit_at-root-requires
unit_at-root-requires c = root_in_range _ c.prepared.invariant _ (c.units.ensures.count ∙ ap (λ (p : PreparedModel). length p.units) (sym c.prepared.view_is))

pub opened_rows-requires-clause-same : goal.opened_rows-requires-clause-same
opened_rows-requires-clause-same c =
    opened_same c.args.prepared.now c.args.run.now (opens_of _ c.units.ensures.kept c.args.ticket _ c.requires) _ _ (c.outputs.ensures ∙ ap (λ (f : FinishedHalf). f.outputs) c.a.ensures) (c.outputs-2.ensures ∙ ap (λ (f : FinishedHalf). f.outputs) c.b.ensures)

pub opened_rows-requires-clause-count : goal.opened_rows-requires-clause-count
opened_rows-requires-clause-count c =
    opened_count c.args.prepared.now c.args.run.now (opens_of _ c.units.ensures.kept c.args.ticket _ c.requires) _ _ (c.outputs.ensures ∙ ap (λ (f : FinishedHalf). f.outputs) c.a.ensures) (c.outputs-2.ensures ∙ ap (λ (f : FinishedHalf). f.outputs) c.b.ensures) _ _
    (c.as_slice.ensures.value ∙ ap (λ (p : PreparedModel). p.columns) c.prepared.view_is)
    (c.room_of.ensures ∙ ap (λ (u : UnitModel). u.len) (c.unit_at-root.ensures ∙ ap (λ (p : PreparedModel). unit_at p (c.units.result - 1)) c.prepared.view_is) ∙ ap (λ n. (unit_at c.args.prepared.now (n - 1)).len) c.units.ensures.count)

pub opened_rows-requires-clause-kinds : goal.opened_rows-requires-clause-kinds
opened_rows-requires-clause-kinds c =
    opened_kinds c.args.prepared.now c.args.run.now (opens_of _ c.units.ensures.kept c.args.ticket _ c.requires) _ _ (c.outputs.ensures ∙ ap (λ (f : FinishedHalf). f.outputs) c.a.ensures) (c.outputs-2.ensures ∙ ap (λ (f : FinishedHalf). f.outputs) c.b.ensures) _ _
    (c.as_slice.ensures.value ∙ ap (λ (p : PreparedModel). p.columns) c.prepared.view_is)
    (c.room_of.ensures ∙ ap (λ (u : UnitModel). u.len) (c.unit_at-root.ensures ∙ ap (λ (p : PreparedModel). unit_at p (c.units.result - 1)) c.prepared.view_is) ∙ ap (λ n. (unit_at c.args.prepared.now (n - 1)).len) c.units.ensures.count)

pub returns-clause-are : goal.returns-clause-are
returns-clause-are c =
    IfOk-weaker c.opened_rows.result _ _
    (λ rows is. is ∙ opened_are c.args.prepared.now c.args.run.now (opens_of _ c.units.ensures.kept c.args.ticket _ c.requires) _ _ (c.outputs.ensures ∙ ap (λ (f : FinishedHalf). f.outputs) c.a.ensures) (c.outputs-2.ensures ∙ ap (λ (f : FinishedHalf). f.outputs) c.b.ensures) _ _
    (c.as_slice.ensures.value ∙ ap (λ (p : PreparedModel). p.columns) c.prepared.view_is)
    (c.room_of.ensures ∙ ap (λ (u : UnitModel). u.len) (c.unit_at-root.ensures ∙ ap (λ (p : PreparedModel). unit_at p (c.units.result - 1)) c.prepared.view_is) ∙ ap (λ n. (unit_at c.args.prepared.now (n - 1)).len) c.units.ensures.count)
    _ (c.as_slice-2.ensures.value ∙ ap (λ (p : PreparedModel). p.order) c.prepared.view_is))
    c.opened_rows.ensures

pub returns-clause-mean : goal.returns-clause-mean
returns-clause-mean c = IfOk-weaker c.opened_rows.result _ _ (λ rows is. is ∙ (opens_of _ c.units.ensures.kept c.args.ticket _ c.requires).rows) (returns-clause-are c)
