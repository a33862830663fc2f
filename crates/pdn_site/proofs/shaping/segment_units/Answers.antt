use Rattle.std.proofs.Common.{refl, sym, subst, ◌∷◌, []}
use Rattle.pdn_site.specs.Directories.{kind_of}
use Rattle.pdn_site.specs.Budget.{Step, Reaches, shape_along}
use Rattle.pdn_site.proofs.CompilingLaws.{units_exit, value_passes, value_reaches}
use Rattle.pdn_site.proofs.shaping.segment_units.Goals as goal

pub returns-in_err-step : goal.returns-in_err-step
returns-in_err-step c = units_exit _ _ _ _ c.from_residual-in_err-step.ensures.1
    (value_passes c.args.tree.now.schema.now c.args.tree.now.top.now c.args.tree.now.leaves.now c.args.tree.now.number c.args.dirs.now c.args.left c.loop-value.left _ c.loop-value.units.items c.deref-value-items.result.now c.loop-value.value-index _ _
    c.loop-value-test.true c.value-item.is refl c.loop-value.invariant.made _ c.in_err-step.ensures)

pub loop-value-preserved : goal.loop-value-preserved
loop-value-preserved c = record {
  made = value_reaches c.args.tree.now.schema.now c.args.tree.now.top.now c.args.tree.now.leaves.now c.args.tree.now.number c.args.dirs.now c.args.left c.loop-value.left _ c.loop-value.units.items c.deref-value-items.result.now c.loop-value.value-index _ (kind_of c.args.dirs.now c.value-item.result)
      c.loop-value-test.true c.value-item.is refl c.loop-value.invariant.made c.step.inside.left c.step.inside.unit
      (subst (λ (s : Step). Reaches c.loop-value.left (shape_along c.args.tree.now.schema.now c.args.tree.now.top.now c.args.tree.now.leaves.now c.args.tree.now.number c.value-item.result (kind_of c.args.dirs.now c.value-item.result) ∷ []) s.left (s.unit ∷ []) []) (sym c.step.view_is) c.in_ok-step.ensures)
      _ c.in_ok-push.ensures.items;
}
