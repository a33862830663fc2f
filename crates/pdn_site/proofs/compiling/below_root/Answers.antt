use Rattle.std.proofs.Common.{sym, subst, rules, []}
use Rattle.pdn_site.specs.Budget.{Batch, Reaches, segment_along}
use Rattle.pdn_site.proofs.CompilingLaws.{below_exit, segment_passes, segment_reaches, segment_parts}
use Rattle.pdn_site.proofs.compiling.below_root.Goals as goal

pub returns-in_err-batch : goal.returns-in_err-batch
returns-in_err-batch c = below_exit _ _ _ _ c.from_residual.ensures.1
    (segment_passes c.args.schema.now c.args.root.now c.args.staged.now c.args.view.now c.loop-i.i c.index-segment.result.now c.index.result.now c.as_slice.result.now c.as_slice-leaves.result.now c.node_at-top.result.now c.in-Ok.number
    (search rules) (search rules) (search rules) (search rules) (search rules) (search rules) c.node_at-top.ensures (search rules)
    c.args.left c.loop-i.left _ c.loop-i.units.items c.loop-i.invariant.made _ c.in_err-batch.ensures)

pub loop-i-preserved : goal.loop-i-preserved
loop-i-preserved c =
    let next : Reaches c.loop-i.left (segment_along c.args.schema.now c.node_at-top.result.now c.as_slice-leaves.result.now c.in-Ok.number c.index.result.now) c.batch.inside.left c.batch.inside.units.items []
    = subst (λ (b : Batch). Reaches c.loop-i.left (segment_along c.args.schema.now c.node_at-top.result.now c.as_slice-leaves.result.now c.in-Ok.number c.index.result.now) b.left b.units []) (sym c.batch.view_is) c.in_ok-batch.ensures in
    record {
      made = segment_reaches c.args.schema.now c.args.root.now c.args.staged.now c.args.view.now c.loop-i.i c.index-segment.result.now c.index.result.now c.as_slice.result.now c.as_slice-leaves.result.now c.node_at-top.result.now c.in-Ok.number
          (search rules) (search rules) (search rules) (search rules) (search rules) (search rules) c.node_at-top.ensures (search rules)
          c.args.left c.loop-i.left _ c.loop-i.units.items c.loop-i.invariant.made c.batch.inside.left c.batch.inside.units.items c.append.new.self.items next c.in_ok-append.ensures.items;
      parts = segment_parts c.args.schema.now c.args.root.now c.args.staged.now c.args.view.now c.loop-i.i c.index-segment.result.now c.index.result.now c.as_slice.result.now c.as_slice-leaves.result.now c.node_at-top.result.now c.in-Ok.number
          (search rules) (search rules) (search rules) (search rules) (search rules) (search rules) c.node_at-top.ensures (search rules)
          c.loop-i.left c.batch.inside.left c.batch.inside.units.items _ c.loop-i.parts.items c.push.new.self.items c.in_ok-parts_of.field-0 next c.loop-i.invariant.parts (search rules) c.in_ok-push.ensures.items;
    }
