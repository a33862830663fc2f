use Rattle.std.proofs.Common.{rules, sym}
use Rattle.std.proofs.lemmas.Result.{IfOk-weaker}
use Rattle.pdn_site.proofs.SliceLaws.{slice_by}
use Rattle.pdn_site.proofs.engine.SiteEngine.slice.Goals as goal

pub returns : goal.returns
returns c = IfOk-weaker c.sort_rows.result _ _ (λ sorted e.
    slice_by c.args.self.now _ c.args.segment c.segment-segment.result.now c.as_slice.result.now c.as_slice-2.result.now c.node_at-top.result.now c.in_ok-tree.tree c.args.value.now c.in_ok-rows.rows sorted
    (sym c.self.view_is) c.self.invariant c.requires (search rules) (search rules) (search rules) (search rules) (search rules) (search rules) e)
    c.sort_rows.ensures.list
