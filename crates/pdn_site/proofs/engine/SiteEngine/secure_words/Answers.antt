use Rattle.std.proofs.Common.{rules, sym}
use Rattle.std.proofs.lemmas.Result.{IfOk-weaker}
use Rattle.pdn_site.proofs.SliceLaws.{secure_by}
use Rattle.pdn_site.proofs.engine.SiteEngine.secure_words.Goals as goal

pub returns : goal.returns
returns c = IfOk-weaker c.entered_words.result _ _ (λ words e.
    secure_by c.args.self.now _ c.args.segment c.segment-segment.result.now c.as_slice.result.now c.as_slice-2.result.now c.node_at-top.result.now c.args.value.now words.items
    (sym c.self.view_is) c.self.invariant c.requires (search rules) (search rules) (search rules) (search rules) e)
    c.entered_words.ensures
