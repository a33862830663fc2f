use Rattle.std.proofs.Common.{ap, ap₂, ◌∙◌}
use Rattle.std.proofs.lemmas.Result.{IfOk-weaker}
use Rattle.pdn_site.specs.Engines.{segment_number, value_of, slice_rows}
use Rattle.pdn_site.proofs.engine.SiteEngine.plain_slice.Goals as goal

pub returns : goal.returns
returns c = IfOk-weaker c.slice.result _ _ (λ rows e. e ∙ ap₂ (slice_rows c.args.self.now) (c.segment_number.ensures ∙ ap segment_number c.unit_at-unit.ensures) (c.value_of.ensures ∙ ap value_of c.unit_at-unit.ensures)) c.slice.ensures
