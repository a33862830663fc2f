use Rattle.std.proofs.Common.{ap, ap₂, ◌∙◌}
use Rattle.std.proofs.lemmas.Result.{IfOk-weaker}
use Rattle.pdn_site.specs.Engines.{segment_number, value_of, secure_words}
use Rattle.pdn_site.proofs.engine.SiteEngine.secure_inputs.Goals as goal

pub returns : goal.returns
returns c = IfOk-weaker c.secure_words.result _ _ (λ words e. e ∙ ap₂ (secure_words c.args.self.now) (c.segment_number.ensures ∙ ap segment_number c.unit_at-unit.ensures) (c.value_of.ensures ∙ ap value_of c.unit_at-unit.ensures)) c.secure_words.ensures
