use Rattle.std.proofs.Common.{sym, ◌∙◌}
use Rattle.std.proofs.lemmas.Result.{IfOk-weaker}
use Rattle.pdn_site.proofs.UnitWordLaws.{mine_by}
use Rattle.pdn_site.proofs.root.unit_words.Goals as goal

pub returns-then-is_of : goal.returns-then-is_of
returns-then-is_of c = IfOk-weaker c.plain_words.result _ _ (λ words e. e ∙ mine_by c.args.side.now.site c.args.side.now.schema.now c.args.side.now.tables.now c.args.top.now c.args.segment c.args.unit.now _ c.value_of-value.result (sym c.unit.view_is) c.value_of-value.ensures (sym c.is_segment.ensures ∙ c.if-is_segment.true) (sym c.is_of.ensures ∙ c.if-is_of.true)) c.plain_words.ensures
