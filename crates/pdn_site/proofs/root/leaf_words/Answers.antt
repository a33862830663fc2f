use Rattle.std.proofs.Common.{◌∙◌}
use Rattle.std.proofs.lemmas.Result.{IfOk-weaker}
use Rattle.pdn_site.proofs.RootWordLaws.{means_by}
use Rattle.pdn_site.proofs.root.leaf_words.Goals as goal

pub returns : goal.returns
returns c = IfOk-weaker c.entered.result _ _ (λ words e. e ∙ means_by c.args.schema.now c.args.tables.now c.args.node.now c.in_ok-rows.rows c.as_slice.result.now c.leaf_rows.result c.in_ok-rows.ensures.bag (c.as_slice.ensures.value ∙ c.in_ok-kinds.ensures) c.leaf_rows.ensures) c.entered.ensures
