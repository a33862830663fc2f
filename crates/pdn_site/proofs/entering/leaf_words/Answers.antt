use Rattle.std.proofs.Common.{◌∙◌}
use Rattle.std.proofs.lemmas.Result.{IfOk-weaker}
use Rattle.pdn_site.proofs.EnteringLaws.{leaf_by}
use Rattle.pdn_base.specs.declared.value.Value.TheVariants as value
use Rattle.pdn_site.proofs.entering.leaf_words.Goals as goal

pub returns : goal.returns
returns c = IfOk-weaker c.entered.result _ _ (λ words e. e ∙ leaf_by c.args.schema.now c.args.tables.now (value.Int 0) c.args.tree.now c.args.leaves.now c.in_ok-rows.rows c.as_slice.result.now c.first_per.result c.in_ok-rows.ensures.bag (c.as_slice.ensures.value ∙ c.in_ok-kinds.ensures) c.first_per.ensures) c.entered.ensures
