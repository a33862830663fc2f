use Rattle.std.proofs.Common.{◌∙◌}
use Rattle.std.proofs.lemmas.Result.{IfOk-weaker}
use Rattle.pdn_site.proofs.UnitWordLaws.{plain_by}
use Rattle.pdn_site.proofs.root.plain_words.Goals as goal

pub returns : goal.returns
returns c = IfOk-weaker c.entered.result _ _ (λ words e. e ∙ plain_by c.args.side.now.schema.now c.args.side.now.tables.now c.args.value.now c.args.top.now c.in_ok-tree.tree c.args.leaves.now c.in_ok-rows.rows c.as_slice.result.now c.args.len c.requires c.in_ok-tree.ensures c.in_ok-rows.ensures.bag (c.as_slice.ensures.value ∙ c.in_ok-kinds.ensures)) c.entered.ensures
