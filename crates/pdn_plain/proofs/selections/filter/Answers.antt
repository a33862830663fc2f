use Rattle.std.proofs.Common.{rules, ap, ◌∙◌}
use Rattle.std.proofs.lemmas.Fn.{filter_same}
use Rattle.pdn_base.specs.Conditions.{meets}
use Rattle.pdn_base.specs.Operators.{filter_rows}
use Rattle.pdn_plain.proofs.selections.filter.Goals as goal

pub returns : goal.returns
returns c =
    filter_same _ (meets c.args.cond.now) _ (λ row b after called. search rules) _ _ c.retain.ensures.filtered
    ∙ ap (filter_rows c.args.cond.now) c.rows.view_is
