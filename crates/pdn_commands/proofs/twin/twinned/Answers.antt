use Rattle.std.proofs.Common.{List, ℕ, ap, ◌∙◌}
use Rattle.std.proofs.lemmas.Result.{IfOk-weaker}
use Rattle.pdn_twin.specs.Twins.{TwinWords}
use Rattle.pdn_commands.specs.Twinning.{twin_text}
use Rattle.pdn_commands.proofs.AgreedWorlds.{twin_is, twin_alike}
use Rattle.pdn_commands.proofs.twin.twinned.Goals as goal

pub returns-clause-is : goal.returns-clause-is
returns-clause-is g c =
    let same = twin_is c.args.worlds.site c.args.worlds.first c.args.worlds.second (g.D.Deal.tape c.args.crew.now.deal.now) c.args.ticket c.in_ok-twin.twin c.in_ok-twin.ensures.is in
    IfOk-weaker c.twin_text.result _ _ (λ text is. is ∙ ap (twin_text c.args.worlds.site c.args.number c.args.ticket) same) c.twin_text.ensures

pub returns-clause-equal : goal.returns-clause-equal
returns-clause-equal g c =
    let equal = twin_alike c.args.worlds.site c.args.worlds.first c.args.worlds.second (g.D.Deal.tape c.args.crew.now.deal.now) c.args.ticket c.in_ok-twin.twin c.in_ok-twin.ensures.is in
    IfOk-weaker c.twin_text.result _ _ (λ text is. equal) c.twin_text.ensures
