use Rattle.std.proofs.Common.{map}
use Rattle.std.specs.String.{string_bytes}
use Rattle.pdn_commands.specs.Commands.{script, one_view_script}
use Rattle.pdn_commands.specs.Twinning.{of_each, of_first}
use Rattle.pdn_commands.proofs.AgreedWorlds.{each_keeps, first_keeps}
use Rattle.pdn_commands.proofs.Outcomes.{spent_end}
use Rattle.pdn_query.proofs.Walks.{answered, not_fallen, only_both, only_same}
use Rattle.pdn_commands.proofs.top.perform.Goals as goal

pub returns-clause-answers : goal.returns-clause-answers
returns-clause-answers g c = answered _ _ _ (script (g.D.Deal.tape c.args.deal.now) (map string_bytes c.args.words.now)) _ _ (c.follow-came.ensures.goes of_each each_keeps) c.conclude.ensures.told c.conclude.ensures.later c.conclude.ensures.closes

pub returns-clause-equal : goal.returns-clause-equal
returns-clause-equal g c = answered _ _ _ (one_view_script (g.D.Deal.tape c.args.deal.now) (map string_bytes c.args.words.now)) _ _ (c.follow-came.ensures.goes of_first first_keeps) c.conclude.ensures.told c.conclude.ensures.later c.conclude.ensures.closes

pub returns-clause-spared : goal.returns-clause-spared
returns-clause-spared g c =
    let short = spent_end (g.D.Deal.tape c.args.deal.now) (g.W.Outside.state c.args.world.now) (g.W.Outside.state c.follow-came.new.world) (g.W.Outside.state c.conclude.new.self) (map string_bytes c.args.words.now) in
    λ e. only_both (g.W.Outside.state c.args.world.now).told (g.W.Outside.state c.follow-came.new.world).told (g.W.Outside.state c.conclude.new.self).told
    (c.follow-came.ensures.spared (short _ _ (c.follow-came.ensures.goes of_each each_keeps) c.conclude.ensures.closes e)) (only_same (g.W.Outside.state c.follow-came.new.world).told (g.W.Outside.state c.conclude.new.self).told c.conclude.ensures.told)

pub returns-clause-later : goal.returns-clause-later
returns-clause-later g c = not_fallen _ _ _ (c.follow-came.ensures.goes of_each each_keeps).later c.conclude.ensures.later
