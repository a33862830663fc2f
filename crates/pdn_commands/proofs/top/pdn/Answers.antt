use Rattle.std.proofs.Common.{map}
use Rattle.std.specs.String.{string_bytes}
use Rattle.pdn_script.proofs.Due.{written_due}
use Rattle.pdn_script.proofs.Ends.{completes, has_reason}
use Rattle.pdn_commands.specs.Commands.{script}
use Rattle.pdn_query.specs.Questions.{questions}
use Rattle.pdn_query.specs.World.{WorldModel, RoseIn}
use Rattle.pdn_query.proofs.DeskCalls.{follows_asked}
use Rattle.pdn_commands.proofs.Outcomes.{caused, does}
use Rattle.pdn_commands.proofs.top.pdn.Goals as goal

pub returns-clause-complete : goal.returns-clause-complete
returns-clause-complete g c =
    let old : WorldModel = g.W.Outside.state c.args.world.now in
    let new : WorldModel = g.W.Outside.state c.perform.new.world in
    completes questions (RoseIn old.counts new.counts) old.told (script (g.D.Deal.tape c.args.deal.now) (map string_bytes c.args.words.now)) _ _ new.told c.perform.ensures.answers.2

pub returns-clause-reason : goal.returns-clause-reason
returns-clause-reason g c =
    let old : WorldModel = g.W.Outside.state c.args.world.now in
    let new : WorldModel = g.W.Outside.state c.perform.new.world in
    has_reason questions (RoseIn old.counts new.counts) old.told (script (g.D.Deal.tape c.args.deal.now) (map string_bytes c.args.words.now)) _ _ new.told c.perform.ensures.answers.2

pub returns-clause-cause : goal.returns-clause-cause
returns-clause-cause g c =
    let old : WorldModel = g.W.Outside.state c.args.world.now in
    let new : WorldModel = g.W.Outside.state c.perform.new.world in
    caused (g.D.Deal.tape c.args.deal.now) (RoseIn old.counts new.counts) old.told (map string_bytes c.args.words.now) _ _ new.told c.perform.ensures.answers.2

pub returns-clause-counted : goal.returns-clause-counted
returns-clause-counted g c =
    let old : WorldModel = g.W.Outside.state c.args.world.now in
    let new : WorldModel = g.W.Outside.state c.perform.new.world in
    λ done. (c.perform.ensures.answers.0, c.perform.ensures.answers.1, does (g.D.Deal.tape c.args.deal.now) old.told (map string_bytes c.args.words.now) (RoseIn old.counts new.counts) _ _ new.told c.perform.ensures.answers.2 done)

pub returns-clause-due : goal.returns-clause-due
returns-clause-due g c =
    let old : WorldModel = g.W.Outside.state c.args.world.now in
    let new : WorldModel = g.W.Outside.state c.perform.new.world in
    λ calm. written_due questions (RoseIn old.counts new.counts) calm old.told (script (g.D.Deal.tape c.args.deal.now) (map string_bytes c.args.words.now)) old.written new.written _ new.told c.perform.ensures.answers

pub returns-clause-asked : goal.returns-clause-asked
returns-clause-asked g c =
    let old : WorldModel = g.W.Outside.state c.args.world.now in
    let new : WorldModel = g.W.Outside.state c.perform.new.world in
    follows_asked (RoseIn old.counts new.counts) old.told (script (g.D.Deal.tape c.args.deal.now) (map string_bytes c.args.words.now)) _ _ new.told c.perform.ensures.answers.2
