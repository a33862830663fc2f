use Rattle.std.proofs.Common.{rules}
use Rattle.pdn_plan.proofs.RefusalLaws.{refused_here, refused_later}
use Rattle.pdn_plan.proofs.sources.+refusal_after.Goals as goal

pub returns-then-is_some : goal.returns-then-is_some
returns-then-is_some t c = refused_here c.args.schema.now c.args.earlier.now c.args.before.items c.args.scope.items c.args.sources.now c.in-Some.source.now c.in-Some.rest.now
    c.in_ok-found-in-Some.found c.in_ok-scope-in-Some.scope.items c.in_ok-here-in-Some.here
    (search rules) (search rules) (search rules) (search rules) (search rules)

pub returns-in_ok-later-in-Some : goal.returns-in_ok-later-in-Some
returns-in_ok-later-in-Some t c = refused_later c.args.schema.now c.args.earlier.now c.args.before.items c.args.scope.items c.args.sources.now c.in-Some.source.now c.in-Some.rest.now
    c.in_ok-found-in-Some.found c.in_ok-scope-in-Some.scope.items c.in_ok-here-in-Some.here c.in_ok-before-in-Some.before.items c.in_ok-later-in-Some.later
    (search rules) (search rules) (search rules) (search rules) (search rules) (search rules) (search rules)
