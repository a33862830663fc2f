use Rattle.pdn_http.proofs.RouteLaws.{no_middle, number_result}
use Rattle.pdn_http.proofs.route.number_at.Goals as goal

pub returns-in_default-after-2 : goal.returns-in_default-after-2
returns-in_default-after-2 c =
    no_middle c.args.caller.now c.args.path.now c.in-Some.named.now c.in-Some-after.behind.now c.in-Some.ensures c.in-Some-after.ensures c.in_default-after-2.ensures

pub returns : goal.returns
returns c =
    number_result c.args.caller.now c.args.path.now c.in-Some.named.now c.in-Some-after.behind.now c.in-Some-after-2.number.now
    c.in-Some.ensures c.in-Some-after.ensures c.in-Some-after-2.ensures c.number_of.result c.number_of.ensures
