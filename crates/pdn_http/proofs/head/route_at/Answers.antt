use Rattle.std.proofs.Common.{List, ℕ, subst}
use Rattle.pdn_http.specs.Heads.{path_of}
use Rattle.pdn_http.specs.Routes.{Leads}
use Rattle.pdn_http.proofs.head.route_at.Goals as goal

pub returns-in-Ok : goal.returns-in-Ok
returns-in-Ok c = subst (λ (target : List ℕ). Leads c.args.callers.now (path_of target) c.route_of.result) c.in-Ok.ensures.cases.0 c.route_of.ensures
