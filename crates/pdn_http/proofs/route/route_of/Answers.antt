use Rattle.std.proofs.Common.{List, ℕ, sym, ap, ◌∙◌, subst}
use Rattle.matchit.specs.Seek.{first}
use Rattle.pdn_http.specs.Heads.{path_of}
use Rattle.pdn_http.specs.Routes.{Leads}
use Rattle.pdn_http.proofs.RouteLaws.{unfound}
use Rattle.pdn_http.proofs.route.route_of.Goals as goal

pub returns-in-Ok : goal.returns-in-Ok
returns-in-Ok c = subst (λ (path : List ℕ). Leads c.args.callers.now path c.call_at.result) (c.as_bytes.ensures.value ∙ c.path_of-path.ensures) c.call_at.ensures

pub returns-in-Err : goal.returns-in-Err
returns-in-Err c =
    unfound c.args.callers.now (path_of c.args.target.now) c.args.router.now c.requires.callers c.requires.router
    (ap (first c.args.router.now) (sym c.path_of-path.ensures) ∙ c.in-Err.ensures.missing)
