use Rattle.std.proofs.Common.{List, ℕ, refl, sym, ap₂, ◌∙◌, subst}
use Rattle.std.specs.Prelude.{Result, Option}
use Rattle.pdn_http.specs.declared.refusal.Refusal.{Refusal}
use Rattle.pdn_http.specs.Heads.{path_of}
use Rattle.pdn_http.specs.Requests.{if_known}
use Rattle.pdn_http.specs.Routes.{Leads}
use Rattle.pdn_http.proofs.LineLaws.{lines_within}
use Rattle.pdn_http.proofs.head.want_of.Goals as goal

pub body_size-size-requires : goal.body_size-size-requires
body_size-size-requires c = lines_within c.args.bytes.now c.args.lines.now c.args.spans.now.len c.args.spans.now.headers c.requires.within.section

pub returns-then-has_line : goal.returns-then-has_line
returns-then-has_line c = (
  c.route_at-route.result,
  subst (λ (target : List ℕ). Leads c.args.callers.now (path_of target) c.route_at-route.result) c.of.ensures c.route_at-route.ensures,
  rw (sym c.has_line.ensures ∙ c.if-has_line.true) refl,
)

pub returns : goal.returns
returns c = (
  c.route_at-route.result,
  subst (λ (target : List ℕ). Leads c.args.callers.now (path_of target) c.route_at-route.result) c.of.ensures c.route_at-route.ensures,
  rw (sym c.has_line.ensures ∙ c.if-has_line.false)
      (c.if_known.ensures ∙ ap₂ (λ (method : List ℕ) (size : Result (Option ℕ) Refusal). if_known method c.route_at-route.result size) c.of-2.ensures c.body_size-size.ensures),
)
