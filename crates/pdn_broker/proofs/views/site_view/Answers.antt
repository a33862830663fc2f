use Rattle.std.proofs.Common.{ap, sym, ◌∙◌, subst}
use Rattle.pdn_broker.specs.Prepared.{PreparedModel}
use Rattle.pdn_broker.specs.Running.{root_run, AreRuns}
use Rattle.pdn_broker.proofs.ViewLaws.{count_of_runs, site_made}
use Rattle.pdn_broker.proofs.views.site_view.Goals as goal

pub parts_on-requires : goal.parts_on-requires
parts_on-requires c =
    count_of_runs _ c.prepared.invariant c.args.ticket c.args.runs.now (subst (λ (p : PreparedModel). AreRuns p c.args.ticket c.args.runs.now) (sym c.prepared.view_is) c.requires)

pub returns : goal.returns
returns c tape is =
    site_made c.args.prepared.now _ c.prepared.view_is c.prepared.invariant c.args.site tape c.args.ticket c.args.runs.now _ _ _ is c.party_of.ensures (c.dirs.view_is ∙ c.in_ok-dirs.ensures)
    (c.in_ok-units.ensures (root_run c.args.prepared.now tape c.args.ticket))
