use Rattle.std.proofs.Common.{ap₂}
use Rattle.pdn_broker.specs.Runs.{Both}
use Rattle.pdn_twin.specs.declared.starts.Start.{Start}
use Rattle.pdn_twin.proofs.TwinLaws.{secure_fits}
use Rattle.pdn_twin.proofs.twin_job.secure_start.Goals as goal

pub returns-clause-takes : goal.returns-clause-takes
returns-clause-takes c =
    secure_fits c.args.prepared.now c.units-units.ensures.kept c.args.unit _ c.requires.in_range c.requires.secure (ap₂ (λ (own given : Both). record { own = own; given = given }) c.in_ok-own.ensures c.new.ensures)
