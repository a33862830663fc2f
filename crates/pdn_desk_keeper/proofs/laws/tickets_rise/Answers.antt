use Rattle.pdn_desk_keeper.proofs.TicketLaws.{rises, runs_rise}
use Rattle.pdn_desk_keeper.proofs.laws.tickets_rise.Goals as goal

pub returns-clause-rise : goal.returns-clause-rise
returns-clause-rise c = rises

pub returns-clause-runs : goal.returns-clause-runs
returns-clause-runs c = runs_rise
