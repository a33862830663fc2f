use Rattle.std.proofs.Common.{◌∙◌}
use Rattle.std.proofs.lemmas.Result.{IfOk-weaker}
use Rattle.pdn_broker.specs.Units.{net_or}
use Rattle.pdn_broker.specs.Running.{unit_at}
use Rattle.pdn_broker.proofs.RunLaws.{dealt_length}
use Rattle.pdn_broker.proofs.PreparedLaws.{secure_run_is}
use Rattle.pdn_broker.proofs.unit_job.UnitJobJob.run.Goals as goal

pub secure_run-requires-clause-section : goal.secure_run-requires-clause-section
secure_run-requires-clause-section g c =
    dealt_length (net_or (unit_at c.self.inside.prepared.now c.self.inside.at.unit).circuit) (g.D.Deal.tape c.self.inside.deal.now) c.self.inside.at c.in_ok-section.section _ c.in_ok-section.ensures
    c.section_len_at-len.ensures

pub returns : goal.returns
returns g c =
    IfOk-weaker c.secure_run.result _ _
    (λ run is. secure_run_is c.self.inside.prepared.now (g.D.Deal.tape c.self.inside.deal.now) c.self.inside.at c.in_ok-section.section _ run c.in_ok-section.ensures c.section_len_at-len.ensures is ∙ c.self.view_is)
    c.secure_run.ensures
