use Rattle.std.proofs.Common.{ℕ, List, length, ap, ◌∙◌}
use Rattle.std.proofs.lemmas.Result.{IfOk-weaker}
use Rattle.pdn_gmw.proofs.Meeting.{length-first_words}
use Rattle.pdn_twin.proofs.TwinLaws.{secure_twin_is}
use Rattle.pdn_twin.proofs.twin_job.TwinJobJob.run.Goals as goal

pub secure_twin-requires-clause-section : goal.secure_twin-requires-clause-section
secure_twin-requires-clause-section g c = ap (λ (ws : List ℕ). length ws) c.in_ok-section.ensures ∙ length-first_words _ _ ∙ c.section_len_at-len.ensures

pub returns : goal.returns
returns g c =
    IfOk-weaker c.secure_twin.result _ _
    (λ twin is. secure_twin_is c.self.inside.worlds.now.site c.self.inside.worlds.now.first c.self.inside.worlds.now.second c.self.inside.same (g.D.Deal.tape c.self.inside.deal.now) c.self.inside.at.ticket c.self.inside.at.unit
    c.in_ok-section.section c.section_len_at-len.result twin c.self.inside.in_range c.self.inside.secure c.in_ok-section.ensures c.section_len_at-len.ensures is ∙ c.self.view_is)
    c.secure_twin.ensures
