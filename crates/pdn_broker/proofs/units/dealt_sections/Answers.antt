use Rattle.std.proofs.Common.{ap, ◌∙◌, cond, [], ◌∷◌, ◌++◌}
use Rattle.pdn_site.specs.Models.{UnitModel}
use Rattle.pdn_broker.specs.declared.answered.Dealt.{Dealt}
use Rattle.pdn_broker.specs.Units.{is_dealt}
use Rattle.pdn_broker.proofs.PreparedLaws.{pushed_more}
use Rattle.pdn_broker.proofs.units.dealt_sections.Goals as goal

pub loop-k-preserved : goal.loop-k-preserved
loop-k-preserved c =
    let at : Dealt = record { ticket = c.args.ticket; unit = c.loop-k.k } in
    pushed_more (λ u. record { ticket = c.args.ticket; unit = u }) is_dealt c.args.units.now c.loop-k.k c.loop-k.dealt.items c.push_dealt.new.dealt.items c.loop-k.invariant
    (c.in_ok-push_dealt.ensures ∙ ap (λ (u : UnitModel). c.loop-k.dealt.items ++ cond (is_dealt u.kind) (at ∷ []) []) c.unit_at.ensures)
