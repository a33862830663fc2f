use Rattle.std.proofs.Common.{◌+◌, drop}
use Rattle.pdn_twin.specs.Twins.{TwinWords}
use Rattle.pdn_commands.specs.Twinning.{KeepsEqual, twins_script}
use Rattle.pdn_query.specs.Questions.{OnlyDesk}
use Rattle.pdn_query.specs.Walk.{Leads}
use Rattle.pdn_commands.proofs.twin.twin_all.Given as goal

abbrev pub invariant-loop-i : goal.invariant-loop-i
invariant-loop-i g l = record {
  leads : (views : TwinWords → TwinWords) → KeepsEqual views → Leads (g.W.Outside.state l.fn.world) (g.W.Outside.state l.world) (twins_script views (g.D.Deal.tape l.crew.deal.now) l.worlds 1 l.queries) (twins_script views (g.D.Deal.tape l.crew.deal.now) l.worlds (l.i + 1) (drop l.i l.queries));
  only : OnlyDesk (g.W.Outside.state l.fn.world).told (g.W.Outside.state l.world).told;
}
