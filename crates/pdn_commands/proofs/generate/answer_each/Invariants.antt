use Rattle.std.proofs.Common.{◌+◌, drop}
use Rattle.pdn_commands.specs.Generating.{short_step}
use Rattle.pdn_commands.specs.Running.{numbered}
use Rattle.pdn_query.specs.Questions.{OnlyDesk}
use Rattle.pdn_query.specs.Walk.{Leads}
use Rattle.pdn_commands.proofs.generate.answer_each.Given as goal

abbrev pub invariant-loop-i : goal.invariant-loop-i
invariant-loop-i g l = record {
  leads : Leads (g.W.Outside.state l.fn.world) (g.W.Outside.state l.world) (numbered (short_step l.network.schema l.network.a l.network.b l.size.seed l.size.patients) 1 l.queries)
      (numbered (short_step l.network.schema l.network.a l.network.b l.size.seed l.size.patients) (l.i + 1) (drop l.i l.queries));
  only : OnlyDesk (g.W.Outside.state l.fn.world).told (g.W.Outside.state l.world).told;
}
