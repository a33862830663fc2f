use Rattle.std.proofs.lemmas.Result.{IfOk-weaker}
use Rattle.pdn_broker.proofs.RunLaws.{dealt_length, run_where_dealt}
use Rattle.pdn_broker.proofs.unit_run.run_unit.Goals as goal

pub run_dealt-requires-clause-section : goal.run_dealt-requires-clause-section
run_dealt-requires-clause-section g c =
    dealt_length c.args.circuit.now (g.D.Deal.tape c.args.deal.now) c.args.at c.in_ok-section.section _ c.in_ok-section.ensures c.section_len.ensures

pub returns : goal.returns
returns g c =
    IfOk-weaker c.run_dealt.result _ _
    (λ run is. run_where_dealt c.args.circuit.now (g.D.Deal.tape c.args.deal.now) c.args.at c.in_ok-section.section _ c.args.own c.args.given run c.in_ok-section.ensures c.section_len.ensures is)
    c.run_dealt.ensures
