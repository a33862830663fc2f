use Rattle.std.proofs.Common.{sym, ap, ◌∙◌}
use Rattle.std.proofs.lemmas.Result.{IfOk-weaker}
use Rattle.pdn_circuit.specs.Gates.{Net}
use Rattle.pdn_dealer.specs.Sections.{section_length}
use Rattle.pdn_broker.proofs.PreparedLaws.{secure_kind, secure_run_takes, secure_run_made}
use Rattle.pdn_broker.proofs.unit_job.secure_run.Goals as goal

pub run_dealt-requires-clause-takes : goal.run_dealt-requires-clause-takes
run_dealt-requires-clause-takes c =
    secure_run_takes c.args.prepared.now c.circuit-circuit.ensures.kept c.args.unit _ _ _ c.requires.in_range (secure_kind _ c.requires.secure)
    c.circuit-circuit.ensures.net c.in_ok-own.ensures c.new.ensures

pub run_dealt-requires-clause-section : goal.run_dealt-requires-clause-section
run_dealt-requires-clause-section c = c.requires.section ∙ ap (λ (net : Net). section_length net) (sym c.circuit-circuit.ensures.net)

pub returns : goal.returns
returns c =
    IfOk-weaker c.run_dealt.result _ _
    (λ run is. secure_run_made c.args.prepared.now c.args.unit c.args.section _ _ _ run c.circuit-circuit.ensures.net c.in_ok-own.ensures c.new.ensures is)
    c.run_dealt.ensures
