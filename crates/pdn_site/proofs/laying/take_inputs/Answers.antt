use Rattle.std.proofs.Common.{subst, length, ℕ}
use Rattle.pdn_circuit.specs.declared.gate.Gate.TheVariants.{Input}
use Rattle.pdn_circuit.specs.Gates.{input_count}
use Rattle.pdn_circuit.specs.Blocks.{one}
use Rattle.pdn_circuit.specs.Building.{Makes, Refuses}
use Rattle.pdn_circuit.proofs.Making.{exit_tries}
use Rattle.pdn_site.specs.Built.{words_gates}
use Rattle.pdn_site.proofs.BuiltLaws.{words_begin, words_next, words_refused, inputs_counted}
use Rattle.pdn_site.proofs.laying.take_inputs.Goals as goal

pub loop-init : goal.loop-init
loop-init c = record { made = words_begin (Input c.args.site) (input_count c.args.site c.args.b.now.gates) _ _ c.len-first.ensures.count }

pub returns-in_err-input-clause-made : goal.returns-in_err-input-clause-made
returns-in_err-input-clause-made c =
    let site = c.args.site in
    let from : ℕ = input_count site c.args.b.now.gates in
    exit_tries _ _ (words_gates (Input site) from c.args.count) _ _ c.from_residual.ensures.1
    (words_refused (Input site) from c.loop.counter _ _ c.len-first.result c.loop.invariant.made c.args.count c.loop-test.true _ _
    (subst (λ n. Refuses c.loop.b c.input.new.self (one (Input site n) (length c.loop.b.gates)) c.in_err-input.field-0.0) (inputs_counted site _ _ c.loop.counter c.len-first.result c.loop.invariant.made) c.in_err-input.ensures.made))

pub loop-preserved : goal.loop-preserved
loop-preserved c =
    let site = c.args.site in
    let from : ℕ = input_count site c.args.b.now.gates in
    record {
      made = words_next (Input site) from c.loop.counter _ _ _ c.len-first.result _ c.loop.invariant.made
          (subst (λ n. Makes c.loop.b c.input.new.self (one (Input site n) (length c.loop.b.gates)) c.in_ok-input.field-0) (inputs_counted site _ _ c.loop.counter c.len-first.result c.loop.invariant.made) c.in_ok-input.ensures.made);
    }
