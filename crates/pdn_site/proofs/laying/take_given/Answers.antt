use Rattle.std.proofs.Common.{subst, length, ℕ}
use Rattle.pdn_circuit.specs.declared.gate.Gate.TheVariants.{Given}
use Rattle.pdn_circuit.specs.Gates.{given_count}
use Rattle.pdn_circuit.specs.Blocks.{one}
use Rattle.pdn_circuit.specs.Building.{Makes, Refuses}
use Rattle.pdn_circuit.proofs.Making.{exit_tries}
use Rattle.pdn_site.specs.Built.{words_gates}
use Rattle.pdn_site.proofs.BuiltLaws.{words_begin, words_next, words_refused, given_counted}
use Rattle.pdn_site.proofs.laying.take_given.Goals as goal

pub loop-init : goal.loop-init
loop-init c = record { made = words_begin Given (given_count c.args.b.now.gates) _ _ c.len-first.ensures.count }

pub returns-in_err-given-clause-made : goal.returns-in_err-given-clause-made
returns-in_err-given-clause-made c =
    let from : ℕ = given_count c.args.b.now.gates in
    exit_tries _ _ (words_gates Given from c.args.count) _ _ c.from_residual.ensures.1
    (words_refused Given from c.loop.counter _ _ c.len-first.result c.loop.invariant.made c.args.count c.loop-test.true _ _
    (subst (λ n. Refuses c.loop.b c.given.new.self (one (Given n) (length c.loop.b.gates)) c.in_err-given.field-0.0) (given_counted _ _ c.loop.counter c.len-first.result c.loop.invariant.made) c.in_err-given.ensures.made))

pub loop-preserved : goal.loop-preserved
loop-preserved c =
    let from : ℕ = given_count c.args.b.now.gates in
    record {
      made = words_next Given from c.loop.counter _ _ _ c.len-first.result _ c.loop.invariant.made
          (subst (λ n. Makes c.loop.b c.given.new.self (one (Given n) (length c.loop.b.gates)) c.in_ok-given.field-0) (given_counted _ _ c.loop.counter c.len-first.result c.loop.invariant.made) c.in_ok-given.ensures.made);
    }
