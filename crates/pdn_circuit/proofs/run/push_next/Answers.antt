use Rattle.std.proofs.Common.{rules, ◌≡◌, length, subst, sym, ◌∙◌}
use Rattle.std.proofs.lemmas.Result.{on_ok_weaker}
use Rattle.pdn_circuit.specs.Evaluating.{Stands, IsRun}
use Rattle.pdn_circuit.proofs.RunLaws.{run_stands, run_longer}
use Rattle.pdn_circuit.proofs.run.push_next.Goals as goal

pub returns-in-Some-clause-stand : goal.returns-in-Some-clause-stand
returns-in-Some-clause-stand c =
    let words = c.args.words.now.items in
    let same : c.len.result ≡ length words = c.len.ensures ∙ search rules in
    let is = subst (λ n. IsRun c.args.circuit.now.gates n c.in-Some.run') same c.in-Some.ensures in
    on_ok_weaker c.push.result
    (λ made. run_stands c.args.inputs.now c.args.circuit.now.gates words c.push.new.words.items c.requires.stand c.in-Some.run' is made) c.push.ensures

pub returns-in-Some-clause-more : goal.returns-in-Some-clause-more
returns-in-Some-clause-more c =
    let words = c.args.words.now.items in
    let same : c.len.result ≡ length words = c.len.ensures ∙ search rules in
    let is = subst (λ n. IsRun c.args.circuit.now.gates n c.in-Some.run') same c.in-Some.ensures in
    on_ok_weaker c.push.result
    (λ made. run_longer c.args.inputs.now c.args.circuit.now.gates words c.push.new.words.items c.requires.stand c.in-Some.run' is made) c.push.ensures
