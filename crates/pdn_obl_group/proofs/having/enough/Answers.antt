use Rattle.std.proofs.Common.{◌∙◌, ℕ, List, Some, ap, refl, sym, subst, length}
use Rattle.pdn_circuit.specs.Blocks.{◌>>=◌}
use Rattle.pdn_circuit.specs.Building.{Refuses, Makes}
use Rattle.pdn_circuit.specs.Compare.{zero_gate, less_gates, literal_planes, not_gates}
use Rattle.pdn_circuit.proofs.CompareLaws.{length-literal}
use Rattle.pdn_circuit.proofs.Making.{exit_tries, builds_tries, stops}
use Rattle.pdn_obl_rows.specs.Conditions.{and_gates}
use Rattle.pdn_obl_rows.proofs.Walks.{first_refused, second_stops, third_tries}
use Rattle.pdn_obl_group.specs.Operators.{having_gates}
use Rattle.pdn_obl_group.proofs.having.enough.Goals as goal

pub less-requires-clause-widths : goal.less-requires-clause-widths
less-requires-clause-widths c = c.requires.wide ∙ sym (ap length (c.deref.ensures.value ∙ c.in_ok-planes.ensures.planes) ∙ length-literal 32 c.args.least)

pub returns-in_err-less-clause-made : goal.returns-in_err-less-clause-made
returns-in_err-less-clause-made c =
    let same = c.deref.ensures.value ∙ c.in_ok-planes.ensures.planes in
    let refused = subst (λ (ps : List ℕ). Refuses {A = ℕ} c.args.b.now c.less.new.self (less_gates zero_gate c.args.count.now ps (length c.args.b.now.gates)) c.in_err-less.field-0.0) same c.in_err-less.ensures.made in
    exit_tries _ _ (having_gates (Some c.args.least) c.args.valid c.args.count.now) _ _ c.from_residual-in_err-less.ensures.1
    (first_refused _ _ (less_gates zero_gate c.args.count.now (literal_planes 32 c.args.least)) (λ less. not_gates less >>= and_gates c.args.valid) refl _ _ refused)

pub returns-in_err-enough-clause-made : goal.returns-in_err-enough-clause-made
returns-in_err-enough-clause-made c =
    let same = c.deref.ensures.value ∙ c.in_ok-planes.ensures.planes in
    let made = subst (λ (ps : List ℕ). Makes {A = ℕ} c.args.b.now c.less.new.self (less_gates zero_gate c.args.count.now ps (length c.args.b.now.gates)) c.in_ok-less.less) same c.in_ok-less.ensures.made in
    exit_tries _ _ (having_gates (Some c.args.least) c.args.valid c.args.count.now) _ _ c.from_residual-in_err-enough.ensures.1
    (second_stops _ _ (less_gates zero_gate c.args.count.now (literal_planes 32 c.args.least)) not_gates (λ less enough. and_gates c.args.valid enough) refl _ _ _ _ made
    (stops {A = ℕ} _ _ (not_gates c.in_ok-less.less _) _ c.in_err-enough.ensures.made))

pub returns-clause-made : goal.returns-clause-made
returns-clause-made c =
    let same = c.deref.ensures.value ∙ c.in_ok-planes.ensures.planes in
    let made = subst (λ (ps : List ℕ). Makes {A = ℕ} c.args.b.now c.less.new.self (less_gates zero_gate c.args.count.now ps (length c.args.b.now.gates)) c.in_ok-less.less) same c.in_ok-less.ensures.made in
    third_tries _ _ (less_gates zero_gate c.args.count.now (literal_planes 32 c.args.least)) not_gates (λ less enough. and_gates c.args.valid enough) refl _ _ _ _ _ _ made c.in_ok-enough.ensures.made
    (builds_tries _ _ (and_gates c.args.valid c.in_ok-enough.enough) _ c.and.ensures.made)
