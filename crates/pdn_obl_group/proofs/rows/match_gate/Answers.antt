use Rattle.std.proofs.Common.{◌<◌, ◌∙◌, ap₂, ℕ, List, length, ap, sym, subst}
use Rattle.std.proofs.lemmas.List.Elements.{All-same}
use Rattle.pdn_circuit.specs.Blocks.{◌>>=◌}
use Rattle.pdn_circuit.specs.Building.{Builds}
use Rattle.pdn_circuit.specs.Compare.{equal_gates}
use Rattle.pdn_circuit.proofs.Making.{exit_tries, builds_tries}
use Rattle.pdn_obl_rows.specs.Lists.{word_planes}
use Rattle.pdn_obl_rows.specs.Conditions.{and_gates}
use Rattle.pdn_obl_rows.proofs.Walks.{first_refused, second_tries}
use Rattle.pdn_obl_group.proofs.Steps.{planes_there}
use Rattle.pdn_obl_group.specs.Loops.{match_gates}
use Rattle.pdn_obl_group.proofs.rows.match_gate.Goals as goal

pub equal-requires-clause-y_there : goal.equal-requires-clause-y_there
equal-requires-clause-y_there c =
    let list = c.args.list.now in
    let same = c.deref.ensures.value ∙ c.in_ok-other.ensures ∙ ap (word_planes c.args.word) c.planes.ensures.planes in
    All-same (λ g. g < length c.args.b.now.gates) _ _ same (planes_there c.args.b.now list c.requires.there c.planes.ensures.shaped c.args.word c.requires.word)

pub returns-in_err-same-clause-made : goal.returns-in_err-same-clause-made
returns-in_err-same-clause-made c =
    let row = c.args.row.now in
    let same = c.deref.ensures.value ∙ c.in_ok-other.ensures ∙ ap (word_planes c.args.word) c.planes.ensures.planes in
    exit_tries _ _ (match_gates c.args.list.now row c.args.word) _ _ c.from_residual-in_err-same.ensures.1
    (first_refused _ _ (equal_gates c.planes-2.result.now c.deref.result.now) (and_gates row.valid)
    (ap₂ (λ (xs ys : List ℕ). equal_gates xs ys >>= and_gates row.valid) (sym c.planes-2.ensures) (sym same)) _ _ c.in_err-same.ensures.made)

pub returns-clause-made : goal.returns-clause-made
returns-clause-made c =
    let row = c.args.row.now in
    let same = c.deref.ensures.value ∙ c.in_ok-other.ensures ∙ ap (word_planes c.args.word) c.planes.ensures.planes in
    second_tries _ _ (equal_gates c.planes-2.result.now c.deref.result.now) (and_gates row.valid)
    (ap₂ (λ (xs ys : List ℕ). equal_gates xs ys >>= and_gates row.valid) (sym c.planes-2.ensures) (sym same)) _ _ _ _ c.in_ok-same.ensures.made
    (builds_tries _ _ (and_gates row.valid c.in_ok-same.same) _ (subst (λ (x : ℕ). Builds c.equal.new.self c.and.new.self (and_gates x c.in_ok-same.same) c.and.result) c.valid.ensures c.and.ensures.made))
