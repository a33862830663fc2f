use Rattle.std.proofs.Common.{List, ℕ, length, ap, ◌∙◌}
use Rattle.std.proofs.lemmas.Result.{IfOk-weaker}
use Rattle.pdn_shift.specs.Changes.{section_changed}
use Rattle.pdn_shift.proofs.Changing.{length-differences, looks_alike, gives_back, if_both}
use Rattle.pdn_shift.proofs.change.shift.Goals as goal

pub changed_section-requires-clause-long : goal.changed_section-requires-clause-long
changed_section-requires-clause-long c =
    ap length (c.deref.ensures.value ∙ c.in_ok-differences.ensures) ∙ length-differences c.args.first.now c.args.second.now c.args.circuit.now.gates

pub returns-clause-alike : goal.returns-clause-alike
returns-clause-alike c =
    let net = c.args.circuit.now in
    let site = c.args.site in
    let words = c.args.words.now in
    let by = c.deref.ensures.value ∙ c.in_ok-differences.ensures in
    if_both c.changed_section.result _ _ _
    (λ new e o. looks_alike site net c.args.first.now c.args.second.now words new.items c.requires.words (e ∙ ap (λ (ds : List ℕ). section_changed site net ds words) by) o)
    c.changed_section.ensures.changed c.changed_section.ensures.order

pub returns-clause-back : goal.returns-clause-back
returns-clause-back c =
    let net = c.args.circuit.now in
    let site = c.args.site in
    let words = c.args.words.now in
    let by = c.deref.ensures.value ∙ c.in_ok-differences.ensures in
    IfOk-weaker c.changed_section.result _ _
    (λ new e. gives_back site net c.args.first.now c.args.second.now words new.items c.requires.words (e ∙ ap (λ (ds : List ℕ). section_changed site net ds words) by))
    c.changed_section.ensures.changed
