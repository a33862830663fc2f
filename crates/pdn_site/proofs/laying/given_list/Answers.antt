use Rattle.std.proofs.Common.{sym, ap, ◌∙◌, ◌+◌, ◌*◌, ◌≡◌, subst, length, arith}
use Rattle.pdn_circuit.specs.declared.gate.Gate.TheVariants.{Given}
use Rattle.pdn_circuit.specs.Gates.{given_count}
use Rattle.pdn_circuit.specs.Building.{Stops, Makes}
use Rattle.pdn_obl_rows.specs.Lists.{words_for}
use Rattle.pdn_site.specs.Laying.{list_words, given_list}
use Rattle.pdn_site.specs.Built.{words_gates}
use Rattle.pdn_site.proofs.BuiltLaws.{lays_exit, given_stops, given_made, from_there, words_long}
use Rattle.pdn_site.proofs.laying.given_list.Goals as goal

pub returns-in_err-first-clause-made : goal.returns-in_err-first-clause-made
returns-in_err-first-clause-made c = λ s.
    let count : c.in-Some-list_words.count ≡ list_words c.args.kinds.now c.args.len = c.in-Some-list_words.ensures ∙ ap (λ p. (p + 1) * words_for c.args.len) c.in-Some.ensures in
    lays_exit _ _ s s (given_list c.args.kinds.now c.args.len) _ _ c.from_residual.ensures.1
    (given_stops c.args.kinds.now c.args.len _ _ s _ (subst (λ n. Stops c.args.b.now c.take_given.new.b (words_gates Given (given_count c.args.b.now.gates) n (length c.args.b.now.gates)) c.in_err-first.field-0.0) count c.in_err-first.ensures.made))

pub list_from-requires-clause-few : goal.list_from-requires-clause-few
list_from-requires-clause-few c =
    let count : c.in-Some-list_words.count ≡ list_words c.args.kinds.now c.args.len = c.in-Some-list_words.ensures ∙ ap (λ p. (p + 1) * words_for c.args.len) c.in-Some.ensures in
    omega (arith, count, c.in_ok-first.ensures.few, words_long Given (given_count c.args.b.now.gates) _ _ _ _ c.in_ok-first.ensures.made)

pub returns-clause-made : goal.returns-clause-made
returns-clause-made c = λ s.
    let count : c.in-Some-list_words.count ≡ list_words c.args.kinds.now c.args.len = c.in-Some-list_words.ensures ∙ ap (λ p. (p + 1) * words_for c.args.len) c.in-Some.ensures in
    given_made c.args.kinds.now c.args.len _ _ s c.in_ok-first.first _ c.in_ok-list_from.ensures.gives
    (subst (λ n. Makes c.args.b.now c.take_given.new.b (words_gates Given (given_count c.args.b.now.gates) n (length c.args.b.now.gates)) c.in_ok-first.first) count c.in_ok-first.ensures.made)

pub returns-clause-there : goal.returns-clause-there
returns-clause-there c =
    let count : c.in-Some-list_words.count ≡ list_words c.args.kinds.now c.args.len = c.in-Some-list_words.ensures ∙ ap (λ p. (p + 1) * words_for c.args.len) c.in-Some.ensures in
    from_there _ c.in_ok-first.first c.args.kinds.now c.args.len _ c.in_ok-list_from.ensures.gives (ap (λ n. c.in_ok-first.first + n) (sym count) ∙ words_long Given (given_count c.args.b.now.gates) _ _ _ _ c.in_ok-first.ensures.made)
