use Rattle.std.proofs.Common.{◌≡◌, ◌<◌, ℕ, List, length, Option, Some, None, Bor, sym, ap, subst, ◌∙◌, rules}
use Rattle.pdn_base.specs.declared.value.Value.{Value}
use Rattle.pdn_view.specs.Guesses.{words, value_in, values_in}
use Rattle.pdn_view.specs.Cuts.{words_left}
use Rattle.pdn_view.proofs.Cutting.{behind_values, value_next, value_stops, fewer_words}
use Rattle.pdn_view.proofs.guesses.values_in.Goals as goal

pub returns-in_default-value_in : goal.returns-in_default-value_in
returns-in_default-value_in c =
    let none : value_in c.front.result.now ≡ None = search rules in
    let so_far : values_in (words_left c.args.text) ≡ behind_values c.loop-left.values.items (values_in (words c.in-Some.text.now)) = rw c.in-Some.is at c.loop-left.invariant in
    sym (value_stops c.loop-left.values.items c.in-Some.text.now c.front.result.now _ c.front.ensures none so_far)

pub loop-left-smaller : goal.loop-left-smaller
loop-left-smaller c =
    subst (λ (o : Option (Bor (List ℕ))). length (words_left c.rest-left.result) < length (words_left o)) (sym c.in-Some.is)
    (fewer_words c.in-Some.text.now (words_left c.rest-left.result) c.rest-left.ensures)

pub loop-left-preserved : goal.loop-left-preserved
loop-left-preserved c =
    let some : value_in c.front.result.now ≡ Some c.in-Some-value_in.value = search rules in
    let so_far : values_in (words_left c.args.text) ≡ behind_values c.loop-left.values.items (values_in (words c.in-Some.text.now)) = rw c.in-Some.is at c.loop-left.invariant in
    value_next c.loop-left.values.items c.in-Some.text.now c.front.result.now c.in-Some-value_in.value (words_left c.rest-left.result) _ c.front.ensures c.rest-left.ensures some so_far
    ∙ ap (λ (vs : List Value). behind_values vs (values_in (words_left c.rest-left.result))) (sym c.in_ok-push.ensures.items)
