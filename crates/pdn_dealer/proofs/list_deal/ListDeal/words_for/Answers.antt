use Rattle.std.proofs.Common.{List, map, sym, ap, ◌∙◌}
use Rattle.pdn_dealer.specs.Tapes.{Entry, entry_of, words_for}
use Rattle.pdn_dealer.proofs.TapeWords.{Given, entry_found, entry_passed, entries_over}
use Rattle.pdn_dealer.proofs.list_deal.ListDeal.words_for.Goals as goal

pub loop-entry-preserved : goal.loop-entry-preserved
loop-entry-preserved c =
    c.loop-entry.invariant
    ∙ entry_passed c.deref-entry-items.result.now c.loop-entry.entry-index c.args.ticket c.args.unit c.entry-item.result c.loop-entry-test.true c.entry-item.is (sym c.is_for.ensures ∙ c.if-is_for.false)

pub returns : goal.returns
returns c =
    let begin = ap (λ (gs : List Given). words_for (map entry_of gs) c.args.ticket c.args.unit) c.deref-entry-items.ensures.value
    ∙ ap (λ (es : List Entry). words_for es c.args.ticket c.args.unit) c.self.view_is in
    sym (entries_over c.deref-entry-items.result.now c.loop-entry.entry-index c.args.ticket c.args.unit c.loop-entry-test.false)
    ∙ sym c.loop-entry.invariant
    ∙ begin

pub returns-then-is_for : goal.returns-then-is_for
returns-then-is_for c =
    let begin = ap (λ (gs : List Given). words_for (map entry_of gs) c.args.ticket c.args.unit) c.deref-entry-items.ensures.value
    ∙ ap (λ (es : List Entry). words_for es c.args.ticket c.args.unit) c.self.view_is in
    c.as_slice.ensures.value
    ∙ sym (entry_found c.deref-entry-items.result.now c.loop-entry.entry-index c.args.ticket c.args.unit c.entry-item.result c.loop-entry-test.true c.entry-item.is (sym c.is_for.ensures ∙ c.if-is_for.true))
    ∙ sym c.loop-entry.invariant
    ∙ begin
