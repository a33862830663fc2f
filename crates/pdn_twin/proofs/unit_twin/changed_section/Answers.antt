use Rattle.std.proofs.Common.{◌≡◌, ℕ, List, length, sym, ap, ap₂, ◌∙◌, subst}
use Rattle.std.proofs.lemmas.Result.{IfOk-weaker}
use Rattle.pdn_circuit.specs.Gates.{InputWords, HasCounts}
use Rattle.pdn_shift.specs.Changes.{shift_words}
use Rattle.pdn_shift.proofs.Undoing.{back_words_law}
use Rattle.pdn_twin.proofs.SectionWords.{plain_counts}
use Rattle.pdn_twin.proofs.unit_twin.changed_section.Goals as goal

pub shift-requires-clause-first : goal.shift-requires-clause-first
shift-requires-clause-first c = subst (HasCounts c.args.circuit.now) (sym c.in_ok-first.ensures) (plain_counts _ _ _ c.requires.first)

pub shift-requires-clause-second : goal.shift-requires-clause-second
shift-requires-clause-second c = subst (HasCounts c.args.circuit.now) (sym c.in_ok-second.ensures) (plain_counts _ _ _ c.requires.second)

pub returns-clause-words : goal.returns-clause-words
returns-clause-words c =
    IfOk-weaker c.shift.result _ _
    (λ new is. is ∙ ap₂ (λ (first second : InputWords). shift_words c.args.site c.args.circuit.now first second c.args.words.now) c.in_ok-first.ensures c.in_ok-second.ensures)
    c.shift.ensures.changed

pub returns-clause-long : goal.returns-clause-long
returns-clause-long c =
    IfOk-weaker c.shift.result _ _ (λ new is. ap (λ (ws : List ℕ). length ws) is ∙ (back_words_law c.args.site c.args.circuit.now c.in_ok-first.first c.in_ok-second.second c.args.words.now c.requires.words).long) c.shift.ensures.changed
