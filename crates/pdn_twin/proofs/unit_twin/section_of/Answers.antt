use Rattle.std.proofs.Common.{ℕ, List, [], ◌∷◌, ◌++◌, map, ap, ◌∙◌, arith}
use Rattle.std.proofs.lemmas.Result.{IfOk-weaker}
use Rattle.std.specs.declared.alloc.Global.{Global}
use Rattle.std.specs.declared.vec.Vec.{Vec}
use Rattle.pdn_dealer.specs.Tapes.{Entry, entry_of}
use Rattle.pdn_twin.proofs.SectionWords.{whole_section}
use Rattle.pdn_twin.proofs.unit_twin.section_of.Goals as goal

pub returns : goal.returns
returns c =
    let entries : List (ℕ × ℕ × Vec ℕ Global) → List Entry = λ given. map entry_of given in
    IfOk-weaker c.section.result _ _
    (λ section is. is ∙ whole_section c.args.words.items _ _ (omega (arith, c.len-len.ensures, c.args.words.ok))
    (c.new-deal.ensures ∙ ap entries (c.in_ok-push.ensures.items ∙ ap (λ (given : List (ℕ × ℕ × Vec ℕ Global)). given ++ (0, 0, c.args.words) ∷ []) c.new-entries.ensures.items)))
    c.section.ensures
