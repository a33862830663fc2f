use Rattle.std.proofs.Common.{ap, ℕ, List, [], ◌∷◌, ◌++◌, refl, ◌∙◌, sym, subst}
use Rattle.pdn_obl_rows.specs.Lists.{PaddedList, IsShaped}
use Rattle.pdn_obl_rows.proofs.ShapeLaws.{list_is}
use Rattle.pdn_obl_group.specs.Operators.{one_row}
use Rattle.pdn_obl_group.proofs.Steps.{single_shaped}
use Rattle.pdn_obl_group.proofs.single.one_row_list.Goals as goal

pub of-requires : goal.of-requires
of-requires c =
    subst (λ (l : PaddedList). IsShaped l) (sym (list_is _ (record { len = 1; valid = c.args.valid ∷ []; kinds = c.args.kinds.now; planes = one_row c.args.gates.now }) refl (c.in_ok-push.ensures.items ∙ ap (λ (ws : List ℕ). ws ++ c.args.valid ∷ []) c.new-words.ensures.items) c.in_ok-kinds.ensures.items c.in_ok-planes.ensures))
    (single_shaped c.args.valid c.args.kinds.now c.args.gates.now c.requires)

pub returns-clause-list : goal.returns-clause-list
returns-clause-list c =
    c.of.ensures ∙ list_is _ (record { len = 1; valid = c.args.valid ∷ []; kinds = c.args.kinds.now; planes = one_row c.args.gates.now }) refl (c.in_ok-push.ensures.items ∙ ap (λ (ws : List ℕ). ws ++ c.args.valid ∷ []) c.new-words.ensures.items) c.in_ok-kinds.ensures.items c.in_ok-planes.ensures
