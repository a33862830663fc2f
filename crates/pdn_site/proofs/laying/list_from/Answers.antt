use Rattle.std.proofs.Common.{sym, ap, ap₂, ◌∙◌, ◌+◌, refl, subst}
use Rattle.pdn_obl_rows.specs.Lists.{PaddedList, IsShaped}
use Rattle.pdn_obl_rows.specs.Encoding.{list_from, planes_from}
use Rattle.pdn_obl_rows.proofs.ShapeLaws.{list_is}
use Rattle.std.specs.List.{range_with_len}
use Rattle.pdn_site.proofs.LayingLaws.{from_shaped}
use Rattle.pdn_site.proofs.BuiltLaws.{from_is}
use Rattle.pdn_site.proofs.laying.list_from.Goals as goal

pub of-requires : goal.of-requires
of-requires c =
    subst (λ (l : PaddedList). IsShaped l) (sym (list_is _ (list_from c.args.first c.args.kinds.now c.args.len) refl
    (c.in_ok-valid.ensures ∙ ap (λ n. range_with_len c.args.first n) c.words_for-words.ensures) c.in_ok-kinds.ensures.items
    (c.in_ok-planes.ensures ∙ ap₂ (λ n m. planes_from (c.args.first + n) n m) c.words_for-words.ensures c.requires.planes)))
    (from_shaped c.args.first c.args.kinds.now c.args.len)

pub returns-clause-gives : goal.returns-clause-gives
returns-clause-gives c =
    c.of.ensures ∙ list_is _ (list_from c.args.first c.args.kinds.now c.args.len) refl
    (c.in_ok-valid.ensures ∙ ap (λ n. range_with_len c.args.first n) c.words_for-words.ensures) c.in_ok-kinds.ensures.items
    (c.in_ok-planes.ensures ∙ ap₂ (λ n m. planes_from (c.args.first + n) n m) c.words_for-words.ensures c.requires.planes)

pub returns-clause-is : goal.returns-clause-is
returns-clause-is c = from_is c.args.first c.args.kinds.now c.args.len _ (returns-clause-gives c)
