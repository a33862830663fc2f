use Rattle.std.proofs.Common.{rules, ◌≡◌, is_lt, ap, subst, List}
use Rattle.std.proofs.lemmas.List.Sorted.{ranks_by}
use Rattle.std.proofs.lemmas.Fn.{always_returns_same}
use Rattle.pdn_base.specs.Values.{row_cmp, same_row}
use Rattle.pdn_base.specs.declared.value.Value.{Value}
use Rattle.pdn_base.specs.Totals.{row_cmp-total}
use Rattle.pdn_base.specs.Operators.{InOrder, SameRows}
use Rattle.pdn_base.proofs.BagLaws.{SameBag-from_permutation}
use Rattle.pdn_base.proofs.Listing.{listed_is}
use Rattle.pdn_base.proofs.order.sort_rows.Goals as goal

pub returns : goal.returns
returns c =
    let keys = c.args.keys.now in
    let same : SameRows c.args.rows c.sort_by.new.self.items =
    subst (λ (rows : List (List Value)). SameRows rows c.sort_by.new.self.items) c.rows.view_is (SameBag-from_permutation same_row _ _ c.sort_by.ensures.permutation) in
    let sorted : InOrder keys c.sort_by.new.self.items =
    c.in_ok-sort_by.ensures.sorted (λ x y. is_lt (row_cmp keys x y)) (ranks_by (row_cmp-total keys) (λ x. x))
    (always_returns_same _ _ _ (λ a r g called. let says : r ≡ row_cmp keys a.0.now a.1.0.now = search rules in (ap is_lt says, search rules))) in
    record { bag = same; order = sorted; list = listed_is keys c.args.rows c.sort_by.new.self.items same sorted }
