use Rattle.std.proofs.Common.{◌∙◌, ◌≡◌, sym, subst, refl, ap, arith, List, ℕ, length}
use Rattle.std.specs.List.{range_with_len}
use Rattle.pdn_circuit.specs.Blocks.{each, gives, ◌>>=◌}
use Rattle.pdn_circuit.specs.Laying.{lay_gates}
use Rattle.pdn_circuit.proofs.Making.{exit_tries, makes_longer}
use Rattle.pdn_obl_rows.specs.Lists.{PaddedList, IsShaped, widths}
use Rattle.pdn_obl_rows.specs.Operators.{append_gates, append_picks, kinds_of, length_of, plane_of, valid_of}
use Rattle.pdn_obl_rows.proofs.Picking.{append_shaped, first_kinds}
use Rattle.pdn_obl_rows.proofs.ShapeLaws.{list_is}
use Rattle.pdn_obl_rows.proofs.ThereLaws.{all_there_later}
use Rattle.pdn_obl_rows.proofs.Walks.{first_stops, second_stops, second_made, last_gives}
use Rattle.pdn_obl_rows.proofs.appending.append.Goals as goal

pub returns-in_err-valid-clause-made : goal.returns-in_err-valid-clause-made
returns-in_err-valid-clause-made c =
    let lists = c.args.lists.now in
    let f = λ (p : ℕ). lay_gates (append_picks (plane_of p) 0 lists) in
    exit_tries _ _ (append_gates lists) _ _ c.from_residual-in_err-valid.ensures.1
    (first_stops _ _ (lay_gates (append_picks valid_of 0 lists))
    (λ valid. each f (range_with_len 0 (widths (kinds_of lists))) >>= λ planes. gives (record { len = length_of lists; valid = valid; kinds = kinds_of lists; planes = planes })) refl _ _ c.in_err-valid.ensures.made)

pub append_planes-requires-clause-there : goal.append_planes-requires-clause-there
append_planes-requires-clause-there c = all_there_later c.args.b.now _ c.args.lists.now (omega (arith, makes_longer _ _ _ _ c.in_ok-valid.ensures.made)) c.requires.there

pub returns-in_err-planes-clause-made : goal.returns-in_err-planes-clause-made
returns-in_err-planes-clause-made c =
    let lists = c.args.lists.now in
    let f = λ (p : ℕ). lay_gates (append_picks (plane_of p) 0 lists) in
    exit_tries _ _ (append_gates lists) _ _ c.from_residual-in_err-planes.ensures.1
    (second_stops _ _ (lay_gates (append_picks valid_of 0 lists)) (λ valid. each f (range_with_len 0 (widths (kinds_of lists)))) (λ valid planes. gives (record { len = length_of lists; valid = valid; kinds = kinds_of lists; planes = planes })) refl _ _ _ _
    c.in_ok-valid.ensures.made c.in_err-planes.ensures.made)

pub of-requires : goal.of-requires
of-requires c =
    let lists = c.args.lists.now in
    let shaped = append_shaped lists _ _ _ _ _ c.in_ok-valid.ensures.made c.in_ok-planes.ensures.made in
    subst (λ (l : PaddedList). IsShaped l) (sym (list_is _ (record { len = length_of lists; valid = c.in_ok-valid.valid.items; kinds = kinds_of lists; planes = c.in_ok-planes.planes.items }) c.total_len-len.ensures refl
    (c.in_ok-kinds.ensures.items ∙ c.kinds.ensures ∙ first_kinds lists _ c.requires.some c.index-lists-0.is) refl)) shaped

pub returns-clause-made : goal.returns-clause-made
returns-clause-made c =
    let lists = c.args.lists.now in
    let f = λ (p : ℕ). lay_gates (append_picks (plane_of p) 0 lists) in
    last_gives _ _ (append_gates lists) (record { len = length_of lists; valid = c.in_ok-valid.valid.items; kinds = kinds_of lists; planes = c.in_ok-planes.planes.items }) _
    (second_made _ _ (lay_gates (append_picks valid_of 0 lists)) (λ valid. each f (range_with_len 0 (widths (kinds_of lists)))) (λ valid planes. gives (record { len = length_of lists; valid = valid; kinds = kinds_of lists; planes = planes })) refl _ _ _ _
    c.in_ok-valid.ensures.made c.in_ok-planes.ensures.made)
    (c.of.ensures ∙ list_is _ (record { len = length_of lists; valid = c.in_ok-valid.valid.items; kinds = kinds_of lists; planes = c.in_ok-planes.planes.items }) c.total_len-len.ensures refl
    (c.in_ok-kinds.ensures.items ∙ c.kinds.ensures ∙ first_kinds lists _ c.requires.some c.index-lists-0.is) refl)
