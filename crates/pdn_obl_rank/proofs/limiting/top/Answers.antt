use Rattle.std.proofs.Common.{refl, sym, ap, ◌∙◌, ◌≡◌, subst, length, List, ℕ}
use Rattle.std.specs.List.{All}
use Rattle.pdn_circuit.proofs.Making.{exit_tries}
use Rattle.pdn_obl_rows.specs.Lists.{PaddedList}
use Rattle.pdn_obl_rank.specs.Tops.{top_gates}
use Rattle.pdn_obl_rank.proofs.TopSteps.{not_limited, planes_wide, not_cleared, top_shaped, top_made}
use Rattle.pdn_obl_rank.proofs.limiting.top.Goals as goal

pub returns-in_err-valid-clause-made : goal.returns-in_err-valid-clause-made
returns-in_err-valid-clause-made c = exit_tries _ _ (top_gates c.args.list.now c.args.order.now c.args.limit) _ _ c.from_residual.ensures.1 (not_limited c.args.b.now c.args.list.now c.args.order.now c.args.limit _ _ c.in_err-valid.ensures.made)

pub cleared_planes-requires-clause-wide : goal.cleared_planes-requires-clause-wide
cleared_planes-requires-clause-wide c =
    subst (λ (ps : List (List ℕ)). All (λ plane. length plane ≡ length c.as_slice.result.now) ps) (sym c.planes.ensures.planes)
    (planes_wide c.args.list.now c.as_slice.result.now c.planes.ensures.shaped (ap length c.as_slice.ensures.value ∙ c.in_ok-valid.ensures.count))

pub returns-in_err-planes-clause-made : goal.returns-in_err-planes-clause-made
returns-in_err-planes-clause-made c = exit_tries _ _ (top_gates c.args.list.now c.args.order.now c.args.limit) _ _ c.from_residual-in_err-planes.ensures.1 (not_cleared c.args.b.now c.args.list.now c.args.order.now c.args.limit _ _ c.in_ok-valid.ensures.made c.as_slice.result.now c.as_slice.ensures.value c.planes.result.now c.planes.ensures.planes _ _ c.in_err-planes.ensures.made)

pub of-requires : goal.of-requires
of-requires c =
    top_shaped c.args.b.now c.args.list.now c.args.order.now c.args.limit _ _ c.in_ok-valid.ensures.made c.as_slice.result.now c.as_slice.ensures.value c.planes.result.now c.planes.ensures.planes _ _ c.in_ok-planes.ensures.made (record { len = c.list.inside.len; valid = c.in_ok-valid.valid.items; kinds = c.in_ok-kinds.kinds.items; planes = c.in_ok-planes.planes.items })
    (ap (λ (l : PaddedList). l.len) c.list.view_is) refl (c.in_ok-kinds.ensures.items ∙ c.kinds.ensures) refl
    c.planes.ensures.shaped c.in_ok-valid.ensures.count

pub returns-clause-made : goal.returns-clause-made
returns-clause-made c =
    top_made c.args.b.now c.args.list.now c.args.order.now c.args.limit _ _ c.in_ok-valid.ensures.made c.as_slice.result.now c.as_slice.ensures.value c.planes.result.now c.planes.ensures.planes _ _ c.in_ok-planes.ensures.made (record { len = c.list.inside.len; valid = c.in_ok-valid.valid.items; kinds = c.in_ok-kinds.kinds.items; planes = c.in_ok-planes.planes.items })
    (ap (λ (l : PaddedList). l.len) c.list.view_is) refl (c.in_ok-kinds.ensures.items ∙ c.kinds.ensures) refl
    _ c.of.ensures
