use Rattle.std.proofs.Common.{refl, ap, ◌∙◌, length, []}
use Rattle.pdn_circuit.proofs.Making.{exit_tries_list}
use Rattle.pdn_obl_rank.specs.Tops.{first_gates}
use Rattle.pdn_obl_rank.proofs.TopSteps.{not_numbered, cond_fits, not_kept, no_copy, kept_made, kept_count}
use Rattle.pdn_obl_rank.proofs.limiting.first.Goals as goal

pub returns-in_err-numbered-clause-made : goal.returns-in_err-numbered-clause-made
returns-in_err-numbered-clause-made c = exit_tries_list _ _ (first_gates c.args.list.now c.args.order.now c.args.limit) _ _ c.from_residual.ensures.1 (not_numbered c.args.b.now c.args.list.now c.args.order.now c.args.limit [] refl _ _ c.in_err-numbered.ensures.made)

pub filter-requires-clause-fits : goal.filter-requires-clause-fits
filter-requires-clause-fits c = cond_fits c.args.b.now c.args.list.now c.args.order.now c.args.limit [] refl _ _ c.in_ok-numbered.ensures.made _ (length c.kinds.result.now) c.in_ok-cond.ensures.gives (ap length c.kinds.ensures) c.ranges.limit.fits

pub returns-in_err-kept-clause-made : goal.returns-in_err-kept-clause-made
returns-in_err-kept-clause-made c = exit_tries_list _ _ (first_gates c.args.list.now c.args.order.now c.args.limit) _ _ c.from_residual-in_err-kept.ensures.1 (not_kept c.args.b.now c.args.list.now c.args.order.now c.args.limit [] refl _ _ c.in_ok-numbered.ensures.made _ (length c.kinds.result.now) c.in_ok-cond.ensures.gives (ap length c.kinds.ensures) _ _ c.in_err-kept.ensures.made)

pub returns-in_err-valid-clause-made : goal.returns-in_err-valid-clause-made
returns-in_err-valid-clause-made c = exit_tries_list _ _ (first_gates c.args.list.now c.args.order.now c.args.limit) _ _ c.from_residual-in_err-valid.ensures.1 (no_copy c.args.b.now c.args.list.now c.args.order.now c.args.limit [] refl _ _ c.in_ok-numbered.ensures.made _ (length c.kinds.result.now) c.in_ok-cond.ensures.gives (ap length c.kinds.ensures) _ _ c.in_ok-kept.ensures.made)

pub returns-clause-made : goal.returns-clause-made
returns-clause-made c = kept_made c.args.b.now c.args.list.now c.args.order.now c.args.limit [] refl _ _ c.in_ok-numbered.ensures.made _ (length c.kinds.result.now) c.in_ok-cond.ensures.gives (ap length c.kinds.ensures) _ _ c.in_ok-kept.ensures.made _ (c.in_ok-valid.ensures.items ∙ c.valid.ensures.valid)

pub returns-clause-count : goal.returns-clause-count
returns-clause-count c = ap length (c.in_ok-valid.ensures.items ∙ c.valid.ensures.valid) ∙ kept_count c.args.b.now c.args.list.now c.args.order.now c.args.limit [] refl _ _ c.in_ok-numbered.ensures.made _ (length c.kinds.result.now) c.in_ok-cond.ensures.gives (ap length c.kinds.ensures) _ _ c.in_ok-kept.ensures.made
