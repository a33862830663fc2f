use Rattle.std.proofs.Common.{rules}
use Rattle.pdn_plan.proofs.RefusalLaws.{kept_more, refusals_on, bound_on}
use Rattle.pdn_plan.proofs.binding.+bind_with.Goals as goal

pub bind_with-requires : goal.bind_with-requires
bind_with-requires t c = (search rules, kept_more c.args.schema.now c.args.earlier.items c.in-Some.named.now c.in_ok-block-in-Some.block c.in_ok-more-in-Some.more.items c.requires (search rules) (search rules))

pub returns-in_ok-more-in-Some : goal.returns-in_ok-more-in-Some
returns-in_ok-more-in-Some t c = rw (
  refusals_on c.args.schema.now c.args.earlier.items c.args.with.now c.in-Some.named.now c.in-Some.rest.now c.in_ok-block-in-Some.block c.in_ok-more-in-Some.more.items c.requires (search rules) (search rules) (search rules) (search rules),
  bound_on c.args.schema.now c.args.earlier.items c.args.with.now c.in-Some.named.now c.in-Some.rest.now c.in_ok-block-in-Some.block c.in_ok-more-in-Some.more.items c.requires (search rules) (search rules) (search rules),
) at c.bind_with.ensures
