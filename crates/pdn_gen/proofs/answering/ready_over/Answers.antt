use Rattle.std.proofs.Common.{refl, subst}
use Rattle.std.proofs.lemmas.Result.{err_from_is_err_and}
use Rattle.pdn_schema.specs.Models.{SchemaModel}
use Rattle.pdn_schema.specs.Schemas.{IsSchema}
use Rattle.pdn_query.specs.Answering.{or_large, units_over}
use Rattle.pdn_query.proofs.Walks.{halted}
use Rattle.pdn_gen.proofs.Going.{ready_came, short_tables}
use Rattle.pdn_gen.proofs.answering.ready_over.Goals as goal

pub returns-in_err-a-clause-came : goal.returns-in_err-a-clause-came
returns-in_err-a-clause-came c =
    let p = err_from_is_err_and c.from_residual.result c.from_residual.ensures.1 in
    rw (p.1, p.2) (λ w next. halted w (or_large next (units_over c.args.network.now.schema c.args.plan.now.root c.args.network.now.a c.args.network.now.b)) _ refl)

pub returns-in_err-b-clause-came : goal.returns-in_err-b-clause-came
returns-in_err-b-clause-came c =
    let p = err_from_is_err_and c.from_residual-in_err-b.result c.from_residual-in_err-b.ensures.1 in
    rw (p.1, p.2) (λ w next. halted w (or_large next (units_over c.args.network.now.schema c.args.plan.now.root c.args.network.now.a c.args.network.now.b)) _ refl)

pub ready-requires-clause-few_a : goal.ready-requires-clause-few_a
ready-requires-clause-few_a c =
    let is : IsSchema c.args.network.now.schema = subst (λ (s : SchemaModel). IsSchema s) c.schema.view_is c.schema.invariant in
    rw (c.in_ok-a.ensures) (short_tables c.args.network.now.schema c.args.network.now.a is c.requires.valid_a)

pub ready-requires-clause-few_b : goal.ready-requires-clause-few_b
ready-requires-clause-few_b c =
    let is : IsSchema c.args.network.now.schema = subst (λ (s : SchemaModel). IsSchema s) c.schema.view_is c.schema.invariant in
    rw (c.in_ok-b.ensures) (short_tables c.args.network.now.schema c.args.network.now.b is c.requires.valid_b)

pub returns-clause-came : goal.returns-clause-came
returns-clause-came c =
    let ready = rw (c.in_ok-a.ensures, c.in_ok-b.ensures) at c.ready.ensures in
    λ w next. ready_came w c.args.network.now.schema c.args.plan.now.root c.args.network.now.a c.args.network.now.b next c.ready.result c.requires.valid_a c.requires.valid_b ready
