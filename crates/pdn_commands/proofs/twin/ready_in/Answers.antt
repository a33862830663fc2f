use Rattle.std.proofs.Common.{subst, sym}
use Rattle.pdn_schema.specs.Models.{SchemaModel}
use Rattle.pdn_schema.specs.Rows.{AreValid}
use Rattle.pdn_schema.specs.Schemas.{IsSchema}
use Rattle.pdn_agree.specs.Agreement.{Union}
use Rattle.pdn_commands.proofs.AgreedWorlds.{few_tables}
use Rattle.pdn_commands.proofs.twin.ready_in.Goals as goal

pub ready-requires-clause-few_a : goal.ready-requires-clause-few_a
ready-requires-clause-few_a c κs within =
    let valid = subst (λ (u : Union). AreValid c.args.schema.now u.a) (sym c.tables.view_is) c.requires.a in
    few_tables c.args.schema.now (subst (λ (s : SchemaModel). IsSchema s) c.schema.view_is c.schema.invariant) c.in_ok-a.a (subst (AreValid c.args.schema.now) (sym c.in_ok-a.ensures) valid) κs within

pub ready-requires-clause-few_b : goal.ready-requires-clause-few_b
ready-requires-clause-few_b c κs within =
    let valid = subst (λ (u : Union). AreValid c.args.schema.now u.b) (sym c.tables.view_is) c.requires.b in
    few_tables c.args.schema.now (subst (λ (s : SchemaModel). IsSchema s) c.schema.view_is c.schema.invariant) c.in_ok-b.b (subst (AreValid c.args.schema.now) (sym c.in_ok-b.ensures) valid) κs within
