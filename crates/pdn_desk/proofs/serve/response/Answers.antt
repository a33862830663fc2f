use Rattle.std.proofs.Common.{ap, inl}
use Rattle.pdn_desk.specs.Ways.{Replied}
use Rattle.pdn_desk.proofs.Serving.{refused}
use Rattle.pdn_desk.proofs.serve.response.Goals as goal

pub returns-in_ok-refuse-in-Err-Refused-clause-brings :
    goal.returns-in_ok-refuse-in-Err-Refused-clause-brings
returns-in_ok-refuse-in-Err-Refused-clause-brings g c = (
  refused c.args.schema.now _ (g.W.Outside.state c.args.world.now) c.in-Err-Refused.refusal (Replied c.in_ok-refuse-in-Err-Refused.field-0) (rw (c.in-Err-Refused.field-0-is) at c.in-Err-Refused.ensures.requested)
      (inl (ap Replied c.in_ok-refuse-in-Err-Refused.ensures)),
  c.in-Err-Refused.ensures.same,
)
