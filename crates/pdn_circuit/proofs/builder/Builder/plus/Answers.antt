use Rattle.std.proofs.Common.{◌∙◌, arith}
use Rattle.pdn_circuit.proofs.Summing.{literal_there}
use Rattle.pdn_circuit.proofs.builder.Builder.plus.Goals as goal

pub sum_steps-requires-clause-y_there : goal.sum_steps-requires-clause-y_there
sum_steps-requires-clause-y_there c = literal_there _ _ _ _ (c.deref.ensures.value ∙ c.in_ok-literal.ensures) (omega (arith, c.mark-mark.ensures.two, c.mark-mark.ensures.mark.count))
