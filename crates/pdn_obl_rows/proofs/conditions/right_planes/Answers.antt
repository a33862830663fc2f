use Rattle.std.proofs.Common.{ap, sym, ◌∙◌, ℕ}
use Rattle.pdn_base.specs.declared.marks.Kind.TheVariants as kind
use Rattle.pdn_circuit.specs.Blocks.{gives}
use Rattle.pdn_circuit.specs.Compare.{literal_planes}
use Rattle.pdn_obl_rows.specs.Lists.{width_of}
use Rattle.pdn_base.specs.declared.cond.Operand.{Operand}
use Rattle.pdn_obl_rows.specs.Conditions.{operand_gates}
use Rattle.pdn_obl_rows.proofs.Walks.{known_tries}
use Rattle.pdn_obl_rows.proofs.conditions.right_planes.Goals as goal

pub returns-in-Int-clause-made : goal.returns-in-Int-clause-made
returns-in-Int-clause-made c = known_tries c.args.b.now _ _ _ (ap (λ (o : Operand). operand_gates c.args.list.now c.args.word o) c.in-Int.is ∙ ap (λ (n : ℕ). gives (literal_planes (width_of kind.Int) n)) (sym c.from.ensures)) c.literal.ensures.planes c.literal.ensures.memory

pub returns-in-Code-clause-made : goal.returns-in-Code-clause-made
returns-in-Code-clause-made c = known_tries c.args.b.now _ _ _ (ap (λ (o : Operand). operand_gates c.args.list.now c.args.word o) c.in-Code.is ∙ ap (λ (n : ℕ). gives (literal_planes (width_of kind.Code) n)) (sym c.number.ensures)) c.literal-in-Code.ensures.planes c.literal-in-Code.ensures.memory
