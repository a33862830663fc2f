use Rattle.std.proofs.Common.{ap, ◌∙◌, List, take, subst, sym, arith}
use Rattle.pdn_circuit.specs.declared.gate.Gate.{Gate}
use Rattle.pdn_circuit.specs.Building.{Made}
use Rattle.pdn_circuit.proofs.Building.{cut_keeps}
use Rattle.pdn_circuit.proofs.builder.Builder.cut.Goals as goal

pub invariant_of-self : goal.invariant_of-self
invariant_of-self c = cut_keeps c.self.inside c.args.self.now c.args.mark.now c.truncate.new.self c.self.view_is c.self.invariant c.requires.mark c.requires.two c.truncate.ensures.items
