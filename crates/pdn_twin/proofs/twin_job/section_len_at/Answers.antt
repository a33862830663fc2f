use Rattle.std.proofs.Common.{ap, ◌∙◌}
use Rattle.pdn_circuit.specs.Gates.{Net}
use Rattle.pdn_dealer.specs.Sections.{section_length}
use Rattle.pdn_broker.proofs.UnitPlaces.{secure_is_dealt}
use Rattle.pdn_twin.proofs.twin_job.section_len_at.Goals as goal

pub circuit-requires-clause-dealt : goal.circuit-requires-clause-dealt
circuit-requires-clause-dealt c = secure_is_dealt _ c.requires.secure

pub returns : goal.returns
returns c = c.section_len.ensures ∙ ap (λ (net : Net). section_length net) c.circuit.ensures.net
