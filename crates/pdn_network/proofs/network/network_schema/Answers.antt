use Rattle.std.proofs.Common.{◌∷◌, ◌∙◌, [], ap, subst, sym}
use Rattle.pdn_schema.specs.Models.{TableModel}
use Rattle.pdn_schema.specs.Schemas.{IsSchema}
use Rattle.pdn_network.proofs.NetworkLaws.{schema_is, schema_with}
use Rattle.pdn_network.proofs.network.network_schema.Goals as goal

pub invariant_of-result : goal.invariant_of-result
invariant_of-result c = subst IsSchema (sym (schema_with _ _ c.new.ensures.items (c.in_ok-vec.ensures.items ∙ ap (λ (t : TableModel). t ∷ []) c.in_ok-diag.ensures))) schema_is

pub returns : goal.returns
returns c = schema_with _ _ c.new.ensures.items (c.in_ok-vec.ensures.items ∙ ap (λ (t : TableModel). t ∷ []) c.in_ok-diag.ensures)
