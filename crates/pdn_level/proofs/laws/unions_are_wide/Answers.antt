use Rattle.pdn_level.proofs.TableBounds.{union_wide}
use Rattle.pdn_level.proofs.laws.unions_are_wide.Goals as goal

pub returns : goal.returns
returns c a b va vb = union_wide c.args.schema.now a b va vb
