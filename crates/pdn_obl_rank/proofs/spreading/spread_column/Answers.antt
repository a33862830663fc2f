use Rattle.std.proofs.Common.{length, sym, subst, List, ℕ, false, []}
use Rattle.pdn_circuit.specs.Building.{Makes}
use Rattle.pdn_circuit.proofs.Making.{makes_none}
use Rattle.pdn_obl_rank.specs.Keys.{spread_column}
use Rattle.pdn_obl_rank.proofs.spreading.spread_column.Goals as goal

pub returns-else-used-clause-made : goal.returns-else-used-clause-made
returns-else-used-clause-made c =
    subst (λ used. Makes c.args.b.now c.args.b.now (spread_column used c.args.planes.now c.args.row (length c.args.b.now.gates)) c.new.result.items) (sym c.if-used.false)
    (subst (λ (xs : List ℕ). Makes c.args.b.now c.args.b.now (spread_column false c.args.planes.now c.args.row (length c.args.b.now.gates)) xs) (sym c.new.ensures.items) (makes_none c.args.b.now []))
