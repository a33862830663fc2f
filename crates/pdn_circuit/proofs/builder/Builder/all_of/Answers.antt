use Rattle.std.proofs.Common.{◌+◌, length, drop, get_or, sym, ◌∙◌}
use Rattle.std.proofs.lemmas.Bool.{eqb-true}
use Rattle.std.proofs.lemmas.List.{drop_more, drop_all}
use Rattle.pdn_circuit.specs.Compare.{all_of_gates}
use Rattle.pdn_circuit.proofs.Making.{exit_tries, extends_longer}
use Rattle.pdn_circuit.proofs.Comparing.{all_none, all_stops, all_next, all_end}
use Rattle.pdn_circuit.proofs.builder.Builder.all_of.Goals as goal

pub returns-then-is_empty-clause-made : goal.returns-then-is_empty-clause-made
returns-then-is_empty-clause-made c = all_none c.args.self.now c.args.planes.now (eqb-true (length c.args.planes.now) 0 (sym c.is_empty.ensures ∙ c.if-is_empty.true))

pub returns-in_err-all-clause-made : goal.returns-in_err-all-clause-made
returns-in_err-all-clause-made c =
    let k = c.loop-k.k in
    let planes = c.args.planes.now in
    exit_tries _ _ (all_of_gates planes) _ _ c.from_residual.ensures.1
    (all_stops _ _ _ _ (get_or planes k 0) (drop (k + 1) planes) _ (drop_more planes k 0 c.loop-k-test.true) c.loop-k.invariant.along _ _ c.in_err-all.ensures.made)

pub loop-k-preserved : goal.loop-k-preserved
loop-k-preserved c =
    let k = c.loop-k.k in
    let planes = c.args.planes.now in
    let along = all_next _ _ _ _ (get_or planes k 0) (drop (k + 1) planes) _ (drop_more planes k 0 c.loop-k-test.true) c.loop-k.invariant.along _ _ c.in_ok-all.ensures.made in
    record { along = along; longer = extends_longer _ _ along.stands; all = c.in_ok-all.ensures.there }

pub returns-clause-made : goal.returns-clause-made
returns-clause-made c = all_end _ _ _ c.loop-k.all _ (drop_all c.loop-k.k c.args.planes.now c.loop-k-test.false) c.loop-k.invariant.along
