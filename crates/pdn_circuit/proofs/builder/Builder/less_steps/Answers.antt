use Rattle.std.proofs.Common.{◌+◌, length, drop, get_or, arith}
use Rattle.std.proofs.lemmas.List.{drop_more, drop_all}
use Rattle.pdn_circuit.specs.Compare.{less_gates}
use Rattle.pdn_circuit.proofs.Making.{exit_tries, extends_longer}
use Rattle.pdn_circuit.proofs.Comparing.{less_stops, less_next, less_end}
use Rattle.pdn_circuit.proofs.builder.Builder.less_steps.Goals as goal

pub returns-in_err-less-clause-made : goal.returns-in_err-less-clause-made
returns-in_err-less-clause-made c =
    let k = c.loop-k.k in
    let xs = c.args.x.now in
    let ys = c.args.y.now in
    exit_tries _ _ (less_gates c.args.init xs ys) _ _ c.from_residual.ensures.1
    (less_stops _ _ _ _ (get_or xs k 0) (get_or ys k 0) (drop (k + 1) xs) (drop (k + 1) ys) _ _ (drop_more xs k 0 c.loop-k-test.true) (drop_more ys k 0 (omega (arith, c.requires.widths))) c.loop-k.invariant.along _ _ c.in_err-less.ensures.made)

pub loop-k-preserved : goal.loop-k-preserved
loop-k-preserved c =
    let k = c.loop-k.k in
    let xs = c.args.x.now in
    let ys = c.args.y.now in
    let along = less_next _ _ _ _ (get_or xs k 0) (get_or ys k 0) (drop (k + 1) xs) (drop (k + 1) ys) _ _ (drop_more xs k 0 c.loop-k-test.true) (drop_more ys k 0 (omega (arith, c.requires.widths))) c.loop-k.invariant.along _ _ c.in_ok-less.ensures.made in
    record { along = along; longer = extends_longer _ _ along.stands; less = c.in_ok-less.ensures.there }

pub returns-clause-made : goal.returns-clause-made
returns-clause-made c = less_end _ _ _ c.loop-k.less _ _ (drop_all c.loop-k.k c.args.x.now c.loop-k-test.false) c.loop-k.invariant.along
