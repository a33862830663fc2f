use Rattle.std.proofs.Common.{◌+◌, length, drop, get_or, ◌<◌, ◌≤◌, arith, refl}
use Rattle.std.proofs.lemmas.List.{drop_more, drop_all}
use Rattle.pdn_circuit.specs.Compare.{sum_gates}
use Rattle.pdn_circuit.proofs.Making.{exit_tries_list, extends_longer, along_memory, makes_longer}
use Rattle.pdn_circuit.proofs.Summing.{sum_begin, sum_stops, sum_next, sum_end, there_push, there_none}
use Rattle.pdn_circuit.proofs.builder.Builder.sum_steps.Goals as goal

pub loop-k-init : goal.loop-k-init
loop-k-init c = record {
  along = sum_begin c.args.self.now c.args.start c.args.x.now c.args.y.now _ c.new-planes.ensures.items;
  longer = omega arith;
  carry = c.requires.start_there;
  there = there_none _ _ c.new-planes.ensures.items;
}

pub returns-in_err-plane-clause-made : goal.returns-in_err-plane-clause-made
returns-in_err-plane-clause-made c =
    let k = c.loop-k.k in
    let xs = c.args.x.now in
    let ys = c.args.y.now in
    exit_tries_list _ _ (sum_gates c.args.start xs ys) _ _ c.from_residual.ensures.1
    (sum_stops _ _ _ _ (get_or xs k 0) (get_or ys k 0) (drop (k + 1) xs) (drop (k + 1) ys) _ _ _ (drop_more xs k 0 c.loop-k-test.true) (drop_more ys k 0 (omega (arith, c.requires.widths))) c.loop-k.invariant.along _ _ c.in_err-plane.ensures.made)

pub returns-in_err-push-clause-made : goal.returns-in_err-push-clause-made
returns-in_err-push-clause-made c =
    let k = c.loop-k.k in
    let xs = c.args.x.now in
    let ys = c.args.y.now in
    exit_tries_list _ _ (sum_gates c.args.start xs ys) _ _ c.from_residual-in_err-push.ensures.1
    (along_memory _ _ _ _ (sum_next _ _ _ _ (get_or xs k 0) (get_or ys k 0) (drop (k + 1) xs) (drop (k + 1) ys) _ _ _ (drop_more xs k 0 c.loop-k-test.true) (drop_more ys k 0 (omega (arith, c.requires.widths))) c.loop-k.invariant.along _ _ _ c.in_ok-plane.ensures.made refl))

pub loop-k-preserved : goal.loop-k-preserved
loop-k-preserved c =
    let k = c.loop-k.k in
    let xs = c.args.x.now in
    let ys = c.args.y.now in
    let along = sum_next _ _ _ _ (get_or xs k 0) (get_or ys k 0) (drop (k + 1) xs) (drop (k + 1) ys) _ _ _ (drop_more xs k 0 c.loop-k-test.true) (drop_more ys k 0 (omega (arith, c.requires.widths))) c.loop-k.invariant.along _ _ _ c.in_ok-plane.ensures.made c.in_ok-push.ensures.items in
    let rises = makes_longer _ _ _ _ c.in_ok-plane.ensures.made in
    record {
      along = along;
      longer = extends_longer _ _ along.stands;
      carry = c.in_ok-plane.ensures.carry_there;
      there = there_push _ _ _ _ _ c.loop-k.invariant.there (omega (arith, rises)) c.in_ok-plane.ensures.sum_there c.in_ok-push.ensures.items;
    }

pub returns-clause-made : goal.returns-clause-made
returns-clause-made c = sum_end _ _ _ _ _ _ _ _ (drop_all c.loop-k.k c.args.x.now c.loop-k-test.false) c.in_ok-push-2.ensures.items c.loop-k.invariant.along
