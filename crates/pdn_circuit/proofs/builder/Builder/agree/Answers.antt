use Rattle.std.proofs.Common.{◌+◌, length, drop, get_or, sym, subst, List, ℕ, ◌<◌, ◌≤◌, arith, refl}
use Rattle.std.specs.List.{All}
use Rattle.std.proofs.lemmas.List.{drop_more, drop_all}
use Rattle.pdn_circuit.specs.Compare.{agree_gates}
use Rattle.pdn_circuit.proofs.Making.{exit_tries_list, extends_longer, along_memory, makes_longer}
use Rattle.pdn_circuit.proofs.Comparing.{agree_begin, agree_stops, agree_next, agree_end}
use Rattle.pdn_circuit.proofs.Summing.{there_push, there_none}
use Rattle.pdn_circuit.proofs.builder.Builder.agree.Goals as goal

pub loop-k-init : goal.loop-k-init
loop-k-init c = record {
  along = agree_begin c.args.self.now c.args.x.now c.args.y.now _ c.in_ok-planes.ensures.items;
  longer = omega arith;
  there = there_none _ _ c.in_ok-planes.ensures.items;
}

pub returns-in_err-agree-clause-made : goal.returns-in_err-agree-clause-made
returns-in_err-agree-clause-made c =
    let k = c.loop-k.k in
    let xs = c.args.x.now in
    let ys = c.args.y.now in
    exit_tries_list _ _ (agree_gates xs ys) _ _ c.from_residual-in_err-agree.ensures.1
    (agree_stops _ _ _ (get_or xs k 0) (get_or ys k 0) (drop (k + 1) xs) (drop (k + 1) ys) _ _ _ (drop_more xs k 0 c.loop-k-test.true) (drop_more ys k 0 (omega (arith, c.requires.widths))) c.loop-k.invariant.along _ _ c.in_err-agree.ensures.made)

pub returns-in_err-push-clause-made : goal.returns-in_err-push-clause-made
returns-in_err-push-clause-made c =
    let k = c.loop-k.k in
    let xs = c.args.x.now in
    let ys = c.args.y.now in
    exit_tries_list _ _ (agree_gates xs ys) _ _ c.from_residual-in_err-push.ensures.1
    (along_memory _ _ _ _ (agree_next _ _ _ (get_or xs k 0) (get_or ys k 0) (drop (k + 1) xs) (drop (k + 1) ys) _ _ _ (drop_more xs k 0 c.loop-k-test.true) (drop_more ys k 0 (omega (arith, c.requires.widths))) c.loop-k.invariant.along _ _ _ c.in_ok-agree.ensures.made refl))

pub loop-k-preserved : goal.loop-k-preserved
loop-k-preserved c =
    let k = c.loop-k.k in
    let xs = c.args.x.now in
    let ys = c.args.y.now in
    let along = agree_next _ _ _ (get_or xs k 0) (get_or ys k 0) (drop (k + 1) xs) (drop (k + 1) ys) _ _ _ (drop_more xs k 0 c.loop-k-test.true) (drop_more ys k 0 (omega (arith, c.requires.widths))) c.loop-k.invariant.along _ _ _ c.in_ok-agree.ensures.made c.in_ok-push.ensures.items in
    let rises = makes_longer _ _ _ _ c.in_ok-agree.ensures.made in
    record {
      along = along;
      longer = extends_longer _ _ along.stands;
      there = there_push _ _ _ _ _ c.loop-k.invariant.there (omega (arith, rises)) c.in_ok-agree.ensures.there c.in_ok-push.ensures.items;
    }

pub returns-clause-made : goal.returns-clause-made
returns-clause-made c = agree_end _ _ _ _ _ _ (drop_all c.loop-k.k c.args.x.now c.loop-k-test.false) c.loop-k.invariant.along
