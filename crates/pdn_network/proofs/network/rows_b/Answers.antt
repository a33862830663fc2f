use Rattle.std.proofs.Common.{◌≡◌, ℕ, ◌+◌, ◌∙◌, Bool, List, refl, arith}
use Rattle.std.specs.Prelude.{not, ◌==◌}
use Rattle.pdn_base.specs.declared.value.Value.{Value}
use Rattle.pdn_network.specs.Network.{rows_b, offset, gap, code_at_b, row}
use Rattle.pdn_network.proofs.NetworkLaws.{with_row, without_row, c_is, is_other, is_that}
use Rattle.pdn_network.proofs.network.rows_b.Goals as goal
use Rattle.pdn_network.proofs.network.rows_b.Goals.{then-offset-ne1+in_ok-row+in_ok-push, else-offset-ne1}

pub loop-before-init : goal.loop-before-init
unfolding rows_b
loop-before-init c = c.new-rows.ensures.items

pub row-requires-clause-code : goal.row-requires-clause-code
row-requires-clause-code c = rw (c.code_at_b.ensures) (c_is c.args.seed (c.loop-before.before + 1))

pub loop-before-preserved : goal.loop-before-preserved
unfolding rows_b
loop-before-preserved c =
    let seed = c.args.seed in
    let n = c.loop-before.before in
    let p = n + 1 in
    let next : 1 + n ≡ p = omega arith in
    let test : ℕ → Bool = λ p. not (offset seed p == 1) in
    let f : ℕ → List Value = λ p. row p (code_at_b seed p) (10 + offset seed p + gap seed p) in
    elim c.if-offset-ne1.branch [
      | then-offset-ne1+in_ok-row+in_ok-push w ↦
          rw (w.rows-is) (w.in_ok-push.ensures.items ∙ with_row test f c.loop-before.rows.items n p next c.loop-before.invariant w.in_ok-row.field-0
          (is_other c.offset-offset.result (offset seed p) 1 c.offset-offset.ensures.is w.if-offset-ne1.true)
          (rw (w.in_ok-row.ensures, w.code_at_b.ensures, c.offset-offset.ensures.is, w.gap.ensures.is) refl))
      | else-offset-ne1 w ↦ rw (w.rows-is) (without_row test f c.loop-before.rows.items n p next c.loop-before.invariant (is_that c.offset-offset.result (offset seed p) 1 c.offset-offset.ensures.is w.if-offset-ne1.false))
    ]
