use Rattle.std.proofs.Common.{◌≡◌, ℕ, ◌+◌, ◌∙◌, Bool, List, ap, arith}
use Rattle.std.specs.Prelude.{codes, not, ◌==◌}
use Rattle.pdn_base.specs.declared.value.Value.{Value}
use Rattle.pdn_network.specs.Network.{rows_a, offset, row}
use Rattle.pdn_network.proofs.NetworkLaws.{with_row, without_row, cdiff_is, is_other, is_that}
use Rattle.pdn_network.proofs.network.rows_a.Goals as goal
use Rattle.pdn_network.proofs.network.rows_a.Goals.{then-offset-ne0+in_ok-row+in_ok-push, else-offset-ne0}

pub loop-before-init : goal.loop-before-init
unfolding rows_a
loop-before-init c = c.new-rows.ensures.items

pub row-requires-clause-code : goal.row-requires-clause-code
row-requires-clause-code c = cdiff_is

pub loop-before-preserved : goal.loop-before-preserved
unfolding rows_a
loop-before-preserved c =
    let seed = c.args.seed in
    let n = c.loop-before.before in
    let p = n + 1 in
    let next : 1 + n ≡ p = omega arith in
    let test : ℕ → Bool = λ p. not (offset seed p == 0) in
    let f : ℕ → List Value = λ p. row p (codes "cdiff") (10 + offset seed p) in
    elim c.if-offset-ne0.branch [
      | then-offset-ne0+in_ok-row+in_ok-push w ↦
          rw (w.rows-is) (w.in_ok-push.ensures.items ∙ with_row test f c.loop-before.rows.items n p next c.loop-before.invariant w.in_ok-row.field-0
          (is_other c.offset-offset.result (offset seed p) 0 c.offset-offset.ensures.is w.if-offset-ne0.true)
          (w.in_ok-row.ensures ∙ ap (λ (offset : ℕ). row p (codes "cdiff") (10 + offset)) c.offset-offset.ensures.is))
      | else-offset-ne0 w ↦ rw (w.rows-is) (without_row test f c.loop-before.rows.items n p next c.loop-before.invariant (is_that c.offset-offset.result (offset seed p) 0 c.offset-offset.ensures.is w.if-offset-ne0.false))
    ]
