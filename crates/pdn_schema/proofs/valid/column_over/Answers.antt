use Rattle.std.proofs.Common.{sym, ◌∙◌}
use Rattle.std.proofs.lemmas.Bool.{false≢true}
use Rattle.pdn_schema.proofs.ValidLaws.{keeps_more, keeps_all, at_most}
use Rattle.pdn_schema.proofs.valid.column_over.Goals as goal
use Rattle.pdn_schema.proofs.valid.column_over.Goals.{else-eq-via-then-eq+else-is_over, else-eq-via-else-eq}

pub loop-i-preserved : goal.loop-i-preserved
loop-i-preserved c =
    keeps_more c.args.columns.now c.args.rows.now c.loop-i.i c.index-columns-i.result c.loop-i-test.true c.index-columns-i.is c.loop-i.invariant
    (λ is number. elim c.else-eq.branch [
      | else-eq-via-then-eq+else-is_over w ↦ at_most c.index-columns-i.result.per _ (λ over. false≢true (sym w.if-is_over.false ∙ w.is_over.ensures.1 (number, over)))
      | else-eq-via-else-eq w ↦ absurd (false≢true (rw is at w.if-eq.ensures))
    ])

pub returns : goal.returns
returns c = keeps_all c.args.columns.now c.args.rows.now c.loop-i.i c.loop-i-test.false c.loop-i.invariant
