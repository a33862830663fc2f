use Rattle.std.proofs.lemmas.Bool.{false≢true}
use Rattle.std.proofs.Common.{arith}
use Rattle.pdn_schema.proofs.ValidLaws.{not_over}
use Rattle.pdn_schema.proofs.valid.is_over.Goals as goal

pub returns : goal.returns
returns c = (
  λ e. absurd (false≢true e),
  λ w.
      let fine = not_over c.args.column c.args.per c.args.rows.now (λ k lt. c.loop-row.invariant k (omega (arith, lt, c.loop-row-test.false))) w.0 in
      absurd (omega (arith, w.1, fine)),
)
