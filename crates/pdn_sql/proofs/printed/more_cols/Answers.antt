use Rattle.std.proofs.Common.{◌∷◌}
use Rattle.pdn_sql.specs.declared.token.Token.TheVariants.{Mark}
use Rattle.pdn_sql.specs.declared.token.Symbol.TheVariants as marks
use Rattle.pdn_sql.specs.declared.query.Col.{Col}
use Rattle.pdn_sql.specs.Printing.{col_tokens}
use Rattle.pdn_sql.proofs.PrintLaws.{each_step, put_two}
use Rattle.pdn_sql.proofs.printed.more_cols.Goals as goal

pub loop-x-preserved : goal.loop-x-preserved
loop-x-preserved c = each_step (λ (x : Col). Mark marks.Comma ∷ col_tokens x) c.args.rest.now c.loop-x.x-index c.x-item.result c.args.out.now.items c.loop-x.out.items _ c.loop-x-test.true c.x-item.is c.loop-x.invariant (put_two _ _ _ _ _ c.in_ok-put_mark.ensures c.in_ok-put_col.ensures)
