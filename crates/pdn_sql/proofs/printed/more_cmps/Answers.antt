use Rattle.std.proofs.Common.{◌∷◌}
use Rattle.pdn_sql.specs.declared.token.Token.TheVariants.{Word}
use Rattle.pdn_sql.specs.declared.token.Keyword.TheVariants as words
use Rattle.pdn_sql.specs.declared.query.SqlCmp.{SqlCmp}
use Rattle.pdn_sql.specs.Printing.{cmp_tokens}
use Rattle.pdn_sql.proofs.PrintLaws.{each_step, put_two}
use Rattle.pdn_sql.proofs.printed.more_cmps.Goals as goal

pub loop-x-preserved : goal.loop-x-preserved
loop-x-preserved c = each_step (λ (x : SqlCmp). Word words.Or ∷ cmp_tokens x) c.args.rest.now c.loop-x.x-index c.x-item.result c.args.out.now.items c.loop-x.out.items _ c.loop-x-test.true c.x-item.is c.loop-x.invariant (put_two _ _ _ _ _ c.in_ok-put_word.ensures c.in_ok-put_cmp.ensures)
