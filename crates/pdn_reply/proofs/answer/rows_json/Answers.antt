use Rattle.std.proofs.Common.{List, map, take_all, subst}
use Rattle.pdn_base.specs.declared.value.Value.{Value}
use Rattle.pdn_reply.specs.Bodies.{list_text, value_text}
use Rattle.pdn_reply.specs.Values.{Says}
use Rattle.pdn_reply.proofs.ListLaws.{say_next, says_list}
use Rattle.pdn_reply.proofs.answer.rows_json.Goals as goal

pub loop-row-preserved : goal.loop-row-preserved
loop-row-preserved c =
    rw c.in_ok-push.ensures.items (say_next (λ (row : List Value). list_text (map value_text row)) c.args.rows.now c.loop-row.row-index c.row-item.result c.loop-row.list.items c.in_ok-json.json
    c.loop-row-test.true c.row-item.is c.loop-row.invariant (subst (λ (row : List Value). Says c.in_ok-json.json (list_text (map value_text row))) c.values.ensures c.in_ok-json.ensures))

pub returns : goal.returns
returns c = says_list c.loop-row.list _ (rw (take_all c.loop-row.row-index c.args.rows.now c.loop-row-test.false) at c.loop-row.invariant)
