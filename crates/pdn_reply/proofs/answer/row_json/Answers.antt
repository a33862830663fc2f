use Rattle.std.proofs.Common.{take_all}
use Rattle.pdn_reply.specs.Bodies.{value_text}
use Rattle.pdn_reply.proofs.ListLaws.{say_next, says_list}
use Rattle.pdn_reply.proofs.answer.row_json.Goals as goal

pub loop-value-preserved : goal.loop-value-preserved
loop-value-preserved c =
    rw c.in_ok-push.ensures.items (say_next value_text c.args.row.now c.loop-value.value-index c.value-item.result c.loop-value.list.items c.in_ok-json.json
    c.loop-value-test.true c.value-item.is c.loop-value.invariant c.in_ok-json.ensures)

pub returns : goal.returns
returns c = says_list c.loop-value.list _ (rw (take_all c.loop-value.value-index c.args.row.now c.loop-value-test.false) at c.loop-value.invariant)
