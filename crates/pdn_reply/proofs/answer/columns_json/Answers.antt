use Rattle.std.proofs.Common.{take_all, ap, ◌∙◌}
use Rattle.serde_json.specs.Data.{string}
use Rattle.json.specs.Print.{quoted}
use Rattle.pdn_tree.specs.declared.plan.OutColumn.{OutColumn}
use Rattle.pdn_reply.proofs.ListLaws.{say_next, says_list, says_string}
use Rattle.pdn_reply.proofs.answer.columns_json.Goals as goal

pub loop-column-preserved : goal.loop-column-preserved
loop-column-preserved c =
    rw c.in_ok-push.ensures.items (say_next (λ (column : OutColumn). quoted column.name) c.args.columns.now c.loop-column.column-index c.column-item.result c.loop-column.list.items c.in_ok-json.json
    c.loop-column-test.true c.column-item.is c.loop-column.invariant (says_string c.in_ok-json.json _ (c.in_ok-json.ensures ∙ ap string c.as_str.ensures)))

pub returns : goal.returns
returns c = says_list c.loop-column.list _ (rw (take_all c.loop-column.column-index c.args.columns.now c.loop-column-test.false) at c.loop-column.invariant)
