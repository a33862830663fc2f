use Rattle.std.proofs.Common.{map, take}
use Rattle.json.specs.Print.{quoted}
use Rattle.pdn_tree.specs.declared.plan.OutColumn.{OutColumn}
use Rattle.pdn_reply.specs.Values.{SayEach}
use Rattle.pdn_reply.proofs.answer.columns_json.Given as goal

abbrev pub invariant-loop-column : goal.invariant-loop-column
invariant-loop-column l = SayEach l.list.items (map (λ (column : OutColumn). quoted column.name) (take l.column-index l.columns))
