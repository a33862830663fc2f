use Rattle.std.proofs.Common.{map, take}
use Rattle.pdn_reply.specs.Bodies.{value_text}
use Rattle.pdn_reply.specs.Values.{SayEach}
use Rattle.pdn_reply.proofs.answer.row_json.Given as goal

abbrev pub invariant-loop-value : goal.invariant-loop-value
invariant-loop-value l = SayEach l.list.items (map value_text (take l.value-index l.row))
