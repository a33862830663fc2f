use Rattle.std.proofs.Common.{List, map, take}
use Rattle.pdn_base.specs.declared.value.Value.{Value}
use Rattle.pdn_reply.specs.Bodies.{list_text, value_text}
use Rattle.pdn_reply.specs.Values.{SayEach}
use Rattle.pdn_reply.proofs.answer.rows_json.Given as goal

abbrev pub invariant-loop-row : goal.invariant-loop-row
invariant-loop-row l = SayEach l.list.items (map (λ (row : List Value). list_text (map value_text row)) (take l.row-index l.rows))
