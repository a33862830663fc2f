use Rattle.std.proofs.Common.{◌≡◌, length, arith, rules}
use Rattle.pdn_circuit.proofs.Building.{push_room, push_over_ands, push_over_gates, push_makes, push_keeps, len_there}
use Rattle.pdn_circuit.proofs.builder.Builder.push.Goals as goal

pub overflow_add-self-inside : goal.overflow_add-self-inside
overflow_add-self-inside c = let room = push_room c.self.inside _ _ c.self.invariant c.tally_of-added.ensures in omega (arith, room)

pub returns-then-self-added : goal.returns-then-self-added
returns-then-self-added c = record { there = tt; made = push_over_ands c.self.inside _ _ _ c.self.view_is c.self.invariant c.tally_of-added.ensures c.if-self-added.true }

pub returns-then-number-self : goal.returns-then-number-self
returns-then-number-self c = record { there = tt; made = push_over_gates c.self.inside _ _ _ c.len-number.result c.self.view_is c.self.invariant c.tally_of-added.ensures c.if-self-added.false (search rules) c.if-number-self.true }

pub invariant_of-self-2 : goal.invariant_of-self-2
invariant_of-self-2 c = push_keeps c.self.inside _ _ _ _ c.len-number.result _ c.self.view_is c.self.invariant c.tally_of-added.ensures c.if-self-added.false (search rules) c.if-number-self.false c.requires c.in_ok-push.ensures.items c.plus-self-inside.ensures

pub returns : goal.returns
returns c = record {
  there = omega (arith, len_there _ _ _ c.in_ok-push.ensures.items, let n : c.len-number.result ≡ length c.self.inside.gates.items = search rules in n);
  made = push_makes c.self.inside _ _ _ _ _ c.self.view_is c.self.invariant c.tally_of-added.ensures c.if-self-added.false (search rules) c.if-number-self.false c.in_ok-push.ensures.items;
}
