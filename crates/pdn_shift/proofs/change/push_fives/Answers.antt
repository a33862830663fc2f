use Rattle.std.proofs.Common.{length, arith}
use Rattle.pdn_shift.proofs.Changing.{within, room_left, at_more, words_more, names_there}
use Rattle.pdn_shift.proofs.change.push_fives.Goals as goal

pub push_gate-requires-clause-named : goal.push_gate-requires-clause-named
push_gate-requires-clause-named c =
    names_there c.args.gates.now c.loop-gate.gate-index (length c.args.differences.now) c.gate-item.result c.requires.order c.requires.long c.loop-gate-test.true c.gate-item.is

pub push_gate-requires-clause-room : goal.push_gate-requires-clause-room
push_gate-requires-clause-room c =
    room_left c.args.gates.now c.loop-gate.gate-index c.loop-gate.at c.gate-item.result c.loop-gate-test.true c.gate-item.is c.loop-gate.invariant.at c.args.words.now c.requires.room

pub loop-gate-preserved : goal.loop-gate-preserved
loop-gate-preserved c =
    let gates = c.args.gates.now in
    let k = c.loop-gate.gate-index in
    let at = c.loop-gate.at in
    let gate = c.gate-item.result in
    let inv = c.loop-gate.invariant in
    let room = within gates k at gate c.loop-gate-test.true c.gate-item.is inv.at (length c.args.words.now) c.requires.room in
    record {
      at = at_more gates k at gate c.loop-gate-test.true c.gate-item.is inv.at c.in_ok-at.field-0 c.in_ok-at.ensures.taken;
      within = omega (arith, room, c.in_ok-at.ensures.taken);
      words = words_more gates k at gate c.loop-gate-test.true c.gate-item.is inv.at c.args.site c.args.differences.now c.args.words.now
          c.args.changed.now.items c.loop-gate.changed.items c.push_gate.new.changed.items inv.words c.in_ok-at.ensures.words;
    }
