use Rattle.std.proofs.Common.{◌≡◌, ◌+◌, None, Some, rules, arith}
use Rattle.pdn_view.specs.Machine.{next}
use Rattle.pdn_view.specs.Faults.{IsFirstFault}
use Rattle.pdn_view.proofs.TextLaws.{Read, read_next, few_lines, fault_here, found_at, only_at, fault_at}
use Rattle.pdn_view.proofs.reading.read_view.Goals as goal

pub returns-in_default-2-clause-only : goal.returns-in_default-2-clause-only
returns-in_default-2-clause-only c =
    let none : next c.loop-front.state c.in-Some.front.now ≡ None = search rules in
    let fault : IsFirstFault c.args.bytes.now c.loop-front.line =
    fault_here c.args.bytes.now c.loop-front.state c.loop-front.rest.now c.in-Some.front.now c.in-Some.more.now c.loop-front.line c.loop-front.invariant c.in-Some.ensures none in
    fault.none

pub returns-in_default-2-clause-fault : goal.returns-in_default-2-clause-fault
returns-in_default-2-clause-fault c =
    let none : next c.loop-front.state c.in-Some.front.now ≡ None = search rules in
    fault_here c.args.bytes.now c.loop-front.state c.loop-front.rest.now c.in-Some.front.now c.in-Some.more.now c.loop-front.line c.loop-front.invariant c.in-Some.ensures none

pub loop-front-preserved : goal.loop-front-preserved
loop-front-preserved c =
    let some : next c.loop-front.state c.in-Some.front.now ≡ Some c.in-Some-2.after = search rules in
    read_next c.args.bytes.now c.loop-front.state c.in-Some-2.after c.loop-front.rest.now c.in-Some.front.now c.in-Some.more.now c.loop-front.line c.loop-front.invariant c.in-Some.ensures some

pub overflow_add-line : goal.overflow_add-line
overflow_add-line c =
    let some : next c.loop-front.state c.in-Some.front.now ≡ Some c.in-Some-2.after = search rules in
    let read : Read c.args.bytes.now c.in-Some-2.after c.in-Some.more.now (c.loop-front.line + 1) =
    read_next c.args.bytes.now c.loop-front.state c.in-Some-2.after c.loop-front.rest.now c.in-Some.front.now c.in-Some.more.now c.loop-front.line c.loop-front.invariant c.in-Some.ensures some in
    omega (arith, few_lines c.args.bytes.now c.in-Some-2.after c.in-Some.more.now (c.loop-front.line + 1) read, c.requires.short)

pub returns-clause-found : goal.returns-clause-found
returns-clause-found c = found_at c.args.bytes.now c.loop-front.state c.loop-front.rest.now c.loop-front.line c.finish.result c.loop-front.invariant c.finish.ensures

pub returns-clause-only : goal.returns-clause-only
returns-clause-only c = only_at c.args.bytes.now c.loop-front.state c.loop-front.rest.now c.loop-front.line c.finish.result c.loop-front.invariant c.in_default.ensures c.finish.ensures

pub returns-clause-fault : goal.returns-clause-fault
returns-clause-fault c = fault_at c.args.bytes.now c.loop-front.state c.loop-front.rest.now c.loop-front.line c.finish.result c.loop-front.invariant c.in_default.ensures c.finish.ensures
