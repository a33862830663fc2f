use Rattle.std.proofs.Common.{inl, inr}
use Rattle.pdn_view.proofs.DueLaws.{slices_end}
use Rattle.pdn_view.proofs.due.add_slices.Goals.{then-loop-i-test+else-j-b, else-loop-i-test}
use Rattle.pdn_view.proofs.due.add_slices.Goals as goal

pub returns : goal.returns
returns c = slices_end c.args.a.now c.args.b.now c.loop-i.i c.loop-i.j c.args.dues.now.items c.loop-i.dues.items _ _
    (elim c.loop-i-test.branch [ then-loop-i-test+else-j-b w ↦ inr w.if-j-b.false | else-loop-i-test w ↦ inl w.loop-i-test.false ])
    c.loop-i.invariant.left c.in_ok-add_plain.ensures c.in_ok-add_plain-2.ensures
