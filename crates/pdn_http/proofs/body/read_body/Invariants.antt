use Rattle.std.proofs.Common.{◌≡◌, ◌≤◌, ◌-◌, length}
use Rattle.pdn_http.proofs.TurnLaws.{Come, front_of}
use Rattle.pdn_http.proofs.body.read_body.Given as goal

abbrev pub invariant-loop-body : goal.invariant-loop-body
invariant-loop-body g l = record {
  come : Come (g.L.Link.left l.fn.link) (g.L.Link.left l.link) (front_of l.come l.size) l.body.items;
  fits : length l.body.items ≤ l.size;
  same : g.L.Link.sent l.link ≡ g.L.Link.sent l.fn.link;
  later : g.L.Link.faults l.fn.link ≤ g.L.Link.faults l.link;
}

abbrev pub decreases-loop-body : goal.decreases-loop-body
decreases-loop-body g l = l.size - length l.body.items
