use Rattle.std.proofs.Common.{◌≡◌, ◌≤◌, ◌-◌, length}
use Rattle.std.specs.Io.KnownBytes.{Consumes}
use Rattle.pdn_http.specs.Heads.{HasNoHead}
use Rattle.pdn_http.proofs.read_head.read_head.Given as goal

abbrev pub invariant-loop-bytes : goal.invariant-loop-bytes
invariant-loop-bytes g l = record {
  taken : Consumes (g.L.Link.left l.fn.link) (g.L.Link.left l.link) l.bytes.items;
  none : HasNoHead l.bytes.items;
  few : length l.bytes.items ≤ 8192;
  same : g.L.Link.sent l.link ≡ g.L.Link.sent l.fn.link;
  later : g.L.Link.faults l.fn.link ≤ g.L.Link.faults l.link;
}

abbrev pub decreases-loop-bytes : goal.decreases-loop-bytes
decreases-loop-bytes g l = 8192 - length l.bytes.items
