use Rattle.std.proofs.Common.{◌≡◌, length, take}
use Rattle.pdn_gmw.specs.Known.{heard_by, settled_by}
use Rattle.pdn_gmw.proofs.rounds.settle_ands.Given as goal

abbrev pub invariant-loop-k : goal.invariant-loop-k
invariant-loop-k l = record {
  long : length l.shares ≡ length l.initial.shares;
  as_many : length l.views ≡ length l.initial.views;
  views : l.views ≡ heard_by (take l.k l.ands) l.frames.heard.now l.initial.views;
  shares : l.shares ≡ settled_by l.site l.initial.views (take l.k l.ands) l.frames.sent.now l.frames.heard.now l.initial.shares;
}
