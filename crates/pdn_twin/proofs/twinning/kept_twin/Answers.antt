use Rattle.std.proofs.Common.{sym, ◌∙◌}
use Rattle.pdn_worlds.specs.TapeChange.{shift_tape}
use Rattle.pdn_twin.proofs.WorldLaws.{sees_the_same}
use Rattle.pdn_twin.proofs.twinning.kept_twin.Goals as goal

pub site_view-requires : goal.site_view-requires
site_view-requires g c = (g.D.Deal.tape c.args.deal.now, c.as_slice.ensures.value ∙ c.in_ok-runs.ensures.first)

pub site_view-requires-2 : goal.site_view-requires-2
site_view-requires-2 g c =
    (shift_tape c.args.worlds.now.site c.args.worlds.now.first c.args.worlds.now.second c.args.ticket (g.D.Deal.tape c.args.deal.now), c.as_slice-2.ensures.value ∙ c.in_ok-runs.ensures.second)

pub returns : goal.returns
returns g c =
    let site = c.args.worlds.now.site in
    let p = c.args.worlds.now.first in
    let q = c.args.worlds.now.second in
    let tape = g.D.Deal.tape c.args.deal.now in
    let first = c.in_ok-first.ensures tape (c.as_slice.ensures.value ∙ c.in_ok-runs.ensures.first) in
    let second = c.in_ok-second.ensures (shift_tape site p q c.args.ticket tape) (c.as_slice-2.ensures.value ∙ c.in_ok-runs.ensures.second) in
    record {
      first = first;
      second = second;
      equal = second ∙ sees_the_same site p q c.requires.alike c.args.ticket tape ∙ sym first;
      changed = c.in_ok-runs.ensures.changed;
    }
