use Rattle.std.proofs.Common.{◌∙◌}
use Rattle.pdn_twin.proofs.WorldLaws.{same_units}
use Rattle.pdn_twin.proofs.TwinLaws.{first_runs, second_runs, secure_changes, all_first, all_second, all_changes}
use Rattle.pdn_twin.proofs.twinning.all_runs.Goals as goal

pub root_twin-requires-clause-runs : goal.root_twin-requires-clause-runs
root_twin-requires-clause-runs g c κs within =
    let site = c.args.worlds.now.site in
    let p = c.args.worlds.now.first in
    let q = c.args.worlds.now.second in
    let tape = g.D.Deal.tape c.args.deal.now in
    let same = same_units site p q c.requires.alike in
    record {
      first = c.in_ok-runs.ensures.first ∙ first_runs site p q same tape c.args.ticket _ c.in_ok-twins.ensures;
      second = c.in_ok-runs.ensures.second ∙ second_runs site p q same tape c.args.ticket _ c.in_ok-twins.ensures;
      changed = c.in_ok-runs.ensures.changed ∙ secure_changes site p q same tape c.args.ticket _ c.in_ok-twins.ensures;
    }

pub returns : goal.returns
returns g c =
    let site = c.args.worlds.now.site in
    let p = c.args.worlds.now.first in
    let q = c.args.worlds.now.second in
    let tape = g.D.Deal.tape c.args.deal.now in
    let same = same_units site p q c.requires.alike in
    record {
      first = all_first site p q same tape c.args.ticket _ _ _ (c.in_ok-runs.ensures.first ∙ first_runs site p q same tape c.args.ticket _ c.in_ok-twins.ensures) c.in_ok-root.ensures c.in_ok-push.ensures.first;
      second = all_second site p q same tape c.args.ticket _ _ _ (c.in_ok-runs.ensures.second ∙ second_runs site p q same tape c.args.ticket _ c.in_ok-twins.ensures) c.in_ok-root.ensures c.in_ok-push.ensures.second;
      changed = all_changes site p q same tape c.args.ticket c.requires.alike.first _ _ _ (c.in_ok-runs.ensures.changed ∙ secure_changes site p q same tape c.args.ticket _ c.in_ok-twins.ensures) c.in_ok-root.ensures
          c.in_ok-push.ensures.changed;
    }
