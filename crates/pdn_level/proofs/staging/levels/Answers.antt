use Rattle.std.proofs.Common.{rules, ◌≡◌, List, [], subst, sym}
use Rattle.std.specs.List.{AllByRecursion}
use Rattle.pdn_level.specs.Models.{SegmentModel}
use Rattle.pdn_level.specs.Levels.{segments_of}
use Rattle.pdn_level.specs.Cutting.{IsSound}
use Rattle.pdn_level.proofs.SegmentLaws.{segments_sound}
use Rattle.pdn_level.proofs.staging.levels.Goals as goal

pub returns-clause-sound : goal.returns-clause-sound
returns-clause-sound c =
    let schema = c.args.schema.now in
    let root = c.args.plan.now.root in
    let same : c.in_ok-segments.field-0.items ≡ segments_of schema root [] = search rules in
    subst (λ (segments : List SegmentModel). AllByRecursion (IsSound schema root) segments) (sym same) (segments_sound schema root)
