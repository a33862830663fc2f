use Rattle.std.proofs.Common.{◌+◌, ◌≤◌, List, [], ◌∷◌, ◌++◌, cond, map, ap, ◌∙◌, arith, rules}
use Rattle.std.proofs.lemmas.List.{map_push}
use Rattle.pdn_site.specs.Models.{UnitModel}
use Rattle.pdn_view.specs.Views.{part_of}
use Rattle.pdn_broker.specs.Units.{is_dealt}
use Rattle.pdn_broker.proofs.ViewLaws.{place_there, place_moves, part_next}
use Rattle.pdn_broker.proofs.views.parts_on.Goals as goal

pub part_on-requires : goal.part_on-requires
part_on-requires c =
    place_there c.args.units.now c.args.runs.now c.loop-k.k c.loop-k.place c.unit_at-unit.result.now c.requires c.loop-k.invariant.place c.unit_at-unit.ensures (search rules)

pub loop-k-preserved : goal.loop-k-preserved
loop-k-preserved c =
    let moved = place_moves c.args.units.now c.loop-k.k c.loop-k.place (c.loop-k.place + c.from.result) c.unit_at-unit.result.now c.loop-k.invariant.place c.unit_at-unit.ensures (search rules) in
    record {
      place = moved;
      below = search rules;
      parts = λ other. part_next c.args.site c.args.units.now c.args.runs.now other c.loop-k.k c.loop-k.place c.unit_at-unit.result.now (map part_of c.loop-k.parts.items) (map part_of c.push.new.self.items)
          (part_of c.in_ok-part_on.field-0) c.loop-k.invariant.place c.unit_at-unit.ensures (c.loop-k.invariant.parts other)
          (ap (map part_of) c.in_ok-push.ensures.items ∙ map_push part_of c.loop-k.parts.items c.in_ok-part_on.field-0) (c.in_ok-part_on.ensures other);
    }
