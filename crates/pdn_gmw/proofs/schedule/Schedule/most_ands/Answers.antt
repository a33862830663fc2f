use Rattle.std.proofs.Common.{List, length, ap, ◌∙◌, arith}
use Rattle.std.specs.Prelude.{slice_index_or}
use Rattle.std.specs.Arc.{arc_value}
use Rattle.pdn_gmw.specs.Layers.{LayerWords, LayersWords, no_layer}
use Rattle.pdn_gmw.proofs.Stepping.{layers_small}
use Rattle.pdn_gmw.proofs.schedule.Schedule.most_ands.Goals as goal

pub most_ands-requires : goal.most_ands-requires
most_ands-requires c =
    λ d. let s = layers_small (arc_value c.self.inside.circuit) (arc_value c.self.inside.layers).list c.self.invariant.circuit c.self.invariant.layers.list d in
    let e = ap (λ (ls : List LayerWords). length (slice_index_or ls d no_layer).ands) c.deref.ensures.value in
    let f = ap (λ (l : LayersWords). length (slice_index_or l.list d no_layer).ands) (c.layers.view_is ∙ c.deref-layers.ensures) in
    omega (arith, s, e, f)
