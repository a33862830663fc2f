use Rattle.std.proofs.Common.{map, drop}
use Rattle.pdn_site.specs.Directories.{kind_of}
use Rattle.pdn_site.specs.Budget.{shape_along, segment_along, Reaches}
use Rattle.pdn_site.proofs.shaping.segment_units.Given as goal

abbrev pub invariant-loop-value : goal.invariant-loop-value
invariant-loop-value l = record {
  made : Reaches l.fn.left (segment_along l.tree.schema.now l.tree.top.now l.tree.leaves.now l.tree.number l.dirs) l.left l.units.items (map (λ v. shape_along l.tree.schema.now l.tree.top.now l.tree.leaves.now l.tree.number v (kind_of l.dirs v)) (drop l.value-index l.value-items));
}
