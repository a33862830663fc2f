-- The units that are compiled are those of the root's segments.
use Rattle.std.proofs.Common.{◌≡◌, ℕ, ◌+◌, List, [], ◌∷◌, map, refl, ap, ap₂, ◌∙◌}
use Rattle.pdn_base.specs.declared.value.Value.{Value}
use Rattle.pdn_base.specs.Operators.{Rows}
use Rattle.pdn_schema.specs.Models.{SchemaModel}
use Rattle.pdn_tree.specs.declared.node.Node.{Node}
use Rattle.pdn_level.specs.declared.staged.Leaf.{Leaf}
use Rattle.pdn_level.specs.Models.{SegmentModel}
use Rattle.pdn_level.specs.Levels.{segments_of}
use Rattle.pdn_level.specs.Cutting.{slice_column}
use Rattle.pdn_site.specs.declared.unit.UnitKind.{UnitKind}
use Rattle.pdn_site.specs.declared.unit.UnitKind.TheVariants.{Plain, Secure, Root}
use Rattle.pdn_site.specs.Models.{Dirs}
use Rattle.pdn_site.specs.Directories.{directory, unit_values, kind_of}
use Rattle.pdn_site.specs.Circuits.{Part}
use Rattle.pdn_site.specs.Compiling.{shape_by, segment_shapes, shapes_from, parts_of, node_at}
use Rattle.pdn_site.specs.RootMeaning.{part_of, parts_of_slices, segment_tops}
use Rattle.pdn_site.specs.DirectoryMeaning.{unit_len, unit_slices, both_dirs, query_slices, Places}
use Rattle.pdn_site.specs.NetMeaning.{site_dirs, PartsMean}
use Rattle.pdn_site.proofs.TopLaws.{tops_mean}

-- a unit, as it is compiled and as the root takes it
part_same : (schema : SchemaModel) (top : Node) (i : ℕ) (v : Value) (k : UnitKind)
    → ◌≡◌ {A = Part} (record { kind = (shape_by schema top (slice_column schema top) i v k).kind; len = (shape_by schema top (slice_column schema top) i v k).len }) (record { kind = k; len = unit_len schema top k })
part_same schema top i v (Plain site) = refl
part_same schema top i v Secure = refl
part_same schema top i v Root = refl

units_same : (schema : SchemaModel) (top : Node) (i : ℕ) (kind : Value → UnitKind) (vs : List Value)
    → parts_of (map (λ v. shape_by schema top (slice_column schema top) i v (kind v)) vs) ≡ map part_of (map (λ v. record { kind = kind v; value = v; len = unit_len schema top (kind v) }) vs)
units_same schema top i kind [] = refl
units_same schema top i kind (v ∷ vs) = ap₂ (λ (p : Part) (ps : List Part). p ∷ ps) (part_same schema top i v (kind v)) (units_same schema top i kind vs)

module _ (schema : SchemaModel) (a b : List Rows) (root : Node) where
  dirs_of : List Leaf → Dirs
  dirs_of leaves = record { a = directory a leaves; b = directory b leaves }

  segment_same : (top t : Node) (i : ℕ) (leaves : List Leaf) → top ≡ t → dirs_of leaves ≡ both_dirs schema a b t → parts_of (segment_shapes schema top i (dirs_of leaves)) ≡ map part_of (unit_slices schema t (both_dirs schema a b t))
  segment_same top t i leaves e d =
      ap₂ (λ (n : Node) (ds : Dirs). parts_of (segment_shapes schema n i ds)) e d ∙ units_same schema t i (kind_of (both_dirs schema a b t)) (unit_values (both_dirs schema a b t))

  parts_same : (ss : List SegmentModel) (ts : List Node) (i : ℕ) → Places schema root ss ts → map parts_of (shapes_from schema root i ss (site_dirs a b ss)) ≡ parts_of_slices (query_slices schema a b ts)
  unfolding dirs_of
  parts_same [] [] i h = refl
  parts_same [] (t ∷ ts) i h = absurd h
  parts_same (s ∷ ss) [] i h = absurd h
  parts_same (s ∷ ss) (t ∷ ts) i h = ap₂ (λ (p : List Part) (ps : List (List Part)). p ∷ ps) (segment_same (node_at s.path root) t i s.leaves h.0.0 (ap dirs_of h.0.1)) (parts_same ss ts (i + 1) h.1)

pub parts_mean : PartsMean
parts_mean schema a b root sound numbers =
    let tops = tops_mean schema root sound numbers in
    parts_same schema a b root (segments_of schema root []) (segment_tops schema root) 0 tops.0
