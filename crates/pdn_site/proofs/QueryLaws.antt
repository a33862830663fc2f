-- A whole query: units and root together.
use Rattle.std.proofs.Common.{◌≡◌, ℕ, ◌+◌, List, [], ◌∷◌, ◌++◌, length, get_or, map, refl, sym, subst, arith, length-append, append_assoc}
use Rattle.std.specs.List.{AllByRecursion}
use Rattle.std.proofs.lemmas.List.{get_or_at}
use Rattle.pdn_base.specs.declared.value.Value.{Value}
use Rattle.pdn_base.specs.Operators.{Rows}
use Rattle.pdn_schema.specs.Models.{SchemaModel}
use Rattle.pdn_tree.specs.declared.node.Node.{Node}
use Rattle.pdn_level.specs.Cutting.{slice_column}
use Rattle.pdn_site.specs.declared.unit.UnitKind.{UnitKind}
use Rattle.pdn_site.specs.declared.unit.UnitKind.TheVariants.{Plain, Secure, Root}
use Rattle.pdn_site.specs.Laying.{nothing}
use Rattle.pdn_site.specs.Directories.{unit_values, kind_of}
use Rattle.pdn_site.specs.SiteRows.{Slice}
use Rattle.pdn_site.specs.Meaning.{AreTables}
use Rattle.pdn_site.specs.RootMeaning.{SegmentGives, SegmentsGive, segment_tops}
use Rattle.pdn_site.specs.DirectoryMeaning.{unit_slices, both_dirs, IsTop, UnitStands, UnitRuns, UnitsRun, query_slices, QueryMeans}
use Rattle.pdn_site.proofs.UnitLaws.{unit_means}
use Rattle.pdn_site.proofs.RootLaws.{root_means}
use Rattle.pdn_site.proofs.SegmentUnits.{directories_mean}
use Rattle.pdn_site.proofs.TopLaws.{tops_mean}

module _ (schema : SchemaModel) (a b : List Rows) (tables_a : AreTables schema a) (tables_b : AreTables schema b) (outputs : ℕ → Value → List ℕ) where
  -- a secure unit that was run gives what the segment means at its value
  unit_stands : (top : Node) → IsTop schema top → (output : Value → List ℕ) (v : Value) (k : UnitKind) → UnitRuns schema a b top output v k → UnitStands schema a b top output v k
  unit_stands top is output v (Plain site) h = h
  unit_stands top is output v Secure h =
      let run = h.1 in
      let law = unit_means schema a b tables_a tables_b v top (slice_column schema top) is.sound is.numbers is.slices h.0 run.inputs run.words run.ends nothing run.after run.stand_a run.stand_b run.list run.yields in
      record { words = run.words; list = run.list; holds = law.0; output = run.outputs }
  unit_stands top is output v Root h = tt

  all_stand : (top : Node) → IsTop schema top → (output : Value → List ℕ) (kind : Value → UnitKind) (values : List Value) → AllByRecursion (λ v. UnitRuns schema a b top output v (kind v)) values → AllByRecursion (λ v. UnitStands schema a b top output v (kind v)) values
  all_stand top is output kind [] h = tt
  all_stand top is output kind (v ∷ vs) h = (unit_stands top is output v (kind v) h.0, all_stand top is output kind vs h.1)

  abbrev units_of : Node → List Slice
  units_of top = unit_slices schema top (both_dirs schema a b top)

  segments_give : (before : List (List Slice)) (tops : List Node) (i : ℕ) → length before ≡ i → AllByRecursion (IsTop schema) tops → UnitsRun schema a b outputs i tops → SegmentsGive schema a b (before ++ map units_of tops) outputs i tops
  segments_give before [] i e is runs = tt
  segments_give before (top ∷ tops) i e is runs =
      let here : get_or (before ++ units_of top ∷ map units_of tops) i [] ≡ units_of top = get_or_at before (units_of top) (map units_of tops) [] i e in
      let gives = directories_mean schema a b tables_a tables_b top is.0.sound is.0.slices (outputs i) (all_stand top is.0 (outputs i) (kind_of (both_dirs schema a b top)) (unit_values (both_dirs schema a b top)) runs.0) in (
        subst (λ (s : List Slice). SegmentGives schema a b top s (outputs i)) (sym here) gives,
        subst (λ (all : List (List Slice)). SegmentsGive schema a b all outputs (i + 1) tops) (append_assoc before (units_of top ∷ []) (map units_of tops))
            (segments_give (before ++ units_of top ∷ []) tops (i + 1) (omega (arith, e, length-append before (units_of top ∷ []))) is.1 runs.1),
      )

pub query_means : QueryMeans
query_means schema a b are_a are_b root sound numbers outputs runs few inputs words ends sa sb sg list after y =
    let tops = tops_mean schema root sound numbers in
    root_means schema a b are_a are_b root sound numbers (query_slices schema a b (segment_tops schema root)) outputs (segments_give schema a b are_a are_b outputs [] (segment_tops schema root) 0 refl tops.1 runs) few inputs words ends sa sb sg list after y
