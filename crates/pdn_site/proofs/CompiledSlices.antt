-- The units that are compiled, segment by segment, are those by which the root is meant.
use Rattle.std.proofs.Common.{◌≡◌, ℕ, suc, ◌+◌, ◌-◌, ◌<◌, ◌≤◌, Bool, true, false, cond, nat_eq, List, [], ◌∷◌, ◌++◌, length, map, refl, sym, ap, ap₂, ◌∙◌, arith, append_assoc, append-nil, true≢false, Option, Some, None, Ok, Err}
use Rattle.std.specs.List.{flat_map, range_with_len}
use Rattle.std.proofs.lemmas.Bool.{eq-eqb, eqb-true}
use Rattle.std.proofs.lemmas.List.{map-append}
use Rattle.std.proofs.lemmas.List.Concat.{flat_map-append}
use Rattle.pdn_base.specs.declared.value.Value.{Value}
use Rattle.pdn_base.specs.declared.site.Site.TheVariants.{A, B}
use Rattle.pdn_base.specs.Operators.{Rows}
use Rattle.pdn_schema.specs.Models.{SchemaModel}
use Rattle.pdn_tree.specs.declared.node.Node.{Node}
use Rattle.pdn_circuit.specs.declared.gate.Gate.{Gate}
use Rattle.pdn_circuit.specs.Building.{first_over, and_count}
use Rattle.pdn_level.specs.declared.staged.Leaf.{Leaf}
use Rattle.pdn_level.specs.Models.{SegmentModel}
use Rattle.pdn_level.specs.Levels.{segments_of}
use Rattle.pdn_level.specs.Cutting.{slice_column}
use Rattle.pdn_site.specs.declared.unit.UnitKind.{UnitKind}
use Rattle.pdn_site.specs.declared.unit.UnitKind.TheVariants.{Plain, Secure}
use Rattle.pdn_site.specs.Models.{Dirs, UnitModel}
use Rattle.pdn_site.specs.Directories.{directory, unit_values, stands_in, kind_of}
use Rattle.pdn_site.specs.SiteRows.{Slice}
use Rattle.pdn_site.specs.Compiling.{Shape, shape_by, segment_shapes, shapes_from, root_shape, parts_of, node_at, Compiled, unit_of, with_unit, fitted, within, circuit_of, gates_of, compiled_from}
use Rattle.pdn_site.specs.RootMeaning.{segment_tops}
use Rattle.pdn_site.specs.DirectoryMeaning.{unit_len, unit_slices, both_dirs, Places}
use Rattle.pdn_site.specs.NetMeaning.{site_dirs}
use Rattle.pdn_site.specs.RootWords.{is_segment, slice_of, slice_in, slices_at, slices_in, SlicesMean}
use Rattle.pdn_site.proofs.TopLaws.{tops_mean}

-- ---- units that were compiled
abbrev is_ok : Compiled → Bool
is_ok (Ok units) = true
is_ok (Err passed) = false

abbrev or_none : Compiled → List UnitModel
or_none (Ok units) = units
or_none (Err passed) = []

-- a unit with the circuit that is laid for it
abbrev pub made : Shape → UnitModel
made s = unit_of s (circuit_of s s.laid)

not_ok : (passed : ℕ × ℕ) (units : List UnitModel) → ◌≡◌ {A = Compiled} (Err passed) (Ok units) → ⊥
not_ok passed units e = true≢false (sym (ap is_ok e))

within_made : (b : Bool) (u : ℕ) (c : Compiled) (units : List UnitModel) → within b u c ≡ Ok units → c ≡ Ok units
within_made true u c units e = absurd (not_ok (1, u) units e)
within_made false u c units e = e

fitted_made : (o : Option ℕ) (u : ℕ) (unit : UnitModel) (rest : Compiled) (units : List UnitModel) → fitted o u unit rest ≡ Ok units → with_unit unit rest ≡ Ok units
fitted_made None u unit rest units e = e
fitted_made (Some limit) u unit rest units e = absurd (not_ok (limit, u) units e)

record Follows (unit : UnitModel) (rest : Compiled) (units : List UnitModel) : Type 0 where
  more : List UnitModel
  rest_is : rest ≡ Ok more
  units_are : units ≡ unit ∷ more

with_made : (unit : UnitModel) (rest : Compiled) (units : List UnitModel) → with_unit unit rest ≡ Ok units → Follows unit rest units
with_made unit (Ok more) units e = record { more = more; rest_is = refl; units_are = sym (ap or_none e) }
with_made unit (Err passed) units e = absurd (not_ok passed units e)

-- units that were compiled are made of their shapes
pub all_made : (u ands gates : ℕ) (shapes : List Shape) (units : List UnitModel) → compiled_from u ands gates shapes ≡ Ok units → units ≡ map made shapes
all_made u ands gates [] units e = sym (ap or_none e)
all_made u ands gates (s ∷ ss) units e =
    let own : List Gate = gates_of (circuit_of s s.laid) in
    let f = with_made (made s) _ units (fitted_made (first_over ands gates own) u (made s) _ units (within_made _ u _ units e)) in
    f.units_are ∙ ap (λ (us : List UnitModel). made s ∷ us) (all_made (u + 1) (ands - and_count own) (gates - length own) ss f.more f.rest_is)

-- ---- the units of one segment
abbrev flat : List (List Shape) → List Shape
flat below = flat_map (λ shapes. shapes) below

abbrev kind_by : Bool → Bool → UnitKind
kind_by a b = cond a (cond b Secure (Plain A)) (Plain B)

apart : (k j : ℕ) → (k ≡ j → ⊥) → nat_eq k j ≡ false
apart k j h = by (nat_eq k j) refl
  where
    by : (b : Bool) → nat_eq k j ≡ b → b ≡ false
    by true e = absurd (h (eqb-true k j e))
    by false e = refl

module _ (schema : SchemaModel) (top : Node) (i : ℕ) (v : Value) where
  abbrev unit_by : UnitKind → UnitModel
  unit_by k = made (shape_by schema top (slice_column schema top) i v k)

  abbrev slice_by : UnitKind → Slice
  slice_by k = record { kind = k; value = v; len = unit_len schema top k }

  slice_same : (a b : Bool) → slice_of (unit_by (kind_by a b)) ≡ slice_by (kind_by a b)
  slice_same true true = refl
  slice_same true false = refl
  slice_same false b = refl

  segment_same : (a b : Bool) → (unit_by (kind_by a b)).segment ≡ Some i
  segment_same true true = refl
  segment_same true false = refl
  segment_same false b = refl

  -- a unit's slice is one of its segment alone
  own_slice : (a b : Bool) → slice_in i (unit_by (kind_by a b)) ≡ slice_by (kind_by a b) ∷ []
  own_slice a b =
      ap (λ o. cond (is_segment i o) (slice_of (unit_by (kind_by a b)) ∷ []) []) (segment_same a b)
      ∙ ap (λ t. cond t (slice_of (unit_by (kind_by a b)) ∷ []) []) (eq-eqb i i refl)
      ∙ ap (λ (s : Slice). s ∷ []) (slice_same a b)

  other_slice : (j : ℕ) → (i ≡ j → ⊥) → (a b : Bool) → slice_in j (unit_by (kind_by a b)) ≡ []
  other_slice j h a b =
      ap (λ o. cond (is_segment j o) (slice_of (unit_by (kind_by a b)) ∷ []) []) (segment_same a b)
      ∙ ap (λ t. cond t (slice_of (unit_by (kind_by a b)) ∷ []) []) (apart i j h)

no_slices : (j : ℕ) (units more : List UnitModel) → slices_at units j ≡ [] → slices_at more j ≡ [] → slices_at (units ++ more) j ≡ []
no_slices j units more e f = flat_map-append (slice_in j) units more ∙ ap₂ (λ (xs ys : List Slice). xs ++ ys) e f

module _ (schema : SchemaModel) (top : Node) (i : ℕ) (dirs : Dirs) where
  abbrev units_for : List Value → List UnitModel
  units_for vs = map made (map (λ v. shape_by schema top (slice_column schema top) i v (kind_of dirs v)) vs)

  own_slices : (vs : List Value) → slices_at (units_for vs) i ≡ map (λ v. record { kind = kind_of dirs v; value = v; len = unit_len schema top (kind_of dirs v) }) vs
  own_slices [] = refl
  own_slices (v ∷ vs) = ap₂ (λ (xs ys : List Slice). xs ++ ys) (own_slice schema top i v (stands_in dirs.a v) (stands_in dirs.b v)) (own_slices vs)

  other_slices : (j : ℕ) → (i ≡ j → ⊥) → (vs : List Value) → slices_at (units_for vs) j ≡ []
  other_slices j h [] = refl
  other_slices j h (v ∷ vs) = ap₂ (λ (xs ys : List Slice). xs ++ ys) (other_slice schema top i v j h (stands_in dirs.a v) (stands_in dirs.b v)) (other_slices j h vs)

-- ---- the units of all segments
module _ (schema : SchemaModel) (a b : List Rows) (root : Node) where
  abbrev dirs_of : List Leaf → Dirs
  dirs_of leaves = record { a = directory a leaves; b = directory b leaves }

  abbrev units_of : Node → List Slice
  units_of top = unit_slices schema top (both_dirs schema a b top)

  -- the units of one segment, which is segment i
  abbrev units_at : ℕ → SegmentModel → List UnitModel
  units_at i s = map made (segment_shapes schema (node_at s.path root) i (dirs_of s.leaves))

  abbrev units_from : ℕ → List SegmentModel → List UnitModel
  units_from i ss = map made (flat (shapes_from schema root i ss (site_dirs a b ss)))

  split : (i : ℕ) (s : SegmentModel) (ss : List SegmentModel) → units_from i (s ∷ ss) ≡ units_at i s ++ units_from (i + 1) ss
  split i s ss = map-append made (segment_shapes schema (node_at s.path root) i (dirs_of s.leaves)) (flat (shapes_from schema root (i + 1) ss (site_dirs a b ss)))

  -- none of them is of an earlier segment
  none_before : (j i : ℕ) (ss : List SegmentModel) → j < i → slices_at (units_from i ss) j ≡ []
  none_before j i [] h = refl
  none_before j i (s ∷ ss) h =
      ap (λ (us : List UnitModel). slices_at us j) (split i s ss)
      ∙ no_slices j (units_at i s) (units_from (i + 1) ss) (other_slices schema (node_at s.path root) i (dirs_of s.leaves) j (λ e. omega (arith, h, e)) (unit_values (dirs_of s.leaves))) (none_before j (i + 1) ss (omega (arith, h)))

  segment_slices : (i : ℕ) (s : SegmentModel) (t : Node) → node_at s.path root ≡ t → dirs_of s.leaves ≡ both_dirs schema a b t → slices_at (units_at i s) i ≡ units_of t
  segment_slices i s t e d =
      ap₂ (λ (n : Node) (ds : Dirs). slices_at (map made (segment_shapes schema n i ds)) i) e d
      ∙ own_slices schema t i (both_dirs schema a b t) (unit_values (both_dirs schema a b t))

  -- where the units before and after are of none of these segments
  all_slices : (before after : List UnitModel) (ss : List SegmentModel) (ts : List Node) (i : ℕ) → Places schema root ss ts → ((j : ℕ) → i ≤ j → slices_at before j ≡ []) → ((j : ℕ) → slices_at after j ≡ [])
      → map (slices_at (before ++ (units_from i ss ++ after))) (range_with_len i (length ss)) ≡ map units_of ts
  all_slices before after [] [] i p past next = refl
  all_slices before after [] (t ∷ ts) i p past next = absurd p
  all_slices before after (s ∷ ss) [] i p past next = absurd p
  all_slices before after (s ∷ ss) (t ∷ ts) i p past next =
      let here : List UnitModel = units_at i s in
      let rest : List UnitModel = units_from (i + 1) ss in
      let same : before ++ (units_from i (s ∷ ss) ++ after) ≡ (before ++ here) ++ (rest ++ after)
      = ap (λ (us : List UnitModel). before ++ (us ++ after)) (split i s ss) ∙ ap (λ (us : List UnitModel). before ++ us) (append_assoc here rest after) ∙ sym (append_assoc before here (rest ++ after)) in
      let own : slices_at here i ≡ units_of t = segment_slices i s t p.0.0 (ap dirs_of p.0.1) in
      let head : slices_at ((before ++ here) ++ (rest ++ after)) i ≡ units_of t
      = flat_map-append (slice_in i) (before ++ here) (rest ++ after)
      ∙ ap₂ (λ (xs ys : List Slice). xs ++ ys) (flat_map-append (slice_in i) before here ∙ ap₂ (λ (xs ys : List Slice). xs ++ ys) (past i (omega arith)) own) (no_slices i rest after (none_before i (i + 1) ss (omega arith)) (next i))
      ∙ append-nil (units_of t) in
      let later : (j : ℕ) → i + 1 ≤ j → slices_at (before ++ here) j ≡ []
      = λ j l. no_slices j before here (past j (omega (arith, l))) (other_slices schema (node_at s.path root) i (dirs_of s.leaves) j (λ e. omega (arith, l, e)) (unit_values (dirs_of s.leaves))) in
      ap (λ (us : List UnitModel). map (slices_at us) (range_with_len i (suc (length ss)))) same
      ∙ ap₂ (λ (x : List Slice) (xs : List (List Slice)). x ∷ xs) head (all_slices (before ++ here) after ss ts (i + 1) p.1 later next)

pub slices_mean : SlicesMean
slices_mean schema a b root sound numbers units are =
    let ss : List SegmentModel = segments_of schema root [] in
    let below : List (List Shape) = shapes_from schema root 0 ss (site_dirs a b ss) in
    let last : Shape = root_shape schema (map parts_of below) root in
    let split : units ≡ map made (flat below) ++ made last ∷ [] = all_made 0 4194304 16777216 (flat below ++ last ∷ []) units are ∙ map-append made (flat below) (last ∷ []) in
    let tops = tops_mean schema root sound numbers in
    ap (λ (us : List UnitModel). slices_in (length ss) us) split
    ∙ all_slices schema a b root [] (made last ∷ []) ss (segment_tops schema root) 0 tops.0 (λ j h. refl) (λ j. refl)
