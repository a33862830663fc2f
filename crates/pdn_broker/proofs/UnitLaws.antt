-- What compiled units tell.
use Rattle.std.proofs.Common.{◌≡◌, ℕ, zero, suc, ◌+◌, ◌-◌, ◌*◌, ◌<◌, ◌≤◌, Bool, true, false, nat_lt, List, [], ◌∷◌, ◌++◌, length, get_or, map, refl, sym, ap, ap₂, ◌∙◌, subst, arith, length-append, append_assoc, append-nil, true≢false, Option, Some, None, Result, Ok, Err}
use Rattle.std.specs.List.{AllByRecursion, flat_map}
use Rattle.std.proofs.lemmas.List.{get_or_at, map-append}
use Rattle.std.proofs.lemmas.Bool.{ltb-false}
use Rattle.std.proofs.lemmas.Grind.{flat_map-append}
use Rattle.pdn_base.specs.declared.value.Value.{Value}
use Rattle.pdn_base.specs.Operators.{Rows}
use Rattle.pdn_schema.specs.Models.{SchemaModel}
use Rattle.pdn_tree.specs.declared.node.Node.{Node}
use Rattle.pdn_circuit.specs.declared.gate.Gate.{Gate}
use Rattle.pdn_circuit.specs.Gates.{Net, InOrder, output_words}
use Rattle.pdn_circuit.specs.Building.{first_over, and_count}
use Rattle.pdn_level.specs.declared.staged.Leaf.{Leaf}
use Rattle.pdn_level.specs.Models.{SegmentModel}
use Rattle.pdn_level.specs.Levels.{segments_of, leaves_of}
use Rattle.pdn_level.specs.Cutting.{slice_column}
use Rattle.pdn_site.specs.declared.unit.UnitKind.{UnitKind}
use Rattle.pdn_site.specs.declared.unit.UnitKind.TheVariants.{Plain, Secure, Root}
use Rattle.pdn_site.specs.Models.{Dirs, UnitModel}
use Rattle.pdn_site.specs.Directories.{directory, unit_values, kind_of}
use Rattle.pdn_site.specs.Circuits.{Part, net_of, root_list}
use Rattle.pdn_site.specs.SiteRows.{Slice, unit_words}
use Rattle.pdn_site.specs.Compiling.{Shape, shape_by, segment_shapes, shapes_from, shapes_of, root_shape, parts_of, node_at, Compiled, unit_of, with_unit, fitted, within, circuit_of, gates_of, compiled_from, root_sizes}
use Rattle.pdn_site.specs.RootMeaning.{segment_tops, parts_of_slices, given_by, given_from}
use Rattle.pdn_site.specs.DirectoryMeaning.{unit_len, unit_slices, both_dirs, Places}
use Rattle.pdn_site.specs.NetMeaning.{UnitFits, UnitsFit, unit_net, unit_outputs, outputs_of, slices_of, site_dirs}
use Rattle.pdn_site.specs.Engines.{no_segment, no_unit}
use Rattle.pdn_site.proofs.CompiledParts.{parts_mean}
use Rattle.pdn_site.proofs.TopLaws.{tops_mean}
use Rattle.pdn_broker.specs.Units.{gives_by, unit_gives, CircuitStands, UnitsStand, UnitsTell, CompiledTell}

-- ---- units that were compiled
abbrev is_ok : Compiled → Bool
is_ok (Ok units) = true
is_ok (Err e) = false

abbrev or_none : Compiled → List UnitModel
or_none (Ok units) = units
or_none (Err e) = []

abbrev pub made : Shape → UnitModel
made s = unit_of s (circuit_of s s.laid)

within_ok : (b : Bool) (u : ℕ) (c : Compiled) (units : List UnitModel) → within b u c ≡ Ok units → (b ≡ false) × (c ≡ Ok units)
within_ok true u c units e = absurd (true≢false (sym (ap is_ok e)))
within_ok false u c units e = (refl, e)

fitted_ok : (o : Option ℕ) (u : ℕ) (unit : UnitModel) (rest : Compiled) (units : List UnitModel) → fitted o u unit rest ≡ Ok units → with_unit unit rest ≡ Ok units
fitted_ok None u unit rest units e = e
fitted_ok (Some limit) u unit rest units e = absurd (true≢false (sym (ap is_ok e)))

record Follows (unit : UnitModel) (rest : Compiled) (units : List UnitModel) : Type 0 where
  more : List UnitModel
  rest_is : rest ≡ Ok more
  units_are : units ≡ unit ∷ more

with_ok : (unit : UnitModel) (rest : Compiled) (units : List UnitModel) → with_unit unit rest ≡ Ok units → Follows unit rest units
with_ok unit (Ok more) units e = record { more = more; rest_is = refl; units_are = sym (ap or_none e) }
with_ok unit (Err passed) units e = absurd (true≢false (sym (ap is_ok e)))

pub record Made (shapes : List Shape) (units : List UnitModel) : Type 0 where
  pub are : units ≡ map made shapes
  pub few : AllByRecursion (λ (s : Shape). s.longest ≤ 4096) shapes

few_of : (n : ℕ) → nat_lt 4096 n ≡ false → n ≤ 4096
few_of n e = ltb-false 4096 n e

pub all_made : (u ands gates : ℕ) (shapes : List Shape) (units : List UnitModel) → compiled_from u ands gates shapes ≡ Ok units → Made shapes units
all_made u ands gates [] units e = record { are = sym (ap or_none e); few = tt }
all_made u ands gates (s ∷ ss) units e =
    let made_gates : List Gate = gates_of (circuit_of s s.laid) in
    let w = within_ok (nat_lt 4096 s.longest) u _ units e in
    let f = with_ok (made s) _ units (fitted_ok (first_over ands gates made_gates) u (made s) _ units w.1) in
    let more = all_made (u + 1) (ands - and_count made_gates) (gates - length made_gates) ss f.more f.rest_is in
    record { are = f.units_are ∙ ap (λ (us : List UnitModel). made s ∷ us) more.are; few = (few_of s.longest w.0, more.few) }

-- ---- what holds of each shape
-- no list is too long, and the circuit's gates stand in order
abbrev Good : Shape → Type 0
Good s = (s.longest ≤ 4096) × CircuitStands (circuit_of s s.laid)

good_from : (ss : List Shape) → AllByRecursion (λ (s : Shape). s.longest ≤ 4096) ss → UnitsStand (map made ss) → AllByRecursion Good ss
good_from [] few stand = tt
good_from (s ∷ ss) few stand = ((few.0, stand 0 (omega arith)), good_from ss few.1 (λ k l. stand (suc k) (omega arith)))

all_front : {X : Type 0} (P : X → Type 0) (xs ys : List X) → AllByRecursion P (xs ++ ys) → AllByRecursion P xs
all_front P [] ys h = tt
all_front P (x ∷ xs) ys h = (h.0, all_front P xs ys h.1)

all_back : {X : Type 0} (P : X → Type 0) (xs ys : List X) → AllByRecursion P (xs ++ ys) → AllByRecursion P ys
all_back P [] ys h = h
all_back P (x ∷ xs) ys h = all_back P xs ys h.1

abbrev pub flat : List (List Shape) → List Shape
flat below = flat_map (λ shapes. shapes) below

module _ (schema : SchemaModel) (a b : List Rows) (root : Node) where
  abbrev dirs_of : List Leaf → Dirs
  dirs_of leaves = record { a = directory a leaves; b = directory b leaves }

  unit_fits : (top : Node) (i : ℕ) (v : Value) (k : UnitKind) → Good (shape_by schema top (slice_column schema top) i v k) → UnitFits schema top v k
  unit_fits top i v (Plain site) g = g.0
  unit_fits top i v Secure g = g
  unit_fits top i v Root g = tt

  values_fit : (top : Node) (i : ℕ) (kind : Value → UnitKind) (vs : List Value) → AllByRecursion Good (map (λ v. shape_by schema top (slice_column schema top) i v (kind v)) vs) → AllByRecursion (λ v. UnitFits schema top v (kind v)) vs
  values_fit top i kind [] g = tt
  values_fit top i kind (v ∷ vs) g = (unit_fits top i v (kind v) g.0, values_fit top i kind vs g.1)

  segment_fits : (top t : Node) (i : ℕ) (dirs : Dirs) → top ≡ t → dirs ≡ both_dirs schema a b t → AllByRecursion Good (segment_shapes schema top i dirs) → AllByRecursion (λ v. UnitFits schema t v (kind_of (both_dirs schema a b t) v)) (unit_values (both_dirs schema a b t))
  segment_fits top t i dirs e d g =
      values_fit t i (kind_of (both_dirs schema a b t)) (unit_values (both_dirs schema a b t)) (subst (λ (n : Node). AllByRecursion Good (segment_shapes schema n i (both_dirs schema a b t))) e (subst (λ (ds : Dirs). AllByRecursion Good (segment_shapes schema top i ds)) d g))

  all_fit : (ss : List SegmentModel) (ts : List Node) (i : ℕ) → Places schema root ss ts → AllByRecursion Good (flat (shapes_from schema root i ss (site_dirs a b ss))) → UnitsFit schema a b ts
  all_fit [] [] i p g = tt
  all_fit [] (t ∷ ts) i p g = absurd p
  all_fit (s ∷ ss) [] i p g = absurd p
  all_fit (s ∷ ss) (t ∷ ts) i p g =
      let here : List Shape = segment_shapes schema (node_at s.path root) i (dirs_of s.leaves) in
      let rest : List Shape = flat (shapes_from schema root (i + 1) ss (site_dirs a b ss)) in (
        segment_fits (node_at s.path root) t i (dirs_of s.leaves) p.0.0 (ap dirs_of p.0.1) (all_front Good here rest g),
        all_fit ss ts (i + 1) p.1 (all_back Good here rest g),
      )

  -- ---- what the units give
  abbrev segments : List SegmentModel
  segments = segments_of schema root []

  one_gives : (top : Node) (i : ℕ) (plain : Value → List ℕ) (v : Value) (k : UnitKind) → node_at (get_or segments i no_segment).path root ≡ top → plain v ≡ unit_outputs schema a b top v
      → unit_gives schema a b root (made (shape_by schema top (slice_column schema top) i v k)) ≡ given_by plain v k
  one_gives top i plain v (Plain site) e p = refl
  one_gives top i plain v Secure e p =
      ap (λ (t : Node). output_words (record { a = unit_words schema a v t (slice_column schema t); b = unit_words schema b v t (slice_column schema t); given = [] }) (unit_net schema top v)) e ∙ sym p
  one_gives top i plain v Root e p = refl

  values_give : (top : Node) (i : ℕ) (plain : Value → List ℕ) → node_at (get_or segments i no_segment).path root ≡ top → ((v : Value) → plain v ≡ unit_outputs schema a b top v) → (kind : Value → UnitKind) (vs : List Value)
      → flat_map (unit_gives schema a b root) (map made (map (λ v. shape_by schema top (slice_column schema top) i v (kind v)) vs))
      ≡ flat_map (λ (s : Slice). given_by plain s.value s.kind) (map (λ v. record { kind = kind v; value = v; len = unit_len schema top (kind v) }) vs)
  values_give top i plain e p kind [] = refl
  values_give top i plain e p kind (v ∷ vs) = ap₂ (λ (xs ys : List ℕ). xs ++ ys) (one_gives top i plain v (kind v) e (p v)) (values_give top i plain e p kind vs)

  abbrev units_of : Node → List Slice
  units_of top = unit_slices schema top (both_dirs schema a b top)

  segment_gives : (top t : Node) (i : ℕ) (dirs : Dirs) (plain : Value → List ℕ) → node_at (get_or segments i no_segment).path root ≡ t → top ≡ t → dirs ≡ both_dirs schema a b t → ((v : Value) → plain v ≡ unit_outputs schema a b t v)
      → flat_map (unit_gives schema a b root) (map made (segment_shapes schema top i dirs)) ≡ flat_map (λ (s : Slice). given_by plain s.value s.kind) (units_of t)
  segment_gives top t i dirs plain n e d p =
      ap₂ (λ (m : Node) (ds : Dirs). flat_map (unit_gives schema a b root) (map made (segment_shapes schema m i ds))) e d
      ∙ values_give t i plain n p (kind_of (both_dirs schema a b t)) (unit_values (both_dirs schema a b t))

  all_give : (before ss : List SegmentModel) (bs : List (List Slice)) (past ts : List Node) (i : ℕ) → segments ≡ before ++ ss → length before ≡ i → length bs ≡ i → length past ≡ i → Places schema root ss ts
      → flat_map (unit_gives schema a b root) (map made (flat (shapes_from schema root i ss (site_dirs a b ss)))) ≡ given_from (bs ++ map units_of ts) (outputs_of schema a b root (past ++ ts)) i ts
  all_give before [] bs past [] i w x y z p = refl
  all_give before [] bs past (t ∷ ts) i w x y z p = absurd p
  all_give before (s ∷ ss) bs past [] i w x y z p = absurd p
  all_give before (s ∷ ss) bs past (t ∷ ts) i w x y z p =
      let here : List Shape = segment_shapes schema (node_at s.path root) i (dirs_of s.leaves) in
      let rest : List Shape = flat (shapes_from schema root (i + 1) ss (site_dirs a b ss)) in
      let plain : Value → List ℕ = outputs_of schema a b root (past ++ t ∷ ts) i in
      let segment : get_or segments i no_segment ≡ s = ap (λ (xs : List SegmentModel). get_or xs i no_segment) w ∙ get_or_at before s ss no_segment i x in
      let slices : get_or (bs ++ units_of t ∷ map units_of ts) i [] ≡ units_of t = get_or_at bs (units_of t) (map units_of ts) [] i y in
      let node : get_or (past ++ t ∷ ts) i root ≡ t = get_or_at past t ts root i z in
      let first : flat_map (unit_gives schema a b root) (map made here) ≡ flat_map (λ (u : Slice). given_by plain u.value u.kind) (get_or (bs ++ units_of t ∷ map units_of ts) i [])
      = segment_gives (node_at s.path root) t i (dirs_of s.leaves) plain (ap (λ (m : SegmentModel). node_at m.path root) segment ∙ p.0.0) p.0.0 (ap dirs_of p.0.1) (λ v. ap (λ (n : Node). unit_outputs schema a b n v) node)
      ∙ ap (λ (us : List Slice). flat_map (λ (u : Slice). given_by plain u.value u.kind) us) (sym slices) in
      let more = all_give (before ++ s ∷ []) ss (bs ++ units_of t ∷ []) (past ++ t ∷ []) ts (i + 1) (w ∙ sym (append_assoc before (s ∷ []) ss)) (omega (arith, x, length-append before (s ∷ []))) (omega (arith, y, length-append bs (units_of t ∷ []))) (omega (arith, z, length-append past (t ∷ []))) p.1 in
      ap (flat_map (unit_gives schema a b root)) (map-append made here rest) ∙ flat_map-append (unit_gives schema a b root) (map made here) (map made rest)
      ∙ ap₂ (λ (xs ys : List ℕ). xs ++ ys) first
      (more ∙ ap₂ (λ (all : List (List Slice)) (ns : List Node). given_from all (outputs_of schema a b root ns) (i + 1) ts) (append_assoc bs (units_of t ∷ []) (map units_of ts)) (append_assoc past (t ∷ []) ts))

-- ---- the units and the root
pub compiled_tell : CompiledTell
compiled_tell schema a b root sound numbers units are stand =
    let ss : List SegmentModel = segments_of schema root [] in
    let below : List (List Shape) = shapes_from schema root 0 ss (site_dirs a b ss) in
    let last : Shape = root_shape schema (map parts_of below) root in
    let all = all_made 0 4194304 16777216 (flat below ++ last ∷ []) units are in
    let good : AllByRecursion Good (flat below ++ last ∷ []) = good_from (flat below ++ last ∷ []) all.few (subst UnitsStand all.are stand) in
    let root_good : Good last = (all_back Good (flat below) (last ∷ []) good).0 in
    let parts : map parts_of below ≡ parts_of_slices (slices_of schema a b root) = parts_mean schema a b root sound numbers in
    let tops = tops_mean schema root sound numbers in
    let split : units ≡ map made (flat below) ++ made last ∷ [] = all.are ∙ map-append made (flat below) (last ∷ []) in
    record {
      fit = all_fit schema a b root ss (segment_tops schema root) 0 tops.0 (all_front Good (flat below) (last ∷ []) good);
      few = subst (λ (ps : List (List Part)). (root_sizes schema ps root).longest ≤ 4096) parts root_good.0;
      order = subst (λ (ps : List (List Part)). InOrder (net_of true (root_list schema ps root)).gates) parts root_good.1;
      give = ap (flat_map (unit_gives schema a b root)) split ∙ flat_map-append (unit_gives schema a b root) (map made (flat below)) (made last ∷ []) ∙ append-nil (flat_map (unit_gives schema a b root) (map made (flat below)))
          ∙ all_give schema a b root [] ss [] [] (segment_tops schema root) 0 refl refl refl refl tops.0;
      some = omega (arith, ap (λ (us : List UnitModel). length us) split, length-append (map made (flat below)) (made last ∷ []));
      last = ap (λ (us : List UnitModel). get_or us (length us - 1) no_unit) split
          ∙ get_or_at (map made (flat below)) (made last) [] no_unit (length (map made (flat below) ++ made last ∷ []) - 1) (omega (arith, length-append (map made (flat below)) (made last ∷ [])))
          ∙ ap (λ (ps : List (List Part)). made (root_shape schema ps root)) parts;
    }
