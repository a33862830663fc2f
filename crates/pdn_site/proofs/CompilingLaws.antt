-- Units, compiled one after the other, are those of a query.
use Rattle.std.specs.Prelude.{MatchResult, IfErr}
use Rattle.std.proofs.Common.{◌≡◌, ℕ, ◌+◌, ◌<◌, ◌≤◌, Bool, cond, List, [], ◌∷◌, ◌++◌, map, length, Option, Some, None, Result, Ok, Err, refl, sym, ap, ap₂, ◌∙◌, subst, arith, append_assoc, append-nil, length-append, drop, get_or, drop-cons, add-one}
use Rattle.std.proofs.lemmas.Bool.{lt-ltb, le-ltb}
use Rattle.std.proofs.lemmas.List.{map-append}
use Rattle.std.proofs.lemmas.List.Sums.{sum_by-cons}
use Rattle.std.specs.List.{AllByRecursion, count_by}
use Rattle.std.specs.Result.{IsErrAnd}
use Rattle.pdn_base.specs.declared.site.Site.TheVariants.{A}
use Rattle.pdn_base.specs.declared.value.Value.{Value}
use Rattle.pdn_schema.specs.Models.{SchemaModel}
use Rattle.pdn_circuit.specs.declared.gate.Gate.{Gate}
use Rattle.pdn_circuit.specs.declared.gate.Gate.TheVariants.{Input, Given, Const, Xor, And, Spread, Move}
use Rattle.pdn_circuit.specs.declared.tally.BuildErr.{BuildErr}
use Rattle.pdn_circuit.specs.declared.tally.BuildErr.TheVariants as build
use Rattle.pdn_circuit.specs.Gates.{Net, operands_of, ands, is_and}
use Rattle.pdn_circuit.specs.Building.{first_over, and_count}
use Rattle.pdn_tree.specs.declared.node.Node.{Node}
use Rattle.pdn_level.specs.declared.staged.Leaf.{Leaf}
use Rattle.pdn_level.specs.Models.{SegmentModel}
use Rattle.pdn_level.specs.Levels.{leaves_of, segments_of}
use Rattle.pdn_level.specs.Cutting.{slice_column, IsSound}
use Rattle.pdn_level.proofs.SegmentLaws.{segments_sound}
use Rattle.pdn_site.specs.declared.budget.Left.{Left}
use Rattle.pdn_site.specs.declared.unit.UnitKind.{UnitKind}
use Rattle.pdn_site.specs.declared.unit.UnitKind.TheVariants.{Plain, Secure, Root}
use Rattle.pdn_site.specs.declared.unit.CompileErr.{CompileErr}
use Rattle.pdn_site.specs.declared.unit.CompileErr.TheVariants as err
use Rattle.pdn_site.specs.Models.{Dirs, UnitModel}
use Rattle.pdn_site.specs.Directories.{unit_values, kind_of}
use Rattle.pdn_site.specs.Lists.{Sized}
use Rattle.pdn_site.specs.Circuits.{Part, Laid, laid_leaf, laid_step}
use Rattle.pdn_site.specs.Through.{sized_through}
use Rattle.pdn_site.specs.Built.{laid_through}
use Rattle.pdn_site.specs.Compiling.{Shape, Compiled, shape_by, shapes_from, root_shape, parts_of, node_at, unit_of, with_unit, fitted, within, circuit_of, gates_of, compiled, IsTooLarge}
use Rattle.pdn_site.specs.Budget.{shape_along, segment_along, shapes_along, all_of, spent, compiled_left, IsOver, with_units, unit_part, Reaches, Passes, passed_by, first_left, Batch, MakesUnits, Below, IsBelow, MakesBelow}
use Rattle.pdn_site.proofs.ThroughLaws.{through_followed, sized_is}
use Rattle.pdn_site.proofs.SliceLaws.{sound_top}

-- ---- And gates
one_and : (g : Gate) → length (operands_of g) ≡ cond (is_and g) 1 0
one_and (And a b) = refl
one_and (Input site index) = refl
one_and (Given index) = refl
one_and (Const word) = refl
one_and (Xor a b) = refl
one_and (Spread a lane) = refl
one_and (Move a from count to) = refl

pub ands_counted : (gates : List Gate) → count_by is_and gates ≡ and_count gates
ands_counted [] = refl
ands_counted (g ∷ gs) = omega (arith, sum_by-cons (λ (h : Gate). cond (is_and h) 1 0) g gs, one_and g, length-append (operands_of g) (ands gs), ands_counted gs)

-- ---- units before what comes after them
with_units-append : (units more : List UnitModel) (rest : Compiled) → with_units (units ++ more) rest ≡ with_units units (with_units more rest)
with_units-append [] more rest = refl
with_units-append (unit ∷ units) more rest = ap (with_unit unit) (with_units-append units more rest)

with_units-ok : (units more : List UnitModel) → with_units units (Ok more) ≡ Ok (units ++ more)
with_units-ok [] more = refl
with_units-ok (unit ∷ units) more = ap (with_unit unit) (with_units-ok units more)

with_units-err : (units : List UnitModel) (passed : ℕ × ℕ) → with_units units (Err passed) ≡ Err passed
with_units-err [] passed = refl
with_units-err (unit ∷ units) passed = ap (with_unit unit) (with_units-err units passed)

pub reaches_begin : (left : Left) (whole : List Shape) → Reaches left whole left [] whole
reaches_begin left whole = record { on = λ more. refl; parts = refl; fewer = omega arith }

module _ (old now : Left) (whole shapes rest : List Shape) (units : List UnitModel) (so_far : Reaches old whole now units (shapes ++ rest)) where
  on_from : (more : List Shape) → compiled_left old (whole ++ more) ≡ with_units units (compiled_left now (shapes ++ (rest ++ more)))
  on_from more = so_far.on more ∙ ap (λ (ss : List Shape). with_units units (compiled_left now ss)) (append_assoc shapes rest more)

  -- the next units are made
  pub reaches_more : (new : Left) (made : List UnitModel) → Reaches now shapes new made [] → Reaches old whole new (units ++ made) rest
  reaches_more new made next = record {
    on = λ more. on_from more ∙ ap (with_units units) (next.on (rest ++ more)) ∙ sym (with_units-append units made (compiled_left new (rest ++ more)));
    parts = so_far.parts ∙ ap (λ (ps : List Part). map unit_part units ++ ps) (map-append (λ (s : Shape). record { kind = s.kind; len = s.len }) shapes rest ∙ ap (λ (ps : List Part). ps ++ parts_of rest) (next.parts ∙ append-nil (map unit_part made)))
        ∙ sym (append_assoc (map unit_part units) (map unit_part made) (parts_of rest)) ∙ ap (λ (ps : List Part). ps ++ parts_of rest) (sym (map-append unit_part units made));
    fewer = omega (arith, so_far.fewer, next.fewer);
  }

  -- one of the next units passes a limit
  pub passes_more : (e : CompileErr) → Passes now shapes e → Passes old whole e
  passes_more (err.TooLarge limit unit) p = λ more. on_from more ∙ ap (with_units units) (p (rest ++ more)) ∙ with_units-err units (limit, unit)
  passes_more err.Memory p = tt

-- ---- one unit
module _ (left : Left) (shape : Shape) where
  abbrev net : Option Net
  net = circuit_of shape shape.laid

  abbrev rest_after : List Shape → Compiled
  rest_after more = compiled_left (spent left (gates_of net)) more

  -- a list of more than 4096 rows
  pub long_passes : 4096 < shape.longest → Passes left (shape ∷ []) (err.TooLarge 1 left.unit)
  long_passes h = λ more. ap (λ (b : Bool). within b left.unit (fitted (first_over left.ands left.gates (gates_of net)) left.unit (unit_of shape net) (rest_after more))) (lt-ltb 4096 shape.longest h)

  short_is : shape.longest ≤ 4096 → (more : List Shape) → compiled_left left (shape ∷ more) ≡ fitted (first_over left.ands left.gates (gates_of net)) left.unit (unit_of shape net) (rest_after more)
  short_is h more = ap (λ (b : Bool). within b left.unit (fitted (first_over left.ands left.gates (gates_of net)) left.unit (unit_of shape net) (rest_after more))) (le-ltb 4096 shape.longest h)

  -- a gate too many
  pub over_passes : shape.longest ≤ 4096 → (e : BuildErr) → IsOver left (gates_of net) e → Passes left (shape ∷ []) (passed_by left.unit e)
  over_passes h (build.Full limit) over = λ more. short_is h more ∙ ap (λ (o : Option ℕ). fitted o left.unit (unit_of shape net) (rest_after more)) over
  over_passes h build.Memory over = tt

  -- a unit that passes no limit
  pub unit_reaches : (unit : UnitModel) → unit ≡ unit_of shape net → shape.longest ≤ 4096 → first_over left.ands left.gates (gates_of net) ≡ None → Reaches left (shape ∷ []) (spent left (gates_of unit.circuit)) (unit ∷ []) []
  unit_reaches unit is h fits = subst (λ (u : UnitModel). Reaches left (shape ∷ []) (spent left (gates_of u.circuit)) (u ∷ []) []) (sym is) (record {
    on = λ more. short_is h more ∙ ap (λ (o : Option ℕ). fitted o left.unit (unit_of shape net) (rest_after more)) fits;
    parts = refl;
    fewer = omega arith;
  })

-- ---- the units of a segment, value by value
-- a refusal that is passed on
pub exit_err : {X : Type 0} (P : X → Type 0) (Q : CompileErr → Type 0) (result : Result X CompileErr) (e : CompileErr) → IsErrAnd result (λ x. x ≡ e) → Q e → MatchResult result P Q
exit_err P Q (Ok x) e is p = absurd is
exit_err P Q (Err x) e is p = subst Q (sym is) p

pub exit_large : {X : Type 0} (Q : CompileErr → Type 0) (result : Result X CompileErr) (e : CompileErr) → IsErrAnd result (λ x. x ≡ e) → Q e → IfErr result Q
exit_large Q (Ok x) e is p = absurd is
exit_large Q (Err x) e is p = subst Q (sym is) p

pub units_exit : (left : Left) (shapes : List Shape) (result : Result Batch CompileErr) (e : CompileErr) → IsErrAnd result (λ x. x ≡ e) → Passes left shapes e → MakesUnits left shapes result
units_exit left shapes result e is p = exit_err (λ (b : Batch). Reaches left shapes b.left b.units []) (Passes left shapes) result e is p

pub below_exit : (left : Left) (shapes : List (List Shape)) (result : Result Below CompileErr) (e : CompileErr) → IsErrAnd result (λ x. x ≡ e) → Passes left (all_of shapes) e → MakesBelow left shapes result
below_exit left shapes result e is p = exit_err (IsBelow left shapes) (Passes left (all_of shapes)) result e is p

module _ (schema : SchemaModel) (top : Node) (leaves : List Leaf) (i : ℕ) (dirs : Dirs) (old now : Left) (whole : List Shape) (units : List UnitModel) (values : List Value) (k : ℕ) (v : Value) (kind : UnitKind) (h : k < length values) (at : v ≡ get_or values k v) (of : kind ≡ kind_of dirs v) where
  abbrev of_value : Value → Shape
  of_value w = shape_along schema top leaves i w (kind_of dirs w)

  abbrev of_kind : UnitKind → List Shape
  of_kind k = shape_along schema top leaves i v k ∷ []

  abbrev others : List Shape
  others = map of_value (drop (k + 1) values)

  next_value : Reaches old whole now units (map of_value (drop k values)) → Reaches old whole now units (of_kind kind ++ others)
  next_value r =
      let here : drop k values ≡ v ∷ drop (k + 1) values = drop-cons values k v h ∙ ap₂ (λ (w : Value) (n : ℕ). w ∷ drop n values) (sym at) (sym (add-one k)) in
      subst (λ (ss : List Shape). Reaches old whole now units ss) (ap (map of_value) here ∙ ap (λ (x : UnitKind). of_kind x ++ others) (sym of)) r

  pub value_passes : Reaches old whole now units (map of_value (drop k values)) → (e : CompileErr) → Passes now (of_kind kind) e → Passes old whole e
  value_passes r e p = passes_more old now whole (of_kind kind) others units (next_value r) e p

  pub value_reaches : Reaches old whole now units (map of_value (drop k values)) → (new : Left) (unit : UnitModel) → Reaches now (of_kind kind) new (unit ∷ []) [] → (pushed : List UnitModel) → pushed ≡ units ++ unit ∷ []
      → Reaches old whole new pushed others
  value_reaches r new unit next pushed is = subst (λ (us : List UnitModel). Reaches old whole new us others) (sym is) (reaches_more old now whole (of_kind kind) others units (next_value r) new (unit ∷ []) next)

-- ---- all segments, one by one
module _ (schema : SchemaModel) (root : Node) (staged : List SegmentModel) (dirs : List Dirs) (i : ℕ) where
  abbrev shapes_at : ℕ → List (List Shape)
  shapes_at j = shapes_along schema root j (drop j staged) (drop j dirs)

  module _ (s : SegmentModel) (d : Dirs) (path : List ℕ) (leaves : List Leaf) (top : Node) (number : ℕ) (in_staged : i < length staged) (in_dirs : i < length dirs) (at : s ≡ get_or staged i s) (dirs_at : d ≡ get_or dirs i d)
      (path_is : path ≡ s.path) (leaves_are : leaves ≡ s.leaves) (top_is : top ≡ node_at path root) (number_is : number ≡ i) where
    abbrev segment : List Shape
    segment = segment_along schema top leaves number d

    staged_from : drop i staged ≡ s ∷ drop (i + 1) staged
    staged_from = drop-cons staged i s in_staged ∙ ap₂ (λ (t : SegmentModel) (n : ℕ). t ∷ drop n staged) (sym at) (sym (add-one i))

    dirs_from : drop i dirs ≡ d ∷ drop (i + 1) dirs
    dirs_from = drop-cons dirs i d in_dirs ∙ ap₂ (λ (t : Dirs) (n : ℕ). t ∷ drop n dirs) (sym dirs_at) (sym (add-one i))

    segment_is : segment_along schema (node_at s.path root) s.leaves i d ≡ segment
    segment_is = ap₂ (λ (n : Node) (ls : List Leaf). segment_along schema n ls i d) (ap (λ (p : List ℕ). node_at p root) (sym path_is) ∙ sym top_is) (sym leaves_are) ∙ ap (λ k. segment_along schema top leaves k d) (sym number_is)

    next_segment : shapes_at i ≡ segment ∷ shapes_at (i + 1)
    next_segment = ap₂ (λ (ss : List SegmentModel) (ds : List Dirs). shapes_along schema root i ss ds) staged_from dirs_from ∙ ap (λ (x : List Shape). x ∷ shapes_at (i + 1)) segment_is

    module _ (old now : Left) (whole : List Shape) (units : List UnitModel) (so_far : Reaches old whole now units (all_of (shapes_at i))) where
      segment_next : Reaches old whole now units (segment ++ all_of (shapes_at (i + 1)))
      segment_next = subst (λ (ss : List (List Shape)). Reaches old whole now units (all_of ss)) next_segment so_far

      pub segment_passes : (e : CompileErr) → Passes now segment e → Passes old whole e
      segment_passes e p = passes_more old now whole segment (all_of (shapes_at (i + 1))) units segment_next e p

      pub segment_reaches : (new : Left) (made pushed : List UnitModel) → Reaches now segment new made [] → pushed ≡ units ++ made → Reaches old whole new pushed (all_of (shapes_at (i + 1)))
      segment_reaches new made pushed next is = subst (λ (us : List UnitModel). Reaches old whole new us (all_of (shapes_at (i + 1)))) (sym is) (reaches_more old now whole segment (all_of (shapes_at (i + 1))) units segment_next new made next)

    -- the parts of the segment's units
    pub segment_parts : (now new : Left) (made : List UnitModel) (all parts pushed : List (List Part)) (part : List Part) → Reaches now segment new made [] → all ≡ parts ++ map parts_of (shapes_at i) → part ≡ map unit_part made → pushed ≡ parts ++ part ∷ []
        → all ≡ pushed ++ map parts_of (shapes_at (i + 1))
    segment_parts now new made all parts pushed part next so_far part_is is =
        let later : List (List Part) = map parts_of (shapes_at (i + 1)) in
        so_far ∙ ap (λ (ss : List (List Shape)). parts ++ map parts_of ss) next_segment
        ∙ ap (λ (p : List Part). parts ++ p ∷ later) (next.parts ∙ append-nil (map unit_part made) ∙ sym part_is)
        ∙ sym (append_assoc parts (part ∷ []) later) ∙ ap (λ (ps : List (List Part)). ps ++ later) (sym is)

-- ---- units along the leaves of their segment
module _ (schema : SchemaModel) where
  shape_same : (top : Node) (leaves : List Leaf) (i : ℕ) (v : Value) (k : UnitKind) → leaves ≡ leaves_of schema top (slice_column schema top) → shape_along schema top leaves i v k ≡ shape_by schema top (slice_column schema top) i v k
  shape_same top leaves i v (Plain site) e =
      ap (λ (lists : Sized). record { kind = Plain site; segment = Some i; value = Some v; len = lists.padding.room; longest = lists.longest; laid = None })
      (ap (sized_through schema 1 top) e ∙ sized_is schema 1 top (slice_column schema top))
  shape_same top leaves i v Secure e =
      ap₂ (λ (lists : Sized) (laid : Laid). record { kind = Secure; segment = Some i; value = Some v; len = lists.padding.room; longest = lists.longest; laid = Some laid.list })
      (ap (sized_through schema 2 top) e ∙ sized_is schema 2 top (slice_column schema top))
      (ap (laid_through schema v top) e ∙ through_followed schema (laid_leaf schema) (laid_step v) top (slice_column schema top))
  shape_same top leaves i v Root e = refl

  values_same : (top : Node) (leaves : List Leaf) (i : ℕ) (kind : Value → UnitKind) (vs : List Value) → leaves ≡ leaves_of schema top (slice_column schema top)
      → map (λ v. shape_along schema top leaves i v (kind v)) vs ≡ map (λ v. shape_by schema top (slice_column schema top) i v (kind v)) vs
  values_same top leaves i kind [] e = refl
  values_same top leaves i kind (v ∷ vs) e = ap₂ (λ (s : Shape) (ss : List Shape). s ∷ ss) (shape_same top leaves i v (kind v) e) (values_same top leaves i kind vs e)

  -- a sound segment's leaves are those of its tree, as in an engine of this segment alone
  sound_leaves : (root : Node) (s : SegmentModel) → IsSound schema root s → s.leaves ≡ leaves_of schema (node_at s.path root) (slice_column schema (node_at s.path root))
  sound_leaves root s sound = sound.leaves ∙ ap (λ (n : Node). leaves_of schema n (slice_column schema n))
      (sym (sound_top (record { site = A; schema = schema; root = root; staged = s ∷ []; tables = [] }) 0 sound))

  shapes_same : (root : Node) (i : ℕ) (ss : List SegmentModel) (ds : List Dirs) → AllByRecursion (IsSound schema root) ss → shapes_along schema root i ss ds ≡ shapes_from schema root i ss ds
  shapes_same root i [] ds all = refl
  shapes_same root i (s ∷ ss) [] all = refl
  shapes_same root i (s ∷ ss) (d ∷ ds) all =
      ap₂ (λ (x : List Shape) (xs : List (List Shape)). x ∷ xs) (values_same (node_at s.path root) s.leaves i (kind_of d) (unit_values d) (sound_leaves root s all.0)) (shapes_same root (i + 1) ss ds all.1)

  pub shapes_are : (root : Node) (staged : List SegmentModel) (ds : List Dirs) → staged ≡ segments_of schema root [] → shapes_along schema root 0 staged ds ≡ shapes_from schema root 0 staged ds
  shapes_are root staged ds e = shapes_same root 0 staged ds (subst (λ (ss : List SegmentModel). AllByRecursion (IsSound schema root) ss) (sym e) (segments_sound schema root))

-- ---- all units
module _ (schema : SchemaModel) (root : Node) (staged : List SegmentModel) (dirs : List Dirs) (is : staged ≡ segments_of schema root []) where
  abbrev below_shapes : List (List Shape)
  below_shapes = shapes_along schema root 0 staged dirs

  compiled_is : compiled schema root staged dirs ≡ compiled_left first_left (all_of below_shapes ++ root_shape schema (map parts_of below_shapes) root ∷ [])
  compiled_is = ap (λ (ss : List (List Shape)). compiled_left first_left (all_of ss ++ root_shape schema (map parts_of ss) root ∷ [])) (sym (shapes_are schema root staged dirs is))

  -- a unit of a segment passes a limit
  pub below_large : (e : CompileErr) → Passes first_left (all_of below_shapes) e → IsTooLarge schema root staged dirs e
  below_large (err.TooLarge limit unit) p = compiled_is ∙ p (root_shape schema (map parts_of below_shapes) root ∷ [])
  below_large err.Memory p = tt

  module _ (now : Left) (units : List UnitModel) (parts : List (List Part)) (made : Reaches first_left (all_of below_shapes) now units []) (parts_are : parts ≡ map parts_of below_shapes) where
    abbrev last : List Shape
    last = root_shape schema parts root ∷ []

    to_root : compiled schema root staged dirs ≡ with_units units (compiled_left now last)
    to_root = compiled_is ∙ ap (λ (ps : List (List Part)). compiled_left first_left (all_of below_shapes ++ root_shape schema ps root ∷ [])) (sym parts_are) ∙ made.on last

    -- the root passes a limit
    pub root_large : (e : CompileErr) → Passes now last e → IsTooLarge schema root staged dirs e
    root_large (err.TooLarge limit unit) p = to_root ∙ ap (with_units units) (p []) ∙ with_units-err units (limit, unit)
    root_large err.Memory p = tt

    -- all units are made
    pub all_made : (new : Left) (unit : UnitModel) → Reaches now last new (unit ∷ []) [] → compiled schema root staged dirs ≡ Ok (units ++ unit ∷ [])
    all_made new unit r = to_root ∙ ap (with_units units) (r.on []) ∙ with_units-ok units (unit ∷ [])
