-- What is known of a query that is made ready, and of why it isn't.
use Rattle.std.proofs.Common.{◌≡◌, ℕ, ◌+◌, ◌-◌, ◌<◌, Bool, true, false, List, [], ◌∷◌, ◌++◌, length, get_or, map, take, refl, sym, ap, ap₂, ◌∙◌, subst, arith, length-append, Option, Some, None, Result, Ok, Err}
use Rattle.std.specs.Prelude.{IfErr}
use Rattle.std.specs.Result.{IsErrAnd}
use Rattle.std.specs.List.{flat_map}
use Rattle.std.proofs.lemmas.List.{get_or_at, map-append, take_more}
use Rattle.pdn_base.specs.declared.marks.Kind.{Kind}
use Rattle.pdn_base.specs.declared.order.Key.{Key}
use Rattle.pdn_base.specs.declared.site.Site.{Site}
use Rattle.pdn_base.specs.declared.site.Site.TheVariants.{A, B}
use Rattle.pdn_base.specs.Operators.{Rows}
use Rattle.pdn_schema.specs.Models.{SchemaModel}
use Rattle.pdn_schema.specs.Rows.{AreValid}
use Rattle.pdn_tree.specs.declared.node.Node.{Node}
use Rattle.pdn_tree.specs.Shapes.{kinds, shape, is_top}
use Rattle.pdn_circuit.specs.declared.gate.Gate.{Gate}
use Rattle.pdn_circuit.specs.Building.{first_over, and_count}
use Rattle.pdn_level.specs.Models.{SegmentModel}
use Rattle.pdn_level.specs.Levels.{segments_of}
use Rattle.pdn_site.specs.declared.unit.UnitKind.TheVariants.{Root}
use Rattle.pdn_site.specs.declared.unit.CompileErr.{CompileErr}
use Rattle.pdn_site.specs.declared.unit.CompileErr.TheVariants as unit
use Rattle.pdn_site.specs.Models.{Dirs, UnitModel}
use Rattle.pdn_site.specs.Directories.{directory}
use Rattle.pdn_site.specs.SiteRows.{Slice, root_words}
use Rattle.pdn_site.specs.Compiling.{Shape, Compiled, unit_of, with_unit, fitted, within, circuit_of, gates_of, compiled_from, compiled, shapes_from, root_shape, parts_of, IsTooLarge}
use Rattle.pdn_site.specs.Meaning.{numbers_fit}
use Rattle.pdn_site.specs.NetMeaning.{slices_of, site_dirs}
use Rattle.pdn_site.specs.Engines.{EngineModel, IsEngine, no_unit}
use Rattle.pdn_site.specs.RootWords.{slices_in, root_inputs}
use Rattle.pdn_broker.specs.declared.preparing.PrepareErr.{PrepareErr}
use Rattle.pdn_broker.specs.declared.preparing.PrepareErr.TheVariants as err
use Rattle.pdn_broker.specs.Runs.{Both}
use Rattle.pdn_broker.specs.Answering.{top_order, root_own}
use Rattle.pdn_site.proofs.CompiledSlices.{slices_mean}
use Rattle.pdn_broker.specs.Units.{AreUnits, UnitsStand}
use Rattle.pdn_broker.specs.Prepared.{PreparedModel, IsPrepared, IsOf, IsNotPrepared, IsRefusedAt, AreEngines, AreNoEngines, AreTooLarge, compile_refusal}

-- ---- directories

-- one segment more
pub dirs_next : (a b : List Rows) (segments : List SegmentModel) (i : ℕ) (d : SegmentModel) → i < length segments
    → site_dirs a b (take (i + 1) segments) ≡ site_dirs a b (take i segments) ++ record { a = directory a (get_or segments i d).leaves; b = directory b (get_or segments i d).leaves } ∷ []
dirs_next a b segments i d h = ap (site_dirs a b) (take_more segments i d h) ∙ map-append (λ (s : SegmentModel). record { a = directory a s.leaves; b = directory b s.leaves }) (take i segments) (get_or segments i d ∷ [])

-- ---- refusals

pub memory_refused : {X : Type 0} (schema : SchemaModel) (root : Node) (a b : List Rows) (result : Result X PrepareErr) → IsErrAnd result (λ e. e ≡ err.Memory) → IfErr result (IsNotPrepared schema root a b)
memory_refused schema root a b (Ok x) h = absurd h
memory_refused schema root a b (Err e) h = subst (IsNotPrepared schema root a b) (sym h) tt

pub refused_a : (schema : SchemaModel) (a b : List Rows) (e : PrepareErr) → IsRefusedAt A schema a e → AreNoEngines schema a b e
refused_a schema a b (err.Rows A table cause) h = h.1
refused_a schema a b (err.Rows B table cause) h = let other : ◌≡◌ {A = Site} B A = h.0 in absurd (cc)
refused_a schema a b (err.TooLarge limit u) h = absurd h
refused_a schema a b err.Memory h = tt

pub refused_b : (schema : SchemaModel) (a b : List Rows) (e : PrepareErr) → AreValid schema a → IsRefusedAt B schema b e → AreNoEngines schema a b e
refused_b schema a b (err.Rows A table cause) valid h = let other : ◌≡◌ {A = Site} A B = h.0 in absurd (cc)
refused_b schema a b (err.Rows B table cause) valid h = (valid, h.1)
refused_b schema a b (err.TooLarge limit u) valid h = absurd h
refused_b schema a b err.Memory valid h = tt

pub no_engines : (schema : SchemaModel) (root : Node) (a b : List Rows) (e : PrepareErr) → AreNoEngines schema a b e → IsNotPrepared schema root a b e
no_engines schema root a b (err.Rows A table cause) h = h
no_engines schema root a b (err.Rows B table cause) h = h
no_engines schema root a b (err.TooLarge limit u) h = absurd h
no_engines schema root a b err.Memory h = tt

too_large : (schema : SchemaModel) (root : Node) (a b : List Rows) (cause : CompileErr) → AreValid schema a → AreValid schema b
    → IsTooLarge schema root (segments_of schema root []) (site_dirs a b (segments_of schema root [])) cause → IsNotPrepared schema root a b (compile_refusal cause)
too_large schema root a b (unit.TooLarge limit u) valid_a valid_b h = (valid_a, valid_b, h)
too_large schema root a b unit.Memory valid_a valid_b h = tt

pub refused_large : (schema : SchemaModel) (root : Node) (a b : List Rows) (staged : List SegmentModel) (dirs : List Dirs) (cause : CompileErr) (e : PrepareErr) → AreValid schema a → AreValid schema b
    → staged ≡ segments_of schema root [] → dirs ≡ site_dirs a b staged → IsTooLarge schema root staged dirs cause → e ≡ compile_refusal cause → IsNotPrepared schema root a b e
refused_large schema root a b staged dirs cause e valid_a valid_b s d h is =
    let segments : List SegmentModel = segments_of schema root [] in
    let all : dirs ≡ site_dirs a b segments = d ∙ ap (site_dirs a b) s in
    subst (IsNotPrepared schema root a b) (sym is)
    (too_large schema root a b cause valid_a valid_b (subst (λ (ds : List Dirs). IsTooLarge schema root segments ds cause) all (subst (λ (ss : List SegmentModel). IsTooLarge schema root ss dirs cause) s h)))

-- ---- the last unit

record EndsInRoot (units : List UnitModel) : Type 0 where
  front : List UnitModel
  last : UnitModel
  is : units ≡ front ++ last ∷ []
  root : last.kind ≡ Root

abbrev Ends : Compiled → Type 0
Ends (Ok units) = EndsInRoot units
Ends (Err passed) = Unit {0}

within_ends : (b : Bool) (u : ℕ) (c : Compiled) → Ends c → Ends (within b u c)
within_ends true u c h = tt
within_ends false u c h = h

fitted_ends : (o : Option ℕ) (u : ℕ) (first : UnitModel) (rest : Compiled) → Ends (with_unit first rest) → Ends (fitted o u first rest)
fitted_ends None u first rest h = h
fitted_ends (Some limit) u first rest h = tt

with_ends : (first : UnitModel) (rest : Compiled) → Ends rest → Ends (with_unit first rest)
with_ends first (Ok units) h = record { front = first ∷ h.front; last = h.last; is = ap (λ (us : List UnitModel). first ∷ us) h.is; root = h.root }
with_ends first (Err passed) h = tt

compiled_ends : (u ands gates : ℕ) (shapes : List Shape) (last : Shape) → last.kind ≡ Root → Ends (compiled_from u ands gates (shapes ++ last ∷ []))
compiled_ends u ands gates [] last e =
    let made : List Gate = gates_of (circuit_of last last.laid) in
    let is_last : UnitModel = unit_of last (circuit_of last last.laid) in
    within_ends _ u _ (fitted_ends (first_over ands gates made) u is_last (Ok []) (record { front = []; last = is_last; is = refl; root = e }))
compiled_ends u ands gates (s ∷ ss) last e =
    let made : List Gate = gates_of (circuit_of s s.laid) in
    let first : UnitModel = unit_of s (circuit_of s s.laid) in
    let rest : Compiled = compiled_from (u + 1) (ands - and_count made) (gates - length made) (ss ++ last ∷ []) in
    within_ends _ u _ (fitted_ends (first_over ands gates made) u first rest (with_ends first rest (compiled_ends (u + 1) (ands - and_count made) (gates - length made) ss last e)))

-- there is a last unit, and it is the root
pub record LastIsRoot (units : List UnitModel) : Type 0 where
  pub some : 0 < length units
  pub last : (get_or units (length units - 1) no_unit).kind ≡ Root

last_from : (units : List UnitModel) → EndsInRoot units → LastIsRoot units
last_from units h =
    let count : length units ≡ length h.front + 1 = ap length h.is ∙ length-append h.front (h.last ∷ []) in
    record {
      some = omega (arith, count);
      last = ap (λ (u : UnitModel). u.kind) (ap (λ (us : List UnitModel). get_or us (length units - 1) no_unit) h.is ∙ get_or_at h.front h.last [] no_unit (length units - 1) (omega (arith, count))) ∙ h.root;
    }

pub last_is_root : (schema : SchemaModel) (root : Node) (staged : List SegmentModel) (dirs : List Dirs) (units : List UnitModel) → compiled schema root staged dirs ≡ Ok units → LastIsRoot units
last_is_root schema root staged dirs units e =
    last_from units (subst Ends e (compiled_ends 0 4194304 16777216 (flat_map (λ (shapes : List Shape). shapes) (shapes_from schema root 0 staged dirs)) (root_shape schema (map parts_of (shapes_from schema root 0 staged dirs)) root) refl))

-- ---- what is ready

abbrev engine_of : Site → SchemaModel → Node → List SegmentModel → List Rows → EngineModel
engine_of site schema root staged tables = record { site = site; schema = schema; root = root; staged = staged; tables = tables }

abbrev ready : EngineModel → EngineModel → List Dirs → List UnitModel → List Kind → List Key → Both → PreparedModel
ready a b dirs units columns order own = record { a = a; b = b; dirs = dirs; units = units; columns = columns; order = order; own = own }

module _ (schema : SchemaModel) (root : Node) (a b : List Rows) (units : List UnitModel) where
  abbrev segments : List SegmentModel
  segments = segments_of schema root []

  abbrev engine_a : EngineModel
  engine_a = engine_of A schema root segments a

  abbrev engine_b : EngineModel
  engine_b = engine_of B schema root segments b

  -- what the engines put into the root is what the sites do
  own_same : (shape schema root).sound ≡ true → numbers_fit root ≡ true → compiled schema root segments (site_dirs a b segments) ≡ Ok units
      → ◌≡◌ {A = Both} (record { a = root_inputs engine_a units; b = root_inputs engine_b units }) (root_own schema a b root)
  own_same sound numbers made =
      ap (λ (ss : List (List Slice)). record { a = root_words A schema a ss root; b = root_words B schema b ss root }) (slices_mean schema a b root sound numbers units made)

  ready_is : (dirs : List Dirs) (columns : List Kind) (order : List Key) (own : Both) → IsEngine engine_a → IsEngine engine_b → (shape schema root).sound ≡ true → is_top root ≡ true
      → dirs ≡ site_dirs a b segments → compiled schema root segments (site_dirs a b segments) ≡ Ok units → UnitsStand units → columns ≡ kinds schema root → order ≡ top_order root
      → own ≡ record { a = root_inputs engine_a units; b = root_inputs engine_b units } → IsPrepared (ready engine_a engine_b dirs units columns order own)
  ready_is dirs columns order own is_a is_b sound top d made stand c o w = record {
    site_a = refl;
    site_b = refl;
    schema = refl;
    root = refl;
    staged_a = is_a;
    staged_b = is_b;
    tables_a = is_a.tables;
    tables_b = is_b.tables;
    sound = sound;
    numbers = is_a.numbers;
    top = top;
    dirs = d;
    units = made;
    stand = stand;
    columns = c;
    order = o;
    own = w ∙ own_same sound is_a.numbers made;
  }

pub is_of : (schema : SchemaModel) (root : Node) (a b : List Rows) (staged : List SegmentModel) (p : PreparedModel) → p.a ≡ record { site = A; schema = schema; root = root; staged = staged; tables = a }
    → p.b ≡ record { site = B; schema = schema; root = root; staged = staged; tables = b } → IsOf schema root a b p
is_of schema root a b staged p e f = record {
  schema = ap (λ (x : EngineModel). x.schema) e;
  root = ap (λ (x : EngineModel). x.root) e;
  a = ap (λ (x : EngineModel). x.tables) e;
  b = ap (λ (x : EngineModel). x.tables) f;
}

-- ---- both engines, and their units

pub refused_second : (schema : SchemaModel) (root : Node) (staged : List SegmentModel) (a b : List Rows) (ea : EngineModel) (e : PrepareErr) → ea ≡ engine_of A schema root staged a → IsEngine ea
    → IsRefusedAt B schema b e → AreNoEngines schema a b e
refused_second schema root staged a b ea e made is h = refused_b schema a b e (subst (λ (x : EngineModel). AreValid x.schema x.tables) made is.tables.valid) h

pub both_engines : (schema : SchemaModel) (root : Node) (staged : List SegmentModel) (a b : List Rows) (ea eb : EngineModel) → staged ≡ segments_of schema root [] → ea ≡ engine_of A schema root staged a → eb ≡ engine_of B schema root staged b
    → IsEngine ea → IsEngine eb → AreEngines schema root a b ea eb
both_engines schema root staged a b ea eb s e f is_a is_b = record {
  made_a = e ∙ ap (λ (ss : List SegmentModel). engine_of A schema root ss a) s;
  made_b = f ∙ ap (λ (ss : List SegmentModel). engine_of B schema root ss b) s;
  is_a = is_a;
  is_b = is_b;
}

large_over : (schema : SchemaModel) (root : Node) (a b : List Rows) (cause : CompileErr) → IsTooLarge schema root (segments_of schema root []) (site_dirs a b (segments_of schema root [])) cause
    → AreTooLarge schema root a b (compile_refusal cause)
large_over schema root a b (unit.TooLarge limit u) h = h
large_over schema root a b unit.Memory h = tt

pub too_many : (schema : SchemaModel) (root : Node) (a b : List Rows) (staged : List SegmentModel) (dirs : List Dirs) (cause : CompileErr) (e : PrepareErr) → staged ≡ segments_of schema root [] → dirs ≡ site_dirs a b staged
    → IsTooLarge schema root staged dirs cause → e ≡ compile_refusal cause → AreTooLarge schema root a b e
too_many schema root a b staged dirs cause e s d h is =
    let segments : List SegmentModel = segments_of schema root [] in
    let all : dirs ≡ site_dirs a b segments = d ∙ ap (site_dirs a b) s in
    subst (AreTooLarge schema root a b) (sym is)
    (large_over schema root a b cause (subst (λ (ds : List Dirs). IsTooLarge schema root segments ds cause) all (subst (λ (ss : List SegmentModel). IsTooLarge schema root ss dirs cause) s h)))

pub units_made : (schema : SchemaModel) (root : Node) (a b : List Rows) (staged : List SegmentModel) (dirs : List Dirs) (units : List UnitModel) → staged ≡ segments_of schema root [] → dirs ≡ site_dirs a b staged
    → compiled schema root staged dirs ≡ Ok units → AreUnits schema a b root units
units_made schema root a b staged dirs units s d made = sym (ap₂ (compiled schema root) s (d ∙ ap (site_dirs a b) s)) ∙ made

pub dirs_made : (schema : SchemaModel) (root : Node) (a b : List Rows) (staged : List SegmentModel) (dirs : List Dirs) → staged ≡ segments_of schema root [] → dirs ≡ site_dirs a b staged → dirs ≡ site_dirs a b (segments_of schema root [])
dirs_made schema root a b staged dirs s d = d ∙ ap (site_dirs a b) s

engines_ready : (schema : SchemaModel) (root : Node) (ea eb : EngineModel) (dirs : List Dirs) (units : List UnitModel) (columns : List Kind) (order : List Key) (own : Both) → AreEngines schema root ea.tables eb.tables ea eb
    → (shape schema root).sound ≡ true → is_top root ≡ true → dirs ≡ site_dirs ea.tables eb.tables (segments_of schema root []) → AreUnits schema ea.tables eb.tables root units → UnitsStand units
    → columns ≡ kinds schema root → order ≡ top_order root → own ≡ record { a = root_inputs ea units; b = root_inputs eb units } → IsPrepared (ready ea eb dirs units columns order own)
engines_ready schema root ea eb dirs units columns order own en sound top d made stand c o w =
    let of_a : EngineModel = engine_of A schema root (segments_of schema root []) ea.tables in
    let of_b : EngineModel = engine_of B schema root (segments_of schema root []) eb.tables in
    let puts : own ≡ record { a = root_inputs of_a units; b = root_inputs of_b units } = w ∙ ap₂ (λ (x y : EngineModel). record { a = root_inputs x units; b = root_inputs y units }) en.made_a en.made_b in
    let both = ready_is schema root ea.tables eb.tables units dirs columns order own (subst IsEngine en.made_a en.is_a) (subst IsEngine en.made_b en.is_b) sound top d made stand c o puts in
    subst (λ (x : EngineModel). IsPrepared (ready x eb dirs units columns order own)) (sym en.made_a) (subst (λ (y : EngineModel). IsPrepared (ready of_a y dirs units columns order own)) (sym en.made_b) both)

-- ---- a query that is prepared

pub own_a : {schema : SchemaModel} {root : Node} {a b : List Rows} {ea eb : EngineModel} → AreEngines schema root a b ea eb → ea.tables ≡ a
own_a en = ap (λ (x : EngineModel). x.tables) en.made_a

pub own_b : {schema : SchemaModel} {root : Node} {a b : List Rows} {ea eb : EngineModel} → AreEngines schema root a b ea eb → eb.tables ≡ b
own_b en = ap (λ (x : EngineModel). x.tables) en.made_b

engines_own : (schema : SchemaModel) (root : Node) (a b : List Rows) (ea eb : EngineModel) → AreEngines schema root a b ea eb → AreEngines schema root ea.tables eb.tables ea eb
engines_own schema root a b ea eb en = subst (λ (x : List Rows). AreEngines schema root x eb.tables ea eb) (sym (own_a en)) (subst (λ (y : List Rows). AreEngines schema root a y ea eb) (sym (own_b en)) en)

pub all_made_of : (schema : SchemaModel) (root : Node) (a b : List Rows) (ea eb : EngineModel) (p : PreparedModel) → AreEngines schema root a b ea eb → p.a ≡ ea → p.b ≡ eb → IsOf schema root a b p
all_made_of schema root a b ea eb p en at_a at_b = is_of schema root a b (segments_of schema root []) p (at_a ∙ en.made_a) (at_b ∙ en.made_b)

pub all_ready : (schema : SchemaModel) (root : Node) (a b : List Rows) (ea eb : EngineModel) (dirs : List Dirs) (units : List UnitModel) (columns : List Kind) (order : List Key) (own : Both) → AreEngines schema root a b ea eb
    → (shape schema root).sound ≡ true → is_top root ≡ true → dirs ≡ site_dirs ea.tables eb.tables (segments_of schema root []) → AreUnits schema ea.tables eb.tables root units → UnitsStand units
    → columns ≡ kinds schema root → order ≡ top_order root → own ≡ record { a = root_inputs ea units; b = root_inputs eb units } → IsPrepared (ready ea eb dirs units columns order own)
all_ready schema root a b ea eb dirs units columns order own en sound top d made stand c o w = engines_ready schema root ea eb dirs units columns order own (engines_own schema root a b ea eb en) sound top d made stand c o w

refused_units : (schema : SchemaModel) (root : Node) (a b : List Rows) (e : PrepareErr) → AreValid schema a → AreValid schema b → AreTooLarge schema root a b e → IsNotPrepared schema root a b e
refused_units schema root a b (err.Rows site table cause) va vb h = absurd h
refused_units schema root a b (err.TooLarge limit u) va vb h = (va, vb, h)
refused_units schema root a b err.Memory va vb h = tt

pub engines_refused : (schema : SchemaModel) (root : Node) (a b : List Rows) (ea eb : EngineModel) (e : PrepareErr) → AreEngines schema root a b ea eb → AreTooLarge schema root ea.tables eb.tables e → IsNotPrepared schema root a b e
engines_refused schema root a b ea eb e en h =
    refused_units schema root a b e (subst (λ (x : EngineModel). AreValid x.schema x.tables) en.made_a en.is_a.tables.valid) (subst (λ (x : EngineModel). AreValid x.schema x.tables) en.made_b en.is_b.tables.valid)
    (subst (λ (x : List Rows). AreTooLarge schema root x b e) (own_a en) (subst (λ (y : List Rows). AreTooLarge schema root ea.tables y e) (own_b en) h))
