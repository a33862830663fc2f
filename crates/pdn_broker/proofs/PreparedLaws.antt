-- The units of a query that is prepared, their runs, and what the root opens.
use Rattle.std.proofs.Common.{◌≡◌, ℕ, zero, suc, ◌+◌, ◌-◌, ◌<◌, ◌≤◌, Bool, true, false, cond, List, [], ◌∷◌, ◌++◌, length, get_or, map, take, filter, true≢false, refl, sym, ap, ap₂, ◌∙◌, subst, arith, length-append, append_assoc, append-nil, Some, Result, Ok, Err, IfOk}
use Rattle.std.specs.Prelude.{IsSome}
use Rattle.std.specs.List.{All, flat_map, range_with_len}
use Rattle.std.proofs.lemmas.List.{get_or_at, map-append, take_more, take_all}
use Rattle.std.proofs.lemmas.List.Elements.{All-nil, All-cons, All-append, All-get_or, filter-append}
use Rattle.std.proofs.lemmas.Grind.{flat_map-append}
use Rattle.std.specs.declared.alloc.Global.{Global}
use Rattle.std.specs.declared.vec.Vec.{Vec}
use Rattle.pdn_base.specs.declared.marks.Kind.{Kind}
use Rattle.pdn_base.specs.declared.order.Key.{Key}
use Rattle.pdn_base.specs.declared.site.Site.{Site}
use Rattle.pdn_base.specs.declared.value.Value.{Value}
use Rattle.pdn_base.specs.Operators.{Rows, listed}
use Rattle.pdn_base.specs.Words.{xor_lists}
use Rattle.pdn_base.proofs.WordLists.{length-xor_lists}
use Rattle.pdn_schema.specs.Models.{SchemaModel}
use Rattle.pdn_tree.specs.declared.node.Node.{Node}
use Rattle.pdn_tree.specs.Shapes.{kinds}
use Rattle.pdn_circuit.specs.Gates.{Net, HasCounts, given_count, output_words}
use Rattle.pdn_obl_rows.specs.Lists.{valid_rows}
use Rattle.pdn_obl_rows.specs.Encoding.{RowsAreOf, list_from}
use Rattle.pdn_obl_rows.proofs.EncodingSteps.{range_more}
use Rattle.pdn_dealer.specs.Sections.{layout_of, section_length}
use Rattle.pdn_dealer.specs.Tapes.{first_words}
use Rattle.pdn_gmw.specs.Pairs.{Run}
use Rattle.pdn_level.specs.Models.{SegmentModel}
use Rattle.pdn_level.specs.Levels.{segments_of}
use Rattle.pdn_level.specs.Cutting.{slice_column}
use Rattle.pdn_pool.specs.Results.{EachGives}
use Rattle.pdn_site.specs.declared.unit.UnitKind.{UnitKind}
use Rattle.pdn_site.specs.declared.unit.UnitKind.TheVariants.{Plain, Secure, Root}
use Rattle.pdn_site.specs.Directories.{unit_values, kind_of}
use Rattle.pdn_site.specs.Models.{Dirs, UnitModel}
use Rattle.pdn_site.specs.Laying.{list_words}
use Rattle.pdn_site.specs.SiteRows.{unit_words}
use Rattle.pdn_site.specs.Compiling.{Shape, shape_by, segment_shapes, shapes_from, root_shape, parts_of, node_at}
use Rattle.pdn_site.specs.NetMeaning.{unit_net, unit_inputs, root_net, root_inputs, site_dirs}
use Rattle.pdn_site.specs.Engines.{EngineModel, IsEngine, no_segment, no_unit, segment_number, value_of}
use Rattle.pdn_site.specs.Engines.{secure_words as engine_words}
use Rattle.pdn_site.proofs.TakesLaws.{unit_takes}
use Rattle.pdn_site.proofs.RootTakes.{root_takes}
use Rattle.pdn_broker.specs.declared.answered.Dealt.{Dealt}
use Rattle.pdn_broker.specs.Runs.{Both, Shared, Takes, Tape, world, section_at, run_on}
use Rattle.pdn_broker.specs.Answering.{nothing_given, root_len, top_order}
use Rattle.pdn_broker.specs.Units.{AreUnits, UnitsTell, secure_words, secure_own, unit_gives, gives_by, net_or, is_secure, numbers_upto}
use Rattle.pdn_broker.specs.Prepared.{PreparedModel, IsPrepared}
use Rattle.pdn_broker.specs.Running.{unit_at, root_number, root_of, engines_own, secure_run_on, secure_run, secure_runs, outputs_of, root_run, opened_words, opened_list, Opens, AnswersMean, IsRootRun}
use Rattle.pdn_broker.proofs.RunLaws.{dealt_shared, run_where_dealt, shared_nothing, shared_append}
use Rattle.pdn_broker.proofs.AnswerLaws.{Answers, opens_plain, answers_from}
use Rattle.pdn_broker.proofs.UnitLaws.{made, all_made, flat, compiled_tell}

-- ---- compiled units
plain_is_not_secure : (site : Site) → ◌≡◌ {A = UnitKind} (Plain site) Secure → ⊥
plain_is_not_secure site e = cc

root_is_not_secure : ◌≡◌ {A = UnitKind} Root Secure → ⊥
root_is_not_secure e = cc

-- a secure unit is of a segment that is there, and its circuit takes both sites' words
pub record SecureFits (schema : SchemaModel) (a b : List Rows) (root : Node) (unit : UnitModel) : Type 0 where
  pub placed : segment_number unit < length (segments_of schema root [])
  pub net : Net
  pub circuit : unit.circuit ≡ Some net
  pub takes : HasCounts net (record { a = secure_words schema a root unit; b = secure_words schema b root unit; given = [] })

module _ (schema : SchemaModel) (a b : List Rows) (root : Node) where
  abbrev segments : List SegmentModel
  segments = segments_of schema root []

  abbrev FitsWhereSecure : UnitModel → Type 0
  FitsWhereSecure unit = unit.kind ≡ Secure → SecureFits schema a b root unit

  abbrev top_at : ℕ → Node
  top_at i = node_at (get_or segments i no_segment).path root

  shape_fits : (top : Node) (i : ℕ) (v : Value) (k : UnitKind) → i < length segments → top ≡ top_at i → FitsWhereSecure (made (shape_by schema top (slice_column schema top) i v k))
  shape_fits top i v (Plain site) h t e = absurd (plain_is_not_secure site e)
  shape_fits top i v Secure h t e = record {
    placed = h;
    net = unit_net schema top v;
    circuit = refl;
    takes = subst (λ (n : Node). HasCounts (unit_net schema top v) (unit_inputs schema a b n v)) t (unit_takes schema a b top v);
  }
  shape_fits top i v Root h t e = absurd (root_is_not_secure e)

  values_fit : (top : Node) (i : ℕ) (kind : Value → UnitKind) → i < length segments → top ≡ top_at i → (vs : List Value) → All FitsWhereSecure (map made (map (λ v. shape_by schema top (slice_column schema top) i v (kind v)) vs))
  values_fit top i kind h t [] = All-nil FitsWhereSecure
  values_fit top i kind h t (v ∷ vs) =
      All-cons FitsWhereSecure (made (shape_by schema top (slice_column schema top) i v (kind v))) (map made (map (λ w. shape_by schema top (slice_column schema top) i w (kind w)) vs)) (shape_fits top i v (kind v) h t) (values_fit top i kind h t vs)

  from_fit : (before ss : List SegmentModel) (ds : List Dirs) (i : ℕ) → segments ≡ before ++ ss → length before ≡ i → All FitsWhereSecure (map made (flat (shapes_from schema root i ss ds)))
  from_fit before [] ds i w x = All-nil FitsWhereSecure
  from_fit before (s ∷ ss) [] i w x = All-nil FitsWhereSecure
  from_fit before (s ∷ ss) (d ∷ ds) i w x =
      let here : List Shape = segment_shapes schema (node_at s.path root) i d in
      let rest : List Shape = flat (shapes_from schema root (i + 1) ss ds) in
      let segment : get_or segments i no_segment ≡ s = ap (λ (xs : List SegmentModel). get_or xs i no_segment) w ∙ get_or_at before s ss no_segment i x in
      let within : i < length segments = omega (arith, x, ap (λ (xs : List SegmentModel). length xs) w, length-append before (s ∷ ss)) in
      let more = from_fit (before ++ s ∷ []) ss ds (i + 1) (w ∙ sym (append_assoc before (s ∷ []) ss)) (omega (arith, x, length-append before (s ∷ []))) in
      subst (All FitsWhereSecure) (sym (map-append made here rest))
      (All-append FitsWhereSecure (map made here) (map made rest) (values_fit (node_at s.path root) i (kind_of d) within (ap (λ (m : SegmentModel). node_at m.path root) (sym segment)) (unit_values d)) more)

  units_fit : (units : List UnitModel) → AreUnits schema a b root units → (k : ℕ) → k < length units → FitsWhereSecure (get_or units k no_unit)
  units_fit units are k l =
      let below : List (List Shape) = shapes_from schema root 0 segments (site_dirs a b segments) in
      let last : Shape = root_shape schema (map parts_of below) root in
      let all = all_made 0 4194304 16777216 (flat below ++ last ∷ []) units are in
      let last_fits : FitsWhereSecure (made last) = λ e. absurd (root_is_not_secure e) in
      let fit : All FitsWhereSecure (map made (flat below) ++ made last ∷ [])
      = All-append FitsWhereSecure (map made (flat below)) (made last ∷ []) (from_fit [] segments (site_dirs a b segments) 0 refl refl) (All-cons FitsWhereSecure (made last) [] last_fits (All-nil FitsWhereSecure)) in
      All-get_or FitsWhereSecure units k no_unit l (subst (All FitsWhereSecure) (sym (all.are ∙ map-append made (flat below) (last ∷ []))) fit)

-- ---- one unit more
one_of : {X : Type 0} (f : ℕ → X) (k : ℕ) (b : Bool) → map f (cond b (k ∷ []) []) ≡ cond b (f k ∷ []) []
one_of f k true = refl
one_of f k false = refl

pub mapped_more : {X : Type 0} (f : ℕ → X) (test : UnitKind → Bool) (units : List UnitModel) (k : ℕ)
    → map f (numbers_upto test units (k + 1)) ≡ map f (numbers_upto test units k) ++ cond (test (get_or units k no_unit).kind) (f k ∷ []) []
mapped_more {X} f test units k =
    let passes : ℕ → Bool = λ n. test (get_or units n no_unit).kind in
    let first : 0 + k ≡ k = omega arith in
    ap (λ (ns : List ℕ). map f (filter passes ns)) (range_more 0 k ∙ ap (λ n. range_with_len 0 k ++ n ∷ []) first) ∙ ap (map f) (filter-append passes (range_with_len 0 k) (k ∷ []))
    ∙ map-append f (filter passes (range_with_len 0 k)) (cond (passes k) (k ∷ []) []) ∙ ap (λ (xs : List X). map f (filter passes (range_with_len 0 k)) ++ xs) (one_of f k (passes k))

-- what stands for each unit whose kind passes a test, once another unit is through
pub pushed_more : {X : Type 0} (f : ℕ → X) (test : UnitKind → Bool) (units : List UnitModel) (k : ℕ) (old new : List X) → old ≡ map f (numbers_upto test units k)
    → new ≡ old ++ cond (test (get_or units k no_unit).kind) (f k ∷ []) [] → new ≡ map f (numbers_upto test units (k + 1))
pushed_more {X} f test units k old new e d = d ∙ ap (λ (xs : List X). xs ++ cond (test (get_or units k no_unit).kind) (f k ∷ []) []) e ∙ sym (mapped_more f test units k)

shares_more : (give : UnitModel → List ℕ) (units : List UnitModel) (k : ℕ) (given more : Both) → k < length units → Shared given.a given.b (flat_map give (take k units)) → Shared more.a more.b (give (get_or units k no_unit))
    → Shared (given.a ++ more.a) (given.b ++ more.b) (flat_map give (take (k + 1) units))
shares_more give units k given more h s t =
    let words : flat_map give (take k units) ++ give (get_or units k no_unit) ≡ flat_map give (take (k + 1) units)
    = sym (ap (flat_map give) (take_more units k no_unit h) ∙ flat_map-append give (take k units) (get_or units k no_unit ∷ []) ∙ ap (λ (ws : List ℕ). flat_map give (take k units) ++ ws) (append-nil (give (get_or units k no_unit)))) in
    subst (Shared (given.a ++ more.a) (given.b ++ more.b)) words (shared_append s t)

-- ---- the outputs of runs
pub both_are : {a b c d : List ℕ} → a ≡ c → b ≡ d → ◌≡◌ {A = Both} (record { a = a; b = b }) (record { a = c; b = d })
both_are e f = ap₂ (λ (xs ys : List ℕ). record { a = xs; b = ys }) e f

outputs_append : (runs more : List Run) → outputs_of (runs ++ more) ≡ record { a = (outputs_of runs).a ++ (outputs_of more).a; b = (outputs_of runs).b ++ (outputs_of more).b }
outputs_append runs more = both_are (flat_map-append (λ (run : Run). run.a.outputs) runs more) (flat_map-append (λ (run : Run). run.b.outputs) runs more)

-- one run's, or none
outputs_one : (k : UnitKind) (run : Run) (words : List ℕ) → Shared run.a.outputs run.b.outputs words → Shared (outputs_of (cond (is_secure k) (run ∷ []) [])).a (outputs_of (cond (is_secure k) (run ∷ []) [])).b (gives_by k words)
outputs_one (Plain site) run words h = shared_nothing
outputs_one Secure run words h =
    subst (λ (xs : List ℕ). Shared xs (run.b.outputs ++ []) words) (sym (append-nil run.a.outputs)) (subst (λ (ys : List ℕ). Shared run.a.outputs ys words) (sym (append-nil run.b.outputs)) h)
outputs_one Root run words h = shared_nothing

one_more : (give : Run → List ℕ) (runs : List Run) (k : ℕ) (run : Run) (old new : List ℕ) → k < length runs → run ≡ get_or runs k run → old ≡ flat_map give (take k runs) → new ≡ old ++ give run → new ≡ flat_map give (take (k + 1) runs)
one_more give runs k run old new h at e n =
    n ∙ ap₂ (λ (xs ys : List ℕ). xs ++ ys) e (sym (append-nil (give run)) ∙ ap (λ (r : Run). flat_map give (r ∷ [])) at) ∙ sym (ap (flat_map give) (take_more runs k run h) ∙ flat_map-append give (take k runs) (get_or runs k run ∷ []))

-- what the runs put out with one run more
pub outputs_next : (runs : List Run) (k : ℕ) (run : Run) (a b new_a new_b : List ℕ) → k < length runs → run ≡ get_or runs k run → a ≡ flat_map (λ (r : Run). r.a.outputs) (take k runs) → b ≡ flat_map (λ (r : Run). r.b.outputs) (take k runs)
    → new_a ≡ a ++ run.a.outputs → new_b ≡ b ++ run.b.outputs → (new_a ≡ flat_map (λ (r : Run). r.a.outputs) (take (k + 1) runs)) × (new_b ≡ flat_map (λ (r : Run). r.b.outputs) (take (k + 1) runs))
outputs_next runs k run a b new_a new_b h at ea eb na nb = (one_more (λ (r : Run). r.a.outputs) runs k run a new_a h at ea na, one_more (λ (r : Run). r.b.outputs) runs k run b new_b h at eb nb)

-- ---- the engines of a prepared query
-- an engine's words of a secure unit
engine_own : (e : EngineModel) (schema : SchemaModel) (root : Node) → e.schema ≡ schema → e.root ≡ root → IsEngine e → (unit : UnitModel) → engine_words e (segment_number unit) (value_of unit) ≡ secure_words schema e.tables root unit
engine_own e schema root es er is unit =
    let segments : e.staged ≡ segments_of schema root [] = is.staged ∙ ap₂ (λ (s : SchemaModel) (r : Node). segments_of s r []) es er in
    ap (λ (ss : List SegmentModel). unit_words e.schema e.tables (value_of unit) (node_at (get_or ss (segment_number unit) no_segment).path e.root) (slice_column e.schema (node_at (get_or ss (segment_number unit) no_segment).path e.root))) segments
    ∙ ap₂ (λ (s : SchemaModel) (r : Node). unit_words s e.tables (value_of unit) (node_at (get_or (segments_of schema root []) (segment_number unit) no_segment).path r) (slice_column s (node_at (get_or (segments_of schema root []) (segment_number unit) no_segment).path r))) es er

-- what a unit gives to the root, in plain
unfoldable engines_give : EngineModel → EngineModel → UnitModel → List ℕ
engines_give a b unit = gives_by unit.kind (output_words (world (engines_own a b unit) nothing_given).inputs (net_or unit.circuit))

module _ (p : PreparedModel) (is : IsPrepared p) where
  abbrev schema : SchemaModel
  schema = p.a.schema

  abbrev root : Node
  root = p.a.root

  own_same : (unit : UnitModel) → engines_own p.a p.b unit ≡ secure_own schema p.a.tables p.b.tables root unit
  own_same unit = both_are (engine_own p.a schema root refl refl is.staged_a unit) (engine_own p.b schema root is.schema is.root is.staged_b unit)

  engines_same : (unit : UnitModel) → engines_give p.a p.b unit ≡ unit_gives schema p.a.tables p.b.tables root unit
  unfolding engines_give
  engines_same unit = ap (λ (own : Both). gives_by unit.kind (output_words (world own nothing_given).inputs (net_or unit.circuit))) (own_same unit)

  all_same : (units : List UnitModel) → flat_map (engines_give p.a p.b) units ≡ flat_map (unit_gives schema p.a.tables p.b.tables root) units
  all_same [] = refl
  all_same (u ∷ us) = ap₂ (λ (xs ys : List ℕ). xs ++ ys) (engines_same u) (all_same us)

  -- ---- secure units
  unit_fits : (u : ℕ) → u < length p.units → (unit_at p u).kind ≡ Secure → SecureFits schema p.a.tables p.b.tables root (unit_at p u)
  unit_fits u h k = units_fit schema p.a.tables p.b.tables root p.units is.units u h k

  pub placed_a : (u : ℕ) → u < length p.units → (unit_at p u).kind ≡ Secure → segment_number (unit_at p u) < length p.a.staged
  placed_a u h k = subst (λ n. segment_number (unit_at p u) < n) (ap length (sym is.staged_a.staged)) (unit_fits u h k).placed

  pub placed_b : (u : ℕ) → u < length p.units → (unit_at p u).kind ≡ Secure → segment_number (unit_at p u) < length p.b.staged
  placed_b u h k =
      subst (λ n. segment_number (unit_at p u) < n) (ap length (sym (is.staged_b.staged ∙ ap₂ (λ (s : SchemaModel) (r : Node). segments_of s r []) is.schema is.root))) (unit_fits u h k).placed

  pub secure_is_some : (u : ℕ) → u < length p.units → (unit_at p u).kind ≡ Secure → IsSome (unit_at p u).circuit
  secure_is_some u h k = subst IsSome (sym (unit_fits u h k).circuit) refl

  pub secure_takes : (u : ℕ) → u < length p.units → (unit_at p u).kind ≡ Secure → Takes (net_or (unit_at p u).circuit) (engines_own p.a p.b (unit_at p u)) nothing_given
  secure_takes u h k =
      let fits = unit_fits u h k in
      subst (λ (n : Net). Takes n (engines_own p.a p.b (unit_at p u)) nothing_given) (ap net_or (sym fits.circuit))
      (subst (λ (own : Both). Takes fits.net own nothing_given) (sym (own_same (unit_at p u))) (record { own_a = fits.takes.a; own_b = fits.takes.b; given_a = fits.takes.given; given_b = fits.takes.given }))

  -- ---- the root
  pub tells : UnitsTell schema p.a.tables p.b.tables root p.units
  tells = compiled_tell schema p.a.tables p.b.tables root is.sound is.numbers p.units is.units is.stand

  pub some_units : 0 < length p.units
  some_units = tells.some

  pub root_is_some : IsSome (root_of p).circuit
  root_is_some = subst IsSome (sym (ap (λ (u : UnitModel). u.circuit) tells.last)) refl

  root_is : net_or (root_of p).circuit ≡ root_net schema p.a.tables p.b.tables root
  root_is = ap (λ (u : UnitModel). net_or u.circuit) tells.last

  root_long : (root_of p).len ≡ root_len schema p.a.tables p.b.tables root
  root_long = ap (λ (u : UnitModel). u.len) tells.last

  module _ (tape : Tape) (ticket : ℕ) where
    -- the runs of those of the first units that are secure
    abbrev runs_upto : ℕ → List Run
    runs_upto k = map (secure_run p tape ticket) (numbers_upto is_secure p.units k)

    one_shared : (u : ℕ) → Shared (outputs_of (cond (is_secure (unit_at p u).kind) (secure_run p tape ticket u ∷ []) [])).a (outputs_of (cond (is_secure (unit_at p u).kind) (secure_run p tape ticket u ∷ []) [])).b (engines_give p.a p.b (unit_at p u))
    unfolding engines_give secure_run
    one_shared u =
        outputs_one (unit_at p u).kind (secure_run p tape ticket u) _
        (dealt_shared (net_or (unit_at p u).circuit) tape (record { ticket = ticket; unit = u }) (engines_own p.a p.b (unit_at p u)) nothing_given)

    runs_shared : (k : ℕ) → k ≤ length p.units → Shared (outputs_of (runs_upto k)).a (outputs_of (runs_upto k)).b (flat_map (engines_give p.a p.b) (take k p.units))
    runs_shared zero h = shared_nothing
    runs_shared (suc k) h =
        let next : k + 1 ≡ suc k = omega arith in
        let one : List Run = cond (is_secure (unit_at p k).kind) (secure_run p tape ticket k ∷ []) [] in
        let outputs : outputs_of (runs_upto (k + 1)) ≡ record { a = (outputs_of (runs_upto k)).a ++ (outputs_of one).a; b = (outputs_of (runs_upto k)).b ++ (outputs_of one).b }
        = ap outputs_of (mapped_more (secure_run p tape ticket) is_secure p.units k) ∙ outputs_append (runs_upto k) one in
        let shared = shares_more (engines_give p.a p.b) p.units k (outputs_of (runs_upto k)) (outputs_of one) (omega arith) (runs_shared k (omega arith)) (one_shared k) in
        subst (λ n. Shared (outputs_of (runs_upto n)).a (outputs_of (runs_upto n)).b (flat_map (engines_give p.a p.b) (take n p.units))) next
        (subst (λ (s : Both). Shared s.a s.b (flat_map (engines_give p.a p.b) (take (k + 1) p.units))) (sym outputs) shared)

    -- what the secure units' halves put out comes to the words that the root takes
    given_shared : Shared (outputs_of (secure_runs p tape ticket)).a (outputs_of (secure_runs p tape ticket)).b (root_inputs schema p.a.tables p.b.tables root).given
    given_shared =
        let shared = runs_shared (length p.units) (omega arith) in
        record { same = shared.same; opens = shared.opens ∙ ap (flat_map (engines_give p.a p.b)) (take_all (length p.units) p.units (omega arith)) ∙ all_same p.units ∙ tells.give }

    pub root_fits : Takes (net_or (root_of p).circuit) p.own (outputs_of (secure_runs p tape ticket))
    root_fits =
        let given : Both = outputs_of (secure_runs p tape ticket) in
        let counts : HasCounts (root_net schema p.a.tables p.b.tables root) (root_inputs schema p.a.tables p.b.tables root)
        = root_takes schema p.a.tables p.b.tables is.tables_a is.tables_b root is.sound is.numbers tells.fit in
        let shared = given_shared in
        let long : length given.a ≡ given_count (root_net schema p.a.tables p.b.tables root).gates = sym (length-xor_lists given.a given.b shared.same) ∙ ap length shared.opens ∙ counts.given in
        subst (λ (n : Net). Takes n p.own given) (sym root_is)
        (subst (λ (own : Both). Takes (root_net schema p.a.tables p.b.tables root) own given) (sym is.own) (record { own_a = counts.a; own_b = counts.b; given_a = long; given_b = shared.same ∙ long }))

    -- what the root opens
    pub root_opens : Opens p (root_run p tape ticket)
    unfolding root_run
    root_opens =
        let given : Both = outputs_of (secure_runs p tape ticket) in
        let shared = dealt_shared (net_or (root_of p).circuit) tape (record { ticket = ticket; unit = root_number p }) p.own given in
        let words : List ℕ = opened_words (root_run p tape ticket) in
        let opened : words ≡ output_words (root_inputs schema p.a.tables p.b.tables root) (root_net schema p.a.tables p.b.tables root)
        = shared.opens ∙ ap₂ (λ (n : Net) (own : Both). output_words (world own given).inputs n) root_is is.own ∙ opens_plain schema p.a.tables p.b.tables root given given_shared in
        let answers : Answers schema p.a.tables p.b.tables root words
        = answers_from schema p.a.tables p.b.tables is.tables_a is.tables_b root is.sound is.numbers is.top tells.fit tells.few tells.order words opened in
        let len : ℕ = (root_of p).len in
        record {
          same = shared.same;
          count = answers.reads.count ∙ sym (ap₂ list_words is.columns root_long);
          are = subst (λ (ks : List Kind). RowsAreOf ks (valid_rows words (list_from 0 ks len))) (sym is.columns)
              (subst (λ n. RowsAreOf (kinds schema root) (valid_rows words (list_from 0 (kinds schema root) n))) (sym root_long) answers.reads.are);
          rows = ap₂ (λ (ks : List Kind) (order : List Key). listed order (valid_rows words (list_from 0 ks len))) is.columns is.order
              ∙ ap (λ n. listed (top_order root) (valid_rows words (list_from 0 (kinds schema root) n))) root_long
              ∙ answers.rows;
        }

-- ---- a run in code
takes_as : {net net' : Net} {own own' given given' : Both} → Takes net own given → net' ≡ net → own' ≡ own → given' ≡ given → Takes net' own' given'
takes_as {net} {net'} {own} {own'} {given} {given'} t n o g =
    subst (λ (m : Net). Takes m own' given') (sym n) (subst (λ (s : Both). Takes net s given') (sym o) (subst (λ (s : Both). Takes net own s) (sym g) t))

run_as : (tape : Tape) (at : Dealt) {net net' : Net} {own own' given given' : Both} → net' ≡ net → own' ≡ own → given' ≡ given → run_on net' (section_at tape at net') own' given' ≡ run_on net (section_at tape at net) own given
run_as tape at {net} {net'} {own} {own'} {given} {given'} n o g =
    ap (λ (m : Net). run_on m (section_at tape at m) own' given') n ∙ ap₂ (λ (s t : Both). run_on net (section_at tape at net) s t) o g

-- a secure unit
pub secure_run_takes : (p : PreparedModel) → IsPrepared p → (u : ℕ) (net : Net) (own given : Both) → u < length p.units → (unit_at p u).kind ≡ Secure → net ≡ net_or (unit_at p u).circuit
    → own ≡ engines_own p.a p.b (unit_at p u) → given ≡ nothing_given → Takes net own given
secure_run_takes p is u net own given h k n o g = takes_as (secure_takes p is u h k) n o g

pub secure_run_made : (p : PreparedModel) (u : ℕ) (words : List ℕ) (net : Net) (own given : Both) (run : Run) → net ≡ net_or (unit_at p u).circuit → own ≡ engines_own p.a p.b (unit_at p u)
    → given ≡ nothing_given → run ≡ run_on net (layout_of net words) own given → run ≡ secure_run_on p u words
secure_run_made p u words net own given run n o g r =
    let at : Net = net_or (unit_at p u).circuit in
    r ∙ ap (λ (m : Net). run_on m (layout_of m words) own given) n ∙ ap₂ (λ (s t : Both). run_on at (layout_of at words) s t) o g

-- the run on the section that is dealt for the unit
pub secure_run_is : (p : PreparedModel) (tape : Tape) (at : Dealt) (words : List ℕ) (len : ℕ) (run : Run) → words ≡ first_words (tape at.ticket at.unit) len
    → len ≡ section_length (net_or (unit_at p at.unit).circuit) → run ≡ secure_run_on p at.unit words → run ≡ secure_run p tape at.ticket at.unit
unfolding secure_run
secure_run_is p tape at words len run w l r =
    run_where_dealt (net_or (unit_at p at.unit).circuit) tape at words len (engines_own p.a p.b (unit_at p at.unit)) nothing_given run w l r

-- a unit that tells so is a secure one
pub secure_kind : (k : UnitKind) → is_secure k ≡ true → k ≡ Secure
secure_kind (Plain site) e = absurd (true≢false (sym e))
secure_kind Secure e = refl
secure_kind Root e = absurd (true≢false (sym e))

-- ---- jobs, each of which gives the run that it is seen as
each_given : {X : Type 0} (jobs outs : List X) → length outs ≡ length jobs → EachGives (λ (job out : X). out ≡ job) jobs outs → outs ≡ jobs
each_given [] [] l e = refl
each_given [] (o ∷ os) l e = absurd (omega (arith, l))
each_given (j ∷ js) [] l e = absurd (omega (arith, l))
each_given (j ∷ js) (o ∷ os) l e = ap₂ (λ x xs. x ∷ xs) (e 0 j o (omega arith)) (each_given js os (omega (arith, l)) (λ i job out h. e (suc i) job out (omega (arith, h))))

pub runs_given : {E : Type 0} (jobs runs : List Run) (r : Result (Vec Run Global) E) → IfOk r (λ outs. length outs.items ≡ length jobs)
    → IfOk r (λ outs. EachGives (λ (job run : Run). run ≡ job) jobs outs.items) → jobs ≡ runs → IfOk r (λ outs. outs.items ≡ runs)
runs_given jobs runs (Ok outs) count each are = each_given jobs outs.items count each ∙ are
runs_given jobs runs (Err e) count each are = count

-- the root
last_is : (p : PreparedModel) → IsPrepared p → (count : ℕ) → count ≡ length p.units → count - 1 ≡ root_number p
last_is p is count e = ap (λ n. n - 1) e

pub root_in_range : (p : PreparedModel) → IsPrepared p → (count : ℕ) → count ≡ length p.units → count - 1 < length p.units
root_in_range p is count e = omega (arith, e, some_units p is)

pub root_has_circuit : (p : PreparedModel) → IsPrepared p → (count : ℕ) (unit : UnitModel) → count ≡ length p.units → unit ≡ unit_at p (count - 1) → IsSome unit.circuit
root_has_circuit p is count unit e u = subst (λ (m : UnitModel). IsSome m.circuit) (sym (u ∙ ap (unit_at p) (last_is p is count e))) (root_is_some p is)

pub root_run_takes : (p : PreparedModel) → IsPrepared p → (tape : Tape) (ticket count : ℕ) (unit : UnitModel) (net : Net) (own given : Both) → count ≡ length p.units → unit ≡ unit_at p (count - 1) → net ≡ net_or unit.circuit
    → own ≡ p.own → given ≡ outputs_of (secure_runs p tape ticket) → Takes net own given
root_run_takes p is tape ticket count unit net own given e u n o g =
    takes_as (root_fits p is tape ticket) (n ∙ ap (λ (m : UnitModel). net_or m.circuit) (u ∙ ap (unit_at p) (last_is p is count e))) o g

pub root_run_is : (p : PreparedModel) → IsPrepared p → (tape : Tape) (ticket count : ℕ) (unit : UnitModel) (net : Net) (own given : Both) (run : Run) → count ≡ length p.units → unit ≡ unit_at p (count - 1)
    → net ≡ net_or unit.circuit → own ≡ p.own → given ≡ outputs_of (secure_runs p tape ticket) → run ≡ run_on net (section_at tape (record { ticket = ticket; unit = count - 1 }) net) own given → run ≡ root_run p tape ticket
unfolding root_run
root_run_is p is tape ticket count unit net own given run e u n o g r =
    let last : count - 1 ≡ root_number p = last_is p is count e in
    r ∙ ap (λ v. run_on net (section_at tape (record { ticket = ticket; unit = v }) net) own given) last
    ∙ run_as tape (record { ticket = ticket; unit = root_number p }) (n ∙ ap (λ (m : UnitModel). net_or m.circuit) (u ∙ ap (unit_at p) last)) o g

pub root_run_opens : (p : PreparedModel) → IsPrepared p → (tape : Tape) (ticket : ℕ) (run : Run) → run ≡ root_run p tape ticket → Opens p run
root_run_opens p is tape ticket run e = subst (Opens p) (sym e) (root_opens p is tape ticket)

pub opens_of : (p : PreparedModel) → IsPrepared p → (ticket : ℕ) (run : Run) → IsRootRun p ticket run → Opens p run
opens_of p is ticket run h = root_run_opens p is h.0 ticket run h.1

-- ---- what the root opens, in code
module _ (p : PreparedModel) (run : Run) (opens : Opens p run) (a b : List ℕ) (at_a : a ≡ run.a.outputs) (at_b : b ≡ run.b.outputs) where
  words_are : xor_lists a b ≡ opened_words run
  words_are = ap₂ (λ (xs ys : List ℕ). xor_lists xs ys) at_a at_b

  pub opened_same : length b ≡ length a
  opened_same = ap length at_b ∙ opens.same ∙ sym (ap length at_a)

  module _ (ks : List Kind) (len : ℕ) (is_ks : ks ≡ p.columns) (is_len : len ≡ (root_of p).len) where
    pub opened_count : length (xor_lists a b) ≡ list_words ks len
    opened_count = ap length words_are ∙ opens.count ∙ sym (ap₂ list_words is_ks is_len)

    list_is : valid_rows (xor_lists a b) (list_from 0 ks len) ≡ opened_list p run
    list_is = ap₂ (λ (ws : List ℕ) (columns : List Kind). valid_rows ws (list_from 0 columns len)) words_are is_ks ∙ ap (λ n. valid_rows (opened_words run) (list_from 0 p.columns n)) is_len

    pub opened_kinds : RowsAreOf ks (valid_rows (xor_lists a b) (list_from 0 ks len))
    opened_kinds = subst (λ (rows : Rows). RowsAreOf ks rows) (sym list_is) (subst (λ (columns : List Kind). RowsAreOf columns (opened_list p run)) (sym is_ks) opens.are)

    pub opened_are : (order : List Key) → order ≡ p.order → listed order (valid_rows (xor_lists a b) (list_from 0 ks len)) ≡ listed p.order (opened_list p run)
    opened_are order e = ap₂ (λ (keys : List Key) (rows : Rows). listed keys rows) e list_is

pub answers_mean : AnswersMean
answers_mean p is tape ticket = root_opens p is tape ticket
