-- Which units are dealt, and where the run of each stands.
use Rattle.std.proofs.Common.{◌≡◌, ℕ, zero, suc, ◌+◌, ◌-◌, ◌<◌, ◌≤◌, Bool, true, false, cond, List, [], ◌∷◌, ◌++◌, length, get_or, map, filter, true≢false, refl, sym, ap, ap₂, ◌∙◌, subst, arith, length-append, append_assoc, append-nil, ⊎_elim}
use Rattle.std.specs.Prelude.{IsSome}
use Rattle.std.specs.List.{All, flat_map, range_with_len}
use Rattle.std.proofs.lemmas.List.{get_or_at, get_or_append_left, map-append, length-map}
use Rattle.std.proofs.lemmas.Bool.{cases_lt}
use Rattle.std.proofs.lemmas.List.Elements.{All-nil, All-cons, All-append, All-get_or, filter-append}
use Rattle.pdn_base.specs.declared.site.Site.{Site}
use Rattle.pdn_base.specs.declared.site.Site.TheVariants.{A, B}
use Rattle.pdn_base.specs.declared.value.Value.{Value}
use Rattle.pdn_base.specs.Operators.{Rows}
use Rattle.pdn_schema.specs.Models.{SchemaModel}
use Rattle.pdn_tree.specs.declared.node.Node.{Node}
use Rattle.pdn_gmw.specs.Pairs.{Run}
use Rattle.pdn_level.specs.Models.{SegmentModel}
use Rattle.pdn_level.specs.Levels.{segments_of}
use Rattle.pdn_level.specs.Cutting.{slice_column}
use Rattle.pdn_obl_rows.proofs.EncodingSteps.{range_more}
use Rattle.pdn_site.specs.declared.unit.UnitKind.{UnitKind}
use Rattle.pdn_site.specs.declared.unit.UnitKind.TheVariants.{Plain, Secure, Root}
use Rattle.pdn_site.specs.Directories.{unit_values, stands_in, kind_of}
use Rattle.pdn_site.specs.Models.{Dirs, UnitModel}
use Rattle.pdn_site.specs.Compiling.{Shape, shape_by, segment_shapes, shapes_from, root_shape, parts_of, node_at}
use Rattle.pdn_site.specs.NetMeaning.{site_dirs}
use Rattle.pdn_site.specs.Engines.{no_unit}
use Rattle.pdn_broker.specs.Runs.{Tape}
use Rattle.pdn_broker.specs.Units.{AreUnits, is_secure, is_dealt, numbers_upto}
use Rattle.pdn_broker.specs.Prepared.{PreparedModel, IsPrepared}
use Rattle.pdn_broker.specs.Running.{unit_at, root_number, secure_run, secure_runs, root_run, runs_of}
use Rattle.pdn_broker.specs.Views.{run_place}
use Rattle.pdn_broker.proofs.UnitLaws.{made, all_made, flat}
use Rattle.pdn_broker.proofs.PreparedLaws.{mapped_more, secure_is_some, secure_kind, tells, root_is_some}

-- ---- the root is the last unit alone
abbrev IsBefore : UnitModel → Type 0
IsBefore unit = unit.kind ≡ Root → ⊥

secure_is_not_root : ◌≡◌ {A = UnitKind} Secure Root → ⊥
secure_is_not_root e = cc

plain_is_not_root : (site : Site) → ◌≡◌ {A = UnitKind} (Plain site) Root → ⊥
plain_is_not_root site e = cc

not_root_by : (here there : Bool) → ◌≡◌ {A = UnitKind} (cond here (cond there Secure (Plain A)) (Plain B)) Root → ⊥
not_root_by true true e = secure_is_not_root e
not_root_by true false e = plain_is_not_root A e
not_root_by false there e = plain_is_not_root B e

shape_before : (schema : SchemaModel) (top : Node) (i : ℕ) (v : Value) (k : UnitKind) → (k ≡ Root → ⊥) → IsBefore (made (shape_by schema top (slice_column schema top) i v k))
shape_before schema top i v (Plain site) h e = h e
shape_before schema top i v Secure h e = h e
shape_before schema top i v Root h e = h refl

values_before : (schema : SchemaModel) (top : Node) (i : ℕ) (kind : Value → UnitKind) → ((v : Value) → kind v ≡ Root → ⊥) → (vs : List Value) → All IsBefore (map made (map (λ v. shape_by schema top (slice_column schema top) i v (kind v)) vs))
values_before schema top i kind h [] = All-nil IsBefore
values_before schema top i kind h (v ∷ vs) =
    All-cons IsBefore (made (shape_by schema top (slice_column schema top) i v (kind v))) (map made (map (λ w. shape_by schema top (slice_column schema top) i w (kind w)) vs)) (shape_before schema top i v (kind v) (h v)) (values_before schema top i kind h vs)

all_before : (schema : SchemaModel) (root : Node) (i : ℕ) (ss : List SegmentModel) (ds : List Dirs) → All IsBefore (map made (flat (shapes_from schema root i ss ds)))
all_before schema root i [] ds = All-nil IsBefore
all_before schema root i (s ∷ ss) [] = All-nil IsBefore
all_before schema root i (s ∷ ss) (d ∷ ds) =
    let here : List Shape = segment_shapes schema (node_at s.path root) i d in
    let rest : List Shape = flat (shapes_from schema root (i + 1) ss ds) in
    subst (All IsBefore) (sym (map-append made here rest))
    (All-append IsBefore (map made here) (map made rest) (values_before schema (node_at s.path root) i (kind_of d) (λ v. not_root_by (stands_in d.a v) (stands_in d.b v)) (unit_values d)) (all_before schema root (i + 1) ss ds))

pub before_root : (schema : SchemaModel) (a b : List Rows) (root : Node) (units : List UnitModel) → AreUnits schema a b root units → (k : ℕ) → k + 1 < length units → (get_or units k no_unit).kind ≡ Root → ⊥
before_root schema a b root units are k l =
    let ss : List SegmentModel = segments_of schema root [] in
    let below : List (List Shape) = shapes_from schema root 0 ss (site_dirs a b ss) in
    let last : Shape = root_shape schema (map parts_of below) root in
    let all = all_made 0 4194304 16777216 (flat below ++ last ∷ []) units are in
    let split : units ≡ map made (flat below) ++ made last ∷ [] = all.are ∙ map-append made (flat below) (last ∷ []) in
    let within : k < length (map made (flat below)) = omega (arith, l, ap (λ (us : List UnitModel). length us) split, length-append (map made (flat below)) (made last ∷ [])) in
    subst IsBefore (sym (ap (λ (us : List UnitModel). get_or us k no_unit) split ∙ get_or_append_left (map made (flat below)) (made last ∷ []) no_unit k within))
    (All-get_or IsBefore (map made (flat below)) k no_unit within (all_before schema root 0 ss (site_dirs a b ss)))

-- ---- numbers of units
pub numbers_more : (test : UnitKind → Bool) (units : List UnitModel) (k : ℕ) → numbers_upto test units (k + 1) ≡ numbers_upto test units k ++ cond (test (get_or units k no_unit).kind) (k ∷ []) []
numbers_more test units k =
    let passes : ℕ → Bool = λ n. test (get_or units n no_unit).kind in
    let first : 0 + k ≡ k = omega arith in
    ap (λ (ns : List ℕ). filter passes ns) (range_more 0 k ∙ ap (λ n. range_with_len 0 k ++ n ∷ []) first) ∙ filter-append passes (range_with_len 0 k) (k ∷ [])

dealt_as_secure : (k : UnitKind) → (k ≡ Root → ⊥) → is_dealt k ≡ is_secure k
dealt_as_secure (Plain site) h = refl
dealt_as_secure Secure h = refl
dealt_as_secure Root h = absurd (h refl)

-- where none is the root, those that are dealt are the secure ones
same_numbers : (units : List UnitModel) (n : ℕ) → ((k : ℕ) → k < n → (get_or units k no_unit).kind ≡ Root → ⊥) → numbers_upto is_dealt units n ≡ numbers_upto is_secure units n
same_numbers units zero h = refl
same_numbers units (suc n) h =
    let next : n + 1 ≡ suc n = omega arith in
    subst (λ m. numbers_upto is_dealt units m ≡ numbers_upto is_secure units m) next
    (numbers_more is_dealt units n
    ∙ ap₂ (λ (ns : List ℕ) (b : Bool). ns ++ cond b (n ∷ []) []) (same_numbers units n (λ k l. h k (omega (arith, l)))) (dealt_as_secure (get_or units n no_unit).kind (h n (omega arith)))
    ∙ sym (numbers_more is_secure units n))

record Stands (test : UnitKind → Bool) (units : List UnitModel) (k n : ℕ) : Type 0 where
  rest : List ℕ
  are : numbers_upto test units n ≡ numbers_upto test units k ++ k ∷ rest

stands_by : (test : UnitKind → Bool) (units : List UnitModel) (k : ℕ) → test (get_or units k no_unit).kind ≡ true → (d : ℕ) → Stands test units k (k + 1 + d)
stands_by test units k e zero =
    let next : k + 1 ≡ k + 1 + zero = omega arith in
    record { rest = []; are = subst (λ n. numbers_upto test units n ≡ numbers_upto test units k ++ k ∷ []) next (numbers_more test units k ∙ ap (λ b. numbers_upto test units k ++ cond b (k ∷ []) []) e) }
stands_by test units k e (suc d) =
    let before = stands_by test units k e d in
    let next : k + 1 + d + 1 ≡ k + 1 + suc d = omega arith in
    let more : List ℕ = cond (test (get_or units (k + 1 + d) no_unit).kind) ((k + 1 + d) ∷ []) [] in
    record {
      rest = before.rest ++ more;
      are = subst (λ n. numbers_upto test units n ≡ numbers_upto test units k ++ k ∷ (before.rest ++ more)) next
          (numbers_more test units (k + 1 + d) ∙ ap (λ (ns : List ℕ). ns ++ more) before.are ∙ append_assoc (numbers_upto test units k) (k ∷ before.rest) more);
    }

stands : (test : UnitKind → Bool) (units : List UnitModel) (k n : ℕ) → test (get_or units k no_unit).kind ≡ true → k < n → Stands test units k n
stands test units k n e l =
    let left : k + 1 + (n - (k + 1)) ≡ n = omega (arith, l) in
    subst (Stands test units k) left (stands_by test units k e (n - (k + 1)))

-- the place of a unit that is dealt is one of the runs'
pub place_within : (units : List UnitModel) (k n : ℕ) → is_dealt (get_or units k no_unit).kind ≡ true → k < n → run_place units k < run_place units n
place_within units k n e l =
    let s = stands is_dealt units k n e l in
    omega (arith, ap (λ (ns : List ℕ). length ns) s.are, length-append (numbers_upto is_dealt units k) (k ∷ s.rest))

mapped_at : {X : Type 0} (f : ℕ → X) (units : List UnitModel) (k n : ℕ) (other : X) → is_dealt (get_or units k no_unit).kind ≡ true → k < n → get_or (map f (numbers_upto is_dealt units n)) (run_place units k) other ≡ f k
mapped_at f units k n other e l =
    let s = stands is_dealt units k n e l in
    ap (λ (ns : List ℕ). get_or (map f ns) (run_place units k) other) s.are
    ∙ ap (λ xs. get_or xs (run_place units k) other) (map-append f (numbers_upto is_dealt units k) (k ∷ s.rest))
    ∙ get_or_at (map f (numbers_upto is_dealt units k)) (f k) (map f s.rest) other (run_place units k) (length-map (numbers_upto is_dealt units k) f)

one_or_none : (b : Bool) (k : ℕ) → length (cond b (k ∷ []) []) ≡ cond b 1 0
one_or_none true k = refl
one_or_none false k = refl

-- one unit more
pub place_next : (units : List UnitModel) (k : ℕ) → run_place units (k + 1) ≡ run_place units k + cond (is_dealt (get_or units k no_unit).kind) 1 0
place_next units k =
    ap (λ (ns : List ℕ). length ns) (numbers_more is_dealt units k) ∙ length-append (numbers_upto is_dealt units k) (cond (is_dealt (get_or units k no_unit).kind) (k ∷ []) [])
    ∙ ap (λ n. run_place units k + n) (one_or_none (is_dealt (get_or units k no_unit).kind) k)

not_below : (m n : ℕ) → m ≤ n → (m < n → ⊥) → m ≡ n
not_below m n le h = ⊎_elim (λ l. absurd (h l)) (λ g. omega (arith, g, le)) (cases_lt m n)

-- ---- the runs of a query, by unit
-- the run of a unit that is dealt
abbrev pub run_by : PreparedModel → Tape → ℕ → ℕ → UnitKind → Run
run_by p tape ticket u (Plain site) = root_run p tape ticket
run_by p tape ticket u Secure = secure_run p tape ticket u
run_by p tape ticket u Root = root_run p tape ticket

abbrev pub unit_run : PreparedModel → Tape → ℕ → ℕ → Run
unit_run p tape ticket u = run_by p tape ticket u (unit_at p u).kind

one_secure : (p : PreparedModel) (tape : Tape) (ticket u : ℕ) (k : UnitKind) → cond (is_secure k) (run_by p tape ticket u k ∷ []) [] ≡ cond (is_secure k) (secure_run p tape ticket u ∷ []) []
one_secure p tape ticket u (Plain site) = refl
one_secure p tape ticket u Secure = refl
one_secure p tape ticket u Root = refl

secure_same : (p : PreparedModel) (tape : Tape) (ticket n : ℕ) → map (unit_run p tape ticket) (numbers_upto is_secure p.units n) ≡ map (secure_run p tape ticket) (numbers_upto is_secure p.units n)
secure_same p tape ticket zero = refl
secure_same p tape ticket (suc n) =
    let next : n + 1 ≡ suc n = omega arith in
    subst (λ m. map (unit_run p tape ticket) (numbers_upto is_secure p.units m) ≡ map (secure_run p tape ticket) (numbers_upto is_secure p.units m)) next
    (mapped_more (unit_run p tape ticket) is_secure p.units n
    ∙ ap₂ (λ (xs ys : List Run). xs ++ ys) (secure_same p tape ticket n) (one_secure p tape ticket n (unit_at p n).kind)
    ∙ sym (mapped_more (secure_run p tape ticket) is_secure p.units n))

module _ (p : PreparedModel) (is : IsPrepared p) where
  last_number : root_number p + 1 ≡ length p.units
  last_number = omega (arith, (tells p is).some)

  last_kind : (unit_at p (root_number p)).kind ≡ Root
  last_kind = ap (λ (u : UnitModel). u.kind) (tells p is).last

  others_before : (k : ℕ) → k < root_number p → (unit_at p k).kind ≡ Root → ⊥
  others_before k l = before_root p.a.schema p.a.tables p.b.tables p.a.root p.units is.units k (omega (arith, l, last_number))

  -- the runs are those of the units that are dealt, in order
  pub runs_are : (tape : Tape) (ticket : ℕ) → runs_of p tape ticket ≡ map (unit_run p tape ticket) (numbers_upto is_dealt p.units (length p.units))
  runs_are tape ticket =
      let n : ℕ = root_number p in
      let root : Run = root_run p tape ticket in
      let before : List Run = map (secure_run p tape ticket) (numbers_upto is_secure p.units n) in
      let secure : secure_runs p tape ticket ≡ before
      = ap (λ m. map (secure_run p tape ticket) (numbers_upto is_secure p.units m)) (sym last_number) ∙ mapped_more (secure_run p tape ticket) is_secure p.units n
      ∙ ap (λ (k : UnitKind). before ++ cond (is_secure k) (secure_run p tape ticket n ∷ []) []) last_kind ∙ append-nil before in
      let dealt : map (unit_run p tape ticket) (numbers_upto is_dealt p.units (length p.units)) ≡ before ++ root ∷ []
      = ap (λ m. map (unit_run p tape ticket) (numbers_upto is_dealt p.units m)) (sym last_number) ∙ mapped_more (unit_run p tape ticket) is_dealt p.units n
      ∙ ap₂ (λ (xs : List Run) (k : UnitKind). xs ++ cond (is_dealt k) (run_by p tape ticket n k ∷ []) [])
      (ap (map (unit_run p tape ticket)) (same_numbers p.units n others_before) ∙ secure_same p tape ticket n) last_kind in
      ap (λ (xs : List Run). xs ++ root ∷ []) secure ∙ sym dealt

  pub runs_count : (tape : Tape) (ticket : ℕ) → length (runs_of p tape ticket) ≡ run_place p.units (length p.units)
  runs_count tape ticket = ap (λ (xs : List Run). length xs) (runs_are tape ticket) ∙ length-map (numbers_upto is_dealt p.units (length p.units)) (unit_run p tape ticket)

  -- the run of a unit stands at its place
  pub run_there : (tape : Tape) (ticket k : ℕ) (other : Run) → k < length p.units → is_dealt (unit_at p k).kind ≡ true → get_or (runs_of p tape ticket) (run_place p.units k) other ≡ unit_run p tape ticket k
  run_there tape ticket k other l e = ap (λ (xs : List Run). get_or xs (run_place p.units k) other) (runs_are tape ticket) ∙ mapped_at (unit_run p tape ticket) p.units k (length p.units) other e l

  at_last : (u : ℕ) → u < length p.units → (u < root_number p → ⊥) → u ≡ root_number p
  at_last u l h = not_below u (root_number p) (omega (arith, l, last_number)) h

  dealt_some_by : (u : ℕ) → u < length p.units → (k : UnitKind) → (unit_at p u).kind ≡ k → is_dealt k ≡ true → IsSome (unit_at p u).circuit
  dealt_some_by u l (Plain site) e d = absurd (true≢false (sym d))
  dealt_some_by u l Secure e d = secure_is_some p is u l e
  dealt_some_by u l Root e d =
      let last : u ≡ root_number p = at_last u l (λ m. others_before u m e) in
      subst (λ n. IsSome (unit_at p n).circuit) (sym last) (root_is_some p is)

  -- a unit that is dealt has a circuit
  pub dealt_is_some : (u : ℕ) → u < length p.units → is_dealt (unit_at p u).kind ≡ true → IsSome (unit_at p u).circuit
  dealt_is_some u l d = dealt_some_by u l (unit_at p u).kind refl d

pub secure_is_dealt : (k : UnitKind) → is_secure k ≡ true → is_dealt k ≡ true
secure_is_dealt (Plain site) e = e
secure_is_dealt Secure e = e
secure_is_dealt Root e = refl
