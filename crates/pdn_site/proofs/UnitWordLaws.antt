-- What a site puts in for the units of a segment, unit by unit.
use Rattle.std.proofs.Common.{◌≡◌, ℕ, zero, suc, ◌+◌, ◌<◌, ◌&&◌, Bool, true, false, cond, List, [], ◌∷◌, ◌++◌, map, get_or, take, length, refl, sym, ap, ap₂, ◌∙◌, subst, arith, append_assoc, append-nil, None}
use Rattle.std.specs.List.{flat_map, range_with_len}
use Rattle.std.proofs.lemmas.List.{take_more}
use Rattle.std.proofs.lemmas.List.Concat.{flat_map-append}
use Rattle.pdn_base.specs.declared.marks.Kind.{Kind}
use Rattle.pdn_base.specs.declared.site.Site.{Site}
use Rattle.pdn_base.specs.declared.value.Value.{Value}
use Rattle.pdn_base.specs.Operators.{Rows, SameRows}
use Rattle.pdn_schema.specs.Models.{SchemaModel}
use Rattle.pdn_tree.specs.declared.node.Node.{Node}
use Rattle.pdn_tree.specs.Meaning.{mean}
use Rattle.pdn_tree.specs.Meaning.{table_of as rows_of}
use Rattle.pdn_tree.specs.Shapes.{kinds}
use Rattle.pdn_level.specs.declared.staged.Leaf.{Leaf}
use Rattle.pdn_level.specs.Levels.{leaves_of}
use Rattle.pdn_level.specs.Cutting.{slice_column}
use Rattle.pdn_site.specs.Models.{UnitModel}
use Rattle.pdn_site.specs.declared.unit.UnitKind.{UnitKind}
use Rattle.pdn_site.specs.Engines.{EngineModel, value_of}
use Rattle.pdn_site.specs.Narrowing.{narrowed}
use Rattle.pdn_site.specs.SiteRows.{entered, plain_rows, is_of, slice_words, Slice}
use Rattle.pdn_site.specs.RootWords.{is_segment, slice_in, slices_at, slices_in, words_in, inputs_by, unit_inputs}
use Rattle.pdn_site.proofs.EnteringLaws.{entered_bag}
use Rattle.pdn_site.proofs.Narrows.{narrowed_means}

-- a plain unit's rows, in whatever order they come
pub plain_by : (schema : SchemaModel) (tables : List Rows) (v : Value) (top tree : Node) (leaves : List Leaf) (rows : Rows) (columns : List Kind) (len : ℕ) → leaves ≡ leaves_of schema top (slice_column schema top) → tree ≡ narrowed v top leaves
    → SameRows rows (mean (rows_of tables) tree) → columns ≡ kinds schema top → entered rows columns len ≡ entered (plain_rows schema tables v top) (kinds schema top) len
plain_by schema tables v top tree leaves rows columns len at is same e =
    ap (λ (ks : List Kind). entered rows ks len) e
    ∙ entered_bag rows (mean (rows_of tables) tree) (kinds schema top) len same
    ∙ ap (λ (rs : Rows). entered rs (kinds schema top) len) (ap (mean (rows_of tables)) is ∙ narrowed_means schema (rows_of tables) v top (slice_column schema top) leaves [] (at ∙ sym (append-nil _)))

abbrev of_unit : Site → SchemaModel → List Rows → Node → UnitModel → List ℕ
of_unit site schema tables top unit = entered (plain_rows schema tables (value_of unit) top) (kinds schema top) unit.len

-- a unit of the segment that is plain and of the site, and any other
pub words_mine : (site : Site) (schema : SchemaModel) (tables : List Rows) (top : Node) (i : ℕ) (unit : UnitModel) → is_segment i unit.segment ≡ true → is_of site unit.kind ≡ true → of_unit site schema tables top unit ≡ words_in site schema tables top i unit
words_mine site schema tables top i unit at of = sym (
    ap (λ b. flat_map (slice_words site schema tables top) (cond b (record { kind = unit.kind; value = value_of unit; len = unit.len } ∷ []) [])) at
    ∙ append-nil _ ∙ ap (λ b. cond b (of_unit site schema tables top unit) []) of)

pub words_elsewhere : (site : Site) (schema : SchemaModel) (tables : List Rows) (top : Node) (i : ℕ) (unit : UnitModel) → is_segment i unit.segment ≡ false → [] ≡ words_in site schema tables top i unit
words_elsewhere site schema tables top i unit at = sym (ap (λ b. flat_map (slice_words site schema tables top) (cond b (record { kind = unit.kind; value = value_of unit; len = unit.len } ∷ []) [])) at)

pub words_others : (site : Site) (schema : SchemaModel) (tables : List Rows) (top : Node) (i : ℕ) (unit : UnitModel) → is_segment i unit.segment ≡ true → is_of site unit.kind ≡ false → [] ≡ words_in site schema tables top i unit
words_others site schema tables top i unit at of = sym (
    ap (λ b. flat_map (slice_words site schema tables top) (cond b (record { kind = unit.kind; value = value_of unit; len = unit.len } ∷ []) [])) at
    ∙ append-nil _ ∙ ap (λ b. cond b (of_unit site schema tables top unit) []) of)

-- the same, step by step
pub mine_by : (site : Site) (schema : SchemaModel) (tables : List Rows) (top : Node) (i : ℕ) (unit inside : UnitModel) (v : Value) → unit ≡ inside → v ≡ value_of unit → is_segment i inside.segment ≡ true → is_of site inside.kind ≡ true → entered (plain_rows schema tables v top) (kinds schema top) inside.len ≡ words_in site schema tables top i unit
mine_by site schema tables top i unit inside v e ev at of =
    ap (λ w. entered (plain_rows schema tables w top) (kinds schema top) inside.len) (ev ∙ ap value_of e) ∙ words_mine site schema tables top i inside at of ∙ ap (λ (u : UnitModel). words_in site schema tables top i u) (sym e)

-- one unit more
pub words_next : (site : Site) (schema : SchemaModel) (tables : List Rows) (top : Node) (segment : ℕ) (units : List UnitModel) (i : ℕ) (d : UnitModel) → i < length units
    → flat_map (words_in site schema tables top segment) (take (i + 1) units) ≡ flat_map (words_in site schema tables top segment) (take i units) ++ words_in site schema tables top segment (get_or units i d)
words_next site schema tables top segment units i d h =
    ap (flat_map (words_in site schema tables top segment)) (take_more units i d h)
    ∙ flat_map-append (words_in site schema tables top segment) (take i units) (get_or units i d ∷ [])
    ∙ ap (λ ws. flat_map (words_in site schema tables top segment) (take i units) ++ ws) (append-nil _)

-- ---- the units of a segment, in order

parts_then : {X Y : Type 0} (f : Y → List ℕ) (g : X → List Y) (xs : List X) → flat_map (λ x. flat_map f (g x)) xs ≡ flat_map f (flat_map g xs)
parts_then f g [] = refl
parts_then f g (x ∷ xs) = ap (λ ws. flat_map f (g x) ++ ws) (parts_then f g xs) ∙ sym (flat_map-append f (g x) (flat_map g xs))

of_range : {X : Type 0} (f : ℕ → X) (d : X) (a n i : ℕ) → i < n → get_or (map f (range_with_len a n)) i d ≡ f (a + i)
of_range f d a zero i h = absurd (omega (arith, h))
of_range f d a (suc n) zero h = ap f (omega arith)
of_range f d a (suc n) (suc i) h = of_range f d (a + 1) n i (omega (arith, h)) ∙ ap f (omega arith)

pub segment_at : (units : List UnitModel) (count i : ℕ) → i < count → slices_at units i ≡ get_or (slices_in count units) i []
segment_at units count i h = sym (of_range (slices_at units) [] 0 count i h ∙ ap (slices_at units) (omega arith))

pub segment_by : (site : Site) (schema : SchemaModel) (tables : List Rows) (top : Node) (units : List UnitModel) (count i : ℕ) → i < count
    → flat_map (words_in site schema tables top i) units ≡ flat_map (slice_words site schema tables top) (get_or (slices_in count units) i [])
segment_by site schema tables top units count i h =
    parts_then (slice_words site schema tables top) (slice_in i) units ∙ ap (flat_map (slice_words site schema tables top)) (segment_at units count i h)

-- what a unit takes, by its kind
pub inputs_at : (kind : UnitKind) (engine : EngineModel) (units : List UnitModel) (unit : UnitModel) → unit.kind ≡ kind → inputs_by kind engine units unit ≡ unit_inputs engine units unit
inputs_at kind engine units unit e = ap (λ k. inputs_by k engine units unit) (sym e)
