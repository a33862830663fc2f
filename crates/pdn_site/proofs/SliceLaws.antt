-- The rows of a segment at a value, by its narrowed tree.
use Rattle.std.proofs.Common.{◌≡◌, ℕ, zero, suc, ◌<◌, List, [], ◌∷◌, length, get_or, refl, sym, ap, ap₂, Bool, true, ◌∙◌, subst, arith, append-nil, None, Option}
use Rattle.std.specs.List.{AllByRecursion}
use Rattle.pdn_base.specs.declared.value.Value.{Value}
use Rattle.pdn_base.specs.Operators.{SameRows, listed}
use Rattle.pdn_base.proofs.Listing.{top_bag}
use Rattle.pdn_tree.specs.declared.node.Node.{Node, Node-F, fold-roll-Node}
use Rattle.pdn_tree.specs.declared.node.Node.TheFolds.{ind-Node, map-Node}
use Rattle.std.proofs.lemmas.Bool.{false≢true}
use Rattle.pdn_schema.specs.Models.{SchemaModel}
use Rattle.pdn_level.specs.declared.staged.Level.TheVariants as level
use Rattle.pdn_site.specs.Entering.{is_local, local_step, entered_words}
use Rattle.pdn_site.proofs.OwnWords.{entered_own}
use Rattle.pdn_tree.specs.Meaning.{Rows, mean, table_of}
use Rattle.pdn_level.specs.declared.staged.Leaf.{Leaf}
use Rattle.pdn_level.specs.Models.{SegmentModel}
use Rattle.pdn_level.specs.Slices.{followed_step}
use Rattle.pdn_level.specs.Levels.{leaf_of, leaves_step, leaves_of, Survey, survey, survey_step, level_of_node, kept_level}
use Rattle.pdn_level.specs.Cutting.{IsSound, stands_at, slice_column}
use Rattle.pdn_level.proofs.SegmentLaws.{segments_sound}
use Rattle.pdn_site.specs.Compiling.{node_at, or_same}
use Rattle.pdn_site.specs.Engines.{EngineModel, IsEngine, no_segment, segment_of, top_of, slice_rows, secure_words}
use Rattle.pdn_site.specs.Narrowing.{narrowed}
use Rattle.pdn_site.proofs.Narrows.{narrowed_means}

pub all_at : {X : Type 0} (P : X → Type 0) (xs : List X) (i : ℕ) (d : X) → i < length xs → AllByRecursion P xs → P (get_or xs i d)
all_at P [] i d h all = absurd (omega (arith, h))
all_at P (x ∷ xs) zero d h all = all.0
all_at P (x ∷ xs) (suc i) d h all = all_at P xs i d (omega (arith, h)) all.1

-- the tree that stands at the end of a way
stands_there : (path : List ℕ) (root top : Node) → stands_at path root top → node_at path root ≡ top
stands_there [] root top h = h
stands_there (way ∷ path) root top h = ap (λ (c : Option Node). node_at path (or_same root c)) h.1 ∙ stands_there path h.0 top h.2

-- a segment's leaves are those of its tree
pub segment_sound : (engine : EngineModel) (segment : ℕ) → IsEngine engine → segment < length engine.staged → IsSound engine.schema engine.root (segment_of engine segment)
segment_sound engine segment is h =
    all_at (IsSound engine.schema engine.root) engine.staged segment no_segment h
    (subst (λ (segments : List SegmentModel). AllByRecursion (IsSound engine.schema engine.root) segments) (sym is.staged) (segments_sound engine.schema engine.root))

pub sound_top : (engine : EngineModel) (segment : ℕ) (sound : IsSound engine.schema engine.root (segment_of engine segment)) → top_of engine segment ≡ sound.top
sound_top engine segment sound = stands_there (segment_of engine segment).path engine.root sound.top sound.there

abbrev leaves_at : EngineModel → Node → List Leaf
leaves_at engine n = leaves_of engine.schema n (slice_column engine.schema n)

pub slice_is : (engine : EngineModel) (segment : ℕ) (v : Value) (rows sorted : Rows) → IsEngine engine → segment < length engine.staged
    → SameRows rows (mean (table_of engine.tables) (narrowed v (top_of engine segment) (segment_of engine segment).leaves))
    → sorted ≡ listed [] rows → sorted ≡ slice_rows engine segment v
slice_is engine segment v rows sorted is h same order =
    let sound = segment_sound engine segment is h in
    let top = sym (sound_top engine segment sound) in
    let leaves = sound.leaves ∙ ap (λ (n : Node). leaves_at engine n) top ∙ sym (append-nil (leaves_at engine (top_of engine segment))) in
    order ∙ top_bag [] None rows _ same ∙ ap (listed []) (narrowed_means engine.schema (table_of engine.tables) v (top_of engine segment) _ (segment_of engine segment).leaves [] leaves)

-- the same, step by step
pub slice_by : (engine inside : EngineModel) (segment : ℕ) (found : SegmentModel) (path : List ℕ) (leaves : List Leaf) (top tree : Node) (v : Value) (rows sorted : Rows)
    → engine ≡ inside → IsEngine inside → segment < length engine.staged → found ≡ segment_of engine segment → path ≡ found.path → leaves ≡ found.leaves → top ≡ node_at path inside.root
    → tree ≡ narrowed v top leaves → SameRows rows (mean (table_of inside.tables) tree) → sorted ≡ listed [] rows → sorted ≡ slice_rows engine segment v
slice_by engine inside segment found path leaves top tree v rows sorted e is h at_found at_path at_leaves at_top at_tree same order =
    let at_segment : found ≡ segment_of inside segment = at_found ∙ ap (λ (m : EngineModel). segment_of m segment) e in
    let whole : tree ≡ narrowed v (top_of inside segment) (segment_of inside segment).leaves =
    at_tree ∙ ap₂ (λ (n : Node) (ls : List Leaf). narrowed v n ls) (at_top ∙ ap (λ (ways : List ℕ). node_at ways inside.root) (at_path ∙ ap (λ (s : SegmentModel). s.path) at_segment)) (at_leaves ∙ ap (λ (s : SegmentModel). s.leaves) at_segment) in
    slice_is engine segment v rows sorted (subst (λ (m : EngineModel). IsEngine m) (sym e) is) h
    (subst (λ (m : EngineModel). SameRows rows (mean (table_of m.tables) (narrowed v (top_of m segment) (segment_of m segment).leaves))) (sym e) (subst (λ (n : Node). SameRows rows (mean (table_of inside.tables) n)) whole same))
    order

-- ---- a secure unit

abbrev IsLocal : SchemaModel → Node → Type 0
IsLocal schema n = is_local n ≡ true → level_of_node schema n ≡ level.Local

local_layer : (schema : SchemaModel) (y : Node-F ((n : Node) × IsLocal schema n)) → local_step (map-Node Node Bool is_local (map-Node ((n : Node) × IsLocal schema n) Node (λ e. e.0) y)) ≡ true
    → (survey_step schema (map-Node Node Survey (survey schema) (map-Node ((n : Node) × IsLocal schema n) Node (λ e. e.0) y))).level ≡ level.Local
local_layer schema (Node-F.Scan table) h = refl
local_layer schema (Node-F.Filter child condition) h = ap (kept_level (followed_step schema leaf_of leaves_step (Node-F.Filter (survey schema child.0).track condition)).slices) (child.1 h)
local_layer schema (Node-F.Project child columns) h = ap (kept_level (followed_step schema leaf_of leaves_step (Node-F.Project (survey schema child.0).track columns)).slices) (child.1 h)
local_layer schema (Node-F.Join left right on) h = absurd (false≢true h)
local_layer schema (Node-F.Group child keys having) h = absurd (false≢true h)
local_layer schema (Node-F.Count child) h = absurd (false≢true h)
local_layer schema (Node-F.Distinct child) h = absurd (false≢true h)
local_layer schema (Node-F.Number child partition order) h = absurd (false≢true h)
local_layer schema (Node-F.Top child order limit) h = absurd (false≢true h)

pub local_level : (schema : SchemaModel) (n : Node) → IsLocal schema n
local_level schema = ind-Node (IsLocal schema) (λ x y is h.
    ap (λ (s : Survey). s.level) (fold-roll-Node Survey (survey_step schema) x)
    ∙ subst (λ (z : Node-F Node). local_step (map-Node Node Bool is_local z) ≡ true → (survey_step schema (map-Node Node Survey (survey schema) z)).level ≡ level.Local) is (local_layer schema y) (sym (fold-roll-Node Bool local_step x) ∙ h))

pub secure_is : (engine : EngineModel) (segment : ℕ) (v : Value) → IsEngine engine → segment < length engine.staged
    → entered_words engine.schema engine.tables v (top_of engine segment) (segment_of engine segment).leaves ≡ secure_words engine segment v
secure_is engine segment v is h =
    let sound = segment_sound engine segment is h in
    let same = sym (sound_top engine segment sound) in
    let top : Node = top_of engine segment in
    let column : ℕ = slice_column engine.schema top in
    entered_own engine.schema engine.tables v top column (segment_of engine segment).leaves (sound.leaves ∙ ap (λ (n : Node). leaves_at engine n) same)

pub secure_by : (engine inside : EngineModel) (segment : ℕ) (found : SegmentModel) (path : List ℕ) (leaves : List Leaf) (top : Node) (v : Value) (words : List ℕ)
    → engine ≡ inside → IsEngine inside → segment < length engine.staged → found ≡ segment_of engine segment → path ≡ found.path → leaves ≡ found.leaves → top ≡ node_at path inside.root
    → words ≡ entered_words inside.schema inside.tables v top leaves → words ≡ secure_words engine segment v
secure_by engine inside segment found path leaves top v words e is h at_found at_path at_leaves at_top given =
    let at_segment : found ≡ segment_of inside segment = at_found ∙ ap (λ (m : EngineModel). segment_of m segment) e in
    given
    ∙ ap₂ (λ (n : Node) (ls : List Leaf). entered_words inside.schema inside.tables v n ls) (at_top ∙ ap (λ (ways : List ℕ). node_at ways inside.root) (at_path ∙ ap (λ (s : SegmentModel). s.path) at_segment)) (at_leaves ∙ ap (λ (s : SegmentModel). s.leaves) at_segment)
    ∙ secure_is inside segment v is (subst (λ (m : EngineModel). segment < length m.staged) e h)
    ∙ ap (λ (m : EngineModel). secure_words m segment v) (sym e)
