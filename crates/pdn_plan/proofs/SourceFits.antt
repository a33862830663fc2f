-- What binding lets pass of a block's sources makes a sound tree.
use Rattle.std.proofs.Common.{◌≡◌, ℕ, suc, ◌+◌, ◌-◌, ◌<◌, ◌≤◌, Bool, true, false, not, nat_lt, nat_le, cond, List, [], ◌∷◌, ◌++◌, map, filter, find, length, sym, refl, ap, ◌∙◌, subst, Option, Some, None, is_none, arith, length-append, append_assoc, append-nil, leb-true, ltb-true, le-leb, lt-ltb, slice_get}
use Rattle.std.specs.List.{AllByRecursion}
use Rattle.std.specs.Str.{bytes_eq}
use Rattle.std.proofs.lemmas.List.{map-append, length-map}
use Rattle.std.proofs.lemmas.Bool.{true≢false}
use Rattle.pdn_base.specs.declared.marks.Kind.{Kind}
use Rattle.pdn_schema.specs.Models.{TableModel, SchemaModel}
use Rattle.pdn_schema.specs.Schemas.{IsTable, IsSchema}
use Rattle.pdn_schema.specs.Names.{is_among}
use Rattle.pdn_sql.specs.declared.query.Source.{Source}
use Rattle.pdn_sql.specs.declared.query.Block.{Block}
use Rattle.pdn_tree.specs.declared.node.Node.TheVariants as node
use Rattle.pdn_tree.specs.Columns.{Clauses, clauses_at, Names, has, Has, Below, shifted, place_in}
use Rattle.pdn_plan.specs.Splitting.{Part, split, ons, left_by, left_over, local_to, kept_of, clause_passes, is_of}
use Rattle.pdn_plan.specs.Names.{or_else, refuse_if, cond_refusal, placed, scope_kinds}
use Rattle.pdn_plan.specs.Planning.{table_from, given_column, earlier_or, relation, columns_of, plan_of, source_name, seen_as, seen_by, scope_of, bounds, sources_node, chosen_node, named, kept}
use Rattle.pdn_plan.specs.Binding.{sources_refusal, joins_below}
use Rattle.pdn_tree.specs.Shapes.{columns_in, has_join, kind_at, cond_fits}
use Rattle.pdn_plan.specs.Answer.{StartsPlain}
use Rattle.pdn_plan.proofs.Blocks.{kept_so_far}
use Rattle.pdn_tree.proofs.ColumnLaws.{names-weaker}
use Rattle.pdn_plan.proofs.Pushing.{map-map}
use Rattle.pdn_plan.proofs.SplitLaws.{both_true, passing_known}
use Rattle.pdn_plan.proofs.KeepLaws.{needed_below, keep_more, has_needed, below_range}
use Rattle.pdn_plan.proofs.Chosen.{kept_is}
use Rattle.pdn_plan.proofs.Looking.{or_none, cond-within}
use Rattle.pdn_plan.proofs.SourceLaws.{width-is, names-from, names-both, names-parts}
use Rattle.pdn_plan.proofs.OneBlock.{or_none_of}
use Rattle.pdn_plan.proofs.Central.{named-in, left_names}
use Rattle.pdn_tree.proofs.ShapeLaws.{Gives, gives-Scan}
use Rattle.pdn_plan.proofs.KindLaws.{kinds_of, kind-left, kind-right, Carries, carries, cond-moved, cond-some}
use Rattle.pdn_plan.proofs.CondFits.{cond-placed}
use Rattle.pdn_plan.proofs.TreeFits.{PartsFit, sources-give, gives-filtered, cond-kept, join-filtered, join-part}
use Rattle.pdn_plan.specs.declared.scope.Bound.{Bound}
use Rattle.pdn_plan.specs.declared.scope.Refusal.{Refusal}
use Rattle.pdn_plan.specs.declared.scope.Seen.{Seen}
use Rattle.pdn_plan.specs.declared.scope.Relation.{Relation}
use Rattle.pdn_plan.specs.declared.scope.Earlier.{Earlier}

-- ---- what a name in FROM stands for

-- the plan of a relation is sound, and gives the kinds of its columns
abbrev pub RelationFits : SchemaModel → Relation → Type 0
RelationFits schema r = Gives schema r.plan (map (λ g. g.kind) r.columns)

abbrev pub EarlierFit : SchemaModel → List Earlier → Type 0
EarlierFit schema es = AllByRecursion (λ e. RelationFits schema e.gives) es

some-same : {X : Type 0} (x y : X) → Some x ≡ Some y → x ≡ y
some-same x y e = cc

table-at : (front : List TableModel) (t : TableModel) (ts : List TableModel) → slice_get (front ++ t ∷ ts) (length front) ≡ Some t
table-at [] t ts = refl
table-at (x ∷ front) t ts = table-at front t ts

table-fits : (schema : SchemaModel) (front : List TableModel) (t : TableModel) (ts : List TableModel) → front ++ t ∷ ts ≡ schema.tables → IsTable t
    → RelationFits schema (record { columns = map given_column t.columns; plan = node.Scan (length front) })
table-fits schema front t ts e fits = gives-Scan schema (length front) _
    (ap (λ all. map (λ c. c.kind) (columns_in (slice_get all (length front)))) (sym e)
    ∙ ap (λ o. map (λ c. c.kind) (columns_in o)) (table-at front t ts)
    ∙ sym (map-map (λ g. g.kind) given_column t.columns))
    (ap (λ all. nat_lt (length front) (length all)) (sym e) ∙ lt-ltb (length front) (length (front ++ t ∷ ts)) (omega (arith, length-append front (t ∷ ts))))
    (ap (λ n. nat_le n 16) (length-map (map given_column t.columns) (λ g. g.kind) ∙ length-map t.columns given_column) ∙ le-leb (length t.columns) 16 (omega (arith, fits.head.few)))

tables-fit : (schema : SchemaModel) (front ts : List TableModel) (name : List ℕ) (r : Relation) → front ++ ts ≡ schema.tables → AllByRecursion IsTable ts → table_from (length front) ts name ≡ Some r → RelationFits schema r
tables-fit schema front [] name r e fits f = absurd cc
tables-fit schema front (t ∷ ts) name r e fits f =
    one (bytes_eq name t.name) f (λ g. tables-fit schema (front ++ t ∷ []) ts name r (append_assoc front (t ∷ []) ts ∙ e) fits.1
    (ap (λ n. table_from n ts name) (omega (arith, length-append front (t ∷ []))) ∙ g))
  where
    one : (b : Bool) → cond b (Some (record { columns = map given_column t.columns; plan = node.Scan (length front) })) (table_from (suc (length front)) ts name) ≡ Some r
        → (table_from (suc (length front)) ts name ≡ Some r → RelationFits schema r) → RelationFits schema r
    one true g next = subst (λ (x : Relation). RelationFits schema x) (some-same _ r g) (table-fits schema front t ts e fits.0)
    one false g next = next g

earlier-fit : (schema : SchemaModel) (es : List Earlier) (name : List ℕ) (next : Option Relation) (r : Relation) → EarlierFit schema es → (next ≡ Some r → RelationFits schema r)
    → earlier_or (find (λ e. bytes_eq name e.name) es) next ≡ Some r → RelationFits schema r
earlier-fit schema [] name next r all h e = h e
earlier-fit schema (x ∷ es) name next r all h e = one (bytes_eq name x.name) e (earlier-fit schema es name next r all.1 h)
  where
    one : (b : Bool) → earlier_or (cond b (Some x) (find (λ e. bytes_eq name e.name) es)) next ≡ Some r
        → (earlier_or (find (λ e. bytes_eq name e.name) es) next ≡ Some r → RelationFits schema r) → RelationFits schema r
    one true f go = subst (λ (y : Relation). RelationFits schema y) (some-same _ r f) all.0
    one false f go = go f

relation-fits : (schema : SchemaModel) (es : List Earlier) (name : List ℕ) (r : Relation) → IsSchema schema → EarlierFit schema es → relation schema es name ≡ Some r → RelationFits schema r
relation-fits schema es name r valid all e =
    earlier-fit schema es name (table_from 0 schema.tables name) r all (tables-fit schema [] schema.tables name r refl valid.tables.each) e

-- ---- the sources

-- what is known of each source
abbrev pub SourcesFit : SchemaModel → List Earlier → List Seen → List Source → Type 0
SourcesFit schema es scope [] = Unit {0}
SourcesFit schema es scope (s ∷ ss) =
    Gives schema (plan_of (relation schema es s.name.text)) (scope_kinds (seen_by schema es s))
    × (cond_refusal (scope ++ seen_by schema es s) s.on ≡ None)
    × SourcesFit schema es (scope ++ seen_by schema es s) ss

source-fits : (schema : SchemaModel) (es : List Earlier) (s : Source) → IsSchema schema → EarlierFit schema es → refuse_if (is_none (relation schema es s.name.text)) 1 s.name.text ≡ None
    → Gives schema (plan_of (relation schema es s.name.text)) (scope_kinds (seen_by schema es s))
source-fits schema es s valid all h = one (relation schema es s.name.text) refl h
  where
    one : (o : Option Relation) → relation schema es s.name.text ≡ o → refuse_if (is_none o) 1 s.name.text ≡ None → Gives schema (plan_of (relation schema es s.name.text)) (scope_kinds (seen_by schema es s))
    one None e k = absurd cc
    one (Some r) e k = subst (λ (o : Option Relation). Gives schema (plan_of o) (scope_kinds (seen_as (source_name s) (columns_of o)))) (sym e)
        (subst (λ (ks : List Kind). Gives schema r.plan ks) (sym (map-map (λ s. s.kind) _ r.columns)) (relation-fits schema es s.name.text r valid all e))

pub sources-fit : (schema : SchemaModel) (es : List Earlier) → IsSchema schema → EarlierFit schema es → (before : List (List ℕ)) (scope : List Seen) (ss : List Source) → sources_refusal schema es before scope ss ≡ None → SourcesFit schema es scope ss
sources-fit schema es valid all before scope [] e = tt
sources-fit schema es valid all before scope (s ∷ ss) e =
    let more : List Seen = scope ++ seen_by schema es s in
    let rest : Option Refusal = sources_refusal schema es (before ++ source_name s ∷ []) more ss in
    let here = or_none (refuse_if (is_none (relation schema es s.name.text)) 1 s.name.text) (or_else (refuse_if (is_among before (source_name s)) 3 (source_name s)) (or_else (cond_refusal more s.on) (or_else rest None))) e in
    let alias = or_none (refuse_if (is_among before (source_name s)) 3 (source_name s)) (or_else (cond_refusal more s.on) (or_else rest None)) here.1 in
    let on = or_none (cond_refusal more s.on) (or_else rest None) alias.1 in
    let last = or_none rest None on.1 in
    (source-fits schema es s valid all here.0, on.0, sources-fit schema es valid all (before ++ source_name s ∷ []) more ss last.0)

-- a column of one source, by its own place
local-carries : (before own after : List Kind) (from width c : ℕ) → length before ≡ from → length own ≡ width → is_of from width c ≡ true → Carries (λ n. n - from) (before ++ (own ++ after)) own c
local-carries before own after from width c long wide h =
    let sides = both_true (nat_le from c) (nat_lt c (from + width)) h in
    let low : from ≤ c = leb-true from c sides.0 in
    let high : c < from + width = ltb-true c (from + width) sides.1 in
    let near : c - from < length own = omega (arith, low, high, wide) in
    let at : c ≡ length before + (c - from) = omega (arith, low, long) in
    carries (λ n. n - from) (before ++ (own ++ after)) own c
    (omega (arith, high, long, wide, length-append before (own ++ after), length-append own after)) near
    (sym (ap (kind_at (before ++ (own ++ after))) at ∙ kind-right before (own ++ after) (c - from) ∙ kind-left own after (c - from) near))

local-fits : (before own after : List Kind) (from width : ℕ) (asked : Clauses) → length before ≡ from → length own ≡ width → cond_fits (before ++ (own ++ after)) asked ≡ true → cond_fits own (local_to from width asked) ≡ true
local-fits before own after from width asked long wide e =
    cond-moved (λ n. n - from) (before ++ (own ++ after)) own (filter (clause_passes (is_of from width)) asked)
    (names-weaker _ _ (λ c h. local-carries before own after from width c long wide h) (filter (clause_passes (is_of from width)) asked) (passing_known (is_of from width) asked))
    ∙ cond-some (before ++ (own ++ after)) (clause_passes (is_of from width)) asked e

-- what is kept with one more source is what is needed up to it
kept-next : (needed : ℕ → Bool) (from width : ℕ) (kept : List ℕ) → kept ≡ needed_below needed from → kept ++ shifted from (kept_of needed from width) ≡ needed_below needed (from + width)
kept-next needed from width kept e = ap (λ ks. ks ++ shifted from (kept_of needed from width)) e ∙ keep_more needed from width

parts-fit : (schema : SchemaModel) (es : List Earlier) (needed : ℕ → Bool) (all : List Kind) (scope : List Seen) (ss : List Source) (asked : Clauses) (from : ℕ) (kept : List ℕ)
    → length scope ≡ from → kept ≡ needed_below needed from → SourcesFit schema es scope ss → scope_kinds scope ++ scope_kinds (scope_of schema es ss) ≡ all → cond_fits all asked ≡ true
    → Names (λ c. needed c ≡ true) (ons (bounds schema es scope ss))
    → PartsFit schema all from (scope_kinds scope) kept (split needed from asked (bounds schema es scope ss))
parts-fit schema es needed all scope [] asked from kept long ke fit e asks names = sym (append-nil (scope_kinds scope)) ∙ e
parts-fit schema es needed all scope (s ∷ ss) asked from kept long ke fit e asks names =
    let own : List Kind = scope_kinds (seen_by schema es s) in
    let after : List Kind = scope_kinds (scope_of schema es ss) in
    let width : ℕ = length (seen_by schema es s) in
    let more : List Seen = scope ++ seen_by schema es s in
    let keep : List ℕ = kept_of needed from width in
    let two = names-parts (λ c. needed c ≡ true) (placed more s.on) (ons (bounds schema es more ss)) names in
    let sides : scope_kinds more ≡ scope_kinds scope ++ own = map-append (λ s. s.kind) scope (seen_by schema es s) in
    let whole : scope_kinds scope ++ (own ++ after) ≡ all = ap (λ ks. scope_kinds scope ++ ks) (sym (map-append (λ s. s.kind) (seen_by schema es s) (scope_of schema es ss))) ∙ e in
    let next : kept ++ shifted from keep ≡ needed_below needed (from + width) = kept-next needed from width kept ke in
    let wide : length more ≡ from + width = omega (arith, length-append scope (seen_by schema es s), long) in (
      own,
      record {
        plan = fit.0;
        long = length-map (seen_by schema es s) (λ s. s.kind);
        keeps = subst (λ (k : ℕ). Below k keep) (omega arith) (below_range (λ c. needed (from + c)) 0 width);
        local = local-fits (scope_kinds scope) own after from width asked (length-map scope (λ s. s.kind) ∙ long) (length-map (seen_by schema es s) (λ s. s.kind)) (ap (λ ks. cond_fits ks asked) whole ∙ asks);
        on = ap (λ ks. cond_fits ks (placed more s.on)) (sym sides) ∙ cond-placed more s.on fit.1;
        on_kept = names-weaker _ _ (λ c h. let high : c < from + width = omega (arith, h.1, wide) in (subst (λ (ks : List ℕ). Has ks c) (sym next) (has_needed needed c 0 (from + width) h.0 (omega arith) (omega (arith, high))), high))
            (placed more s.on) (names-both _ _ (placed more s.on) two.0 (cond-within more s.on fit.1));
      },
      subst (λ (ks : List Kind). PartsFit schema all (from + width) ks (kept ++ shifted from keep) (split needed (from + width) (left_by from width asked) (bounds schema es more ss))) sides
          (parts-fit schema es needed all more ss (left_by from width asked) (from + width) (kept ++ shifted from keep) wide next fit.2
          (ap (λ ks. ks ++ after) sides ∙ append_assoc (scope_kinds scope) own after ∙ whole) (cond-some all (λ clause. not (clause_passes (is_of from width) clause)) asked asks) two.1),
    )

sources-tree : (schema : SchemaModel) (es : List Earlier) (needed : ℕ → Bool) (ss : List Source) (asked : Clauses) → StartsPlain ss → SourcesFit schema es [] ss → cond_fits (scope_kinds (scope_of schema es ss)) asked ≡ true
    → Names (λ c. needed c ≡ true) (ons (bounds schema es [] ss)) → nat_le (length (needed_below needed (length (scope_of schema es ss)))) 16 ≡ true
    → Gives schema (sources_node (split needed 0 asked (bounds schema es [] ss))) (kinds_of (scope_kinds (scope_of schema es ss)) (needed_below needed (length (scope_of schema es ss))))
sources-tree schema es needed [] asked plain fit asks names few = absurd plain
sources-tree schema es needed (s ∷ ss) asked plain fit asks names few =
    let all : List Kind = scope_kinds (scope_of schema es (s ∷ ss)) in
    let bs : List Bound = bounds schema es [] (s ∷ ss) in
    let ends : kept_so_far 0 [] (split needed 0 asked bs) ≡ needed_below needed (length (scope_of schema es (s ∷ ss))) = kept_is needed bs 0 asked ∙ ap (needed_below needed) (width-is schema es [] (s ∷ ss)) in
    subst (λ (ks : List ℕ). Gives schema (sources_node (split needed 0 asked bs)) (kinds_of all ks)) ends
    (sources-give schema all _ _ (parts-fit schema es needed all [] (s ∷ ss) asked 0 [] refl refl fit refl asks names) (ap (λ ks. nat_le (length ks) 16) ends ∙ few))

left-fits : (ks : List Kind) (bs : List Bound) (from : ℕ) (asked : Clauses) → cond_fits ks asked ≡ true → cond_fits ks (left_over from asked bs) ≡ true
left-fits ks [] from asked e = e
left-fits ks (b ∷ bs) from asked e = left-fits ks bs (from + b.width) (left_by from b.width asked) (cond-some ks (λ clause. not (clause_passes (is_of from b.width) clause)) asked e)

-- the tree of the sources and conditions
pub chosen-gives : (schema : SchemaModel) (es : List Earlier) (b : Block) → let scope = scope_of schema es b.sources in let bs = bounds schema es [] b.sources in
    StartsPlain b.sources → SourcesFit schema es [] b.sources → cond_refusal scope b.filter ≡ None → nat_le (length (kept scope bs b)) 16 ≡ true
    → Gives schema (chosen_node scope bs b) (kinds_of (scope_kinds scope) (kept scope bs b))
chosen-gives schema es b plain fit asks few =
    let scope : List Seen = scope_of schema es b.sources in
    let bs : List Bound = bounds schema es [] b.sources in
    let asked : Clauses = placed scope b.filter in
    let all : List Kind = scope_kinds scope in
    let needed : ℕ → Bool = has (named scope bs b) in
    let rest : Clauses = left_over 0 asked bs in
    let fits : cond_fits all asked ≡ true = cond-placed scope b.filter asks in
    let tree = sources-tree schema es needed b.sources asked plain fit fits (names-from (Has (named scope bs b)) (ons bs) (named-in scope bs b).on) few in
    let names : Names (λ c. Has (kept scope bs b) c × (c < length all)) rest = names-weaker _ _
    (λ c h. (has_needed needed c 0 (length scope) h.0 (omega arith) (omega (arith, h.1)), omega (arith, h.1, length-map scope (λ s. s.kind))))
    rest (names-both _ _ rest (names-from (Has (named scope bs b)) rest (named-in scope bs b).rest) (left_names (λ c. c < length scope) bs 0 asked (cond-within scope b.filter asks))) in
    gives-filtered schema (sources_node (split needed 0 asked bs)) (kinds_of all (kept scope bs b)) (clauses_at (place_in (kept scope bs b)) rest) tree (cond-kept all (kept scope bs b) rest names (left-fits all bs 0 asked fits))

-- where no Join is below, none is in the tree of the sources
sources-single : (schema : SchemaModel) (es : List Earlier) (needed : ℕ → Bool) (ss : List Source) (asked : Clauses) → StartsPlain ss → joins_below (bounds schema es [] ss) ≡ false
    → has_join (sources_node (split needed 0 asked (bounds schema es [] ss))) ≡ false
sources-single schema es needed [] asked plain single = absurd plain
sources-single schema es needed (s ∷ []) asked plain single =
    let part : Part = record {
      plan = plan_of (relation schema es s.name.text);
      width = length (seen_by schema es s);
      local = local_to 0 (length (seen_by schema es s)) asked;
      keep = kept_of needed 0 (length (seen_by schema es s));
      on = placed (seen_by schema es s) s.on;
    } in
    join-part part ∙ or_none_of (has_join part.plan) false single
sources-single schema es needed (s ∷ t ∷ ss) asked plain single = absurd (true≢false (sym (lt-ltb 1 (length (bounds schema es [] (s ∷ t ∷ ss))) (omega arith)) ∙ or_none_of _ _ single))

pub chosen-single : (schema : SchemaModel) (es : List Earlier) (b : Block) → let scope = scope_of schema es b.sources in let bs = bounds schema es [] b.sources in
    StartsPlain b.sources → joins_below bs ≡ false → has_join (chosen_node scope bs b) ≡ false
chosen-single schema es b plain single =
    let scope : List Seen = scope_of schema es b.sources in
    let bs : List Bound = bounds schema es [] b.sources in
    join-filtered (clauses_at (place_in (kept scope bs b)) (left_over 0 (placed scope b.filter) bs)) (sources_node (split (has (named scope bs b)) 0 (placed scope b.filter) bs))
    ∙ sources-single schema es (has (named scope bs b)) b.sources (placed scope b.filter) plain single
