-- The plan of a query that is not refused means the query's answer.
use Rattle.std.proofs.Common.{◌≡◌, ℕ, ◌+◌, ◌<◌, Bool, true, false, not, ◌&&◌, List, [], ◌∷◌, ◌++◌, map, filter, length, sym, refl, ap, ap₂, ◌∙◌, subst, Option, None, arith, append_assoc}
use Rattle.std.proofs.Math.Path.{fun_ext}
use Rattle.std.specs.List.{AllByRecursion, range_with_len}
use Rattle.std.proofs.lemmas.List.{length-map}
use Rattle.pdn_base.specs.Operators.{filter_rows, project_rows, top_rows}
use Rattle.pdn_schema.specs.Models.{SchemaModel}
use Rattle.pdn_sql.specs.declared.query.Col.{Col}
use Rattle.pdn_sql.specs.declared.query.Block.{Block}
use Rattle.pdn_sql.specs.declared.query.Named.{Named}
use Rattle.pdn_sql.specs.declared.query.Query.{Query}
use Rattle.pdn_tree.specs.Meaning.{Rows, mean}
use Rattle.pdn_tree.specs.Columns.{Clauses, Names, Wide, has, Has, place_in, clauses_at}
use Rattle.pdn_plan.specs.Splitting.{split, ons, left_over, left_by, clauses_columns, clause_passes, is_of}
use Rattle.pdn_plan.specs.Names.{or_else, first_of, refuse_if, cond_refusal, col_refusal, placed, place}
use Rattle.pdn_plan.specs.Steps.{step_of, items_columns, output_name, order_keys, counts}
use Rattle.pdn_plan.specs.declared.steps.Step.{Step}
use Rattle.pdn_plan.specs.declared.steps.Step.TheVariants.{Grouped, Counted, Numbered, Unchanged}
use Rattle.pdn_plan.specs.Planning.{scope_of, bounds, named, kept, chosen_node, block_node, block_relation, filtered, sources_node, what_kind, bound_with, main_relation, root}
use Rattle.pdn_plan.specs.Binding.{sources_refusal, items_refusal, is_loose, loose_refusal, is_grouped, is_counted, joins_below, is_wide, after_sources, block_refusal, with_refusal, main_refusal, blocks_refusal, refusal}
use Rattle.pdn_plan.specs.Answer.{Title, Known, NamedRows, Standing, standing, all_titles, title_place, ons_true, all_true, chosen_rows, entries, shown_rows, once_if, block_rows, item_name, ordered_by, block_means, with_means, answer, TablesFit, StartsPlain, IsWritten}
use Rattle.pdn_plan.specs.Answer as answers
use Rattle.pdn_plan.proofs.Blocks as plans
use Rattle.pdn_tree.proofs.ColumnLaws.{meets-append}
use Rattle.pdn_plan.proofs.Pushing.{filter-agree, map-map}
use Rattle.pdn_plan.proofs.KeepLaws.{needed_below, has_needed, AllSound}
use Rattle.pdn_tree.proofs.NodeLaws.{mean-Top}
use Rattle.pdn_plan.proofs.Chosen.{start, width_of, Wanted, chosen-means}
use Rattle.pdn_plan.proofs.Stepping.{distinct-means, shows-columns}
use Rattle.pdn_plan.proofs.Looking.{or_none, title_of, title-place, placed-true, cond-within, cols-within, items-within}
use Rattle.pdn_plan.proofs.BlockLaws.{AllMatch, Matches}
use Rattle.pdn_plan.proofs.SourceLaws.{AllStand, all-stand, titles-are, ons-are, product-is, width-is, names-from, names-both, all-sound, first-plain}
use Rattle.pdn_plan.proofs.Stepped.{stepped}
use Rattle.pdn_plan.proofs.Mentions.{not-loose}
use Rattle.pdn_plan.proofs.Entries.{block-shows}
use Rattle.pdn_plan.proofs.Ordered.{names-are, top-is}
use Rattle.pdn_plan.proofs.OneBlock.{all-has, all-parts, all-both, all-weaker, StepFits, items-mean, stepped-wide, once-wide, keys-known, not-grouped, Numbers, numbers-known, or_right, not-both, one-source, names-filter}
use Rattle.pdn_plan.specs.declared.scope.Bound.{Bound}
use Rattle.pdn_plan.specs.declared.scope.Refusal.{Refusal}
use Rattle.pdn_plan.specs.declared.scope.Seen.{Seen}
use Rattle.pdn_plan.specs.declared.scope.Earlier.{Earlier}

-- what a block passes after its sources
pub record Passed (scope : List Seen) (bs : List Bound) (b : Block) : Type 0 where
  pub asks : cond_refusal scope b.filter ≡ None
  pub keys : first_of (col_refusal scope) b.group ≡ None
  pub shows : items_refusal scope b.items ≡ None
  pub alone : loose_refusal (is_grouped b) scope b ≡ None
  pub joins : refuse_if (is_counted b && joins_below bs) 5 [] ≡ None
  pub few : refuse_if (is_wide scope bs b) 9 [] ≡ None

pub passed : (scope : List Seen) (bs : List Bound) (b : Block) → after_sources scope bs b ≡ None → Passed scope bs b
unfolding after_sources
passed scope bs b e =
    let wide : Option Refusal = or_else (refuse_if (is_wide scope bs b) 9 []) None in
    let joins : Option Refusal = or_else (refuse_if (is_counted b && joins_below bs) 5 []) wide in
    let loose : Option Refusal = or_else (loose_refusal (is_grouped b) scope b) joins in
    let items : Option Refusal = or_else (items_refusal scope b.items) loose in
    let keys : Option Refusal = or_else (first_of (col_refusal scope) b.group) items in
    let p1 = or_none (cond_refusal scope b.filter) keys e in
    let p2 = or_none (first_of (col_refusal scope) b.group) items p1.1 in
    let p3 = or_none (items_refusal scope b.items) loose p2.1 in
    let p4 = or_none (loose_refusal (is_grouped b) scope b) joins p3.1 in
    let p5 = or_none (refuse_if (is_counted b && joins_below bs) 5 []) wide p4.1 in
    let p6 = or_none (refuse_if (is_wide scope bs b) 9 []) None p5.1 in
    record { asks = p1.0; keys = p2.0; shows = p3.0; alone = p4.0; joins = p5.0; few = p6.0 }

-- what is named of a block's columns
pub record NamedIn (scope : List Seen) (bs : List Bound) (b : Block) : Type 0 where
  pub on : AllByRecursion (Has (named scope bs b)) (clauses_columns (ons bs))
  pub rest : AllByRecursion (Has (named scope bs b)) (clauses_columns (left_over 0 (placed scope b.filter) bs))
  pub group : AllByRecursion (Has (named scope bs b)) (map (place scope) b.group)
  pub items : AllByRecursion (Has (named scope bs b)) (items_columns (place scope) b.items)

pub named-in : (scope : List Seen) (bs : List Bound) (b : Block) → NamedIn scope bs b
named-in scope bs b =
    let all : List ℕ = named scope bs b in
    let one = all-parts (Has all) (clauses_columns (ons bs)) (clauses_columns (left_over 0 (placed scope b.filter) bs) ++ (map (place scope) b.group ++ items_columns (place scope) b.items)) (all-has all) in
    let two = all-parts (Has all) (clauses_columns (left_over 0 (placed scope b.filter) bs)) (map (place scope) b.group ++ items_columns (place scope) b.items) one.1 in
    let three = all-parts (Has all) (map (place scope) b.group) (items_columns (place scope) b.items) two.1 in
    record { on = one.0; rest = two.0; group = three.0; items = three.1 }

-- a column that is named and there is kept
pub in-kept : (scope : List Seen) (bs : List Bound) (b : Block) (cs : List ℕ) → AllByRecursion (Has (named scope bs b)) cs → AllByRecursion (λ c. c < length scope) cs → AllByRecursion (Has (kept scope bs b)) cs
in-kept scope bs b cs h k = all-weaker _ _ (λ c f. has_needed (has (named scope bs b)) c 0 (length scope) f.0 (omega arith) (omega (arith, f.1))) cs (all-both _ _ cs h k)

pub left_names : (P : ℕ → Type 0) (bs : List Bound) (from : ℕ) (asked : Clauses) → Names P asked → Names P (left_over from asked bs)
left_names P [] from asked h = h
left_names P (b ∷ bs) from asked h = left_names P bs (from + b.width) (left_by from b.width asked) (names-filter P (λ clause. not (clause_passes (is_of from b.width) clause)) asked h)

-- what the step needs of what is kept
step-fits : (schema : SchemaModel) (es : List Earlier) (b : Block) → let scope = scope_of schema es b.sources in let bs = bounds schema es [] b.sources in
    StartsPlain b.sources → Passed scope bs b → (st : Step) → step_of (place scope) b ≡ st → StepFits (kept scope bs b) (place scope) (length scope) b.items st
step-fits schema es b plain ok (Grouped keys having) e =
    let scope : List Seen = scope_of schema es b.sources in
    let bs : List Bound = bounds schema es [] b.sources in
    keys-known (Has (kept scope bs b)) (map (place scope) b.group) b.having _ keys having (not-grouped (place scope) b.items (counts b.items))
    (in-kept scope bs b (map (place scope) b.group) (named-in scope bs b).group (cols-within scope b.group ok.keys)) e
step-fits schema es b plain ok Counted e = tt
step-fits schema es b plain ok (Numbered partition order) e =
    let scope : List Seen = scope_of schema es b.sources in
    let bs : List Bound = bounds schema es [] b.sources in
    let numbers : Numbers (place scope) b = numbers-known (place scope) b (map (place scope) b.group) refl partition order e in
    let single : joins_below bs ≡ false = not-both (is_counted b) (joins_below bs) 5 [] (or_right (is_grouped b) _ numbers.shows) ok.joins in
    ap (λ ns. filter (has ns) (range_with_len 0 (length scope)))
    (sym (append_assoc (clauses_columns (ons bs)) (clauses_columns (left_over 0 (placed scope b.filter) bs)) (map (place scope) b.group ++ items_columns (place scope) b.items))
    ∙ ap₂ (λ xs ys. xs ++ (ys ++ items_columns (place scope) b.items)) (one-source schema es b.sources (placed scope b.filter) plain single (cond-within scope b.filter ok.asks)) numbers.no_keys)
step-fits schema es b plain ok Unchanged e =
    let scope : List Seen = scope_of schema es b.sources in
    let bs : List Bound = bounds schema es [] b.sources in
    shows-columns (place scope) (Has (kept scope bs b)) b e
    (in-kept scope bs b (items_columns (place scope) b.items) (named-in scope bs b).items (items-within scope b.items ok.shows))

-- the rows that the tree of the sources and conditions gives
chosen-is : (schema : SchemaModel) (tables : ℕ → Rows) (es : List Earlier) (ks : List Known) (b : Block) → let scope = scope_of schema es b.sources in let bs = bounds schema es [] b.sources in
    StartsPlain b.sources → AllStand schema tables es ks [] b.sources → Passed scope bs b
    → mean tables (chosen_node scope bs b) ≡ project_rows (kept scope bs b) (chosen_rows (map (standing schema tables ks) b.sources) b.filter)
chosen-is schema tables es ks b plain stand ok =
    let scope : List Seen = scope_of schema es b.sources in
    let bs : List Bound = bounds schema es [] b.sources in
    let asked : Clauses = placed scope b.filter in
    let needed : ℕ → Bool = has (named scope bs b) in
    let ss : List Standing = map (standing schema tables ks) b.sources in
    let titles : all_titles ss ≡ map title_of scope = titles-are schema tables es ks [] b.sources stand in
    let width : width_of 0 bs ≡ length scope = width-is schema es [] b.sources in
    let sound : AllSound (mean tables) needed 0 bs = all-sound schema tables es ks needed [] b.sources stand (names-from (Has (named scope bs b)) (ons bs) (named-in scope bs b).on) in
    let names : Names (Wanted needed (width_of 0 bs)) (left_over 0 asked bs) = subst (λ (w : ℕ). Names (Wanted needed w) (left_over 0 asked bs)) (sym width)
    (names-both _ _ (left_over 0 asked bs) (names-from (Has (named scope bs b)) (left_over 0 asked bs) (named-in scope bs b).rest) (left_names (λ c. c < length scope) bs 0 asked (cond-within scope b.filter ok.asks))) in
    subst (λ (w : ℕ). mean tables (filtered (clauses_at (place_in (needed_below needed w)) (left_over 0 asked bs)) (sources_node (split needed 0 asked bs))) ≡ project_rows (needed_below needed w) (filter_rows (ons bs ++ asked) (plans.product (mean tables) start (split needed 0 asked bs))))
    width (chosen-means tables needed bs asked sound (first-plain schema es b.sources plain) names)
    ∙ ap (project_rows (kept scope bs b))
    (ap (filter_rows (ons bs ++ asked)) (product-is schema tables es ks needed [] b.sources 0 asked start stand)
    ∙ filter-agree _ _ (λ row. meets-append (ons bs) asked row ∙ ap₂ (λ x y. x && y) (ons-are schema tables es ks [] b.sources row stand) (placed-true scope row b.filter ∙ ap (λ ts. all_true ts row b.filter) (sym titles))) (answers.product start ss))

rows-are : (schema : SchemaModel) (tables : ℕ → Rows) (es : List Earlier) (ks : List Known) (b : Block) → let scope = scope_of schema es b.sources in let bs = bounds schema es [] b.sources in
    StartsPlain b.sources → AllStand schema tables es ks [] b.sources → Passed scope bs b
    → mean tables (block_node scope bs b) ≡ once_if b.distinct (stepped (place scope) (length scope) b.items (step_of (place scope) b) (chosen_rows (map (standing schema tables ks) b.sources) b.filter))
unfolding block_node
rows-are schema tables es ks b plain stand ok =
    let scope : List Seen = scope_of schema es b.sources in
    let bs : List Bound = bounds schema es [] b.sources in
    distinct-means tables b.distinct _
    ∙ ap (once_if b.distinct) (items-mean tables (kept scope bs b) (place scope) (length scope) b.items (chosen_node scope bs b) _ (step_of (place scope) b) (chosen-is schema tables es ks b plain stand ok) (step-fits schema es b plain ok (step_of (place scope) b) refl))

-- what stands beside a count may stand there
beside : (scope : List Seen) (bs : List Bound) (b : Block) → Passed scope bs b → is_grouped b ≡ true → AllByRecursion (λ i. is_loose scope b.group i.what ≡ false) b.items
beside scope bs b ok e = not-loose scope b.group b.items (ap (λ x. loose_refusal x scope b) (sym e) ∙ ok.alone)

-- a block that is not refused
pub block-is : (schema : SchemaModel) (tables : ℕ → Rows) (es : List Earlier) (ks : List Known) (b : Block) → TablesFit tables 0 schema.tables → AllMatch tables es ks → StartsPlain b.sources
    → block_refusal schema es b ≡ None → Matches tables (block_relation schema es b) (block_means schema tables ks b)
unfolding block_means
block-is schema tables es ks b fit all plain e =
    let scope : List Seen = scope_of schema es b.sources in
    let bs : List Bound = bounds schema es [] b.sources in
    let ss : List Standing = map (standing schema tables ks) b.sources in
    let two = or_none (sources_refusal schema es [] [] b.sources) (after_sources scope bs b) e in
    let stand : AllStand schema tables es ks [] b.sources = all-stand schema tables es ks fit all [] [] b.sources two.0 in
    let titles : all_titles ss ≡ map title_of scope = titles-are schema tables es ks [] b.sources stand in
    let place_is : title_place (all_titles ss) ≡ place scope = fun_ext (λ col. ap (λ ts. title_place ts col) titles ∙ title-place scope col) in
    let long : length (all_titles ss) ≡ length scope = ap length titles ∙ length-map scope title_of in
    let ok : Passed scope bs b = passed scope bs b two.1 in
    let by_step : mean tables (block_node scope bs b) ≡ once_if b.distinct (stepped (place scope) (length scope) b.items (step_of (place scope) b) (chosen_rows ss b.filter)) = rows-are schema tables es ks b plain stand ok in
    let rows : mean tables (block_node scope bs b) ≡ block_rows ss b = by_step
    ∙ sym (ap (once_if b.distinct) (block-shows scope (length scope) b (chosen_rows ss b.filter) (items-within scope b.items ok.shows) (beside scope bs b ok)))
    ∙ sym (ap₂ (λ (at : Col → ℕ) (n : ℕ). once_if b.distinct (shown_rows at b.items (entries at n b.items b.group b.having (chosen_rows ss b.filter)))) place_is long) in
    record {
      names = ◌∙◌ {b = map output_name b.items} (map-map (λ g. g.name) (λ i. record { name = output_name i; kind = what_kind scope i.what }) b.items) (names-are b.items);
      rows = rows;
      wide = subst (λ (n : ℕ). Wide n (mean tables (block_node scope bs b))) (sym (length-map b.items _))
          (subst (λ (xs : Rows). Wide (length b.items) xs) (sym by_step) (once-wide (length b.items) b.distinct _ (stepped-wide (place scope) (length scope) b.items (step_of (place scope) b) (chosen_rows ss b.filter))));
    }

-- ---- the blocks of a query

all-more : (tables : ℕ → Rows) (es : List Earlier) (ks : List Known) (e : Earlier) (k : Known) → AllMatch tables es ks → e.name ≡ k.name → Matches tables e.gives k.gives → AllMatch tables (es ++ e ∷ []) (ks ++ k ∷ [])
all-more tables [] [] e k all h m = (h, m, tt)
all-more tables [] (x ∷ ks) e k all h m = absurd all
all-more tables (x ∷ es) [] e k all h m = absurd all
all-more tables (x ∷ es) (y ∷ ks) e k all h m = (all.0, all.1, all-more tables es ks e k all.2 h m)

-- what is known where the main block begins
pub record Begins (schema : SchemaModel) (tables : ℕ → Rows) (es : List Earlier) (ks : List Known) (main : Block) : Type 0 where
  pub all : AllMatch tables es ks
  pub passes : main_refusal schema es main ≡ None

blocks-are : (schema : SchemaModel) (tables : ℕ → Rows) (main : Block) → TablesFit tables 0 schema.tables → (ns : List Named) (es : List Earlier) (ks : List Known) → AllMatch tables es ks
    → AllByRecursion (λ n. StartsPlain n.block.sources) ns → blocks_refusal schema es ns main ≡ None
    → Begins schema tables (bound_with schema es ns) (with_means schema tables ks ns) main
blocks-are schema tables main fit [] es ks all plain e = record { all = all; passes = e }
blocks-are schema tables main fit (n ∷ ns) es ks all plain e =
    let earlier : Earlier = record { name = n.name.text; gives = block_relation schema es n.block } in
    let known : Known = record { name = n.name.text; gives = block_means schema tables ks n.block } in
    let two = or_none (with_refusal schema es n) (blocks_refusal schema (es ++ earlier ∷ []) ns main) e in
    let here = or_none (block_refusal schema es n.block) _ two.0 in
    blocks-are schema tables main fit ns (es ++ earlier ∷ []) (ks ++ known ∷ [])
    (all-more tables es ks earlier known all refl (block-is schema tables es ks n.block fit all plain.0 here.0)) plain.1 two.1

-- The plan of a query that is not refused means the query's answer, as a list, whatever the tables hold.
pub central : (schema : SchemaModel) (tables : ℕ → Rows) (q : Query) → TablesFit tables 0 schema.tables → IsWritten q → refusal schema q ≡ None → mean tables (root schema q) ≡ answer schema tables q
unfolding refusal answer block_means
central schema tables q fit written e =
    let es : List Earlier = bound_with schema [] q.with in
    let ks : List Known = with_means schema tables [] q.with in
    let begins : Begins schema tables es ks q.main = blocks-are schema tables q.main fit q.with [] [] tt written.0 (or_none (blocks_refusal schema [] q.with q.main) _ e).0 in
    let main : Matches tables (main_relation schema q) (block_means schema tables ks q.main) = block-is schema tables es ks q.main fit begins.all written.1 (or_none (block_refusal schema es q.main) _ begins.passes).0 in
    mean-Top tables (main_relation schema q).plan (order_keys (map output_name q.main.items) q.main.order) q.main.limit
    ∙ ap (top_rows (order_keys (map output_name q.main.items) q.main.order) q.main.limit) main.rows
    ∙ top-is (map output_name q.main.items) q.main.order q.main.limit (block_means schema tables ks q.main).rows
    ∙ ap (λ (outputs : List (List ℕ)). top_rows (ordered_by outputs q.main.order) q.main.limit (block_means schema tables ks q.main).rows) (names-are q.main.items)
