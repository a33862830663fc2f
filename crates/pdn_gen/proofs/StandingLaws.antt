-- The standing queries are written as the law of binding asks, and they bind by the network's schema.
use Rattle.std.proofs.Common.{◌≡◌, ℕ, Bool, true, false, ◌||◌, nat_lt, List, [], ◌∷◌, Option, None, refl, sym, ap, subst, ◌∙◌}
use Rattle.std.specs.List.{AllByRecursion}
use Rattle.pdn_base.specs.Codes.{is_code_byte, is_code, code_number}
use Rattle.pdn_base.specs.declared.marks.Label.{Label}
use Rattle.pdn_base.specs.declared.marks.Label.TheVariants as label
use Rattle.pdn_sql.specs.Part.{many_read}
use Rattle.pdn_sql.specs.Marks.{marked}
use Rattle.pdn_sql.specs.Tokens.{tokens_from, keyword_of, number_token, code_piece, mark_token, word_piece, number_piece, mark_piece, piece_of}
use Rattle.pdn_sql.specs.Grammar.{word_part, mark_part, number, code, op, name, dot_name, col, next_col, cols, plus, term, operand, cmp, next_cmp, cmps, choice, clause, next_clause, cond, direction, order_col, next_order_col, order_cols, partition, window_order, window, row_number, count, what, as_name, item, next_item, items, source_name, source, joined, join, sources, distinct, filter, having, group, order_name, next_order_name, order_names, order, limit, block, named, next_named, nameds, withs, query, file}
use Rattle.pdn_sql.specs.declared.query.Block.{Block}
use Rattle.pdn_sql.specs.declared.query.Query.{Query}
use Rattle.pdn_tree.specs.Shapes.{nodes, node_step, labels, label_step, join_step}
use Rattle.pdn_tree.specs.Plans.{forbidden}
use Rattle.pdn_plan.specs.Answer.{IsWritten}
use Rattle.pdn_plan.specs.Names.{or_else, refuse_if}
use Rattle.pdn_plan.specs.Planning.{scope_of, bounds, bound_with, block_node, root, out_columns}
use Rattle.pdn_plan.specs.Binding.{joins_below, after_given, after_sources, sources_refusal, block_refusal, with_refusal, refusal, plan}
use Rattle.pdn_plan.specs.declared.scope.Refusal.{Refusal}
use Rattle.pdn_plan.specs.declared.scope.Earlier.{Earlier}
use Rattle.pdn_network.specs.Network.{network_schema}
use Rattle.pdn_network.specs.Standing.{standing_text, standing, recurrent_text, common_text, late_text}
use Rattle.pdn_gen.specs.Gen.{Binds}
use Rattle.pdn_gen.proofs.Folds.{at_scan, at_filter, at_project, at_join, at_group, at_count, at_distinct, at_number, at_top}
use Rattle.pdn_gen.proofs.Worded.{numbered_block, recurrent, common, late}

-- what the text says, word by word
standing_is : standing ≡ recurrent ∷ common ∷ late ∷ []
unfolding standing standing_text recurrent_text common_text late_text tokens_from keyword_of number_token code_piece mark_token word_piece number_piece mark_piece piece_of is_code_byte is_code code_number marked many_read word_part mark_part number code op name dot_name col next_col cols plus term operand cmp next_cmp cmps choice clause next_clause cond direction order_col next_order_col order_cols partition window_order window row_number count what as_name item next_item items source_name source joined join sources distinct filter having group order_name next_order_name order_names order limit block named next_named nameds withs query file
standing_is = refl

pub standing_written : AllByRecursion IsWritten standing
standing_written = subst (λ (queries : List Query). AllByRecursion IsWritten queries) (sym standing_is) (((refl, tt), refl), ((tt, refl), ((tt, refl), tt)))

-- ---- no refusal

neither : (x y : Option Refusal) → x ≡ None → y ≡ None → or_else x y ≡ None
neither x y is none = ap (λ (r : Option Refusal). or_else r y) is ∙ none

-- a block of which no source has a Join
one_table : (earlier : List Earlier) (b : Block) → sources_refusal network_schema earlier [] [] b.sources ≡ None → joins_below (bounds network_schema earlier [] b.sources) ≡ false →
    after_given false (scope_of network_schema earlier b.sources) (bounds network_schema earlier [] b.sources) b ≡ None → block_refusal network_schema earlier b ≡ None
unfolding after_sources
one_table earlier b is joins none =
    neither _ _ is (ap (λ (j : Bool). after_given j (scope_of network_schema earlier b.sources) (bounds network_schema earlier [] b.sources) b) joins ∙ none)

-- few nodes
small : (n : ℕ) (most : nat_lt 32 n ≡ false) (q : Query) → nodes (root network_schema q) ≡ n → refuse_if (nat_lt 32 (nodes (root network_schema q))) 8 [] ≡ None
small n most q is = ap (λ (k : ℕ). refuse_if (nat_lt 32 k) 8 []) is ∙ ap (λ (large : Bool). refuse_if large 8 []) most

scan_alone : (h : Bool) → h ≡ false → (h || false) ≡ false
scan_alone h is = ap (λ (j : Bool). j || false) is

-- ---- who fell ill again

recurrent_nodes : nodes (root network_schema recurrent) ≡ 13
unfolding network_schema block_node code_number
recurrent_nodes =
    let numbered = at_number ℕ node_step _ _ _ _ (at_project ℕ node_step _ _ _ (at_filter ℕ node_step _ _ _ (at_scan ℕ node_step 0))) in
    at_top ℕ node_step _ _ _ _ (at_distinct ℕ node_step _ _ (at_project ℕ node_step _ _ _ (at_filter ℕ node_step _ _ _ (at_join ℕ node_step _ _ _ _ _ numbered numbered))))

recurrent_labels : labels network_schema (root network_schema recurrent) ≡ label.Public ∷ []
unfolding network_schema block_node code_number
recurrent_labels =
    let step = label_step network_schema in
    let numbered = at_number (List Label) step _ _ _ _ (at_project (List Label) step _ _ _ (at_filter (List Label) step _ _ _ (at_scan (List Label) step 0))) in
    at_top (List Label) step _ _ _ _ (at_distinct (List Label) step _ _ (at_project (List Label) step _ _ _ (at_filter (List Label) step _ _ _ (at_join (List Label) step _ _ _ _ _ numbered numbered))))

recurrent_binds : Binds network_schema recurrent
unfolding network_schema refusal plan after_sources code_number
recurrent_binds = (
  neither _ _ (neither _ _ (neither _ _ (one_table [] numbered_block refl (scan_alone _ (at_scan Bool join_step 0)) refl) refl) refl) (small 13 refl recurrent recurrent_nodes),
  ap (λ (ls : List Label). forbidden (out_columns (scope_of network_schema (bound_with network_schema [] recurrent.with) recurrent.main.sources) ls 0 recurrent.main.items)) recurrent_labels,
)

-- ---- the two commonest codes

common_nodes : nodes (root network_schema common) ≡ 4
unfolding network_schema block_node
common_nodes = at_top ℕ node_step _ _ _ _ (at_group ℕ node_step _ _ _ _ (at_project ℕ node_step _ _ _ (at_scan ℕ node_step 0)))

common_labels : labels network_schema (root network_schema common) ≡ label.Public ∷ label.Public ∷ []
unfolding network_schema block_node
common_labels =
    let step = label_step network_schema in
    at_top (List Label) step _ _ _ _ (at_group (List Label) step _ _ _ _ (at_project (List Label) step _ _ _ (at_scan (List Label) step 0)))

common_binds : Binds network_schema common
unfolding network_schema refusal plan after_sources
common_binds = (
  neither _ _ (neither _ _ (one_table [] common.main refl (scan_alone _ (at_scan Bool join_step 0)) refl) refl) (small 4 refl common common_nodes),
  ap (λ (ls : List Label). forbidden (out_columns (scope_of network_schema [] common.main.sources) ls 0 common.main.items)) common_labels,
)

-- ---- how many rows are of day 30 or later

late_nodes : nodes (root network_schema late) ≡ 5
unfolding network_schema block_node
late_nodes = at_top ℕ node_step _ _ _ _ (at_count ℕ node_step _ _ (at_project ℕ node_step _ _ _ (at_filter ℕ node_step _ _ _ (at_scan ℕ node_step 0))))

late_labels : labels network_schema (root network_schema late) ≡ label.Public ∷ []
unfolding network_schema block_node
late_labels =
    let step = label_step network_schema in
    at_top (List Label) step _ _ _ _ (at_count (List Label) step _ _ (at_project (List Label) step _ _ _ (at_filter (List Label) step _ _ _ (at_scan (List Label) step 0))))

late_binds : Binds network_schema late
unfolding network_schema refusal plan after_sources
late_binds = (
  neither _ _ (neither _ _ (one_table [] late.main refl (scan_alone _ (at_scan Bool join_step 0)) refl) refl) (small 5 refl late late_nodes),
  ap (λ (ls : List Label). forbidden (out_columns (scope_of network_schema [] late.main.sources) ls 0 late.main.items)) late_labels,
)

-- ---- all three

pub standing_binds : AllByRecursion (Binds network_schema) standing
standing_binds = subst (λ (queries : List Query). AllByRecursion (Binds network_schema) queries) (sym standing_is) (recurrent_binds, (common_binds, (late_binds, tt)))
