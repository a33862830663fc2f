-- Operators take no words from outside.
use Rattle.std.proofs.Common.{◌≡◌, ℕ, zero, suc, ◌+◌, Bool, true, false, cond, List, [], ◌∷◌, ◌++◌, length, Option, Some, None, refl, arith}
use Rattle.std.specs.List.{count_by}
use Rattle.std.proofs.lemmas.List.Sums.{sum_by-append}
use Rattle.std.specs.Prelude.{slice_index_or, nat_eq}
use Rattle.pdn_base.specs.declared.site.Site.TheVariants.{A, B}
use Rattle.pdn_base.specs.declared.marks.Kind.{Kind}
use Rattle.pdn_base.specs.declared.value.Value.{Value}
use Rattle.pdn_base.specs.declared.order.Key.{Key}
use Rattle.pdn_base.specs.declared.cond.Op.{Op}
use Rattle.pdn_base.specs.declared.cond.Op.TheVariants as op
use Rattle.pdn_base.specs.declared.cond.Term.{Term}
use Rattle.pdn_base.specs.declared.cond.Operand.{Operand}
use Rattle.pdn_base.specs.declared.cond.Operand.TheVariants as operand
use Rattle.pdn_base.specs.declared.cond.Cmp.{Cmp}
use Rattle.pdn_circuit.specs.declared.lay.Pick.{Pick}
use Rattle.pdn_circuit.specs.declared.gate.Gate.{Gate}
use Rattle.pdn_circuit.specs.declared.gate.Gate.TheVariants.{Const, Xor, And, Spread, Move}
use Rattle.pdn_circuit.specs.Gates.{is_input_of, is_given, input_count, given_count}
use Rattle.pdn_circuit.specs.Blocks.{Block, Making, gives, one, ◌>>=◌, each, carry_gates, add_bit_gates}
use Rattle.pdn_circuit.specs.Compare.{not_gates, or_gates, agree_gates, all_gates, all_of_gates, equal_gates, less_gates, sum_gates, plus_gates}
use Rattle.pdn_circuit.specs.Laying.{same_row, run_after, rest_of_run, run_gates, more_runs, word_gates, rows_of_word, lay_gates}
use Rattle.pdn_obl_rows.specs.Lists.{PaddedList}
use Rattle.pdn_obl_rows.specs.Conditions.{added_gates, term_gates, operand_gates, op_gates, cmp_gates, joined_after, joined_by, clause_gates, cond_gates}
use Rattle.pdn_obl_rows.specs.Operators.{filter_word, filter_gates, append_gates, laid_gates, join_word, joined_gates, join_gates, append_picks, plane_of, source_picks, projected}
use Rattle.pdn_obl_group.specs.Loops.{in_turn, each_word, spread_gates, row_gates, match_gates, goes_past, mark_later, later_gates, SpreadRow}
use Rattle.pdn_obl_group.specs.Operators.{distinct_word, distinct_row, unmarked, distinct_gates, Seen, none_seen, group_word, group_row, having_gates, group_valid, first_mentions, group_gates, bit_gates, count_row, count_gates, bit_plane, value_gates, any_row, cut_distinct_gates, cut_group_row, cut_group_gates}
use Rattle.pdn_obl_rank.specs.Keys.{inverted_gates, compared_gates, spread_column}
use Rattle.pdn_obl_rank.specs.Numbers.{Ranked, ranked_of, against_gates, lanes_gates, number_gates}
use Rattle.pdn_obl_rank.specs.Numbers.{row_gates as ranked_row}
use Rattle.pdn_tree.specs.declared.node.Node.TheOpen.{Node-F}
use Rattle.pdn_site.specs.Circuits.{above_gates, grouped_gates, once_gates}
use Rattle.pdn_obl_rank.specs.Tops.{within, limit_gates, kept_gates, top_gates}

-- these gates take no words
pub record TakesNone (gates : List Gate) : Type 0 where
  pub a : input_count A gates ≡ 0
  pub b : input_count B gates ≡ 0
  pub given : given_count gates ≡ 0

pub record Quiet {X : Type 0} (making : Making X) : Type 0 where
  pub at : (n : ℕ) → TakesNone (making n).gates

counts_none : (p : Gate → Bool) (xs ys : List Gate) → count_by p xs ≡ 0 → count_by p ys ≡ 0 → count_by p (xs ++ ys) ≡ 0
counts_none p xs ys h k = omega (arith, h, k, sum_by-append (λ (g : Gate). cond (p g) 1 0) xs ys)

none_append : (xs ys : List Gate) → TakesNone xs → TakesNone ys → TakesNone (xs ++ ys)
none_append xs ys h k = record { a = counts_none (is_input_of A) xs ys h.a k.a; b = counts_none (is_input_of B) xs ys h.b k.b; given = counts_none is_given xs ys h.given k.given }

none : TakesNone []
none = record { a = refl; b = refl; given = refl }

-- ---- how blocks are put together
pub quiet_gives : {X : Type 0} (x : X) → Quiet (gives x)
unfolding gives
quiet_gives x = record { at = λ n. none }

quiet_one : (gate : Gate) → TakesNone (gate ∷ []) → Quiet (one gate)
unfolding one
quiet_one gate h = record { at = λ n. h }

quiet_xor : (a b : ℕ) → Quiet (one (Xor a b))
quiet_xor a b = quiet_one (Xor a b) (record { a = refl; b = refl; given = refl })

quiet_and : (a b : ℕ) → Quiet (one (And a b))
quiet_and a b = quiet_one (And a b) (record { a = refl; b = refl; given = refl })

quiet_const : (w : ℕ) → Quiet (one (Const w))
quiet_const w = quiet_one (Const w) (record { a = refl; b = refl; given = refl })

quiet_spread : (a lane : ℕ) → Quiet (one (Spread a lane))
quiet_spread a lane = quiet_one (Spread a lane) (record { a = refl; b = refl; given = refl })

quiet_move : (a from count to : ℕ) → Quiet (one (Move a from count to))
quiet_move a from count to = quiet_one (Move a from count to) (record { a = refl; b = refl; given = refl })

pub quiet_then : {X Y : Type 0} (first : Making X) (rest : X → Making Y) → Quiet first → ((x : X) → Quiet (rest x)) → Quiet (first >>= rest)
unfolding ◌>>=◌
quiet_then {X} {Y} first rest q r = record { at = λ n. let a : Block X = first n in none_append a.gates (rest a.result (n + length a.gates)).gates (q.at n) ((r a.result).at (n + length a.gates)) }

quiet_if : {X : Type 0} (b : Bool) (x y : Making X) → Quiet x → Quiet y → Quiet (cond b x y)
quiet_if true x y q r = q
quiet_if false x y q r = r

quiet_each : {X Y : Type 0} (f : X → Making Y) → ((x : X) → Quiet (f x)) → (xs : List X) → Quiet (each f xs)
quiet_each f q [] = quiet_gives _
quiet_each f q (x ∷ xs) = quiet_then _ _ (q x) (λ a. quiet_then _ _ (quiet_each f q xs) (λ rest. quiet_gives _))

quiet_turn : {X : Type 0} (step : ℕ → X → Making X) → ((j : ℕ) (x : X) → Quiet (step j x)) → (j left : ℕ) (x : X) → Quiet (in_turn step j left x)
quiet_turn step q j zero x = quiet_gives _
quiet_turn step q j (suc left) x = quiet_then _ _ (q j x) (λ y. quiet_turn step q (j + 1) left y)

quiet_words : {X Y : Type 0} (other : X) (step : ℕ → X → Making Y) → ((w : ℕ) (x : X) → Quiet (step w x)) → (kept : List X) → Quiet (each_word other step kept)
quiet_words other step q kept = quiet_each _ (λ w. q w (slice_index_or kept w other)) _

-- ---- numbers
quiet_not : (x : ℕ) → Quiet (not_gates x)
quiet_not x = quiet_xor _ _

quiet_or : (x y : ℕ) → Quiet (or_gates x y)
quiet_or x y = quiet_then _ _ (quiet_and _ _) (λ both. quiet_then _ _ (quiet_xor _ _) (λ differ. quiet_xor _ _))

quiet_carry : (above : List ℕ) (plane bit : ℕ) → Quiet (carry_gates above plane bit)
quiet_carry [] plane bit = quiet_gives _
quiet_carry (x ∷ xs) plane bit = quiet_and _ _

quiet_add : (planes : List ℕ) (bit : ℕ) → Quiet (add_bit_gates planes bit)
quiet_add [] bit = quiet_gives _
quiet_add (x ∷ xs) bit = quiet_then _ _ (quiet_xor _ _) (λ sum. quiet_then _ _ (quiet_carry xs x bit) (λ carry. quiet_then _ _ (quiet_add xs carry) (λ sums. quiet_gives _)))

quiet_agree : (xs ys : List ℕ) → Quiet (agree_gates xs ys)
quiet_agree [] ys = quiet_gives _
quiet_agree (x ∷ xs) [] = quiet_gives _
quiet_agree (x ∷ xs) (y ∷ ys) = quiet_then _ _ (quiet_xor _ _) (λ differ. quiet_then _ _ (quiet_not _) (λ agree. quiet_then _ _ (quiet_agree xs ys) (λ rest. quiet_gives _)))

quiet_all : (acc : ℕ) (xs : List ℕ) → Quiet (all_gates acc xs)
quiet_all acc [] = quiet_gives _
quiet_all acc (x ∷ xs) = quiet_then _ _ (quiet_and _ _) (λ next. quiet_all next xs)

quiet_all_of : (xs : List ℕ) → Quiet (all_of_gates xs)
quiet_all_of [] = quiet_gives _
quiet_all_of (x ∷ xs) = quiet_all x xs

quiet_equal : (xs ys : List ℕ) → Quiet (equal_gates xs ys)
quiet_equal xs ys = quiet_then _ _ (quiet_agree xs ys) (λ agree. quiet_all_of agree)

quiet_less : (less : ℕ) (xs ys : List ℕ) → Quiet (less_gates less xs ys)
quiet_less less [] ys = quiet_gives _
quiet_less less (x ∷ xs) [] = quiet_gives _
quiet_less less (x ∷ xs) (y ∷ ys) = quiet_then _ _ (quiet_xor _ _) (λ differ. quiet_then _ _ (quiet_xor _ _) (λ change. quiet_then _ _ (quiet_and _ _) (λ changed. quiet_then _ _ (quiet_xor _ _) (λ next. quiet_less next xs ys))))

quiet_sum : (carry : ℕ) (xs ys : List ℕ) → Quiet (sum_gates carry xs ys)
quiet_sum carry [] ys = quiet_gives _
quiet_sum carry (x ∷ xs) [] = quiet_gives _
quiet_sum carry (x ∷ xs) (y ∷ ys) =
    quiet_then _ _ (quiet_xor _ _) (λ u. quiet_then _ _ (quiet_xor _ _) (λ v. quiet_then _ _ (quiet_and _ _) (λ both. quiet_then _ _ (quiet_xor _ _) (λ sum.
    quiet_then _ _ (quiet_xor _ _) (λ next. quiet_then _ _ (quiet_sum next xs ys) (λ rest. quiet_gives _))))))

quiet_plus : (xs : List ℕ) (number : ℕ) → Quiet (plus_gates xs number)
quiet_plus xs number = quiet_sum _ xs _

-- ---- rows laid out
quiet_run : (to : ℕ) (p : Pick) (ps : List Pick) → Quiet (run_gates to p ps)
quiet_run to p ps = quiet_if (nat_eq (run_after same_row p ps) 0) _ _ (quiet_move _ _ _ _) (quiet_then _ _ (quiet_spread _ _) (λ row. quiet_move _ _ _ _))

quiet_runs : (acc to left : ℕ) (ps : List Pick) → Quiet (more_runs acc to left ps)
quiet_runs acc to left [] = quiet_gives _
quiet_runs acc to (suc left) (p ∷ ps) = quiet_runs acc (to + 1) left ps
quiet_runs acc to zero (p ∷ ps) = quiet_then _ _ (quiet_run to p ps) (λ run. quiet_then _ _ (quiet_xor _ _) (λ sum. quiet_runs sum (to + 1) (rest_of_run p ps) ps))

quiet_word : (ps : List Pick) → Quiet (word_gates ps)
quiet_word [] = quiet_gives _
quiet_word (p ∷ ps) = quiet_then _ _ (quiet_run 0 p ps) (λ run. quiet_runs run 1 (rest_of_run p ps) ps)

quiet_lay : (picks : List Pick) → Quiet (lay_gates picks)
quiet_lay picks = quiet_each _ (λ k. quiet_word (rows_of_word picks k)) _

-- ---- conditions
quiet_added : (plus : Option ℕ) (planes : List ℕ) → Quiet (added_gates plus planes)
quiet_added None planes = quiet_gives _
quiet_added (Some n) planes = quiet_plus planes n

quiet_term : (list : PaddedList) (j : ℕ) (t : Term) → Quiet (term_gates list j t)
quiet_term list j t = quiet_added t.plus _

quiet_operand : (list : PaddedList) (j : ℕ) (r : Operand) → Quiet (operand_gates list j r)
quiet_operand list j (operand.Term t) = quiet_term list j t
quiet_operand list j (operand.Int n) = quiet_gives _
quiet_operand list j (operand.Code c) = quiet_gives _

quiet_op : (o : Op) (x y : List ℕ) → Quiet (op_gates o x y)
quiet_op op.Eq x y = quiet_equal x y
quiet_op op.Ne x y = quiet_then _ _ (quiet_equal x y) (λ e. quiet_not e)
quiet_op op.Lt x y = quiet_less _ x y
quiet_op op.Le x y = quiet_then _ _ (quiet_less _ y x) (λ e. quiet_not e)
quiet_op op.Gt x y = quiet_less _ y x
quiet_op op.Ge x y = quiet_then _ _ (quiet_less _ x y) (λ e. quiet_not e)

quiet_cmp : (list : PaddedList) (j : ℕ) (c : Cmp) → Quiet (cmp_gates list j c)
quiet_cmp list j c = quiet_then _ _ (quiet_term list j c.left) (λ x. quiet_then _ _ (quiet_operand list j c.right) (λ y. quiet_op c.op _ _))

quiet_after : {X : Type 0} (gates : X → Making ℕ) (both : ℕ → ℕ → Making ℕ) → ((x : X) → Quiet (gates x)) → ((a b : ℕ) → Quiet (both a b)) → (acc : ℕ) (xs : List X) → Quiet (joined_after gates both acc xs)
quiet_after gates both q r acc [] = quiet_gives _
quiet_after gates both q r acc (x ∷ xs) = quiet_then _ _ (q x) (λ next. quiet_then _ _ (r acc next) (λ acc. quiet_after gates both q r acc xs))

quiet_by : {X : Type 0} (gates : X → Making ℕ) (both : ℕ → ℕ → Making ℕ) → ((x : X) → Quiet (gates x)) → ((a b : ℕ) → Quiet (both a b)) → (other : ℕ) (xs : List X) → Quiet (joined_by gates both other xs)
quiet_by gates both q r other [] = quiet_gives _
quiet_by gates both q r other (x ∷ xs) = quiet_then _ _ (q x) (λ acc. quiet_after gates both q r acc xs)

quiet_clause : (list : PaddedList) (j : ℕ) (clause : List Cmp) → Quiet (clause_gates list j clause)
quiet_clause list j clause = quiet_by _ _ (quiet_cmp list j) quiet_or _ clause

quiet_cond : (list : PaddedList) (j : ℕ) (clauses : List (List Cmp)) → Quiet (cond_gates list j clauses)
quiet_cond list j clauses = quiet_by _ _ (quiet_clause list j) quiet_and _ clauses

-- ---- filter, append, join
pub quiet_filter : (list : PaddedList) (clauses : List (List Cmp)) → Quiet (filter_gates list clauses)
quiet_filter list clauses = quiet_then _ _ (quiet_each (filter_word list clauses) (λ j. quiet_then _ _ (quiet_cond list j clauses) (λ meets. quiet_and _ _)) _) (λ valid. quiet_gives _)

pub quiet_append : (lists : List PaddedList) → Quiet (append_gates lists)
quiet_append lists = quiet_then _ _ (quiet_lay _) (λ valid. quiet_then _ _ (quiet_each _ (λ p. quiet_lay (append_picks (plane_of p) 0 lists)) _) (λ planes. quiet_gives _))

quiet_laid : (source : ℕ → ℕ) (len : ℕ) (list : PaddedList) → Quiet (laid_gates source len list)
quiet_laid source len list = quiet_then _ _ (quiet_lay _) (λ valid. quiet_then _ _ (quiet_each _ (λ plane. quiet_lay (source_picks source len plane)) _) (λ planes. quiet_gives _))

quiet_joined : (both : PaddedList) (right : List ℕ) (on : List (List Cmp)) → Quiet (joined_gates both right on)
quiet_joined both right on = quiet_then _ _ (quiet_each (join_word both right on) (λ j. quiet_then _ _ (quiet_and _ _) (λ valid. quiet_then _ _ (quiet_cond both j on) (λ meets. quiet_and _ _))) _) (λ valid. quiet_gives _)

pub quiet_join : (left right : PaddedList) (on : List (List Cmp)) → Quiet (join_gates left right on)
quiet_join left right on = quiet_then _ _ (quiet_laid _ _ left) (λ l. quiet_then _ _ (quiet_laid _ _ right) (λ r. quiet_joined _ _ on))

-- ---- distinct, group, count
quiet_row : (list : PaddedList) (j : ℕ) → Quiet (row_gates list j)
quiet_row list j = quiet_then _ _ (quiet_spread _ _) (λ valid. quiet_then _ _ (quiet_each (spread_gates j) (λ plane. quiet_spread _ _) _) (λ planes. quiet_gives _))

quiet_match : (list : PaddedList) (row : SpreadRow) (w : ℕ) → Quiet (match_gates list row w)
quiet_match list row w = quiet_then _ _ (quiet_equal _ _) (λ same. quiet_and _ _)

quiet_mark : (w j hit dup : ℕ) → Quiet (mark_later w j hit dup)
quiet_mark w j hit dup = quiet_then _ _ (quiet_move _ _ _ _) (λ later. quiet_or _ _)

quiet_later : (w j hit dup : ℕ) → Quiet (later_gates w j hit dup)
quiet_later w j hit dup = quiet_if (goes_past w j) _ _ (quiet_mark w j hit dup) (quiet_gives _)

quiet_distinct_word : (list : PaddedList) (j : ℕ) (row : SpreadRow) (w dup : ℕ) → Quiet (distinct_word list j row w dup)
quiet_distinct_word list j row w dup = quiet_if (goes_past w j) _ _ (quiet_then _ _ (quiet_match list row w) (λ hit. quiet_mark w j hit dup)) (quiet_gives _)

quiet_distinct_row : (list : PaddedList) (j : ℕ) (dups : List ℕ) → Quiet (distinct_row list j dups)
quiet_distinct_row list j dups = quiet_if _ _ _ (quiet_then _ _ (quiet_row list j) (λ row. quiet_words 0 (distinct_word list j row) (quiet_distinct_word list j row) dups)) (quiet_gives _)

quiet_unmarked : (valid : List ℕ) (w dup : ℕ) → Quiet (unmarked valid w dup)
quiet_unmarked valid w dup = quiet_then _ _ (quiet_not dup) (λ first. quiet_and _ _)

pub quiet_distinct : (list : PaddedList) → Quiet (distinct_gates list)
quiet_distinct list = quiet_then _ _ (quiet_turn (distinct_row list) (quiet_distinct_row list) 0 list.len _) (λ dups. quiet_then _ _ (quiet_words 0 (unmarked list.valid) (quiet_unmarked list.valid) dups) (λ valid. quiet_gives _))

quiet_group_word : (list : PaddedList) (j : ℕ) (row : SpreadRow) (w : ℕ) (seen : Seen) → Quiet (group_word list j row w seen)
quiet_group_word list j row w seen = quiet_then _ _ (quiet_match list row w) (λ hit. quiet_then _ _ (quiet_add seen.count hit) (λ count. quiet_then _ _ (quiet_later w j hit seen.dup) (λ dup. quiet_gives _)))

quiet_group_row : (list : PaddedList) (j : ℕ) (seen : List Seen) → Quiet (group_row list j seen)
quiet_group_row list j seen = quiet_then _ _ (quiet_row list j) (λ row. quiet_words (none_seen 0) (group_word list j row) (quiet_group_word list j row) seen)

quiet_having : (having : Option ℕ) (valid : ℕ) (count : List ℕ) → Quiet (having_gates having valid count)
quiet_having None valid count = quiet_gives _
quiet_having (Some least) valid count = quiet_then _ _ (quiet_less _ _ _) (λ less. quiet_then _ _ (quiet_not less) (λ enough. quiet_and _ _))

quiet_group_valid : (having : Option ℕ) (valid : List ℕ) (w : ℕ) (seen : Seen) → Quiet (group_valid having valid w seen)
quiet_group_valid having valid w seen = quiet_then _ _ (quiet_unmarked valid w seen.dup) (λ first. quiet_having having first _)

pub quiet_group : (list : PaddedList) (keys : List ℕ) (having : Option ℕ) → Quiet (group_gates list keys having)
quiet_group list keys having = quiet_then _ _ (quiet_turn (group_row (projected list (first_mentions keys))) (quiet_group_row (projected list (first_mentions keys))) 0 list.len _) (λ seen. quiet_then _ _ (quiet_words (none_seen 0) (group_valid having list.valid) (quiet_group_valid having list.valid) seen) (λ valid. quiet_gives _))

quiet_bit : (list : PaddedList) (i : ℕ) → Quiet (bit_gates list i)
quiet_bit list i = quiet_move _ _ _ _

pub quiet_count : (list : PaddedList) → Quiet (count_gates list)
quiet_count list = quiet_then _ _ (quiet_turn (count_row list) (λ i counter. quiet_then _ _ (quiet_bit list i) (λ bit. quiet_add counter bit)) 0 list.len _) (λ counter. quiet_then _ _ (quiet_const 1) (λ valid. quiet_gives _))

quiet_plane : (bit : ℕ) → Quiet (bit_plane bit)
quiet_plane bit = quiet_if (nat_eq bit 1) _ _ (quiet_const 1) (quiet_gives _)

quiet_value : (v : Value) (kinds : List Kind) → Quiet (value_gates v kinds)
quiet_value v [] = quiet_gives _
quiet_value v (k ∷ ks) = quiet_then _ _ (quiet_each _ (λ bit. quiet_plane _) _) (λ planes. quiet_then _ _ (quiet_value v ks) (λ rest. quiet_gives _))

pub quiet_cut_distinct : (list : PaddedList) (v : Value) → Quiet (cut_distinct_gates list v)
quiet_cut_distinct list v = quiet_then _ _ (quiet_turn (any_row list) (λ i any. quiet_then _ _ (quiet_bit list i) (λ bit. quiet_or any bit)) 0 list.len _) (λ any. quiet_then _ _ (quiet_value v list.kinds) (λ planes. quiet_gives _))

quiet_cut_row : (list : PaddedList) (i : ℕ) (seen : Seen) → Quiet (cut_group_row list i seen)
quiet_cut_row list i seen = quiet_then _ _ (quiet_bit list i) (λ bit. quiet_then _ _ (quiet_or seen.dup bit) (λ any. quiet_then _ _ (quiet_add seen.count bit) (λ count. quiet_gives _)))

pub quiet_cut_group : (list : PaddedList) (keys : List ℕ) (v : Value) (having : Option ℕ) → Quiet (cut_group_gates list keys v having)
quiet_cut_group list keys v having = quiet_then _ _ (quiet_turn (cut_group_row list) (quiet_cut_row list) 0 list.len _) (λ seen. quiet_then _ _ (quiet_value v _) (λ planes. quiet_then _ _ (quiet_having having seen.dup _) (λ valid. quiet_gives _)))

-- ---- number and top
quiet_compared : (list : PaddedList) (order : List Key) → Quiet (compared_gates list order)
quiet_compared list order = quiet_then _ _ (quiet_each (inverted_gates list) (λ column. quiet_each _ (λ plane. quiet_each not_gates quiet_not plane) _) _) (λ inverted. quiet_gives _)

quiet_column : (used : Bool) (planes : List (List ℕ)) (row : ℕ) → Quiet (spread_column used planes row)
quiet_column true planes row = quiet_each (spread_gates row) (λ plane. quiet_spread _ _) planes
quiet_column false planes row = quiet_gives _

quiet_lanes : (r : Ranked) (j : ℕ) → Quiet (lanes_gates r j)
quiet_lanes r j = quiet_then _ _ (quiet_spread _ _) (λ valid. quiet_then _ _ (quiet_each _ (λ place. quiet_column _ _ j) _) (λ row. quiet_gives _))

quiet_against : (r : Ranked) (valid : ℕ) (part key : List ℕ) (j w : ℕ) (counter : List ℕ) → Quiet (against_gates r valid part key j w counter)
quiet_against r valid part key j w counter =
    quiet_then _ _
    (quiet_then _ _ (quiet_equal _ _) (λ same. quiet_then _ _ (quiet_const _) (λ ties. quiet_then _ _ (quiet_less _ _ _) (λ before. quiet_then _ _ (quiet_and _ _) (λ both. quiet_and _ _)))))
    (λ hit. quiet_add counter hit)

quiet_ranked_row : (r : Ranked) (j : ℕ) (counters : List (List ℕ)) → Quiet (ranked_row r j counters)
quiet_ranked_row r j counters = quiet_then _ _ (quiet_lanes r j) (λ lanes. quiet_words [] (against_gates r lanes.valid lanes.part lanes.key j) (quiet_against r lanes.valid lanes.part lanes.key j) counters)

pub quiet_number : (list : PaddedList) (partition : List ℕ) (order : List Key) → Quiet (number_gates list partition order)
quiet_number list partition order = quiet_then _ _ (quiet_compared list order) (λ columns. quiet_then _ _ (quiet_turn (ranked_row (ranked_of list partition order columns)) (quiet_ranked_row (ranked_of list partition order columns)) 0 list.len _) (λ counters. quiet_gives _))

quiet_limit : (cut : Bool) (list : PaddedList) (order : List Key) (limit : ℕ) → Quiet (limit_gates cut list order limit)
quiet_limit true list order limit = quiet_then _ _ (quiet_number list [] order) (λ numbered. quiet_then _ _ (quiet_filter numbered (within (length list.kinds) limit)) (λ kept. quiet_gives kept.valid))
quiet_limit false list order limit = quiet_gives _

quiet_kept : (list : PaddedList) (order : List Key) (limit : Option ℕ) → Quiet (kept_gates list order limit)
quiet_kept list order None = quiet_gives _
quiet_kept list order (Some limit) = quiet_limit _ list order limit

pub quiet_top : (list : PaddedList) (order : List Key) (limit : Option ℕ) → Quiet (top_gates list order limit)
quiet_top list order limit = quiet_then _ _ (quiet_kept list order limit) (λ valid. quiet_then _ _ (quiet_each _ (λ plane. quiet_each _ (λ w. quiet_and _ _) _) _) (λ planes. quiet_gives _))

-- ---- what an operator makes over the one list that it reads
pub quiet_grouped : (cut : Option Value) (keys : List ℕ) (having : Option ℕ) (list : PaddedList) → Quiet (grouped_gates cut keys having list)
quiet_grouped (Some v) keys having list = quiet_cut_group list keys v having
quiet_grouped None keys having list = quiet_group list keys having

pub quiet_once : (cut : Option Value) (list : PaddedList) → Quiet (once_gates cut list)
quiet_once (Some v) list = quiet_cut_distinct list v
quiet_once None list = quiet_distinct list

pub quiet_above : {X : Type 0} (cut : Option Value) (x : Node-F X) (list : PaddedList) → Quiet (above_gates cut x list)
quiet_above cut (Node-F.Scan table) list = quiet_gives list
quiet_above cut (Node-F.Filter child condition) list = quiet_filter list condition
quiet_above cut (Node-F.Project child columns) list = quiet_gives (projected list columns)
quiet_above cut (Node-F.Join left right on) list = quiet_gives list
quiet_above cut (Node-F.Group child keys having) list = quiet_grouped cut keys having list
quiet_above cut (Node-F.Count child) list = quiet_count list
quiet_above cut (Node-F.Distinct child) list = quiet_once cut list
quiet_above cut (Node-F.Number child partition order) list = quiet_number list partition order
quiet_above cut (Node-F.Top child order limit) list = quiet_top list order limit
