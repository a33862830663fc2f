-- Reading each production is exact.
use Rattle.std.proofs.Common.{◌≡◌, ℕ, Bool, true, false, List, [], ◌∷◌, Some, refl}
use Rattle.std.specs.Prelude.{◌||◌}
use Rattle.std.proofs.lemmas.Bool.{false≢true}
use Rattle.pdn_base.specs.declared.cond.Op.TheVariants as ops
use Rattle.pdn_sql.specs.declared.token.Placed.{Placed}
use Rattle.pdn_sql.specs.declared.token.Token.{Token}
use Rattle.pdn_sql.specs.declared.token.Token.TheVariants.{Word, Number, Mark}
use Rattle.pdn_sql.specs.declared.token.Token.TheVariants as tokens
use Rattle.pdn_sql.specs.declared.token.Keyword.{Keyword}
use Rattle.pdn_sql.specs.declared.token.Keyword.TheVariants as words
use Rattle.pdn_sql.specs.declared.token.Symbol.{Symbol}
use Rattle.pdn_sql.specs.declared.token.Symbol.TheVariants as marks
use Rattle.pdn_sql.specs.declared.query.SqlCmp.{SqlCmp}
use Rattle.pdn_sql.specs.declared.query.SqlOperand.TheVariants as operands
use Rattle.pdn_sql.specs.declared.query.What.TheVariants as whats
use Rattle.pdn_sql.specs.Part.{Part, begins, both, option, either, many, made, after, before}
use Rattle.pdn_sql.specs.Grammar.{pick_word, pick_mark, pick_number, pick_code, pick_op, pick_name, row, listed, parens, alone, one_of, is_down, grouped, word_part, mark_part, number, code, op, name, dot_name, col, next_col, cols, plus, term, operand, cmp, next_cmp, cmps, choice, clause, next_clause, cond, direction, order_col, next_order_col, order_cols, partition, window_order, window, row_number, count, what, as_name, item, next_item, items, source_name, source, joined, join, sources, distinct, filter, having, group, order_name, next_order_name, order_names, order, limit, block, named, next_named, nameds, withs, query, file}
use Rattle.pdn_sql.proofs.Exact.{IsExact, IsFull, Apart, Differ, one_exact, both_exact, made_exact, option_exact, either_exact, many_exact}

-- ---- one token

abbrev at : Token → Placed
at t = record { at = 0; token = t }

word_picked : (k : Keyword) → pick_word k (Word k) ≡ Some tt
word_picked words.Select = refl
word_picked words.Distinct = refl
word_picked words.From = refl
word_picked words.As = refl
word_picked words.Join = refl
word_picked words.Inner = refl
word_picked words.On = refl
word_picked words.Where = refl
word_picked words.And = refl
word_picked words.Or = refl
word_picked words.Group = refl
word_picked words.By = refl
word_picked words.Having = refl
word_picked words.Order = refl
word_picked words.Limit = refl
word_picked words.With = refl
word_picked words.Count = refl
word_picked words.RowNumber = refl
word_picked words.Over = refl
word_picked words.Partition = refl
word_picked words.Asc = refl
word_picked words.Desc = refl

mark_picked : (m : Symbol) → pick_mark m (Mark m) ≡ Some tt
mark_picked marks.Open = refl
mark_picked marks.Close = refl
mark_picked marks.Comma = refl
mark_picked marks.Dot = refl
mark_picked marks.Semicolon = refl
mark_picked marks.Star = refl
mark_picked marks.Plus = refl
mark_picked marks.Equal = refl
mark_picked marks.Unequal = refl
mark_picked marks.Less = refl
mark_picked marks.AtMost = refl
mark_picked marks.More = refl
mark_picked marks.AtLeast = refl

pub word_exact : (k : Keyword) → IsExact (word_part k)
unfolding word_part
word_exact k = one_exact (λ p. pick_word k p.token) (at (Word k)) tt (word_picked k)

pub mark_exact : (m : Symbol) → IsExact (mark_part m)
unfolding mark_part
mark_exact m = one_exact (λ p. pick_mark m p.token) (at (Mark m)) tt (mark_picked m)

pub number_exact : IsExact number
unfolding number
number_exact = one_exact (λ p. pick_number p.token) (at (Number 0)) 0 refl

pub code_exact : IsExact code
unfolding code
code_exact = one_exact (λ p. pick_code p.token) (at (tokens.Code 0)) 0 refl

pub op_exact : IsExact op
unfolding op
op_exact = one_exact (λ p. pick_op p.token) (at (Mark marks.Less)) ops.Lt refl

pub name_exact : IsExact name
unfolding name
name_exact = one_exact (λ p. pick_name p.at p.token) (at (tokens.Name [])) (record { text = []; at = 0 }) refl

-- behind a word, a mark, a name, a number or an operator anything may stand
pub behind_word : {B : Type 0} (k : Keyword) (b : Part B) → Apart (word_part k) b
unfolding word_part
behind_word k b = record { at = λ p _. refl }

pub behind_mark : {B : Type 0} (m : Symbol) (b : Part B) → Apart (mark_part m) b
unfolding mark_part
behind_mark m b = record { at = λ p _. refl }

pub behind_name : {B : Type 0} (b : Part B) → Apart name b
unfolding name
behind_name b = record { at = λ p _. refl }

pub behind_op : {B : Type 0} (b : Part B) → Apart op b
unfolding op
behind_op b = record { at = λ p _. refl }

word_full : (k : Keyword) → IsFull (word_part k)
unfolding word_part
word_full k = record { full = refl }

mark_full : (m : Symbol) → IsFull (mark_part m)
unfolding mark_part
mark_full m = record { full = refl }

pub after_word : {B : Type 0} (k : Keyword) (b : Part B) → IsExact b → IsExact (after (word_part k) b)
after_word k b eb = made_exact (λ x. x.1) (both (word_part k) b) (both_exact (word_part k) b (word_exact k) eb (behind_word k b))

pub after_mark : {B : Type 0} (m : Symbol) (b : Part B) → IsExact b → IsExact (after (mark_part m) b)
after_mark m b eb = made_exact (λ x. x.1) (both (mark_part m) b) (both_exact (mark_part m) b (mark_exact m) eb (behind_mark m b))

-- ---- lists and parentheses

pub row_exact : {A : Type 0} (x more : Part A) → IsExact x → IsExact more → IsFull more → Apart x more → Apart more more → IsExact (row x more)
row_exact x more ex em full apart again = made_exact _ (both x (many more)) (both_exact x (many more) ex (many_exact more em full again) (record { at = apart.at }))

pub parens_exact : {A : Type 0} (x : Part A) → IsExact x → Apart x (mark_part marks.Close) → IsExact (parens x)
parens_exact x ex apart = after_mark marks.Open (before x (mark_part marks.Close)) (made_exact (λ y. y.0) (both x (mark_part marks.Close)) (both_exact x (mark_part marks.Close) ex (mark_exact marks.Close) apart))

or_false_right : (b : Bool) → b ≡ b || false
or_false_right true = refl
or_false_right false = refl

-- a part behind a word or a mark begins with it
begins_front : {A B : Type 0} (a : Part A) (b : Part B) → IsFull a → (ts : List Placed) → begins a.starts ts ≡ begins (both a b).starts ts
begins_front a b full [] = refl
begins_front a b full (p ∷ ps) = rw full.full (or_false_right (a.starts p))

-- ---- the productions

pub dot_name_full : IsFull (dot_name)
unfolding mark_part name dot_name
dot_name_full = record { full = refl }

pub dot_name_exact : IsExact dot_name
unfolding dot_name
dot_name_exact = after_mark marks.Dot name name_exact

pub col_exact : IsExact col
unfolding col
col_exact = made_exact _ (both name (option dot_name)) (both_exact name (option dot_name) name_exact (option_exact dot_name dot_name_exact dot_name_full) (behind_name (option dot_name)))

pub col_full : IsFull (col)
unfolding mark_part name dot_name col
col_full = record { full = refl }

pub next_col_exact : IsExact next_col
unfolding next_col
next_col_exact = after_mark marks.Comma col col_exact

pub next_col_full : IsFull (next_col)
unfolding mark_part name dot_name col next_col
next_col_full = record { full = refl }

col_then_col_ends : (place : ℕ) (t : Token) → (next_col).starts (record { at = place; token = t }) ≡ true → (col).goes_on (record { at = place; token = t }) ≡ false
unfolding mark_part name dot_name col next_col
col_then_col_ends place (Mark marks.Comma) h = refl
col_then_col_ends place t h = absurd (false≢true h)

pub col_then_col : Apart (col) (next_col)
col_then_col = record { at = λ p h. col_then_col_ends p.at p.token h }

next_col_again_ends : (place : ℕ) (t : Token) → (next_col).starts (record { at = place; token = t }) ≡ true → (next_col).goes_on (record { at = place; token = t }) ≡ false
unfolding mark_part name dot_name col next_col
next_col_again_ends place (Mark marks.Comma) h = refl
next_col_again_ends place t h = absurd (false≢true h)

pub next_col_again : Apart (next_col) (next_col)
next_col_again = record { at = λ p h. next_col_again_ends p.at p.token h }

pub cols_exact : IsExact cols
unfolding cols
cols_exact = row_exact col next_col col_exact next_col_exact next_col_full col_then_col next_col_again

pub plus_number_full : IsFull (after (mark_part marks.Plus) number)
unfolding mark_part number
plus_number_full = record { full = refl }

pub plus_exact : IsExact plus
unfolding plus
plus_exact = option_exact (after (mark_part marks.Plus) number) (after_mark marks.Plus number number_exact) plus_number_full

col_then_plus_ends : (place : ℕ) (t : Token) → (plus).starts (record { at = place; token = t }) ≡ true → (col).goes_on (record { at = place; token = t }) ≡ false
unfolding mark_part number name dot_name col plus
col_then_plus_ends place (Mark marks.Plus) h = refl
col_then_plus_ends place t h = absurd (false≢true h)

pub col_then_plus : Apart (col) (plus)
col_then_plus = record { at = λ p h. col_then_plus_ends p.at p.token h }

pub term_exact : IsExact term
unfolding term
term_exact = made_exact _ (both col plus) (both_exact col plus col_exact plus_exact col_then_plus)

pub term_full : IsFull (made operands.Term term)
unfolding mark_part number name dot_name col plus term
term_full = record { full = refl }

pub int_full : IsFull (made operands.Int number)
unfolding number
int_full = record { full = refl }

pub code_operand_full : IsFull (made operands.Code code)
unfolding code
code_operand_full = record { full = refl }

pub int_or_code_full : IsFull (either (made operands.Int number) (made operands.Code code))
unfolding number code
int_or_code_full = record { full = refl }

int_no_code_ends : (place : ℕ) (t : Token) → (made operands.Code code).starts (record { at = place; token = t }) ≡ true → (made operands.Int number).starts (record { at = place; token = t }) ≡ false
unfolding number code
int_no_code_ends place (tokens.Code c) h = refl
int_no_code_ends place t h = absurd (false≢true h)

pub int_no_code : Differ (made operands.Int number) (made operands.Code code)
int_no_code = record { at = λ p h. int_no_code_ends p.at p.token h }

term_no_int_ends : (place : ℕ) (t : Token) → (either (made operands.Int number) (made operands.Code code)).starts (record { at = place; token = t }) ≡ true → (made operands.Term term).starts (record { at = place; token = t }) ≡ false
unfolding mark_part number code name dot_name col plus term
term_no_int_ends place (Number n) h = refl
term_no_int_ends place (tokens.Code c) h = refl
term_no_int_ends place t h = absurd (false≢true h)

pub term_no_int : Differ (made operands.Term term) (either (made operands.Int number) (made operands.Code code))
term_no_int = record { at = λ p h. term_no_int_ends p.at p.token h }

pub operand_exact : IsExact operand
unfolding operand
operand_exact = either_exact (made operands.Term term) (either (made operands.Int number) (made operands.Code code)) (made_exact operands.Term term term_exact)
    (either_exact (made operands.Int number) (made operands.Code code) (made_exact operands.Int number number_exact) (made_exact operands.Code code code_exact) int_full code_operand_full int_no_code)
    term_full int_or_code_full term_no_int

term_then_op_ends : (place : ℕ) (t : Token) → (both op operand).starts (record { at = place; token = t }) ≡ true → (term).goes_on (record { at = place; token = t }) ≡ false
unfolding mark_part number code op name dot_name col plus term operand
term_then_op_ends place (Mark marks.Equal) h = refl
term_then_op_ends place (Mark marks.Unequal) h = refl
term_then_op_ends place (Mark marks.Less) h = refl
term_then_op_ends place (Mark marks.AtMost) h = refl
term_then_op_ends place (Mark marks.More) h = refl
term_then_op_ends place (Mark marks.AtLeast) h = refl
term_then_op_ends place t h = absurd (false≢true h)

pub term_then_op : Apart (term) (both op operand)
term_then_op = record { at = λ p h. term_then_op_ends p.at p.token h }

pub cmp_exact : IsExact cmp
unfolding cmp
cmp_exact = made_exact _ (both term (both op operand)) (both_exact term (both op operand) term_exact (both_exact op operand op_exact operand_exact (behind_op operand)) term_then_op)

pub next_cmp_exact : IsExact next_cmp
unfolding next_cmp
next_cmp_exact = after_word words.Or cmp cmp_exact

pub next_cmp_full : IsFull (next_cmp)
unfolding word_part mark_part number code op name dot_name col plus term operand cmp next_cmp
next_cmp_full = record { full = refl }

cmp_then_cmp_ends : (place : ℕ) (t : Token) → (next_cmp).starts (record { at = place; token = t }) ≡ true → (cmp).goes_on (record { at = place; token = t }) ≡ false
unfolding word_part mark_part number code op name dot_name col plus term operand cmp next_cmp
cmp_then_cmp_ends place (Word words.Or) h = refl
cmp_then_cmp_ends place t h = absurd (false≢true h)

pub cmp_then_cmp : Apart (cmp) (next_cmp)
cmp_then_cmp = record { at = λ p h. cmp_then_cmp_ends p.at p.token h }

next_cmp_again_ends : (place : ℕ) (t : Token) → (next_cmp).starts (record { at = place; token = t }) ≡ true → (next_cmp).goes_on (record { at = place; token = t }) ≡ false
unfolding word_part mark_part number code op name dot_name col plus term operand cmp next_cmp
next_cmp_again_ends place (Word words.Or) h = refl
next_cmp_again_ends place t h = absurd (false≢true h)

pub next_cmp_again : Apart (next_cmp) (next_cmp)
next_cmp_again = record { at = λ p h. next_cmp_again_ends p.at p.token h }

pub cmps_exact : IsExact cmps
unfolding cmps
cmps_exact = row_exact cmp next_cmp cmp_exact next_cmp_exact next_cmp_full cmp_then_cmp next_cmp_again

cmps_then_close_ends : (place : ℕ) (t : Token) → (mark_part marks.Close).starts (record { at = place; token = t }) ≡ true → (cmps).goes_on (record { at = place; token = t }) ≡ false
unfolding word_part mark_part number code op name dot_name col plus term operand cmp next_cmp cmps
cmps_then_close_ends place (Mark marks.Close) h = refl
cmps_then_close_ends place t h = absurd (false≢true h)

pub cmps_then_close : Apart (cmps) (mark_part marks.Close)
cmps_then_close = record { at = λ p h. cmps_then_close_ends p.at p.token h }

pub choice_exact : IsExact choice
unfolding choice
choice_exact = parens_exact cmps cmps_exact cmps_then_close

pub alone_cmp_full : IsFull (made (λ (x : SqlCmp). alone x) cmp)
unfolding mark_part number code op name dot_name col plus term operand cmp
alone_cmp_full = record { full = refl }

pub choice_clause_full : IsFull (made (λ (xs : List SqlCmp). one_of xs) choice)
unfolding word_part mark_part number code op name dot_name col plus term operand cmp next_cmp cmps choice
choice_clause_full = record { full = refl }

cmp_no_choice_ends : (place : ℕ) (t : Token) → (made (λ (xs : List SqlCmp). one_of xs) choice).starts (record { at = place; token = t }) ≡ true → (made (λ (x : SqlCmp). alone x) cmp).starts (record { at = place; token = t }) ≡ false
unfolding word_part mark_part number code op name dot_name col plus term operand cmp next_cmp cmps choice
cmp_no_choice_ends place (Mark marks.Open) h = refl
cmp_no_choice_ends place t h = absurd (false≢true h)

pub cmp_no_choice : Differ (made (λ (x : SqlCmp). alone x) cmp) (made (λ (xs : List SqlCmp). one_of xs) choice)
cmp_no_choice = record { at = λ p h. cmp_no_choice_ends p.at p.token h }

pub clause_exact : IsExact clause
unfolding clause
clause_exact = either_exact (made (λ (x : SqlCmp). alone x) cmp) (made (λ (xs : List SqlCmp). one_of xs) choice) (made_exact _ cmp cmp_exact) (made_exact _ choice choice_exact) alone_cmp_full choice_clause_full cmp_no_choice

pub next_clause_exact : IsExact next_clause
unfolding next_clause
next_clause_exact = after_word words.And clause clause_exact

pub next_clause_full : IsFull (next_clause)
unfolding word_part mark_part number code op name dot_name col plus term operand cmp next_cmp cmps choice clause next_clause
next_clause_full = record { full = refl }

clause_then_clause_ends : (place : ℕ) (t : Token) → (next_clause).starts (record { at = place; token = t }) ≡ true → (clause).goes_on (record { at = place; token = t }) ≡ false
unfolding word_part mark_part number code op name dot_name col plus term operand cmp next_cmp cmps choice clause next_clause
clause_then_clause_ends place (Word words.And) h = refl
clause_then_clause_ends place t h = absurd (false≢true h)

pub clause_then_clause : Apart (clause) (next_clause)
clause_then_clause = record { at = λ p h. clause_then_clause_ends p.at p.token h }

next_clause_again_ends : (place : ℕ) (t : Token) → (next_clause).starts (record { at = place; token = t }) ≡ true → (next_clause).goes_on (record { at = place; token = t }) ≡ false
unfolding word_part mark_part number code op name dot_name col plus term operand cmp next_cmp cmps choice clause next_clause
next_clause_again_ends place (Word words.And) h = refl
next_clause_again_ends place t h = absurd (false≢true h)

pub next_clause_again : Apart (next_clause) (next_clause)
next_clause_again = record { at = λ p h. next_clause_again_ends p.at p.token h }

pub cond_exact : IsExact cond
unfolding cond
cond_exact = row_exact clause next_clause clause_exact next_clause_exact next_clause_full clause_then_clause next_clause_again

pub asc_full : IsFull (made (λ (x : Unit {0}). false) (word_part words.Asc))
unfolding word_part
asc_full = record { full = refl }

pub desc_full : IsFull (made (λ (x : Unit {0}). true) (word_part words.Desc))
unfolding word_part
desc_full = record { full = refl }

pub asc_or_desc_full : IsFull (either (made (λ (x : Unit {0}). false) (word_part words.Asc)) (made (λ (x : Unit {0}). true) (word_part words.Desc)))
unfolding word_part
asc_or_desc_full = record { full = refl }

asc_no_desc_ends : (place : ℕ) (t : Token) → (made (λ (x : Unit {0}). true) (word_part words.Desc)).starts (record { at = place; token = t }) ≡ true → (made (λ (x : Unit {0}). false) (word_part words.Asc)).starts (record { at = place; token = t }) ≡ false
unfolding word_part
asc_no_desc_ends place (Word words.Desc) h = refl
asc_no_desc_ends place t h = absurd (false≢true h)

pub asc_no_desc : Differ (made (λ (x : Unit {0}). false) (word_part words.Asc)) (made (λ (x : Unit {0}). true) (word_part words.Desc))
asc_no_desc = record { at = λ p h. asc_no_desc_ends p.at p.token h }

pub direction_exact : IsExact direction
unfolding direction
direction_exact = made_exact is_down (option (either (made (λ (x : Unit {0}). false) (word_part words.Asc)) (made (λ (x : Unit {0}). true) (word_part words.Desc)))) (option_exact (either (made (λ (x : Unit {0}). false) (word_part words.Asc)) (made (λ (x : Unit {0}). true) (word_part words.Desc))) (either_exact (made (λ (x : Unit {0}). false) (word_part words.Asc)) (made (λ (x : Unit {0}). true) (word_part words.Desc)) (made_exact _ (word_part words.Asc) (word_exact words.Asc)) (made_exact _ (word_part words.Desc) (word_exact words.Desc)) asc_full desc_full asc_no_desc) asc_or_desc_full)

col_then_direction_ends : (place : ℕ) (t : Token) → (direction).starts (record { at = place; token = t }) ≡ true → (col).goes_on (record { at = place; token = t }) ≡ false
unfolding word_part mark_part name dot_name col direction
col_then_direction_ends place (Word words.Asc) h = refl
col_then_direction_ends place (Word words.Desc) h = refl
col_then_direction_ends place t h = absurd (false≢true h)

pub col_then_direction : Apart (col) (direction)
col_then_direction = record { at = λ p h. col_then_direction_ends p.at p.token h }

pub order_col_exact : IsExact order_col
unfolding order_col
order_col_exact = made_exact _ (both col direction) (both_exact col direction col_exact direction_exact col_then_direction)

pub next_order_col_exact : IsExact next_order_col
unfolding next_order_col
next_order_col_exact = after_mark marks.Comma order_col order_col_exact

pub next_order_col_full : IsFull (next_order_col)
unfolding word_part mark_part name dot_name col direction order_col next_order_col
next_order_col_full = record { full = refl }

order_col_then_next_ends : (place : ℕ) (t : Token) → (next_order_col).starts (record { at = place; token = t }) ≡ true → (order_col).goes_on (record { at = place; token = t }) ≡ false
unfolding word_part mark_part name dot_name col direction order_col next_order_col
order_col_then_next_ends place (Mark marks.Comma) h = refl
order_col_then_next_ends place t h = absurd (false≢true h)

pub order_col_then_next : Apart (order_col) (next_order_col)
order_col_then_next = record { at = λ p h. order_col_then_next_ends p.at p.token h }

next_order_col_again_ends : (place : ℕ) (t : Token) → (next_order_col).starts (record { at = place; token = t }) ≡ true → (next_order_col).goes_on (record { at = place; token = t }) ≡ false
unfolding word_part mark_part name dot_name col direction order_col next_order_col
next_order_col_again_ends place (Mark marks.Comma) h = refl
next_order_col_again_ends place t h = absurd (false≢true h)

pub next_order_col_again : Apart (next_order_col) (next_order_col)
next_order_col_again = record { at = λ p h. next_order_col_again_ends p.at p.token h }

pub order_cols_exact : IsExact order_cols
unfolding order_cols
order_cols_exact = row_exact order_col next_order_col order_col_exact next_order_col_exact next_order_col_full order_col_then_next next_order_col_again

pub partition_by_full : IsFull (after (word_part words.Partition) (after (word_part words.By) cols))
unfolding word_part mark_part name dot_name col next_col cols
partition_by_full = record { full = refl }

pub partition_exact : IsExact partition
unfolding partition
partition_exact = made_exact listed (option (after (word_part words.Partition) (after (word_part words.By) cols))) (option_exact (after (word_part words.Partition) (after (word_part words.By) cols)) (after_word words.Partition (after (word_part words.By) cols) (after_word words.By cols cols_exact)) partition_by_full)

pub order_by_cols_full : IsFull (after (word_part words.Order) (after (word_part words.By) order_cols))
unfolding word_part mark_part name dot_name col direction order_col next_order_col order_cols
order_by_cols_full = record { full = refl }

pub window_order_exact : IsExact window_order
unfolding window_order
window_order_exact = made_exact listed (option (after (word_part words.Order) (after (word_part words.By) order_cols))) (option_exact (after (word_part words.Order) (after (word_part words.By) order_cols)) (after_word words.Order (after (word_part words.By) order_cols) (after_word words.By order_cols order_cols_exact)) order_by_cols_full)

partition_then_order_ends : (place : ℕ) (t : Token) → (window_order).starts (record { at = place; token = t }) ≡ true → (partition).goes_on (record { at = place; token = t }) ≡ false
unfolding word_part mark_part name dot_name col next_col cols direction order_col next_order_col order_cols partition window_order
partition_then_order_ends place (Word words.Order) h = refl
partition_then_order_ends place t h = absurd (false≢true h)

pub partition_then_order : Apart (partition) (window_order)
partition_then_order = record { at = λ p h. partition_then_order_ends p.at p.token h }

window_then_close_ends : (place : ℕ) (t : Token) → (mark_part marks.Close).starts (record { at = place; token = t }) ≡ true → (both partition window_order).goes_on (record { at = place; token = t }) ≡ false
unfolding word_part mark_part name dot_name col next_col cols direction order_col next_order_col order_cols partition window_order
window_then_close_ends place (Mark marks.Close) h = refl
window_then_close_ends place t h = absurd (false≢true h)

pub window_then_close : Apart (both partition window_order) (mark_part marks.Close)
window_then_close = record { at = λ p h. window_then_close_ends p.at p.token h }

pub window_exact : IsExact window
unfolding window
window_exact = made_exact _ (parens (both partition window_order)) (parens_exact (both partition window_order) (both_exact partition window_order partition_exact window_order_exact partition_then_order) window_then_close)

pub row_number_exact : IsExact row_number
unfolding row_number
row_number_exact = after_word words.RowNumber _ (after_mark marks.Open _ (after_mark marks.Close _ (after_word words.Over window window_exact)))

pub star_then_close : Apart (mark_part marks.Star) (mark_part marks.Close)
unfolding mark_part
star_then_close = record { at = λ p _. refl }

pub count_exact : IsExact count
unfolding count
count_exact = after_word words.Count (parens (mark_part marks.Star)) (parens_exact (mark_part marks.Star) (mark_exact marks.Star) star_then_close)

pub column_what_full : IsFull (made whats.Column col)
unfolding mark_part name dot_name col
column_what_full = record { full = refl }

pub count_what_full : IsFull (made (λ (x : Unit {0}). whats.Count) count)
unfolding word_part mark_part count
count_what_full = record { full = refl }

pub row_number_full : IsFull (row_number)
unfolding word_part mark_part name dot_name col next_col cols direction order_col next_order_col order_cols partition window_order window row_number
row_number_full = record { full = refl }

pub count_or_number_full : IsFull (either (made (λ (x : Unit {0}). whats.Count) count) row_number)
unfolding word_part mark_part name dot_name col next_col cols direction order_col next_order_col order_cols partition window_order window row_number count
count_or_number_full = record { full = refl }

count_no_number_ends : (place : ℕ) (t : Token) → (row_number).starts (record { at = place; token = t }) ≡ true → (made (λ (x : Unit {0}). whats.Count) count).starts (record { at = place; token = t }) ≡ false
unfolding word_part mark_part name dot_name col next_col cols direction order_col next_order_col order_cols partition window_order window row_number count
count_no_number_ends place (Word words.RowNumber) h = refl
count_no_number_ends place t h = absurd (false≢true h)

pub count_no_number : Differ (made (λ (x : Unit {0}). whats.Count) count) (row_number)
count_no_number = record { at = λ p h. count_no_number_ends p.at p.token h }

column_no_count_ends : (place : ℕ) (t : Token) → (either (made (λ (x : Unit {0}). whats.Count) count) row_number).starts (record { at = place; token = t }) ≡ true → (made whats.Column col).starts (record { at = place; token = t }) ≡ false
unfolding word_part mark_part name dot_name col next_col cols direction order_col next_order_col order_cols partition window_order window row_number count
column_no_count_ends place (Word words.Count) h = refl
column_no_count_ends place (Word words.RowNumber) h = refl
column_no_count_ends place t h = absurd (false≢true h)

pub column_no_count : Differ (made whats.Column col) (either (made (λ (x : Unit {0}). whats.Count) count) row_number)
column_no_count = record { at = λ p h. column_no_count_ends p.at p.token h }

pub what_exact : IsExact what
unfolding what
what_exact = either_exact (made whats.Column col) (either (made (λ (x : Unit {0}). whats.Count) count) row_number) (made_exact whats.Column col col_exact) (either_exact (made (λ (x : Unit {0}). whats.Count) count) row_number (made_exact _ count count_exact) row_number_exact count_what_full row_number_full count_no_number) column_what_full count_or_number_full column_no_count

pub as_front_full : IsFull (after (word_part words.As) name)
unfolding word_part name
as_front_full = record { full = refl }

pub as_name_exact : IsExact as_name
unfolding as_name
as_name_exact = option_exact (after (word_part words.As) name) (after_word words.As name name_exact) as_front_full

what_then_as_ends : (place : ℕ) (t : Token) → (as_name).starts (record { at = place; token = t }) ≡ true → (what).goes_on (record { at = place; token = t }) ≡ false
unfolding word_part mark_part name dot_name col next_col cols direction order_col next_order_col order_cols partition window_order window row_number count what as_name
what_then_as_ends place (Word words.As) h = refl
what_then_as_ends place t h = absurd (false≢true h)

pub what_then_as : Apart (what) (as_name)
what_then_as = record { at = λ p h. what_then_as_ends p.at p.token h }

pub item_exact : IsExact item
unfolding item
item_exact = made_exact _ (both what as_name) (both_exact what as_name what_exact as_name_exact what_then_as)

pub next_item_exact : IsExact next_item
unfolding next_item
next_item_exact = after_mark marks.Comma item item_exact

pub next_item_full : IsFull (next_item)
unfolding word_part mark_part name dot_name col next_col cols direction order_col next_order_col order_cols partition window_order window row_number count what as_name item next_item
next_item_full = record { full = refl }

item_then_item_ends : (place : ℕ) (t : Token) → (next_item).starts (record { at = place; token = t }) ≡ true → (item).goes_on (record { at = place; token = t }) ≡ false
unfolding word_part mark_part name dot_name col next_col cols direction order_col next_order_col order_cols partition window_order window row_number count what as_name item next_item
item_then_item_ends place (Mark marks.Comma) h = refl
item_then_item_ends place t h = absurd (false≢true h)

pub item_then_item : Apart (item) (next_item)
item_then_item = record { at = λ p h. item_then_item_ends p.at p.token h }

next_item_again_ends : (place : ℕ) (t : Token) → (next_item).starts (record { at = place; token = t }) ≡ true → (next_item).goes_on (record { at = place; token = t }) ≡ false
unfolding word_part mark_part name dot_name col next_col cols direction order_col next_order_col order_cols partition window_order window row_number count what as_name item next_item
next_item_again_ends place (Mark marks.Comma) h = refl
next_item_again_ends place t h = absurd (false≢true h)

pub next_item_again : Apart (next_item) (next_item)
next_item_again = record { at = λ p h. next_item_again_ends p.at p.token h }

pub items_exact : IsExact items
unfolding items
items_exact = row_exact item next_item item_exact next_item_exact next_item_full item_then_item next_item_again

pub as_word_full : IsFull (word_part words.As)
unfolding word_part
as_word_full = record { full = refl }

as_then_name_ends : (place : ℕ) (t : Token) → (name).starts (record { at = place; token = t }) ≡ true → (option (word_part words.As)).goes_on (record { at = place; token = t }) ≡ false
unfolding word_part name
as_then_name_ends place (tokens.Name text) h = refl
as_then_name_ends place t h = absurd (false≢true h)

pub as_then_name : Apart (option (word_part words.As)) (name)
as_then_name = record { at = λ p h. as_then_name_ends p.at p.token h }

pub source_alias_full : IsFull (after (option (word_part words.As)) name)
unfolding word_part name
source_alias_full = record { full = refl }

pub source_name_exact : IsExact source_name
unfolding source_name
source_name_exact = option_exact (after (option (word_part words.As)) name)
    (made_exact (λ x. x.1) (both (option (word_part words.As)) name) (both_exact (option (word_part words.As)) name (option_exact (word_part words.As) (word_exact words.As) as_word_full) name_exact as_then_name)) source_alias_full

pub source_exact : IsExact source
unfolding source
source_exact = made_exact _ (both name source_name) (both_exact name source_name name_exact source_name_exact (behind_name source_name))

source_then_on_ends : (place : ℕ) (t : Token) → (after (word_part words.On) cond).starts (record { at = place; token = t }) ≡ true → (source).goes_on (record { at = place; token = t }) ≡ false
unfolding word_part mark_part number code op name dot_name col plus term operand cmp next_cmp cmps choice clause next_clause cond source_name source
source_then_on_ends place (Word words.On) h = refl
source_then_on_ends place t h = absurd (false≢true h)

pub source_then_on : Apart (source) (after (word_part words.On) cond)
source_then_on = record { at = λ p h. source_then_on_ends p.at p.token h }

pub joined_exact : IsExact joined
unfolding joined
joined_exact = made_exact _ (after (word_part words.Join) (both source (after (word_part words.On) cond))) (after_word words.Join (both source (after (word_part words.On) cond)) (both_exact source (after (word_part words.On) cond) source_exact (after_word words.On cond cond_exact) source_then_on))

pub inner_full : IsFull (word_part words.Inner)
unfolding word_part
inner_full = record { full = refl }

inner_then_join_ends : (place : ℕ) (t : Token) → (joined).starts (record { at = place; token = t }) ≡ true → (option (word_part words.Inner)).goes_on (record { at = place; token = t }) ≡ false
unfolding word_part mark_part number code op name dot_name col plus term operand cmp next_cmp cmps choice clause next_clause cond source_name source joined
inner_then_join_ends place (Word words.Join) h = refl
inner_then_join_ends place t h = absurd (false≢true h)

pub inner_then_join : Apart (option (word_part words.Inner)) (joined)
inner_then_join = record { at = λ p h. inner_then_join_ends p.at p.token h }

pub join_exact : IsExact join
unfolding join
join_exact = made_exact (λ x. x.1) (both (option (word_part words.Inner)) joined) (both_exact (option (word_part words.Inner)) joined (option_exact (word_part words.Inner) (word_exact words.Inner) inner_full) joined_exact inner_then_join)

pub join_full : IsFull (join)
unfolding word_part mark_part number code op name dot_name col plus term operand cmp next_cmp cmps choice clause next_clause cond source_name source joined join
join_full = record { full = refl }

source_then_join_ends : (place : ℕ) (t : Token) → (join).starts (record { at = place; token = t }) ≡ true → (source).goes_on (record { at = place; token = t }) ≡ false
unfolding word_part mark_part number code op name dot_name col plus term operand cmp next_cmp cmps choice clause next_clause cond source_name source joined join
source_then_join_ends place (Word words.Inner) h = refl
source_then_join_ends place (Word words.Join) h = refl
source_then_join_ends place t h = absurd (false≢true h)

pub source_then_join : Apart (source) (join)
source_then_join = record { at = λ p h. source_then_join_ends p.at p.token h }

join_again_ends : (place : ℕ) (t : Token) → (join).starts (record { at = place; token = t }) ≡ true → (join).goes_on (record { at = place; token = t }) ≡ false
unfolding word_part mark_part number code op name dot_name col plus term operand cmp next_cmp cmps choice clause next_clause cond source_name source joined join
join_again_ends place (Word words.Inner) h = refl
join_again_ends place (Word words.Join) h = refl
join_again_ends place t h = absurd (false≢true h)

pub join_again : Apart (join) (join)
join_again = record { at = λ p h. join_again_ends p.at p.token h }

pub sources_exact : IsExact sources
unfolding sources
sources_exact = row_exact source join source_exact join_exact join_full source_then_join join_again

pub distinct_word_full : IsFull (word_part words.Distinct)
unfolding word_part
distinct_word_full = record { full = refl }

pub distinct_exact : IsExact distinct
unfolding distinct
distinct_exact = made_exact _ (option (word_part words.Distinct)) (option_exact (word_part words.Distinct) (word_exact words.Distinct) distinct_word_full)

pub where_cond_full : IsFull (after (word_part words.Where) cond)
unfolding word_part mark_part number code op name dot_name col plus term operand cmp next_cmp cmps choice clause next_clause cond
where_cond_full = record { full = refl }

pub filter_exact : IsExact filter
unfolding filter
filter_exact = made_exact listed (option (after (word_part words.Where) cond)) (option_exact (after (word_part words.Where) cond) (after_word words.Where cond cond_exact) where_cond_full)

pub behind_count : Apart (count) (after (mark_part marks.AtLeast) number)
unfolding word_part mark_part number count
behind_count = record { at = λ p _. refl }

pub having_front_full : IsFull (after (word_part words.Having) (after count (after (mark_part marks.AtLeast) number)))
unfolding word_part mark_part number count
having_front_full = record { full = refl }

pub having_exact : IsExact having
unfolding having
having_exact = option_exact (after (word_part words.Having) (after count (after (mark_part marks.AtLeast) number))) (after_word words.Having (after count (after (mark_part marks.AtLeast) number)) (made_exact (λ x. x.1) (both count (after (mark_part marks.AtLeast) number)) (both_exact count (after (mark_part marks.AtLeast) number) count_exact (after_mark marks.AtLeast number number_exact) behind_count))) having_front_full

cols_then_having_ends : (place : ℕ) (t : Token) → (having).starts (record { at = place; token = t }) ≡ true → (cols).goes_on (record { at = place; token = t }) ≡ false
unfolding word_part mark_part number name dot_name col next_col cols count having
cols_then_having_ends place (Word words.Having) h = refl
cols_then_having_ends place t h = absurd (false≢true h)

pub cols_then_having : Apart (cols) (having)
cols_then_having = record { at = λ p h. cols_then_having_ends p.at p.token h }

pub group_by_full : IsFull (after (word_part words.Group) (after (word_part words.By) (both cols having)))
unfolding word_part mark_part number name dot_name col next_col cols count having
group_by_full = record { full = refl }

pub group_exact : IsExact group
unfolding group
group_exact = made_exact grouped (option (after (word_part words.Group) (after (word_part words.By) (both cols having)))) (option_exact (after (word_part words.Group) (after (word_part words.By) (both cols having))) (after_word words.Group (after (word_part words.By) (both cols having)) (after_word words.By (both cols having) (both_exact cols having cols_exact having_exact cols_then_having))) group_by_full)

pub order_name_exact : IsExact order_name
unfolding order_name
order_name_exact = made_exact _ (both name direction) (both_exact name direction name_exact direction_exact (behind_name direction))

pub next_order_name_exact : IsExact next_order_name
unfolding next_order_name
next_order_name_exact = after_mark marks.Comma order_name order_name_exact

pub next_order_name_full : IsFull (next_order_name)
unfolding word_part mark_part name direction order_name next_order_name
next_order_name_full = record { full = refl }

order_name_then_next_ends : (place : ℕ) (t : Token) → (next_order_name).starts (record { at = place; token = t }) ≡ true → (order_name).goes_on (record { at = place; token = t }) ≡ false
unfolding word_part mark_part name direction order_name next_order_name
order_name_then_next_ends place (Mark marks.Comma) h = refl
order_name_then_next_ends place t h = absurd (false≢true h)

pub order_name_then_next : Apart (order_name) (next_order_name)
order_name_then_next = record { at = λ p h. order_name_then_next_ends p.at p.token h }

next_order_name_again_ends : (place : ℕ) (t : Token) → (next_order_name).starts (record { at = place; token = t }) ≡ true → (next_order_name).goes_on (record { at = place; token = t }) ≡ false
unfolding word_part mark_part name direction order_name next_order_name
next_order_name_again_ends place (Mark marks.Comma) h = refl
next_order_name_again_ends place t h = absurd (false≢true h)

pub next_order_name_again : Apart (next_order_name) (next_order_name)
next_order_name_again = record { at = λ p h. next_order_name_again_ends p.at p.token h }

pub order_names_exact : IsExact order_names
unfolding order_names
order_names_exact = row_exact order_name next_order_name order_name_exact next_order_name_exact next_order_name_full order_name_then_next next_order_name_again

pub order_by_names_full : IsFull (after (word_part words.Order) (after (word_part words.By) order_names))
unfolding word_part mark_part name direction order_name next_order_name order_names
order_by_names_full = record { full = refl }

pub order_exact : IsExact order
unfolding order
order_exact = made_exact listed (option (after (word_part words.Order) (after (word_part words.By) order_names))) (option_exact (after (word_part words.Order) (after (word_part words.By) order_names)) (after_word words.Order (after (word_part words.By) order_names) (after_word words.By order_names order_names_exact)) order_by_names_full)

pub limit_number_full : IsFull (after (word_part words.Limit) number)
unfolding word_part number
limit_number_full = record { full = refl }

pub limit_exact : IsExact limit
unfolding limit
limit_exact = option_exact (after (word_part words.Limit) number) (after_word words.Limit number number_exact) limit_number_full

order_then_limit_ends : (place : ℕ) (t : Token) → (limit).starts (record { at = place; token = t }) ≡ true → (order).goes_on (record { at = place; token = t }) ≡ false
unfolding word_part mark_part number name direction order_name next_order_name order_names order limit
order_then_limit_ends place (Word words.Limit) h = refl
order_then_limit_ends place t h = absurd (false≢true h)

pub order_then_limit : Apart (order) (limit)
order_then_limit = record { at = λ p h. order_then_limit_ends p.at p.token h }

group_then_ends : (place : ℕ) (t : Token) → (both order limit).starts (record { at = place; token = t }) ≡ true → (group).goes_on (record { at = place; token = t }) ≡ false
unfolding word_part mark_part number name dot_name col next_col cols direction count having group order_name next_order_name order_names order limit
group_then_ends place (Word words.Order) h = refl
group_then_ends place (Word words.Limit) h = refl
group_then_ends place t h = absurd (false≢true h)

pub group_then : Apart (group) (both order limit)
group_then = record { at = λ p h. group_then_ends p.at p.token h }

filter_then_ends : (place : ℕ) (t : Token) → (both group (both order limit)).starts (record { at = place; token = t }) ≡ true → (filter).goes_on (record { at = place; token = t }) ≡ false
unfolding word_part mark_part number code op name dot_name col next_col cols plus term operand cmp next_cmp cmps choice clause next_clause cond direction count filter having group order_name next_order_name order_names order limit
filter_then_ends place (Word words.Group) h = refl
filter_then_ends place (Word words.Order) h = refl
filter_then_ends place (Word words.Limit) h = refl
filter_then_ends place t h = absurd (false≢true h)

pub filter_then : Apart (filter) (both group (both order limit))
filter_then = record { at = λ p h. filter_then_ends p.at p.token h }

sources_then_ends : (place : ℕ) (t : Token) → (both filter (both group (both order limit))).starts (record { at = place; token = t }) ≡ true → (sources).goes_on (record { at = place; token = t }) ≡ false
unfolding word_part mark_part number code op name dot_name col next_col cols plus term operand cmp next_cmp cmps choice clause next_clause cond direction count source_name source joined join sources filter having group order_name next_order_name order_names order limit
sources_then_ends place (Word words.Where) h = refl
sources_then_ends place (Word words.Group) h = refl
sources_then_ends place (Word words.Order) h = refl
sources_then_ends place (Word words.Limit) h = refl
sources_then_ends place t h = absurd (false≢true h)

pub sources_then : Apart (sources) (both filter (both group (both order limit)))
sources_then = record { at = λ p h. sources_then_ends p.at p.token h }

items_then_from_ends : (place : ℕ) (t : Token) → (after (word_part words.From) (both sources (both filter (both group (both order limit))))).starts (record { at = place; token = t }) ≡ true → (items).goes_on (record { at = place; token = t }) ≡ false
unfolding word_part mark_part number code op name dot_name col next_col cols plus term operand cmp next_cmp cmps choice clause next_clause cond direction order_col next_order_col order_cols partition window_order window row_number count what as_name item next_item items source_name source joined join sources filter having group order_name next_order_name order_names order limit
items_then_from_ends place (Word words.From) h = refl
items_then_from_ends place t h = absurd (false≢true h)

pub items_then_from : Apart (items) (after (word_part words.From) (both sources (both filter (both group (both order limit)))))
items_then_from = record { at = λ p h. items_then_from_ends p.at p.token h }

distinct_then_items_ends : (place : ℕ) (t : Token) → (both items (after (word_part words.From) (both sources (both filter (both group (both order limit)))))).starts (record { at = place; token = t }) ≡ true → (distinct).goes_on (record { at = place; token = t }) ≡ false
unfolding word_part mark_part number code op name dot_name col next_col cols plus term operand cmp next_cmp cmps choice clause next_clause cond direction order_col next_order_col order_cols partition window_order window row_number count what as_name item next_item items source_name source joined join sources distinct filter having group order_name next_order_name order_names order limit
distinct_then_items_ends place (Word words.Count) h = refl
distinct_then_items_ends place (Word words.RowNumber) h = refl
distinct_then_items_ends place (tokens.Name text) h = refl
distinct_then_items_ends place t h = absurd (false≢true h)

pub distinct_then_items : Apart (distinct) (both items (after (word_part words.From) (both sources (both filter (both group (both order limit))))))
distinct_then_items = record { at = λ p h. distinct_then_items_ends p.at p.token h }

pub block_exact : IsExact block
unfolding block
block_exact = made_exact _ _ (after_word words.Select _ (both_exact distinct (both items (after (word_part words.From) (both sources (both filter (both group (both order limit)))))) distinct_exact
    (both_exact items (after (word_part words.From) (both sources (both filter (both group (both order limit))))) items_exact
    (after_word words.From (both sources (both filter (both group (both order limit)))) (both_exact sources (both filter (both group (both order limit))) sources_exact
    (both_exact filter (both group (both order limit)) filter_exact
    (both_exact group (both order limit) group_exact
    (both_exact order limit order_exact limit_exact order_then_limit) group_then) filter_then) sources_then)) items_then_from) distinct_then_items))

block_then_close_ends : (place : ℕ) (t : Token) → (mark_part marks.Close).starts (record { at = place; token = t }) ≡ true → (block).goes_on (record { at = place; token = t }) ≡ false
unfolding word_part mark_part number code op name dot_name col next_col cols plus term operand cmp next_cmp cmps choice clause next_clause cond direction order_col next_order_col order_cols partition window_order window row_number count what as_name item next_item items source_name source joined join sources distinct filter having group order_name next_order_name order_names order limit block
block_then_close_ends place (Mark marks.Close) h = refl
block_then_close_ends place t h = absurd (false≢true h)

pub block_then_close : Apart (block) (mark_part marks.Close)
block_then_close = record { at = λ p h. block_then_close_ends p.at p.token h }

pub named_exact : IsExact named
unfolding named
named_exact = made_exact _ (both name (after (word_part words.As) (parens block))) (both_exact name (after (word_part words.As) (parens block)) name_exact (after_word words.As (parens block) (parens_exact block block_exact block_then_close)) (behind_name (after (word_part words.As) (parens block))))

pub next_named_exact : IsExact next_named
unfolding next_named
next_named_exact = after_mark marks.Comma named named_exact

pub next_named_full : IsFull (next_named)
unfolding word_part mark_part number code op name dot_name col next_col cols plus term operand cmp next_cmp cmps choice clause next_clause cond direction order_col next_order_col order_cols partition window_order window row_number count what as_name item next_item items source_name source joined join sources distinct filter having group order_name next_order_name order_names order limit block named next_named
next_named_full = record { full = refl }

pub named_then_named : Apart named next_named
unfolding named block word_part mark_part name
named_then_named = record { at = λ p _. refl }

pub next_named_again : Apart next_named next_named
unfolding next_named named block word_part mark_part name
next_named_again = record { at = λ p _. refl }

pub nameds_exact : IsExact nameds
unfolding nameds
nameds_exact = row_exact named next_named named_exact next_named_exact next_named_full named_then_named next_named_again

pub with_front_full : IsFull (after (word_part words.With) nameds)
unfolding word_part mark_part number code op name dot_name col next_col cols plus term operand cmp next_cmp cmps choice clause next_clause cond direction order_col next_order_col order_cols partition window_order window row_number count what as_name item next_item items source_name source joined join sources distinct filter having group order_name next_order_name order_names order limit block named next_named nameds
with_front_full = record { full = refl }

pub withs_exact : IsExact withs
unfolding withs
withs_exact = made_exact listed (option (after (word_part words.With) nameds)) (option_exact (after (word_part words.With) nameds) (after_word words.With nameds nameds_exact) with_front_full)

withs_then_block_ends : (place : ℕ) (t : Token) → (before block (mark_part marks.Semicolon)).starts (record { at = place; token = t }) ≡ true → (withs).goes_on (record { at = place; token = t }) ≡ false
unfolding word_part mark_part number code op name dot_name col next_col cols plus term operand cmp next_cmp cmps choice clause next_clause cond direction order_col next_order_col order_cols partition window_order window row_number count what as_name item next_item items source_name source joined join sources distinct filter having group order_name next_order_name order_names order limit block named next_named nameds withs
withs_then_block_ends place (Word words.Select) h = refl
withs_then_block_ends place t h = absurd (false≢true h)

pub withs_then_block : Apart (withs) (before block (mark_part marks.Semicolon))
withs_then_block = record { at = λ p h. withs_then_block_ends p.at p.token h }

block_then_end_ends : (place : ℕ) (t : Token) → (mark_part marks.Semicolon).starts (record { at = place; token = t }) ≡ true → (block).goes_on (record { at = place; token = t }) ≡ false
unfolding word_part mark_part number code op name dot_name col next_col cols plus term operand cmp next_cmp cmps choice clause next_clause cond direction order_col next_order_col order_cols partition window_order window row_number count what as_name item next_item items source_name source joined join sources distinct filter having group order_name next_order_name order_names order limit block
block_then_end_ends place (Mark marks.Semicolon) h = refl
block_then_end_ends place t h = absurd (false≢true h)

pub block_then_end : Apart (block) (mark_part marks.Semicolon)
block_then_end = record { at = λ p h. block_then_end_ends p.at p.token h }

pub query_exact : IsExact query
unfolding query
query_exact = made_exact _ (both withs (before block (mark_part marks.Semicolon))) (both_exact withs (before block (mark_part marks.Semicolon)) withs_exact (made_exact (λ x. x.0) (both block (mark_part marks.Semicolon)) (both_exact block (mark_part marks.Semicolon) block_exact (mark_exact marks.Semicolon) block_then_end)) withs_then_block)

pub query_full : IsFull query
unfolding query withs block word_part mark_part
query_full = record { full = refl }

pub query_again : Apart query query
unfolding query withs block word_part mark_part
query_again = record { at = λ p _. refl }

pub file_exact : IsExact file
unfolding file
file_exact = row_exact query query query_exact query_exact query_full query_again query_again

pub next_col_begins : (ts : List Placed) → begins (mark_part marks.Comma).starts ts ≡ begins next_col.starts ts
unfolding next_col
next_col_begins ts = begins_front (mark_part marks.Comma) col (mark_full marks.Comma) ts

pub next_order_col_begins : (ts : List Placed) → begins (mark_part marks.Comma).starts ts ≡ begins next_order_col.starts ts
unfolding next_order_col
next_order_col_begins ts = begins_front (mark_part marks.Comma) order_col (mark_full marks.Comma) ts

pub next_item_begins : (ts : List Placed) → begins (mark_part marks.Comma).starts ts ≡ begins next_item.starts ts
unfolding next_item
next_item_begins ts = begins_front (mark_part marks.Comma) item (mark_full marks.Comma) ts

pub next_order_name_begins : (ts : List Placed) → begins (mark_part marks.Comma).starts ts ≡ begins next_order_name.starts ts
unfolding next_order_name
next_order_name_begins ts = begins_front (mark_part marks.Comma) order_name (mark_full marks.Comma) ts

pub next_named_begins : (ts : List Placed) → begins (mark_part marks.Comma).starts ts ≡ begins next_named.starts ts
unfolding next_named
next_named_begins ts = begins_front (mark_part marks.Comma) named (mark_full marks.Comma) ts

pub next_cmp_begins : (ts : List Placed) → begins (word_part words.Or).starts ts ≡ begins next_cmp.starts ts
unfolding next_cmp
next_cmp_begins ts = begins_front (word_part words.Or) cmp (word_full words.Or) ts

pub next_clause_begins : (ts : List Placed) → begins (word_part words.And).starts ts ≡ begins next_clause.starts ts
unfolding next_clause
next_clause_begins ts = begins_front (word_part words.And) clause (word_full words.And) ts
