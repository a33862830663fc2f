-- Parentheses close in each part, and no query ends in it.
use Rattle.std.proofs.Common.{◌≡◌, inl, inr, ℕ, zero, suc, List, [], ◌∷◌, ◌++◌, Option, Some, None, refl, sym, ap, ◌∙◌}
use Rattle.pdn_sql.specs.declared.token.Placed.{Placed}
use Rattle.pdn_sql.specs.declared.token.Token.{Token}
use Rattle.pdn_sql.specs.declared.token.Token.TheVariants.{Word, Number, Mark}
use Rattle.pdn_sql.specs.declared.token.Token.TheVariants as tokens
use Rattle.pdn_sql.specs.declared.token.Keyword.{Keyword}
use Rattle.pdn_sql.specs.declared.token.Keyword.TheVariants as words
use Rattle.pdn_sql.specs.declared.token.Symbol.{Symbol}
use Rattle.pdn_sql.specs.declared.token.Symbol.TheVariants as marks
use Rattle.pdn_sql.specs.declared.query.Name.{Name}
use Rattle.pdn_sql.specs.declared.query.Block.{Block}
use Rattle.pdn_sql.specs.declared.query.SqlOperand.TheVariants as operands
use Rattle.pdn_sql.specs.declared.query.What.TheVariants as whats
use Rattle.pdn_base.specs.declared.cond.Op.{Op}
use Rattle.pdn_sql.specs.Part.{Part, one, both, says_option, option, either, says_all, many, made, after}
use Rattle.pdn_sql.specs.Grammar.{word_part, mark_part, pick_number, number, pick_code, code, pick_op, op, pick_name, name, row, listed, parens, dot_name, col, next_col, cols, plus, term, operand, cmp, next_cmp, cmps, choice, one_of, alone, clause, next_clause, cond, is_down, direction, order_col, next_order_col, order_cols, partition, window_order, window, row_number, count, what, as_name, item, next_item, items, source_name, source, joined, join, sources, distinct, filter, having, grouped, group, order_name, next_order_name, order_names, order, limit, block}
use Rattle.pdn_sql.specs.Same.{bare}
use Rattle.pdn_sql.proofs.Reprints.{bare_more, mark_picked, word_picked}

-- how deep these tokens end, begun so deep, where they neither close what they did not open nor end a query
abbrev pub deep : ℕ → List Token → Option ℕ
deep n [] = Some n
deep n (Mark marks.Open ∷ ts) = deep (suc n) ts
deep zero (Mark marks.Close ∷ ts) = None
deep (suc n) (Mark marks.Close ∷ ts) = deep n ts
deep n (Mark marks.Semicolon ∷ ts) = None
deep n (t ∷ ts) = deep n ts

pub record Nested {A : Type 0} (g : Part A) : Type 0 where
  pub level : (x : A) (ts : List Placed) (n : ℕ) → g.says x ts → deep n (bare ts) ≡ Some n

pub deep_more : (a b : List Token) (n m : ℕ) → deep n a ≡ Some m → deep n (a ++ b) ≡ deep m b
deep_more [] b n m e =
    let same : n ≡ m = cc in
    ap (λ (k : ℕ). deep k b) same
deep_more (Mark marks.Open ∷ a) b n m e = deep_more a b (suc n) m e
deep_more (Mark marks.Close ∷ a) b zero m e = absurd cc
deep_more (Mark marks.Close ∷ a) b (suc n) m e = deep_more a b n m e
deep_more (Mark marks.Semicolon ∷ a) b n m e = absurd cc
deep_more (t ∷ a) b n m e = deep_more a b n m e

pub deep_both : (ts f k : List Placed) (n m l : ℕ) → ts ≡ f ++ k → deep n (bare f) ≡ Some m → deep m (bare k) ≡ Some l → deep n (bare ts) ≡ Some l
deep_both ts f k n m l is a b = ap (λ (x : List Placed). deep n (bare x)) is ∙ ap (deep n) (bare_more f k) ∙ deep_more (bare f) (bare k) n m a ∙ b

one_nested : {A : Type 0} (pick : Placed → Option A) → ((p : Placed) (x : A) (n : ℕ) → pick p ≡ Some x → deep n (p.token ∷ []) ≡ Some n) → Nested (one pick)
one_nested pick h = record { level = λ x ts n (p, picked, is). ap (λ (l : List Placed). deep n (bare l)) is ∙ h p x n picked }

both_nested : {A B : Type 0} (a : Part A) (b : Part B) → Nested a → Nested b → Nested (both a b)
both_nested a b na nb = record { level = λ x ts n (f, k, is, sa, sb). deep_both ts f k n n n is (na.level x.0 f n sa) (nb.level x.1 k n sb) }

option_level : {A : Type 0} (a : Part A) → Nested a → (x : Option A) (ts : List Placed) (n : ℕ) → says_option a x ts → deep n (bare ts) ≡ Some n
option_level a na None ts n says = ap (λ (l : List Placed). deep n (bare l)) says
option_level a na (Some x) ts n says = na.level x ts n says

option_nested : {A : Type 0} (a : Part A) → Nested a → Nested (option a)
option_nested a na = record { level = option_level a na }

either_nested : {A : Type 0} (a b : Part A) → Nested a → Nested b → Nested (either a b)
either_nested a b na nb = record { level = λ x ts n says. elim says [ inl h ↦ na.level x ts n h | inr h ↦ nb.level x ts n h ] }

many_level : {A : Type 0} (a : Part A) → Nested a → (xs : List A) (ts : List Placed) (n : ℕ) → says_all a xs ts → deep n (bare ts) ≡ Some n
many_level a na [] ts n says = ap (λ (l : List Placed). deep n (bare l)) says
many_level a na (x ∷ xs) ts n (f, k, is, says, more) = deep_both ts f k n n n is (na.level x f n says) (many_level a na xs k n more)

many_nested : {A : Type 0} (a : Part A) → Nested a → Nested (many a)
many_nested a na = record { level = many_level a na }

made_nested : {A B : Type 0} (to : A → B) (a : Part A) → Nested a → Nested (made to a)
made_nested to a na = record { level = λ y ts n (x, is, says). na.level x ts n says }

after_nested : {A B : Type 0} (a : Part A) (b : Part B) → Nested a → Nested b → Nested (after a b)
after_nested a b na nb = made_nested (λ x. x.1) (both a b) (both_nested a b na nb)

row_nested : {A : Type 0} (x more : Part A) → Nested x → Nested more → Nested (row x more)
row_nested x more nx nm = made_nested (λ l. l.0 ∷ l.1) (both x (many more)) (both_nested x (many more) nx (many_nested more nm))

pub mark_bare : (m : Symbol) (x : Unit {0}) (ts : List Placed) → (mark_part m).says x ts → bare ts ≡ Mark m ∷ []
unfolding mark_part
mark_bare m x ts (p, picked, is) = ap bare is ∙ sym (mark_picked m p.token x picked)

pub word_bare : (k : Keyword) (x : Unit {0}) (ts : List Placed) → (word_part k).says x ts → bare ts ≡ Word k ∷ []
unfolding word_part
word_bare k x ts (p, picked, is) = ap bare is ∙ sym (word_picked k p.token x picked)

word_nested : (k : Keyword) → Nested (word_part k)
word_nested k = record { level = λ x ts n says. ap (deep n) (word_bare k x ts says) }

mark_nested : (m : Symbol) → ((n : ℕ) → deep n (Mark m ∷ []) ≡ Some n) → Nested (mark_part m)
mark_nested m h = record { level = λ x ts n says. ap (deep n) (mark_bare m x ts says) ∙ h n }

parens_level : {A : Type 0} (g : Part A) → Nested g → (x : A) (ts : List Placed) (n : ℕ) → (parens g).says x ts → deep n (bare ts) ≡ Some n
parens_level g ng x ts n (v, made, (f, k, parts, open_, (w, chosen, (h, l, inside, says, close)))) =
    deep_both ts f k n (suc n) n parts (ap (deep n) (mark_bare marks.Open v.0 f open_))
    (deep_both k h l (suc n) (suc n) n inside (ng.level w.0 h (suc n) says) (ap (deep (suc n)) (mark_bare marks.Close w.1 l close)))

parens_nested : {A : Type 0} (g : Part A) → Nested g → Nested (parens g)
parens_nested g ng = record { level = parens_level g ng }

-- ROW_NUMBER and COUNT have a pair of parentheses of their own
pair_level : {A : Type 0} (g : Part A) → Nested g → (x : A) (ts : List Placed) (n : ℕ) → (after (mark_part marks.Open) (after (mark_part marks.Close) g)).says x ts → deep n (bare ts) ≡ Some n
pair_level g ng x ts n (v, made, (f, k, parts, open_, (w, chosen, (h, l, inside, close, says)))) =
    deep_both ts f k n (suc n) n parts (ap (deep n) (mark_bare marks.Open v.0 f open_))
    (deep_both k h l (suc n) n n inside (ap (deep (suc n)) (mark_bare marks.Close w.0 h close)) (ng.level w.1 l n says))

number_flat : (t : Token) (x n : ℕ) → pick_number t ≡ Some x → deep n (t ∷ []) ≡ Some n
number_flat (Number k) x n e = refl
number_flat t x n e = absurd cc

number_nested : Nested number
unfolding number
number_nested = one_nested (λ p. pick_number p.token) (λ p x n picked. number_flat p.token x n picked)

code_flat : (t : Token) (x n : ℕ) → pick_code t ≡ Some x → deep n (t ∷ []) ≡ Some n
code_flat (tokens.Code k) x n e = refl
code_flat t x n e = absurd cc

code_nested : Nested code
unfolding code
code_nested = one_nested (λ p. pick_code p.token) (λ p x n picked. code_flat p.token x n picked)

op_flat : (t : Token) (x : Op) (n : ℕ) → pick_op t ≡ Some x → deep n (t ∷ []) ≡ Some n
op_flat (Mark marks.Equal) x n e = refl
op_flat (Mark marks.Unequal) x n e = refl
op_flat (Mark marks.Less) x n e = refl
op_flat (Mark marks.AtMost) x n e = refl
op_flat (Mark marks.More) x n e = refl
op_flat (Mark marks.AtLeast) x n e = refl
op_flat t x n e = absurd cc

op_nested : Nested op
unfolding op
op_nested = one_nested (λ p. pick_op p.token) (λ p x n picked. op_flat p.token x n picked)

name_flat : (a : ℕ) (t : Token) (x : Name) (n : ℕ) → pick_name a t ≡ Some x → deep n (t ∷ []) ≡ Some n
name_flat a (tokens.Name text) x n e = refl
name_flat a t x n e = absurd cc

name_nested : Nested name
unfolding name
name_nested = one_nested (λ p. pick_name p.at p.token) (λ p x n picked. name_flat p.at p.token x n picked)

after_word : {B : Type 0} (k : Keyword) (b : Part B) → Nested b → Nested (after (word_part k) b)
after_word k b nb = after_nested (word_part k) b (word_nested k) nb

comma_nested : {B : Type 0} (b : Part B) → Nested b → Nested (after (mark_part marks.Comma) b)
comma_nested b nb = after_nested (mark_part marks.Comma) b (mark_nested marks.Comma (λ n. refl)) nb

dot_name_nested : Nested dot_name
unfolding dot_name
dot_name_nested = after_nested (mark_part marks.Dot) name (mark_nested marks.Dot (λ n. refl)) name_nested

col_nested : Nested col
unfolding col
col_nested = made_nested _ (both name (option dot_name)) (both_nested name (option dot_name) name_nested (option_nested dot_name dot_name_nested))

cols_nested : Nested cols
unfolding cols next_col
cols_nested = row_nested col _ col_nested (comma_nested col col_nested)

plus_nested : Nested plus
unfolding plus
plus_nested = option_nested _ (after_nested (mark_part marks.Plus) number (mark_nested marks.Plus (λ n. refl)) number_nested)

term_nested : Nested term
unfolding term
term_nested = made_nested _ (both col plus) (both_nested col plus col_nested plus_nested)

operand_nested : Nested operand
unfolding operand
operand_nested = either_nested _ _ (made_nested operands.Term term term_nested) (either_nested _ _ (made_nested operands.Int number number_nested) (made_nested operands.Code code code_nested))

cmp_nested : Nested cmp
unfolding cmp
cmp_nested = made_nested _ (both term (both op operand)) (both_nested term (both op operand) term_nested (both_nested op operand op_nested operand_nested))

cmps_nested : Nested cmps
unfolding cmps next_cmp
cmps_nested = row_nested cmp _ cmp_nested (after_word words.Or cmp cmp_nested)

choice_nested : Nested choice
unfolding choice
choice_nested = parens_nested cmps cmps_nested

clause_nested : Nested clause
unfolding clause
clause_nested = either_nested _ _ (made_nested alone cmp cmp_nested) (made_nested one_of choice choice_nested)

cond_nested : Nested cond
unfolding cond next_clause
cond_nested = row_nested clause _ clause_nested (after_word words.And clause clause_nested)

direction_nested : Nested direction
unfolding direction
direction_nested = made_nested is_down _ (option_nested _ (either_nested _ _ (made_nested _ (word_part words.Asc) (word_nested words.Asc)) (made_nested _ (word_part words.Desc) (word_nested words.Desc))))

order_col_nested : Nested order_col
unfolding order_col
order_col_nested = made_nested _ (both col direction) (both_nested col direction col_nested direction_nested)

order_cols_nested : Nested order_cols
unfolding order_cols next_order_col
order_cols_nested = row_nested order_col _ order_col_nested (comma_nested order_col order_col_nested)

partition_nested : Nested partition
unfolding partition
partition_nested = made_nested listed _ (option_nested _ (after_word words.Partition _ (after_word words.By cols cols_nested)))

window_order_nested : Nested window_order
unfolding window_order
window_order_nested = made_nested listed _ (option_nested _ (after_word words.Order _ (after_word words.By order_cols order_cols_nested)))

window_nested : Nested window
unfolding window
window_nested = made_nested _ (parens (both partition window_order)) (parens_nested (both partition window_order) (both_nested partition window_order partition_nested window_order_nested))

row_number_nested : Nested row_number
unfolding row_number
row_number_nested = after_word words.RowNumber _ (record { level = pair_level _ (after_word words.Over window window_nested) })

count_nested : Nested count
unfolding count
count_nested = after_word words.Count _ (parens_nested (mark_part marks.Star) (mark_nested marks.Star (λ n. refl)))

what_nested : Nested what
unfolding what
what_nested = either_nested _ _ (made_nested whats.Column col col_nested) (either_nested _ _ (made_nested _ count count_nested) row_number_nested)

as_name_nested : Nested as_name
unfolding as_name
as_name_nested = option_nested _ (after_word words.As name name_nested)

item_nested : Nested item
unfolding item
item_nested = made_nested _ (both what as_name) (both_nested what as_name what_nested as_name_nested)

items_nested : Nested items
unfolding items next_item
items_nested = row_nested item _ item_nested (comma_nested item item_nested)

source_name_nested : Nested source_name
unfolding source_name
source_name_nested = option_nested _ (after_nested (option (word_part words.As)) name (option_nested (word_part words.As) (word_nested words.As)) name_nested)

source_nested : Nested source
unfolding source
source_nested = made_nested _ (both name source_name) (both_nested name source_name name_nested source_name_nested)

joined_nested : Nested joined
unfolding joined
joined_nested = made_nested _ _ (after_word words.Join _ (both_nested source (after (word_part words.On) cond) source_nested (after_word words.On cond cond_nested)))

join_nested : Nested join
unfolding join
join_nested = after_nested (option (word_part words.Inner)) joined (option_nested (word_part words.Inner) (word_nested words.Inner)) joined_nested

sources_nested : Nested sources
unfolding sources
sources_nested = row_nested source join source_nested join_nested

distinct_nested : Nested distinct
unfolding distinct
distinct_nested = made_nested _ _ (option_nested (word_part words.Distinct) (word_nested words.Distinct))

filter_nested : Nested filter
unfolding filter
filter_nested = made_nested listed _ (option_nested _ (after_word words.Where cond cond_nested))

having_nested : Nested having
unfolding having
having_nested = option_nested _ (after_word words.Having _ (after_nested count _ count_nested (after_nested (mark_part marks.AtLeast) number (mark_nested marks.AtLeast (λ n. refl)) number_nested)))

group_nested : Nested group
unfolding group
group_nested = made_nested grouped _ (option_nested _ (after_word words.Group _ (after_word words.By _ (both_nested cols having cols_nested having_nested))))

order_name_nested : Nested order_name
unfolding order_name
order_name_nested = made_nested _ (both name direction) (both_nested name direction name_nested direction_nested)

order_names_nested : Nested order_names
unfolding order_names next_order_name
order_names_nested = row_nested order_name _ order_name_nested (comma_nested order_name order_name_nested)

order_nested : Nested order
unfolding order
order_nested = made_nested listed _ (option_nested _ (after_word words.Order _ (after_word words.By order_names order_names_nested)))

limit_nested : Nested limit
unfolding limit
limit_nested = option_nested _ (after_word words.Limit number number_nested)

-- a block: SELECT, and then what opens and closes its own parentheses
pub record Front (ts : List Placed) : Type 0 where
  pub rest : List Token
  pub is : bare ts ≡ Word words.Select ∷ rest
  pub level : (n : ℕ) → deep n rest ≡ Some n

pub block_front : (b : Block) (ts : List Placed) → block.says b ts → Front ts
unfolding block
block_front b ts (x, made, (v, chosen, (f, k, is, word, says))) = record {
  rest = bare k;
  is = ap bare is ∙ bare_more f k ∙ ap (λ (l : List Token). l ++ bare k) (word_bare words.Select v.0 f word);
  level = λ n. (both_nested distinct _ distinct_nested (both_nested items _ items_nested (after_word words.From _ (both_nested sources _ sources_nested (both_nested filter _ filter_nested (both_nested group _ group_nested (both_nested order limit order_nested limit_nested))))))).level v.1 k n says;
}
