-- A block whose tokens have no second ROW_NUMBER has at most one among its items.
use Rattle.std.proofs.Common.{◌≡◌, inl, inr, ℕ, ◌+◌, ◌≤◌, Bool, true, false, cond, List, [], ◌∷◌, ◌++◌, Option, Some, None, refl, sym, ap, subst, ◌∙◌, arith}
use Rattle.std.specs.List.{AllByRecursion}
use Rattle.std.proofs.lemmas.List.Sums.{sum_by-cons}
use Rattle.pdn_sql.specs.declared.token.Placed.{Placed}
use Rattle.pdn_sql.specs.declared.token.Token.{Token}
use Rattle.pdn_sql.specs.declared.token.Token.TheVariants.{Word, Mark}
use Rattle.pdn_sql.specs.declared.token.Keyword.{Keyword}
use Rattle.pdn_sql.specs.declared.token.Keyword.TheVariants as words
use Rattle.pdn_sql.specs.declared.token.Symbol.{Symbol}
use Rattle.pdn_sql.specs.declared.token.Symbol.TheVariants as marks
use Rattle.pdn_sql.specs.declared.query.What.{What}
use Rattle.pdn_sql.specs.declared.query.Item.{Item}
use Rattle.pdn_sql.specs.declared.query.Col.{Col}
use Rattle.pdn_sql.specs.declared.query.OrderName.{OrderName}
use Rattle.pdn_sql.specs.declared.query.SqlClause.{SqlClause}
use Rattle.pdn_sql.specs.declared.query.Source.{Source}
use Rattle.pdn_sql.specs.declared.query.Block.{Block}
use Rattle.pdn_sql.specs.declared.query.Named.{Named}
use Rattle.pdn_sql.specs.declared.query.Query.{Query}
use Rattle.pdn_sql.specs.Part.{Part, both, says_option, option, either, says_all, many, made, after, before}
use Rattle.pdn_sql.specs.Grammar.{word_part, mark_part, name, row, listed, parens, dot_name, col, next_col, cols, is_down, direction, order_col, next_order_col, order_cols, partition, window_order, window, row_number, count, what, as_name, item, next_item, items, sources, distinct, filter, group, order, limit, block, named, next_named, nameds, withs, query}
use Rattle.pdn_sql.specs.Marks.{numbered_after}
use Rattle.pdn_sql.specs.Same.{bare}
use Rattle.pdn_sql.specs.Limits.{is_row_number, row_numbers}
use Rattle.pdn_sql.proofs.Reprints.{bare_more}
use Rattle.pdn_sql.proofs.Nested.{mark_bare, word_bare}
use Rattle.pdn_sql.proofs.Quiet.{NoSecond, second_fresh}
use Rattle.pdn_sql.proofs.RoundTrip.{with_rest, name_bare}

-- ---- tokens without SELECT: a ROW_NUMBER that stands before stays in mind

abbrev pub Steady : List Token → Type 0
Steady [] = Unit {0}
Steady (Word words.Select ∷ ts) = ⊥
Steady (t ∷ ts) = Steady ts

steady_whole : (a b : List Token) → Steady a → Steady b → Steady (a ++ b)
steady_whole [] b g h = h
steady_whole (Word words.Select ∷ a) b g h = absurd g
steady_whole (t ∷ a) b g h = steady_whole a b g h

kept : (ts rest : List Token) → Steady ts → NoSecond true (ts ++ rest) → NoSecond true rest
kept [] rest g h = h
kept (Word words.Select ∷ ts) rest g h = absurd g
kept (Word words.RowNumber ∷ ts) rest g h = absurd h.0
kept (t ∷ ts) rest g h = kept ts rest g h.1

pub dropped : (ts rest : List Token) → NoSecond false (ts ++ rest) → NoSecond false rest
dropped [] rest h = h
dropped (t ∷ ts) rest h = dropped ts rest (second_fresh (ts ++ rest) (numbered_after false t) h.1)

pub record Level {A : Type 0} (g : Part A) : Type 0 where
  pub steady : (x : A) (ts : List Placed) → g.says x ts → Steady (bare ts)

steady_both : (ts f k : List Placed) → ts ≡ f ++ k → Steady (bare f) → Steady (bare k) → Steady (bare ts)
steady_both ts f k is a b = subst Steady (sym (ap bare is ∙ bare_more f k)) (steady_whole (bare f) (bare k) a b)

both_level : {A B : Type 0} (a : Part A) (b : Part B) → Level a → Level b → Level (both a b)
both_level a b la lb = record { steady = λ x ts (f, k, is, sa, sb). steady_both ts f k is (la.steady x.0 f sa) (lb.steady x.1 k sb) }

option_steady : {A : Type 0} (a : Part A) → Level a → (x : Option A) (ts : List Placed) → says_option a x ts → Steady (bare ts)
option_steady a la None ts says = subst Steady (ap bare (sym says)) tt
option_steady a la (Some x) ts says = la.steady x ts says

option_level : {A : Type 0} (a : Part A) → Level a → Level (option a)
option_level a la = record { steady = option_steady a la }

either_level : {A : Type 0} (a b : Part A) → Level a → Level b → Level (either a b)
either_level a b la lb = record { steady = λ x ts says. elim says [ inl h ↦ la.steady x ts h | inr h ↦ lb.steady x ts h ] }

many_steady : {A : Type 0} (a : Part A) → Level a → (xs : List A) (ts : List Placed) → says_all a xs ts → Steady (bare ts)
many_steady a la [] ts says = subst Steady (ap bare (sym says)) tt
many_steady a la (x ∷ xs) ts (f, k, is, says, more) = steady_both ts f k is (la.steady x f says) (many_steady a la xs k more)

made_level : {A B : Type 0} (to : A → B) (a : Part A) → Level a → Level (made to a)
made_level to a la = record { steady = λ y ts (x, is, says). la.steady x ts says }

after_level : {A B : Type 0} (a : Part A) (b : Part B) → Level a → Level b → Level (after a b)
after_level a b la lb = made_level (λ x. x.1) (both a b) (both_level a b la lb)

before_level : {A B : Type 0} (a : Part A) (b : Part B) → Level a → Level b → Level (before a b)
before_level a b la lb = made_level (λ x. x.0) (both a b) (both_level a b la lb)

row_level : {A : Type 0} (x more : Part A) → Level x → Level more → Level (row x more)
row_level x more lx lm = made_level (λ l. l.0 ∷ l.1) (both x (many more)) (both_level x (many more) lx (record { steady = many_steady more lm }))

mark_level : (m : Symbol) → Level (mark_part m)
mark_level m = record { steady = λ x ts says. subst Steady (sym (mark_bare m x ts says)) tt }

word_level : (k : Keyword) → Steady (Word k ∷ []) → Level (word_part k)
word_level k h = record { steady = λ x ts says. subst Steady (sym (word_bare k x ts says)) h }

after_word : {B : Type 0} (k : Keyword) (b : Part B) → Steady (Word k ∷ []) → Level b → Level (after (word_part k) b)
after_word k b h lb = after_level (word_part k) b (word_level k h) lb

after_mark : {B : Type 0} (m : Symbol) (b : Part B) → Level b → Level (after (mark_part m) b)
after_mark m b lb = after_level (mark_part m) b (mark_level m) lb

parens_level : {A : Type 0} (g : Part A) → Level g → Level (parens g)
parens_level g lg = after_mark marks.Open (before g (mark_part marks.Close)) (before_level g (mark_part marks.Close) lg (mark_level marks.Close))

name_level : Level name
name_level = record { steady = λ x ts says. let b = name_bare x ts says in subst Steady (sym b.1) tt }

-- ---- the parts of an item

col_level : Level col
unfolding col dot_name
col_level = made_level _ (both name (option dot_name)) (both_level name (option dot_name) name_level (option_level dot_name (after_mark marks.Dot name name_level)))

cols_level : Level cols
unfolding cols next_col
cols_level = row_level col next_col col_level (after_mark marks.Comma col col_level)

direction_level : Level direction
unfolding direction
direction_level = made_level is_down _ (option_level _ (either_level _ _ (made_level _ (word_part words.Asc) (word_level words.Asc tt)) (made_level _ (word_part words.Desc) (word_level words.Desc tt))))

order_col_level : Level order_col
unfolding order_col
order_col_level = made_level _ (both col direction) (both_level col direction col_level direction_level)

order_cols_level : Level order_cols
unfolding order_cols next_order_col
order_cols_level = row_level order_col next_order_col order_col_level (after_mark marks.Comma order_col order_col_level)

partition_level : Level partition
unfolding partition
partition_level = made_level listed _ (option_level _ (after_word words.Partition _ tt (after_word words.By cols tt cols_level)))

window_order_level : Level window_order
unfolding window_order
window_order_level = made_level listed _ (option_level _ (after_word words.Order _ tt (after_word words.By order_cols tt order_cols_level)))

window_level : Level window
unfolding window
window_level = made_level _ (parens (both partition window_order)) (parens_level (both partition window_order) (both_level partition window_order partition_level window_order_level))

count_level : Level count
unfolding count
count_level = after_word words.Count _ tt (parens_level (mark_part marks.Star) (mark_level marks.Star))

as_name_level : Level as_name
unfolding as_name
as_name_level = option_level _ (after_word words.As name tt name_level)

-- ---- an item

-- a ROW_NUMBER has the word at its front, and no item has SELECT
abbrev ItemTokens : Bool → List Token → Type 0
ItemTokens true ts = (rest : List Token) × (ts ≡ Word words.RowNumber ∷ rest) × Steady rest
ItemTokens false ts = Steady ts

window_number : (w : What) (ts : List Placed) → window.says w ts → is_row_number w ≡ true
unfolding window
window_number w ts (x, to, says) = subst (λ (v : What). is_row_number v ≡ true) to refl

-- behind the word
over_window : Part What
over_window = after (mark_part marks.Open) (after (mark_part marks.Close) (after (word_part words.Over) window))

over_level : Level over_window
unfolding over_window
over_level = after_mark marks.Open _ (after_mark marks.Close _ (after_word words.Over window tt window_level))

over_number : (w : What) (ts : List Placed) → over_window.says w ts → is_row_number w ≡ true
unfolding over_window
over_number w ts (x, to, (f, k, is, open_, (y, chosen, (g, l, more, close, (z, held, (h, m, parts, word, says)))))) =
    subst (λ (v : What). is_row_number v ≡ true) (held ∙ chosen ∙ to) (window_number z.1 m says)

row_number_tokens : (w : What) (ts : List Placed) → row_number.says w ts → ItemTokens (is_row_number w) (bare ts)
unfolding row_number over_window
row_number_tokens w ts (x, to, (f, k, is, word, says)) =
    let numbers : is_row_number w ≡ true = subst (λ (v : What). is_row_number v ≡ true) to (over_number x.1 k says) in
    subst (λ (b : Bool). ItemTokens b (bare ts)) (sym numbers)
    (bare k, ap bare is ∙ bare_more f k ∙ ap (λ (l : List Token). l ++ bare k) (word_bare words.RowNumber x.0 f word), over_level.steady x.1 k says)

what_tokens : (w : What) (ts : List Placed) → what.says w ts → ItemTokens (is_row_number w) (bare ts)
unfolding what
what_tokens w ts says = elim says [
  | inl (c, to, h) ↦ subst (λ (v : What). ItemTokens (is_row_number v) (bare ts)) to (col_level.steady c ts h)
  | inr next ↦ elim next [
    | inl (c, to, h) ↦ subst (λ (v : What). ItemTokens (is_row_number v) (bare ts)) to (count_level.steady c ts h)
    | inr h ↦ row_number_tokens w ts h
  ]
]

item_more : (b : Bool) (ts more : List Token) → ItemTokens b ts → Steady more → ItemTokens b (ts ++ more)
item_more true ts more (rest, is, h) g = (rest ++ more, ap (λ (l : List Token). l ++ more) is, steady_whole rest more h g)
item_more false ts more h g = steady_whole ts more h g

item_tokens : (i : Item) (ts : List Placed) → item.says i ts → ItemTokens (is_row_number i.what) (bare ts)
unfolding item
item_tokens i ts (x, to, (f, k, is, says, alias)) =
    subst (λ (j : Item). ItemTokens (is_row_number j.what) (bare ts)) to
    (subst (ItemTokens (is_row_number x.0)) (sym (ap bare is ∙ bare_more f k)) (item_more (is_row_number x.0) (bare f) (bare k) (what_tokens x.0 f says) (as_name_level.steady x.1 k alias)))

-- ---- items

abbrev bit : Bool → ℕ
bit true = 1
bit false = 0

-- what is in mind behind an item, and how many it adds
pub record Behind (b n : Bool) (rest : List Token) : Type 0 where
  pub then_ : Bool
  pub adds : bit b + bit n ≡ bit then_
  pub quiet : NoSecond then_ rest

behind_item : (b n : Bool) (ts rest : List Token) → ItemTokens b ts → NoSecond n (ts ++ rest) → Behind b n rest
behind_item true true ts rest (more, is, h) q =
    let r = subst (λ (l : List Token). NoSecond true (l ++ rest)) is q in
    absurd r.0
behind_item true false ts rest (more, is, h) q =
    let r = subst (λ (l : List Token). NoSecond false (l ++ rest)) is q in
    record { then_ = true; adds = refl; quiet = kept more rest h r.1 }
behind_item false true ts rest h q = record { then_ = true; adds = refl; quiet = kept ts rest h q }
behind_item false false ts rest h q = record { then_ = false; adds = refl; quiet = dropped ts rest q }

bit-small : (b : Bool) → bit b ≤ 1
bit-small true = omega arith
bit-small false = omega arith

more_numbers : (i : Item) (is : List Item) → row_numbers (i ∷ is) ≡ bit (is_row_number i.what) + row_numbers is
more_numbers i is = sum_by-cons (λ (j : Item). cond (is_row_number j.what) 1 0) i is ∙ ap (λ (n : ℕ). n + row_numbers is) (bit_is (is_row_number i.what))
  where
    bit_is : (b : Bool) → cond b 1 0 ≡ bit b
    bit_is true = refl
    bit_is false = refl

comma_item : (i : Item) (ts : List Placed) → next_item.says i ts → (g : List Placed) × (bare ts ≡ Mark marks.Comma ∷ bare g) × item.says i g
unfolding next_item
comma_item i ts (x, to, (f, k, is, comma, says)) =
    (k, ap bare is ∙ bare_more f k ∙ ap (λ (l : List Token). l ++ bare k) (mark_bare marks.Comma x.0 f comma), subst (λ (j : Item). item.says j k) to says)

next_numbers : (is : List Item) (n : Bool) (ts : List Placed) (rest : List Token) → says_all next_item is ts → NoSecond n (bare ts ++ rest) → row_numbers is + bit n ≤ 1
next_numbers [] n ts rest says q = omega (arith, bit-small n)
next_numbers (i ∷ is) n ts rest (f, k, parts, says, more) q =
    let c = comma_item i f says in
    let e : bare ts ++ rest ≡ Mark marks.Comma ∷ (bare c.0 ++ (bare k ++ rest)) = with_rest ts f k rest parts ∙ ap (λ (l : List Token). l ++ (bare k ++ rest)) c.1 in
    let r = subst (NoSecond n) e q in
    let b = behind_item (is_row_number i.what) n (bare c.0) (bare k ++ rest) (item_tokens i c.0 c.2) r.1 in
    let few = next_numbers is b.then_ k rest more b.quiet in
    omega (arith, few, b.adds, more_numbers i is)

-- ---- from items to a query

-- what holds of the values of a part whose tokens have no second ROW_NUMBER
abbrev Holds : {A : Type 0} → Part A → (A → Type 0) → Type 0
Holds {A} g P = (x : A) (ts : List Placed) (rest : List Token) → g.says x ts → NoSecond false (bare ts ++ rest) → P x

first_quiet : (ts f k : List Placed) (rest : List Token) → ts ≡ f ++ k → NoSecond false (bare ts ++ rest) → NoSecond false (bare f ++ (bare k ++ rest))
first_quiet ts f k rest is q = subst (NoSecond false) (with_rest ts f k rest is) q

both_hold : {A B : Type 0} (a : Part A) (b : Part B) (P : A → Type 0) (Q : B → Type 0) → Holds a P → Holds b Q → Holds (both a b) (λ x. P x.0 × Q x.1)
both_hold a b P Q h g x ts rest (f, k, is, sa, sb) q =
    let front = first_quiet ts f k rest is q in
    (h x.0 f (bare k ++ rest) sa front, g x.1 k rest sb (dropped (bare f) (bare k ++ rest) front))

any_holds : {A : Type 0} (a : Part A) → Holds a (λ x. Unit {0})
any_holds a x ts rest says q = tt

made_holds : {A B : Type 0} (to : A → B) (a : Part A) (P : A → Type 0) (Q : B → Type 0) → ((x : A) → P x → Q (to x)) → Holds a P → Holds (made to a) Q
made_holds to a P Q w h y ts rest (x, is, says) q = subst Q is (w x (h x ts rest says q))

after_holds : {A B : Type 0} (a : Part A) (b : Part B) (Q : B → Type 0) → Holds b Q → Holds (after a b) Q
after_holds a b Q h = made_holds (λ x. x.1) (both a b) (λ x. Unit {0} × Q x.1) Q (λ x k. k.1) (both_hold a b (λ x. Unit {0}) Q (any_holds a) h)

before_holds : {A B : Type 0} (a : Part A) (b : Part B) (P : A → Type 0) → Holds a P → Holds (before a b) P
before_holds a b P h = made_holds (λ x. x.0) (both a b) (λ x. P x.0 × Unit {0}) P (λ x k. k.0) (both_hold a b P (λ x. Unit {0}) h (any_holds b))

many_hold : {A : Type 0} (a : Part A) (P : A → Type 0) → Holds a P → Holds (many a) (λ xs. AllByRecursion P xs)
many_hold a P h [] ts rest says q = tt
many_hold a P h (x ∷ xs) ts rest (f, k, is, says, more) q =
    let front = first_quiet ts f k rest is q in
    (h x f (bare k ++ rest) says front, many_hold a P h xs k rest more (dropped (bare f) (bare k ++ rest) front))

row_holds : {A : Type 0} (x more : Part A) (P : A → Type 0) → Holds x P → Holds more P → Holds (row x more) (λ xs. AllByRecursion P xs)
row_holds x more P h g = made_holds (λ l. l.0 ∷ l.1) (both x (many more)) (λ l. P l.0 × AllByRecursion P l.1) (λ xs. AllByRecursion P xs) (λ l k. k)
    (both_hold x (many more) P (λ xs. AllByRecursion P xs) h (many_hold more P g))

items_hold : Holds items (λ is. row_numbers is ≤ 1)
unfolding items
items_hold is ts rest (l, to, (f, k, parts, says, more)) q =
    let front = first_quiet ts f k rest parts q in
    let b = behind_item (is_row_number l.0.what) false (bare f) (bare k ++ rest) (item_tokens l.0 f says) front in
    let few = next_numbers l.1 b.then_ k rest more b.quiet in
    subst (λ (js : List Item). row_numbers js ≤ 1) to (omega (arith, few, b.adds, more_numbers l.0 l.1))

-- a block from its items on, and from its FROM on
from_on : Part (List Source × (List SqlClause × ((List Col × Option ℕ) × (List OrderName × Option ℕ))))
from_on = after (word_part words.From) (both sources (both filter (both group (both order limit))))

items_on : Holds (both items from_on) (λ x. row_numbers x.0 ≤ 1)
items_on x ts rest says q = (both_hold items from_on (λ is. row_numbers is ≤ 1) (λ y. Unit {0}) items_hold (any_holds from_on) x ts rest says q).0

distinct_on : Holds (both distinct (both items from_on)) (λ x. row_numbers x.1.0 ≤ 1)
distinct_on x ts rest says q = (both_hold distinct (both items from_on) (λ d. Unit {0}) (λ y. row_numbers y.0 ≤ 1) (any_holds distinct) items_on x ts rest says q).1

block_holds : Holds block (λ b. row_numbers b.items ≤ 1)
unfolding block from_on
block_holds b ts rest (x, to, says) q = subst (λ (c : Block). row_numbers c.items ≤ 1) to
    (after_holds (word_part words.Select) (both distinct (both items from_on)) (λ y. row_numbers y.1.0 ≤ 1) distinct_on x ts rest says q)

-- AS ( block )
as_block : Part Block
as_block = after (word_part words.As) (parens block)

as_block_holds : Holds as_block (λ b. row_numbers b.items ≤ 1)
unfolding as_block
as_block_holds = after_holds (word_part words.As) (parens block) (λ b. row_numbers b.items ≤ 1)
    (after_holds (mark_part marks.Open) (before block (mark_part marks.Close)) (λ b. row_numbers b.items ≤ 1)
    (before_holds block (mark_part marks.Close) (λ b. row_numbers b.items ≤ 1) block_holds))

named_holds : Holds named (λ n. row_numbers n.block.items ≤ 1)
unfolding named as_block
named_holds n ts rest (x, to, says) q = subst (λ (m : Named). row_numbers m.block.items ≤ 1) to
    (both_hold name as_block (λ y. Unit {0}) (λ b. row_numbers b.items ≤ 1) (any_holds name) as_block_holds x ts rest says q).1

nameds_hold : Holds nameds (λ ns. AllByRecursion (λ n. row_numbers n.block.items ≤ 1) ns)
unfolding nameds next_named
nameds_hold = row_holds named next_named (λ n. row_numbers n.block.items ≤ 1) named_holds (after_holds (mark_part marks.Comma) named (λ n. row_numbers n.block.items ≤ 1) named_holds)

withs_by : (o : Option (List Named)) (ts : List Placed) (rest : List Token) → says_option (after (word_part words.With) nameds) o ts → NoSecond false (bare ts ++ rest) → AllByRecursion (λ n. row_numbers n.block.items ≤ 1) (listed o)
withs_by None ts rest says q = tt
withs_by (Some ns) ts rest says q = after_holds (word_part words.With) nameds (λ ns. AllByRecursion (λ n. row_numbers n.block.items ≤ 1) ns) nameds_hold ns ts rest says q

withs_hold : Holds withs (λ ns. AllByRecursion (λ n. row_numbers n.block.items ≤ 1) ns)
unfolding withs
withs_hold ns ts rest (o, to, says) q = subst (λ (ms : List Named). AllByRecursion (λ n. row_numbers n.block.items ≤ 1) ms) to (withs_by o ts rest says q)

pub query_holds : Holds query (λ q. AllByRecursion (λ n. row_numbers n.block.items ≤ 1) q.with × (row_numbers q.main.items ≤ 1))
unfolding query
query_holds c ts rest (x, to, says) q = subst (λ (d : Query). AllByRecursion (λ n. row_numbers n.block.items ≤ 1) d.with × (row_numbers d.main.items ≤ 1)) to
    (both_hold withs (before block (mark_part marks.Semicolon)) (λ ns. AllByRecursion (λ n. row_numbers n.block.items ≤ 1) ns) (λ b. row_numbers b.items ≤ 1)
    withs_hold (before_holds block (mark_part marks.Semicolon) (λ b. row_numbers b.items ≤ 1) block_holds) x ts rest says q)
