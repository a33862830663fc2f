-- The printed tokens of what is said say the same again, but for places.
use Rattle.std.proofs.Common.{◌≡◌, inl, inr, ℕ, Bool, true, false, List, [], ◌∷◌, ◌++◌, Option, Some, None, refl, sym, ap, subst, ◌∙◌, append_assoc}
use Rattle.std.specs.Prelude.{if◌then◌else◌}
use Rattle.std.proofs.lemmas.Bool.{false≢true}
use Rattle.std.proofs.lemmas.List.{append-nil}
use Rattle.pdn_base.specs.declared.cond.Op.{Op}
use Rattle.pdn_base.specs.declared.cond.Op.TheVariants as ops
use Rattle.pdn_sql.specs.declared.token.Placed.{Placed}
use Rattle.pdn_sql.specs.declared.token.Token.{Token}
use Rattle.pdn_sql.specs.declared.token.Token.TheVariants.{Word, Number, Mark}
use Rattle.pdn_sql.specs.declared.token.Token.TheVariants as tokens
use Rattle.pdn_sql.specs.declared.token.Keyword.{Keyword}
use Rattle.pdn_sql.specs.declared.token.Keyword.TheVariants as words
use Rattle.pdn_sql.specs.declared.token.Symbol.{Symbol}
use Rattle.pdn_sql.specs.declared.token.Symbol.TheVariants as marks
use Rattle.pdn_sql.specs.declared.query.Name.{Name}
use Rattle.pdn_sql.specs.declared.query.Col.{Col}
use Rattle.pdn_sql.specs.declared.query.What.{What}
use Rattle.pdn_sql.specs.declared.query.What.TheVariants as whats
use Rattle.pdn_sql.specs.declared.query.SqlCmp.{SqlCmp}
use Rattle.pdn_sql.specs.declared.query.SqlClause.{SqlClause}
use Rattle.pdn_sql.specs.declared.query.SqlOperand.TheVariants as operands
use Rattle.pdn_sql.specs.declared.query.OrderCol.{OrderCol}
use Rattle.pdn_sql.specs.declared.query.OrderName.{OrderName}
use Rattle.pdn_sql.specs.declared.query.Named.{Named}
use Rattle.pdn_sql.specs.Part.{Part, is_some, one, both, says_option, option, either, says_all, many, made, after, before}
use Rattle.pdn_sql.specs.Grammar.{is_word, pick_word, word_part, is_mark, pick_mark, mark_part, pick_number, number, pick_code, code, pick_op, op, pick_name, name, row, listed, parens, dot_name, column_of, col, next_col, cols, plus, term, operand, cmp, next_cmp, cmps, choice, one_of, alone, clause, next_clause, cond, direction, order_col, next_order_col, order_cols, partition, window_order, window, row_number, count, what, as_name, item, next_item, items, source_name, source, joined_on, joined, join, sources, distinct, filter, having, grouped, group, order_name, next_order_name, order_names, order, limit, block, named, next_named, nameds, withs, query}
use Rattle.pdn_sql.specs.Same.{bare, same_option, same_all, SameName, SameCol, SameOrderCol, SameOrderName, SameWhat, SameItem, SameTerm, SameOperand, SameCmp, SameClause, SameSource, SameBlock, SameNamed, SameQuery}
use Rattle.pdn_sql.proofs.Good.{NoBad, fair_whole, AllGood, good_parts, good_whole}
use Rattle.pdn_sql.specs.Printing.{each, between, maybe, name_tokens, col_tokens, plus_tokens, term_tokens, operand_tokens, op_mark, cmp_tokens, clause_tokens, cond_tokens, down_tokens, order_col_tokens, partition_tokens, window_order_tokens, what_tokens, alias_tokens, item_tokens, source_tokens, join_tokens, sources_tokens, distinct_tokens, filter_tokens, having_tokens, group_tokens, order_name_tokens, order_tokens, limit_tokens, block_tokens, named_tokens, with_tokens, query_tokens}

-- of these, the words SELECT and ROW_NUMBER
abbrev pub signs : List Token → List Token
signs [] = []
signs (Word words.Select ∷ ts) = Word words.Select ∷ signs ts
signs (Word words.RowNumber ∷ ts) = Word words.RowNumber ∷ signs ts
signs (t ∷ ts) = signs ts

pub record Again {A : Type 0} (g : Part A) (same : A → A → Type 0) (x : A) (ts us : List Placed) : Type 0 where
  pub value : A
  pub is : same x value
  pub says : g.says value us
  pub signed : signs (bare us) ≡ signs (bare ts)
  pub fair : NoBad (bare ts)
  pub kept : AllGood (bare ts) → AllGood (bare us)

pub record Reprints {A : Type 0} (g : Part A) (same : A → A → Type 0) (print : A → List Token) : Type 0 where
  pub again : (x : A) (ts us : List Placed) → g.says x ts → bare us ≡ print x → Again g same x ts us

-- ---- lists of tokens

pub bare_more : (f k : List Placed) → bare (f ++ k) ≡ bare f ++ bare k
bare_more [] k = refl
bare_more (p ∷ f) k = ap (λ (ts : List Token). p.token ∷ ts) (bare_more f k)

pub signs_more : (a b : List Token) → signs (a ++ b) ≡ signs a ++ signs b
signs_more [] b = refl
signs_more (Word words.Select ∷ a) b = ap (λ (ts : List Token). Word words.Select ∷ ts) (signs_more a b)
signs_more (Word words.RowNumber ∷ a) b = ap (λ (ts : List Token). Word words.RowNumber ∷ ts) (signs_more a b)
signs_more (t ∷ a) b = signs_more a b

pub signs_both : (f k : List Placed) → signs (bare (f ++ k)) ≡ signs (bare f) ++ signs (bare k)
signs_both f k = ap signs (bare_more f k) ∙ signs_more (bare f) (bare k)

pub split : (us : List Placed) (a b : List Token) → bare us ≡ a ++ b → (u : List Placed) × (v : List Placed) × (us ≡ u ++ v) × (bare u ≡ a) × (bare v ≡ b)
split us [] b e = ([], us, refl, refl, e)
split [] (t ∷ a) b e = absurd cc
split (q ∷ us) (t ∷ a) b e =
    let head : q.token ≡ t = cc in
    let rest : bare us ≡ a ++ b = cc in
    let s = split us a b rest in
    (q ∷ s.0, s.1, ap (λ (t : List Placed). q ∷ t) s.2, cc (head, s.3), s.4)

pub single : (us : List Placed) (t : Token) → bare us ≡ t ∷ [] → (q : Placed) × (us ≡ q ∷ []) × (q.token ≡ t)
single [] t e = absurd cc
single (q ∷ []) t e = (q, refl, cc)
single (q ∷ r ∷ us) t e = absurd cc

pub no_tokens : (us : List Placed) → bare us ≡ [] → us ≡ []
no_tokens [] e = refl
no_tokens (q ∷ us) e = absurd cc

fair_both : (ts f k : List Placed) → ts ≡ f ++ k → NoBad (bare f) → NoBad (bare k) → NoBad (bare ts)
fair_both ts f k is a b = subst NoBad (sym (ap bare is ∙ bare_more f k)) (fair_whole (bare f) (bare k) a b)

kept_both : (ts f k us u v : List Placed) → ts ≡ f ++ k → us ≡ u ++ v → (AllGood (bare f) → AllGood (bare u)) → (AllGood (bare k) → AllGood (bare v)) → AllGood (bare ts) → AllGood (bare us)
kept_both ts f k us u v is so a b good =
    let q = good_parts (bare f) (bare k) (subst AllGood (ap bare is ∙ bare_more f k) good) in
    subst AllGood (sym (ap bare so ∙ bare_more u v)) (good_whole (bare u) (bare v) (a q.0) (b q.1))

good_first : (ts f k : List Placed) → ts ≡ f ++ k → AllGood (bare ts) → AllGood (bare f) × AllGood (bare k)
good_first ts f k is good = good_parts (bare f) (bare k) (subst AllGood (ap bare is ∙ bare_more f k) good)

-- ---- the ways to make a part

pub one_reprints : {A : Type 0} (pick : Placed → Option A) (same : A → A → Type 0) (print : A → List Token)
    → ((p : Placed) (x : A) → pick p ≡ Some x → print x ≡ p.token ∷ []) → ((x : A) → NoBad (print x)) → ((p q : Placed) (x : A) → q.token ≡ p.token → pick p ≡ Some x → (y : A) × same x y × (pick q ≡ Some y)) → Reprints (one pick) same print
one_reprints pick same print h fair k = record {
  again = λ x ts us (p, picked, is) e.
      let here = e ∙ h p x picked in
      let s = single us p.token here in
      let m = k p s.0 x s.2 picked in
      record { value = m.0; is = m.1; says = (s.0, m.2, s.1); signed = ap signs (here ∙ ap bare (sym is)); fair = subst NoBad (h p x picked ∙ ap bare (sym is)) (fair x); kept = λ good. subst AllGood (sym (here ∙ ap bare (sym is))) good };
}

abbrev pub same_both : {A B : Type 0} → (A → A → Type 0) → (B → B → Type 0) → A × B → A × B → Type 0
same_both s t x y = s x.0 y.0 × t x.1 y.1

pub both_reprints : {A B : Type 0} (a : Part A) (b : Part B) (s : A → A → Type 0) (t : B → B → Type 0) (pa : A → List Token) (pb : B → List Token) → Reprints a s pa → Reprints b t pb → Reprints (both a b) (same_both s t) (λ x. pa x.0 ++ pb x.1)
both_reprints a b s t pa pb ra rb = record {
  again = λ x ts us (f, k, is, sa, sb) e.
      let p = split us (pa x.0) (pb x.1) e in
      let ha = ra.again x.0 f p.0 sa p.3 in
      let hb = rb.again x.1 k p.1 sb p.4 in
      record {
        value = (ha.value, hb.value);
        is = (ha.is, hb.is);
        says = (p.0, p.1, p.2, ha.says, hb.says);
        signed = ap (λ (l : List Placed). signs (bare l)) p.2 ∙ signs_both p.0 p.1 ∙ ap (λ (l : List Token). l ++ signs (bare p.1)) ha.signed ∙ ap (λ (l : List Token). signs (bare f) ++ l) hb.signed
            ∙ sym (signs_both f k) ∙ ap (λ (l : List Placed). signs (bare l)) (sym is);
        fair = fair_both ts f k is ha.fair hb.fair;
        kept = kept_both ts f k us p.0 p.1 is p.2 ha.kept hb.kept;
      };
}

option_again : {A : Type 0} (a : Part A) (s : A → A → Type 0) (pa : A → List Token) → Reprints a s pa → (x : Option A) (ts us : List Placed) → says_option a x ts → bare us ≡ maybe pa x → Again (option a) (same_option s) x ts us
option_again a s pa ra None ts us says e = record { value = None; is = tt; says = no_tokens us e; signed = ap signs (e ∙ ap bare (sym says)); fair = subst NoBad (ap bare (sym says)) tt; kept = λ good. subst AllGood (sym e) tt }
option_again a s pa ra (Some x) ts us says e =
    let h = ra.again x ts us says e in
    record { value = Some h.value; is = h.is; says = h.says; signed = h.signed; fair = h.fair; kept = h.kept }

pub option_reprints : {A : Type 0} (a : Part A) (s : A → A → Type 0) (pa : A → List Token) → Reprints a s pa → Reprints (option a) (same_option s) (maybe pa)
option_reprints a s pa ra = record { again = option_again a s pa ra }

pub either_reprints : {A : Type 0} (a b : Part A) (s : A → A → Type 0) (p : A → List Token) → Reprints a s p → Reprints b s p → Reprints (either a b) s p
either_reprints a b s p ra rb = record {
  again = λ x ts us says e. elim says [
    | inl h ↦ (let r = ra.again x ts us h e in record { value = r.value; is = r.is; says = inl r.says; signed = r.signed; fair = r.fair; kept = r.kept })
    | inr h ↦ (let r = rb.again x ts us h e in record { value = r.value; is = r.is; says = inr r.says; signed = r.signed; fair = r.fair; kept = r.kept })
  ];
}

many_again : {A : Type 0} (a : Part A) (s : A → A → Type 0) (pa : A → List Token) → Reprints a s pa → (xs : List A) (ts us : List Placed) → says_all a xs ts → bare us ≡ each pa xs → Again (many a) (same_all s) xs ts us
many_again a s pa ra [] ts us says e = record { value = []; is = tt; says = no_tokens us e; signed = ap signs (e ∙ ap bare (sym says)); fair = subst NoBad (ap bare (sym says)) tt; kept = λ good. subst AllGood (sym e) tt }
many_again a s pa ra (x ∷ xs) ts us (f, k, is, says, more) e =
    let p = split us (pa x) (each pa xs) e in
    let h = ra.again x f p.0 says p.3 in
    let r = many_again a s pa ra xs k p.1 more p.4 in
    record {
      value = h.value ∷ r.value;
      is = (h.is, r.is);
      says = (p.0, p.1, p.2, h.says, r.says);
      signed = ap (λ (l : List Placed). signs (bare l)) p.2 ∙ signs_both p.0 p.1 ∙ ap (λ (l : List Token). l ++ signs (bare p.1)) h.signed ∙ ap (λ (l : List Token). signs (bare f) ++ l) r.signed
          ∙ sym (signs_both f k) ∙ ap (λ (l : List Placed). signs (bare l)) (sym is);
      fair = fair_both ts f k is h.fair r.fair;
      kept = kept_both ts f k us p.0 p.1 is p.2 h.kept r.kept;
    }

pub many_reprints : {A : Type 0} (a : Part A) (s : A → A → Type 0) (pa : A → List Token) → Reprints a s pa → Reprints (many a) (same_all s) (each pa)
many_reprints a s pa ra = record { again = many_again a s pa ra }

pub made_reprints : {A B : Type 0} (to : A → B) (a : Part A) (s : A → A → Type 0) (t : B → B → Type 0) (pa : A → List Token) (pb : B → List Token) → Reprints a s pa
    → ((x : A) (ts : List Placed) → a.says x ts → pb (to x) ≡ pa x) → ((x y : A) → s x y → t (to x) (to y)) → Reprints (made to a) t pb
made_reprints to a s t pa pb ra h k = record {
  again = λ z ts us (x, is, says) e.
      let m = ra.again x ts us says (e ∙ ap pb (sym is) ∙ h x ts says) in
      record { value = to m.value; is = subst (λ (w : _). t w (to m.value)) is (k x m.value m.is); says = (m.value, refl, m.says); signed = m.signed; fair = m.fair; kept = m.kept };
}

pub after_reprints : {A B : Type 0} (a : Part A) (b : Part B) (s : A → A → Type 0) (t : B → B → Type 0) (front : List Token) (pb : B → List Token) → Reprints a s (λ x. front) → Reprints b t pb → Reprints (after a b) t (λ y. front ++ pb y)
after_reprints a b s t front pb ra rb = made_reprints (λ x. x.1) (both a b) (same_both s t) t (λ x. front ++ pb x.1) (λ y. front ++ pb y) (both_reprints a b s t (λ x. front) pb ra rb) (λ x ts says. refl) (λ x y h. h.1)

pub before_reprints : {A B : Type 0} (a : Part A) (b : Part B) (s : A → A → Type 0) (t : B → B → Type 0) (pa : A → List Token) (back : List Token) → Reprints a s pa → Reprints b t (λ y. back) → Reprints (before a b) s (λ x. pa x ++ back)
before_reprints a b s t pa back ra rb = made_reprints (λ x. x.0) (both a b) (same_both s t) s (λ x. pa x.0 ++ back) (λ x. pa x ++ back) (both_reprints a b s t pa (λ y. back) ra rb) (λ x ts says. refl) (λ x y h. h.0)

-- the same, printed in another way
pub so_reprints : {A : Type 0} (a : Part A) (s : A → A → Type 0) (p q : A → List Token) → Reprints a s p → ((x : A) (ts : List Placed) → a.says x ts → q x ≡ p x) → Reprints a s q
so_reprints a s p q ra h = record { again = λ x ts us says e. ra.again x ts us says (e ∙ h x ts says) }

pub row_reprints : {A : Type 0} (x more : Part A) (s : A → A → Type 0) (sep : Token) (p : A → List Token) → Reprints x s p → Reprints more s (λ y. sep ∷ p y) → Reprints (row x more) (same_all s) (between sep p)
row_reprints x more s sep p rx rm = made_reprints (λ l. l.0 ∷ l.1) (both x (many more)) (same_both s (same_all s)) (same_all s) (λ l. p l.0 ++ each (λ y. sep ∷ p y) l.1) (between sep p)
    (both_reprints x (many more) s (same_all s) p (each (λ y. sep ∷ p y)) rx (many_reprints more s (λ y. sep ∷ p y) rm)) (λ l ts says. refl) (λ l m h. h)

-- ---- lists that may be left out

abbrev IsSome : {A : Type 0} → List A → Type 0
IsSome [] = ⊥
IsSome (x ∷ xs) = Unit {0}

row_some : {A : Type 0} (x more : Part A) (xs : List A) (ts : List Placed) → (row x more).says xs ts → IsSome xs
row_some x more [] ts (l, is, says) = absurd cc
row_some x more (y ∷ ys) ts says = tt

after_some : {A B : Type 0} (a : Part A) (b : Part (List B)) → ((xs : List B) (ts : List Placed) → b.says xs ts → IsSome xs) → (xs : List B) (ts : List Placed) → (after a b).says xs ts → IsSome xs
after_some a b h xs ts (v, is, (f, k, parts, sa, sb)) = subst IsSome is (h v.1 k sb)

listed_prints : {A : Type 0} (p q : List A → List Token) → q [] ≡ [] → ((x : A) (xs : List A) → q (x ∷ xs) ≡ p (x ∷ xs)) → (o : Option (List A)) → ((xs : List A) → o ≡ Some xs → IsSome xs) → q (listed o) ≡ maybe p o
listed_prints p q none some None h = none
listed_prints p q none some (Some []) h = absurd (h [] refl)
listed_prints p q none some (Some (x ∷ xs)) h = some x xs

listed_same : {A : Type 0} (s : A → A → Type 0) (x y : Option (List A)) → same_option (same_all s) x y → same_all s (listed x) (listed y)
listed_same s None None h = tt
listed_same s (Some x) (Some y) h = h
listed_same s None (Some y) h = absurd h
listed_same s (Some x) None h = absurd h

option_some : {A : Type 0} (g : Part (List A)) → ((xs : List A) (ts : List Placed) → g.says xs ts → IsSome xs) → (o : Option (List A)) (ts : List Placed) → says_option g o ts → (xs : List A) → o ≡ Some xs → IsSome xs
option_some g h None ts says xs is = absurd cc
option_some g h (Some ys) ts says xs is =
    let same : ys ≡ xs = cc in
    subst IsSome same (h ys ts says)

pub listed_reprints : {A : Type 0} (g : Part (List A)) (s : A → A → Type 0) (p q : List A → List Token) → Reprints g (same_all s) p → ((xs : List A) (ts : List Placed) → g.says xs ts → IsSome xs) → q [] ≡ [] → ((x : A) (xs : List A) → q (x ∷ xs) ≡ p (x ∷ xs))
    → Reprints (made listed (option g)) (same_all s) q
listed_reprints g s p q rg some empty more = made_reprints listed (option g) (same_option (same_all s)) (same_all s) (maybe p) q (option_reprints g (same_all s) p rg)
    (λ o ts says. listed_prints p q empty more o (option_some g some o ts says)) (listed_same s)

-- ---- one token

same_word : (a b : Keyword) → is_word a b ≡ true → a ≡ b
same_word words.Select words.Select h = refl
same_word words.Distinct words.Distinct h = refl
same_word words.From words.From h = refl
same_word words.As words.As h = refl
same_word words.Join words.Join h = refl
same_word words.Inner words.Inner h = refl
same_word words.On words.On h = refl
same_word words.Where words.Where h = refl
same_word words.And words.And h = refl
same_word words.Or words.Or h = refl
same_word words.Group words.Group h = refl
same_word words.By words.By h = refl
same_word words.Having words.Having h = refl
same_word words.Order words.Order h = refl
same_word words.Limit words.Limit h = refl
same_word words.With words.With h = refl
same_word words.Count words.Count h = refl
same_word words.RowNumber words.RowNumber h = refl
same_word words.Over words.Over h = refl
same_word words.Partition words.Partition h = refl
same_word words.Asc words.Asc h = refl
same_word words.Desc words.Desc h = refl
same_word a b h = absurd (false≢true h)

same_mark : (a b : Symbol) → is_mark a b ≡ true → a ≡ b
same_mark marks.Open marks.Open h = refl
same_mark marks.Close marks.Close h = refl
same_mark marks.Comma marks.Comma h = refl
same_mark marks.Dot marks.Dot h = refl
same_mark marks.Semicolon marks.Semicolon h = refl
same_mark marks.Star marks.Star h = refl
same_mark marks.Plus marks.Plus h = refl
same_mark marks.Equal marks.Equal h = refl
same_mark marks.Unequal marks.Unequal h = refl
same_mark marks.Less marks.Less h = refl
same_mark marks.AtMost marks.AtMost h = refl
same_mark marks.More marks.More h = refl
same_mark marks.AtLeast marks.AtLeast h = refl
same_mark a b h = absurd (false≢true h)

if_some : (b : Bool) (x : Unit {0}) → (if b then Some tt else None) ≡ Some x → b ≡ true
if_some true x e = refl
if_some false x e = absurd cc

pub word_picked : (k : Keyword) (t : Token) (x : Unit {0}) → pick_word k t ≡ Some x → Word k ∷ [] ≡ t ∷ []
word_picked k (Word found) x e = ap (λ (w : Keyword). Word w ∷ []) (sym (same_word found k (if_some (is_word found k) x e)))
word_picked k t x e = absurd cc

pub mark_picked : (m : Symbol) (t : Token) (x : Unit {0}) → pick_mark m t ≡ Some x → Mark m ∷ [] ≡ t ∷ []
mark_picked m (Mark found) x e = ap (λ (w : Symbol). Mark w ∷ []) (sym (same_mark found m (if_some (is_mark found m) x e)))
mark_picked m t x e = absurd cc

-- a token whose place does not count
plain_reprints : {A : Type 0} (pick : Token → Option A) (print : A → List Token) → ((t : Token) (x : A) → pick t ≡ Some x → print x ≡ t ∷ []) → ((x : A) → NoBad (print x)) → Reprints (one (λ p. pick p.token)) (λ x y. x ≡ y) print
plain_reprints pick print h fair = one_reprints (λ p. pick p.token) (λ x y. x ≡ y) print (λ p x picked. h p.token x picked) fair (λ p q x same picked. (x, refl, ap pick same ∙ picked))

pub word_reprints : (k : Keyword) → Reprints (word_part k) (λ x y. x ≡ y) (λ x. Word k ∷ [])
unfolding word_part
word_reprints k = plain_reprints (pick_word k) (λ x. Word k ∷ []) (word_picked k) (λ x. tt)

pub mark_reprints : (m : Symbol) → Reprints (mark_part m) (λ x y. x ≡ y) (λ x. Mark m ∷ [])
unfolding mark_part
mark_reprints m = plain_reprints (pick_mark m) (λ x. Mark m ∷ []) (mark_picked m) (λ x. tt)

number_picked : (t : Token) (x : ℕ) → pick_number t ≡ Some x → Number x ∷ [] ≡ t ∷ []
number_picked (Number n) x e =
    let same : n ≡ x = cc in
    rw same refl
number_picked t x e = absurd cc

pub number_reprints : Reprints number (λ x y. x ≡ y) (λ n. Number n ∷ [])
unfolding number
number_reprints = plain_reprints pick_number (λ n. Number n ∷ []) number_picked (λ x. tt)

code_picked : (t : Token) (x : ℕ) → pick_code t ≡ Some x → tokens.Code x ∷ [] ≡ t ∷ []
code_picked (tokens.Code c) x e =
    let same : c ≡ x = cc in
    rw same refl
code_picked t x e = absurd cc

pub code_reprints : Reprints code (λ x y. x ≡ y) (λ c. tokens.Code c ∷ [])
unfolding code
code_reprints = plain_reprints pick_code (λ c. tokens.Code c ∷ []) code_picked (λ x. tt)

op_picked : (t : Token) (x : Op) → pick_op t ≡ Some x → Mark (op_mark x) ∷ [] ≡ t ∷ []
op_picked (Mark marks.Equal) x e =
    let same : ops.Eq ≡ x = cc in
    rw (← same) refl
op_picked (Mark marks.Unequal) x e =
    let same : ops.Ne ≡ x = cc in
    rw (← same) refl
op_picked (Mark marks.Less) x e =
    let same : ops.Lt ≡ x = cc in
    rw (← same) refl
op_picked (Mark marks.AtMost) x e =
    let same : ops.Le ≡ x = cc in
    rw (← same) refl
op_picked (Mark marks.More) x e =
    let same : ops.Gt ≡ x = cc in
    rw (← same) refl
op_picked (Mark marks.AtLeast) x e =
    let same : ops.Ge ≡ x = cc in
    rw (← same) refl
op_picked t x e = absurd cc

pub op_reprints : Reprints op (λ x y. x ≡ y) (λ o. Mark (op_mark o) ∷ [])
unfolding op
op_reprints = plain_reprints pick_op (λ o. Mark (op_mark o) ∷ []) op_picked (λ x. tt)

name_printed : (a : ℕ) (t : Token) (x : Name) → pick_name a t ≡ Some x → name_tokens x ≡ t ∷ []
name_printed a (tokens.Name text) x e =
    let is : record { text = text; at = a } ≡ x = cc in
    rw (← is) refl
name_printed a t x e = absurd cc

name_picked : (a b : ℕ) (t : Token) (x : Name) → pick_name a t ≡ Some x → (y : Name) × SameName x y × (pick_name b t ≡ Some y)
name_picked a b (tokens.Name text) x e =
    let is : x ≡ record { text = text; at = a } = cc in
    (record { text = text; at = b }, ap (λ (n : Name). n.text) is, refl)
name_picked a b t x e = absurd cc

pub name_reprints : Reprints name SameName name_tokens
unfolding name
name_reprints = one_reprints (λ p. pick_name p.at p.token) SameName name_tokens (λ p x picked. name_printed p.at p.token x picked) (λ x. tt) (λ p q x same picked.
    let k = name_picked p.at q.at p.token x picked in
    (k.0, k.1, ap (pick_name q.at) same ∙ k.2))

after_word : {B : Type 0} (k : Keyword) (g : Part B) (t : B → B → Type 0) (p : B → List Token) → Reprints g t p → Reprints (after (word_part k) g) t (λ y. Word k ∷ p y)
after_word k g t p rg = after_reprints (word_part k) g (λ x y. x ≡ y) t (Word k ∷ []) p (word_reprints k) rg

after_mark : {B : Type 0} (m : Symbol) (g : Part B) (t : B → B → Type 0) (p : B → List Token) → Reprints g t p → Reprints (after (mark_part m) g) t (λ y. Mark m ∷ p y)
after_mark m g t p rg = after_reprints (mark_part m) g (λ x y. x ≡ y) t (Mark m ∷ []) p (mark_reprints m) rg

parens_reprints : {B : Type 0} (g : Part B) (t : B → B → Type 0) (p : B → List Token) → Reprints g t p → Reprints (parens g) t (λ y. Mark marks.Open ∷ (p y ++ Mark marks.Close ∷ []))
parens_reprints g t p rg = after_mark marks.Open (before g (mark_part marks.Close)) t (λ y. p y ++ Mark marks.Close ∷ []) (before_reprints g (mark_part marks.Close) t (λ x y. x ≡ y) p (Mark marks.Close ∷ []) rg (mark_reprints marks.Close))

-- ---- columns and conditions

dot_name_reprints : Reprints dot_name SameName (λ y. Mark marks.Dot ∷ name_tokens y)
unfolding dot_name
dot_name_reprints = after_mark marks.Dot name SameName name_tokens name_reprints

column_printed : (x : Name) (o : Option Name) → col_tokens (column_of x o) ≡ name_tokens x ++ maybe (λ y. Mark marks.Dot ∷ name_tokens y) o
unfolding col_tokens
column_printed x None = refl
column_printed x (Some y) = refl

column_same : (x y : Name) (o p : Option Name) → SameName x y → same_option SameName o p → SameCol (column_of x o) (column_of y p)
column_same x y None None h k = (tt, h)
column_same x y (Some a) (Some b) h k = (h, k)
column_same x y None (Some b) h k = absurd k
column_same x y (Some a) None h k = absurd k

pub col_reprints : Reprints col SameCol col_tokens
unfolding col
col_reprints = made_reprints (λ x. column_of x.0 x.1) (both name (option dot_name)) (same_both SameName (same_option SameName)) SameCol (λ x. name_tokens x.0 ++ maybe (λ y. Mark marks.Dot ∷ name_tokens y) x.1) col_tokens
    (both_reprints name (option dot_name) SameName (same_option SameName) name_tokens (maybe (λ y. Mark marks.Dot ∷ name_tokens y)) name_reprints (option_reprints dot_name SameName (λ y. Mark marks.Dot ∷ name_tokens y) dot_name_reprints))
    (λ x ts says. column_printed x.0 x.1) (λ x y h. column_same x.0 y.0 x.1 y.1 h.0 h.1)

cols_reprints : Reprints cols (same_all SameCol) (between (Mark marks.Comma) col_tokens)
unfolding cols next_col
cols_reprints = row_reprints col (after (mark_part marks.Comma) col) SameCol (Mark marks.Comma) col_tokens col_reprints (after_mark marks.Comma col SameCol col_tokens col_reprints)

plus_reprints : Reprints plus (same_option (λ x y. x ≡ y)) (maybe plus_tokens)
unfolding plus
plus_reprints = option_reprints (after (mark_part marks.Plus) number) (λ x y. x ≡ y) plus_tokens (after_mark marks.Plus number (λ x y. x ≡ y) (λ n. Number n ∷ []) number_reprints)

plus_same : (x y : Option ℕ) → same_option (λ m n. m ≡ n) x y → x ≡ y
plus_same None None h = refl
plus_same (Some m) (Some n) h = ap (λ (k : ℕ). Some k) h
plus_same None (Some n) h = absurd h
plus_same (Some m) None h = absurd h

term_reprints : Reprints term SameTerm term_tokens
unfolding term term_tokens
term_reprints = made_reprints _ (both col plus) (same_both SameCol (same_option (λ x y. x ≡ y))) SameTerm (λ x. col_tokens x.0 ++ maybe plus_tokens x.1) term_tokens
    (both_reprints col plus SameCol (same_option (λ x y. x ≡ y)) col_tokens (maybe plus_tokens) col_reprints plus_reprints) (λ x ts says. refl) (λ x y h. (h.0, plus_same x.1 y.1 h.1))

operand_reprints : Reprints operand SameOperand operand_tokens
unfolding operand operand_tokens
operand_reprints = either_reprints _ _ SameOperand operand_tokens (made_reprints operands.Term term SameTerm SameOperand term_tokens operand_tokens term_reprints (λ x ts says. refl) (λ x y h. h))
    (either_reprints _ _ SameOperand operand_tokens (made_reprints operands.Int number (λ x y. x ≡ y) SameOperand (λ n. Number n ∷ []) operand_tokens number_reprints (λ x ts says. refl) (λ x y h. h))
    (made_reprints operands.Code code (λ x y. x ≡ y) SameOperand (λ c. tokens.Code c ∷ []) operand_tokens code_reprints (λ x ts says. refl) (λ x y h. h)))

cmp_reprints : Reprints cmp SameCmp cmp_tokens
unfolding cmp cmp_tokens
cmp_reprints = made_reprints _ (both term (both op operand)) (same_both SameTerm (same_both (λ x y. x ≡ y) SameOperand)) SameCmp (λ x. term_tokens x.0 ++ (Mark (op_mark x.1.0) ∷ [] ++ operand_tokens x.1.1)) cmp_tokens
    (both_reprints term (both op operand) SameTerm (same_both (λ x y. x ≡ y) SameOperand) term_tokens (λ x. Mark (op_mark x.0) ∷ [] ++ operand_tokens x.1) term_reprints (both_reprints op operand (λ x y. x ≡ y) SameOperand (λ o. Mark (op_mark o) ∷ []) operand_tokens op_reprints operand_reprints))
    (λ x ts says. refl) (λ x y h. (h.0, h.1.0, h.1.1))

cmps_reprints : Reprints cmps (same_all SameCmp) (between (Word words.Or) cmp_tokens)
unfolding cmps next_cmp
cmps_reprints = row_reprints cmp (after (word_part words.Or) cmp) SameCmp (Word words.Or) cmp_tokens cmp_reprints (after_word words.Or cmp SameCmp cmp_tokens cmp_reprints)

choice_reprints : Reprints choice (same_all SameCmp) (λ cs. Mark marks.Open ∷ (between (Word words.Or) cmp_tokens cs ++ Mark marks.Close ∷ []))
unfolding choice
choice_reprints = parens_reprints cmps (same_all SameCmp) (between (Word words.Or) cmp_tokens) cmps_reprints

-- one token that is no SELECT and no ROW_NUMBER is no sign
mark_unsigned : (m : Symbol) (f : List Placed) (x : Unit {0}) → (mark_part m).says x f → signs (bare f) ≡ []
unfolding mark_part
mark_unsigned m f x (p, picked, is) = ap (λ (l : List Placed). signs (bare l)) is ∙ ap signs (sym (mark_picked m p.token x picked))

choice_some : (xs : List SqlCmp) (ts : List Placed) → choice.says xs ts → IsSome xs
unfolding choice cmps
choice_some xs ts (v, made, (f, k, parts, open_, (w, chosen, (g, l, inside, says, close)))) = subst IsSome (chosen ∙ made) (row_some cmp next_cmp w.0 g says)

mark_fair : (m : Symbol) (f : List Placed) (x : Unit {0}) → (mark_part m).says x f → NoBad (bare f)
unfolding mark_part
mark_fair m f x (p, picked, is) = subst NoBad (mark_picked m p.token x picked ∙ ap bare (sym is)) tt

-- one comparison in parentheses is said without them
pub record Lone (c : SqlCmp) (ts : List Placed) : Type 0 where
  pub inner : List Placed
  pub says : cmp.says c inner
  pub signed : signs (bare inner) ≡ signs (bare ts)
  pub fair : NoBad (bare inner) → NoBad (bare ts)
  pub kept : AllGood (bare ts) → AllGood (bare inner)

lone_in : (c : SqlCmp) (cs : List SqlCmp) (ts : List Placed) → cs ≡ c ∷ [] → cmps.says cs ts → Lone c ts
unfolding cmps
lone_in c cs ts is ((x, xs), made, (f, k, parts, says, more)) =
    let both_same : x ∷ xs ≡ c ∷ [] = made ∙ is in
    let first : x ≡ c = cc in
    let none : xs ≡ [] = cc in
    let nothing : k ≡ [] = subst (λ (l : List SqlCmp). says_all next_cmp l k) none more in
    record {
      inner = f;
      says = subst (λ (d : SqlCmp). cmp.says d f) first says;
      signed = ap (λ (l : List Placed). signs (bare l)) (sym (append-nil f) ∙ ap (λ (l : List Placed). f ++ l) (sym nothing) ∙ sym parts);
      fair = λ h. fair_both ts f k parts h (subst (λ (l : List Placed). NoBad (bare l)) (sym nothing) tt);
      kept = λ good. (good_first ts f k parts good).0;
    }

lone : (c : SqlCmp) (ts : List Placed) → choice.says (c ∷ []) ts → Lone c ts
unfolding choice
lone c ts (v, made, (f, k, parts, open_, (w, chosen, (g, l, inside, says, close)))) =
    let m = lone_in c w.0 g (chosen ∙ made) says in
    record {
      inner = m.inner;
      says = m.says;
      signed = m.signed ∙ sym (append-nil (signs (bare g))) ∙ ap (λ (s : List Token). signs (bare g) ++ s) (sym (mark_unsigned marks.Close l w.1 close)) ∙ sym (signs_both g l) ∙ ap (λ (s : List Placed). signs (bare s)) (sym inside)
          ∙ ap (λ (s : List Token). s ++ signs (bare k)) (sym (mark_unsigned marks.Open f v.0 open_)) ∙ sym (signs_both f k) ∙ ap (λ (s : List Placed). signs (bare s)) (sym parts);
      fair = λ h. fair_both ts f k parts (mark_fair marks.Open f v.0 open_) (fair_both k g l inside (m.fair h) (mark_fair marks.Close l w.1 close));
      kept = λ good. m.kept (good_first k g l inside (good_first ts f k parts good).1).0;
    }

clause_alone : (c : SqlCmp) (ts us : List Placed) → cmp.says c ts → bare us ≡ cmp_tokens c → Again clause SameClause (alone c) ts us
unfolding clause
clause_alone c ts us says e =
    let r = cmp_reprints.again c ts us says e in
    record { value = alone r.value; is = (r.is, tt); says = inl (r.value, refl, r.says); signed = r.signed; fair = r.fair; kept = r.kept }

clause_chosen : (cs : List SqlCmp) (ts us : List Placed) → choice.says cs ts → bare us ≡ clause_tokens cs → Again clause SameClause (one_of cs) ts us
unfolding clause clause_tokens
clause_chosen [] ts us says e = absurd (choice_some [] ts says)
clause_chosen (c ∷ []) ts us says e =
    let l = lone c ts says in
    let r = clause_alone c l.inner us l.says e in
    record { value = r.value; is = r.is; says = r.says; signed = r.signed ∙ l.signed; fair = l.fair r.fair; kept = λ good. r.kept (l.kept good) }
clause_chosen (c ∷ d ∷ cs) ts us says e =
    let r = choice_reprints.again (c ∷ d ∷ cs) ts us says e in
    record { value = one_of r.value; is = r.is; says = inr (r.value, refl, r.says); signed = r.signed; fair = r.fair; kept = r.kept }

clause_again : (x : SqlClause) (ts us : List Placed) → clause.says x ts → bare us ≡ clause_tokens x.any → Again clause SameClause x ts us
unfolding clause clause_tokens
clause_again x ts us (inl (c, is, says)) e =
    subst (λ (y : SqlClause). Again clause SameClause y ts us) is (clause_alone c ts us says (e ∙ ap (λ (y : SqlClause). clause_tokens y.any) (sym is)))
clause_again x ts us (inr (cs, is, says)) e =
    subst (λ (y : SqlClause). Again clause SameClause y ts us) is (clause_chosen cs ts us says (e ∙ ap (λ (y : SqlClause). clause_tokens y.any) (sym is)))

clause_reprints : Reprints clause SameClause (λ c. clause_tokens c.any)
clause_reprints = record { again = clause_again }

cond_reprints : Reprints cond (same_all SameClause) cond_tokens
unfolding cond next_clause
cond_reprints = row_reprints clause (after (word_part words.And) clause) SameClause (Word words.And) (λ c. clause_tokens c.any) clause_reprints (after_word words.And clause SameClause (λ c. clause_tokens c.any) clause_reprints)

cond_some : (xs : List SqlClause) (ts : List Placed) → cond.says xs ts → IsSome xs
unfolding cond
cond_some xs ts says = row_some clause next_clause xs ts says

-- ---- items

-- a word that is not printed, or always
word_unsigned : (k : Keyword) (x : Unit {0}) (f : List Placed) → signs (Word k ∷ []) ≡ [] → (word_part k).says x f → signs (bare f) ≡ []
unfolding word_part
word_unsigned k x f none (p, picked, is) = ap (λ (l : List Placed). signs (bare l)) is ∙ ap signs (sym (word_picked k p.token x picked)) ∙ none

left_out : (k : Keyword) → signs (Word k ∷ []) ≡ [] → (x : Option (Unit {0})) (ts : List Placed) → says_option (word_part k) x ts → signs (bare ts) ≡ []
left_out k none None ts says = ap (λ (l : List Placed). signs (bare l)) says
left_out k none (Some x) ts says = word_unsigned k x ts none says

word_fair : (k : Keyword) (x : Unit {0}) (f : List Placed) → (word_part k).says x f → NoBad (bare f)
unfolding word_part
word_fair k x f (p, picked, is) = subst NoBad (word_picked k p.token x picked ∙ ap bare (sym is)) tt

left_out_fair : (k : Keyword) (x : Option (Unit {0})) (ts : List Placed) → says_option (word_part k) x ts → NoBad (bare ts)
left_out_fair k None ts says = subst NoBad (ap bare (sym says)) tt
left_out_fair k (Some x) ts says = word_fair k x ts says

abbrev any : {A : Type 0} → A → A → Type 0
any x y = Unit {0}

as_reprints : Reprints (option (word_part words.As)) any (λ x. Word words.As ∷ [])
unfolding word_part
as_reprints = record {
  again = λ x ts us says e.
      let s = single us (Word words.As) e in
      record { value = Some tt; is = tt; says = (s.0, ap (pick_word words.As) s.2, s.1); signed = ap signs e ∙ sym (left_out words.As refl x ts says); fair = left_out_fair words.As x ts says; kept = λ good. subst AllGood (sym e) (tt, tt) };
}

inner_reprints : Reprints (option (word_part words.Inner)) any (λ x. [])
inner_reprints = record { again = λ x ts us says e. record { value = None; is = tt; says = no_tokens us e; signed = ap signs e ∙ sym (left_out words.Inner refl x ts says); fair = left_out_fair words.Inner x ts says; kept = λ good. subst AllGood (sym e) tt } }

direction_signed : (o : Option Bool) (ts : List Placed) → says_option (either (made (λ x. false) (word_part words.Asc)) (made (λ x. true) (word_part words.Desc))) o ts → signs (bare ts) ≡ []
direction_signed None ts says = ap (λ (l : List Placed). signs (bare l)) says
direction_signed (Some b) ts (inl (x, is, says)) = word_unsigned words.Asc x ts refl says
direction_signed (Some b) ts (inr (x, is, says)) = word_unsigned words.Desc x ts refl says

direction_fair : (o : Option Bool) (ts : List Placed) → says_option (either (made (λ x. false) (word_part words.Asc)) (made (λ x. true) (word_part words.Desc))) o ts → NoBad (bare ts)
direction_fair None ts says = subst NoBad (ap bare (sym says)) tt
direction_fair (Some b) ts (inl (x, is, says)) = word_fair words.Asc x ts says
direction_fair (Some b) ts (inr (x, is, says)) = word_fair words.Desc x ts says

direction_again : (x : Bool) (ts us : List Placed) → direction.says x ts → bare us ≡ down_tokens x → Again direction (λ a b. a ≡ b) x ts us
unfolding direction word_part
direction_again false ts us (o, is, says) e = record { value = false; is = refl; says = (None, refl, no_tokens us e); signed = ap signs e ∙ sym (direction_signed o ts says); fair = direction_fair o ts says; kept = λ good. subst AllGood (sym e) tt }
direction_again true ts us (o, is, says) e =
    let s = single us (Word words.Desc) e in
    record { value = true; is = refl; says = (Some true, refl, inr (tt, refl, (s.0, ap (pick_word words.Desc) s.2, s.1))); signed = ap signs e ∙ sym (direction_signed o ts says); fair = direction_fair o ts says; kept = λ good. subst AllGood (sym e) (tt, tt) }

direction_reprints : Reprints direction (λ a b. a ≡ b) down_tokens
direction_reprints = record { again = direction_again }

order_col_reprints : Reprints order_col SameOrderCol order_col_tokens
unfolding order_col order_col_tokens
order_col_reprints = made_reprints _ (both col direction) (same_both SameCol (λ a b. a ≡ b)) SameOrderCol (λ x. col_tokens x.0 ++ down_tokens x.1) order_col_tokens
    (both_reprints col direction SameCol (λ a b. a ≡ b) col_tokens down_tokens col_reprints direction_reprints) (λ x ts says. refl) (λ x y h. (h.0, h.1))

order_cols_reprints : Reprints order_cols (same_all SameOrderCol) (between (Mark marks.Comma) order_col_tokens)
unfolding order_cols next_order_col
order_cols_reprints = row_reprints order_col (after (mark_part marks.Comma) order_col) SameOrderCol (Mark marks.Comma) order_col_tokens order_col_reprints (after_mark marks.Comma order_col SameOrderCol order_col_tokens order_col_reprints)

cols_some : (xs : List Col) (ts : List Placed) → cols.says xs ts → IsSome xs
unfolding cols
cols_some xs ts says = row_some col next_col xs ts says

order_cols_some : (xs : List OrderCol) (ts : List Placed) → order_cols.says xs ts → IsSome xs
unfolding order_cols
order_cols_some xs ts says = row_some order_col next_order_col xs ts says

partition_reprints : Reprints partition (same_all SameCol) partition_tokens
unfolding partition partition_tokens
partition_reprints = listed_reprints (after (word_part words.Partition) (after (word_part words.By) cols)) SameCol (λ cs. Word words.Partition ∷ Word words.By ∷ between (Mark marks.Comma) col_tokens cs) partition_tokens
    (after_word words.Partition (after (word_part words.By) cols) (same_all SameCol) (λ cs. Word words.By ∷ between (Mark marks.Comma) col_tokens cs) (after_word words.By cols (same_all SameCol) (between (Mark marks.Comma) col_tokens) cols_reprints))
    (after_some (word_part words.Partition) (after (word_part words.By) cols) (after_some (word_part words.By) cols cols_some)) refl (λ x xs. refl)

window_order_reprints : Reprints window_order (same_all SameOrderCol) window_order_tokens
unfolding window_order window_order_tokens
window_order_reprints = listed_reprints (after (word_part words.Order) (after (word_part words.By) order_cols)) SameOrderCol (λ cs. Word words.Order ∷ Word words.By ∷ between (Mark marks.Comma) order_col_tokens cs) window_order_tokens
    (after_word words.Order (after (word_part words.By) order_cols) (same_all SameOrderCol) (λ cs. Word words.By ∷ between (Mark marks.Comma) order_col_tokens cs) (after_word words.By order_cols (same_all SameOrderCol) (between (Mark marks.Comma) order_col_tokens) order_cols_reprints))
    (after_some (word_part words.Order) (after (word_part words.By) order_cols) (after_some (word_part words.By) order_cols order_cols_some)) refl (λ x xs. refl)

abbrev over_tokens : What → List Token
over_tokens (whats.Number p o) = Mark marks.Open ∷ ((partition_tokens p ++ window_order_tokens o) ++ Mark marks.Close ∷ [])
over_tokens w = []

window_reprints : Reprints window SameWhat over_tokens
unfolding window
window_reprints = made_reprints (λ x. whats.Number x.0 x.1) (parens (both partition window_order)) (same_both (same_all SameCol) (same_all SameOrderCol)) SameWhat (λ x. Mark marks.Open ∷ ((partition_tokens x.0 ++ window_order_tokens x.1) ++ Mark marks.Close ∷ [])) over_tokens
    (parens_reprints (both partition window_order) (same_both (same_all SameCol) (same_all SameOrderCol)) (λ x. partition_tokens x.0 ++ window_order_tokens x.1)
    (both_reprints partition window_order (same_all SameCol) (same_all SameOrderCol) partition_tokens window_order_tokens partition_reprints window_order_reprints)) (λ x ts says. refl) (λ x y h. (h.0, h.1))

abbrev number_tokens : What → List Token
number_tokens w = Word words.RowNumber ∷ Mark marks.Open ∷ Mark marks.Close ∷ Word words.Over ∷ over_tokens w

abbrev IsNumber : What → Type 0
IsNumber (whats.Number p o) = Unit {0}
IsNumber w = ⊥

window_number : (w : What) (ts : List Placed) → window.says w ts → IsNumber w
unfolding window
window_number w ts (x, is, says) = subst IsNumber is tt

number_number : (w : What) (ts : List Placed) → row_number.says w ts → IsNumber w
unfolding row_number
number_number w ts (x0, i0, (f0, k0, p0, s0, (x1, i1, (f1, k1, p1, s1, (x2, i2, (f2, k2, p2, s2, (x3, i3, (f3, k3, p3, s3, says)))))))) = subst IsNumber (i3 ∙ i2 ∙ i1 ∙ i0) (window_number x3.1 k3 says)

number_printed : (w : What) → IsNumber w → what_tokens w ≡ number_tokens w
unfolding what_tokens
number_printed (whats.Number p o) h = refl
number_printed whats.Count h = absurd h
number_printed (whats.Column c) h = absurd h

row_number_reprints : Reprints row_number SameWhat number_tokens
unfolding row_number
row_number_reprints = after_word words.RowNumber _ SameWhat (λ w. Mark marks.Open ∷ Mark marks.Close ∷ Word words.Over ∷ over_tokens w)
    (after_mark marks.Open _ SameWhat (λ w. Mark marks.Close ∷ Word words.Over ∷ over_tokens w)
    (after_mark marks.Close _ SameWhat (λ w. Word words.Over ∷ over_tokens w) (after_word words.Over window SameWhat over_tokens window_reprints)))

abbrev count_tokens : Unit {0} → List Token
count_tokens x = Word words.Count ∷ Mark marks.Open ∷ Mark marks.Star ∷ Mark marks.Close ∷ []

count_reprints : Reprints count (λ x y. x ≡ y) count_tokens
unfolding count
count_reprints = after_word words.Count (parens (mark_part marks.Star)) (λ x y. x ≡ y) (λ x. Mark marks.Open ∷ Mark marks.Star ∷ Mark marks.Close ∷ []) (parens_reprints (mark_part marks.Star) (λ x y. x ≡ y) (λ x. Mark marks.Star ∷ []) (mark_reprints marks.Star))

what_reprints : Reprints what SameWhat what_tokens
unfolding what what_tokens
what_reprints = either_reprints _ _ SameWhat what_tokens (made_reprints whats.Column col SameCol SameWhat col_tokens what_tokens col_reprints (λ x ts says. refl) (λ x y h. h))
    (either_reprints _ _ SameWhat what_tokens (made_reprints (λ x. whats.Count) count (λ x y. x ≡ y) SameWhat count_tokens what_tokens count_reprints (λ x ts says. refl) (λ x y h. tt))
    (so_reprints row_number SameWhat number_tokens what_tokens row_number_reprints (λ w ts says. number_printed w (number_number w ts says))))

as_name_reprints : Reprints as_name (same_option SameName) (maybe alias_tokens)
unfolding as_name
as_name_reprints = option_reprints (after (word_part words.As) name) SameName alias_tokens (after_word words.As name SameName name_tokens name_reprints)

item_reprints : Reprints item SameItem item_tokens
unfolding item item_tokens
item_reprints = made_reprints _ (both what as_name) (same_both SameWhat (same_option SameName)) SameItem (λ x. what_tokens x.0 ++ maybe alias_tokens x.1) item_tokens
    (both_reprints what as_name SameWhat (same_option SameName) what_tokens (maybe alias_tokens) what_reprints as_name_reprints) (λ x ts says. refl) (λ x y h. (h.0, h.1))

items_reprints : Reprints items (same_all SameItem) (between (Mark marks.Comma) item_tokens)
unfolding items next_item
items_reprints = row_reprints item (after (mark_part marks.Comma) item) SameItem (Mark marks.Comma) item_tokens item_reprints (after_mark marks.Comma item SameItem item_tokens item_reprints)

-- ---- sources

source_name_reprints : Reprints source_name (same_option SameName) (maybe alias_tokens)
unfolding source_name
source_name_reprints = option_reprints (after (option (word_part words.As)) name) SameName alias_tokens (after_reprints (option (word_part words.As)) name any SameName (Word words.As ∷ []) name_tokens as_reprints name_reprints)

source_reprints : Reprints source SameSource source_tokens
unfolding source source_tokens
source_reprints = made_reprints _ (both name source_name) (same_both SameName (same_option SameName)) SameSource (λ x. name_tokens x.0 ++ maybe alias_tokens x.1) source_tokens
    (both_reprints name source_name SameName (same_option SameName) name_tokens (maybe alias_tokens) name_reprints source_name_reprints) (λ x ts says. refl) (λ x y h. (h.0, h.1, tt))

abbrev on_tokens : List SqlClause → List Token
on_tokens cs = Word words.On ∷ cond_tokens cs

joined_reprints : Reprints joined SameSource join_tokens
unfolding joined join_tokens source_tokens
joined_reprints = made_reprints (λ x. joined_on x.0 x.1) (after (word_part words.Join) (both source (after (word_part words.On) cond))) (same_both SameSource (same_all SameClause)) SameSource (λ x. Word words.Join ∷ (source_tokens x.0 ++ on_tokens x.1)) join_tokens
    (after_word words.Join (both source (after (word_part words.On) cond)) (same_both SameSource (same_all SameClause)) (λ x. source_tokens x.0 ++ on_tokens x.1)
    (both_reprints source (after (word_part words.On) cond) SameSource (same_all SameClause) source_tokens on_tokens source_reprints (after_word words.On cond (same_all SameClause) cond_tokens cond_reprints)))
    (λ x ts says. refl) (λ x y h. (h.0.0, h.0.1, h.1))

join_reprints : Reprints join SameSource join_tokens
unfolding join
join_reprints = after_reprints (option (word_part words.Inner)) joined any SameSource [] join_tokens inner_reprints joined_reprints

sources_reprints : Reprints sources (same_all SameSource) sources_tokens
unfolding sources sources_tokens
sources_reprints = made_reprints (λ l. l.0 ∷ l.1) (both source (many join)) (same_both SameSource (same_all SameSource)) (same_all SameSource) (λ l. source_tokens l.0 ++ each join_tokens l.1) sources_tokens
    (both_reprints source (many join) SameSource (same_all SameSource) source_tokens (each join_tokens) source_reprints (many_reprints join SameSource join_tokens join_reprints)) (λ l ts says. refl) (λ l m h. h)

-- ---- blocks

distinct_printed : (o : Option (Unit {0})) → distinct_tokens (is_some o) ≡ maybe (λ x. Word words.Distinct ∷ []) o
distinct_printed None = refl
distinct_printed (Some x) = refl

distinct_same : (x y : Option (Unit {0})) → same_option (λ a b. a ≡ b) x y → is_some x ≡ is_some y
distinct_same None None h = refl
distinct_same (Some x) (Some y) h = refl
distinct_same None (Some y) h = absurd h
distinct_same (Some x) None h = absurd h

distinct_reprints : Reprints distinct (λ a b. a ≡ b) distinct_tokens
unfolding distinct
distinct_reprints = made_reprints is_some (option (word_part words.Distinct)) (same_option (λ a b. a ≡ b)) (λ a b. a ≡ b) (maybe (λ x. Word words.Distinct ∷ [])) distinct_tokens
    (option_reprints (word_part words.Distinct) (λ a b. a ≡ b) (λ x. Word words.Distinct ∷ []) (word_reprints words.Distinct)) (λ o ts says. distinct_printed o) distinct_same

filter_reprints : Reprints filter (same_all SameClause) filter_tokens
unfolding filter filter_tokens
filter_reprints = listed_reprints (after (word_part words.Where) cond) SameClause (λ cs. Word words.Where ∷ cond_tokens cs) filter_tokens
    (after_word words.Where cond (same_all SameClause) cond_tokens cond_reprints) (after_some (word_part words.Where) cond cond_some) refl (λ x xs. refl)

having_reprints : Reprints having (same_option (λ a b. a ≡ b)) (maybe having_tokens)
unfolding having
having_reprints = option_reprints _ (λ a b. a ≡ b) having_tokens (after_word words.Having (after count (after (mark_part marks.AtLeast) number)) (λ a b. a ≡ b) (λ n. Word words.Count ∷ Mark marks.Open ∷ Mark marks.Star ∷ Mark marks.Close ∷ Mark marks.AtLeast ∷ Number n ∷ [])
    (after_reprints count (after (mark_part marks.AtLeast) number) (λ a b. a ≡ b) (λ a b. a ≡ b) (count_tokens tt) (λ n. Mark marks.AtLeast ∷ Number n ∷ []) count_reprints (after_mark marks.AtLeast number (λ a b. a ≡ b) (λ n. Number n ∷ []) number_reprints)))

abbrev SameGroup : List Col × Option ℕ → List Col × Option ℕ → Type 0
SameGroup x y = same_all SameCol x.0 y.0 × (x.1 ≡ y.1)

abbrev by_tokens : List Col × Option ℕ → List Token
by_tokens x = between (Mark marks.Comma) col_tokens x.0 ++ maybe having_tokens x.1

abbrev HasKeys : List Col × Option ℕ → Type 0
HasKeys x = IsSome x.0

group_printed : (o : Option (List Col × Option ℕ)) → ((x : List Col × Option ℕ) → o ≡ Some x → HasKeys x) → group_tokens (grouped o).0 (grouped o).1 ≡ maybe (λ x. Word words.Group ∷ Word words.By ∷ by_tokens x) o
unfolding group_tokens
group_printed None h = refl
group_printed (Some ([], n)) h = absurd (h ([], n) refl)
group_printed (Some (c ∷ cs, n)) h = refl

group_same : (x y : Option (List Col × Option ℕ)) → same_option (same_both (same_all SameCol) (same_option (λ a b. a ≡ b))) x y → SameGroup (grouped x) (grouped y)
group_same None None h = (tt, refl)
group_same (Some x) (Some y) h = (h.0, plus_same x.1 y.1 h.1)
group_same None (Some y) h = absurd h
group_same (Some x) None h = absurd h

group_keys : (o : Option (List Col × Option ℕ)) (ts : List Placed) → says_option (after (word_part words.Group) (after (word_part words.By) (both cols having))) o ts → (x : List Col × Option ℕ) → o ≡ Some x → HasKeys x
group_keys None ts says x is = absurd cc
group_keys (Some y) ts (v, i, (f, k, p, s, (w, j, (g, l, q, t, (m, n, r, keys, rest))))) x is =
    let same : y ≡ x = cc in
    subst HasKeys (j ∙ i ∙ same) (cols_some w.1.0 m keys)

group_reprints : Reprints group SameGroup (λ x. group_tokens x.0 x.1)
unfolding group
group_reprints = made_reprints grouped (option (after (word_part words.Group) (after (word_part words.By) (both cols having)))) (same_option (same_both (same_all SameCol) (same_option (λ a b. a ≡ b)))) SameGroup (maybe (λ x. Word words.Group ∷ Word words.By ∷ by_tokens x)) (λ x. group_tokens x.0 x.1)
    (option_reprints (after (word_part words.Group) (after (word_part words.By) (both cols having))) (same_both (same_all SameCol) (same_option (λ a b. a ≡ b))) (λ x. Word words.Group ∷ Word words.By ∷ by_tokens x)
    (after_word words.Group (after (word_part words.By) (both cols having)) (same_both (same_all SameCol) (same_option (λ a b. a ≡ b))) (λ x. Word words.By ∷ by_tokens x)
    (after_word words.By (both cols having) (same_both (same_all SameCol) (same_option (λ a b. a ≡ b))) by_tokens (both_reprints cols having (same_all SameCol) (same_option (λ a b. a ≡ b)) (between (Mark marks.Comma) col_tokens) (maybe having_tokens) cols_reprints having_reprints))))
    (λ o ts says. group_printed o (group_keys o ts says)) group_same

order_name_reprints : Reprints order_name SameOrderName order_name_tokens
unfolding order_name order_name_tokens
order_name_reprints = made_reprints _ (both name direction) (same_both SameName (λ a b. a ≡ b)) SameOrderName (λ x. name_tokens x.0 ++ down_tokens x.1) order_name_tokens
    (both_reprints name direction SameName (λ a b. a ≡ b) name_tokens down_tokens name_reprints direction_reprints) (λ x ts says. refl) (λ x y h. (h.0, h.1))

order_names_reprints : Reprints order_names (same_all SameOrderName) (between (Mark marks.Comma) order_name_tokens)
unfolding order_names next_order_name
order_names_reprints = row_reprints order_name (after (mark_part marks.Comma) order_name) SameOrderName (Mark marks.Comma) order_name_tokens order_name_reprints (after_mark marks.Comma order_name SameOrderName order_name_tokens order_name_reprints)

order_names_some : (xs : List OrderName) (ts : List Placed) → order_names.says xs ts → IsSome xs
unfolding order_names
order_names_some xs ts says = row_some order_name next_order_name xs ts says

order_reprints : Reprints order (same_all SameOrderName) order_tokens
unfolding order order_tokens
order_reprints = listed_reprints (after (word_part words.Order) (after (word_part words.By) order_names)) SameOrderName (λ cs. Word words.Order ∷ Word words.By ∷ between (Mark marks.Comma) order_name_tokens cs) order_tokens
    (after_word words.Order (after (word_part words.By) order_names) (same_all SameOrderName) (λ cs. Word words.By ∷ between (Mark marks.Comma) order_name_tokens cs) (after_word words.By order_names (same_all SameOrderName) (between (Mark marks.Comma) order_name_tokens) order_names_reprints))
    (after_some (word_part words.Order) (after (word_part words.By) order_names) (after_some (word_part words.By) order_names order_names_some)) refl (λ x xs. refl)

limit_reprints : Reprints limit (same_option (λ a b. a ≡ b)) (maybe limit_tokens)
unfolding limit
limit_reprints = option_reprints (after (word_part words.Limit) number) (λ a b. a ≡ b) limit_tokens (after_word words.Limit number (λ a b. a ≡ b) (λ n. Number n ∷ []) number_reprints)

abbrev eq : {A : Type 0} → A → A → Type 0
eq x y = x ≡ y

pub block_reprints : Reprints block SameBlock block_tokens
unfolding block block_tokens
block_reprints = made_reprints _ _ _ SameBlock _ block_tokens
    (after_word words.Select _ _ _ (both_reprints distinct _ eq _ distinct_tokens _ distinct_reprints (both_reprints items _ (same_all SameItem) _ (between (Mark marks.Comma) item_tokens) _ items_reprints
    (after_word words.From _ _ _ (both_reprints sources _ (same_all SameSource) _ sources_tokens _ sources_reprints (both_reprints filter _ (same_all SameClause) _ filter_tokens _ filter_reprints
    (both_reprints group _ SameGroup _ (λ x. group_tokens x.0 x.1) _ group_reprints (both_reprints order limit (same_all SameOrderName) (same_option (λ a b. a ≡ b)) order_tokens (maybe limit_tokens) order_reprints limit_reprints))))))))
    (λ x ts says. simp append_assoc) (λ x y h. (h.0, h.1.0, h.1.1.0, h.1.1.1.0, h.1.1.1.1.0, h.1.1.1.1.1.0, plus_same _ _ h.1.1.1.1.1.1))

pub named_reprints : Reprints named SameNamed named_tokens
unfolding named named_tokens
named_reprints = made_reprints _ _ (same_both SameName SameBlock) SameNamed _ named_tokens
    (both_reprints name (after (word_part words.As) (parens block)) SameName SameBlock name_tokens _ name_reprints (after_word words.As (parens block) SameBlock _ (parens_reprints block SameBlock block_tokens block_reprints))) (λ x ts says. simp append_assoc) (λ x y h. (h.0, h.1))

nameds_reprints : Reprints nameds (same_all SameNamed) (between (Mark marks.Comma) named_tokens)
unfolding nameds next_named
nameds_reprints = row_reprints named (after (mark_part marks.Comma) named) SameNamed (Mark marks.Comma) named_tokens named_reprints (after_mark marks.Comma named SameNamed named_tokens named_reprints)

nameds_some : (xs : List Named) (ts : List Placed) → nameds.says xs ts → IsSome xs
unfolding nameds
nameds_some xs ts says = row_some named next_named xs ts says

withs_reprints : Reprints withs (same_all SameNamed) with_tokens
unfolding withs with_tokens
withs_reprints = listed_reprints (after (word_part words.With) nameds) SameNamed (λ cs. Word words.With ∷ between (Mark marks.Comma) named_tokens cs) with_tokens
    (after_word words.With nameds (same_all SameNamed) (between (Mark marks.Comma) named_tokens) nameds_reprints) (after_some (word_part words.With) nameds nameds_some) refl (λ x xs. refl)

pub query_reprints : Reprints query SameQuery query_tokens
unfolding query query_tokens
query_reprints = made_reprints _ _ (same_both (same_all SameNamed) SameBlock) SameQuery _ query_tokens
    (both_reprints withs (before block (mark_part marks.Semicolon)) (same_all SameNamed) SameBlock with_tokens _ withs_reprints (before_reprints block (mark_part marks.Semicolon) SameBlock (λ x y. x ≡ y) block_tokens (Mark marks.Semicolon ∷ []) block_reprints (mark_reprints marks.Semicolon)))
    (λ x ts says. simp append_assoc) (λ x y h. (h.0, h.1))
