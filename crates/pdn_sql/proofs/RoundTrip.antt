-- A query that some file says is said again by its printed form.
use Rattle.std.proofs.Common.{◌≡◌, inl, inr, ℕ, zero, suc, ◌+◌, ◌-◌, ◌≤◌, Bool, true, false, List, [], ◌∷◌, ◌++◌, length, Option, Some, None, refl, sym, ap, subst, ◌∙◌, append_assoc, arith}
use Rattle.std.specs.Prelude.{◌&&◌, ◌==◌}
use Rattle.std.proofs.lemmas.Bool.Decides.{nat_tests}
use Rattle.std.proofs.lemmas.List.{append-nil}
use Rattle.pdn_sql.specs.declared.token.Placed.{Placed}
use Rattle.pdn_sql.specs.declared.token.Token.{Token}
use Rattle.pdn_sql.specs.declared.token.Token.TheVariants.{Word, Number, Mark}
use Rattle.pdn_sql.specs.declared.token.Token.TheVariants as tokens
use Rattle.pdn_sql.specs.declared.token.Keyword.TheVariants as words
use Rattle.pdn_sql.specs.declared.token.Symbol.TheVariants as marks
use Rattle.pdn_sql.specs.declared.seen.Seen.{Seen}
use Rattle.pdn_sql.specs.declared.query.Name.{Name}
use Rattle.pdn_sql.specs.declared.query.Named.{Named}
use Rattle.pdn_sql.specs.declared.query.Query.{Query}
use Rattle.pdn_sql.specs.Part.{says_option, says_all, after}
use Rattle.pdn_sql.specs.Grammar.{listed, pick_name, mark_part, word_part, name, block, named, next_named, nameds, withs, query, file}
use Rattle.pdn_sql.specs.Tokens.{tokens_of}
use Rattle.pdn_sql.specs.Marks.{seen_first, seen_after, marked_tokens}
use Rattle.pdn_sql.specs.Same.{same_all, bare, SameNamed, SameQuery, Member}
use Rattle.pdn_sql.specs.Printing.{query_tokens, query_text}
use Rattle.pdn_sql.specs.Reading.{Says}
use Rattle.pdn_sql.proofs.Good.{NoBad, fair_whole, AllGood, good_from, good_parts, tokens_ok, tokens_low}
use Rattle.pdn_sql.proofs.TextLaws.{text_again}
use Rattle.pdn_sql.proofs.Reprints.{bare_more, mark_picked, query_reprints}
use Rattle.pdn_sql.proofs.Nested.{deep, deep_more, mark_bare, word_bare, block_front}
use Rattle.pdn_sql.proofs.Quiet.{Clean, unmarked, clean_marked, run, run_more, clean_rest, NoSecond, clean_no_second, second_signs, signs_second, second_fresh, NoFifth, NoMore, clean_no_fifth, into, out_of, in_main, one_query, clean_out}

-- ---- blocks of WITH

-- name AS ( .. )
pub record Shape (ts : List Placed) : Type 0 where
  pub text : List ℕ
  pub inner : List Token
  pub is : bare ts ≡ tokens.Name text ∷ Word words.As ∷ Mark marks.Open ∷ (inner ++ Mark marks.Close ∷ [])
  pub level : (n : ℕ) → deep n inner ≡ Some n

name_text : (at : ℕ) (t : Token) (x : Name) → pick_name at t ≡ Some x → (text : List ℕ) × (t ≡ tokens.Name text)
name_text at (tokens.Name text) x e = (text, refl)
name_text at t x e = absurd cc

pub name_bare : (x : Name) (ts : List Placed) → name.says x ts → (text : List ℕ) × (bare ts ≡ tokens.Name text ∷ [])
unfolding name
name_bare x ts (p, picked, is) =
    let t = name_text p.at p.token x picked in
    (t.0, ap bare is ∙ ap (λ (u : Token). u ∷ []) t.1)

shape : (x : Named) (ts : List Placed) → named.says x ts → Shape ts
unfolding named
shape x ts (v, made, (f, k, is, says, (w, chosen, (g, l, more, as_, (y, held, (h, m, parts, open_, (z, last, (i, j, inside, says_block, close)))))))) =
    let n = name_bare v.0 f says in
    let front = block_front z.0 i says_block in
    record {
      text = n.0;
      inner = bare i;
      is = ap bare is ∙ bare_more f k ∙ ap (λ (t : List Token). t ++ bare k) n.1
          ∙ ap (λ (t : List Token). tokens.Name n.0 ∷ t) (ap bare more ∙ bare_more g l ∙ ap (λ (t : List Token). t ++ bare l) (word_bare words.As w.0 g as_)
          ∙ ap (λ (t : List Token). Word words.As ∷ t) (ap bare parts ∙ bare_more h m ∙ ap (λ (t : List Token). t ++ bare m) (mark_bare marks.Open y.0 h open_)
          ∙ ap (λ (t : List Token). Mark marks.Open ∷ t) (ap bare inside ∙ bare_more i j ∙ ap (λ (t : List Token). bare i ++ t) (mark_bare marks.Close z.1 j close))));
      level = λ n. ap (deep n) front.is ∙ front.level n;
    }

named_level : (ts : List Placed) → Shape ts → (n : ℕ) → deep n (bare ts) ≡ Some n
named_level ts s n = ap (deep n) s.is ∙ deep_more s.inner (Mark marks.Close ∷ []) (suc n) (suc n) (s.level (suc n))

close_same : (d : ℕ) → d ≡ 1 → d - 1 ≡ 0
close_same d e = omega (arith, e)

-- a block of WITH, and what is seen behind it
named_in : (ts : List Placed) (s : Shape ts) (b : ℕ) (c : Bool) (rest : List Token) → NoFifth 0 b false c (bare ts ++ rest) → ((c && 0 == 0 && b == 0 && true) ≡ false) × NoFifth 0 b false false rest
named_in ts s b c rest h =
    let e : bare ts ++ rest ≡ tokens.Name s.text ∷ Word words.As ∷ Mark marks.Open ∷ (s.inner ++ Mark marks.Close ∷ rest) = ap (λ (t : List Token). t ++ rest) s.is
    ∙ ap (λ (t : List Token). tokens.Name s.text ∷ Word words.As ∷ Mark marks.Open ∷ t) (append_assoc s.inner (Mark marks.Close ∷ []) rest) in
    let k = subst (NoFifth 0 b false c) e h in
    let m = into s.inner 0 0 (0 + 1) b false false (Mark marks.Close ∷ rest) refl (s.level 0) k.1.1.1 in
    (k.0, subst (λ (d : ℕ). NoFifth d b false false rest) (close_same m.depth m.level) m.quiet.1)

named_out : (ts : List Placed) (s : Shape ts) (b : ℕ) (c : Bool) (rest : List Token) → (c && 0 == 0 && b == 0 && true) ≡ false → NoFifth 0 b false false rest → NoFifth 0 b false c (bare ts ++ rest)
named_out ts s b c rest fine h =
    let e : bare ts ++ rest ≡ tokens.Name s.text ∷ Word words.As ∷ Mark marks.Open ∷ (s.inner ++ Mark marks.Close ∷ rest) = ap (λ (t : List Token). t ++ rest) s.is
    ∙ ap (λ (t : List Token). tokens.Name s.text ∷ Word words.As ∷ Mark marks.Open ∷ t) (append_assoc s.inner (Mark marks.Close ∷ []) rest) in
    subst (NoFifth 0 b false c) (sym e) (
      fine,
      (
        tt,
        (
          tt,
          out_of s.inner 0 0 (0 + 1) b false false (Mark marks.Close ∷ rest) refl (s.level 0)
              (λ x y is. (tt, subst (λ (d : ℕ). NoFifth d b false false rest) (sym (close_same x is)) h)),
        ),
      ),
    )

-- , name AS ( .. )
next_shape : (x : Named) (ts : List Placed) → next_named.says x ts → (g : List Placed) × (bare ts ≡ Mark marks.Comma ∷ bare g) × Shape g
unfolding next_named
next_shape x ts (v, made, (f, k, is, comma, says)) = (k, ap bare is ∙ bare_more f k ∙ ap (λ (t : List Token). t ++ bare k) (mark_bare marks.Comma v.0 f comma), shape v.1 k says)

some_blocks : (b : ℕ) → (true && 0 == 0 && b == 0 && true) ≡ false → 1 ≤ b
some_blocks zero e = absurd cc
some_blocks (suc b) e = omega arith

blocks_some : (b : ℕ) → 1 ≤ b → (true && 0 == 0 && b == 0 && true) ≡ false
blocks_some b h = grind (arith, nat_tests)

pub with_rest : (ts f k : List Placed) (rest : List Token) → ts ≡ f ++ k → bare ts ++ rest ≡ bare f ++ (bare k ++ rest)
with_rest ts f k rest is = ap (λ (t : List Token). t ++ rest) (ap bare is ∙ bare_more f k) ∙ append_assoc (bare f) (bare k) rest

-- where no name is that of a fifth block, there are not too many
nexts_in : (xs : List Named) (ts : List Placed) (b : ℕ) (c : Bool) (rest : List Token) → says_all next_named xs ts → 1 ≤ b → NoFifth 0 b false c (bare ts ++ rest) → suc (length xs) ≤ b
nexts_in [] ts b c rest says some h = some
nexts_in (x ∷ xs) ts b c rest (f, k, is, says, more) some h =
    let s = next_shape x f says in
    let e : bare ts ++ rest ≡ Mark marks.Comma ∷ (bare s.0 ++ (bare k ++ rest)) = with_rest ts f k rest is ∙ ap (λ (t : List Token). t ++ (bare k ++ rest)) s.1 in
    let q = subst (NoFifth 0 b false c) e h in
    let m = named_in s.0 s.2 (b - 1) true (bare k ++ rest) q.1 in
    let fewer : 1 ≤ b - 1 = some_blocks (b - 1) m.0 in
    let r = nexts_in xs k (b - 1) false rest more fewer m.1 in
    omega (arith, r, fewer)

nexts_out : (xs : List Named) (ts : List Placed) (b : ℕ) (rest : List Token) → says_all next_named xs ts → suc (length xs) ≤ b → ((x : ℕ) → NoFifth 0 x false false rest) → NoFifth 0 b false false (bare ts ++ rest)
nexts_out [] ts b rest says le h = subst (NoFifth 0 b false false) (ap (λ (t : List Placed). bare t ++ rest) (sym says)) (h b)
nexts_out (x ∷ xs) ts b rest (f, k, is, says, more) le h =
    let s = next_shape x f says in
    let e : bare ts ++ rest ≡ Mark marks.Comma ∷ (bare s.0 ++ (bare k ++ rest)) = with_rest ts f k rest is ∙ ap (λ (t : List Token). t ++ (bare k ++ rest)) s.1 in
    subst (NoFifth 0 b false false) (sym e) (tt, named_out s.0 s.2 (b - 1) true (bare k ++ rest) (blocks_some (b - 1) (omega (arith, le))) (nexts_out xs k (b - 1) rest more (omega (arith, le)) h))

nameds_in : (xs : List Named) (ts : List Placed) (c : Bool) (rest : List Token) → nameds.says xs ts → NoFifth 0 4 false false (bare ts ++ rest) → length xs ≤ 4
unfolding nameds
nameds_in xs ts c rest (l, made, (f, k, is, says, more)) h =
    let q = subst (NoFifth 0 4 false false) (with_rest ts f k rest is) h in
    let m = named_in f (shape l.0 f says) 4 false (bare k ++ rest) q in
    let r = nexts_in l.1 k 4 false rest more (omega arith) m.1 in
    subst (λ (ys : List Named). length ys ≤ 4) made r

nameds_out : (xs : List Named) (ts : List Placed) (rest : List Token) → nameds.says xs ts → length xs ≤ 4 → ((x : ℕ) → NoFifth 0 x false false rest) → NoFifth 0 4 false false (bare ts ++ rest)
unfolding nameds
nameds_out xs ts rest (l, made, (f, k, is, says, more)) le h =
    let fewer : suc (length l.1) ≤ 4 = subst (λ (ys : List Named). length ys ≤ 4) (sym made) le in
    subst (NoFifth 0 4 false false) (sym (with_rest ts f k rest is)) (named_out f (shape l.0 f says) 4 false (bare k ++ rest) refl (nexts_out l.1 k 4 rest more fewer h))

withs_by : (o : Option (List Named)) (ts : List Placed) (rest : List Token) → says_option (after (word_part words.With) nameds) o ts → NoFifth 0 4 false false (bare ts ++ rest) → length (listed o) ≤ 4
withs_by None ts rest says h = omega arith
withs_by (Some xs) ts rest (v, made, (f, k, is, word, says)) h =
    let e : bare ts ++ rest ≡ Word words.With ∷ (bare k ++ rest) = with_rest ts f k rest is ∙ ap (λ (t : List Token). t ++ (bare k ++ rest)) (word_bare words.With v.0 f word) in
    let q = subst (NoFifth 0 4 false false) e h in
    subst (λ (ys : List Named). length ys ≤ 4) made (nameds_in v.1 k false rest says q.1)

withs_in : (xs : List Named) (ts : List Placed) (rest : List Token) → withs.says xs ts → NoFifth 0 4 false false (bare ts ++ rest) → length xs ≤ 4
unfolding withs
withs_in xs ts rest (o, made, says) h = subst (λ (ys : List Named). length ys ≤ 4) made (withs_by o ts rest says h)

withs_so : (o : Option (List Named)) (ts : List Placed) (rest : List Token) → says_option (after (word_part words.With) nameds) o ts → length (listed o) ≤ 4 → ((x : ℕ) → NoFifth 0 x false false rest) → NoFifth 0 4 false false (bare ts ++ rest)
withs_so None ts rest says le h = subst (NoFifth 0 4 false false) (ap (λ (t : List Placed). bare t ++ rest) (sym says)) (h 4)
withs_so (Some xs) ts rest (v, made, (f, k, is, word, says)) le h =
    let e : bare ts ++ rest ≡ Word words.With ∷ (bare k ++ rest) = with_rest ts f k rest is ∙ ap (λ (t : List Token). t ++ (bare k ++ rest)) (word_bare words.With v.0 f word) in
    subst (NoFifth 0 4 false false) (sym e) (tt, nameds_out v.1 k rest says (subst (λ (ys : List Named). length ys ≤ 4) (sym made) le) h)

withs_out : (xs : List Named) (ts : List Placed) (rest : List Token) → withs.says xs ts → length xs ≤ 4 → ((x : ℕ) → NoFifth 0 x false false rest) → NoFifth 0 4 false false (bare ts ++ rest)
unfolding withs
withs_out xs ts rest (o, made, says) le h = withs_so o ts rest says (subst (λ (ys : List Named). length ys ≤ 4) (sym made) le) h

-- ---- the levels of WITH

all_level : (xs : List Named) (ts : List Placed) (n : ℕ) → says_all next_named xs ts → deep n (bare ts) ≡ Some n
all_level [] ts n says = ap (λ (t : List Placed). deep n (bare t)) says
all_level (x ∷ xs) ts n (f, k, is, says, more) =
    let s = next_shape x f says in
    let front : deep n (bare f) ≡ Some n = ap (deep n) s.1 ∙ named_level s.0 s.2 n in
    ap (λ (t : List Placed). deep n (bare t)) is ∙ ap (deep n) (bare_more f k) ∙ deep_more (bare f) (bare k) n n front ∙ all_level xs k n more

nameds_level : (xs : List Named) (ts : List Placed) (n : ℕ) → nameds.says xs ts → deep n (bare ts) ≡ Some n
unfolding nameds
nameds_level xs ts n (l, made, (f, k, is, says, more)) =
    ap (λ (t : List Placed). deep n (bare t)) is ∙ ap (deep n) (bare_more f k) ∙ deep_more (bare f) (bare k) n n (named_level f (shape l.0 f says) n) ∙ all_level l.1 k n more

withs_deep : (o : Option (List Named)) (ts : List Placed) (n : ℕ) → says_option (after (word_part words.With) nameds) o ts → deep n (bare ts) ≡ Some n
withs_deep None ts n says = ap (λ (t : List Placed). deep n (bare t)) says
withs_deep (Some xs) ts n (v, made, (f, k, is, word, says)) =
    ap (λ (t : List Placed). deep n (bare t)) is ∙ ap (deep n) (bare_more f k ∙ ap (λ (t : List Token). t ++ bare k) (word_bare words.With v.0 f word)) ∙ nameds_level v.1 k n says

pub withs_level : (xs : List Named) (ts : List Placed) (n : ℕ) → withs.says xs ts → deep n (bare ts) ≡ Some n
unfolding withs
withs_level xs ts n (o, made, says) = withs_deep o ts n says

-- ---- a query

pub record Whole (q : Query) (ts : List Placed) : Type 0 where
  pub head : List Placed
  pub body : List Placed
  pub last : Placed
  pub parts : ts ≡ (head ++ body) ++ last ∷ []
  pub ends : last.token ≡ Mark marks.Semicolon
  pub with_ : withs.says q.with head
  pub main_ : block.says q.main body

mark_token_is : (t : Token) (x : Unit {0}) → Mark marks.Semicolon ∷ [] ≡ t ∷ [] → t ≡ Mark marks.Semicolon
mark_token_is t x e = cc

pub whole_of : (q : Query) (ts : List Placed) → query.says q ts → Whole q ts
unfolding query mark_part
whole_of q ts (x, made, (f, k, is, head, (y, chosen, (g, l, more, body, (p, picked, last))))) =
    let with_is : x.0 ≡ q.with = ap (λ (z : Query). z.with) made in
    let main_is : y.0 ≡ q.main = chosen ∙ ap (λ (z : Query). z.main) made in
    record {
      head = f;
      body = g;
      last = p;
      parts = is ∙ ap (λ (t : List Placed). f ++ t) (more ∙ ap (λ (t : List Placed). g ++ t) last) ∙ sym (append_assoc f g (p ∷ []));
      ends = mark_token_is p.token tt (mark_picked marks.Semicolon p.token y.1 picked);
      with_ = subst (λ (z : List Named). withs.says z f) with_is head;
      main_ = subst (λ (z : _). block.says z g) main_is body;
    }

-- the tokens of a query without their places
whole_bare : (q : Query) (ts : List Placed) (w : Whole q ts) → bare ts ≡ (bare w.head ++ bare w.body) ++ Mark marks.Semicolon ∷ []
whole_bare q ts w = ap bare w.parts ∙ bare_more (w.head ++ w.body) (w.last ∷ []) ∙ ap (λ (t : List Token). t ++ w.last.token ∷ []) (bare_more w.head w.body) ∙ ap (λ (t : Token). (bare w.head ++ bare w.body) ++ t ∷ []) w.ends

few_blocks : (q : Query) (ts : List Placed) → query.says q ts → NoFifth 0 4 false false (bare ts) → length q.with ≤ 4
few_blocks q ts says h =
    let w = whole_of q ts says in
    let e : bare ts ≡ bare w.head ++ (bare w.body ++ Mark marks.Semicolon ∷ []) = whole_bare q ts w ∙ append_assoc (bare w.head) (bare w.body) (Mark marks.Semicolon ∷ []) in
    withs_in q.with w.head (bare w.body ++ Mark marks.Semicolon ∷ []) w.with_ (subst (NoFifth 0 4 false false) e h)

no_fifth : (q : Query) (ts : List Placed) → query.says q ts → length q.with ≤ 4 → NoFifth 0 4 false false (bare ts)
no_fifth q ts says le =
    let w = whole_of q ts says in
    let e : bare ts ≡ bare w.head ++ (bare w.body ++ Mark marks.Semicolon ∷ []) = whole_bare q ts w ∙ append_assoc (bare w.head) (bare w.body) (Mark marks.Semicolon ∷ []) in
    let front = block_front q.main w.body w.main_ in
    let main_block : (x : ℕ) → NoFifth 0 x false false (bare w.body ++ Mark marks.Semicolon ∷ []) = λ x.
    subst (λ (t : List Token). NoFifth 0 x false false (t ++ Mark marks.Semicolon ∷ [])) (sym front.is) (tt, in_main front.rest 0 0 0 x false (Mark marks.Semicolon ∷ []) (front.level 0) (λ a b c. (tt, tt))) in
    subst (NoFifth 0 4 false false) (sym e) (withs_out q.with w.head (bare w.body ++ Mark marks.Semicolon ∷ []) w.with_ le main_block)

no_more : (q : Query) (ts : List Placed) (most : ℕ) → query.says q ts → 1 ≤ most → NoMore most (bare ts)
no_more q ts most says le =
    let w = whole_of q ts says in
    let front = block_front q.main w.body w.main_ in
    let level : deep 0 (bare w.head ++ bare w.body) ≡ Some 0 = deep_more (bare w.head) (bare w.body) 0 0 (withs_level q.with w.head 0 w.with_) ∙ ap (deep 0) front.is ∙ front.level 0 in
    subst (NoMore most) (sym (whole_bare q ts w)) (one_query (bare w.head ++ bare w.body) 0 0 most level le)

-- ---- a file

-- no query is begun
pub record AtStart (s : Seen) : Type 0 where
  pub depth : s.depth ≡ 0
  pub blocks : s.blocks ≡ 4
  pub main : s.main ≡ false
  pub comma : s.comma ≡ false

starts_again : (s : Seen) (at : ℕ) (t : Token) → t ≡ Mark marks.Semicolon → AtStart (seen_after s at t)
starts_again s at t e = subst (λ (u : Token). AtStart (seen_after s at u)) (sym e) (record { depth = refl; blocks = refl; main = refl; comma = refl })

behind_query : (q : Query) (ts : List Placed) (s : Seen) → query.says q ts → AtStart (run s ts)
behind_query q ts s says =
    let w = whole_of q ts says in
    let e : run s ts ≡ seen_after (run s (w.head ++ w.body)) w.last.at w.last.token = ap (run s) w.parts ∙ run_more (w.head ++ w.body) (w.last ∷ []) s in
    subst AtStart (sym e) (starts_again (run s (w.head ++ w.body)) w.last.at w.last.token w.ends)

-- a query of a file and its tokens
pub record Stands (q : Query) : Type 0 where
  pub ts : List Placed
  pub says : query.says q ts
  pub second : NoSecond false (bare ts)
  pub few : length q.with ≤ 4
  pub good : AllGood (bare ts)

stands_here : (q : Query) (ts k : List Placed) (end : ℕ) (s : Seen) → query.says q ts → Clean end s (ts ++ k) → AtStart s → AllGood (bare ts) → Stands q
stands_here q ts k end s says clean start good =
    let fifth = clean_no_fifth end ts k s clean in
    let a : NoFifth 0 s.blocks s.main s.comma (bare ts) = subst (λ (d : ℕ). NoFifth d s.blocks s.main s.comma (bare ts)) start.depth fifth in
    let b : NoFifth 0 4 s.main s.comma (bare ts) = subst (λ (d : ℕ). NoFifth 0 d s.main s.comma (bare ts)) start.blocks a in
    let c : NoFifth 0 4 false s.comma (bare ts) = subst (λ (d : Bool). NoFifth 0 4 d s.comma (bare ts)) start.main b in
    let d : NoFifth 0 4 false false (bare ts) = subst (λ (e : Bool). NoFifth 0 4 false e (bare ts)) start.comma c in
    record {
      ts = ts;
      says = says;
      second = second_fresh (bare ts) s.numbered (clean_no_second end ts k s clean);
      few = few_blocks q ts says d;
      good = good;
    }

find : (q : Query) (qs : List Query) (ts : List Placed) (end : ℕ) (s : Seen) → says_all query qs ts → Clean end s ts → AtStart s → AllGood (bare ts) → Member q qs → Stands q
find q [] ts end s says clean start good member = absurd member
find q (x ∷ qs) ts end s (f, k, is, says, more) clean start good member =
    let whole : Clean end s (f ++ k) = subst (Clean end s) is clean in
    let parts = good_parts (bare f) (bare k) (subst AllGood (ap bare is ∙ bare_more f k) good) in
    elim member [
      | inl same ↦ subst Stands same (stands_here x f k end s says whole start parts.0)
      | inr later ↦ find q qs k end (run s f) more (clean_rest end f k s whole) (behind_query x f s says) parts.1 later
    ]

abbrev placed : List Token → List Placed
placed [] = []
placed (t ∷ ts) = record { at = 0; token = t } ∷ placed ts

bare_placed : (ts : List Token) → bare (placed ts) ≡ ts
bare_placed [] = refl
bare_placed (t ∷ ts) = ap (λ (us : List Token). t ∷ us) (bare_placed ts)

pub file_fair : (qs : List Query) (ts : List Placed) → says_all query qs ts → NoBad (bare ts)
file_fair [] ts says = subst NoBad (ap bare (sym says)) tt
file_fair (q ∷ qs) ts (f, k, is, says, more) =
    let r = query_reprints.again q f (placed (query_tokens q)) says (bare_placed (query_tokens q)) in
    subst NoBad (sym (ap bare is ∙ bare_more f k)) (fair_whole (bare f) (bare k) r.fair (file_fair qs k more))

pub file_all : (qs : List Query) (ts : List Placed) → file.says qs ts → says_all query qs ts
unfolding file
file_all qs ts (l, made, says) = subst (λ (x : List Query). says_all query x ts) made says

file_one : (q : Query) (ts : List Placed) → query.says q ts → file.says (q ∷ []) ts
unfolding file
file_one q ts says = ((q, []), refl, (ts, [], sym (append-nil ts), says, refl))

same_length : {A : Type 0} (s : A → A → Type 0) (xs ys : List A) → same_all s xs ys → length ys ≡ length xs
same_length s [] [] h = refl
same_length s (x ∷ xs) (y ∷ ys) h = ap (λ (n : ℕ). suc n) (same_length s xs ys h.1)
same_length s [] (y ∷ ys) h = absurd h
same_length s (x ∷ xs) [] h = absurd h

-- the first tokens of a file that says queries are all of its tokens
pub stands : (most : ℕ) (bytes : List ℕ) (queries : List Query) (q : Query) → Says most bytes queries → Member q queries → Stands q
stands most bytes queries q says member =
    let all : says_all query queries (marked_tokens most bytes) = file_all queries (marked_tokens most bytes) says in
    let fair = file_fair queries (marked_tokens most bytes) all in
    let u = unmarked (length bytes) (tokens_of bytes) (seen_first most) fair in
    let here : says_all query queries (tokens_of bytes) = subst (says_all query queries) u.1 all in
    let good = good_from (tokens_of bytes) (tokens_ok 0 0 bytes) (file_fair queries (tokens_of bytes) here) in
    find q queries (tokens_of bytes) (length bytes) (seen_first most) here u.0 (record { depth = refl; blocks = refl; main = refl; comma = refl }) good member

pub printed_again : (most limit : ℕ) (bytes : List ℕ) (queries : List Query) (q : Query) → Says most bytes queries → Member q queries → length (query_text q) ≤ 4096 → 1 ≤ limit → (r : Query) × SameQuery q r × Says limit (query_text q) (r ∷ [])
printed_again most limit bytes queries q says member short some =
    let st = stands most bytes queries q says member in
    let first = query_reprints.again q st.ts (placed (query_tokens q)) st.says (bare_placed (query_tokens q)) in
    let good : AllGood (query_tokens q) = subst AllGood (bare_placed (query_tokens q)) (first.kept st.good) in
    let us : List Placed = tokens_of (query_text q) in
    let r = query_reprints.again q st.ts us st.says (text_again (query_tokens q) good) in
    let few : length r.value.with ≤ 4 = subst (λ (n : ℕ). n ≤ 4) (sym (same_length SameNamed q.with r.value.with r.is.0)) st.few in
    let second : NoSecond false (bare us) = signs_second (bare us) false (subst (NoSecond false) (sym r.signed) (second_signs (bare st.ts) false st.second)) in
    let low = tokens_low 0 0 (length (query_text q)) (query_text q) (omega arith) in
    let clean = clean_out (length (query_text q)) us (seen_first limit) short low second (no_fifth r.value us r.says few) (no_more r.value us limit r.says some) in
    let same : marked_tokens limit (query_text q) ≡ us = clean_marked (length (query_text q)) us (seen_first limit) clean in
    (r.value, r.is, subst (file.says (r.value ∷ [])) (sym same) (file_one r.value us r.says))
