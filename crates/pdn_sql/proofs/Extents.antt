-- A file has at most so many queries, and the semicolon of each is among its first 4096 bytes.
use Rattle.std.proofs.Common.{◌≡◌, ℕ, zero, suc, ◌+◌, ◌-◌, ◌<◌, ◌≤◌, Bool, true, false, ltb, List, [], ◌∷◌, ◌++◌, length, Option, Some, None, refl, sym, ap, subst, ◌∙◌, append_assoc, arith}
use Rattle.std.specs.Prelude.{if◌then◌else◌, ◌==◌}
use Rattle.std.proofs.lemmas.Bool.{ltb-true, ltb-false}
use Rattle.pdn_sql.specs.declared.token.Placed.{Placed}
use Rattle.pdn_sql.specs.declared.token.Token.{Token}
use Rattle.pdn_sql.specs.declared.token.Token.TheVariants.{Word, Mark}
use Rattle.pdn_sql.specs.declared.token.Keyword.TheVariants as words
use Rattle.pdn_sql.specs.declared.token.Symbol.TheVariants as marks
use Rattle.pdn_sql.specs.declared.seen.Seen.{Seen}
use Rattle.pdn_sql.specs.declared.query.Named.{Named}
use Rattle.pdn_sql.specs.declared.query.Query.{Query}
use Rattle.pdn_sql.specs.Part.{says_option, says_all, after}
use Rattle.pdn_sql.specs.Grammar.{word_part, nameds, withs, query}
use Rattle.pdn_sql.specs.Tokens.{piece_of, put, tokens_from}
use Rattle.pdn_sql.specs.Marks.{first_place, start_after, queries_after, seen_after, mark_of, over}
use Rattle.pdn_sql.specs.Reading.{place_of}
use Rattle.pdn_sql.specs.Same.{bare}
use Rattle.pdn_sql.specs.Limits.{first_at, last_at, AreShort}
use Rattle.pdn_sql.proofs.Reprints.{bare_more}
use Rattle.pdn_sql.proofs.Nested.{deep, deep_more, word_bare, block_front}
use Rattle.pdn_sql.proofs.Quiet.{Clean, run, run_more, clean_rest}
use Rattle.pdn_sql.proofs.RoundTrip.{Whole, whole_of, withs_level}

-- ---- tokens stand one behind the other

-- from a place on, before the end
abbrev pub Rising : ℕ → ℕ → List Placed → Type 0
Rising low end [] = low ≤ end
Rising low end (p ∷ ps) = (low ≤ p.at) × Rising (p.at + 1) end ps

rising_less : (low next end : ℕ) (ts : List Placed) → low ≤ next → Rising next end ts → Rising low end ts
rising_less low next end [] le h = omega (arith, le, h)
rising_less low next end (p ∷ ps) le h = (omega (arith, le, h.0), h.1)

put_rising : (o : Option Token) (place end : ℕ) (ts : List Placed) → Rising (place + 1) end ts → Rising place end (put o place ts)
put_rising None place end ts h = rising_less place (place + 1) end ts (omega arith) h
put_rising (Some t) place end ts h = (omega arith, h)

pub tokens_rising : (left place end : ℕ) (bs : List ℕ) → place + length bs ≤ end → Rising place end (tokens_from left place bs)
unfolding tokens_from
tokens_rising zero place end [] le = omega (arith, le)
tokens_rising (suc left) place end [] le = omega (arith, le)
tokens_rising (suc left) place end (b ∷ bs) le = rising_less place (place + 1) end (tokens_from left (place + 1) bs) (omega arith) (tokens_rising left (place + 1) end bs (omega (arith, le)))
tokens_rising zero place end (b ∷ bs) le = put_rising (piece_of (b ∷ bs)).token place end _ (tokens_rising (piece_of (b ∷ bs)).more (place + 1) end bs (omega (arith, le)))

-- behind some tokens
pub record Later (end : ℕ) (ts : List Placed) : Type 0 where
  pub from : ℕ
  pub rises : Rising from end ts

later : (f k : List Placed) (low end : ℕ) → Rising low end (f ++ k) → Later end k
later [] k low end h = record { from = low; rises = h }
later (p ∷ f) k low end h = later f k (p.at + 1) end h.1

next_after : (k : List Placed) (low end : ℕ) → Rising low end k → low ≤ place_of end k
next_after [] low end h = h
next_after (p ∷ ps) low end h = h.0

next_clean : (k : List Placed) (end : ℕ) (s : Seen) → Clean end s k → over s.start (place_of end k) ≡ None
next_clean [] end s h = h
next_clean (p ∷ ps) end s h = h.0

-- ---- tokens in which no query ends

pub record Inside (t : Token) (ts : List Token) (k : ℕ) : Type 0 where
  pub depth : ℕ
  pub level : deep depth ts ≡ Some k
  pub start : (o : Option ℕ) (at : ℕ) → start_after o at t ≡ Some (first_place o at)
  pub queries : (q : ℕ) → queries_after q t ≡ q

inside : (t : Token) (ts : List Token) (n k : ℕ) → deep n (t ∷ ts) ≡ Some k → Inside t ts k
inside (Mark marks.Open) ts n k e = record { depth = suc n; level = e; start = λ o at. refl; queries = λ q. refl }
inside (Mark marks.Close) ts zero k e = absurd cc
inside (Mark marks.Close) ts (suc n) k e = record { depth = n; level = e; start = λ o at. refl; queries = λ q. refl }
inside (Mark marks.Semicolon) ts n k e = absurd cc
inside t ts n k e = record { depth = n; level = e; start = λ o at. refl; queries = λ q. refl }

run_inside : (ts : List Placed) (n k first : ℕ) (s : Seen) → deep n (bare ts) ≡ Some k → s.start ≡ Some first → ((run s ts).start ≡ Some first) × ((run s ts).queries ≡ s.queries)
run_inside [] n k first s level e = (e, refl)
run_inside (p ∷ ps) n k first s level e =
    let i = inside p.token (bare ps) n k level in
    let r = run_inside ps i.depth k first (seen_after s p.at p.token) i.level (i.start s.start p.at ∙ ap (λ (o : Option ℕ). Some (first_place o p.at)) e) in
    (r.0, r.1 ∙ i.queries s.queries)

-- ---- the first word of a query

abbrev IsFirst : Token → Type 0
IsFirst (Word words.Select) = Unit {0}
IsFirst (Word words.With) = Unit {0}
IsFirst t = ⊥

abbrev FirstOf : List Placed → Type 0
FirstOf [] = ⊥
FirstOf (p ∷ ps) = IsFirst p.token

some_queries : (q kind : ℕ) → (if q == 0 then Some kind else None) ≡ None → 1 ≤ q
some_queries zero kind e = absurd cc
some_queries (suc q) kind e = omega arith

first_word : (t : Token) (s : Seen) → IsFirst t → mark_of s t ≡ None → 1 ≤ s.queries
first_word (Word words.Select) s h e = some_queries s.queries 8 e
first_word (Word words.With) s h e = some_queries s.queries 8 e
first_word t s h e = absurd h

token_same : (t u : Token) (ts us : List Token) → t ∷ ts ≡ u ∷ us → u ≡ t
token_same t u ts us e = cc

first_bare : (ts : List Placed) (t : Token) (rest : List Token) → bare ts ≡ t ∷ rest → IsFirst t → FirstOf ts
first_bare [] t rest e h = absurd cc
first_bare (p ∷ ps) t rest e h = subst IsFirst (token_same p.token t (bare ps) rest e) h

first_more : (f k : List Placed) → FirstOf f → FirstOf (f ++ k)
first_more [] k h = absurd h
first_more (p ∷ f) k h = h

head_first : (o : Option (List Named)) (head body : List Placed) → says_option (after (word_part words.With) nameds) o head → FirstOf body → FirstOf (head ++ body)
head_first None head body says h = subst (λ (f : List Placed). FirstOf (f ++ body)) (sym says) h
head_first (Some ns) head body (x, to, (f, k, is, word, more)) h =
    first_more head body (first_bare head (Word words.With) (bare k) (ap bare is ∙ bare_more f k ∙ ap (λ (l : List Token). l ++ bare k) (word_bare words.With x.0 f word)) tt)

withs_first : (ns : List Named) (head body : List Placed) → withs.says ns head → FirstOf body → FirstOf (head ++ body)
unfolding withs
withs_first ns head body (o, to, says) h = head_first o head body says h

-- ---- a query from its first token to its semicolon

middle_first : (q : Query) (ts : List Placed) (w : Whole q ts) → FirstOf (w.head ++ w.body)
middle_first q ts w =
    let front = block_front q.main w.body w.main_ in
    withs_first q.with w.head w.body w.with_ (first_bare w.body (Word words.Select) front.rest front.is tt)

middle_level : (q : Query) (ts : List Placed) (w : Whole q ts) → deep 0 (bare (w.head ++ w.body)) ≡ Some 0
middle_level q ts w =
    let front = block_front q.main w.body w.main_ in
    ap (deep 0) (bare_more w.head w.body) ∙ deep_more (bare w.head) (bare w.body) 0 0 (withs_level q.with w.head 0 w.with_) ∙ ap (deep 0) front.is ∙ front.level 0

-- how a query ends
pub record Ends (s u : Seen) (first last : ℕ) : Type 0 where
  pub begun : 1 ≤ s.queries
  pub left : u.queries ≡ s.queries - 1
  pub short : last < first + 4096
  pub start : u.start ≡ None

over_by : (first place : ℕ) → over (Some first) place ≡ None → place ≤ first + 4096
over_by first place e = one (ltb (first + 4096) place) refl e
  where
    one : (b : Bool) → ltb (first + 4096) place ≡ b → (if b then Some (first + 4096) else None) ≡ None → place ≤ first + 4096
    one true f g = absurd cc
    one false f g = ltb-false (first + 4096) place f

ends : (mid k : List Placed) (last : Placed) (low end : ℕ) (s : Seen) → FirstOf mid → deep 0 (bare mid) ≡ Some 0 → last.token ≡ Mark marks.Semicolon → s.start ≡ None
    → Clean end s (mid ++ last ∷ k) → Rising low end (mid ++ last ∷ k) → Ends s (seen_after (run s mid) last.at last.token) (first_at mid) last.at
ends [] k last low end s first level semicolon none clean rising = absurd first
ends (p ∷ ps) k last low end s first level semicolon none clean rising =
    let mid : List Placed = p ∷ ps in
    let u : Seen = seen_after (run s mid) last.at last.token in
    let i = inside p.token (bare ps) 0 0 level in
    let r = run_inside ps i.depth 0 p.at (seen_after s p.at p.token) i.level (i.start s.start p.at ∙ ap (λ (o : Option ℕ). Some (first_place o p.at)) none) in
    let behind = clean_rest end mid (last ∷ k) s clean in
    let start : u.start ≡ (if ltb last.at (p.at + 4096) then None else Some p.at) = ap (λ (t : Token). start_after (run s mid).start last.at t) semicolon ∙ ap (λ (o : Option ℕ). start_after o last.at (Mark marks.Semicolon)) r.0 in
    let queries : u.queries ≡ s.queries - 1 = ap (queries_after (run s mid).queries) semicolon ∙ ap (λ (n : ℕ). n - 1) (r.1 ∙ i.queries s.queries) in
    let rest = later mid (last ∷ k) low end rising in
    one (ltb last.at (p.at + 4096)) refl start queries (first_word p.token s first clean.1) (next_clean k end u behind.2) (next_after k (last.at + 1) end rest.rises.1)
  where
    one : (b : Bool) → ltb last.at (p.at + 4096) ≡ b → (seen_after (run s (p ∷ ps)) last.at last.token).start ≡ (if b then None else Some p.at)
        → (seen_after (run s (p ∷ ps)) last.at last.token).queries ≡ s.queries - 1 → 1 ≤ s.queries
        → over (seen_after (run s (p ∷ ps)) last.at last.token).start (place_of end k) ≡ None → last.at + 1 ≤ place_of end k
        → Ends s (seen_after (run s (p ∷ ps)) last.at last.token) p.at last.at
    one true e start queries begun room next = record { begun = begun; left = queries; short = ltb-true last.at (p.at + 4096) e; start = start }
    one false e start queries begun room next =
        let full : place_of end k ≤ p.at + 4096 = over_by p.at (place_of end k) (ap (λ (o : Option ℕ). over o (place_of end k)) (sym start) ∙ room) in
        let late : p.at + 4096 ≤ last.at = ltb-false last.at (p.at + 4096) e in
        absurd (omega (arith, full, late, next))

-- ---- all queries

first_same : (mid : List Placed) (last : Placed) → FirstOf mid → first_at (mid ++ last ∷ []) ≡ first_at mid
first_same [] last h = absurd h
first_same (p ∷ ps) last h = refl

last_is : (mid : List Placed) (last : Placed) → last_at (mid ++ last ∷ []) ≡ last.at
last_is [] last = refl
last_is (p ∷ []) last = refl
last_is (p ∷ q ∷ ps) last = last_is (q ∷ ps) last

-- a query and what is seen behind it
query_ends : (q : Query) (ts k : List Placed) (low end : ℕ) (s : Seen) → query.says q ts → s.start ≡ None → Clean end s (ts ++ k) → Rising low end (ts ++ k) → Ends s (run s ts) (first_at ts) (last_at ts)
query_ends q ts k low end s says none clean rising =
    let w = whole_of q ts says in
    let mid : List Placed = w.head ++ w.body in
    let whole : ts ++ k ≡ mid ++ w.last ∷ k = ap (λ (l : List Placed). l ++ k) w.parts ∙ append_assoc mid (w.last ∷ []) k in
    let e = ends mid k w.last low end s (middle_first q ts w) (middle_level q ts w) w.ends none (subst (Clean end s) whole clean) (subst (Rising low end) whole rising) in
    let seen : run s ts ≡ seen_after (run s mid) w.last.at w.last.token = ap (run s) w.parts ∙ run_more mid (w.last ∷ []) s in
    let first : first_at ts ≡ first_at mid = ap first_at w.parts ∙ first_same mid w.last (middle_first q ts w) in
    let last : last_at ts ≡ w.last.at = ap last_at w.parts ∙ last_is mid w.last in
    record {
      begun = e.begun;
      left = ap (λ (u : Seen). u.queries) seen ∙ e.left;
      short = omega (arith, e.short, first, last);
      start = ap (λ (u : Seen). u.start) seen ∙ e.start;
    }

pub extents : (qs : List Query) (ts : List Placed) (low end : ℕ) (s : Seen) → says_all query qs ts → s.start ≡ None → Clean end s ts → Rising low end ts → (length qs ≤ s.queries) × AreShort qs ts
extents [] ts low end s says none clean rising = (omega arith, says)
extents (q ∷ qs) ts low end s (f, k, is, says, more) none clean rising =
    let whole : Clean end s (f ++ k) = subst (Clean end s) is clean in
    let rises : Rising low end (f ++ k) = subst (Rising low end) is rising in
    let e = query_ends q f k low end s says none whole rises in
    let rest = later f k low end rises in
    let r = extents qs k rest.from end (run s f) more e.start (clean_rest end f k s whole) rest.rises in
    (omega (arith, r.0, e.begun, e.left), (f, k, is, says, e.short, r.1))
