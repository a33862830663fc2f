-- Which tokens of a query are marked.
use Rattle.std.proofs.Common.{◌≡◌, ℕ, zero, suc, ◌+◌, ◌-◌, ◌≤◌, Bool, true, false, ltb, List, [], ◌∷◌, ◌++◌, Option, Some, None, refl, sym, ap, subst, ◌∙◌, arith}
use Rattle.std.specs.Prelude.{if◌then◌else◌, ◌&&◌, not, ◌==◌}
use Rattle.std.proofs.lemmas.Bool.{false≢true, le-ltb}
use Rattle.std.proofs.lemmas.Bool.Decides.{nat_tests}
use Rattle.pdn_sql.specs.declared.token.Placed.{Placed}
use Rattle.pdn_sql.specs.declared.token.Token.{Token}
use Rattle.pdn_sql.specs.declared.token.Token.TheVariants.{Word, Number, Mark}
use Rattle.pdn_sql.specs.declared.token.Token.TheVariants as tokens
use Rattle.pdn_sql.specs.declared.token.Keyword.TheVariants as words
use Rattle.pdn_sql.specs.declared.token.Symbol.TheVariants as marks
use Rattle.pdn_sql.specs.declared.seen.Seen.{Seen}
use Rattle.pdn_sql.specs.Marks.{numbered_after, queries_after, depth_after, blocks_after, main_after, is_comma, seen_after, mark_of, marked_or, marked_token, over, cut, marked}
use Rattle.pdn_sql.specs.Same.{bare}
use Rattle.pdn_sql.proofs.Good.{NoBad, fair_cons, Low}
use Rattle.pdn_sql.proofs.Reprints.{signs}
use Rattle.pdn_sql.proofs.Nested.{deep}

-- ---- no token is marked

abbrev pub Clean : ℕ → Seen → List Placed → Type 0
Clean end s [] = over s.start end ≡ None
Clean end s (p ∷ ps) = (over s.start p.at ≡ None) × (mark_of s p.token ≡ None) × Clean end (seen_after s p.at p.token) ps

cut_by : (o : Option ℕ) (ts : List Placed) → NoBad (bare (cut o ts)) → o ≡ None
cut_by None ts h = refl
cut_by (Some place) ts h = absurd h

cut_rest : (o : Option ℕ) (ts : List Placed) → NoBad (bare (cut o ts)) → cut o ts ≡ ts
cut_rest None ts h = refl
cut_rest (Some place) ts h = absurd h

marked_by : (o : Option ℕ) (t : Token) → NoBad (marked_or o t ∷ []) → o ≡ None
marked_by None t h = refl
marked_by (Some kind) t h = absurd h

pub unmarked : (end : ℕ) (ts : List Placed) (s : Seen) → NoBad (bare (marked end s ts)) → Clean end s ts × (marked end s ts ≡ ts)
unfolding marked
unmarked end [] s h = (cut_by (over s.start end) [] h, cut_rest (over s.start end) [] h)
unmarked end (p ∷ ps) s h =
    let here : Placed = record { at = p.at; token = marked_token s p.token } in
    let rest : List Placed = marked end (seen_after s p.at p.token) ps in
    let whole : cut (over s.start p.at) (here ∷ rest) ≡ here ∷ rest = cut_rest (over s.start p.at) (here ∷ rest) h in
    let fair : NoBad (marked_token s p.token ∷ bare rest) = subst (λ (l : List Placed). NoBad (bare l)) whole h in
    let f = fair_cons (marked_token s p.token) (bare rest) fair in
    let none : mark_of s p.token ≡ None = marked_by (mark_of s p.token) p.token f.0 in
    let r = unmarked end ps (seen_after s p.at p.token) f.1 in
    let same : here ≡ p = ap (λ (o : Option ℕ). record { at = p.at; token = marked_or o p.token }) none in
    ((cut_by (over s.start p.at) (here ∷ rest) h, none, r.0), whole ∙ ap (λ (q : Placed). q ∷ rest) same ∙ ap (λ (l : List Placed). p ∷ l) r.1)

pub clean_marked : (end : ℕ) (ts : List Placed) (s : Seen) → Clean end s ts → marked end s ts ≡ ts
unfolding marked
clean_marked end [] s h = rw h refl
clean_marked end (p ∷ ps) s (low, none, more) = rw (low, none, clean_marked end ps (seen_after s p.at p.token) more) refl

-- what is seen behind tokens
abbrev pub run : Seen → List Placed → Seen
run s [] = s
run s (p ∷ ps) = run (seen_after s p.at p.token) ps

pub run_more : (f k : List Placed) (s : Seen) → run s (f ++ k) ≡ run (run s f) k
run_more [] k s = refl
run_more (p ∷ f) k s = run_more f k (seen_after s p.at p.token)

pub clean_rest : (end : ℕ) (f k : List Placed) (s : Seen) → Clean end s (f ++ k) → Clean end (run s f) k
clean_rest end [] k s h = h
clean_rest end (p ∷ f) k s (a, b, h) = clean_rest end f k (seen_after s p.at p.token) h

-- ---- the second ROW_NUMBER of a block

abbrev five : Token → Bool → Type 0
five (Word words.RowNumber) true = ⊥
five t n = Unit {0}

abbrev pub NoSecond : Bool → List Token → Type 0
NoSecond n [] = Unit {0}
NoSecond n (t ∷ ts) = five t n × NoSecond (numbered_after n t) ts

five_num : (b : Bool) (kind : ℕ) → (if b then Some kind else None) ≡ None → five (Word words.RowNumber) b
five_num true kind e = absurd cc
five_num false kind e = tt

five_by : (t : Token) (s : Seen) → mark_of s t ≡ None → five t s.numbered
five_by (Word words.RowNumber) s e = five_num s.numbered 5 e
five_by t s e = tt

pub clean_no_second : (end : ℕ) (f k : List Placed) (s : Seen) → Clean end s (f ++ k) → NoSecond s.numbered (bare f)
clean_no_second end [] k s h = tt
clean_no_second end (p ∷ f) k s (a, b, h) = (five_by p.token s b, clean_no_second end f k (seen_after s p.at p.token) h)

pub second_signs : (ts : List Token) (n : Bool) → NoSecond n ts → NoSecond n (signs ts)
second_signs [] n h = tt
second_signs (Word words.Select ∷ ts) n h = (h.0, second_signs ts false h.1)
second_signs (Word words.RowNumber ∷ ts) n h = (h.0, second_signs ts true h.1)
second_signs (t ∷ ts) n h = second_signs ts n h.1

pub signs_second : (ts : List Token) (n : Bool) → NoSecond n (signs ts) → NoSecond n ts
signs_second [] n h = tt
signs_second (Word words.Select ∷ ts) n h = (h.0, signs_second ts false h.1)
signs_second (Word words.RowNumber ∷ ts) n h = (h.0, signs_second ts true h.1)
signs_second (t ∷ ts) n h = (tt, signs_second ts n h)

pub second_fresh : (ts : List Token) (n : Bool) → NoSecond n ts → NoSecond false ts
second_fresh [] n h = tt
second_fresh (Word words.Select ∷ ts) n h = (tt, h.1)
second_fresh (Word words.RowNumber ∷ ts) n h = (tt, h.1)
second_fresh (t ∷ ts) n h = (tt, second_fresh ts n h.1)

-- ---- the name of a fifth block of WITH

abbrev six : Token → ℕ → ℕ → Bool → Bool → Type 0
six (tokens.Name text) d b m c = (c && d == 0 && b == 0 && not m) ≡ false
six t d b m c = Unit {0}

abbrev pub NoFifth : ℕ → ℕ → Bool → Bool → List Token → Type 0
NoFifth d b m c [] = Unit {0}
NoFifth d b m c (t ∷ ts) = six t d b m c × NoFifth (depth_after d t) (blocks_after d b t) (main_after d m t) (is_comma t) ts

six_name : (b : Bool) (kind : ℕ) → (if b then Some kind else None) ≡ None → b ≡ false
six_name true kind e = absurd cc
six_name false kind e = refl

six_by : (t : Token) (s : Seen) → mark_of s t ≡ None → six t s.depth s.blocks s.main s.comma
six_by (tokens.Name text) s e = six_name _ 6 e
six_by t s e = tt

pub clean_no_fifth : (end : ℕ) (f k : List Placed) (s : Seen) → Clean end s (f ++ k) → NoFifth s.depth s.blocks s.main s.comma (bare f)
clean_no_fifth end [] k s h = tt
clean_no_fifth end (p ∷ f) k s (a, b, h) = (six_by p.token s b, clean_no_fifth end f k (seen_after s p.at p.token) h)

zero_deep : (d n : ℕ) → d ≡ suc n → d == 0 ≡ false
zero_deep d n e = grind (arith, nat_tests)

blocks_deep : (d n b : ℕ) → d ≡ suc n → (if d == 0 then b - 1 else b) ≡ b
blocks_deep d n b e = rw (zero_deep d n e) refl

main_deep : (d n : ℕ) (m : Bool) → d ≡ suc n → (if d == 0 then true else m) ≡ m
main_deep d n m e = rw (zero_deep d n e) refl

six_deep : (c x y z : Bool) → x ≡ false → (c && x && y && z) ≡ false
six_deep true false y z e = refl
six_deep false x y z e = refl
six_deep true true y z e = absurd (false≢true (sym e))

six_main : (c x y : Bool) → (c && x && y && false) ≡ false
six_main true true true = refl
six_main true true false = refl
six_main true false y = refl
six_main false x y = refl

-- where the part inside parentheses ends
pub record Behind (d b : ℕ) (m : Bool) (rest : List Token) : Type 0 where
  pub depth : ℕ
  pub comma : Bool
  pub level : depth ≡ suc d
  pub quiet : NoFifth depth b m comma rest

-- inside parentheses nothing changes
pub into : (ts : List Token) (n k d b : ℕ) (m c : Bool) (rest : List Token) → d ≡ suc n → deep n ts ≡ Some k → NoFifth d b m c (ts ++ rest) → Behind k b m rest
into [] n k d b m c rest e l h =
    let same : n ≡ k = cc in
    record { depth = d; comma = c; level = e ∙ ap (λ (x : ℕ). suc x) same; quiet = h }
into (Mark marks.Open ∷ ts) n k d b m c rest e l h = into ts (suc n) k (d + 1) b m false rest (omega (arith, e)) l h.1
into (Mark marks.Close ∷ ts) zero k d b m c rest e l h = absurd cc
into (Mark marks.Close ∷ ts) (suc n) k d b m c rest e l h = into ts n k (d - 1) b m false rest (omega (arith, e)) l h.1
into (Mark marks.Semicolon ∷ ts) n k d b m c rest e l h = absurd cc
into (Mark marks.Comma ∷ ts) n k d b m c rest e l h = into ts n k d b m true rest e l (subst (λ (x : ℕ). NoFifth d x m true (ts ++ rest)) (blocks_deep d n b e) h.1)
into (Word words.Select ∷ ts) n k d b m c rest e l h = into ts n k d b m false rest e l (subst (λ (x : Bool). NoFifth d b x false (ts ++ rest)) (main_deep d n m e) h.1)
into (t ∷ ts) n k d b m c rest e l h = into ts n k d b m (is_comma t) rest e l h.1

pub out_of : (ts : List Token) (n k d b : ℕ) (m c : Bool) (rest : List Token) → d ≡ suc n → deep n ts ≡ Some k → ((x : ℕ) (y : Bool) → x ≡ suc k → NoFifth x b m y rest) → NoFifth d b m c (ts ++ rest)
out_of [] n k d b m c rest e l h =
    let same : n ≡ k = cc in
    h d c (e ∙ ap (λ (x : ℕ). suc x) same)
out_of (Mark marks.Open ∷ ts) n k d b m c rest e l h = (tt, out_of ts (suc n) k (d + 1) b m false rest (omega (arith, e)) l h)
out_of (Mark marks.Close ∷ ts) zero k d b m c rest e l h = absurd cc
out_of (Mark marks.Close ∷ ts) (suc n) k d b m c rest e l h = (tt, out_of ts n k (d - 1) b m false rest (omega (arith, e)) l h)
out_of (Mark marks.Semicolon ∷ ts) n k d b m c rest e l h = absurd cc
out_of (Mark marks.Comma ∷ ts) n k d b m c rest e l h = (tt, subst (λ (x : ℕ). NoFifth d x m true (ts ++ rest)) (sym (blocks_deep d n b e)) (out_of ts n k d b m true rest e l h))
out_of (Word words.Select ∷ ts) n k d b m c rest e l h = (tt, subst (λ (x : Bool). NoFifth d b x false (ts ++ rest)) (sym (main_deep d n m e)) (out_of ts n k d b m false rest e l h))
out_of (tokens.Name text ∷ ts) n k d b m c rest e l h = (six_deep c (d == 0) (b == 0) (not m) (zero_deep d n e), out_of ts n k d b m false rest e l h)
out_of (t ∷ ts) n k d b m c rest e l h = (tt, out_of ts n k d b m (is_comma t) rest e l h)

if_same : (b : Bool) → (if b then true else true) ≡ true
if_same true = refl
if_same false = refl

-- in a main block no name is that of a block of WITH
pub in_main : (ts : List Token) (n k d b : ℕ) (c : Bool) (rest : List Token) → deep n ts ≡ Some k → ((x y : ℕ) (z : Bool) → NoFifth x y true z rest) → NoFifth d b true c (ts ++ rest)
in_main [] n k d b c rest l h = h d b c
in_main (Mark marks.Open ∷ ts) n k d b c rest l h = (tt, in_main ts (suc n) k (d + 1) b false rest l h)
in_main (Mark marks.Close ∷ ts) zero k d b c rest l h = absurd cc
in_main (Mark marks.Close ∷ ts) (suc n) k d b c rest l h = (tt, in_main ts n k (d - 1) b false rest l h)
in_main (Mark marks.Semicolon ∷ ts) n k d b c rest l h = absurd cc
in_main (Mark marks.Comma ∷ ts) n k d b c rest l h = (tt, in_main ts n k d (if d == 0 then b - 1 else b) true rest l h)
in_main (Word words.Select ∷ ts) n k d b c rest l h = (tt, subst (λ (x : Bool). NoFifth d b x false (ts ++ rest)) (sym (if_same (d == 0))) (in_main ts n k d b false rest l h))
in_main (tokens.Name text ∷ ts) n k d b c rest l h = (six_main c (d == 0) (b == 0), in_main ts n k d b false rest l h)
in_main (t ∷ ts) n k d b c rest l h = (tt, in_main ts n k d b (is_comma t) rest l h)

-- ---- the first word of a query past the most

abbrev eight : Token → ℕ → Type 0
eight (Word words.Select) q = 1 ≤ q
eight (Word words.With) q = 1 ≤ q
eight t q = Unit {0}

abbrev pub NoMore : ℕ → List Token → Type 0
NoMore q [] = Unit {0}
NoMore q (t ∷ ts) = eight t q × NoMore (queries_after q t) ts

pub one_query : (ts : List Token) (n k q : ℕ) → deep n ts ≡ Some k → 1 ≤ q → NoMore q (ts ++ Mark marks.Semicolon ∷ [])
one_query [] n k q l h = (tt, tt)
one_query (Mark marks.Open ∷ ts) n k q l h = (tt, one_query ts (suc n) k q l h)
one_query (Mark marks.Close ∷ ts) zero k q l h = absurd cc
one_query (Mark marks.Close ∷ ts) (suc n) k q l h = (tt, one_query ts n k q l h)
one_query (Mark marks.Semicolon ∷ ts) n k q l h = absurd cc
one_query (Word words.Select ∷ ts) n k q l h = (h, one_query ts n k q l h)
one_query (Word words.With ∷ ts) n k q l h = (h, one_query ts n k q l h)
one_query (t ∷ ts) n k q l h = (tt, one_query ts n k q l h)

-- ---- a text of at most 4096 bytes

over_low : (o : Option ℕ) (place : ℕ) → place ≤ 4096 → over o place ≡ None
over_low None place le = refl
over_low (Some first) place le =
    let no : ltb (first + 4096) place ≡ false = le-ltb _ _ (omega arith) in
    rw no refl

num_none : (b : Bool) (kind : ℕ) → five (Word words.RowNumber) b → (if b then Some kind else None) ≡ None
num_none true kind h = absurd h
num_none false kind h = refl

word_none : (q kind : ℕ) → 1 ≤ q → (if q == 0 then Some kind else None) ≡ None
word_none zero kind h = absurd (omega (arith, h))
word_none (suc q) kind h = rw (zero_deep (suc q) q refl) refl

mark_none : (t : Token) (s : Seen) → five t s.numbered → six t s.depth s.blocks s.main s.comma → eight t s.queries → mark_of s t ≡ None
mark_none (Word words.RowNumber) s a b c = num_none s.numbered 5 a
mark_none (Word words.Select) s a b c = word_none s.queries 8 c
mark_none (Word words.With) s a b c = word_none s.queries 8 c
mark_none (tokens.Name text) s a b c = rw b refl
mark_none t s a b c = refl

pub clean_out : (end : ℕ) (ts : List Placed) (s : Seen) → end ≤ 4096 → Low end ts → NoSecond s.numbered (bare ts) → NoFifth s.depth s.blocks s.main s.comma (bare ts) → NoMore s.queries (bare ts) → Clean end s ts
clean_out end [] s le low a b c = over_low s.start end le
clean_out end (p ∷ ps) s le low a b c =
    (over_low s.start p.at (omega (arith, low.0)), mark_none p.token s a.0 b.0 c.0, clean_out end ps (seen_after s p.at p.token) le low.1 a.1 b.1 c.1)
