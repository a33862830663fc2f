-- Each way to make a part keeps its reading exact.
use Rattle.std.proofs.Common.{◌≡◌, ℕ, zero, suc, ◌-◌, ◌≤◌, Bool, true, false, cond, List, [], ◌∷◌, ◌++◌, length, Option, Some, None, Ok, Err, refl, sym, ap, subst, ◌∙◌, append_assoc, arith, inl, inr, ◌⊎◌}
use Rattle.std.specs.Prelude.{◌||◌, ◌&&◌}
use Rattle.std.proofs.lemmas.List.{append-nil, length-append, nil_from_length}
use Rattle.std.proofs.lemmas.Bool.{false≢true}
use Rattle.pdn_sql.specs.declared.token.Placed.{Placed}
use Rattle.pdn_sql.specs.Part.{Read, ◌>>=◌, Part, begins, taken, one_read, one, both, says_option, option, either, says_all, many_read, many, made, none_left, whole, next, IsFirstFault}

-- what was read: the tokens that say it. What was read depends on these and the next one alone
pub record Found {A : Type 0} (g : Part A) (ts : List Placed) (x : A) (rest : List Placed) : Type 0 where
  pub front : List Placed
  pub parts : ts ≡ front ++ rest
  pub says : g.says x front
  pub same : (other : List Placed) → next other ≡ next rest → g.read (front ++ other) ≡ Ok (x, other)

pub record Stuck {A : Type 0} (g : Part A) (ts rest : List Placed) : Type 0 where
  pub front : List Placed
  pub parts : ts ≡ front ++ rest
  pub goes_on : (x : A) × (more : List Placed) × g.says x (front ++ more)
  pub same : (other : List Placed) → next other ≡ next rest → g.read (front ++ other) ≡ Err other

abbrev pub Begun : {A : Type 0} → Part A → List Placed → Type 0
Begun g [] = g.empty ≡ true
Begun g (p ∷ ps) = g.starts p ≡ true

pub record IsExact {A : Type 0} (g : Part A) : Type 0 where
  pub found : (ts : List Placed) (x : A) (rest : List Placed) → g.read ts ≡ Ok (x, rest) → Found g ts x rest
  pub only : (x : A) (front rest : List Placed) → g.says x front → begins g.goes_on rest ≡ false → g.read (front ++ rest) ≡ Ok (x, rest)
  pub stuck : (ts rest : List Placed) → g.read ts ≡ Err rest → Stuck g ts rest
  pub begun : (x : A) (front : List Placed) → g.says x front → Begun g front
  pub some : (x : A) × (ts : List Placed) × g.says x ts

-- ---- tools

pub bind_ok : {A B : Type 0} (r : Read A) (f : A × List Placed → Read B) (y : B × List Placed) → (r >>= f) ≡ Ok y → (x : A × List Placed) × (r ≡ Ok x) × (f x ≡ Ok y)
bind_ok (Ok x) f y e = (x, refl, e)
bind_ok (Err d) f y e = absurd cc

pub bind_err : {A B : Type 0} (r : Read A) (f : A × List Placed → Read B) (d : List Placed) → (r >>= f) ≡ Err d → (r ≡ Err d) ⊎ ((x : A × List Placed) × (r ≡ Ok x) × (f x ≡ Err d))
bind_err (Ok x) f d e = inr (x, refl, e)
bind_err (Err c) f d e = inl cc

abbrev read_is : {A : Type 0} → A × List Placed → Read A
read_is x = Ok x

pub ok_is : {A : Type 0} (x y : A × List Placed) → read_is x ≡ read_is y → x ≡ y
ok_is x y e = cc

next_same : (f other rest : List Placed) → next other ≡ next rest → next (f ++ other) ≡ next (f ++ rest)
next_same [] other rest h = h
next_same (p ∷ f) other rest h = refl

-- ---- one

one_found : {A : Type 0} (pick : Placed → Option A) (p : Placed) (ps : List Placed) (x : A) (rest : List Placed) (o : Option A) → pick p ≡ o → taken o p ps ≡ Ok (x, rest) → Found (one pick) (p ∷ ps) x rest
one_found pick p ps x rest None h e = absurd cc
one_found pick p ps x rest (Some y) h e =
    let same = ok_is (y, ps) (x, rest) e in
    let made : Found (one pick) (p ∷ ps) y ps = record { front = p ∷ []; parts = refl; says = (p, h, refl); same = λ other _. rw h refl } in
    subst (λ (z : _ × List Placed). Found (one pick) (p ∷ ps) z.0 z.1) same made

one_stuck_at : {A : Type 0} (pick : Placed → Option A) (p : Placed) (rest : List Placed) (other : List Placed) → pick p ≡ None → next other ≡ next (p ∷ rest) → one_read pick other ≡ Err other
one_stuck_at pick p rest [] h e = absurd cc
one_stuck_at pick p rest (q ∷ qs) h e =
    let same : q ≡ p = cc in
    rw (same, h) refl

one_stuck : {A : Type 0} (pick : Placed → Option A) (p : Placed) (ps rest : List Placed) (o : Option A) → (x : A) × (ts : List Placed) × (one pick).says x ts → pick p ≡ o → taken o p ps ≡ Err rest → Stuck (one pick) (p ∷ ps) rest
one_stuck pick p ps rest None some h e =
    let same : p ∷ ps ≡ rest = cc in
    record { front = []; parts = same; goes_on = some; same = λ other k. one_stuck_at pick p ps other h (k ∙ ap next (sym same)) }
one_stuck pick p ps rest (Some y) some h e = absurd cc

one_ends : {A : Type 0} (pick : Placed → Option A) (rest other : List Placed) → one_read pick [] ≡ Err rest → next other ≡ next rest → one_read pick other ≡ Err other
one_ends pick rest [] e k = refl
one_ends pick [] (q ∷ qs) e k = absurd cc
one_ends pick (p ∷ ps) (q ∷ qs) e k = absurd cc

one_is_found : {A : Type 0} (pick : Placed → Option A) (ts : List Placed) (x : A) (rest : List Placed) → one_read pick ts ≡ Ok (x, rest) → Found (one pick) ts x rest
one_is_found pick [] x rest e = absurd cc
one_is_found pick (p ∷ ps) x rest e = one_found pick p ps x rest (pick p) refl e

one_is_stuck : {A : Type 0} (pick : Placed → Option A) (ts rest : List Placed) → (x : A) × (ts : List Placed) × (one pick).says x ts → one_read pick ts ≡ Err rest → Stuck (one pick) ts rest
one_is_stuck pick [] rest some e = record { front = []; parts = cc; goes_on = some; same = λ other k. one_ends pick rest other e k }
one_is_stuck pick (p ∷ ps) rest some e = one_stuck pick p ps rest (pick p) some refl e

one_begun : {A : Type 0} (pick : Placed → Option A) (x : A) (front : List Placed) → (one pick).says x front → Begun (one pick) front
one_begun pick x [] (p, picked, is) = absurd cc
one_begun pick x (q ∷ qs) (p, picked, is) =
    let same : q ≡ p = cc in
    rw (same, picked) refl

pub one_exact : {A : Type 0} (pick : Placed → Option A) (p : Placed) (x : A) → pick p ≡ Some x → IsExact (one pick)
one_exact pick p x picked = record {
  found = one_is_found pick;
  only = λ y front rest (q, h, is) _. rw (is, h) refl;
  stuck = λ ts rest e. one_is_stuck pick ts rest (x, p ∷ [], (p, picked, refl)) e;
  begun = one_begun pick;
  some = (x, p ∷ [], (p, picked, refl));
}

-- ---- both

-- no token with which b begins goes on with a
pub record Apart {A B : Type 0} (a : Part A) (b : Part B) : Type 0 where
  pub at : (p : Placed) → b.starts p ≡ true → a.goes_on p ≡ false

or_false : (x y : Bool) → x || y ≡ false → (x ≡ false) × (y ≡ false)
or_false true y e = absurd cc
or_false false y e = (refl, e)

first_ends : (f g : Placed → Bool) (e : Bool) (rest : List Placed) → e ≡ true → begins (λ p. f p || (e && g p)) rest ≡ false → begins g rest ≡ false
first_ends f g e [] h k = refl
first_ends f g e (p ∷ ps) h k =
    let only : f p || g p ≡ false = rw h at k in
    (or_false (f p) (g p) only).1

second_ends : (f g : Placed → Bool) (e : Bool) (rest : List Placed) → begins (λ p. f p || (e && g p)) rest ≡ false → begins f rest ≡ false
second_ends f g e [] k = refl
second_ends f g e (p ∷ ps) k = (or_false (f p) (e && g p) k).0

front_ends : {A B : Type 0} (a : Part A) (b : Part B) → Apart a b → (k rest : List Placed) → Begun b k → begins (both a b).goes_on rest ≡ false → begins a.goes_on (k ++ rest) ≡ false
front_ends a b apart [] rest begun e = first_ends b.goes_on a.goes_on b.empty rest begun e
front_ends a b apart (p ∷ ps) rest begun e = apart.at p begun

or_true : (x : Bool) → x || true ≡ true
or_true true = refl
or_true false = refl

both_begun : {A B : Type 0} (a : Part A) (b : Part B) (f k : List Placed) → Begun a f → Begun b k → Begun (both a b) (f ++ k)
both_begun a b [] [] h i = rw (h, i) refl
both_begun a b [] (q ∷ k) h i = rw (h, i) (or_true (a.starts q))
both_begun a b (p ∷ f) k h i = rw h refl

both_found : {A B : Type 0} (a : Part A) (b : Part B) → IsExact a → IsExact b → (ts : List Placed) (x : A × B) (rest : List Placed) → (both a b).read ts ≡ Ok (x, rest) → Found (both a b) ts x rest
both_found a b ea eb ts x rest e =
    let s = bind_ok (a.read ts) (λ x. b.read x.1 >>= λ y. Ok ((x.0, y.0), y.1)) (x, rest) e in
    let t = bind_ok (b.read s.0.1) (λ y. Ok ((s.0.0, y.0), y.1)) (x, rest) s.2 in
    let fa = ea.found ts s.0.0 s.0.1 s.1 in
    let fb = eb.found s.0.1 t.0.0 t.0.1 t.1 in
    let made : Found (both a b) ts (s.0.0, t.0.0) t.0.1 = record {
      front = fa.front ++ fb.front;
      parts = rw (append_assoc fa.front fb.front t.0.1, ← fb.parts) fa.parts;
      says = (fa.front, fb.front, refl, fa.says, fb.says);
      same = λ other h. rw (append_assoc fa.front fb.front other, fa.same (fb.front ++ other) (next_same fb.front other t.0.1 h ∙ ap next (sym fb.parts)), fb.same other h) refl;
    } in
    subst (λ (y : (_ × _) × List Placed). Found (both a b) ts y.0 y.1) (ok_is ((s.0.0, t.0.0), t.0.1) (x, rest) t.2) made

bind_err_made : {A B : Type 0} (r : Read A) (f : A × List Placed → B × List Placed) (d : List Placed) → (r >>= λ y. Ok (f y)) ≡ Err d → r ≡ Err d
bind_err_made (Ok x) f d e = absurd cc
bind_err_made (Err c) f d e = cc

both_stuck_first : {A B : Type 0} (a : Part A) (b : Part B) → IsExact a → IsExact b → (ts rest : List Placed) → a.read ts ≡ Err rest → Stuck (both a b) ts rest
both_stuck_first a b ea eb ts rest h =
    let s = ea.stuck ts rest h in
    let g = s.goes_on in
    record {
      front = s.front;
      parts = s.parts;
      goes_on = ((g.0, eb.some.0), g.1 ++ eb.some.1, (s.front ++ g.1, eb.some.1, sym (append_assoc s.front g.1 eb.some.1), g.2, eb.some.2));
      same = λ other k. rw (s.same other k) refl;
    }

both_stuck_second : {A B : Type 0} (a : Part A) (b : Part B) → IsExact a → IsExact b → (ts rest : List Placed) (x : A × List Placed) → a.read ts ≡ Ok x → b.read x.1 ≡ Err rest → Stuck (both a b) ts rest
both_stuck_second a b ea eb ts rest x h k =
    let fa = ea.found ts x.0 x.1 h in
    let s = eb.stuck x.1 rest k in
    let g = s.goes_on in
    record {
      front = fa.front ++ s.front;
      parts = rw (append_assoc fa.front s.front rest, ← s.parts) fa.parts;
      goes_on = ((x.0, g.0), g.1, (fa.front, s.front ++ g.1, append_assoc fa.front s.front g.1, fa.says, g.2));
      same = λ other i. rw (append_assoc fa.front s.front other, fa.same (s.front ++ other) (next_same s.front other rest i ∙ ap next (sym s.parts)), s.same other i) refl;
    }

both_stuck : {A B : Type 0} (a : Part A) (b : Part B) → IsExact a → IsExact b → (ts rest : List Placed) → (both a b).read ts ≡ Err rest → Stuck (both a b) ts rest
both_stuck a b ea eb ts rest e =
    elim (bind_err (a.read ts) (λ x. b.read x.1 >>= λ y. Ok ((x.0, y.0), y.1)) rest e) [
      | inl h ↦ both_stuck_first a b ea eb ts rest h
      | inr (x, h, k) ↦ both_stuck_second a b ea eb ts rest x h (bind_err_made (b.read x.1) (λ y. ((x.0, y.0), y.1)) rest k)
    ]

pub both_exact : {A B : Type 0} (a : Part A) (b : Part B) → IsExact a → IsExact b → Apart a b → IsExact (both a b)
both_exact a b ea eb apart = record {
  found = both_found a b ea eb;
  only = λ x front rest (f, k, is, sa, sb) e. rw (is, append_assoc f k rest, ea.only x.0 f (k ++ rest) sa (front_ends a b apart k rest (eb.begun x.1 k sb) e), eb.only x.1 k rest sb (second_ends b.goes_on a.goes_on b.empty rest e)) refl;
  stuck = both_stuck a b ea eb;
  begun = λ x front (f, k, is, sa, sb). subst (Begun (both a b)) (sym is) (both_begun a b f k (ea.begun x.0 f sa) (eb.begun x.1 k sb));
  some = ((ea.some.0, eb.some.0), ea.some.1 ++ eb.some.1, (ea.some.1, eb.some.1, refl, ea.some.2, eb.some.2));
}

-- ---- made

made_found : {A B : Type 0} (to : A → B) (a : Part A) → IsExact a → (ts : List Placed) (y : B) (rest : List Placed) → (made to a).read ts ≡ Ok (y, rest) → Found (made to a) ts y rest
made_found to a ea ts y rest e =
    let s = bind_ok (a.read ts) (λ x. Ok (to x.0, x.1)) (y, rest) e in
    let f = ea.found ts s.0.0 s.0.1 s.1 in
    let it : Found (made to a) ts (to s.0.0) s.0.1 = record { front = f.front; parts = f.parts; says = (s.0.0, refl, f.says); same = λ other h. rw (f.same other h) refl } in
    subst (λ (z : _ × List Placed). Found (made to a) ts z.0 z.1) (ok_is (to s.0.0, s.0.1) (y, rest) s.2) it

made_stuck : {A B : Type 0} (to : A → B) (a : Part A) → IsExact a → (ts rest : List Placed) → a.read ts ≡ Err rest → Stuck (made to a) ts rest
made_stuck to a ea ts rest e =
    let s = ea.stuck ts rest e in
    let g = s.goes_on in
    record { front = s.front; parts = s.parts; goes_on = (to g.0, g.1, (g.0, refl, g.2)); same = λ other h. rw (s.same other h) refl }

pub made_exact : {A B : Type 0} (to : A → B) (a : Part A) → IsExact a → IsExact (made to a)
made_exact to a ea = record {
  found = made_found to a ea;
  only = λ y front rest (x, is, says) e. rw (ea.only x front rest says e, is) refl;
  stuck = λ ts rest e. made_stuck to a ea ts rest (bind_err_made (a.read ts) (λ x. (to x.0, x.1)) rest e);
  begun = λ y front (x, is, says). ea.begun x front says;
  some = (to ea.some.0, ea.some.1, (ea.some.0, refl, ea.some.2));
}

-- ---- option

-- no value is said by no tokens
pub record IsFull {A : Type 0} (a : Part A) : Type 0 where
  pub full : a.empty ≡ false

begins_same : (test : Placed → Bool) (f other rest : List Placed) → next other ≡ next rest → begins test (f ++ other) ≡ begins test (f ++ rest)
begins_same test (p ∷ f) other rest h = refl
begins_same test [] [] [] h = refl
begins_same test [] [] (q ∷ rest) h = absurd cc
begins_same test [] (p ∷ other) [] h = absurd cc
begins_same test [] (p ∷ other) (q ∷ rest) h =
    let same : p ≡ q = cc in
    ap test same

begins_or : (f g : Placed → Bool) (rest : List Placed) → begins (λ p. f p || g p) rest ≡ false → (begins f rest ≡ false) × (begins g rest ≡ false)
begins_or f g [] e = (refl, refl)
begins_or f g (p ∷ ps) e = or_false (f p) (g p) e

begun_starts : {A : Type 0} (a : Part A) → IsFull a → (front rest : List Placed) → Begun a front → begins a.starts (front ++ rest) ≡ true
begun_starts a full [] rest begun = absurd (false≢true (sym full.full ∙ begun))
begun_starts a full (p ∷ ps) rest begun = begun

begun_long : {A : Type 0} (a : Part A) → IsFull a → (front : List Placed) → Begun a front → 1 ≤ length front
begun_long a full [] begun = absurd (false≢true (sym full.full ∙ begun))
begun_long a full (p ∷ ps) begun = omega arith

option_found : {A : Type 0} (a : Part A) → IsExact a → (ts : List Placed) (x : Option A) (rest : List Placed) (b : Bool) → begins a.starts ts ≡ b
    → cond b (a.read ts >>= λ x. Ok (Some x.0, x.1)) (Ok (None, ts)) ≡ Ok (x, rest) → Found (option a) ts x rest
option_found a ea ts x rest true h e =
    let s = bind_ok (a.read ts) (λ x. Ok (Some x.0, x.1)) (x, rest) e in
    let f = ea.found ts s.0.0 s.0.1 s.1 in
    let made : Found (option a) ts (Some s.0.0) s.0.1 = record {
      front = f.front;
      parts = f.parts;
      says = f.says;
      same = λ other k. rw (begins_same a.starts f.front other s.0.1 k ∙ ap (begins a.starts) (sym f.parts) ∙ h, f.same other k) refl;
    } in
    subst (λ (y : Option _ × List Placed). Found (option a) ts y.0 y.1) (ok_is (Some s.0.0, s.0.1) (x, rest) s.2) made
option_found a ea ts x rest false h e =
    let made : Found (option a) ts None ts = record {
      front = [];
      parts = refl;
      says = refl;
      same = λ other k. rw (begins_same a.starts [] other ts k ∙ h) refl;
    } in
    subst (λ (y : Option _ × List Placed). Found (option a) ts y.0 y.1) (ok_is (None, ts) (x, rest) e) made

option_stuck : {A : Type 0} (a : Part A) → IsExact a → (ts rest : List Placed) (b : Bool) → begins a.starts ts ≡ b
    → cond b (a.read ts >>= λ x. Ok (Some x.0, x.1)) (Ok (None, ts)) ≡ Err rest → Stuck (option a) ts rest
option_stuck a ea ts rest true h e =
    let s = ea.stuck ts rest (bind_err_made (a.read ts) (λ x. (Some x.0, x.1)) rest e) in
    let g = s.goes_on in
    record {
      front = s.front;
      parts = s.parts;
      goes_on = (Some g.0, g.1, g.2);
      same = λ other k. rw (begins_same a.starts s.front other rest k ∙ ap (begins a.starts) (sym s.parts) ∙ h, s.same other k) refl;
    }
option_stuck a ea ts rest false h e = absurd cc

option_only : {A : Type 0} (a : Part A) → IsExact a → IsFull a → (x : Option A) (front rest : List Placed) → says_option a x front → begins (option a).goes_on rest ≡ false → (option a).read (front ++ rest) ≡ Ok (x, rest)
option_only a ea full None front rest says e = rw (says, (begins_or a.starts a.goes_on rest e).0) refl
option_only a ea full (Some x) front rest says e = rw (begun_starts a full front rest (ea.begun x front says), ea.only x front rest says (begins_or a.starts a.goes_on rest e).1) refl

option_begun : {A : Type 0} (a : Part A) → IsExact a → IsFull a → (x : Option A) (front : List Placed) → says_option a x front → Begun (option a) front
option_begun a ea full x [] says = refl
option_begun a ea full None (p ∷ ps) says = absurd cc
option_begun a ea full (Some x) (p ∷ ps) says = ea.begun x (p ∷ ps) says

pub option_exact : {A : Type 0} (a : Part A) → IsExact a → IsFull a → IsExact (option a)
option_exact a ea full = record {
  found = λ ts x rest e. option_found a ea ts x rest (begins a.starts ts) refl e;
  only = option_only a ea full;
  stuck = λ ts rest e. option_stuck a ea ts rest (begins a.starts ts) refl e;
  begun = option_begun a ea full;
  some = (None, [], refl);
}

-- ---- either

-- no token begins both
pub record Differ {A : Type 0} (a b : Part A) : Type 0 where
  pub at : (p : Placed) → b.starts p ≡ true → a.starts p ≡ false

either_found : {A : Type 0} (a b : Part A) → IsExact a → IsExact b → (ts : List Placed) (x : A) (rest : List Placed) (c : Bool) → begins a.starts ts ≡ c → cond c (a.read ts) (b.read ts) ≡ Ok (x, rest) → Found (either a b) ts x rest
either_found a b ea eb ts x rest true h e =
    let f = ea.found ts x rest e in
    record { front = f.front; parts = f.parts; says = inl f.says; same = λ other k. rw (begins_same a.starts f.front other rest k ∙ ap (begins a.starts) (sym f.parts) ∙ h) (f.same other k) }
either_found a b ea eb ts x rest false h e =
    let f = eb.found ts x rest e in
    record { front = f.front; parts = f.parts; says = inr f.says; same = λ other k. rw (begins_same a.starts f.front other rest k ∙ ap (begins a.starts) (sym f.parts) ∙ h) (f.same other k) }

either_stuck : {A : Type 0} (a b : Part A) → IsExact a → IsExact b → (ts rest : List Placed) (c : Bool) → begins a.starts ts ≡ c → cond c (a.read ts) (b.read ts) ≡ Err rest → Stuck (either a b) ts rest
either_stuck a b ea eb ts rest true h e =
    let s = ea.stuck ts rest e in
    let g = s.goes_on in
    record { front = s.front; parts = s.parts; goes_on = (g.0, g.1, inl g.2); same = λ other k. rw (begins_same a.starts s.front other rest k ∙ ap (begins a.starts) (sym s.parts) ∙ h) (s.same other k) }
either_stuck a b ea eb ts rest false h e =
    let s = eb.stuck ts rest e in
    let g = s.goes_on in
    record { front = s.front; parts = s.parts; goes_on = (g.0, g.1, inr g.2); same = λ other k. rw (begins_same a.starts s.front other rest k ∙ ap (begins a.starts) (sym s.parts) ∙ h) (s.same other k) }

other_begins : {A : Type 0} (a b : Part A) → Differ a b → IsFull b → (front rest : List Placed) → Begun b front → begins a.starts (front ++ rest) ≡ false
other_begins a b differ full [] rest begun = absurd (false≢true (sym full.full ∙ begun))
other_begins a b differ full (p ∷ ps) rest begun = differ.at p begun

either_only : {A : Type 0} (a b : Part A) → IsExact a → IsExact b → IsFull a → IsFull b → Differ a b → (x : A) (front rest : List Placed) → a.says x front ⊎ b.says x front → begins (either a b).goes_on rest ≡ false → (either a b).read (front ++ rest) ≡ Ok (x, rest)
either_only a b ea eb fa fb differ x front rest (inl says) e = rw (begun_starts a fa front rest (ea.begun x front says)) (ea.only x front rest says (begins_or a.goes_on b.goes_on rest e).0)
either_only a b ea eb fa fb differ x front rest (inr says) e = rw (other_begins a b differ fb front rest (eb.begun x front says)) (eb.only x front rest says (begins_or a.goes_on b.goes_on rest e).1)

either_begun : {A : Type 0} (a b : Part A) → IsExact a → IsExact b → (x : A) (front : List Placed) → a.says x front ⊎ b.says x front → Begun (either a b) front
either_begun a b ea eb x [] (inl says) = rw (ea.begun x [] says) refl
either_begun a b ea eb x [] (inr says) = rw (eb.begun x [] says) (or_true a.empty)
either_begun a b ea eb x (p ∷ ps) (inl says) = rw (ea.begun x (p ∷ ps) says) refl
either_begun a b ea eb x (p ∷ ps) (inr says) = rw (eb.begun x (p ∷ ps) says) (or_true (a.starts p))

pub either_exact : {A : Type 0} (a b : Part A) → IsExact a → IsExact b → IsFull a → IsFull b → Differ a b → IsExact (either a b)
either_exact a b ea eb fa fb differ = record {
  found = λ ts x rest e. either_found a b ea eb ts x rest (begins a.starts ts) refl e;
  only = either_only a b ea eb fa fb differ;
  stuck = λ ts rest e. either_stuck a b ea eb ts rest (begins a.starts ts) refl e;
  begun = either_begun a b ea eb;
  some = (ea.some.0, ea.some.1, inl ea.some.2);
}

-- ---- many

-- a part that is read leaves fewer tokens
pub shorter : {A : Type 0} (a : Part A) → IsExact a → IsFull a → (ts : List Placed) (x : A × List Placed) → a.read ts ≡ Ok x → suc (length x.1) ≤ length ts
shorter a ea full ts x e =
    let f = ea.found ts x.0 x.1 e in
    let long = begun_long a full f.front (ea.begun x.0 f.front f.says) in
    omega (arith, ap length f.parts, length-append f.front x.1)

-- as Found and Stuck of many, for each number of steps that is enough
pub record FoundAll {A : Type 0} (a : Part A) (ts : List Placed) (xs : List A) (rest : List Placed) : Type 0 where
  pub front : List Placed
  pub parts : ts ≡ front ++ rest
  pub says : says_all a xs front
  pub same : (n : ℕ) (other : List Placed) → length (front ++ other) ≤ n → next other ≡ next rest → many_read a n (front ++ other) ≡ Ok (xs, other)

pub record StuckAll {A : Type 0} (a : Part A) (ts rest : List Placed) : Type 0 where
  pub front : List Placed
  pub parts : ts ≡ front ++ rest
  pub goes_on : (x : List A) × (more : List Placed) × says_all a x (front ++ more)
  pub same : (n : ℕ) (other : List Placed) → length (front ++ other) ≤ n → next other ≡ next rest → many_read a n (front ++ other) ≡ Err other

-- one step of many
abbrev many_step : {A : Type 0} → Part A → Bool → ℕ → List Placed → Read (List A)
many_step a b n ts = cond b (a.read ts >>= λ x. many_read a n x.1 >>= λ y. Ok (x.0 ∷ y.0, y.1)) (Ok ([], ts))

pub many_is : {A : Type 0} (a : Part A) (n : ℕ) (ts : List Placed) (b : Bool) → length ts ≤ n → begins a.starts ts ≡ b → many_read a n ts ≡ many_step a b (n - 1) ts
unfolding many_read
many_is a zero [] b le h = subst (λ (c : Bool). Ok ([], []) ≡ many_step a c (0 - 1) []) h refl
many_is a zero (p ∷ ts) b le h = absurd (omega arith)
many_is a (suc n) ts b le h =
    let k : suc n - 1 ≡ n = omega arith in
    rw (h, k) refl

-- more steps than there are tokens change nothing
steps_same : {A : Type 0} (a : Part A) (m n : ℕ) (ts : List Placed) (r : Read A) (b : Bool) → a.read ts ≡ r → ((x : A × List Placed) → r ≡ Ok x → many_read a m x.1 ≡ many_read a n x.1) → many_step a b m ts ≡ many_step a b n ts
steps_same a m n ts r false e h = refl
steps_same a m n ts (Ok x) true e h = rw (e, h x refl) refl
steps_same a m n ts (Err d) true e h = rw e refl

many_enough_below : {A : Type 0} (a : Part A) → IsExact a → IsFull a → (bound n : ℕ) (ts : List Placed) → n ≤ bound → length ts ≤ n → many_read a n ts ≡ many_read a (length ts) ts
many_enough_below a ea full zero n ts small le =
    let same : n ≡ length ts = omega arith in
    rw same refl
many_enough_below a ea full (suc bound) n ts small le =
    many_is a n ts (begins a.starts ts) le refl
    ∙ steps_same a (n - 1) (length ts - 1) ts (a.read ts) (begins a.starts ts) refl (λ x e.
    let less = shorter a ea full ts x e in
    many_enough_below a ea full bound (n - 1) x.1 (omega arith) (omega arith) ∙ sym (many_enough_below a ea full bound (length ts - 1) x.1 (omega arith) (omega arith)))
    ∙ sym (many_is a (length ts) ts (begins a.starts ts) (omega arith) refl)

pub many_enough : {A : Type 0} (a : Part A) → IsExact a → IsFull a → (n : ℕ) (ts : List Placed) → length ts ≤ n → many_read a n ts ≡ many_read a (length ts) ts
many_enough a ea full n ts le = many_enough_below a ea full n n ts (omega arith) le

many_found_none : {A : Type 0} (a : Part A) (ts : List Placed) → begins a.starts ts ≡ false → FoundAll a ts [] ts
many_found_none a ts h = record {
  front = [];
  parts = refl;
  says = refl;
  same = λ n other le k. many_is a n other false le (begins_same a.starts [] other ts k ∙ h);
}

many_found_more : {A : Type 0} (a : Part A) → IsExact a → IsFull a → (ts : List Placed) (x : A × List Placed) (xs : List A) (rest : List Placed) → begins a.starts ts ≡ true → a.read ts ≡ Ok x → FoundAll a x.1 xs rest → FoundAll a ts (x.0 ∷ xs) rest
many_found_more a ea full ts x xs rest h e found =
    let f = ea.found ts x.0 x.1 e in
    let long = begun_long a full f.front (ea.begun x.0 f.front f.says) in
    record {
      front = f.front ++ found.front;
      parts = rw (append_assoc f.front found.front rest, ← found.parts) f.parts;
      says = (f.front, found.front, refl, f.says, found.says);
      same = λ n other le k.
          let whole : (f.front ++ found.front) ++ other ≡ f.front ++ (found.front ++ other) = append_assoc f.front found.front other in
          let follows : next (found.front ++ other) ≡ next x.1 = next_same found.front other rest k ∙ ap next (sym found.parts) in
          let begun : begins a.starts (f.front ++ (found.front ++ other)) ≡ true = begins_same a.starts f.front (found.front ++ other) x.1 follows ∙ ap (begins a.starts) (sym f.parts) ∙ h in
          let le2 : length (f.front ++ (found.front ++ other)) ≤ n = rw (← whole) le in
          rw (whole, many_is a n (f.front ++ (found.front ++ other)) true le2 begun, f.same (found.front ++ other) follows, found.same (n - 1) other (omega (arith, length-append f.front (found.front ++ other))) k) refl;
    }

many_found : {A : Type 0} (a : Part A) → IsExact a → IsFull a → (n : ℕ) (ts : List Placed) (y : List A × List Placed) (b : Bool) → begins a.starts ts ≡ b → length ts ≤ n → many_step a b (n - 1) ts ≡ Ok y → FoundAll a ts y.0 y.1
many_found a ea full n ts y false h le e = subst (λ (z : List _ × List Placed). FoundAll a ts z.0 z.1) (ok_is ([], ts) y e) (many_found_none a ts h)
many_found a ea full zero ts y true h le e = absurd (false≢true (ap (begins a.starts) (sym (nil_from_length ts (omega arith))) ∙ h))
many_found a ea full (suc n) ts y true h le e =
    let k : suc n - 1 ≡ n = omega arith in
    let e2 = rw k at e in
    let s = bind_ok (a.read ts) (λ x. many_read a n x.1 >>= λ y. Ok (x.0 ∷ y.0, y.1)) y e2 in
    let t = bind_ok (many_read a n s.0.1) (λ y. Ok (s.0.0 ∷ y.0, y.1)) y s.2 in
    let less = shorter a ea full ts s.0 s.1 in
    let le2 : length s.0.1 ≤ n = omega arith in
    let rest = many_found a ea full n s.0.1 t.0 (begins a.starts s.0.1) refl le2 (sym (many_is a n s.0.1 (begins a.starts s.0.1) le2 refl) ∙ t.1) in
    subst (λ (z : List _ × List Placed). FoundAll a ts z.0 z.1) (ok_is (s.0.0 ∷ t.0.0, t.0.1) y t.2) (many_found_more a ea full ts s.0 t.0.0 t.0.1 h s.1 rest)

many_stuck_first : {A : Type 0} (a : Part A) → IsExact a → (ts rest : List Placed) → begins a.starts ts ≡ true → a.read ts ≡ Err rest → StuckAll a ts rest
many_stuck_first a ea ts rest h e =
    let s = ea.stuck ts rest e in
    let g = s.goes_on in
    record {
      front = s.front;
      parts = s.parts;
      goes_on = (g.0 ∷ [], g.1, (s.front ++ g.1, [], sym (append-nil (s.front ++ g.1)), g.2, refl));
      same = λ n other le k.
          let begun : begins a.starts (s.front ++ other) ≡ true = begins_same a.starts s.front other rest k ∙ ap (begins a.starts) (sym s.parts) ∙ h in
          rw (many_is a n (s.front ++ other) true le begun, s.same other k) refl;
    }

many_stuck_more : {A : Type 0} (a : Part A) → IsExact a → IsFull a → (ts : List Placed) (x : A × List Placed) (rest : List Placed) → begins a.starts ts ≡ true → a.read ts ≡ Ok x → StuckAll a x.1 rest → StuckAll a ts rest
many_stuck_more a ea full ts x rest h e stuck =
    let f = ea.found ts x.0 x.1 e in
    let long = begun_long a full f.front (ea.begun x.0 f.front f.says) in
    let g = stuck.goes_on in
    record {
      front = f.front ++ stuck.front;
      parts = rw (append_assoc f.front stuck.front rest, ← stuck.parts) f.parts;
      goes_on = (x.0 ∷ g.0, g.1, (f.front, stuck.front ++ g.1, append_assoc f.front stuck.front g.1, f.says, g.2));
      same = λ n other le k.
          let whole : (f.front ++ stuck.front) ++ other ≡ f.front ++ (stuck.front ++ other) = append_assoc f.front stuck.front other in
          let follows : next (stuck.front ++ other) ≡ next x.1 = next_same stuck.front other rest k ∙ ap next (sym stuck.parts) in
          let begun : begins a.starts (f.front ++ (stuck.front ++ other)) ≡ true = begins_same a.starts f.front (stuck.front ++ other) x.1 follows ∙ ap (begins a.starts) (sym f.parts) ∙ h in
          let le2 : length (f.front ++ (stuck.front ++ other)) ≤ n = rw (← whole) le in
          rw (whole, many_is a n (f.front ++ (stuck.front ++ other)) true le2 begun, f.same (stuck.front ++ other) follows, stuck.same (n - 1) other (omega (arith, length-append f.front (stuck.front ++ other))) k) refl;
    }

many_stuck_cases : {A : Type 0} (a : Part A) → IsExact a → IsFull a → (n : ℕ) (ts rest : List Placed) → begins a.starts ts ≡ true → length ts ≤ suc n
    → (a.read ts ≡ Err rest) ⊎ ((x : A × List Placed) × (a.read ts ≡ Ok x) × ((many_read a n x.1 >>= λ y. Ok (x.0 ∷ y.0, y.1)) ≡ Err rest))
    → ((us : List Placed) → length us ≤ n → many_read a n us ≡ Err rest → StuckAll a us rest) → StuckAll a ts rest
many_stuck_cases a ea full n ts rest h le (inl e) below = many_stuck_first a ea ts rest h e
many_stuck_cases a ea full n ts rest h le (inr (x, e, f)) below =
    let less = shorter a ea full ts x e in
    many_stuck_more a ea full ts x rest h e (below x.1 (omega arith) (bind_err_made (many_read a n x.1) (λ y. (x.0 ∷ y.0, y.1)) rest f))

many_stuck : {A : Type 0} (a : Part A) → IsExact a → IsFull a → (n : ℕ) (ts rest : List Placed) (b : Bool) → begins a.starts ts ≡ b → length ts ≤ n → many_step a b (n - 1) ts ≡ Err rest → StuckAll a ts rest
many_stuck a ea full n ts rest false h le e = absurd cc
many_stuck a ea full zero ts rest true h le e = absurd (false≢true (ap (begins a.starts) (sym (nil_from_length ts (omega arith))) ∙ h))
many_stuck a ea full (suc n) ts rest true h le e =
    let k : suc n - 1 ≡ n = omega arith in
    let e2 = rw k at e in
    many_stuck_cases a ea full n ts rest h le (bind_err (a.read ts) (λ x. many_read a n x.1 >>= λ y. Ok (x.0 ∷ y.0, y.1)) rest e2)
    (λ us le2 f. many_stuck a ea full n us rest (begins a.starts us) refl le2 (sym (many_is a n us (begins a.starts us) le2 refl) ∙ f))

first_begun : {A : Type 0} (a : Part A) → IsFull a → (f k : List Placed) (p : Placed) (ps : List Placed) → p ∷ ps ≡ f ++ k → Begun a f → a.starts p ≡ true
first_begun a full [] k p ps is begun = absurd (false≢true (sym full.full ∙ begun))
first_begun a full (q ∷ f) k p ps is begun =
    let same : p ≡ q = cc in
    rw same begun

many_begun : {A : Type 0} (a : Part A) → IsExact a → IsFull a → (xs : List A) (front : List Placed) → says_all a xs front → Begun (many a) front
many_begun a ea full xs [] says = refl
many_begun a ea full [] (p ∷ ps) says = absurd cc
many_begun a ea full (x ∷ xs) (p ∷ ps) (f, k, is, says, more) = first_begun a full f k p ps is (ea.begun x f says)

many_ends : {A : Type 0} (a : Part A) → Apart a a → (k rest : List Placed) → Begun (many a) k → begins (many a).goes_on rest ≡ false → begins a.goes_on (k ++ rest) ≡ false
many_ends a apart [] rest begun e = (begins_or a.starts a.goes_on rest e).1
many_ends a apart (p ∷ ps) rest begun e = apart.at p begun

many_only : {A : Type 0} (a : Part A) → IsExact a → IsFull a → Apart a a → (xs : List A) (n : ℕ) (front rest : List Placed) → length (front ++ rest) ≤ n → says_all a xs front → begins (many a).goes_on rest ≡ false → many_read a n (front ++ rest) ≡ Ok (xs, rest)
many_only a ea full apart [] n front rest le says e =
    let no : begins a.starts (front ++ rest) ≡ false = rw says ((begins_or a.starts a.goes_on rest e).0) in
    many_is a n (front ++ rest) false le no ∙ rw says refl
many_only a ea full apart (x ∷ xs) n front rest le (f, k, is, says, more) e =
    let whole : front ++ rest ≡ f ++ (k ++ rest) = ap (λ (t : List Placed). t ++ rest) is ∙ append_assoc f k rest in
    let begun = ea.begun x f says in
    let long = begun_long a full f begun in
    let le2 : length (f ++ (k ++ rest)) ≤ n = rw (← whole) le in
    let yes : begins a.starts (f ++ (k ++ rest)) ≡ true = begun_starts a full f (k ++ rest) begun in
    let here : a.read (f ++ (k ++ rest)) ≡ Ok (x, k ++ rest) = ea.only x f (k ++ rest) says (many_ends a apart k rest (many_begun a ea full xs k more) e) in
    rw (whole, many_is a n (f ++ (k ++ rest)) true le2 yes, here, many_only a ea full apart xs (n - 1) k rest (omega (arith, length-append f (k ++ rest))) more e) refl

many_is_found : {A : Type 0} (a : Part A) (ts : List Placed) (xs : List A) (rest : List Placed) → FoundAll a ts xs rest → Found (many a) ts xs rest
many_is_found a ts xs rest f = record { front = f.front; parts = f.parts; says = f.says; same = λ other h. f.same (length (f.front ++ other)) other (omega arith) h }

many_is_stuck : {A : Type 0} (a : Part A) (ts rest : List Placed) → StuckAll a ts rest → Stuck (many a) ts rest
many_is_stuck a ts rest s = record { front = s.front; parts = s.parts; goes_on = s.goes_on; same = λ other h. s.same (length (s.front ++ other)) other (omega arith) h }

pub many_exact : {A : Type 0} (a : Part A) → IsExact a → IsFull a → Apart a a → IsExact (many a)
many_exact a ea full apart = record {
  found = λ ts xs rest e. many_is_found a ts xs rest (many_found a ea full (length ts) ts (xs, rest) (begins a.starts ts) refl (omega arith) (sym (many_is a (length ts) ts (begins a.starts ts) (omega arith) refl) ∙ e));
  only = λ xs front rest says e. many_only a ea full apart xs (length (front ++ rest)) front rest (omega arith) says e;
  stuck = λ ts rest e. many_is_stuck a ts rest (many_stuck a ea full (length ts) ts rest (begins a.starts ts) refl (omega arith) (sym (many_is a (length ts) ts (begins a.starts ts) (omega arith) refl) ∙ e));
  begun = λ xs front says. many_begun a ea full xs front says;
  some = ([], [], refl);
}

-- ---- all of the tokens

whole_ok : {A : Type 0} (g : Part A) (ts : List Placed) (y : A) (rest : List Placed) (x : A × List Placed) → g.read ts ≡ Ok x → none_left x ≡ Ok (y, rest) → (g.read ts ≡ Ok (y, [])) × (rest ≡ [])
whole_ok g ts y rest (x, []) h e =
    let same = ok_is (x, []) (y, rest) e in
    (h ∙ ap (λ (z : _ × List Placed). Ok (z.0, [])) same, sym (ap (λ (z : _ × List Placed). z.1) same))
whole_ok g ts y rest (x, p ∷ ps) h e = absurd cc

-- What is read says the tokens, all of them.
pub whole_found : {A : Type 0} (g : Part A) → IsExact g → (ts : List Placed) (x : A) (rest : List Placed) → whole g ts ≡ Ok (x, rest) → g.says x ts
whole_found g eg ts x rest e =
    let s = bind_ok (g.read ts) none_left (x, rest) e in
    let t = whole_ok g ts x rest s.0 s.1 s.2 in
    let f = eg.found ts x [] t.0 in
    subst (g.says x) (sym (f.parts ∙ append-nil f.front)) f.says

-- What is said by all of the tokens is read.
pub whole_only : {A : Type 0} (g : Part A) → IsExact g → (x : A) (ts : List Placed) → g.says x ts → whole g ts ≡ Ok (x, [])
whole_only g eg x ts says =
    let e : g.read ts ≡ Ok (x, []) = ap g.read (sym (append-nil ts)) ∙ eg.only x ts [] says refl in
    rw e refl

rest_is : {A : Type 0} (x : A × List Placed) (rest : List Placed) → none_left x ≡ Err rest → (x.1 ≡ rest) × (p : Placed) × (ps : List Placed) × (rest ≡ p ∷ ps)
rest_is (x, []) rest e = absurd cc
rest_is (x, p ∷ ps) rest e = (cc, p, ps, cc)

stuck_fault : {A : Type 0} (g : Part A) → IsExact g → (ts rest : List Placed) → Stuck g ts rest → IsFirstFault g ts rest
stuck_fault g eg ts rest s = record {
  front = s.front;
  parts = s.parts;
  goes_on = s.goes_on;
  ends = λ more h x says.
      let e : g.read (s.front ++ more) ≡ Ok (x, []) = ap g.read (sym (append-nil (s.front ++ more))) ∙ eg.only x (s.front ++ more) [] says refl in
      let f : g.read (s.front ++ more) ≡ Err more = s.same more h in
      absurd cc;
}

more_left : (p : Placed) (ps more : List Placed) → next more ≡ next (p ∷ ps) → more ≡ [] → ⊥
more_left p ps [] h e = absurd cc
more_left p ps (q ∷ more) h e = absurd cc

rest_fault : {A : Type 0} (g : Part A) → IsExact g → (ts rest : List Placed) (x : A × List Placed) → g.read ts ≡ Ok x → (x.1 ≡ rest) × (p : Placed) × (ps : List Placed) × (rest ≡ p ∷ ps) → IsFirstFault g ts rest
rest_fault g eg ts rest x h (is, p, ps, left) =
    let f = eg.found ts x.0 x.1 h in
    record {
      front = f.front;
      parts = f.parts ∙ ap (λ (t : List Placed). f.front ++ t) is;
      goes_on = (x.0, [], subst (g.says x.0) (sym (append-nil f.front)) f.says);
      ends = λ more k y says.
          let e : g.read (f.front ++ more) ≡ Ok (y, []) = ap g.read (sym (append-nil (f.front ++ more))) ∙ eg.only y (f.front ++ more) [] says refl in
          let here : g.read (f.front ++ more) ≡ Ok (x.0, more) = f.same more (k ∙ ap next (sym is)) in
          let same = ok_is (x.0, more) (y, []) (sym here ∙ e) in
          more_left p ps more (k ∙ ap next left) (ap (λ (z : _ × List Placed). z.1) same);
    }

-- Where reading stops is the first fault.
pub whole_stuck : {A : Type 0} (g : Part A) → IsExact g → (ts rest : List Placed) → whole g ts ≡ Err rest → IsFirstFault g ts rest
whole_stuck g eg ts rest e =
    elim (bind_err (g.read ts) none_left rest e) [
      | inl h ↦ stuck_fault g eg ts rest (eg.stuck ts rest h)
      | inr (x, h, k) ↦ rest_fault g eg ts rest x h (rest_is x rest k)
    ]
