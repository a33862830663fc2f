-- Parts of a grammar: which tokens say which value, and how the value is read from the left.
use Rattle.std.specs.Prelude.{◌⊎◌, ◌≡◌, ℕ, zero, suc, List, [], ◌∷◌, ◌++◌, length, Bool, true, false, ◌||◌, ◌&&◌, if◌then◌else◌, Option, Some, None, Result, Ok, Err}
use Rattle.pdn_sql.specs.declared.token.Placed.{Placed}
use Rattle.pdn_sql.specs.declared.stop.Stop.{Stop}
use Rattle.pdn_sql.specs.declared.stop.Stop.TheVariants.{Memory, Here}

-- A value and the tokens after it, or the tokens from the first one that can't stand.
abbrev pub Read : Type 0 → Type 0
Read A = Result (A × List Placed) (List Placed)

infixl 10 ◌>>=◌
abbrev pub ◌>>=◌ : {A B : Type 0} → Read A → (A × List Placed → Read B) → Read B
(Ok x) >>= f = f x
(Err e) >>= f = Err e

-- What a method returned and what it left is what reading gives, unless memory ran out.
abbrev pub Fails : {A : Type 0} → Stop → List Placed → Read A → Type 0
Fails Memory left read = Unit {0}
Fails Here left read = read ≡ Err left

abbrev pub Gives : {X A : Type 0} → (X → A) → Result X Stop → List Placed → Read A → Type 0
Gives view (Ok x) left read = read ≡ Ok (view x, left)
Gives view (Err e) left read = Fails e left read

pub record Part (A : Type 0) : Type 1 where
  -- these tokens say this value
  pub says : A → List Placed → Type 0
  -- read from the front
  pub read : List Placed → Read A
  -- a token with which it can begin
  pub starts : Placed → Bool
  -- no tokens can say a value
  pub empty : Bool
  -- a token that may go on with it, after tokens that already say a value
  pub goes_on : Placed → Bool

abbrev pub begins : (Placed → Bool) → List Placed → Bool
begins test [] = false
begins test (p ∷ ps) = test p

-- ---- one token, and the value that it stands for

abbrev pub is_some : {A : Type 0} → Option A → Bool
is_some None = false
is_some (Some x) = true

abbrev pub taken : {A : Type 0} → Option A → Placed → List Placed → Read A
taken None p ps = Err (p ∷ ps)
taken (Some x) p ps = Ok (x, ps)

abbrev pub one_read : {A : Type 0} → (Placed → Option A) → List Placed → Read A
one_read pick [] = Err []
one_read pick (p ∷ ps) = taken (pick p) p ps

abbrev pub one : {A : Type 0} → (Placed → Option A) → Part A
one pick = record {
  says = λ x ts. (p : Placed) × (pick p ≡ Some x) × (ts ≡ p ∷ []);
  read = one_read pick;
  starts = λ p. is_some (pick p);
  empty = false;
  goes_on = λ p. false;
}

-- ---- one part and then another

abbrev pub both : {A B : Type 0} → Part A → Part B → Part (A × B)
both a b = record {
  says = λ x ts. (front : List Placed) × (back : List Placed) × (ts ≡ front ++ back) × a.says x.0 front × b.says x.1 back;
  read = λ ts. a.read ts >>= λ x. b.read x.1 >>= λ y. Ok ((x.0, y.0), y.1);
  starts = λ p. a.starts p || (a.empty && b.starts p);
  empty = a.empty && b.empty;
  goes_on = λ p. b.goes_on p || (b.empty && a.goes_on p);
}

-- ---- a part that may be left out

abbrev pub says_option : {A : Type 0} → Part A → Option A → List Placed → Type 0
says_option a None ts = ts ≡ []
says_option a (Some x) ts = a.says x ts

abbrev pub option : {A : Type 0} → Part A → Part (Option A)
option a = record {
  says = says_option a;
  read = λ ts. if begins a.starts ts then (a.read ts >>= λ x. Ok (Some x.0, x.1)) else Ok (None, ts);
  starts = a.starts;
  empty = true;
  goes_on = λ p. a.starts p || a.goes_on p;
}

-- ---- one part or another, for the same kind of value: the first token decides

abbrev pub either : {A : Type 0} → Part A → Part A → Part A
either a b = record {
  says = λ x ts. a.says x ts ⊎ b.says x ts;
  read = λ ts. if begins a.starts ts then a.read ts else b.read ts;
  starts = λ p. a.starts p || b.starts p;
  empty = a.empty || b.empty;
  goes_on = λ p. a.goes_on p || b.goes_on p;
}

-- ---- any number of times

abbrev pub says_all : {A : Type 0} → Part A → List A → List Placed → Type 0
says_all a [] ts = ts ≡ []
says_all a (x ∷ xs) ts = (front : List Placed) × (back : List Placed) × (ts ≡ front ++ back) × a.says x front × says_all a xs back

unfoldable pub many_read : {A : Type 0} → Part A → ℕ → List Placed → Read (List A)
many_read a zero ts = Ok ([], ts)
many_read a (suc n) ts = if begins a.starts ts then (a.read ts >>= λ x. many_read a n x.1 >>= λ y. Ok (x.0 ∷ y.0, y.1)) else Ok ([], ts)

abbrev pub many : {A : Type 0} → Part A → Part (List A)
many a = record {
  says = says_all a;
  read = λ ts. many_read a (length ts) ts;
  starts = a.starts;
  empty = true;
  goes_on = λ p. a.starts p || a.goes_on p;
}

-- what was read before, and what is still read
abbrev pub with_front : {A : Type 0} → List A → Read (List A) → Read (List A)
with_front front read = read >>= λ x. Ok (front ++ x.0, x.1)

-- ---- the same tokens, for another value

abbrev pub made : {A B : Type 0} → (A → B) → Part A → Part B
made to a = record {
  says = λ y ts. (x : _) × (to x ≡ y) × a.says x ts;
  read = λ ts. a.read ts >>= λ x. Ok (to x.0, x.1);
  starts = a.starts;
  empty = a.empty;
  goes_on = a.goes_on;
}

-- a part behind tokens that have no value of their own, and before them
abbrev pub after : {A B : Type 0} → Part A → Part B → Part B
after a b = made (λ x. x.1) (both a b)

abbrev pub before : {A B : Type 0} → Part A → Part B → Part A
before a b = made (λ x. x.0) (both a b)

-- ---- all of the tokens

abbrev pub none_left : {A : Type 0} → A × List Placed → Read A
none_left (x, []) = Ok (x, [])
none_left (x, p ∷ ps) = Err (p ∷ ps)

abbrev pub whole : {A : Type 0} → Part A → List Placed → Read A
whole a ts = a.read ts >>= none_left

abbrev pub next : List Placed → Option Placed
next [] = None
next (p ∷ ps) = Some p

-- The first token that can't stand is that before rest, or the end where rest is empty: what stands before it goes
-- on to a value in some way, and with that token behind it in none.
pub record IsFirstFault {A : Type 0} (g : Part A) (ts rest : List Placed) : Type 0 where
  pub front : List Placed
  pub parts : ts ≡ front ++ rest
  pub goes_on : (x : A) × (more : List Placed) × g.says x (front ++ more)
  pub ends : (more : List Placed) → next more ≡ next rest → (x : A) → g.says x (front ++ more) → ⊥
