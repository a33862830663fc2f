-- The kinds of columns that are cut, joined and renamed, and the conditions that fit them.
use Rattle.std.proofs.Common.{◌≡◌, ℕ, suc, ◌+◌, ◌<◌, ◌==◌, Bool, true, false, ◌&&◌, ◌||◌, nat_lt, cond, List, [], ◌∷◌, ◌++◌, map, filter, length, sym, refl, ap, ap₂, ◌∙◌, subst, is_none, arith, lt-ltb, eqb-true}
use Rattle.std.specs.List.{list_all, AllByRecursion, range_with_len}
use Rattle.std.proofs.lemmas.List.{get_or_append_left, get_or-append-add}
use Rattle.pdn_base.specs.declared.marks.Kind.{Kind}
use Rattle.pdn_base.specs.declared.marks.Kind.TheVariants as kind
use Rattle.pdn_base.specs.declared.cond.Term.{Term}
use Rattle.pdn_base.specs.declared.cond.Operand.{Operand}
use Rattle.pdn_base.specs.declared.cond.Operand.TheVariants as operand
use Rattle.pdn_base.specs.declared.cond.Cmp.{Cmp}
use Rattle.pdn_tree.specs.Columns.{Clauses, term_at, operand_at, cmp_at, clauses_at, OperandNames, CmpNames, Names, place_in, Has, shifted, Below}
use Rattle.pdn_tree.specs.Shapes.{kind_at, same_kind, all_within, term_fits, operand_fits, cmp_fits, cond_fits}
use Rattle.pdn_plan.proofs.Pushing.{map-map, map-agree}
use Rattle.pdn_plan.proofs.KeepLaws.{range-shift}
use Rattle.pdn_plan.proofs.SplitLaws.{both_true}

-- the kinds of columns that are cut from these
abbrev pub kinds_of : List Kind → List ℕ → List Kind
kinds_of ks columns = map (kind_at ks) columns

pub kind-left : (ks ms : List Kind) (c : ℕ) → c < length ks → kind_at (ks ++ ms) c ≡ kind_at ks c
kind-left ks ms c h = get_or_append_left ks ms kind.Int c h

pub kind-right : (ks ms : List Kind) (c : ℕ) → kind_at (ks ++ ms) (length ks + c) ≡ kind_at ms c
kind-right ks ms c = get_or-append-add ks ms c kind.Int

kinds-append : (ks : List Kind) (cs ds : List ℕ) → kinds_of ks (cs ++ ds) ≡ kinds_of ks cs ++ kinds_of ks ds
kinds-append ks [] ds = refl
kinds-append ks (c ∷ cs) ds = ap (λ ms. kind_at ks c ∷ ms) (kinds-append ks cs ds)

kinds-left : (ks ms : List Kind) (cs : List ℕ) → Below (length ks) cs → kinds_of (ks ++ ms) cs ≡ kinds_of ks cs
kinds-left ks ms [] h = refl
kinds-left ks ms (c ∷ cs) h = ap₂ (λ k more. k ∷ more) (kind-left ks ms c h.0) (kinds-left ks ms cs h.1)

kinds-right : (ks ms : List Kind) (cs : List ℕ) → kinds_of (ks ++ ms) (shifted (length ks) cs) ≡ kinds_of ms cs
kinds-right ks ms [] = refl
kinds-right ks ms (c ∷ cs) = ap₂ (λ k more. k ∷ more) (kind-right ks ms c) (kinds-right ks ms cs)

-- what is kept of two sides
pub kinds-joined : (ks ms : List Kind) (w : ℕ) (cs ds : List ℕ) → length ks ≡ w → Below w cs → kinds_of ks cs ++ kinds_of ms ds ≡ kinds_of (ks ++ ms) (cs ++ shifted w ds)
kinds-joined ks ms w cs ds e h = subst (λ (v : ℕ). Below v cs → kinds_of ks cs ++ kinds_of ms ds ≡ kinds_of (ks ++ ms) (cs ++ shifted v ds)) e
    (λ k. sym (kinds-append (ks ++ ms) cs (shifted (length ks) ds) ∙ ap₂ (λ xs ys. xs ++ ys) (kinds-left ks ms cs k) (kinds-right ks ms ds))) h

-- all columns, in their order
pub kinds-all : (ks : List Kind) → kinds_of ks (range_with_len 0 (length ks)) ≡ ks
kinds-all [] = refl
kinds-all (k ∷ ks) = ap (λ ms. k ∷ ms)
    (ap (kinds_of (k ∷ ks)) (sym (range-shift 1 0 (length ks)))
    ∙ map-map (kind_at (k ∷ ks)) (λ c. 1 + c) (range_with_len 0 (length ks))
    ∙ map-agree _ _ (λ c. kind-right (k ∷ []) ks c) (range_with_len 0 (length ks))
    ∙ kinds-all ks)

pub all-within : (ks : List Kind) (cs : List ℕ) → Below (length ks) cs → all_within ks cs ≡ true
all-within ks [] h = refl
all-within ks (c ∷ cs) h = ap₂ (λ a b. a && b) (lt-ltb c (length ks) h.0) (all-within ks cs h.1)

-- ---- a column that is kept

place_step : (k c : ℕ) (cs : List ℕ) → (Has cs c → place_in cs c < length cs) → Has (k ∷ cs) c → (b : Bool) → (k == c) ≡ b → cond b 0 (suc (place_in cs c)) < suc (length cs)
place_step k c cs next h true e = omega arith
place_step k c cs next h false e = let lt : place_in cs c < length cs = next (rw e at h) in omega (arith, lt)

pub kept-below : (cs : List ℕ) (c : ℕ) → Has cs c → place_in cs c < length cs
kept-below [] c h = absurd cc
kept-below (k ∷ cs) c h = place_step k c cs (kept-below cs c) h (k == c) refl

kind_step : (ks : List Kind) (k c : ℕ) (cs : List ℕ) → (Has cs c → kind_at (kinds_of ks cs) (place_in cs c) ≡ kind_at ks c) → Has (k ∷ cs) c → (b : Bool) → (k == c) ≡ b → kind_at (kinds_of ks (k ∷ cs)) (place_in (k ∷ cs) c) ≡ kind_at ks c
kind_step ks k c cs next h true e = rw e (ap (kind_at ks) (omega (arith, eqb-true k c e)))
kind_step ks k c cs next h false e = rw e (next (rw e at h))

pub kept-kind : (ks : List Kind) (cs : List ℕ) (c : ℕ) → Has cs c → kind_at (kinds_of ks cs) (place_in cs c) ≡ kind_at ks c
kept-kind ks [] c h = absurd cc
kept-kind ks (k ∷ cs) c h = kind_step ks k c cs (kept-kind ks cs c) h (k == c) refl

pub kept-kinds : (ks : List Kind) (kept cs : List ℕ) → AllByRecursion (Has kept) cs → kinds_of (kinds_of ks kept) (map (place_in kept) cs) ≡ kinds_of ks cs
kept-kinds ks kept [] h = refl
kept-kinds ks kept (c ∷ cs) h = ap₂ (λ k more. k ∷ more) (kept-kind ks kept c h.0) (kept-kinds ks kept cs h.1)

pub kept-within : (kept cs : List ℕ) → AllByRecursion (Has kept) cs → Below (length kept) (map (place_in kept) cs)
kept-within kept [] h = tt
kept-within kept (c ∷ cs) h = (kept-below kept c h.0, kept-within kept cs h.1)

-- ---- conditions whose columns are renamed

-- a column is there and of the same kind at its new place
abbrev pub Carries : (ℕ → ℕ) → List Kind → List Kind → ℕ → Type 0
Carries f ks ms c = (nat_lt (f c) (length ms) ≡ nat_lt c (length ks)) × (kind_at ms (f c) ≡ kind_at ks c)

pub carries : (f : ℕ → ℕ) (ks ms : List Kind) (c : ℕ) → c < length ks → f c < length ms → kind_at ms (f c) ≡ kind_at ks c → Carries f ks ms c
carries f ks ms c h k e = (lt-ltb (f c) (length ms) k ∙ sym (lt-ltb c (length ks) h), e)

term-moved : (f : ℕ → ℕ) (ks ms : List Kind) (t : Term) → Carries f ks ms t.column → term_fits ms (term_at f t) ≡ term_fits ks t
term-moved f ks ms t h = ap₂ (λ a k. a && (is_none t.plus || same_kind k kind.Int)) h.0 h.1

operand-moved : (f : ℕ → ℕ) (ks ms : List Kind) (j k : Kind) (o : Operand) → j ≡ k → OperandNames (Carries f ks ms) o → operand_fits ms j (operand_at f o) ≡ operand_fits ks k o
operand-moved f ks ms j k (operand.Term t) e h = ap₂ (λ a b. a && b) (term-moved f ks ms t h) (ap₂ same_kind e h.1)
operand-moved f ks ms j k (operand.Int n) e h = ap (λ x. same_kind x kind.Int) e
operand-moved f ks ms j k (operand.Code c) e h = ap (λ x. same_kind x kind.Code) e

cmps-moved : (f : ℕ → ℕ) (ks ms : List Kind) (cs : List Cmp) → AllByRecursion (CmpNames (Carries f ks ms)) cs → list_all (cmp_fits ms) (map (cmp_at f) cs) ≡ list_all (cmp_fits ks) cs
cmps-moved f ks ms [] h = refl
cmps-moved f ks ms (c ∷ cs) h = ap₂ (λ a b. a && b)
    (ap₂ (λ a b. a && b) (term-moved f ks ms c.left h.0.0) (operand-moved f ks ms _ _ c.right h.0.0.1 h.0.1))
    (cmps-moved f ks ms cs h.1)

pub cond-moved : (f : ℕ → ℕ) (ks ms : List Kind) (cs : Clauses) → Names (Carries f ks ms) cs → cond_fits ms (clauses_at f cs) ≡ cond_fits ks cs
cond-moved f ks ms [] h = refl
cond-moved f ks ms (c ∷ cs) h = ap₂ (λ a b. a && b) (cmps-moved f ks ms c h.0) (cond-moved f ks ms cs h.1)

-- some of the clauses
pub cond-some : (ks : List Kind) (p : List Cmp → Bool) (cs : Clauses) → cond_fits ks cs ≡ true → cond_fits ks (filter p cs) ≡ true
cond-some ks p [] h = refl
cond-some ks p (c ∷ cs) h = let two = both_true (list_all (cmp_fits ks) c) (cond_fits ks cs) h in one (p c) two.0 (cond-some ks p cs two.1)
  where
    one : (b : Bool) → list_all (cmp_fits ks) c ≡ true → cond_fits ks (filter p cs) ≡ true → cond_fits ks (cond b (c ∷ filter p cs) (filter p cs)) ≡ true
    one true e f = ap₂ (λ a b. a && b) e f
    one false e f = f
