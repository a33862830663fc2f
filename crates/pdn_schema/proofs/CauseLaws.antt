-- What it means that a line has no cause, and that it has a least one.
use Rattle.std.proofs.Common.{◌≡◌, ℕ, ◌<◌, ◌≤◌, ◌^◌, Bool, true, false, cond, eqb, List, [], ◌∷◌, ◌++◌, Option, Some, None, refl, sym, ap, ◌∙◌, arith}
use Rattle.std.specs.Prelude.{not, ◌||◌, nat_le}
use Rattle.std.specs.List.{AllByRecursion}
use Rattle.std.proofs.lemmas.Bool.{false≢true, leb-true, eqb-true}
use Rattle.pdn_base.specs.declared.marks.Label.{Label}
use Rattle.pdn_base.specs.declared.marks.Label.TheVariants as labels
use Rattle.pdn_schema.specs.declared.cause.Cause.{Cause}
use Rattle.pdn_schema.specs.declared.cause.Cause.TheVariants as causes
use Rattle.pdn_schema.specs.declared.form.Form.{Form}
use Rattle.pdn_schema.specs.declared.form.Form.TheVariants as forms
use Rattle.pdn_schema.specs.Models.{TableModel, Part}
use Rattle.pdn_schema.specs.Causes.{is_within, per_wrong, holds, all_causes, first_of, cause_of}
use Rattle.pdn_schema.specs.Reading.{NoCause, IsLeast}
use Rattle.pdn_schema.proofs.NameLaws.{and_true}

-- ---- tests

pub not_false : (b : Bool) → not b ≡ false → b ≡ true
not_false true e = refl
not_false false e = absurd (false≢true (sym e))

pub or_false : (x y : Bool) → x || y ≡ false → (x ≡ false) × (y ≡ false)
or_false true y e = absurd (false≢true (sym e))
or_false false y e = (refl, e)

pub within_bounds : (most n : ℕ) → not (is_within most n) ≡ false → (1 ≤ n) × (n ≤ most)
within_bounds most n e =
    let h = and_true (nat_le 1 n) (nat_le n most) (not_false (is_within most n) e) in
    (leb-true 1 n h.0, leb-true n most h.1)

-- ---- the list of causes

none_holds : (test : Cause → Bool) (cs : List Cause) → first_of test cs ≡ None → AllByRecursion (λ c. test c ≡ false) cs
none_holds test [] e = tt
none_holds test (c ∷ cs) e = none_at test c cs (test c) refl e (none_holds test cs) where
  none_at : (test : Cause → Bool) (c : Cause) (cs : List Cause) (b : Bool) → test c ≡ b → cond b (Some c) (first_of test cs) ≡ None → (first_of test cs ≡ None → AllByRecursion (λ d. test d ≡ false) cs) → AllByRecursion (λ d. test d ≡ false) (c ∷ cs)
  none_at test c cs true h e rest = absurd cc
  none_at test c cs false h e rest = (h, rest e)

pub no_cause : (p : Part) (f : Form) → cause_of p f ≡ None → NoCause p f
unfolding cause_of
no_cause p f e = none_holds (holds p f) all_causes e

record First (test : Cause → Bool) (cs : List Cause) (cause : Cause) : Type 0 where
  less : List Cause
  greater : List Cause
  all : cs ≡ less ++ cause ∷ greater
  none : AllByRecursion (λ c. test c ≡ false) less
  here : test cause ≡ true

first_at : (test : Cause → Bool) (c : Cause) (cs : List Cause) (cause : Cause) (b : Bool) → test c ≡ b → cond b (Some c) (first_of test cs) ≡ Some cause → (first_of test cs ≡ Some cause → First test cs cause) → First test (c ∷ cs) cause
first_at test c cs cause true h e rest =
    let is : c ≡ cause = cc in
    rw (← is) (record { less = []; greater = cs; all = refl; none = tt; here = h })
first_at test c cs cause false h e rest =
    let f = rest e in
    record { less = c ∷ f.less; greater = f.greater; all = ap (λ (ds : List Cause). c ∷ ds) f.all; none = (h, f.none); here = f.here }

first_is : (test : Cause → Bool) (cs : List Cause) (cause : Cause) → first_of test cs ≡ Some cause → First test cs cause
first_is test [] cause e = absurd cc
first_is test (c ∷ cs) cause e = first_at test c cs cause (test c) refl e (first_is test cs cause)

pub least_cause : (p : Part) (f : Form) (cause : Cause) → cause_of p f ≡ Some cause → IsLeast p f cause
unfolding cause_of
least_cause p f cause e =
    let h = first_is (holds p f) all_causes cause e in
    record { less = h.less; greater = h.greater; all = h.all; none = h.none; here = h.here }

-- ---- numbers of lines without a cause are small

pub floor_small : (p : Part) (n : ℕ) → cause_of p (forms.Floor n) ≡ None → n < 2 ^ 32
floor_small p n e =
    let h = no_cause p (forms.Floor n) e in
    let k = within_bounds 64 n h.1.1.1.0 in
    omega (arith, k.1)

pub calls_small : (p : Part) (name : List ℕ) (n : ℕ) → cause_of p (forms.Caller name n) ≡ None → n < 2 ^ 32
calls_small p name n e =
    let h = no_cause p (forms.Caller name n) e in
    let k = within_bounds 65536 n h.1.1.1.0 in
    omega (arith, k.1)

pub rows_small : (p : Part) (name : List ℕ) (n : ℕ) → cause_of p (forms.Table name n) ≡ None → n < 2 ^ 32
rows_small p name n e =
    let h = no_cause p (forms.Table name n) e in
    let k = within_bounds 256 n h.1.1.1.1.0 in
    omega (arith, k.1)

per_bound : (mark : Label) (per : ℕ) (current : Option TableModel) → per_wrong mark per current ≡ false → per ≤ 64
per_bound labels.Public per current e = (within_bounds 64 per (or_false _ _ e).0).1
per_bound labels.Protected per current e =
    let is : per ≡ 0 = eqb-true per 0 (not_false (eqb per 0) e) in
    omega (arith, is)
per_bound labels.Private per current e =
    let is : per ≡ 0 = eqb-true per 0 (not_false (eqb per 0) e) in
    omega (arith, is)

pub per_small : (p : Part) (f : Form) (per : ℕ) (mark : Label) → cause_of p f ≡ None → holds p f causes.Per ≡ per_wrong mark per p.current → per < 2 ^ 32
per_small p f per mark e is =
    let h = no_cause p f e in
    omega (arith, per_bound mark per p.current (sym is ∙ h.1.1.1.1.1.0))
