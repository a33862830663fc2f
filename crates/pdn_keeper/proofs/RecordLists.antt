-- The records of a text are the list that `records` computes.
use Rattle.std.proofs.Common.{◌≡◌, List, [], ◌∷◌, ◌++◌, ℕ, zero, suc, ◌+◌, ◌≤◌, Bool, true, false, length, Some, None, refl, sym, ap, ◌∙◌, subst, rules, arith, inl, inr, ⊎_elim, ◌⊎◌}
use Rattle.std.specs.Prelude.{if◌then◌else◌, Option}
use Rattle.csv.specs.Machine.{Read, next_record, step, is_end, ends_at_end, fields_after, field_after}
use Rattle.csv.specs.Reading.{Reached, AreRecords, records, records_from, records_next, strip_bom, is_bom}
use Rattle.csv.specs.declared.parser.Config.{Config}
use Rattle.csv.specs.declared.parser.State.{State}
use Rattle.csv.specs.declared.parser.State.TheVariants as st

Goes : List ℕ → Read → Type 0
Goes xs q = (length q.2 + 1 ≤ length xs) ⊎ ((q.1 ≡ st.StartRecord) × (q.2 ≡ []))

at_end : (b : Bool) (f : List (List ℕ)) (xs : List ℕ) (q : Read) → (if b then Some (f, st.StartRecord, []) else None) ≡ Some q → Goes xs q
unfolding Goes
at_end true f xs q e = inr (search rules)
at_end false f xs q e = search rules

none_left : (cfg : Config) (q : Read) → ¬ (next_record cfg st.StartRecord [] [] [] ≡ Some q)
unfolding next_record
none_left cfg q e = search rules

some_rest : (f : List (List ℕ)) (s : State) (rest : List ℕ) (q : Read) → ◌≡◌ {A = Option Read} (Some (f, s, rest)) (Some q) → rest ≡ q.2
some_rest f s rest q e = search rules

by_end : (cfg : Config) (s : State) (f : List (List ℕ)) (p : List ℕ) (c : ℕ) (rest : List ℕ) (q : Read) (more : Option Read) → (more ≡ Some q → Goes rest q)
    → (b : Bool) → (if b then Some (f, s, rest) else more) ≡ Some q → Goes (c ∷ rest) q
unfolding Goes
by_end cfg s f p c rest q more go true h = let e : ◌≡◌ {A = Option Read} (Some (f, s, rest)) (Some q) = h in let t : rest ≡ q.2 = some_rest f s rest q e in inl (let l = ap length t in omega arith)
by_end cfg s f p c rest q more go false h = ⊎_elim (λ l. inl (omega arith)) (λ r. inr r) (go h)

-- a record takes a byte, or the text ends with it
goes_on : (cfg : Config) (s : State) (f : List (List ℕ)) (p : List ℕ) (xs : List ℕ) (q : Read) → next_record cfg s f p xs ≡ Some q → Goes xs q
unfolding next_record
goes_on cfg s f p [] q e = at_end (ends_at_end s) (f ++ (p ∷ [])) [] q e
goes_on cfg s f p (c ∷ rest) q e =
    by_end cfg (step cfg s c).0 (fields_after (step cfg s c).1 f p) p c rest q (next_record cfg (step cfg s c).0 (fields_after (step cfg s c).1 f p) (field_after (step cfg s c).1 c p) rest)
    (goes_on cfg (step cfg s c).0 (fields_after (step cfg s c).1 f p) (field_after (step cfg s c).1 c p) rest q) (is_end (step cfg s c).1) e

few : (cfg : Config) (s : State) (xs : List ℕ) (rows : List (List (List ℕ))) (s2 : State) (ys : List ℕ) → Reached cfg s xs rows s2 ys → length rows ≤ length xs + 1
unfolding Reached Goes
few cfg s xs [] s2 ys h = omega arith
few cfg s xs (r ∷ rows) s2 ys h =
    ⊎_elim (λ l. let k = few cfg h.0.1 h.0.2 rows s2 ys h.3 in omega arith)
    (λ e. let k = last rows (subst (λ (z : State). Reached cfg z h.0.2 rows s2 ys) e.0 h.3) e.1 in omega arith)
    (goes_on cfg s [] [] xs h.0 h.1)
  where
    last : (rows : List (List (List ℕ))) → Reached cfg st.StartRecord h.0.2 rows s2 ys → h.0.2 ≡ [] → length rows + 1 ≤ length xs + 1
    last [] k e = omega arith
    last (a ∷ more) k e = absurd (none_left cfg k.0 (subst (λ (z : List ℕ). next_record cfg st.StartRecord [] [] z ≡ Some k.0) e k.1))

enough : (cfg : Config) (n : ℕ) (s : State) (xs : List ℕ) (rows : List (List (List ℕ))) → length rows ≤ n → AreRecords cfg s xs rows → records_from cfg n s xs ≡ rows
unfolding Reached records_from
enough cfg zero s xs [] h a = refl
enough cfg zero s xs (r ∷ rows) h a = absurd (omega arith)
enough cfg (suc n) s xs [] h a = let none : next_record cfg s [] [] xs ≡ None = rw (a.2.0, a.2.1) a.3 in ap (records_next (records_from cfg n)) none
enough cfg (suc n) s xs (r ∷ rows) h a =
    let tail = enough cfg n a.2.0.1 a.2.0.2 rows (omega arith) (a.0, a.1, a.2.3, a.3) in
    ap (records_next (records_from cfg n)) a.2.1 ∙ rw (tail, a.2.2) refl

pub are_records : (cfg : Config) (xs : List ℕ) (rows : List (List (List ℕ))) → AreRecords cfg st.StartRecord xs rows → rows ≡ records cfg xs
are_records cfg xs rows a = sym (enough cfg (length xs + 1) st.StartRecord xs rows (few cfg st.StartRecord xs rows a.0 a.1 a.2) a)

-- there are at most as many records as bytes, and one
pub few_records : (cfg : Config) (xs : List ℕ) (rows : List (List (List ℕ))) → AreRecords cfg st.StartRecord xs rows → length rows ≤ length xs + 1
few_records cfg xs rows a = few cfg st.StartRecord xs rows a.0 a.1 a.2

stripped : (b : Bool) (x y z : ℕ) (rest : List ℕ) → length (if b then rest else x ∷ y ∷ z ∷ rest) ≤ length (x ∷ y ∷ z ∷ rest)
stripped true x y z rest = omega arith
stripped false x y z rest = omega arith

pub no_longer : (xs : List ℕ) → length (strip_bom xs) ≤ length xs
unfolding strip_bom
no_longer [] = omega arith
no_longer (a ∷ []) = omega arith
no_longer (a ∷ b ∷ []) = omega arith
no_longer (a ∷ b ∷ c ∷ rest) = stripped (is_bom a b c) a b c rest
