-- What goes to the sources and what is left over are, together, what was asked.
use Rattle.std.proofs.Common.{◌≡◌, ℕ, ◌+◌, ◌-◌, Bool, true, false, not, ◌&&◌, nat_lt, nat_le, cond, List, [], ◌∷◌, ◌++◌, map, filter, sym, refl, ap, ap₂, ◌∙◌, arith, append_assoc, leb-true}
use Rattle.std.specs.List.{list_all, AllByRecursion}
use Rattle.pdn_base.specs.declared.cond.Operand.{Operand}
use Rattle.pdn_base.specs.declared.cond.Operand.TheVariants as operand
use Rattle.pdn_base.specs.declared.cond.Cmp.{Cmp}
use Rattle.pdn_base.proofs.Perms.{Perm, Perm-refl, Perm-same, Perm-append_left, Perm-append_right, Perm-comm, Perm-middle}
use Rattle.pdn_base.proofs.Perms.Perm.{none, more, then}
use Rattle.pdn_tree.specs.Columns.{Clauses, operand_at, cmp_at, clauses_at, OperandNames, CmpNames, Names}
use Rattle.pdn_tree.proofs.ColumnLaws.{names-weaker}
use Rattle.pdn_plan.proofs.Blocks.{clauses_so_far}
use Rattle.pdn_plan.specs.Splitting.{operand_passes, cmp_passes, clause_passes, is_of, local_to, left_by, split, left_over, ons}
use Rattle.pdn_plan.specs.declared.scope.Bound.{Bound}

pub both_true : (a b : Bool) → (a && b) ≡ true → (a ≡ true) × (b ≡ true)
both_true true b e = (refl, e)
both_true false b e = absurd cc

-- from a test to what is known of each column
operand_known : (p : ℕ → Bool) (o : Operand) → operand_passes p o ≡ true → OperandNames (λ c. p c ≡ true) o
operand_known p (operand.Term t) h = h
operand_known p (operand.Int n) h = tt
operand_known p (operand.Code c) h = tt

cmps_known : (p : ℕ → Bool) (cs : List Cmp) → list_all (cmp_passes p) cs ≡ true → AllByRecursion (CmpNames (λ c. p c ≡ true)) cs
cmps_known p [] h = tt
cmps_known p (c ∷ cs) h =
    let parts = both_true (cmp_passes p c) (list_all (cmp_passes p) cs) h in
    let sides = both_true (p c.left.column) (operand_passes p c.right) parts.0 in
    ((sides.0, operand_known p c.right sides.1), cmps_known p cs parts.1)

pub passing_known : (p : ℕ → Bool) (cs : Clauses) → Names (λ c. p c ≡ true) (filter (clause_passes p) cs)
passing_known p [] = tt
passing_known p (c ∷ cs) = one (clause_passes p c) refl (passing_known p cs)
  where
    one : (b : Bool) → clause_passes p c ≡ b → Names (λ c. p c ≡ true) (filter (clause_passes p) cs) → Names (λ c. p c ≡ true) (cond b (c ∷ filter (clause_passes p) cs) (filter (clause_passes p) cs))
    one true e k = (cmps_known p c e, k)
    one false e k = k

-- renamed there and back
operand_back : (f g : ℕ → ℕ) (o : Operand) → OperandNames (λ c. g (f c) ≡ c) o → operand_at g (operand_at f o) ≡ o
operand_back f g (operand.Term t) h = ap (λ n. operand.Term (record t { column = n })) h
operand_back f g (operand.Int n) h = refl
operand_back f g (operand.Code c) h = refl

cmps_back : (f g : ℕ → ℕ) (cs : List Cmp) → AllByRecursion (CmpNames (λ c. g (f c) ≡ c)) cs → map (cmp_at g) (map (cmp_at f) cs) ≡ cs
cmps_back f g [] h = refl
cmps_back f g (c ∷ cs) h = ap₂ (λ d ds. d ∷ ds) (ap₂ (λ n o. record { left = record { column = n; plus = c.left.plus }; op = c.op; right = o }) h.0.0 (operand_back f g c.right h.0.1)) (cmps_back f g cs h.1)

clauses_back : (f g : ℕ → ℕ) (cs : Clauses) → Names (λ c. g (f c) ≡ c) cs → clauses_at g (clauses_at f cs) ≡ cs
clauses_back f g [] h = refl
clauses_back f g (c ∷ cs) h = ap₂ (λ d ds. d ∷ ds) (cmps_back f g c h.0) (clauses_back f g cs h.1)

-- a list in two parts, by a test
parts : {X : Type 0} (p : X → Bool) (xs : List X) → Perm X (filter p xs ++ filter (λ x. not (p x)) xs) xs
parts p [] = none
parts {X} p (x ∷ xs) = one (p x) (parts p xs)
  where
    one : (b : Bool) → Perm X (filter p xs ++ filter (λ x. not (p x)) xs) xs → Perm X (cond b (x ∷ filter p xs) (filter p xs) ++ cond (not b) (x ∷ filter (λ x. not (p x)) xs) (filter (λ x. not (p x)) xs)) (x ∷ xs)
    one true h = more x h
    one false h = then (Perm-middle (filter p xs) x (filter (λ x. not (p x)) xs)) (more x h)

local_back : (from width : ℕ) (asked : Clauses) → clauses_at (λ c. from + c) (local_to from width asked) ≡ filter (clause_passes (is_of from width)) asked
local_back from width asked = clauses_back (λ c. c - from) (λ c. from + c) (filter (clause_passes (is_of from width)) asked)
    (names-weaker _ _ (λ c h. omega (arith, leb-true from c (both_true (nat_le from c) (nat_lt c (from + width)) h).0)) (filter (clause_passes (is_of from width)) asked) (passing_known (is_of from width) asked))

-- four lists in another order
regroup : (cs fs on rest gs : Clauses) → Perm (List Cmp) (((cs ++ (fs ++ on)) ++ rest) ++ gs) (cs ++ ((on ++ rest) ++ (fs ++ gs)))
regroup cs fs on rest gs = then
    (Perm-same _ (cs ++ (fs ++ (on ++ (rest ++ gs)))) (simp append_assoc))
    (Perm-append_right cs (then
    (Perm-same _ (fs ++ ((on ++ rest) ++ gs)) (simp append_assoc))
    (then (Perm-same _ ((fs ++ (on ++ rest)) ++ gs) (sym (append_assoc fs (on ++ rest) gs)))
    (then (Perm-append_left gs (Perm-comm fs (on ++ rest))) (Perm-same _ _ (append_assoc (on ++ rest) fs gs))))))

pub split_asks : (needed : ℕ → Bool) (bs : List Bound) (from : ℕ) (cs asked : Clauses) → Perm (List Cmp) (clauses_so_far from cs (split needed from asked bs) ++ left_over from asked bs) (cs ++ (ons bs ++ asked))
split_asks needed [] from cs asked = Perm-refl (cs ++ asked)
split_asks needed (b ∷ bs) from cs asked =
    let mine : Clauses = filter (clause_passes (is_of from b.width)) asked in
    let others : Clauses = left_by from b.width asked in
    then (split_asks needed bs (from + b.width) (cs ++ (clauses_at (λ c. from + c) (local_to from b.width asked) ++ b.on)) others)
    (then (Perm-same _ _ (ap (λ fs. (cs ++ (fs ++ b.on)) ++ (ons bs ++ others)) (local_back from b.width asked) ∙ sym (append_assoc (cs ++ (mine ++ b.on)) (ons bs) others)))
    (then (regroup cs mine b.on (ons bs) others)
    (Perm-append_right cs (Perm-append_right (b.on ++ ons bs) (parts (clause_passes (is_of from b.width)) asked)))))
