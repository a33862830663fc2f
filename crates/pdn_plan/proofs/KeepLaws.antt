-- What is kept is what is needed, and each source fits what stands before it.
use Rattle.std.proofs.Common.{◌≡◌, ℕ, suc, zero, ◌+◌, ◌-◌, ◌<◌, ◌≤◌, ◌==◌, ◌||◌, Bool, true, false, nat_lt, nat_le, cond, List, [], ◌∷◌, ◌++◌, map, filter, sym, refl, ap, ap₂, ◌∙◌, subst, arith, ⊎_elim, leb-true, ltb-true, eq-eqb, suc-add, zero-add}
use Rattle.std.specs.List.{list_any, AllByRecursion, range_with_len}
use Rattle.std.proofs.lemmas.Bool.{cases_eq}
use Rattle.std.proofs.lemmas.List.Elements.{filter-append}
use Rattle.pdn_tree.specs.Columns.{Clauses, Names, Has, shifted, Below, Wide}
use Rattle.pdn_plan.specs.Splitting.{Part}
use Rattle.pdn_tree.specs.declared.node.Node.{Node}
use Rattle.pdn_plan.specs.Splitting.{kept_of, clause_passes, is_of, local_to, left_by, split}
use Rattle.pdn_tree.proofs.ColumnLaws.{names-weaker, names-at}
use Rattle.pdn_plan.proofs.Pushing.{filter-map, Fits, AllFit}
use Rattle.pdn_plan.proofs.SplitLaws.{both_true, passing_known}
use Rattle.pdn_tree.specs.Meaning.{Rows}
use Rattle.pdn_plan.specs.declared.scope.Bound.{Bound}

pub range-shift : (w a v : ℕ) → map (λ c. w + c) (range_with_len a v) ≡ range_with_len (w + a) v
range-shift w a zero = refl
range-shift w a (suc v) = ap (λ cs. (w + a) ∷ cs) (range-shift w (a + 1) v ∙ ap (λ n. range_with_len n v) (omega arith))

range-append : (a n m : ℕ) → range_with_len a n ++ range_with_len (a + n) m ≡ range_with_len a (n + m)
range-append a zero m = ap₂ range_with_len (omega arith) (omega arith)
range-append a (suc n) m = ap (λ cs. a ∷ cs) (ap (λ k. range_with_len (a + 1) n ++ range_with_len k m) (omega arith) ∙ range-append (a + 1) n m) ∙ ap (range_with_len a) (sym (suc-add n m))

abbrev pub needed_below : (ℕ → Bool) → ℕ → List ℕ
needed_below needed n = filter needed (range_with_len 0 n)

pub keep_more : (needed : ℕ → Bool) (w v : ℕ) → needed_below needed w ++ shifted w (filter (λ c. needed (w + c)) (range_with_len 0 v)) ≡ needed_below needed (w + v)
keep_more needed w v =
    ap (λ cs. needed_below needed w ++ cs) (sym (filter-map needed (λ c. w + c) (range_with_len 0 v)) ∙ ap (filter needed) (range-shift w 0 v ∙ ap (λ n. range_with_len n v) (omega arith)))
    ∙ sym (filter-append needed (range_with_len 0 w) (range_with_len (0 + w) v))
    ∙ ap (filter needed) (range-append 0 w v)

has_more : (needed : ℕ → Bool) (a c : ℕ) (cs : List ℕ) → (b : Bool) → needed a ≡ b → Has cs c → Has (cond b (a ∷ cs) cs) c
has_more needed a c cs true e h = or_right (a == c) (list_any (λ k. k == c) cs) h
  where
    or_right : (x y : Bool) → y ≡ true → (x || y) ≡ true
    or_right true y f = refl
    or_right false y f = f
has_more needed a c cs false e h = h

has_first : (needed : ℕ → Bool) (a : ℕ) (cs : List ℕ) → needed a ≡ true → Has (cond (needed a) (a ∷ cs) cs) a
has_first needed a cs e = rw e (ap (λ b. b || list_any (λ k. k == a) cs) (eq-eqb a a refl))

pub has_needed : (needed : ℕ → Bool) (c a n : ℕ) → needed c ≡ true → a ≤ c → c < a + n → Has (filter needed (range_with_len a n)) c
has_needed needed c a zero h low high = absurd (omega arith)
has_needed needed c a (suc n) h low high = ⊎_elim
    (λ e. subst (λ (k : ℕ). Has (filter needed (range_with_len k (suc n))) c) (sym e) (has_first needed c (filter needed (range_with_len (c + 1) n)) h))
    (λ apart. has_more needed a c (filter needed (range_with_len (a + 1) n)) (needed a) refl (has_needed needed c (a + 1) n h (omega (arith, apart)) (omega arith)))
    (cases_eq a c)

pub below_range : (p : ℕ → Bool) (a n : ℕ) → AllByRecursion (λ c. c < a + n) (filter p (range_with_len a n))
below_range p a zero = tt
below_range p a (suc n) = one (p a) (subst (λ (k : ℕ). AllByRecursion (λ c. c < k) (filter p (range_with_len (a + 1) n))) (omega arith) (below_range p (a + 1) n))
  where
    one : (b : Bool) → AllByRecursion (λ c. c < a + suc n) (filter p (range_with_len (a + 1) n)) → AllByRecursion (λ c. c < a + suc n) (cond b (a ∷ filter p (range_with_len (a + 1) n)) (filter p (range_with_len (a + 1) n)))
    one true h = (omega arith, h)
    one false h = h

-- what binding gives of a source
pub record Sound (m : Node → Rows) (needed : ℕ → Bool) (from : ℕ) (b : Bound) : Type 0 where
  pub wide : Wide b.width (m b.plan)
  pub on_needed : Names (λ c. (needed c ≡ true) × (c < from + b.width)) b.on

abbrev pub AllSound : (Node → Rows) → (ℕ → Bool) → ℕ → List Bound → Type 0
AllSound m needed from [] = Unit {0}
AllSound m needed from (b ∷ bs) = Sound m needed from b × AllSound m needed (from + b.width) bs

abbrev one_part : (ℕ → Bool) → ℕ → Clauses → Bound → Part
one_part needed from asked b = record { plan = b.plan; width = b.width; local = local_to from b.width asked; keep = kept_of needed from b.width; on = b.on }

one_fits : (m : Node → Rows) (needed : ℕ → Bool) (from : ℕ) (asked : Clauses) (b : Bound) → Sound m needed from b
    → Fits m from (needed_below needed from) (one_part needed from asked b)
one_fits m needed from asked b s = record {
  wide = s.wide;
  keeps = subst (λ (k : ℕ). Below k (filter (λ c. needed (from + c)) (range_with_len 0 b.width))) (omega arith) (below_range (λ c. needed (from + c)) 0 b.width);
  local = names-at _ (λ c. c - from) (filter (clause_passes (is_of from b.width)) asked)
      (names-weaker _ _ (λ c h. let sides = both_true (nat_le from c) (nat_lt c (from + b.width)) h in omega (arith, leb-true from c sides.0, ltb-true c (from + b.width) sides.1)) (filter (clause_passes (is_of from b.width)) asked) (passing_known (is_of from b.width) asked));
  on = names-weaker _ _ (λ c h. h.1) b.on s.on_needed;
  on_kept = names-weaker _ _ (λ c h. subst (λ (kept : List ℕ). Has kept c) (sym (keep_more needed from b.width)) (has_needed needed c 0 (from + b.width) h.0 (omega arith) (omega (arith, h.1)))) b.on s.on_needed;
}

pub split_fits : (m : Node → Rows) (needed : ℕ → Bool) (bs : List Bound) (from : ℕ) (asked : Clauses) → AllSound m needed from bs → AllFit m from (needed_below needed from) (split needed from asked bs)
split_fits m needed [] from asked s = tt
split_fits m needed (b ∷ bs) from asked s = (
  one_fits m needed from asked b s.0,
  subst (λ (kept : List ℕ). AllFit m (from + b.width) kept (split needed (from + b.width) (left_by from b.width asked) bs)) (sym (keep_more needed from b.width)) (split_fits m needed bs (from + b.width) (left_by from b.width asked) s.1),
)

-- one more column of a range
pub kept_more : (needed : ℕ → Bool) (n : ℕ) → filter needed (range_with_len 0 (n + 1)) ≡ filter needed (range_with_len 0 n) ++ cond (needed n) (n ∷ []) []
kept_more needed n =
    ap (filter needed) (sym (range-append 0 n 1))
    ∙ filter-append needed (range_with_len 0 n) (range_with_len (0 + n) 1)
    ∙ ap (λ k. filter needed (range_with_len 0 n) ++ cond (needed k) (k ∷ []) []) (zero-add n)
