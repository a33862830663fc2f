-- From a tree that fits a schema, and whose numbers fit their types, what the operators' laws ask for.
use Rattle.std.proofs.Common.{◌≡◌, ℕ, ◌^◌, ◌<◌, true, ◌||◌, List, [], ◌∷◌, ◌++◌, length, refl, sym, subst, ltb-true, Option, Some, None}
use Rattle.std.specs.Prelude.{is_none}
use Rattle.std.specs.List.{AllByRecursion, list_all}
use Rattle.pdn_base.specs.declared.marks.Kind.{Kind}
use Rattle.pdn_base.specs.declared.marks.Kind.TheVariants as kind
use Rattle.pdn_base.specs.declared.order.Key.{Key}
use Rattle.pdn_base.specs.declared.cond.Term.{Term}
use Rattle.pdn_base.specs.declared.cond.Operand.{Operand}
use Rattle.pdn_base.specs.declared.cond.Operand.TheVariants as operand
use Rattle.pdn_base.specs.declared.cond.Cmp.{Cmp}
use Rattle.pdn_tree.specs.Shapes.{kind_at, same_kind, all_within, key_columns, term_fits, operand_fits, cmp_fits, cond_fits}
use Rattle.pdn_obl_rows.specs.Conditions.{PlusFits, TermFits, OperandFits, CmpFits, ClauseFits, CondFits}
use Rattle.pdn_obl_group.specs.Means.{HavingFits}
use Rattle.pdn_obl_rank.specs.Keys.{KeysFit}
use Rattle.pdn_obl_rank.specs.Means.{LimitFits}
use Rattle.pdn_level.proofs.Lists.{both_true}
use Rattle.pdn_site.specs.Meaning.{is_number, operand_number, cmp_numbers, cond_numbers}

same_kind_is : (k l : Kind) → same_kind k l ≡ true → l ≡ k
same_kind_is kind.Int kind.Int h = refl
same_kind_is kind.Code kind.Code h = refl
same_kind_is kind.Int kind.Code h = absurd cc
same_kind_is kind.Code kind.Int h = absurd cc

plus_ok : (o : Option ℕ) (k : Kind) → (is_none o || same_kind k kind.Int) ≡ true → is_number o ≡ true → PlusFits k o
plus_ok None k h n = tt
plus_ok (Some m) kind.Int h n = ltb-true m (2 ^ 32) n
plus_ok (Some m) kind.Code h n = absurd cc

term_ok : (kinds : List Kind) (t : Term) (k : Kind) → term_fits kinds t ≡ true → is_number t.plus ≡ true → kind_at kinds t.column ≡ k → TermFits kinds t k
term_ok kinds t k h n e =
    let parts = both_true _ _ h in
    record { there = ltb-true t.column (length kinds) parts.0; kind = e; plus = plus_ok t.plus k (subst (λ (j : Kind). (is_none t.plus || same_kind j kind.Int) ≡ true) e parts.1) n }

operand_ok : (kinds : List Kind) (k : Kind) (r : Operand) → operand_fits kinds k r ≡ true → operand_number r ≡ true → OperandFits kinds r k
operand_ok kinds k (operand.Term t) h n =
    let parts = both_true _ _ h in
    term_ok kinds t k parts.0 n (same_kind_is k (kind_at kinds t.column) parts.1)
operand_ok kinds k (operand.Int m) h n = (sym (same_kind_is k kind.Int h), ltb-true m (2 ^ 32) n)
operand_ok kinds k (operand.Code c) h n = (sym (same_kind_is k kind.Code h), ltb-true c (2 ^ 64) n)

cmp_ok : (kinds : List Kind) (c : Cmp) → cmp_fits kinds c ≡ true → cmp_numbers c ≡ true → CmpFits kinds c
cmp_ok kinds c h n =
    let parts = both_true _ _ h in
    let numbers = both_true _ _ n in
    record { left = term_ok kinds c.left (kind_at kinds c.left.column) parts.0 numbers.0 refl; right = operand_ok kinds (kind_at kinds c.left.column) c.right parts.1 numbers.1 }

clause_ok : (kinds : List Kind) (clause : List Cmp) → list_all (cmp_fits kinds) clause ≡ true → list_all cmp_numbers clause ≡ true → ClauseFits kinds clause
clause_ok kinds [] h n = tt
clause_ok kinds (c ∷ cs) h n =
    let parts = both_true _ _ h in
    let numbers = both_true _ _ n in
    (cmp_ok kinds c parts.0 numbers.0, clause_ok kinds cs parts.1 numbers.1)

pub cond_ok : (kinds : List Kind) (clauses : List (List Cmp)) → cond_fits kinds clauses ≡ true → cond_numbers clauses ≡ true → CondFits kinds clauses
cond_ok kinds [] h n = tt
cond_ok kinds (c ∷ cs) h n =
    let parts = both_true _ _ h in
    let numbers = both_true _ _ n in
    (clause_ok kinds c parts.0 numbers.0, cond_ok kinds cs parts.1 numbers.1)

pub within_ok : (kinds : List Kind) (columns : List ℕ) → all_within kinds columns ≡ true → AllByRecursion (λ c. c < length kinds) columns
within_ok kinds [] h = tt
within_ok kinds (c ∷ cs) h = let parts = both_true _ _ h in (ltb-true c (length kinds) parts.0, within_ok kinds cs parts.1)

keys_ok : (kinds : List Kind) (partition : List ℕ) (order : List Key) → AllByRecursion (λ c. c < length kinds) (partition ++ key_columns order) → KeysFit (length kinds) partition order
keys_ok kinds [] order h = record { parts = tt; keys = each_key order h }
  where
    each_key : (order : List Key) → AllByRecursion (λ c. c < length kinds) (key_columns order) → AllByRecursion (λ (key : Key). key.column < length kinds) order
    each_key [] h = tt
    each_key (k ∷ ks) h = (h.0, each_key ks h.1)
keys_ok kinds (p ∷ ps) order h =
    let rest = keys_ok kinds ps order h.1 in
    record { parts = (h.0, rest.parts); keys = rest.keys }

pub order_ok : (kinds : List Kind) (partition : List ℕ) (order : List Key) → all_within kinds (partition ++ key_columns order) ≡ true → KeysFit (length kinds) partition order
order_ok kinds partition order h = keys_ok kinds partition order (within_ok kinds (partition ++ key_columns order) h)

pub having_ok : (having : Option ℕ) → is_number having ≡ true → HavingFits having
having_ok None h = tt
having_ok (Some n) h = ltb-true n (2 ^ 32) h

pub limit_ok : (limit : Option ℕ) → is_number limit ≡ true → LimitFits limit
limit_ok None h = tt
limit_ok (Some n) h = ltb-true n (2 ^ 32) h
