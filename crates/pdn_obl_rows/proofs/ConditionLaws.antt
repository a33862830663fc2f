-- What the gates of a condition come to in a row's lane.
use Rattle.std.proofs.Common.{◌≡◌, ℕ, zero, suc, ◌+◌, ◌-◌, ◌*◌, ◌/◌, ◌%◌, ◌^◌, ◌<◌, ◌≤◌, min, max, Bool, true, false, not, ◌&&◌, ◌||◌, List, [], ◌∷◌, ◌++◌, length, replicate, map, refl, sym, ap, ap₂, ◌∙◌, subst, arith, length-append, Option, Some, None, Ordering, Less, Equal, Greater}
use Rattle.std.specs.Prelude.{slice_index}
use Rattle.std.specs.List.{list_any, list_all, AllByRecursion}
use Rattle.std.specs.Ordering.{nat_cmp, is_eq, is_ne, is_lt, is_le, is_gt, is_ge, ordering_then, MatchOrdering}
use Rattle.std.specs.Cmp.{nat_cmp_is}
use Rattle.std.proofs.lemmas.List.{length-replicate, length-map}
use Rattle.std.proofs.lemmas.Cmp.{ranked, nat_cmp_total, tied_itself}
use Rattle.pdn_base.specs.declared.marks.Kind.{Kind}
use Rattle.pdn_base.specs.declared.marks.Kind.TheVariants as kind
use Rattle.pdn_base.specs.declared.value.Value.{Value}
use Rattle.pdn_base.specs.declared.value.Value.TheVariants as value
use Rattle.pdn_base.specs.declared.cond.Op.{Op}
use Rattle.pdn_base.specs.declared.cond.Op.TheVariants as op
use Rattle.pdn_base.specs.declared.cond.Term.{Term}
use Rattle.pdn_base.specs.declared.cond.Operand.{Operand}
use Rattle.pdn_base.specs.declared.cond.Operand.TheVariants as operand
use Rattle.pdn_base.specs.declared.cond.Cmp.{Cmp}
use Rattle.pdn_base.specs.Values.{kind_of, number_of, value_cmp, cell}
use Rattle.pdn_base.specs.Conditions.{plus, term_value, operand_value, answers, compares, cmp_true, clause_true, meets}
use Rattle.pdn_circuit.specs.Gates.{InputWords}
use Rattle.pdn_circuit.specs.Blocks.{Making, gives, ◌>>=◌}
use Rattle.pdn_circuit.specs.Plain.{Yields, Ends, lane_of, number_in, truth}
use Rattle.pdn_circuit.specs.Compare.{zero_gate, one_gate, not_gates, or_gates, equal_gates, less_gates, literal_planes, less_lane}
use Rattle.pdn_circuit.proofs.PlainLaws.{Twice, yields-gives, yields-then}
use Rattle.pdn_circuit.proofs.CompareLaws.{literal_lane, not_is, or_is, and_is, less_is, equal_is, plus_is, literal_is}
use Rattle.pdn_obl_rows.specs.Lists.{PaddedList, IsShaped, width_of, kind_at, column_planes, word_planes, value_of, row_at}
use Rattle.pdn_obl_rows.specs.Conditions.{PlusFits, TermFits, OperandFits, CmpFits, ClauseFits, CondFits, and_gates, column_word, added_gates, term_gates, operand_gates, filled, op_gates, compare_gates, cmp_gates, joined_after, joined_by, clause_gates, cond_gates}
use Rattle.pdn_obl_rows.proofs.CellLaws.{cell_is, length-column_planes}

-- ---- comparisons of numbers
flipped : Ordering → Ordering
flipped Less = Greater
flipped Equal = Equal
flipped Greater = Less

flip_match : (o : Ordering) (m n : ℕ) → MatchOrdering o (m < n) (m ≡ n) (n < m) → MatchOrdering (flipped o) (n < m) (n ≡ m) (m < n)
unfolding flipped
flip_match Less m n h = h
flip_match Equal m n h = sym h
flip_match Greater m n h = h

flip_order : (m n : ℕ) → nat_cmp n m ≡ flipped (nat_cmp m n)
flip_order m n = sym (nat_cmp_is n m (flipped (nat_cmp m n)) (flip_match (nat_cmp m n) m n (ranked m n (nat_cmp m n) refl)))

less_zero : (o : Ordering) → less_lane o 0 ≡ truth (is_lt o)
less_zero Less = refl
less_zero Equal = refl
less_zero Greater = refl

not_lane_ne : (o : Ordering) → 1 - truth (is_eq o) ≡ truth (is_ne o)
not_lane_ne Less = refl
not_lane_ne Equal = refl
not_lane_ne Greater = refl

gt_lane : (o : Ordering) → truth (is_lt (flipped o)) ≡ truth (is_gt o)
unfolding flipped
gt_lane Less = refl
gt_lane Equal = refl
gt_lane Greater = refl

le_lane : (o : Ordering) → 1 - truth (is_lt (flipped o)) ≡ truth (is_le o)
unfolding flipped
le_lane Less = refl
le_lane Equal = refl
le_lane Greater = refl

ge_lane : (o : Ordering) → 1 - truth (is_lt o) ≡ truth (is_ge o)
ge_lane Less = refl
ge_lane Equal = refl
ge_lane Greater = refl

number_of_kind : (k : Kind) (n : ℕ) → number_of (value_of k n) ≡ n
number_of_kind kind.Int n = refl
number_of_kind kind.Code n = refl

-- ---- comparisons of values
same_kind : (x y : Value) → kind_of x ≡ kind_of y → value_cmp x y ≡ nat_cmp (number_of x) (number_of y)
same_kind x y e = ap (λ o. ordering_then o (nat_cmp (number_of x) (number_of y))) (ap (nat_cmp (kind_of x)) (sym e) ∙ tied_itself nat_cmp_total (kind_of x))

-- ---- folds of truths
abbrev pub mixed : (Bool → Bool → Bool) → Bool → List Bool → Bool
mixed mix p [] = p
mixed mix p (q ∷ qs) = mixed mix (mix p q) qs

or_once : (p q r : Bool) → ((p || q) || r) ≡ (p || (q || r))
or_once true q r = refl
or_once false q r = refl

and_once : (p q r : Bool) → ((p && q) && r) ≡ (p && (q && r))
and_once true q r = refl
and_once false q r = refl

or_false : (p : Bool) → (p || false) ≡ p
or_false true = refl
or_false false = refl

and_true : (p : Bool) → (p && true) ≡ p
and_true true = refl
and_true false = refl

mixed_or : {X : Type 0} (t : X → Bool) (p : Bool) (xs : List X) → mixed ◌||◌ p (map t xs) ≡ (p || list_any t xs)
mixed_or t p [] = sym (or_false p)
mixed_or t p (x ∷ xs) = mixed_or t (p || t x) xs ∙ or_once p (t x) (list_any t xs)

mixed_and : {X : Type 0} (t : X → Bool) (p : Bool) (xs : List X) → mixed ◌&&◌ p (map t xs) ≡ (p && list_all t xs)
mixed_and t p [] = sym (and_true p)
mixed_and t p (x ∷ xs) = mixed_and t (p && t x) xs ∙ and_once p (t x) (list_all t xs)

or_truth : (p q : Bool) → max (truth p) (truth q) ≡ truth (p || q)
or_truth true true = refl
or_truth true false = refl
or_truth false true = refl
or_truth false false = refl

and_truth : (p q : Bool) → min (truth p) (truth q) ≡ truth (p && q)
and_truth true true = refl
and_truth true false = refl
and_truth false true = refl
and_truth false false = refl

module _ (inputs : InputWords) (words : List ℕ) (lane : ℕ) (low : lane < 64) (ends : Ends words) where
  less_zero_is : (x y : List ℕ) {g : ℕ} → length x ≡ length y → Yields inputs words (less_gates zero_gate x y) g
      → lane_of words lane g ≡ truth (is_lt (nat_cmp (number_in words lane x) (number_in words lane y)))
  less_zero_is x y l m = less_is lane zero_gate x y l m
      ∙ ap (less_lane (nat_cmp (number_in words lane x) (number_in words lane y))) (literal_lane words lane 0 low ends (omega arith))
      ∙ less_zero (nat_cmp (number_in words lane x) (number_in words lane y))

  op_is : (o : Op) (x y : List ℕ) {g : ℕ} → length x ≡ length y → Yields inputs words (op_gates o x y) g
      → lane_of words lane g ≡ truth (answers o (nat_cmp (number_in words lane x) (number_in words lane y)))
  op_is op.Eq x y l m = equal_is lane low ends x y l m
  op_is op.Ne x y l m =
      let a = yields-then _ _ m in
      not_is lane low ends a.x a.rest ∙ ap (λ k. 1 - k) (equal_is lane low ends x y l a.first) ∙ not_lane_ne (nat_cmp (number_in words lane x) (number_in words lane y))
  op_is op.Lt x y l m = less_zero_is x y l m
  op_is op.Le x y l m =
      let a = yields-then _ _ m in
      not_is lane low ends a.x a.rest ∙ ap (λ k. 1 - k) (less_zero_is y x (sym l) a.first ∙ ap (λ o. truth (is_lt o)) (flip_order (number_in words lane x) (number_in words lane y)))
      ∙ le_lane (nat_cmp (number_in words lane x) (number_in words lane y))
  op_is op.Gt x y l m =
      less_zero_is y x (sym l) m ∙ ap (λ o. truth (is_lt o)) (flip_order (number_in words lane x) (number_in words lane y)) ∙ gt_lane (nat_cmp (number_in words lane x) (number_in words lane y))
  op_is op.Ge x y l m =
      let a = yields-then _ _ m in
      not_is lane low ends a.x a.rest ∙ ap (λ k. 1 - k) (less_zero_is x y l a.first) ∙ ge_lane (nat_cmp (number_in words lane x) (number_in words lane y))

  zeros_is : (k : ℕ) → number_in words lane (replicate k zero_gate) ≡ 0
  zeros_is zero = refl
  zeros_is (suc k) = omega (arith, literal_lane words lane 0 low ends (omega arith), zeros_is k)

  filled_part : (xs : List ℕ) (k : ℕ) → number_in words lane (xs ++ replicate k zero_gate) ≡ number_in words lane xs
  filled_part [] k = zeros_is k
  filled_part (x ∷ xs) k = omega (arith, filled_part xs k)

  compare_is : (o : Op) (x y : List ℕ) {g : ℕ} → Yields inputs words (compare_gates o x y) g
      → lane_of words lane g ≡ truth (answers o (nat_cmp (number_in words lane x) (number_in words lane y)))
  compare_is o x y m =
      op_is o (filled (length y) x) (filled (length x) y)
      (omega (arith, length-append x (replicate (length y - length x) 0), length-append y (replicate (length x - length y) 0), length-replicate {A = ℕ} (length y - length x) 0, length-replicate {A = ℕ} (length x - length y) 0)) m
      ∙ ap₂ (λ i j. truth (answers o (nat_cmp i j))) (filled_part x (length y - length x)) (filled_part y (length x - length y))

  -- ---- terms
  added_is : (k : Kind) (p : Option ℕ) (planes : List ℕ) {zs : List ℕ} → PlusFits k p → length planes ≡ width_of k → Yields inputs words (added_gates p planes) zs
      → number_in words lane zs ≡ number_of (plus p (value_of k (number_in words lane planes)))
  added_is k None planes h l m = ap (number_in words lane) (yields-gives _ m) ∙ sym (number_of_kind k (number_in words lane planes))
  added_is kind.Int (Some n) planes h l m = plus_is lane low ends planes n (subst (λ w. n < 2 ^ w) (sym l) h) m
  added_is kind.Code (Some n) planes h l m = absurd h

plus_kind : (k : Kind) (p : Option ℕ) (n : ℕ) → kind_of (plus p (value_of k n)) ≡ kind_of (value_of k 0)
plus_kind kind.Int None n = refl
plus_kind kind.Code None n = refl
plus_kind kind.Int (Some m) n = refl
plus_kind kind.Code (Some m) n = refl

module _ (inputs : InputWords) (words : List ℕ) (lane : ℕ) where
  pub both_true : (x y : ℕ) (p q : Bool) (g : ℕ) → lane_of words lane x ≡ truth p → lane_of words lane y ≡ truth q → Yields inputs words (and_gates x y) g → lane_of words lane g ≡ truth (p && q)
  both_true x y p q g e f m = and_is lane x y m ∙ ap₂ min e f ∙ and_truth p q

  either_true : (x y : ℕ) (p q : Bool) (g : ℕ) → lane_of words lane x ≡ truth p → lane_of words lane y ≡ truth q → Yields inputs words (or_gates x y) g → lane_of words lane g ≡ truth (p || q)
  either_true x y p q g e f m = or_is lane x y m ∙ ap₂ max e f ∙ or_truth p q

  module _ {X : Type 0} (gates : X → Making ℕ) (both : ℕ → ℕ → Making ℕ) (t : X → Bool) (mix : Bool → Bool → Bool) (P : X → Type 0)
      (each_is : (x : X) (g : ℕ) → P x → Yields inputs words (gates x) g → lane_of words lane g ≡ truth (t x))
      (both_is : (x y : ℕ) (p q : Bool) (g : ℕ) → lane_of words lane x ≡ truth p → lane_of words lane y ≡ truth q → Yields inputs words (both x y) g → lane_of words lane g ≡ truth (mix p q)) where
    after_is : (acc : ℕ) (p : Bool) (xs : List X) {g : ℕ} → AllByRecursion P xs → lane_of words lane acc ≡ truth p → Yields inputs words (joined_after gates both acc xs) g
        → lane_of words lane g ≡ truth (mixed mix p (map t xs))
    after_is acc p [] h e m = ap (lane_of words lane) (yields-gives _ m) ∙ e
    after_is acc p (x ∷ xs) h e m =
        let a = yields-then _ _ m in
        let b = yields-then _ _ a.rest in
        after_is b.x (mix p (t x)) xs h.1 (both_is acc a.x p (t x) b.x e (each_is x a.x h.0 a.first) b.first) b.rest

    joined_is : (none : ℕ) (x : X) (xs : List X) {g : ℕ} → AllByRecursion P (x ∷ xs) → Yields inputs words (joined_by gates both none (x ∷ xs)) g
        → lane_of words lane g ≡ truth (mixed mix (t x) (map t xs))
    joined_is none x xs h m =
        let a = yields-then _ _ m in
        after_is a.x (t x) xs h.1 (each_is x a.x h.0 a.first) a.rest

module _ (inputs : InputWords) (words : List ℕ) (ends : Ends words) (list : PaddedList) (shaped : IsShaped list) (row : ℕ) where
  low : row % 64 < 64
  low = omega arith

  -- a term comes to its value's number, and the value is of the column's kind
  record TermIs (k : Kind) (planes : List ℕ) (v : Value) : Type 0 where
    number : number_in words (row % 64) planes ≡ number_of v
    kind : kind_of v ≡ kind_of (value_of k 0)

  term_is : (t : Term) (k : Kind) {zs : List ℕ} → TermFits list.kinds t k → Yields inputs words (term_gates list (row / 64) t) zs → TermIs k zs (term_value t (row_at words list row))
  term_is t k f m =
      let own : Kind = kind_at list.kinds t.column in
      let planes : List ℕ = column_word list (row / 64) t.column in
      let n : ℕ = number_in words (row % 64) planes in
      let value_is : cell (row_at words list row) t.column ≡ value_of own n = cell_is words row list.kinds list.planes t.column f.there in
      let wide : length planes ≡ width_of own
      = length-map (column_planes list.kinds t.column list.planes) (λ (plane : List ℕ). slice_index plane (row / 64)) ∙ length-column_planes list.kinds t.column list.planes shaped.planes f.there in
      record {
        number = added_is inputs words (row % 64) low ends own t.plus planes (subst (λ j. PlusFits j t.plus) (sym f.kind) f.plus) wide m ∙ ap (λ v. number_of (plus t.plus v)) (sym value_is);
        kind = ap (λ v. kind_of (plus t.plus v)) value_is ∙ plus_kind own t.plus n ∙ ap (λ j. kind_of (value_of j 0)) f.kind;
      }

  operand_is : (o : Operand) (k : Kind) {zs : List ℕ} → OperandFits list.kinds o k → Yields inputs words (operand_gates list (row / 64) o) zs → TermIs k zs (operand_value o (row_at words list row))
  operand_is (operand.Term t) k f m = term_is t k f m
  operand_is (operand.Int n) k f m = record { number = ap (number_in words (row % 64)) (yields-gives _ m) ∙ literal_is words (row % 64) 32 n low ends f.1; kind = ap (λ j. kind_of (value_of j 0)) (sym f.0) }
  operand_is (operand.Code c) k f m = record { number = ap (number_in words (row % 64)) (yields-gives _ m) ∙ literal_is words (row % 64) 64 c low ends f.1; kind = ap (λ j. kind_of (value_of j 0)) (sym f.0) }

  cmp_is : (c : Cmp) (g : ℕ) → CmpFits list.kinds c → Yields inputs words (cmp_gates list (row / 64) c) g → lane_of words (row % 64) g ≡ truth (cmp_true (row_at words list row) c)
  cmp_is c g f m =
      let cells : List Value = row_at words list row in
      let k : Kind = kind_at list.kinds c.left.column in
      let a = yields-then _ _ m in
      let b = yields-then _ _ a.rest in
      let l = term_is c.left k f.left a.first in
      let r = operand_is c.right k f.right b.first in
      compare_is inputs words (row % 64) low ends c.op a.x b.x b.rest
      ∙ ap₂ (λ i j. truth (answers c.op (nat_cmp i j))) l.number r.number
      ∙ ap (λ o. truth (answers c.op o)) (sym (same_kind (term_value c.left cells) (operand_value c.right cells) (l.kind ∙ sym r.kind)))

  clause_is : (clause : List Cmp) (g : ℕ) → ClauseFits list.kinds clause → Yields inputs words (clause_gates list (row / 64) clause) g
      → lane_of words (row % 64) g ≡ truth (clause_true (row_at words list row) clause)
  clause_is [] g f m = ap (lane_of words (row % 64)) (yields-gives _ m) ∙ literal_lane words (row % 64) 0 low ends (omega arith)
  clause_is (c ∷ cs) g f m =
      joined_is inputs words (row % 64) (cmp_gates list (row / 64)) or_gates (cmp_true (row_at words list row)) ◌||◌ (CmpFits list.kinds) cmp_is (either_true inputs words (row % 64)) zero_gate c cs f m
      ∙ ap truth (mixed_or (cmp_true (row_at words list row)) (cmp_true (row_at words list row) c) cs)

  -- a condition's lane says whether the row meets it
  pub cond_is : (clauses : List (List Cmp)) {g : ℕ} → CondFits list.kinds clauses → Yields inputs words (cond_gates list (row / 64) clauses) g
      → lane_of words (row % 64) g ≡ truth (meets clauses (row_at words list row))
  cond_is [] f m = ap (lane_of words (row % 64)) (yields-gives _ m) ∙ literal_lane words (row % 64) 1 low ends (omega arith)
  cond_is (c ∷ cs) f m =
      joined_is inputs words (row % 64) (clause_gates list (row / 64)) and_gates (clause_true (row_at words list row)) ◌&&◌ (ClauseFits list.kinds) clause_is (both_true inputs words (row % 64)) one_gate c cs f m
      ∙ ap truth (mixed_and (clause_true (row_at words list row)) (clause_true (row_at words list row) c) cs)
