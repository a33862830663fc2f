-- The stated network keeps what its schema says.
use Rattle.std.proofs.Common.{◌≡◌, ℕ, zero, suc, ◌+◌, ◌≤◌, ◌<◌, Bool, true, false, cond, List, [], ◌∷◌, ◌++◌, length, get_or, map, filter, refl, sym, ap, subst, ◌∙◌, arith}
use Rattle.std.specs.Prelude.{◌==◌, ◌%◌, not, codes}
use Rattle.std.specs.List.{IsDistinct, range_with_len}
use Rattle.std.proofs.lemmas.Bool.{eq-eqb, ne_eqb, eqb-true}
use Rattle.std.proofs.lemmas.List.{map-append, length-map, append-nil}
use Rattle.std.proofs.lemmas.List.Elements.{All-map}
use Rattle.std.proofs.lemmas.List.FromFn.{filter_of_map_range_with_len_more, length-range_with_len}
use Rattle.std.proofs.lemmas.List.Sums.{length-filter, count_by-le-length, sum_by-cons}
use Rattle.pdn_base.specs.Codes.{is_code, is_code_byte}
use Rattle.pdn_base.specs.Operators.{Rows}
use Rattle.pdn_base.specs.Values.{number_of, cell}
use Rattle.pdn_base.specs.declared.value.Value.{Value}
use Rattle.pdn_schema.specs.declared.schema.Column.{Column}
use Rattle.pdn_schema.specs.declared.schema.Caller.{Caller}
use Rattle.pdn_schema.specs.Models.{SchemaModel, TableModel, table_of}
use Rattle.pdn_schema.specs.Rows.{HasKinds, standing, KeepEach, IsValid, AreValid}
use Rattle.pdn_schema.specs.Schemas.{IsSchema}
use Rattle.pdn_schema.specs.Names.{is_name}
use Rattle.pdn_network.specs.Network.{network_schema, diag, pid, offset, gap, code_at_b, row, patients_with, rows_a, rows_b, tables_a, tables_b}

-- ---- the schema

abbrev schema_of : List Caller → List TableModel → SchemaModel
schema_of callers tables = record { floor = 3; callers = callers; tables = tables }

pub schema_is : IsSchema network_schema
unfolding network_schema is_name IsDistinct
schema_is = record {
  floor = record { least = omega arith; most = omega arith };
  callers = record { few = omega arith; each = tt; distinct = tt };
  tables = record {
    few = omega arith;
    each = (
      record {
        head = record {
          name = refl;
          least = omega arith;
          most = omega arith;
          few = omega arith;
          each = (record { name = refl; per = (omega arith, omega arith, omega arith) }, (record { name = refl; per = refl }, (record { name = refl; per = refl }, tt)));
          distinct = ((refl, (refl, tt)), ((refl, tt), (tt, tt)));
        };
        some = omega arith;
      },
      tt,
    );
    distinct = (tt, tt);
  };
  some = omega arith;
}

pub schema_with : (callers : List Caller) (tables : List TableModel) → callers ≡ [] → tables ≡ diag ∷ [] → schema_of callers tables ≡ network_schema
unfolding network_schema
schema_with callers tables none one = rw (none, one) refl

-- ---- the patients one after the other

map_same : {X : Type 0} (xs : List X) → map (λ x. x) xs ≡ xs
map_same [] = refl
map_same (x ∷ xs) = ap (λ ys. x ∷ ys) (map_same xs)

patients_more : (test : ℕ → Bool) (n p : ℕ) → 1 + n ≡ p → patients_with test (n + 1) ≡ patients_with test n ++ cond (test p) (p ∷ []) []
patients_more test n p e =
    let last : filter test (map (λ x. x) (range_with_len 1 (n + 1))) ≡ filter test (map (λ x. x) (range_with_len 1 n)) ++ cond (test p) (p ∷ []) [] = filter_of_map_range_with_len_more test (λ x. x) 1 n p e in
    rw (map_same (range_with_len 1 (n + 1)), map_same (range_with_len 1 n)) at last

module _ (test : ℕ → Bool) (f : ℕ → List Value) (rows : Rows) (n p : ℕ) (e : 1 + n ≡ p) (so_far : rows ≡ map f (patients_with test n)) where
  -- the next patient has a row
  pub with_row : (new : List Value) → test p ≡ true → new ≡ f p → rows ++ new ∷ [] ≡ map f (patients_with test (n + 1))
  with_row new has is = rw (so_far, is, patients_more test n p e, has, map-append f (patients_with test n) (p ∷ [])) refl

  -- the next patient has none
  pub without_row : test p ≡ false → rows ≡ map f (patients_with test (n + 1))
  without_row lacks = rw (so_far, patients_more test n p e, lacks, append-nil (patients_with test n)) refl

-- ---- in how many rows a patient stands

module _ (f : ℕ → List Value) (first : (p : ℕ) → number_of (cell (f p) 0) ≡ p) where
  count_first : (number a : ℕ) (rows : Rows) → standing 0 number (f a ∷ rows) ≡ cond (a == number) 1 0 + standing 0 number rows
  unfolding standing
  count_first number a rows = sum_by-cons (λ (r : List Value). cond (number_of (cell r 0) == number) 1 0) (f a) rows ∙ ap (λ n. cond (n == number) 1 0 + standing 0 number rows) (first a)

  count_kept : (number a : ℕ) (b : Bool) (xs : List ℕ) → standing 0 number (map f (cond b (a ∷ xs) xs)) ≤ cond (a == number) 1 0 + standing 0 number (map f xs)
  count_kept number a true xs = rw (count_first number a (map f xs)) (omega arith)
  count_kept number a false xs = omega arith

  module _ (test : ℕ → Bool) where
    none_before : (number a n : ℕ) → number < a → standing 0 number (map f (filter test (range_with_len a n))) ≡ 0
    unfolding standing
    none_before number a zero l = refl
    none_before number a (suc n) l =
        let other : (a == number) ≡ false = ne_eqb a number (λ e. omega (arith, e, l)) in
        let few = rw (other, none_before number (a + 1) n (omega (arith, l))) at (count_kept number a (test a) (filter test (range_with_len (a + 1) n))) in
        omega (arith, few)

    first_or_later : (number a n : ℕ) (b : Bool) → (a == number) ≡ b → standing 0 number (map f (filter test (range_with_len (a + 1) n))) ≤ 1 → standing 0 number (map f (filter test (range_with_len a (suc n)))) ≤ 1
    first_or_later number a n true e later =
        let here : a ≡ number = eqb-true a number e in
        let few = rw (e, none_before number (a + 1) n (omega (arith, here))) at (count_kept number a (test a) (filter test (range_with_len (a + 1) n))) in
        omega (arith, few)
    first_or_later number a n false e later =
        let few = rw e at (count_kept number a (test a) (filter test (range_with_len (a + 1) n))) in
        omega (arith, few, later)

    pub at_most_once : (number a n : ℕ) → standing 0 number (map f (filter test (range_with_len a n))) ≤ 1
    unfolding standing
    at_most_once number a zero = omega arith
    at_most_once number a (suc n) = first_or_later number a n (a == number) refl (at_most_once number (a + 1) n)

-- ---- valid rows

module _ (test : ℕ → Bool) (f : ℕ → List Value) (first : (p : ℕ) → number_of (cell (f p) 0) ≡ p) (kinds : (p : ℕ) → HasKinds diag.columns (f p)) where
  keeps_per : (patients : ℕ) → KeepEach diag.columns (map f (patients_with test patients))
  keeps_per patients zero column is public number =
      let same : pid ≡ column = cc in
      let few : standing 0 number (map f (patients_with test patients)) ≤ 4 = omega (arith, at_most_once f first test number 1 patients) in
      subst (λ (col : Column). standing 0 number (map f (patients_with test patients)) ≤ col.per) same few
  keeps_per patients (suc zero) column is public number = absurd cc
  keeps_per patients (suc (suc zero)) column is public number = absurd cc
  keeps_per patients (suc (suc (suc at))) column is public number = absurd cc

  rows_are : (patients : ℕ) → patients ≤ 100 → IsValid diag (map f (patients_with test patients))
  rows_are patients l = record {
    kinds = All-map (HasKinds diag.columns) f (patients_with test patients) (λ k d within. kinds _);
    few = rw (length-map (patients_with test patients) f, length-filter test (range_with_len 1 patients)) (omega (arith, l, length-range_with_len 1 patients, count_by-le-length test (range_with_len 1 patients)));
    per = keeps_per patients;
  }

  each_is : (patients : ℕ) → patients ≤ 100 → (t : ℕ) → t < length network_schema.tables → IsValid (table_of network_schema t) (get_or (map f (patients_with test patients) ∷ []) t [])
  unfolding network_schema
  each_is patients l zero within = rows_are patients l
  each_is patients l (suc t) within = absurd (omega (arith, within))

  tables_are : (patients : ℕ) → patients ≤ 100 → AreValid network_schema (map f (patients_with test patients) ∷ [])
  unfolding network_schema
  tables_are patients l = record { count = refl; each = each_is patients l }

pub valid_a : (seed patients : ℕ) → patients ≤ 100 → AreValid network_schema (tables_a seed patients)
unfolding rows_a
valid_a seed patients l = tables_are (λ p. not (offset seed p == 0)) (λ p. row p (codes "cdiff") (10 + offset seed p)) (λ p. refl) (λ p. refl) patients l

pub valid_b : (seed patients : ℕ) → patients ≤ 100 → AreValid network_schema (tables_b seed patients)
unfolding rows_b
valid_b seed patients l = tables_are (λ p. not (offset seed p == 1)) (λ p. row p (code_at_b seed p) (10 + offset seed p + gap seed p)) (λ p. refl) (λ p. refl) patients l

-- ---- codes

pub cdiff_is : is_code (codes "cdiff") ≡ true
unfolding is_code is_code_byte
cdiff_is = refl

one_is : (b : Bool) → is_code (cond b (codes "flu") (codes "cdiff")) ≡ true
unfolding is_code is_code_byte
one_is true = refl
one_is false = refl

pub c_is : (seed p : ℕ) → is_code (code_at_b seed p) ≡ true
c_is seed p = one_is ((p + seed) % 4 == 0)

-- ---- a number and another one

pub is_other : (n stated number : ℕ) → n ≡ stated → (n ≡ number → ⊥) → not (stated == number) ≡ true
is_other n stated number is differ = ap not (ne_eqb stated number (λ e. differ (is ∙ e)))

pub is_that : (n stated number : ℕ) → n ≡ stated → n ≡ number → not (stated == number) ≡ false
is_that n stated number is same = ap not (eq-eqb stated number (sym is ∙ same))
