-- What the planes of several columns come to, as one number.
use Rattle.std.proofs.Common.{◌≡◌, ℕ, suc, ◌+◌, ◌*◌, ◌^◌, ◌<◌, Bool, true, false, ◌&&◌, List, [], ◌∷◌, ◌++◌, length, map, refl, sym, ap, ap₂, ◌∙◌, subst, arith, length-append, pow-suc, Ordering, Less, Equal, Greater}
use Rattle.std.specs.List.{list_all, AllByRecursion}
use Rattle.std.specs.Ordering.{nat_cmp, is_eq, ordering_then}
use Rattle.pdn_circuit.specs.Plain.{number_in}
use Rattle.pdn_circuit.proofs.CompareLaws.{lane_of-lt}
use Rattle.pdn_obl_rank.specs.Keys.{planes_up, planes_down}
use Rattle.pdn_obl_rank.proofs.OrderLaws.{parts_order}

-- ---- the number of planes
pub number_in-lt : (words : List ℕ) (lane : ℕ) (ps : List ℕ) → number_in words lane ps < 2 ^ length ps
number_in-lt words lane [] = omega arith
number_in-lt words lane (p ∷ ps) = omega (arith, number_in-lt words lane ps, lane_of-lt words lane p, pow-suc 2 (length ps))

twice : (m n : ℕ) → m * 2 * n ≡ 2 * (m * n)
twice m n = grind arith

pub number_in-append : (words : List ℕ) (lane : ℕ) (xs ys : List ℕ) → number_in words lane (xs ++ ys) ≡ number_in words lane xs + 2 ^ length xs * number_in words lane ys
number_in-append words lane [] ys = omega arith
number_in-append words lane (x ∷ xs) ys =
    let n : ℕ = number_in words lane ys in
    let e : 2 ^ suc (length xs) * n ≡ 2 * (2 ^ length xs * n) = ap (λ k. k * n) (pow-suc 2 (length xs)) ∙ twice (2 ^ length xs) n in
    omega (arith, number_in-append words lane xs ys, e)

-- ---- columns, side by side: of each the lanes of one row, and a word's planes
eq_then : (o p : Ordering) → is_eq (ordering_then o p) ≡ (is_eq o && is_eq p)
eq_then Less p = refl
eq_then Equal p = refl
eq_then Greater p = refl

and_swap : (p q : Bool) → (p && q) ≡ (q && p)
and_swap true true = refl
and_swap true false = refl
and_swap false true = refl
and_swap false false = refl

-- the order of two rows in a list of columns, the first column first
abbrev pub places_cmp : (ℕ → Ordering) → List ℕ → Ordering
places_cmp order [] = Equal
places_cmp order (p ∷ ps) = ordering_then (order p) (places_cmp order ps)

-- two columns of as many planes that stand so to each other
pub record Stands (words : List ℕ) (lane : ℕ) (xs ys : List ℕ) (o : Ordering) : Type 0 where
  pub wide : length xs ≡ length ys
  pub order : nat_cmp (number_in words lane xs) (number_in words lane ys) ≡ o

module _ (words : List ℕ) (lane : ℕ) (row word : ℕ → List ℕ) (order : ℕ → Ordering) where
  abbrev pub AllStand : List ℕ → Type 0
  AllStand places = AllByRecursion (λ place. Stands words lane (row place) (word place) (order place)) places

  pub up_wide : (places : List ℕ) → AllStand places → length (planes_up (map row places)) ≡ length (planes_up (map word places))
  up_wide [] h = refl
  up_wide (p ∷ ps) h = let w = h.0 in omega (arith, length-append (row p) (planes_up (map row ps)), length-append (word p) (planes_up (map word ps)), w.wide, up_wide ps h.1)

  pub down_wide : (places : List ℕ) → AllStand places → length (planes_down (map row places)) ≡ length (planes_down (map word places))
  down_wide [] h = refl
  down_wide (p ∷ ps) h = let w = h.0 in omega (arith, length-append (planes_down (map row ps)) (row p), length-append (planes_down (map word ps)) (word p), w.wide, down_wide ps h.1)

  -- two numbers in two parts
  parts : (xs ys us vs : List ℕ) → length xs ≡ length us
      → nat_cmp (number_in words lane (xs ++ ys)) (number_in words lane (us ++ vs)) ≡ ordering_then (nat_cmp (number_in words lane ys) (number_in words lane vs)) (nat_cmp (number_in words lane xs) (number_in words lane us))
  parts xs ys us vs l =
      let n : ℕ = number_in words lane vs in
      ap₂ nat_cmp (number_in-append words lane xs ys) (number_in-append words lane us vs ∙ ap (λ k. number_in words lane us + 2 ^ k * n) (sym l))
      ∙ parts_order (2 ^ length xs) (number_in words lane xs) (number_in words lane ys) (number_in words lane us) n (number_in-lt words lane xs) (subst (λ (k : ℕ). number_in words lane us < 2 ^ k) (sym l) (number_in-lt words lane us))

  pub down_order : (places : List ℕ) → AllStand places → nat_cmp (number_in words lane (planes_down (map row places))) (number_in words lane (planes_down (map word places))) ≡ places_cmp order places
  down_order [] h = refl
  down_order (p ∷ ps) h =
      let w = h.0 in
      parts (planes_down (map row ps)) (row p) (planes_down (map word ps)) (word p) (down_wide ps h.1) ∙ ap₂ ordering_then w.order (down_order ps h.1)

  pub up_same : (places : List ℕ) → AllStand places
      → is_eq (nat_cmp (number_in words lane (planes_up (map row places))) (number_in words lane (planes_up (map word places)))) ≡ list_all (λ place. is_eq (order place)) places
  up_same [] h = refl
  up_same (p ∷ ps) h =
      let w = h.0 in
      let o : Ordering = nat_cmp (number_in words lane (planes_up (map row ps))) (number_in words lane (planes_up (map word ps))) in
      ap is_eq (parts (row p) (planes_up (map row ps)) (word p) (planes_up (map word ps)) w.wide)
      ∙ eq_then o (nat_cmp (number_in words lane (row p)) (number_in words lane (word p)))
      ∙ and_swap (is_eq o) (is_eq (nat_cmp (number_in words lane (row p)) (number_in words lane (word p))))
      ∙ ap₂ (λ a b. a && b) (ap is_eq w.order) (up_same ps h.1)
