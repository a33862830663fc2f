-- Sums of numbers, plane by plane.
use Rattle.std.proofs.Common.{◌≡◌, ℕ, zero, suc, ◌+◌, ◌<◌, ◌≤◌, List, [], ◌∷◌, ◌++◌, length, get_or, Result, refl, sym, ap, ◌∙◌, subst, ⊎_elim, arith, length-append, append_assoc, append-nil}
use Rattle.std.specs.List.{All, range_with_len}
use Rattle.std.specs.Int.{bit_at}
use Rattle.std.specs.Prelude.{bit_and, map, ◌/◌, ◌^◌}
use Rattle.std.proofs.lemmas.Nat.Bits.{shr_and_one, bit_at-lt}
use Rattle.std.proofs.lemmas.List.FromFn.{map-range_with_len_more, length-map-range_with_len, get_or-map-range_with_len}
use Rattle.std.proofs.lemmas.Bool.{cases_lt}
use Rattle.std.proofs.lemmas.List.{get_or_append_left, get_or_at}
use Rattle.pdn_circuit.specs.declared.gate.Gate.TheVariants.{Xor, And}
use Rattle.pdn_circuit.specs.declared.sums.SumPlane.{SumPlane}
use Rattle.pdn_circuit.specs.declared.tally.BuildErr.{BuildErr}
use Rattle.pdn_circuit.specs.Blocks.{Block, Making, gives, one, ◌>>=◌}
use Rattle.pdn_circuit.specs.Building.{Made, Makes, Refuses, Stops, Along}
use Rattle.pdn_circuit.specs.Compare.{sum_gates, sum_plane_gates, literal_planes}
use Rattle.pdn_circuit.proofs.Making.{gives-then, then-then, then_same, then-gives, give_after, along_begin, along_as, along_next, along_stops, along_refused, along_end}

-- gates of a builder and one more
pub there_push : (n m : ℕ) (xs ys : List ℕ) (x : ℕ) → All (λ g. g < n) xs → n ≤ m → x < m → ys ≡ xs ++ x ∷ [] → All (λ g. g < m) ys
there_push n m xs ys x all le here is = subst (λ (zs : List ℕ). All (λ g. g < m) zs) (sym is)
    (λ k d h. ⊎_elim
    (λ l. let a = all k d l in omega (arith, a, get_or_append_left xs (x ∷ []) d k l))
    (λ l. let e : length xs ≡ k = omega (arith, length-append xs (x ∷ [])) in omega (arith, get_or_at xs x [] d k e))
    (cases_lt k (length xs)))

-- ---- one plane
module _ (old : Made) (carry x y : ℕ) where
  abbrev whole : Making SumPlane
  whole = sum_plane_gates carry x y

  abbrev with_sum : ℕ → ℕ → Making SumPlane
  with_sum both sum = one (Xor both carry) >>= λ next. gives (record { sum = sum; carry = next })

  abbrev with_both : ℕ → ℕ → Making SumPlane
  with_both u both = one (Xor u y) >>= with_sum both

  abbrev with_v : ℕ → ℕ → Making SumPlane
  with_v u v = one (And u v) >>= with_both u

  abbrev with_u : ℕ → Making SumPlane
  with_u u = one (Xor y carry) >>= with_v u

  pub no_u : (new : Made) (err : BuildErr) → Refuses old new (one (Xor x carry) (length old.gates)) err → Stops old new (sum_plane_gates carry x y (length old.gates)) err
  no_u new err r = along_refused old old new whole _ with_u err (along_begin old whole) r

  module _ (m1 : Made) (u : ℕ) (s1 : Makes old m1 (one (Xor x carry) (length old.gates)) u) where
    a1 : Along old whole m1 (with_u u)
    a1 = along_next old old m1 whole _ with_u u (along_begin old whole) s1

    pub no_v : (new : Made) (err : BuildErr) → Refuses m1 new (one (Xor y carry) (length m1.gates)) err → Stops old new (sum_plane_gates carry x y (length old.gates)) err
    no_v new err r = along_refused old m1 new whole _ (with_v u) err a1 r

    module _ (m2 : Made) (v : ℕ) (s2 : Makes m1 m2 (one (Xor y carry) (length m1.gates)) v) where
      a2 : Along old whole m2 (with_v u v)
      a2 = along_next old m1 m2 whole _ (with_v u) v a1 s2

      pub no_both : (new : Made) (err : BuildErr) → Refuses m2 new (one (And u v) (length m2.gates)) err → Stops old new (sum_plane_gates carry x y (length old.gates)) err
      no_both new err r = along_refused old m2 new whole _ (with_both u) err a2 r

      module _ (m3 : Made) (both : ℕ) (s3 : Makes m2 m3 (one (And u v) (length m2.gates)) both) where
        a3 : Along old whole m3 (with_both u both)
        a3 = along_next old m2 m3 whole _ (with_both u) both a2 s3

        pub no_sum : (new : Made) (err : BuildErr) → Refuses m3 new (one (Xor u y) (length m3.gates)) err → Stops old new (sum_plane_gates carry x y (length old.gates)) err
        no_sum new err r = along_refused old m3 new whole _ (with_sum both) err a3 r

        module _ (m4 : Made) (sum : ℕ) (s4 : Makes m3 m4 (one (Xor u y) (length m3.gates)) sum) where
          a4 : Along old whole m4 (with_sum both sum)
          a4 = along_next old m3 m4 whole _ (with_sum both) sum a3 s4

          pub no_next : (new : Made) (err : BuildErr) → Refuses m4 new (one (Xor both carry) (length m4.gates)) err → Stops old new (sum_plane_gates carry x y (length old.gates)) err
          no_next new err r = along_refused old m4 new whole _ (λ next. gives (record { sum = sum; carry = next })) err a4 r

          pub plane_made : (new : Made) (next : ℕ) → Makes m4 new (one (Xor both carry) (length m4.gates)) next → Makes old new (sum_plane_gates carry x y (length old.gates)) (record { sum = sum; carry = next })
          plane_made new next s5 = along_end old new whole (record { sum = sum; carry = next }) (along_next old m4 new whole _ (λ c. gives (record { sum = sum; carry = c })) next a4 s5)

-- ---- plane by plane
abbrev after_plane : List ℕ → List ℕ → List ℕ → SumPlane → Making (List ℕ)
after_plane xs ys front plane = sum_gates plane.carry xs ys >>= give_after (front ++ plane.sum ∷ [])

sum_opened : (carry x y n : ℕ) (xs ys front : List ℕ) → (sum_gates carry (x ∷ xs) (y ∷ ys) >>= give_after front) n ≡ (sum_plane_gates carry x y >>= after_plane xs ys front) n
sum_opened carry x y n xs ys front =
    then-then (one (Xor x carry)) _ (give_after front) n
    ∙ then_same (one (Xor x carry)) _ (λ u. (one (Xor y carry) >>= λ v. one (And u v) >>= λ both. one (Xor u y) >>= λ sum. one (Xor both carry) >>= λ next. gives (record { sum = sum; carry = next })) >>= after_plane xs ys front) n (λ u m1.
    then-then (one (Xor y carry)) _ (give_after front) m1
    ∙ then_same (one (Xor y carry)) _ (λ v. (one (And u v) >>= λ both. one (Xor u y) >>= λ sum. one (Xor both carry) >>= λ next. gives (record { sum = sum; carry = next })) >>= after_plane xs ys front) m1 (λ v m2.
    then-then (one (And u v)) _ (give_after front) m2
    ∙ then_same (one (And u v)) _ (λ both. (one (Xor u y) >>= λ sum. one (Xor both carry) >>= λ next. gives (record { sum = sum; carry = next })) >>= after_plane xs ys front) m2 (λ both m3.
    then-then (one (Xor u y)) _ (give_after front) m3
    ∙ then_same (one (Xor u y)) _ (λ sum. (one (Xor both carry) >>= λ next. gives (record { sum = sum; carry = next })) >>= after_plane xs ys front) m3 (λ sum m4.
    then-then (one (Xor both carry)) _ (give_after front) m4
    ∙ then_same (one (Xor both carry)) _ (λ next. gives (record { sum = sum; carry = next }) >>= after_plane xs ys front) m4 (λ next m5.
    then-then (sum_gates next xs ys) _ (give_after front) m5
    ∙ then_same (sum_gates next xs ys) _ (give_after (front ++ sum ∷ [])) m5 (λ rest m6.
    gives-then (sum ∷ rest) (give_after front) m6 ∙ ap (λ (zs : List ℕ). gives zs m6) (sym (append_assoc front (sum ∷ []) rest)))
    ∙ sym (gives-then (record { sum = sum; carry = next }) (after_plane xs ys front) m5))
    ∙ sym (then-then (one (Xor both carry)) (λ next. gives (record { sum = sum; carry = next })) (after_plane xs ys front) m4))
    ∙ sym (then-then (one (Xor u y)) (λ sum. one (Xor both carry) >>= λ next. gives (record { sum = sum; carry = next })) (after_plane xs ys front) m3))
    ∙ sym (then-then (one (And u v)) (λ both. one (Xor u y) >>= λ sum. one (Xor both carry) >>= λ next. gives (record { sum = sum; carry = next })) (after_plane xs ys front) m2))
    ∙ sym (then-then (one (Xor y carry)) (λ v. one (And u v) >>= λ both. one (Xor u y) >>= λ sum. one (Xor both carry) >>= λ next. gives (record { sum = sum; carry = next })) (after_plane xs ys front) m1))
    ∙ sym (then-then (one (Xor x carry)) (λ u. one (Xor y carry) >>= λ v. one (And u v) >>= λ both. one (Xor u y) >>= λ sum. one (Xor both carry) >>= λ next. gives (record { sum = sum; carry = next })) (after_plane xs ys front) n)

pub sum_begin : (made : Made) (carry : ℕ) (xs ys planes : List ℕ) → planes ≡ [] → Along made (sum_gates carry xs ys) made (sum_gates carry xs ys >>= give_after planes)
sum_begin made carry xs ys planes e =
    subst (λ (ps : List ℕ). Along made (sum_gates carry xs ys) made (sum_gates carry xs ys >>= give_after ps)) (sym e)
    (along_as made made _ (sum_gates carry xs ys) _ (λ n. sym (then-gives (sum_gates carry xs ys) n)) (along_begin made (sum_gates carry xs ys)))

module _ (old now : Made) (total : Making (List ℕ)) (carry x y : ℕ) (xs ys us vs front : List ℕ) (e : us ≡ x ∷ xs) (f : vs ≡ y ∷ ys) (a : Along old total now (sum_gates carry us vs >>= give_after front)) where
  sum_begun : Along old total now (sum_plane_gates carry x y >>= after_plane xs ys front)
  sum_begun = along_as old now total _ _ (λ n. sum_opened carry x y n xs ys front)
      (subst (λ (zs : List ℕ). Along old total now (sum_gates carry (x ∷ xs) zs >>= give_after front)) f (subst (λ (zs : List ℕ). Along old total now (sum_gates carry zs vs >>= give_after front)) e a))

  pub sum_stops : (new : Made) (err : BuildErr) → Stops now new (sum_plane_gates carry x y (length now.gates)) err → Stops old new (total (length old.gates)) err
  sum_stops new err s = along_stops old now new total _ (after_plane xs ys front) err sum_begun s

  pub sum_next : (new : Made) (plane : SumPlane) (planes : List ℕ) → Makes now new (sum_plane_gates carry x y (length now.gates)) plane → planes ≡ front ++ plane.sum ∷ []
      → Along old total new (sum_gates plane.carry xs ys >>= give_after planes)
  sum_next new plane planes m g =
      subst (λ (ps : List ℕ). Along old total new (sum_gates plane.carry xs ys >>= give_after ps)) (sym g) (along_next old now new total _ (after_plane xs ys front) plane sum_begun m)

pub sum_end : (old now : Made) (total : Making (List ℕ)) (carry : ℕ) (us vs front planes : List ℕ) → us ≡ [] → planes ≡ front ++ carry ∷ [] → Along old total now (sum_gates carry us vs >>= give_after front) → Makes old now (total (length old.gates)) planes
sum_end old now total carry us vs front planes e g a =
    subst (λ (ps : List ℕ). Makes old now (total (length old.gates)) ps) (sym g)
    (along_end old now total (front ++ carry ∷ []) (along_as old now total _ _ (λ n. ap (λ (zs : List ℕ). (sum_gates carry zs vs >>= give_after front) n) e ∙ gives-then (carry ∷ []) (give_after front) n) a))

pub there_none : (n : ℕ) (xs : List ℕ) → xs ≡ [] → All (λ g. g < n) xs
there_none n xs e = subst (λ (zs : List ℕ). All (λ g. g < n) zs) (sym e) (λ k d h. absurd (omega arith))

-- ---- a number as constants
pub literal_grow : (number k : ℕ) (xs ys : List ℕ) → ys ≡ xs ++ bit_and (number / 2 ^ k) 1 ∷ [] → xs ≡ map (bit_at number) (range_with_len 0 k) → ys ≡ map (bit_at number) (range_with_len 0 (k + 1))
literal_grow number k xs ys e h =
    e ∙ ap (λ (zs : List ℕ). zs ++ bit_and (number / 2 ^ k) 1 ∷ []) h
    ∙ ap (λ (b : ℕ). map (bit_at number) (range_with_len 0 k) ++ b ∷ []) (shr_and_one number k)
    ∙ sym (map-range_with_len_more (bit_at number) 0 k k (omega arith))

pub literal_there : (width number n : ℕ) (xs : List ℕ) → xs ≡ literal_planes width number → 2 ≤ n → All (λ g. g < n) xs
literal_there width number n xs e h = subst (λ (zs : List ℕ). All (λ g. g < n) zs) (sym e)
    (λ k d l.
    let within : k < width = omega (arith, length-map-range_with_len (bit_at number) 0 width) in
    omega (arith, get_or-map-range_with_len (bit_at number) 0 width k k d within (omega arith), bit_at-lt number k))
