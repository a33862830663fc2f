-- Lists that are read and written four elements at a time, and joined element by element.
use Rattle.std.proofs.Common.{◌≡◌, ℕ, zero, suc, ◌+◌, ◌<◌, ◌≤◌, List, [], ◌∷◌, ◌++◌, length, take, drop, get_or, set, refl, sym, ap, ◌∙◌, arith}
use lib.Lanes.{zip2, put_chunk}
use Rattle.std.proofs.lemmas.Simd.{take_more_put_chunk, length-zip2, length-chunk, get_or-zip2}
use Rattle.std.proofs.lemmas.List.{take_more_set}
use Rattle.std.proofs.Math.Seq.{take-add}
use native.Mathlib.Numerals.{unary_clauses}
use Rattle.pdn_base.specs.Words.{◌⊕◌, ◌⊗◌, xor_lists, and_lists}

module _ {A : Type 0} where
  -- four elements from a place on
  pub four_at : (xs : List A) (at : ℕ) (d : A) → at + 4 ≤ length xs
      → get_or xs at d ∷ get_or xs (at + 1) d ∷ get_or xs (at + 2) d ∷ get_or xs (at + 3) d ∷ [] ≡ take 4 (drop at xs)
  four_at [] at d h = absurd (omega arith)
  four_at (x ∷ []) zero d h = absurd (omega arith)
  four_at (x ∷ y ∷ []) zero d h = absurd (omega arith)
  four_at (x ∷ y ∷ z ∷ []) zero d h = absurd (omega arith)
  four_at (x ∷ y ∷ z ∷ u ∷ xs) zero d h = refl
  four_at (x ∷ xs) (suc at) d h = let e = four_at xs at d (omega arith) in simp unary_clauses (simp unary_clauses at e)

  put_nothing : (xs : List A) → put_chunk 0 xs [] ≡ xs
  put_nothing [] = refl
  put_nothing (x ∷ xs) = refl

  -- four elements written one by one
  pub four_put : (xs ys : List A) (at : ℕ) (d : A) → at + 4 ≤ length xs → length ys ≡ 4
      → set (set (set (set xs at (get_or ys 0 d)) (at + 1) (get_or ys 1 d)) (at + 2) (get_or ys 2 d)) (at + 3) (get_or ys 3 d) ≡ put_chunk at xs ys
  four_put xs [] at d h e = absurd (omega arith)
  four_put xs (a ∷ []) at d h e = absurd (omega arith)
  four_put xs (a ∷ b ∷ []) at d h e = absurd (omega arith)
  four_put xs (a ∷ b ∷ c ∷ []) at d h e = absurd (omega arith)
  four_put xs (a ∷ b ∷ c ∷ e ∷ f ∷ ys) at d h n = absurd (omega arith)
  four_put [] (a ∷ b ∷ c ∷ e ∷ []) at d h n = absurd (omega arith)
  four_put (x ∷ []) (a ∷ b ∷ c ∷ e ∷ []) zero d h n = absurd (omega arith)
  four_put (x ∷ y ∷ []) (a ∷ b ∷ c ∷ e ∷ []) zero d h n = absurd (omega arith)
  four_put (x ∷ y ∷ z ∷ []) (a ∷ b ∷ c ∷ e ∷ []) zero d h n = absurd (omega arith)
  four_put (x ∷ y ∷ z ∷ u ∷ xs) (a ∷ b ∷ c ∷ e ∷ []) zero d h n = ap (λ l. a ∷ b ∷ c ∷ e ∷ l) (sym (put_nothing xs))
  four_put (x ∷ xs) (a ∷ b ∷ c ∷ e ∷ []) (suc at) d h n = let is = ap (λ l. x ∷ l) (four_put xs (a ∷ b ∷ c ∷ e ∷ []) at d (omega arith) refl) in simp unary_clauses (simp unary_clauses at is)

module _ {A B C : Type 0} (f : A → B → C) where
  take_zip2 : (n : ℕ) (xs : List A) (ys : List B) → take n (zip2 f xs ys) ≡ zip2 f (take n xs) (take n ys)
  take_zip2 zero xs ys = refl
  take_zip2 (suc n) [] ys = refl
  take_zip2 (suc n) (x ∷ xs) [] = refl
  take_zip2 (suc n) (x ∷ xs) (y ∷ ys) = ap (λ l. f x y ∷ l) (take_zip2 n xs ys)

  drop_zip2 : (n : ℕ) (xs : List A) (ys : List B) → length xs ≡ length ys → drop n (zip2 f xs ys) ≡ zip2 f (drop n xs) (drop n ys)
  drop_zip2 zero xs ys e = refl
  drop_zip2 (suc n) [] [] e = refl
  drop_zip2 (suc n) [] (y ∷ ys) e = absurd (omega arith)
  drop_zip2 (suc n) (x ∷ xs) [] e = absurd (omega arith)
  drop_zip2 (suc n) (x ∷ xs) (y ∷ ys) e = drop_zip2 n xs ys (omega arith)

  pub chunk-zip2 : (i : ℕ) (xs : List A) (ys : List B) → length xs ≡ length ys
      → take 4 (drop i (zip2 f xs ys)) ≡ zip2 f (take 4 (drop i xs)) (take 4 (drop i ys))
  chunk-zip2 i xs ys e = ap (λ l. take 4 l) (drop_zip2 i xs ys e) ∙ take_zip2 4 (drop i xs) (drop i ys)

module _ {C : Type 0} where
  pub take_all : (l : List C) (n : ℕ) → length l ≤ n → take n l ≡ l
  take_all [] zero h = refl
  take_all [] (suc n) h = refl
  take_all (x ∷ l) zero h = absurd (omega arith)
  take_all (x ∷ l) (suc n) h = ap (λ k. x ∷ k) (take_all l n (omega arith))

  -- one more element of the wanted list stands
  pub next_place : (l : List C) (i : ℕ) (x d : C) (m : List C) → i < length l → length m ≡ length l
      → take i l ≡ take i m → get_or m i d ≡ x → take (i + 1) (set l i x) ≡ take (i + 1) m
  next_place l i x d m h same e at =
      take_more_set l i x h ∙ ap (λ k. k ++ x ∷ []) e ∙ sym (take-add i 1 m ∙ ap (λ k. take i m ++ k) (one i m (omega arith) at))
    where
      one : (i : ℕ) (m : List C) → i < length m → get_or m i d ≡ x → take 1 (drop i m) ≡ x ∷ []
      one zero [] h at = absurd (omega arith)
      one zero (y ∷ ys) h at = ap (λ z. z ∷ []) at
      one (suc i) [] h at = absurd (omega arith)
      one (suc i) (y ∷ ys) h at = one i ys (omega arith) at

  -- four more elements of the wanted list stand
  pub next_chunk : (i : ℕ) (out zs m : List C) → i + 4 ≤ length out → length zs ≡ 4 → take i out ≡ take i m
      → zs ≡ take 4 (drop i m) → take (i + 4) (put_chunk i out zs) ≡ take (i + 4) m
  next_chunk i out zs m r n e at =
      take_more_put_chunk i out zs (i + 4) (omega arith) r
      ∙ ap (λ k. k ++ zs) e
      ∙ ap (λ k. take i m ++ k) at
      ∙ sym (take-add i 4 m)

pub xor_lists-is : (xs ys : List ℕ) → xor_lists xs ys ≡ zip2 ◌⊕◌ xs ys
xor_lists-is [] ys = refl
xor_lists-is (x ∷ xs) [] = refl
xor_lists-is (x ∷ xs) (y ∷ ys) = ap (λ l. (x ⊕ y) ∷ l) (xor_lists-is xs ys)

pub and_lists-is : (xs ys : List ℕ) → and_lists xs ys ≡ zip2 ◌⊗◌ xs ys
and_lists-is [] ys = refl
and_lists-is (x ∷ xs) [] = refl
and_lists-is (x ∷ xs) (y ∷ ys) = ap (λ l. (x ⊗ y) ∷ l) (and_lists-is xs ys)

-- a wanted list of two joined ones: its next four elements, and its next one
module _ {A B C : Type 0} (f : A → B → C) (out : List C) (xs : List A) (ys : List B) (i : ℕ) (p : length xs ≡ length out) (q : length ys ≡ length out) where
  pub chunk_stands : (zs : List C) → i + 4 ≤ length out → zs ≡ zip2 f (take 4 (drop i xs)) (take 4 (drop i ys)) → take i out ≡ take i (zip2 f xs ys)
      → take (i + 4) (put_chunk i out zs) ≡ take (i + 4) (zip2 f xs ys)
  chunk_stands zs h is e =
      let four : length (take 4 (drop i xs)) ≡ 4 = length-chunk i 4 xs (omega arith) in
      let same : length (take 4 (drop i ys)) ≡ 4 = length-chunk i 4 ys (omega arith) in
      next_chunk i out zs (zip2 f xs ys) h (ap (λ l. length l) is ∙ length-zip2 f _ _ (four ∙ sym same) ∙ four) e (is ∙ sym (chunk-zip2 f i xs ys (p ∙ sym q)))

  pub place_stands : (x : C) (d : A) (e : B) (z : C) → i < length out → x ≡ f (get_or xs i d) (get_or ys i e) → take i out ≡ take i (zip2 f xs ys)
      → take (i + 1) (set out i x) ≡ take (i + 1) (zip2 f xs ys)
  place_stands x d e z h is same =
      next_place out i x z (zip2 f xs ys) h (length-zip2 f xs ys (p ∙ sym q) ∙ p) same (get_or-zip2 f xs ys i d e z (omega arith) (omega arith) ∙ sym is)

  pub all_stand : length out ≤ i → take i out ≡ take i (zip2 f xs ys) → out ≡ zip2 f xs ys
  all_stand h e =
      let long = length-zip2 f xs ys (p ∙ sym q) in
      sym (take_all out i h) ∙ e ∙ take_all (zip2 f xs ys) i (omega arith)
