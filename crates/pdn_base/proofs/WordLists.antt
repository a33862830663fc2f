-- Lists of words, place by place.
use Rattle.std.proofs.Common.{◌≡◌, ℕ, zero, suc, List, [], ◌∷◌, ◌++◌, length, get_or, map, refl, ap, arith}
use Rattle.pdn_base.specs.Words.{◌⊕◌, xor_lists}
use Rattle.pdn_base.proofs.WordLaws.{mask_gone, covered, covered_rest, there_and_back}

pub length-xor_lists : (xs ys : List ℕ) → length ys ≡ length xs → length (xor_lists xs ys) ≡ length xs
length-xor_lists [] ys l = refl
length-xor_lists (x ∷ xs) [] l = absurd (omega arith)
length-xor_lists (x ∷ xs) (y ∷ ys) l = ap suc (length-xor_lists xs ys (omega arith))

pub get_or-xor_lists : (xs ys : List ℕ) → length ys ≡ length xs → (k : ℕ) → get_or (xor_lists xs ys) k 0 ≡ get_or xs k 0 ⊕ get_or ys k 0
get_or-xor_lists [] [] l k = refl
get_or-xor_lists [] (y ∷ ys) l k = absurd (omega arith)
get_or-xor_lists (x ∷ xs) [] l k = absurd (omega arith)
get_or-xor_lists (x ∷ xs) (y ∷ ys) l zero = refl
get_or-xor_lists (x ∷ xs) (y ∷ ys) l (suc k) = get_or-xor_lists xs ys (omega arith) k

pub xor_lists-append : (xs us ys vs : List ℕ) → length ys ≡ length xs → xor_lists (xs ++ us) (ys ++ vs) ≡ xor_lists xs ys ++ xor_lists us vs
xor_lists-append [] us [] vs l = refl
xor_lists-append [] us (y ∷ ys) vs l = absurd (omega arith)
xor_lists-append (x ∷ xs) us [] vs l = absurd (omega arith)
xor_lists-append (x ∷ xs) us (y ∷ ys) vs l = ap (λ (zs : List ℕ). (x ⊕ y) ∷ zs) (xor_lists-append xs us ys vs (omega arith))

pub xor_lists-map : {X : Type 0} (f g : X → ℕ) (zs : List X) → xor_lists (map f zs) (map g zs) ≡ map (λ z. f z ⊕ g z) zs
xor_lists-map f g [] = refl
xor_lists-map f g (z ∷ zs) = ap (λ (ns : List ℕ). (f z ⊕ g z) ∷ ns) (xor_lists-map f g zs)

-- a mask on both parts of a sum, or on neither
pub xor_masked : (xs ys ms : List ℕ) → length ys ≡ length xs → length ms ≡ length xs → xor_lists (xor_lists xs ms) (xor_lists ys ms) ≡ xor_lists xs ys
xor_masked [] ys ms l m = refl
xor_masked (x ∷ xs) [] ms l m = absurd (omega arith)
xor_masked (x ∷ xs) (y ∷ ys) [] l m = absurd (omega arith)
xor_masked (x ∷ xs) (y ∷ ys) (n ∷ ms) l m =
    rw (xor_masked xs ys ms (omega arith) (omega arith), mask_gone x y n) refl

-- masks that take up the difference of what they cover
pub masks_cover : (xs ys ms : List ℕ) → length ys ≡ length xs → length ms ≡ length xs → xor_lists xs ms ≡ xor_lists ys (xor_lists ms (xor_lists xs ys))
masks_cover [] [] ms l m = refl
masks_cover [] (y ∷ ys) ms l m = absurd (omega arith)
masks_cover (x ∷ xs) [] ms l m = absurd (omega arith)
masks_cover (x ∷ xs) (y ∷ ys) [] l m = absurd (omega arith)
masks_cover (x ∷ xs) (y ∷ ys) (n ∷ ms) l m = rw (← masks_cover xs ys ms (omega arith) (omega arith), covered x y n) refl

-- the same of the other part of the same sums
pub masks_cover_rest : (vs xs ys ms : List ℕ) → length xs ≡ length vs → length ys ≡ length vs → length ms ≡ length vs
    → xor_lists (xor_lists vs xs) ms ≡ xor_lists (xor_lists vs ys) (xor_lists ms (xor_lists xs ys))
masks_cover_rest [] xs ys ms k l m = refl
masks_cover_rest (v ∷ vs) [] ys ms k l m = absurd (omega arith)
masks_cover_rest (v ∷ vs) (x ∷ xs) [] ms k l m = absurd (omega arith)
masks_cover_rest (v ∷ vs) (x ∷ xs) (y ∷ ys) [] k l m = absurd (omega arith)
masks_cover_rest (v ∷ vs) (x ∷ xs) (y ∷ ys) (n ∷ ms) k l m =
    rw (← masks_cover_rest vs xs ys ms (omega arith) (omega arith) (omega arith), covered_rest v x y n) refl

pub masks_back : (xs ys ms : List ℕ) → length ys ≡ length xs → length ms ≡ length xs → xor_lists (xor_lists ms (xor_lists xs ys)) (xor_lists ys xs) ≡ ms
masks_back [] [] [] l m = refl
masks_back [] (y ∷ ys) ms l m = absurd (omega arith)
masks_back [] [] (n ∷ ms) l m = absurd (omega arith)
masks_back (x ∷ xs) [] ms l m = absurd (omega arith)
masks_back (x ∷ xs) (y ∷ ys) [] l m = absurd (omega arith)
masks_back (x ∷ xs) (y ∷ ys) (n ∷ ms) l m = rw (masks_back xs ys ms (omega arith) (omega arith), there_and_back n x y) refl
