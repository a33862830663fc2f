-- The units of a segment, when one site's values are used up.
use Rattle.std.proofs.Common.{◌≡◌, ◌≤◌, ◌⊎◌, inl, inr, ℕ, zero, suc, ◌-◌, List, [], ◌∷◌, ◌++◌, map, take, drop, length, refl, sym, ap, ◌∙◌, append_assoc, arith}
use Rattle.std.proofs.lemmas.List.{append-nil, take_rest}
use Rattle.pdn_base.specs.declared.value.Value.{Value}
use Rattle.pdn_base.specs.declared.site.Site.TheVariants.{A, B}
use Rattle.pdn_view.specs.declared.due.Due.{Due}
use Rattle.pdn_view.specs.declared.due.Due.TheVariants.{Plain}
use Rattle.pdn_view.specs.Views.{slices}

slices_none : (xs : List Value) → slices xs [] ≡ map (Plain A) xs
slices_none [] = refl
slices_none (x ∷ xs) = ap (λ (ds : List Due). Plain A x ∷ ds) (slices_none xs)

rest_is : (xs ys : List Value) → (xs ≡ []) ⊎ (ys ≡ []) → slices xs ys ≡ map (Plain A) xs ++ map (Plain B) ys
rest_is xs ys (inl none) = rw none refl
rest_is xs ys (inr none) = rw none (slices_none xs ∙ sym (append-nil (map (Plain A) xs)))

used_up : (xs : List Value) (i : ℕ) → length xs ≤ i → drop i xs ≡ []
used_up [] zero h = refl
used_up [] (suc i) h = refl
used_up (x ∷ xs) zero h = absurd (omega arith)
used_up (x ∷ xs) (suc i) h = used_up xs i (omega arith)

some_up : (a b : List Value) (i j : ℕ) → (length a ≤ i) ⊎ (length b ≤ j) → (drop i a ≡ []) ⊎ (drop j b ≡ [])
some_up a b i j (inl h) = inl (used_up a i h)
some_up a b i j (inr h) = inr (used_up b j h)

pub slices_end : (a b : List Value) (i j : ℕ) (before now mid new : List Due) → (length a ≤ i) ⊎ (length b ≤ j)
    → now ++ slices (drop i a) (drop j b) ≡ before ++ slices a b
    → mid ≡ now ++ map (Plain A) (take (length a - i) (drop i a)) → new ≡ mid ++ map (Plain B) (take (length b - j) (drop j b))
    → new ≡ before ++ slices a b
slices_end a b i j before now mid new done left first second =
    let rest : slices (drop i a) (drop j b) ≡ map (Plain A) (drop i a) ++ map (Plain B) (drop j b) = rest_is (drop i a) (drop j b) (some_up a b i j done) in
    second ∙ ap (λ (xs : List Value). mid ++ map (Plain B) xs) (take_rest b j)
    ∙ ap (λ (ds : List Due). ds ++ map (Plain B) (drop j b)) (first ∙ ap (λ (xs : List Value). now ++ map (Plain A) xs) (take_rest a i))
    ∙ append_assoc now (map (Plain A) (drop i a)) (map (Plain B) (drop j b)) ∙ ap (λ (ds : List Due). now ++ ds) (sym rest) ∙ left
