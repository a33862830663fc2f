-- A loop that cuts a text.
use Rattle.std.proofs.Common.{◌≡◌, ℕ, zero, suc, ◌+◌, ◌-◌, ◌≤◌, ◌<◌, List, [], ◌∷◌, ◌++◌, length, drop, take, Option, Some, None, refl, sym, ap, ◌∙◌, append_assoc, arith, add-one, drop-cons}
use Rattle.std.proofs.lemmas.Grind.{common_steps}
use Rattle.std.proofs.lemmas.List.{append-nil, nil_from_length, length-drop}
use Rattle.pdn_schema.specs.Cut.{Piece, kept, cut_from}

-- at a byte that belongs to the piece before
pub cut_pass : {X : Type 0} (piece : List ℕ → Piece X) (bytes : List ℕ) (i left : ℕ) → i < length bytes → 0 < left → cut_from piece left (drop i bytes) ≡ cut_from piece (left - 1) (drop (i + 1) bytes)
unfolding cut_from
cut_pass piece bytes i zero lt more = absurd (omega arith)
cut_pass piece bytes i (suc left) lt more =
    let k : suc left - 1 ≡ left = omega arith in
    rw (drop-cons bytes i 0 lt, k) (ap (λ (n : ℕ). cut_from piece left (drop n bytes)) (sym (add-one i)))

take_front : {X : Type 0} (piece : List ℕ → Piece X) (x : ℕ) (bs : List ℕ) → cut_from piece 0 (x ∷ bs) ≡ kept (piece (x ∷ bs)).gives (cut_from piece (piece (x ∷ bs)).more bs)
unfolding cut_from
take_front piece x bs = refl

-- at the first byte of a piece
pub cut_take : {X : Type 0} (piece : List ℕ → Piece X) (bytes : List ℕ) (i : ℕ) → i < length bytes → cut_from piece 0 (drop i bytes) ≡ kept (piece (drop i bytes)).gives (cut_from piece (piece (drop i bytes)).more (drop (i + 1) bytes))
cut_take piece bytes i lt =
    let next : drop (i + 1) bytes ≡ drop (suc i) bytes = ap (λ (n : ℕ). drop n bytes) (add-one i) in
    rw (next, drop-cons bytes i 0 lt) (take_front piece _ (drop (suc i) bytes))

cut_nothing : {X : Type 0} (piece : List ℕ → Piece X) (left : ℕ) → cut_from piece left [] ≡ []
unfolding cut_from
cut_nothing piece zero = refl
cut_nothing piece (suc left) = refl

pub cut_end : {X : Type 0} (piece : List ℕ → Piece X) (left i : ℕ) (bytes : List ℕ) → length bytes ≤ i → cut_from piece left (drop i bytes) ≡ []
cut_end piece left i bytes le =
    let nothing : drop i bytes ≡ [] = nil_from_length (drop i bytes) (omega (arith, length-drop i bytes)) in
    rw nothing (cut_nothing piece left)

-- a slice from i on
pub tail_is : (i : ℕ) (bytes : List ℕ) → take (length bytes - i) (drop i bytes) ≡ drop i bytes
tail_is i bytes = grind (arith, common_steps)

kept_front : {X : Type 0} (o : Option X) (xs : List X) → kept o [] ++ xs ≡ kept o xs
kept_front None xs = refl
kept_front (Some x) xs = refl

-- the loop's steps: a byte that is passed, a piece that gives nothing, one that gives something, and the end
pub loop_pass : {X : Type 0} (piece : List ℕ → Piece X) (bytes : List ℕ) (i left : ℕ) (out total : List X) → i < length bytes → 0 < left
    → out ++ cut_from piece left (drop i bytes) ≡ total → out ++ cut_from piece (left - 1) (drop (i + 1) bytes) ≡ total
loop_pass piece bytes i left out total lt more so_far = rw (← cut_pass piece bytes i left lt more) so_far

pub loop_piece : {X : Type 0} (piece : List ℕ → Piece X) (bytes : List ℕ) (i left : ℕ) (out more : List X) (p : Piece X) (total : List X) → i < length bytes → left ≤ 0 → piece (drop i bytes) ≡ p → more ≡ out ++ kept p.gives []
    → out ++ cut_from piece left (drop i bytes) ≡ total → more ++ cut_from piece p.more (drop (i + 1) bytes) ≡ total
loop_piece piece bytes i left out more p total lt none is added so_far =
    let zero_left : left ≡ 0 = omega arith in
    let here : cut_from piece 0 (drop i bytes) ≡ kept p.gives (cut_from piece p.more (drop (i + 1) bytes)) = rw (cut_take piece bytes i lt, is) refl in
    let there : out ++ kept p.gives (cut_from piece p.more (drop (i + 1) bytes)) ≡ total = rw (← here, ← zero_left) so_far in
    rw (added, append_assoc out (kept p.gives []) (cut_from piece p.more (drop (i + 1) bytes))) (ap (λ (xs : List _). out ++ xs) (kept_front p.gives (cut_from piece p.more (drop (i + 1) bytes))) ∙ there)

pub loop_end : {X : Type 0} (piece : List ℕ → Piece X) (bytes : List ℕ) (i left : ℕ) (out total : List X) → length bytes ≤ i → out ++ cut_from piece left (drop i bytes) ≡ total → out ≡ total
loop_end piece bytes i left out total le so_far = sym (append-nil out) ∙ ap (λ (xs : List _). out ++ xs) (sym (cut_end piece left i bytes le)) ∙ so_far
