-- Numbers and runs of bytes.
use Rattle.std.proofs.Common.{◌≡◌, ℕ, zero, suc, ◌+◌, ◌-◌, ◌*◌, ◌≤◌, ◌<◌, List, [], ◌∷◌, ◌++◌, length, drop, refl, sym, ap, ◌∙◌, arith, add-one, drop-cons, take, Bool, true, get_or, ltb, false, ◌^◌}
use Rattle.std.proofs.lemmas.Grind.{common_steps}
use Rattle.std.proofs.lemmas.Bool.{le-ltb, false≢true}
use Rattle.pdn_sql.specs.declared.lexer.Piece.{Piece}
use Rattle.pdn_sql.specs.declared.token.Token.TheVariants as tokens
use Rattle.std.proofs.lemmas.List.{append-nil, nil_from_length, length-drop}
use Rattle.pdn_sql.specs.declared.token.Placed.{Placed}
use Rattle.pdn_sql.specs.declared.seen.Seen.{Seen}
use Rattle.pdn_sql.specs.Marks.{unless, marked, cut, over}
use Rattle.pdn_sql.specs.Tokens.{value_from, number_token, put, tokens_from, piece_of}

pub value_grows : (n : ℕ) (bs : List ℕ) → n ≤ value_from n bs
value_grows n [] = omega arith
value_grows n (b ∷ bs) = omega (arith, value_grows (n * 10 + (b - 48)) bs)

-- at a byte that belongs to the piece before
pub tokens_pass : (bytes : List ℕ) (i left : ℕ) → i < length bytes → 0 < left → tokens_from left i (drop i bytes) ≡ tokens_from (left - 1) (i + 1) (drop (i + 1) bytes)
unfolding tokens_from
tokens_pass bytes i zero lt more = absurd (omega arith)
tokens_pass bytes i (suc left) lt more =
    let k : suc left - 1 ≡ left = omega arith in
    rw (drop-cons bytes i 0 lt, k) (ap (λ (n : ℕ). tokens_from left (i + 1) (drop n bytes)) (sym (add-one i)))

take_front : (i x : ℕ) (bs : List ℕ) → tokens_from 0 i (x ∷ bs) ≡ put (piece_of (x ∷ bs)).token i (tokens_from (piece_of (x ∷ bs)).more (i + 1) bs)
unfolding tokens_from
take_front i x bs = refl

-- at the first byte of a piece
pub tokens_take : (bytes : List ℕ) (i : ℕ) → i < length bytes → tokens_from 0 i (drop i bytes) ≡ put (piece_of (drop i bytes)).token i (tokens_from (piece_of (drop i bytes)).more (i + 1) (drop (i + 1) bytes))
tokens_take bytes i lt =
    let next : drop (i + 1) bytes ≡ drop (suc i) bytes = ap (λ (n : ℕ). drop n bytes) (add-one i) in
    rw (next, drop-cons bytes i 0 lt) (take_front i _ (drop (suc i) bytes))

pub tokens_end : (left place : ℕ) → tokens_from left place [] ≡ []
unfolding tokens_from
tokens_end zero place = refl
tokens_end (suc left) place = refl

-- a slice from i on
pub tail_is : (i : ℕ) (bytes : List ℕ) → take (length bytes - i) (drop i bytes) ≡ drop i bytes
tail_is i bytes = grind (arith, common_steps)

-- the loop's steps, on what is read, what is seen, and what is left
pub tokens_next : (bytes : List ℕ) (i left : ℕ) (out more : List Placed) (p : Piece) (s t : Seen) (over : Bool) (total : List Placed) → i < length bytes → left ≤ 0 → p ≡ piece_of (take (length bytes - i) (drop i bytes))
    → ((end : ℕ) (rest : List Placed) → more ++ unless over (marked end t rest) ≡ out ++ marked end s (put p.token i rest))
    → out ++ marked (length bytes) s (tokens_from left i (drop i bytes)) ≡ total → more ++ unless over (marked (length bytes) t (tokens_from p.more (i + 1) (drop (i + 1) bytes))) ≡ total
tokens_next bytes i left out more p s t over total lt none is added so_far =
    let zero_left : left ≡ 0 = omega arith in
    let piece : p ≡ piece_of (drop i bytes) = is ∙ ap piece_of (tail_is i bytes) in
    let here : tokens_from left i (drop i bytes) ≡ put p.token i (tokens_from p.more (i + 1) (drop (i + 1) bytes)) = rw (zero_left, piece) (tokens_take bytes i lt) in
    added (length bytes) (tokens_from p.more (i + 1) (drop (i + 1) bytes)) ∙ ap (λ (ts : List Placed). out ++ marked (length bytes) s ts) (sym here) ∙ so_far

pub tokens_cut : (more : List Placed) (ts total : List Placed) (over : Bool) → over ≡ true → more ++ unless over ts ≡ total → more ≡ total
tokens_cut more ts total true h e = sym (append-nil more) ∙ e
tokens_cut more ts total false h e = absurd (false≢true h)

pub tokens_done : (bytes : List ℕ) (i left : ℕ) (s : Seen) (out total : List Placed) → length bytes ≤ i → out ++ marked (length bytes) s (tokens_from left i (drop i bytes)) ≡ total → out ++ cut (over s.start (length bytes)) [] ≡ total
unfolding marked
tokens_done bytes i left s out total le so_far =
    let nothing : drop i bytes ≡ [] = nil_from_length (drop i bytes) (omega (arith, length-drop i bytes)) in
    let end : tokens_from left i (drop i bytes) ≡ [] = rw nothing (tokens_end left i) in
    ap (λ (ts : List Placed). out ++ marked (length bytes) s ts) (sym end) ∙ so_far

pub too_large : (ds : List ℕ) (i n d : ℕ) → i < length ds → value_from n (drop i ds) ≡ value_from 0 ds → d ≡ get_or ds i 0 - 48 → 4294967295 < n * 10 + d → tokens.Bad 2 ≡ number_token ds
unfolding number_token
too_large ds i n d lt so_far is over =
    let cell : drop i ds ≡ get_or ds i 0 ∷ drop (suc i) ds = drop-cons ds i 0 lt in
    let rest : value_from (n * 10 + (get_or ds i 0 - 48)) (drop (suc i) ds) ≡ value_from 0 ds = rw cell at so_far in
    let grows = value_grows (n * 10 + (get_or ds i 0 - 48)) (drop (suc i) ds) in
    let large : ltb (value_from 0 ds) (2 ^ 32) ≡ false = le-ltb _ _ (omega arith) in
    rw large refl
