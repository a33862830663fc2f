-- Lists of tokens, and their text, one by one.
use Rattle.std.proofs.Common.{◌≡◌, ℕ, suc, List, [], ◌∷◌, ◌++◌, ◌+◌, ◌<◌, ◌≤◌, length, get_or, take, drop, refl, sym, ap, ◌∙◌, append_assoc, arith, add-one, drop-cons}
use Rattle.std.proofs.lemmas.List.{append-nil, take_more, nil_from_length, length-drop}
use Rattle.pdn_sql.specs.declared.token.Token.{Token}
use Rattle.pdn_sql.specs.Printing.{each, token_text, gap, text_behind}

pub each_more : {A : Type 0} (f : A → List Token) (xs ys : List A) → each f (xs ++ ys) ≡ each f xs ++ each f ys
each_more f [] ys = refl
each_more f (x ∷ xs) ys = ap (λ (ts : List Token). f x ++ ts) (each_more f xs ys) ∙ sym (append_assoc (f x) (each f xs) (each f ys))

-- a loop's step
pub each_step : {A : Type 0} (f : A → List Token) (xs : List A) (i : ℕ) (x : A) (before old new : List Token) → i < length xs → x ≡ get_or xs i x → old ≡ before ++ each f (take i xs) → new ≡ old ++ f x → new ≡ before ++ each f (take (i + 1) xs)
each_step f xs i x before old new lt is so_far added =
    let one : take (i + 1) xs ≡ take i xs ++ x ∷ [] = take_more xs i x lt ∙ ap (λ (d : _). take i xs ++ d ∷ []) (sym is) in
    let more : each f (take i xs ++ x ∷ []) ≡ each f (take i xs) ++ f x = each_more f (take i xs) (x ∷ []) ∙ ap (λ (ts : List Token). each f (take i xs) ++ ts) (append-nil (f x)) in
    added ∙ ap (λ (ts : List Token). ts ++ f x) so_far ∙ append_assoc before (each f (take i xs)) (f x) ∙ ap (λ (ts : List Token). before ++ ts) (sym more ∙ ap (each f) (sym one))

pub put_two : (old mid new front back : List Token) → mid ≡ old ++ front → new ≡ mid ++ back → new ≡ old ++ (front ++ back)
put_two old mid new front back a b = b ∙ ap (λ (ts : List Token). ts ++ back) a ∙ append_assoc old front back

behind_is : (a b : Token) (ts : List Token) → text_behind a (b ∷ ts) ≡ (gap a b ++ token_text b) ++ text_behind b ts
unfolding text_behind
behind_is a b ts = refl

pub behind_none : (a : Token) → text_behind a [] ≡ []
unfolding text_behind
behind_none a = refl

pub behind_step : (ts : List Token) (i : ℕ) (last x : Token) (old new total : List ℕ) → i < length ts → x ≡ get_or ts i x → old ++ text_behind last (drop i ts) ≡ total → new ≡ old ++ (gap last x ++ token_text x) → new ++ text_behind x (drop (i + 1) ts) ≡ total
behind_step ts i last x old new total lt is so_far added =
    let cell : drop i ts ≡ x ∷ drop (i + 1) ts = drop-cons ts i x lt ∙ ap (λ (t : Token). t ∷ drop (suc i) ts) (sym is) ∙ ap (λ (n : ℕ). x ∷ drop n ts) (sym (add-one i)) in
    let here : text_behind last (drop i ts) ≡ (gap last x ++ token_text x) ++ text_behind x (drop (i + 1) ts) = ap (text_behind last) cell ∙ behind_is last x (drop (i + 1) ts) in
    ap (λ (t : List ℕ). t ++ text_behind x (drop (i + 1) ts)) added
    ∙ append_assoc old (gap last x ++ token_text x) (text_behind x (drop (i + 1) ts))
    ∙ ap (λ (t : List ℕ). old ++ t) (sym here) ∙ so_far

pub behind_done : (ts : List Token) (i : ℕ) (last : Token) (old total : List ℕ) → length ts ≤ i → old ++ text_behind last (drop i ts) ≡ total → old ≡ total
behind_done ts i last old total le so_far =
    let nothing : drop i ts ≡ [] = nil_from_length (drop i ts) (omega (arith, length-drop i ts)) in
    sym (append-nil old) ∙ ap (λ (t : List ℕ). old ++ t) (sym (ap (text_behind last) nothing ∙ behind_none last)) ∙ so_far
