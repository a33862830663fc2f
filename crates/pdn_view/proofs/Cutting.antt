-- Texts that are cut, and their words one by one.
use Rattle.std.proofs.Common.{◌≡◌, ◌<◌, ℕ, zero, suc, ◌+◌, ◌-◌, true, List, [], ◌∷◌, ◌++◌, take, drop, length, get_or, Option, Some, None, refl, sym, ap, ◌∙◌, append_assoc, arith}
use Rattle.std.proofs.lemmas.List.{take-append-drop, take_rest, drop-drop}
use Rattle.std.proofs.lemmas.List.Splits.{length-slice_split}
use Rattle.pdn_base.specs.declared.value.Value.{Value}
use Rattle.pdn_view.specs.Guesses.{is_blank, mapped, both, words, value_in, values_in}
use Rattle.pdn_view.specs.Cuts.{without, IsCut}
use Rattle.pdn_view.proofs.Splits.{split_at, split_none}

drop_first : (xs : List ℕ) (i : ℕ) → i < length xs → drop i xs ≡ get_or xs i 0 ∷ drop (suc i) xs
drop_first [] i h = absurd (omega arith)
drop_first (x ∷ xs) zero h = refl
drop_first (x ∷ xs) (suc i) h = drop_first xs i (omega arith)

pub cut_here : (text : List ℕ) (i byte : ℕ) → i < length text → get_or text i 0 ≡ byte → text ≡ take i text ++ byte ∷ take (length text - (i + 1)) (drop (i + 1) text)
cut_here text i byte lt is =
    let next : suc i ≡ i + 1 = omega arith in
    sym (take-append-drop i text) ∙ ap (λ (t : List ℕ). take i text ++ t)
    (drop_first text i lt ∙ ap (λ (b : ℕ). b ∷ drop (suc i) text) is ∙ ap (λ (k : ℕ). byte ∷ drop k text) next ∙ ap (λ (t : List ℕ). byte ∷ t) (sym (take_rest text (i + 1))))

pub cut_is : (byte : ℕ) (text : List ℕ) (i : ℕ) → i < length text → get_or text i 0 ≡ byte → without byte (take i text) ≡ true
    → IsCut byte text (take i text) (take (length text - (i + 1)) (drop (i + 1) text))
cut_is byte text i lt is front = record { parts = cut_here text i byte lt is; without = front }

-- the first word of a text
pub word_cut : (text front rest : List ℕ) → IsCut 32 text front rest → words text ≡ front ∷ words rest
word_cut text front rest h = ap words h.parts ∙ split_at 32 front rest h.without

pub word_alone : (text : List ℕ) → without 32 text ≡ true → words text ≡ text ∷ []
word_alone text h = split_none 32 text h

pub front_cut : (text front rest : List ℕ) → IsCut 32 text front rest → front ≡ get_or (words text) 0 []
front_cut text front rest h = ap (λ (ws : List (List ℕ)). get_or ws 0 []) (sym (word_cut text front rest h))

pub front_alone : (text : List ℕ) → without 32 text ≡ true → text ≡ get_or (words text) 0 []
front_alone text h = ap (λ (ws : List (List ℕ)). get_or ws 0 []) (sym (word_alone text h))

pub rest_cut : (text front rest : List ℕ) → IsCut 32 text front rest → words rest ≡ drop 1 (words text)
rest_cut text front rest h = ap (λ (ws : List (List ℕ)). drop 1 ws) (sym (word_cut text front rest h))

pub rest_alone : (text : List ℕ) → without 32 text ≡ true → [] ≡ drop 1 (words text)
rest_alone text h = ap (λ (ws : List (List ℕ)). drop 1 ws) (sym (word_alone text h))

-- ---- the words that are left

pub next_drop : (xs : List (List ℕ)) (i : ℕ) (left next : List (List ℕ)) → left ≡ drop i xs → next ≡ drop 1 left → next ≡ drop (i + 1) xs
next_drop xs i left next is one = one ∙ ap (drop 1) is ∙ drop-drop 1 i xs

get_first : (xs : List (List ℕ)) (i : ℕ) → get_or xs i [] ≡ get_or (drop i xs) 0 []
get_first [] zero = refl
get_first [] (suc i) = refl
get_first (x ∷ xs) zero = refl
get_first (x ∷ xs) (suc i) = get_first xs i

-- the word at a place is the first of those that are left
pub word_there : (xs left : List (List ℕ)) (i : ℕ) (w : List ℕ) → left ≡ drop i xs → w ≡ get_or left 0 [] → w ≡ get_or xs i []
word_there xs left i w is first = first ∙ ap (λ (ws : List (List ℕ)). get_or ws 0 []) is ∙ sym (get_first xs i)

-- ---- values

abbrev pub behind_values : List Value → Option (List Value) → Option (List Value)
behind_values front None = None
behind_values front (Some values) = Some (front ++ values)

-- there is a first word
some_words : (text : List ℕ) → 0 < length (words text)
some_words text = omega (arith, length-slice_split is_blank text)

first_and_rest : (ws : List (List ℕ)) → 0 < length ws → ws ≡ get_or ws 0 [] ∷ drop 1 ws
first_and_rest [] h = absurd (omega arith)
first_and_rest (w ∷ ws) h = refl

pub fewer_words : (text : List ℕ) (left : List (List ℕ)) → left ≡ drop 1 (words text) → length left < length (words text)
fewer_words text left is =
    let cut : length (words text) ≡ suc (length (drop 1 (words text))) = ap length (first_and_rest (words text) (some_words text)) in
    omega (arith, cut, ap length is)

value_moves : (front : List Value) (v : Value) (o : Option (List Value)) → behind_values front (mapped (λ vs. v ∷ vs) o) ≡ behind_values (front ++ v ∷ []) o
value_moves front v None = refl
value_moves front v (Some vs) = ap Some (sym (append_assoc front (v ∷ []) vs))

pub value_stops : (front : List Value) (text w : List ℕ) (total : Option (List Value)) → w ≡ get_or (words text) 0 [] → value_in w ≡ None
    → total ≡ behind_values front (values_in (words text)) → total ≡ None
value_stops front text w total first is so_far =
    let ws : words text ≡ w ∷ drop 1 (words text) = first_and_rest (words text) (some_words text) ∙ rw first refl in
    so_far ∙ ap (λ (xs : List (List ℕ)). behind_values front (values_in xs)) ws ∙ ap (λ (o : Option Value). behind_values front (both (λ x xs. x ∷ xs) o (values_in (drop 1 (words text))))) is

pub value_next : (front : List Value) (text w : List ℕ) (v : Value) (left : List (List ℕ)) (total : Option (List Value)) → w ≡ get_or (words text) 0 [] → left ≡ drop 1 (words text) → value_in w ≡ Some v
    → total ≡ behind_values front (values_in (words text)) → total ≡ behind_values (front ++ v ∷ []) (values_in left)
value_next front text w v left total first rest is so_far =
    let ws : words text ≡ w ∷ left = first_and_rest (words text) (some_words text) ∙ rw (first, rest) refl in
    so_far ∙ ap (λ (xs : List (List ℕ)). behind_values front (values_in xs)) ws ∙ ap (λ (o : Option Value). behind_values front (both (λ x xs. x ∷ xs) o (values_in left))) is ∙ value_moves front v (values_in left)
