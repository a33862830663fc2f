-- The steps of the loops that write words.
use Rattle.std.proofs.Common.{◌≡◌, ℕ, zero, suc, ◌+◌, ◌-◌, ◌*◌, ◌^◌, ◌<◌, ◌≤◌, List, [], ◌∷◌, ◌++◌, length, get_or, map, take, refl, sym, ap, ap₂, ◌∙◌, arith, append_assoc, append-nil, pow-suc}
use Rattle.std.specs.Prelude.{slice_index_or}
use Rattle.std.specs.List.{range_with_len, flat_map}
use Rattle.std.proofs.lemmas.List.{map-append, take_more, length-take-le}
use Rattle.std.proofs.lemmas.List.Concat.{flat_map-append}
use Rattle.pdn_base.specs.declared.marks.Kind.{Kind}
use Rattle.pdn_base.specs.declared.marks.Kind.TheVariants as kind
use Rattle.pdn_base.specs.declared.value.Value.{Value}
use Rattle.pdn_obl_rows.specs.Lists.{width_of, words_for, kind_at}
use Rattle.pdn_obl_rows.specs.Encoding.{word_of, plane_words, bit_lane, column_words, columns_words}

pub word_more : (f : ℕ → ℕ) (from count i bits b : ℕ) → i < count → bits ≡ word_of f (from + (count - i)) i → b ≡ f (from + (count - 1 - i)) → 2 * bits + b ≡ word_of f (from + (count - (i + 1))) (i + 1)
unfolding word_of
word_more f from count i bits b h e d =
    let at : from + (count - (i + 1)) ≡ from + (count - 1 - i) = omega arith in
    let more : from + (count - i) ≡ from + (count - 1 - i) + 1 = omega arith in
    let next : suc i ≡ i + 1 = omega arith in
    let here : 2 * bits + b ≡ word_of f (from + (count - 1 - i)) (suc i) = omega (arith, e ∙ ap (λ n. word_of f n i) more) in
    here ∙ ap₂ (word_of f) (sym at) next

pub range_more : (from count : ℕ) → range_with_len from (count + 1) ≡ range_with_len from count ++ (from + count) ∷ []
range_more from zero = ap (λ n. n ∷ []) (let e : from ≡ from + 0 = omega arith in e)
range_more from (suc count) =
    let e : suc count + 1 ≡ suc (count + 1) = omega arith in
    let f : from + 1 + count ≡ from + suc count = omega arith in
    ap (range_with_len from) e ∙ ap (λ (xs : List ℕ). from ∷ xs) (range_more (from + 1) count ∙ ap (λ n. range_with_len (from + 1) count ++ n ∷ []) f)

pub plane_more : {X : Type 0} (f : ℕ → X) (base old new : List X) (j : ℕ) (x : X) → old ≡ base ++ map f (range_with_len 0 j) → new ≡ old ++ x ∷ [] → x ≡ f j → new ≡ base ++ map f (range_with_len 0 (j + 1))
plane_more {X} f base old new j x e d is =
    let at : 0 + j ≡ j = omega arith in
    d ∙ ap₂ (λ (xs : List X) (n : X). xs ++ n ∷ []) e is ∙ append_assoc base (map f (range_with_len 0 j)) (f j ∷ [])
    ∙ ap (λ (xs : List X). base ++ xs) (sym (ap (map f) (range_more 0 j ∙ ap (λ n. range_with_len 0 j ++ n ∷ []) at) ∙ map-append f (range_with_len 0 j) (j ∷ [])))

pub column_more : (rows : List (List Value)) (len column bit : ℕ) (base old new : List ℕ) → old ≡ base ++ column_words rows len column bit → new ≡ old ++ plane_words (bit_lane rows column bit) len
    → new ≡ base ++ column_words rows len column (bit + 1)
column_more rows len column bit base old new e d =
    let f : ℕ → List ℕ = λ b. plane_words (bit_lane rows column b) len in
    let at : 0 + bit ≡ bit = omega arith in
    d ∙ ap (λ (xs : List ℕ). xs ++ f bit) e ∙ append_assoc base (column_words rows len column bit) (f bit)
    ∙ ap (λ (xs : List ℕ). base ++ xs) (sym (ap (flat_map f) (range_more 0 bit ∙ ap (λ n. range_with_len 0 bit ++ n ∷ []) at) ∙ flat_map-append f (range_with_len 0 bit) (bit ∷ [])
    ∙ ap (λ (xs : List ℕ). column_words rows len column bit ++ xs) (append-nil (f bit))))

columns_one : (rows : List (List Value)) (len column : ℕ) (ks : List Kind) (k : Kind) → columns_words rows len column (ks ++ k ∷ []) ≡ columns_words rows len column ks ++ column_words rows len (column + length ks) (width_of k)
columns_one rows len column [] k =
    let at : column ≡ column + 0 = omega arith in
    append-nil (column_words rows len column (width_of k)) ∙ ap (λ c. column_words rows len c (width_of k)) at
columns_one rows len column (j ∷ ks) k =
    let at : column + 1 + length ks ≡ column + suc (length ks) = omega arith in
    ap (λ (xs : List ℕ). column_words rows len column (width_of j) ++ xs) (columns_one rows len (column + 1) ks k ∙ ap (λ c. columns_words rows len (column + 1) ks ++ column_words rows len c (width_of k)) at)
    ∙ sym (append_assoc (column_words rows len column (width_of j)) (columns_words rows len (column + 1) ks) (column_words rows len (column + suc (length ks)) (width_of k)))

pub columns_more : (rows : List (List Value)) (len column : ℕ) (kinds : List Kind) (base old new : List ℕ) → column < length kinds
    → old ≡ base ++ columns_words rows len 0 (take column kinds) → new ≡ old ++ column_words rows len column (width_of (kind_at kinds column)) → new ≡ base ++ columns_words rows len 0 (take (column + 1) kinds)
columns_more rows len column kinds base old new h e d =
    let k : Kind = kind_at kinds column in
    let at : 0 + length (take column kinds) ≡ column = omega (arith, length-take-le column kinds (omega arith)) in
    d ∙ ap (λ (xs : List ℕ). xs ++ column_words rows len column (width_of k)) e ∙ append_assoc base (columns_words rows len 0 (take column kinds)) (column_words rows len column (width_of k))
    ∙ ap (λ (xs : List ℕ). base ++ xs) (sym (ap (columns_words rows len 0) (take_more kinds column kind.Int h) ∙ columns_one rows len 0 (take column kinds) k
    ∙ ap (λ c. columns_words rows len 0 (take column kinds) ++ column_words rows len c (width_of k)) at))

pub few_words : (len j : ℕ) → len < 2 ^ 32 → j < words_for len → 64 * j < 2 ^ 33
unfolding words_for
few_words len j h k = omega arith

pub double_small : (i bits b : ℕ) → bits < 2 ^ i → b < 2 → 2 * bits + b < 2 ^ (i + 1)
double_small i bits b h k =
    let e : i + 1 ≡ suc i = omega arith in
    omega (arith, pow-suc 2 i, ap (λ n. 2 ^ n) e)
