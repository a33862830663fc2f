-- Tokens that a text can have.
use Rattle.std.proofs.Common.{◌≡◌, ℕ, zero, suc, ◌+◌, ◌<◌, ◌≤◌, ◌^◌, Bool, true, false, ltb, List, [], ◌∷◌, ◌++◌, length, take, Option, Some, None, refl, sym, ap, subst, arith, add-one}
use Rattle.std.specs.Prelude.{◌&&◌, ◌==◌}
use Rattle.std.specs.Char.{to_ascii_lowercase}
use Rattle.std.specs.Str.{str_to_ascii_lowercase}
use Rattle.std.proofs.lemmas.Bool.{false≢true, ltb-true}
use Rattle.std.proofs.lemmas.Bool.Decides.{nat_tests}
use Rattle.pdn_base.specs.Codes.{is_code, code_number, IsCodeNumber}
use Rattle.pdn_base.proofs.CodeLaws.{code_number-IsCodeNumber}
use Rattle.pdn_sql.specs.declared.token.Placed.{Placed}
use Rattle.pdn_sql.specs.declared.token.Keyword.{Keyword}
use Rattle.pdn_sql.specs.Same.{bare}
use Rattle.pdn_sql.specs.declared.token.Token.{Token}
use Rattle.pdn_sql.specs.declared.token.Token.TheVariants.{Word, Number, Mark}
use Rattle.pdn_sql.specs.declared.token.Token.TheVariants as tokens
use Rattle.pdn_sql.specs.Tokens.{is_blank, is_digit, is_letter, is_word_byte, is_inside, is_pair, first, run, keyword_of, name_token, word_or, word_token, value_from, number_token, code_token, code_piece, mark_token, mark_piece, word_piece, number_piece, piece_of, put, tokens_from}

abbrev pub all_pass : (ℕ → Bool) → List ℕ → Bool
all_pass test [] = true
all_pass test (b ∷ bs) = test b && all_pass test bs

pub and_true : (x y : Bool) → x && y ≡ true → (x ≡ true) × (y ≡ true)
and_true true y e = (refl, e)
and_true false y e = absurd (false≢true e)

abbrev pub begins_word : List ℕ → Bool
begins_word [] = false
begins_word (b ∷ bs) = is_letter b && all_pass is_word_byte bs

pub record IsName (text : List ℕ) : Type 0 where
  pub word : begins_word text ≡ true
  pub small : str_to_ascii_lowercase text ≡ text
  pub is : word_token text ≡ tokens.Name text

abbrev pub IsGood : Token → Type 0
IsGood (Word k) = Unit {0}
IsGood (tokens.Name text) = IsName text
IsGood (Number n) = n < 2 ^ 32
IsGood (tokens.Code c) = IsCodeNumber c
IsGood (Mark m) = Unit {0}
IsGood (tokens.Bad kind) = ⊥

abbrev pub AllGood : List Token → Type 0
AllGood [] = Unit {0}
AllGood (t ∷ ts) = IsGood t × AllGood ts

pub good_parts : (a b : List Token) → AllGood (a ++ b) → AllGood a × AllGood b
good_parts [] b h = (tt, h)
good_parts (t ∷ a) b h =
    let r = good_parts a b h.1 in
    ((h.0, r.0), r.1)

pub good_whole : (a b : List Token) → AllGood a → AllGood b → AllGood (a ++ b)
good_whole [] b g h = h
good_whole (t ∷ a) b g h = (g.0, good_whole a b g.1 h)

-- no mark
abbrev pub NoBad : List Token → Type 0
NoBad [] = Unit {0}
NoBad (tokens.Bad kind ∷ ts) = ⊥
NoBad (t ∷ ts) = NoBad ts

pub fair_whole : (a b : List Token) → NoBad a → NoBad b → NoBad (a ++ b)
fair_whole [] b g h = h
fair_whole (tokens.Bad kind ∷ a) b g h = absurd g
fair_whole (Word k ∷ a) b g h = fair_whole a b g h
fair_whole (tokens.Name text ∷ a) b g h = fair_whole a b g h
fair_whole (Number n ∷ a) b g h = fair_whole a b g h
fair_whole (tokens.Code c ∷ a) b g h = fair_whole a b g h
fair_whole (Mark m ∷ a) b g h = fair_whole a b g h

-- ---- each token of a text is good or a mark

abbrev pub IsOk : Token → Type 0
IsOk (tokens.Bad kind) = Unit {0}
IsOk t = IsGood t

abbrev pub AllOk : List Placed → Type 0
AllOk [] = Unit {0}
AllOk (p ∷ ps) = IsOk p.token × AllOk ps

good_of : (t : Token) → IsOk t → NoBad (t ∷ []) → IsGood t
good_of (tokens.Bad kind) h fair = absurd fair
good_of (Word k) h fair = tt
good_of (tokens.Name text) h fair = h
good_of (Number n) h fair = h
good_of (tokens.Code c) h fair = h
good_of (Mark m) h fair = tt

pub fair_cons : (t : Token) (ts : List Token) → NoBad (t ∷ ts) → NoBad (t ∷ []) × NoBad ts
fair_cons (tokens.Bad kind) ts fair = absurd fair
fair_cons (Word k) ts fair = (tt, fair)
fair_cons (tokens.Name text) ts fair = (tt, fair)
fair_cons (Number n) ts fair = (tt, fair)
fair_cons (tokens.Code c) ts fair = (tt, fair)
fair_cons (Mark m) ts fair = (tt, fair)

pub good_from : (ps : List Placed) → AllOk ps → NoBad (bare ps) → AllGood (bare ps)
good_from [] h fair = tt
good_from (p ∷ ps) h fair =
    let f = fair_cons p.token (bare ps) fair in
    (good_of p.token h.0 f.0, good_from ps h.1 f.1)

abbrev OkOption : Option Token → Type 0
OkOption None = Unit {0}
OkOption (Some t) = IsOk t

-- ---- words

lower_byte : (b : ℕ) → to_ascii_lowercase (to_ascii_lowercase b) ≡ to_ascii_lowercase b
lower_byte b = grind (arith, nat_tests)

lower_again : (w : List ℕ) → str_to_ascii_lowercase (str_to_ascii_lowercase w) ≡ str_to_ascii_lowercase w
lower_again [] = refl
lower_again (b ∷ w) = rw (lower_byte b, lower_again w) refl

lower_letter : (b : ℕ) → is_letter b ≡ true → is_letter (to_ascii_lowercase b) ≡ true
lower_letter b h = grind (arith, nat_tests)

lower_word_byte : (b : ℕ) → is_word_byte b ≡ true → is_word_byte (to_ascii_lowercase b) ≡ true
lower_word_byte b h = grind (arith, nat_tests)

lower_bytes : (w : List ℕ) → all_pass is_word_byte w ≡ true → all_pass is_word_byte (str_to_ascii_lowercase w) ≡ true
lower_bytes [] h = refl
lower_bytes (b ∷ w) h =
    let k = and_true (is_word_byte b) (all_pass is_word_byte w) h in
    rw (lower_word_byte b k.0) (lower_bytes w k.1)

lower_word : (w : List ℕ) → begins_word w ≡ true → begins_word (str_to_ascii_lowercase w) ≡ true
lower_word [] h = absurd (false≢true h)
lower_word (b ∷ w) h =
    let k = and_true (is_letter b) (all_pass is_word_byte w) h in
    rw (lower_letter b k.0) (lower_bytes w k.1)

long_name : (w : List ℕ) → ltb 16 (length w) ≡ true → name_token w ≡ tokens.Bad 4
long_name w e = rw e refl

name_ok : (w : List ℕ) (long : Bool) → begins_word w ≡ true → str_to_ascii_lowercase w ≡ w → keyword_of w ≡ None → ltb 16 (length w) ≡ long → IsOk (name_token w)
name_ok w true word small none e = subst IsOk (sym (long_name w e)) tt
name_ok w false word small none e =
    let is : name_token w ≡ tokens.Name w = rw e refl in
    let whole : word_token w ≡ tokens.Name w = rw none is in
    subst IsOk (sym is) (record { word = word; small = small; is = whole })

word_by : (w : List ℕ) (o : Option Keyword) → begins_word w ≡ true → str_to_ascii_lowercase w ≡ w → keyword_of w ≡ o → IsOk (word_or o w)
word_by w (Some k) word small e = tt
word_by w None word small e = name_ok w (ltb 16 (length w)) word small e refl

word_ok : (w : List ℕ) → begins_word w ≡ true → IsOk (word_token (str_to_ascii_lowercase w))
word_ok w h = word_by (str_to_ascii_lowercase w) (keyword_of (str_to_ascii_lowercase w)) (lower_word w h) (lower_again w) refl

run_step : (test : ℕ → Bool) (c : ℕ) (bs : List ℕ) (b : Bool) → test c ≡ b → all_pass test (take (run test bs) bs) ≡ true → all_pass test (take (run test (c ∷ bs)) (c ∷ bs)) ≡ true
run_step test c bs true e h = rw (e, e) h
run_step test c bs false e h = rw e refl

run_passes : (test : ℕ → Bool) (bs : List ℕ) → all_pass test (take (run test bs) bs) ≡ true
run_passes test [] = refl
run_passes test (c ∷ bs) = run_step test c bs (test c) refl (run_passes test bs)

word_piece_ok : (b : ℕ) (bs : List ℕ) → is_letter b ≡ true → OkOption (word_piece (b ∷ bs)).token
unfolding word_piece
word_piece_ok b bs h =
    let cell : take (run is_word_byte bs + 1) (b ∷ bs) ≡ b ∷ take (run is_word_byte bs) bs = ap (λ (n : ℕ). take n (b ∷ bs)) (add-one (run is_word_byte bs)) in
    rw cell (word_ok (b ∷ take (run is_word_byte bs) bs) (rw h (run_passes is_word_byte bs)))

-- ---- numbers and codes

number_by : (digits : List ℕ) (small : Bool) → ltb (value_from 0 digits) (2 ^ 32) ≡ small → IsOk (number_token digits)
unfolding number_token
number_by digits true e =
    let is : number_token digits ≡ Number (value_from 0 digits) = rw e refl in
    subst IsOk (sym is) (ltb-true _ _ e)
number_by digits false e =
    let is : number_token digits ≡ tokens.Bad 2 = rw e refl in
    subst IsOk (sym is) tt

number_piece_ok : (bytes : List ℕ) → OkOption (number_piece bytes).token
unfolding number_piece
number_piece_ok bytes = number_by _ _ refl

code_by : (w : List ℕ) (b : Bool) → is_code w ≡ b → IsOk (code_token w)
code_by w true e =
    let is : code_token w ≡ tokens.Code (code_number w) = rw e refl in
    subst IsOk (sym is) (code_number-IsCodeNumber w e)
code_by w false e =
    let is : code_token w ≡ tokens.Bad 3 = rw e refl in
    subst IsOk (sym is) tt

code_piece_by : (bs : List ℕ) (b : Bool) → ltb (run is_inside bs) (length bs) ≡ b → OkOption (code_piece bs).token
unfolding code_piece
code_piece_by bs true e = rw e (code_by (take (run is_inside bs) bs) (is_code (take (run is_inside bs) bs)) refl)
code_piece_by bs false e = rw e tt

mark_by : (n : ℕ) (a b c d e f g h i j : Bool) → n == 40 ≡ a → n == 41 ≡ b → n == 44 ≡ c → n == 46 ≡ d → n == 59 ≡ e → n == 42 ≡ f → n == 43 ≡ g → n == 61 ≡ h → n == 60 ≡ i → n == 62 ≡ j → IsOk (mark_token n)
unfolding mark_token
mark_by n true b c d e f g h i j ea eb ec ed ee ef eg eh ei ej = rw ea tt
mark_by n false true c d e f g h i j ea eb ec ed ee ef eg eh ei ej = rw (ea, eb) tt
mark_by n false false true d e f g h i j ea eb ec ed ee ef eg eh ei ej = rw (ea, eb, ec) tt
mark_by n false false false true e f g h i j ea eb ec ed ee ef eg eh ei ej = rw (ea, eb, ec, ed) tt
mark_by n false false false false true f g h i j ea eb ec ed ee ef eg eh ei ej = rw (ea, eb, ec, ed, ee) tt
mark_by n false false false false false true g h i j ea eb ec ed ee ef eg eh ei ej = rw (ea, eb, ec, ed, ee, ef) tt
mark_by n false false false false false false true h i j ea eb ec ed ee ef eg eh ei ej = rw (ea, eb, ec, ed, ee, ef, eg) tt
mark_by n false false false false false false false true i j ea eb ec ed ee ef eg eh ei ej = rw (ea, eb, ec, ed, ee, ef, eg, eh) tt
mark_by n false false false false false false false false true j ea eb ec ed ee ef eg eh ei ej = rw (ea, eb, ec, ed, ee, ef, eg, eh, ei) tt
mark_by n false false false false false false false false false true ea eb ec ed ee ef eg eh ei ej = rw (ea, eb, ec, ed, ee, ef, eg, eh, ei, ej) tt
mark_by n false false false false false false false false false false ea eb ec ed ee ef eg eh ei ej = rw (ea, eb, ec, ed, ee, ef, eg, eh, ei, ej) tt

mark_ok : (b : ℕ) → IsOk (mark_token b)
mark_ok b = mark_by b (b == 40) (b == 41) (b == 44) (b == 46) (b == 59) (b == 42) (b == 43) (b == 61) (b == 60) (b == 62) refl refl refl refl refl refl refl refl refl refl

mark_piece_by : (bytes : List ℕ) (x y z : Bool) → is_pair 60 62 bytes ≡ x → is_pair 60 61 bytes ≡ y → is_pair 62 61 bytes ≡ z → OkOption (mark_piece bytes).token
unfolding mark_piece
mark_piece_by bytes true y z ex ey ez = rw ex tt
mark_piece_by bytes false true z ex ey ez = rw (ex, ey) tt
mark_piece_by bytes false false true ex ey ez = rw (ex, ey, ez) tt
mark_piece_by bytes false false false ex ey ez = rw (ex, ey, ez) (mark_ok (first bytes))

piece_by : (b : ℕ) (bs : List ℕ) (v w x y z : Bool) → is_blank b ≡ v → is_pair 45 45 (b ∷ bs) ≡ w → is_letter b ≡ x → is_digit b ≡ y → b == 39 ≡ z → OkOption (piece_of (b ∷ bs)).token
unfolding piece_of
piece_by b bs true w x y z ev ew ex ey ez = rw ev tt
piece_by b bs false true x y z ev ew ex ey ez = rw (ev, ew) tt
piece_by b bs false false true y z ev ew ex ey ez = rw (ev, ew, ex) (word_piece_ok b bs ex)
piece_by b bs false false false true z ev ew ex ey ez = rw (ev, ew, ex, ey) (number_piece_ok (b ∷ bs))
piece_by b bs false false false false true ev ew ex ey ez = rw (ev, ew, ex, ey, ez) (code_piece_by bs (ltb (run is_inside bs) (length bs)) refl)
piece_by b bs false false false false false ev ew ex ey ez = rw (ev, ew, ex, ey, ez) (mark_piece_by (b ∷ bs) (is_pair 60 62 (b ∷ bs)) (is_pair 60 61 (b ∷ bs)) (is_pair 62 61 (b ∷ bs)) refl refl refl)

put_ok : (o : Option Token) (place : ℕ) (ts : List Placed) → OkOption o → AllOk ts → AllOk (put o place ts)
put_ok None place ts h k = k
put_ok (Some t) place ts h k = (h, k)

pub tokens_ok : (left place : ℕ) (bs : List ℕ) → AllOk (tokens_from left place bs)
unfolding tokens_from
tokens_ok zero place [] = tt
tokens_ok (suc left) place [] = tt
tokens_ok (suc left) place (b ∷ bs) = tokens_ok left (place + 1) bs
tokens_ok zero place (b ∷ bs) = put_ok (piece_of (b ∷ bs)).token place (tokens_from (piece_of (b ∷ bs)).more (place + 1) bs) (piece_by b bs (is_blank b) (is_pair 45 45 (b ∷ bs)) (is_letter b) (is_digit b) (b == 39) refl refl refl refl refl) (tokens_ok (piece_of (b ∷ bs)).more (place + 1) bs)

-- ---- where the tokens of a text stand

abbrev pub Low : ℕ → List Placed → Type 0
Low end [] = Unit {0}
Low end (p ∷ ps) = (p.at < end) × Low end ps

put_low : (o : Option Token) (place end : ℕ) (ts : List Placed) → place < end → Low end ts → Low end (put o place ts)
put_low None place end ts h k = k
put_low (Some t) place end ts h k = (h, k)

pub tokens_low : (left place end : ℕ) (bs : List ℕ) → place + length bs ≤ end → Low end (tokens_from left place bs)
unfolding tokens_from
tokens_low zero place end [] le = tt
tokens_low (suc left) place end [] le = tt
tokens_low (suc left) place end (b ∷ bs) le = tokens_low left (place + 1) end bs (omega (arith, le))
tokens_low zero place end (b ∷ bs) le = put_low (piece_of (b ∷ bs)).token place end _ (omega (arith, le)) (tokens_low (piece_of (b ∷ bs)).more (place + 1) end bs (omega (arith, le)))
