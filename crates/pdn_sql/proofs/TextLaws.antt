-- The text of tokens has these tokens.
use Rattle.std.proofs.Common.{◌≡◌, ℕ, suc, ◌+◌, ◌<◌, ◌^◌, Bool, true, false, ltb, leb, List, [], ◌∷◌, ◌++◌, length, take, Some, None, refl, sym, ap, subst, ◌∙◌, append_assoc, arith, rules}
use Rattle.std.specs.Prelude.{codes, ◌==◌, ◌&&◌, ◌||◌}
use Rattle.std.specs.List.{list_all}
use Rattle.std.specs.Fmt.{decimal}
use Rattle.std.specs.Str.{all_ascii_digits, str_to_ascii_lowercase}
use Rattle.std.proofs.lemmas.Bool.{false≢true, lt-ltb}
use Rattle.std.proofs.lemmas.Bool.Decides.{nat_tests}
use Rattle.std.proofs.lemmas.List.{length-append, take_at}
use Rattle.std.proofs.lemmas.Fmt.{decimal_nonempty, digits_decimal, digits_value-decimal}
use Rattle.std.proofs.lemmas.Str.Parse.{IsNumeralModel, numerals_by_fold}
use Rattle.pdn_base.specs.Codes.{is_code, is_code_byte, read_code, code_text}
use Rattle.pdn_sql.specs.declared.token.Placed.{Placed}
use Rattle.pdn_sql.specs.declared.token.Token.{Token}
use Rattle.pdn_sql.specs.declared.token.Token.TheVariants.{Word, Number, Mark}
use Rattle.pdn_sql.specs.declared.token.Token.TheVariants as tokens
use Rattle.pdn_sql.specs.declared.token.Keyword.{Keyword}
use Rattle.pdn_sql.specs.declared.token.Keyword.TheVariants as words
use Rattle.pdn_sql.specs.declared.token.Symbol.{Symbol}
use Rattle.pdn_sql.specs.declared.token.Symbol.TheVariants as marks
use Rattle.pdn_sql.specs.Tokens.{is_digit, is_letter, is_word_byte, is_blank, is_inside, is_pair, run, keyword_of, word_token, value_from, number_token, code_piece, mark_token, mark_piece, word_piece, number_piece, piece_of, tokens_from, tokens_of}
use Rattle.pdn_sql.specs.Printing.{word_text, mark_text, token_text, is_tight, is_tight_behind, is_call, is_open, gap, text_behind, text_of}
use Rattle.pdn_sql.specs.Same.{bare}
use Rattle.pdn_sql.proofs.Good.{IsName, IsGood, AllGood, all_pass, and_true}

-- ---- pieces

abbrev next_passes : (ℕ → Bool) → List ℕ → Bool
next_passes test [] = false
next_passes test (b ∷ bs) = test b

run_none : (test : ℕ → Bool) (rest : List ℕ) → next_passes test rest ≡ false → run test rest ≡ 0
run_none test [] e = refl
run_none test (b ∷ bs) e = rw e refl

run_all : (test : ℕ → Bool) (t rest : List ℕ) → all_pass test t ≡ true → next_passes test rest ≡ false → run test (t ++ rest) ≡ length t
run_all test [] rest all next = run_none test rest next
run_all test (b ∷ t) rest all next =
    let h = and_true (test b) (all_pass test t) all in
    rw h.0 (ap suc (run_all test t rest h.1 next))

-- the bytes of a piece are passed over
pass_over : (text rest : List ℕ) (place : ℕ) → tokens_from (length text) place (text ++ rest) ≡ tokens_from 0 (place + length text) rest
unfolding tokens_from
pass_over [] rest place =
    let same : place + 0 ≡ place = omega arith in
    rw same refl
pass_over (b ∷ text) rest place =
    let same : place + suc (length text) ≡ (place + 1) + length text = omega arith in
    rw same (pass_over text rest (place + 1))

token_again : (b : ℕ) (text rest : List ℕ) (t : Token) (place : ℕ) → piece_of (b ∷ (text ++ rest)) ≡ record { more = length text; token = Some t } → tokens_from 0 place (b ∷ (text ++ rest)) ≡ record { at = place; token = t } ∷ tokens_from 0 (place + suc (length text)) rest
unfolding tokens_from
token_again b text rest t place is =
    let far : place + suc (length text) ≡ place + 1 + length text = omega arith in
    rw (is, far) (ap (λ (ts : List Placed). record { at = place; token = t } ∷ ts) (pass_over text rest (place + 1)))

-- a byte that ends words, numbers and symbols
abbrev is_end : ℕ → Bool
is_end b = b == 32 || b == 46 || b == 44 || b == 59 || b == 41 || b == 40

abbrev Ends : List ℕ → Type 0
Ends [] = Unit {0}
Ends (b ∷ bs) = is_end b ≡ true

end_no_word : (b : ℕ) → is_end b ≡ true → is_word_byte b ≡ false
end_no_word b h = grind (arith, nat_tests)

no_word : (rest : List ℕ) → Ends rest → next_passes is_word_byte rest ≡ false
no_word [] h = refl
no_word (b ∷ bs) h = end_no_word b h

end_no_digit : (b : ℕ) → is_end b ≡ true → is_digit b ≡ false
end_no_digit b h = grind (arith, nat_tests)

no_digit : (rest : List ℕ) → Ends rest → next_passes is_digit rest ≡ false
no_digit [] h = refl
no_digit (b ∷ bs) h = end_no_digit b h

no_pair : (b x y : ℕ) (bs : List ℕ) → b == x ≡ false → is_pair x y (b ∷ bs) ≡ false
no_pair b x y [] e = refl
no_pair b x y (c ∷ bs) e = rw e refl

quote_no_dash : (bs : List ℕ) → is_pair 45 45 (39 ∷ bs) ≡ false
quote_no_dash [] = refl
quote_no_dash (b ∷ bs) = refl

digit_byte : (b : ℕ) → leb 48 b && leb b 57 ≡ true → is_digit b ≡ true
digit_byte b e = e

read_by : (w : List ℕ) (c : ℕ) (b : Bool) → is_code w ≡ b → read_code w ≡ Some c → b ≡ true
read_by w c true h e = refl
read_by w c false h e =
    let none : read_code w ≡ None = rw h refl in
    absurd cc

-- ---- words

word_front : (b : ℕ) (bs : List ℕ) → is_letter b ≡ true → piece_of (b ∷ bs) ≡ word_piece (b ∷ bs)
unfolding piece_of
word_front b bs h =
    let blank : is_blank b ≡ false = grind (arith, nat_tests) in
    let dash : is_pair 45 45 (b ∷ bs) ≡ false = no_pair b 45 45 bs (grind (arith, nat_tests)) in
    rw (blank, dash, h) refl

word_is : (b : ℕ) (text rest : List ℕ) → is_letter b ≡ true → all_pass is_word_byte text ≡ true → Ends rest → piece_of (b ∷ (text ++ rest)) ≡ record { more = length text; token = Some (word_token (str_to_ascii_lowercase (b ∷ text))) }
unfolding word_piece
word_is b text rest h all ends =
    let len : run is_word_byte (text ++ rest) ≡ length text = run_all is_word_byte text rest all (no_word rest ends) in
    let whole : take (length text + 1) (b ∷ (text ++ rest)) ≡ b ∷ text = take_at (b ∷ text) rest (length text + 1) (omega arith) in
    word_front b (text ++ rest) h ∙ rw (len, whole) refl

-- ---- numbers

number_front : (b : ℕ) (bs : List ℕ) → is_digit b ≡ true → piece_of (b ∷ bs) ≡ number_piece (b ∷ bs)
unfolding piece_of
number_front b bs h =
    let blank : is_blank b ≡ false = grind (arith, nat_tests) in
    let letter : is_letter b ≡ false = grind (arith, nat_tests) in
    let dash : is_pair 45 45 (b ∷ bs) ≡ false = no_pair b 45 45 bs (grind (arith, nat_tests)) in
    rw (blank, dash, letter, h) refl

number_is : (b : ℕ) (text rest : List ℕ) → is_digit b ≡ true → all_pass is_digit text ≡ true → Ends rest → piece_of (b ∷ (text ++ rest)) ≡ record { more = length text; token = Some (number_token (b ∷ text)) }
unfolding number_piece
number_is b text rest h all ends =
    let len : run is_digit (text ++ rest) ≡ length text = run_all is_digit text rest all (no_digit rest ends) in
    let whole : take (length text + 1) (b ∷ (text ++ rest)) ≡ b ∷ text = take_at (b ∷ text) rest (length text + 1) (omega arith) in
    number_front b (text ++ rest) h ∙ rw (len, whole) refl

own : IsNumeralModel (λ ds. all_ascii_digits ds ≡ true) (value_from 0)
own = numerals_by_fold _ (search rules) value_from (search rules)

all_digits : (w : List ℕ) → all_ascii_digits w ≡ true → all_pass is_digit w ≡ true
all_digits [] e = refl
all_digits (b ∷ w) e =
    let h = and_true _ (all_ascii_digits w) e in
    let k : is_digit b ≡ true = digit_byte b h.0 in
    rw k (all_digits w h.1)

-- the token of a number's digits
number_said : (n : ℕ) → n < 2 ^ 32 → number_token (decimal n) ≡ Number n
unfolding number_token
number_said n lt =
    let small : n < 2 ^ 64 = omega arith in
    let fits : ltb n (2 ^ 32) ≡ true = lt-ltb n (2 ^ 32) lt in
    rw (digits_value-decimal own n small, fits) refl

number_again : (ds rest : List ℕ) (n place : ℕ) → 0 < length ds → all_pass is_digit ds ≡ true → number_token ds ≡ Number n → Ends rest → tokens_from 0 place (ds ++ rest) ≡ record { at = place; token = Number n } ∷ tokens_from 0 (place + length ds) rest
number_again [] rest n place some all is ends = absurd (omega (arith, some))
number_again (b ∷ text) rest n place some all is ends =
    let h = and_true (is_digit b) (all_pass is_digit text) all in
    (token_again b text rest (Number n) place (number_is b text rest h.0 h.1 ends ∙ rw is refl))

-- ---- codes

inside_byte : (b : ℕ) → is_code_byte b ≡ true → is_inside b ≡ true
unfolding is_code_byte
inside_byte b h = grind (arith, nat_tests)

all_inside : (w : List ℕ) → list_all is_code_byte w ≡ true → all_pass is_inside w ≡ true
all_inside [] e = refl
all_inside (b ∷ w) e =
    let h = and_true _ (list_all is_code_byte w) e in
    rw (inside_byte b h.0) (all_inside w h.1)

code_bytes : (w : List ℕ) → is_code w ≡ true → list_all is_code_byte w ≡ true
unfolding is_code
code_bytes w e = (and_true _ _ e).1

read_some : (w : List ℕ) (c : ℕ) → read_code w ≡ Some c → is_code w ≡ true
read_some w c e = read_by w c (is_code w) refl e

code_is : (text rest : List ℕ) (c : ℕ) → read_code text ≡ Some c → piece_of (39 ∷ ((text ++ 39 ∷ []) ++ rest)) ≡ record { more = length (text ++ 39 ∷ []); token = Some (tokens.Code c) }
unfolding piece_of code_piece
code_is text rest c e =
    let whole : (text ++ 39 ∷ []) ++ rest ≡ text ++ 39 ∷ rest = append_assoc text (39 ∷ []) rest in
    let inside = all_inside text (code_bytes text (read_some text c e)) in
    let len : run is_inside (text ++ 39 ∷ rest) ≡ length text = run_all is_inside text (39 ∷ rest) inside refl in
    let less : ltb (length text) (length (text ++ 39 ∷ rest)) ≡ true = lt-ltb _ _ (omega (arith, length-append text (39 ∷ rest))) in
    let taken : take (length text) (text ++ 39 ∷ rest) ≡ text = take_at text (39 ∷ rest) (length text) refl in
    let more : length (text ++ 39 ∷ []) ≡ suc (length text) = omega (arith, length-append text (39 ∷ [])) in
    rw (whole, quote_no_dash (text ++ 39 ∷ rest), len, less, taken, e, more) refl

-- ---- symbols

end_no_sign : (b : ℕ) → is_end b ≡ true → (b == 61 ≡ false) × (b == 62 ≡ false)
end_no_sign b h = (grind (arith, nat_tests), grind (arith, nat_tests))

less_alone : (rest : List ℕ) → Ends rest → piece_of (60 ∷ rest) ≡ record { more = 0; token = Some (Mark marks.Less) }
unfolding piece_of mark_piece mark_token
less_alone [] h = refl
less_alone (b ∷ bs) h =
    let k = end_no_sign b h in
    rw (k.0, k.1) refl

more_alone : (rest : List ℕ) → Ends rest → piece_of (62 ∷ rest) ≡ record { more = 0; token = Some (Mark marks.More) }
unfolding piece_of mark_piece mark_token
more_alone [] h = refl
more_alone (b ∷ bs) h =
    let k = end_no_sign b h in
    rw k.0 refl

-- a symbol of one byte that no other begins with
single_is : (b : ℕ) (m : Symbol) (rest : List ℕ) → is_blank b ≡ false → b == 45 ≡ false → is_letter b ≡ false → is_digit b ≡ false → b == 39 ≡ false → b == 60 ≡ false → b == 62 ≡ false → mark_token b ≡ Mark m → piece_of (b ∷ rest) ≡ record { more = 0; token = Some (Mark m) }
unfolding piece_of mark_piece
single_is b m rest a c d e f g h is = rw (a, no_pair b 45 45 rest c, d, e, f, no_pair b 60 62 rest g, no_pair b 60 61 rest g, no_pair b 62 61 rest h, is) refl

pair_unequal : (rest : List ℕ) → piece_of (60 ∷ 62 ∷ rest) ≡ record { more = 1; token = Some (Mark marks.Unequal) }
unfolding piece_of mark_piece
pair_unequal rest = refl

pair_at_most : (rest : List ℕ) → piece_of (60 ∷ 61 ∷ rest) ≡ record { more = 1; token = Some (Mark marks.AtMost) }
unfolding piece_of mark_piece
pair_at_most rest = refl

pair_at_least : (rest : List ℕ) → piece_of (62 ∷ 61 ∷ rest) ≡ record { more = 1; token = Some (Mark marks.AtLeast) }
unfolding piece_of mark_piece
pair_at_least rest = refl

-- what may stand behind a token
abbrev pub Follows : Token → List ℕ → Type 0
Follows (Mark marks.Dot) rest = Unit {0}
Follows (Mark marks.Open) rest = Unit {0}
Follows t rest = Ends rest

mark_is : (m : Symbol) (rest : List ℕ) (place : ℕ) → Follows (Mark m) rest → tokens_from 0 place (mark_text m ++ rest) ≡ record { at = place; token = Mark m } ∷ tokens_from 0 (place + length (mark_text m)) rest
unfolding mark_token
mark_is marks.Open rest place h = token_again 40 [] rest (Mark marks.Open) place (single_is 40 marks.Open rest refl refl refl refl refl refl refl refl)
mark_is marks.Close rest place h = token_again 41 [] rest (Mark marks.Close) place (single_is 41 marks.Close rest refl refl refl refl refl refl refl refl)
mark_is marks.Comma rest place h = token_again 44 [] rest (Mark marks.Comma) place (single_is 44 marks.Comma rest refl refl refl refl refl refl refl refl)
mark_is marks.Dot rest place h = token_again 46 [] rest (Mark marks.Dot) place (single_is 46 marks.Dot rest refl refl refl refl refl refl refl refl)
mark_is marks.Semicolon rest place h = token_again 59 [] rest (Mark marks.Semicolon) place (single_is 59 marks.Semicolon rest refl refl refl refl refl refl refl refl)
mark_is marks.Star rest place h = token_again 42 [] rest (Mark marks.Star) place (single_is 42 marks.Star rest refl refl refl refl refl refl refl refl)
mark_is marks.Plus rest place h = token_again 43 [] rest (Mark marks.Plus) place (single_is 43 marks.Plus rest refl refl refl refl refl refl refl refl)
mark_is marks.Equal rest place h = token_again 61 [] rest (Mark marks.Equal) place (single_is 61 marks.Equal rest refl refl refl refl refl refl refl refl)
mark_is marks.Less rest place h = token_again 60 [] rest (Mark marks.Less) place (less_alone rest h)
mark_is marks.More rest place h = token_again 62 [] rest (Mark marks.More) place (more_alone rest h)
mark_is marks.Unequal rest place h = token_again 60 (62 ∷ []) rest (Mark marks.Unequal) place (pair_unequal rest)
mark_is marks.AtMost rest place h = token_again 60 (61 ∷ []) rest (Mark marks.AtMost) place (pair_at_most rest)
mark_is marks.AtLeast rest place h = token_again 62 (61 ∷ []) rest (Mark marks.AtLeast) place (pair_at_least rest)

-- ---- each token

word_again : (b : ℕ) (text rest : List ℕ) (t : Token) (place : ℕ) → is_letter b ≡ true → all_pass is_word_byte text ≡ true → Ends rest → word_token (str_to_ascii_lowercase (b ∷ text)) ≡ t → tokens_from 0 place (b ∷ (text ++ rest)) ≡ record { at = place; token = t } ∷ tokens_from 0 (place + suc (length text)) rest
word_again b text rest t place h all ends is = token_again b text rest t place (word_is b text rest h all ends ∙ rw is refl)

name_again : (text rest : List ℕ) (place : ℕ) → IsName text → Ends rest → tokens_from 0 place (text ++ rest) ≡ record { at = place; token = tokens.Name text } ∷ tokens_from 0 (place + length text) rest
name_again [] rest place is ends = absurd (false≢true is.word)
name_again (b ∷ text) rest place is ends =
    let h = and_true (is_letter b) (all_pass is_word_byte text) is.word in
    (word_again b text rest (tokens.Name (b ∷ text)) place h.0 h.1 ends (ap word_token is.small ∙ is.is))

keyword_again : (k : Keyword) (rest : List ℕ) (place : ℕ) → Ends rest → tokens_from 0 place (word_text k ++ rest) ≡ record { at = place; token = Word k } ∷ tokens_from 0 (place + length (word_text k)) rest
unfolding keyword_of
keyword_again words.Select rest place ends = word_again 83 (codes "ELECT") rest (Word words.Select) place refl refl ends refl
keyword_again words.Distinct rest place ends = word_again 68 (codes "ISTINCT") rest (Word words.Distinct) place refl refl ends refl
keyword_again words.From rest place ends = word_again 70 (codes "ROM") rest (Word words.From) place refl refl ends refl
keyword_again words.As rest place ends = word_again 65 (codes "S") rest (Word words.As) place refl refl ends refl
keyword_again words.Join rest place ends = word_again 74 (codes "OIN") rest (Word words.Join) place refl refl ends refl
keyword_again words.Inner rest place ends = word_again 73 (codes "NNER") rest (Word words.Inner) place refl refl ends refl
keyword_again words.On rest place ends = word_again 79 (codes "N") rest (Word words.On) place refl refl ends refl
keyword_again words.Where rest place ends = word_again 87 (codes "HERE") rest (Word words.Where) place refl refl ends refl
keyword_again words.And rest place ends = word_again 65 (codes "ND") rest (Word words.And) place refl refl ends refl
keyword_again words.Or rest place ends = word_again 79 (codes "R") rest (Word words.Or) place refl refl ends refl
keyword_again words.Group rest place ends = word_again 71 (codes "ROUP") rest (Word words.Group) place refl refl ends refl
keyword_again words.By rest place ends = word_again 66 (codes "Y") rest (Word words.By) place refl refl ends refl
keyword_again words.Having rest place ends = word_again 72 (codes "AVING") rest (Word words.Having) place refl refl ends refl
keyword_again words.Order rest place ends = word_again 79 (codes "RDER") rest (Word words.Order) place refl refl ends refl
keyword_again words.Limit rest place ends = word_again 76 (codes "IMIT") rest (Word words.Limit) place refl refl ends refl
keyword_again words.With rest place ends = word_again 87 (codes "ITH") rest (Word words.With) place refl refl ends refl
keyword_again words.Count rest place ends = word_again 67 (codes "OUNT") rest (Word words.Count) place refl refl ends refl
keyword_again words.RowNumber rest place ends = word_again 82 (codes "OW_NUMBER") rest (Word words.RowNumber) place refl refl ends refl
keyword_again words.Over rest place ends = word_again 79 (codes "VER") rest (Word words.Over) place refl refl ends refl
keyword_again words.Partition rest place ends = word_again 80 (codes "ARTITION") rest (Word words.Partition) place refl refl ends refl
keyword_again words.Asc rest place ends = word_again 65 (codes "SC") rest (Word words.Asc) place refl refl ends refl
keyword_again words.Desc rest place ends = word_again 68 (codes "ESC") rest (Word words.Desc) place refl refl ends refl

code_again : (text rest : List ℕ) (c place : ℕ) → read_code text ≡ Some c → tokens_from 0 place ((39 ∷ text ++ 39 ∷ []) ++ rest) ≡ record { at = place; token = tokens.Code c } ∷ tokens_from 0 (place + length (39 ∷ text ++ 39 ∷ [])) rest
code_again text rest c place e =
    (token_again 39 (text ++ 39 ∷ []) rest (tokens.Code c) place (code_is text rest c e))

-- the text of a token is that token again, where what follows ends it
pub token_then : (t : Token) (rest : List ℕ) (place : ℕ) → IsGood t → Follows t rest → tokens_from 0 place (token_text t ++ rest) ≡ record { at = place; token = t } ∷ tokens_from 0 (place + length (token_text t)) rest
token_then (Word k) rest place good h = keyword_again k rest place h
token_then (tokens.Name text) rest place good h = name_again text rest place good h
token_then (Number n) rest place good h =
    let small : n < 2 ^ 64 = omega arith in
    number_again (decimal n) rest n place (decimal_nonempty n small) (all_digits (decimal n) (digits_decimal own n small)) (number_said n good) h
token_then (tokens.Code c) rest place good h = code_again (code_text c) rest c place good
token_then (Mark m) rest place good h = mark_is m rest place h
token_then (tokens.Bad kind) rest place good h = absurd good

-- ---- all tokens

tight_ends : (t : Token) (rest : List ℕ) → is_tight t ≡ true → Ends (token_text t ++ rest)
tight_ends (Mark marks.Dot) rest h = refl
tight_ends (Mark marks.Comma) rest h = refl
tight_ends (Mark marks.Semicolon) rest h = refl
tight_ends (Mark marks.Close) rest h = refl
tight_ends t rest h = absurd (false≢true h)

open_ends : (t : Token) (rest : List ℕ) → is_open t ≡ true → Ends (token_text t ++ rest)
open_ends (Mark marks.Open) rest h = refl
open_ends t rest h = absurd (false≢true h)

follows_free : (t : Token) (rest : List ℕ) → is_tight_behind t ≡ true → Follows t rest
follows_free (Mark marks.Dot) rest h = tt
follows_free (Mark marks.Open) rest h = tt
follows_free t rest h = absurd (false≢true h)

follows_end : (t : Token) (rest : List ℕ) → Ends rest → Follows t rest
follows_end (Mark marks.Dot) rest h = tt
follows_end (Mark marks.Open) rest h = tt
follows_end t rest h = h

blank_then : (rest : List ℕ) (place : ℕ) → tokens_from 0 place (32 ∷ rest) ≡ tokens_from 0 (place + 1) rest
unfolding tokens_from piece_of
blank_then rest place = refl

-- the gap before a token is passed over, and ends the token before
pub record Gap (a b : Token) (rest : List ℕ) (place : ℕ) : Type 0 where
  pub follows : Follows a ((gap a b ++ token_text b) ++ rest)
  pub at : ℕ
  pub passed : tokens_from 0 place ((gap a b ++ token_text b) ++ rest) ≡ tokens_from 0 at (token_text b ++ rest)

gap_none : (a b : Token) (rest : List ℕ) (place : ℕ) → gap a b ≡ [] → Ends (token_text b ++ rest) → Gap a b rest place
gap_none a b rest place none ends =
    let whole : (gap a b ++ token_text b) ++ rest ≡ token_text b ++ rest = rw none refl in
    record { follows = follows_end a _ (subst Ends (sym whole) ends); at = place; passed = ap (tokens_from 0 place) whole }

gap_blank : (a b : Token) (rest : List ℕ) (place : ℕ) → gap a b ≡ 32 ∷ [] → Gap a b rest place
gap_blank a b rest place blank =
    let whole : (gap a b ++ token_text b) ++ rest ≡ 32 ∷ (token_text b ++ rest) = rw blank refl in
    record { follows = follows_end a _ (subst Ends (sym whole) refl); at = place + 1; passed = ap (tokens_from 0 place) whole ∙ blank_then (token_text b ++ rest) place }

gap_by : (a b : Token) (rest : List ℕ) (place : ℕ) (x y z w : Bool) → is_tight_behind a ≡ x → is_tight b ≡ y → is_open b ≡ z → is_call a ≡ w → Gap a b rest place
gap_by a b rest place true y z w ex ey ez ew =
    let none : gap a b ≡ [] = rw ex refl in
    let whole : (gap a b ++ token_text b) ++ rest ≡ token_text b ++ rest = rw none refl in
    record { follows = follows_free a _ ex; at = place; passed = ap (tokens_from 0 place) whole }
gap_by a b rest place false true z w ex ey ez ew = gap_none a b rest place (rw (ex, ey) refl) (tight_ends b rest ey)
gap_by a b rest place false false true true ex ey ez ew = gap_none a b rest place (rw (ex, ey, ez, ew) refl) (open_ends b rest ez)
gap_by a b rest place false false true false ex ey ez ew = gap_blank a b rest place (rw (ex, ey, ez, ew) refl)
gap_by a b rest place false false false w ex ey ez ew = gap_blank a b rest place (rw (ex, ey, ez) refl)

-- the text behind a token has its tokens
pub text_tokens : (a : Token) (ts : List Token) (place : ℕ) → IsGood a → AllGood ts → bare (tokens_from 0 place (token_text a ++ text_behind a ts)) ≡ a ∷ ts
unfolding text_behind tokens_from
text_tokens a [] place good all = ap bare (token_then a [] place good (follows_end a [] tt))
text_tokens a (b ∷ ts) place good all =
    let g = gap_by a b (text_behind b ts) (place + length (token_text a)) (is_tight_behind a) (is_tight b) (is_open b) (is_call a) refl refl refl refl in
    ap bare (token_then a ((gap a b ++ token_text b) ++ text_behind b ts) place good g.follows)
    ∙ ap (λ (us : List Placed). a ∷ bare us) g.passed ∙ ap (λ (us : List Token). a ∷ us) (text_tokens b ts g.at all.0 all.1)

pub text_again : (ts : List Token) → AllGood ts → bare (tokens_of (text_of ts)) ≡ ts
unfolding text_of tokens_from
text_again [] all = refl
text_again (t ∷ ts) all = text_tokens t ts 0 all.0 all.1
