-- What a line seems to say. Whether it says it is then seen from the text of what was guessed.
use Rattle.std.specs.Prelude.{ℕ, ◌+◌, ◌-◌, Bool, ◌&&◌, nat_lt, nat_le, eqb, cond, List, [], ◌∷◌, length, get_or, take, drop, codes, Option, Some, None, Result, Ok, Err}
use Rattle.std.specs.Char.{is_ascii_digit}
use Rattle.std.specs.List.{list_all, slice_split}
use Rattle.std.specs.Str.{bytes_eq}
use Rattle.std.specs.Int.{w64, from_be_bytes}
use Rattle.hex.specs.Hex.{decode_sized}
use Rattle.hex.specs.declared.error.FromHexError.{FromHexError}
use Rattle.pdn_base.specs.declared.value.Value.{Value}
use Rattle.pdn_base.specs.declared.value.Value.TheVariants as value
use Rattle.pdn_base.specs.Codes.{read_code}
use Rattle.pdn_base.specs.Numbers.{value_of}
use Rattle.pdn_gmw.specs.declared.views.GateView.{GateView}
use Rattle.pdn_view.specs.declared.view.Party.{Party}
use Rattle.pdn_view.specs.declared.view.Party.TheVariants as parties
use Rattle.pdn_view.specs.declared.due.Due.{Due}
use Rattle.pdn_view.specs.declared.due.Due.TheVariants.{Plain, Secure, Root, Outputs}
use Rattle.pdn_view.specs.declared.due.Counts.{Counts}
use Rattle.pdn_view.specs.Views.{ascends, no_counts}

-- ---- options

abbrev pub mapped : {A B : Type 0} → (A → B) → Option A → Option B
mapped f None = None
mapped f (Some x) = Some (f x)

abbrev pub both : {A B C : Type 0} → (A → B → C) → Option A → Option B → Option C
both f None y = None
both f (Some x) y = mapped (f x) y

-- ---- the words of a line

abbrev pub is_blank : ℕ → Bool
is_blank byte = eqb byte 32

-- the words between blanks
abbrev pub words : List ℕ → List (List ℕ)
words line = slice_split is_blank line

-- one of them; empty past the last
abbrev pub word : List ℕ → ℕ → List ℕ
word line place = get_or (words line) place []

-- ---- what a word seems to be

-- 1 to 20 decimal digits of a number of 64 bits
abbrev pub is_number : List ℕ → Bool
is_number digits = (nat_lt 0 (length digits) && nat_le (length digits) 20) && (list_all is_ascii_digit digits && nat_lt (value_of digits) 18446744073709551616)

unfoldable pub number_of : List ℕ → Option ℕ
number_of digits = cond (is_number digits) (Some (value_of digits)) None

abbrev pub small : Option ℕ → Option ℕ
small None = None
small (Some n) = cond (nat_lt n 4294967296) (Some n) None

-- what stands between two quotes
abbrev pub unquoted : List ℕ → List ℕ
unquoted text = take (length text - 2) (drop 1 text)

unfoldable pub value_in : List ℕ → Option Value
value_in text = cond (eqb (get_or text 0 0) 39) (mapped value.Code (read_code (unquoted text))) (mapped value.Int (small (number_of text)))

abbrev pub decoded : Result (List ℕ) FromHexError → Option ℕ
decoded (Ok bytes) = Some (from_be_bytes w64 bytes)
decoded (Err e) = None

-- the word of 16 hexadecimal digits
unfoldable pub word_in : List ℕ → Option ℕ
word_in digits = decoded (decode_sized digits 8)

abbrev pub party_in : List ℕ → Option Party
party_in text =
    cond (bytes_eq text (codes "a")) (Some parties.A) (cond (bytes_eq text (codes "b")) (Some parties.B) (cond (bytes_eq text (codes "broker")) (Some parties.Broker) None))

-- ---- what a line seems to say

abbrev pub head_in : List ℕ → Option (Party × ℕ)
head_in line = both (λ party ticket. (party, ticket)) (party_in (word line 1)) (number_of (word line 3))

abbrev pub values_in : List (List ℕ) → Option (List Value)
values_in [] = Some []
values_in (w ∷ ws) = both (λ v vs. v ∷ vs) (value_in w) (values_in ws)

abbrev pub in_order : Option (List Value) → Option (List Value)
in_order None = None
in_order (Some values) = cond (ascends values) (Some values) None

-- the values of a segment's line, where they ascend and are of one kind
abbrev pub segment_in : List ℕ → Option (List Value)
segment_in line = in_order (values_in (drop 3 (words line)))

-- four numbers, each two words after the one before
unfoldable pub counts_at : ℕ → List ℕ → Option Counts
counts_at place line =
    both (λ (x : ℕ × ℕ) (y : ℕ × ℕ). record { own = x.0; other = x.1; ands = y.0; masks = y.1 })
    (both (λ own other. (own, other)) (number_of (word line place)) (number_of (word line (place + 2))))
    (both (λ ands masks. (ands, masks)) (number_of (word line (place + 4))) (number_of (word line (place + 6))))

abbrev pub unmasked : Counts → Counts
unmasked c = record { own = c.own; other = c.other; ands = c.ands; masks = 0 }

abbrev pub outputs : ℕ → Counts
outputs n = record { own = n; other = n; ands = 0; masks = 0 }

abbrev pub counts_in : Due → List ℕ → Option Counts
counts_in (Plain site v) line = Some no_counts
counts_in (Secure v) line = mapped unmasked (counts_at 5 line)
counts_in Root line = counts_at 4 line
counts_in Outputs line = mapped outputs (number_of (word line 3))

unfoldable pub gate_in : List ℕ → Option GateView
gate_in line =
    both (λ (x : ℕ × (ℕ × ℕ)) (y : ℕ × ℕ). record { a = x.0; b = x.1.0; c = x.1.1; d = y.0; e = y.1 })
    (both (λ a x. (a, x)) (word_in (word line 1)) (both (λ b c. (b, c)) (word_in (word line 2)) (word_in (word line 3))))
    (both (λ d e. (d, e)) (word_in (word line 4)) (word_in (word line 5)))
