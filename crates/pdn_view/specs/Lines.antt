-- The text of a view: its lines, each a list of words.
use Rattle.std.specs.Prelude.{ℕ, ◌+◌, List, [], ◌∷◌, ◌++◌, map, codes, decimal}
use Rattle.std.specs.List.{flat_map, join_with_byte}
use Rattle.std.specs.Int.{w64, to_be_bytes}
use Rattle.hex.specs.Hex.{encode_lower}
use Rattle.pdn_base.specs.declared.value.Value.{Value}
use Rattle.pdn_base.specs.declared.value.Value.TheVariants as value
use Rattle.pdn_base.specs.declared.site.Site.{Site}
use Rattle.pdn_base.specs.declared.site.Site.TheVariants.{A, B}
use Rattle.pdn_base.specs.Codes.{code_text}
use Rattle.pdn_base.specs.Texts.{site_text}
use Rattle.pdn_gmw.specs.declared.views.GateView.{GateView}
use Rattle.pdn_gmw.specs.Shares.{UnitWords}
use Rattle.pdn_site.specs.Models.{Dirs}
use Rattle.pdn_view.specs.declared.view.Party.{Party}
use Rattle.pdn_view.specs.declared.view.Party.TheVariants as parties
use Rattle.pdn_view.specs.declared.due.Due.{Due}
use Rattle.pdn_view.specs.declared.due.Due.TheVariants.{Plain, Secure, Root, Outputs}
use Rattle.pdn_view.specs.declared.due.Counts.{Counts}
use Rattle.pdn_view.specs.Views.{Part, ViewWords, counts_of, first_number}

-- ---- words

abbrev pub party_text : Party → List ℕ
party_text parties.A = codes "a"
party_text parties.B = codes "b"
party_text parties.Broker = codes "broker"

-- a decimal number, or a code between two quotes
abbrev pub value_text : Value → List ℕ
value_text (value.Int n) = decimal n
value_text (value.Code c) = 39 ∷ code_text c ++ 39 ∷ []

-- 16 small hexadecimal digits, most significant first
unfoldable pub word_text : ℕ → List ℕ
word_text w = encode_lower (to_be_bytes w64 w)

-- ---- lines

abbrev pub Line : Type 0
Line = List (List ℕ)

abbrev pub head_line : Party → ℕ → Line
head_line party ticket = codes "view" ∷ party_text party ∷ codes "ticket" ∷ decimal ticket ∷ []

abbrev pub segment_line : ℕ → Site → List Value → Line
segment_line number site values = codes "segment" ∷ decimal number ∷ site_text site ∷ map value_text values

abbrev pub counts_text : Counts → Line
counts_text c =
    codes "own" ∷ decimal c.own ∷ codes "other" ∷ decimal c.other ∷ codes "ands" ∷ decimal c.ands ∷ codes "masks" ∷ decimal c.masks ∷ []

abbrev pub unit_line : ℕ → Due → Counts → Line
unit_line number (Plain site v) c = codes "unit" ∷ decimal number ∷ codes "plain" ∷ site_text site ∷ value_text v ∷ []
unit_line number (Secure v) c = codes "unit" ∷ decimal number ∷ codes "secure" ∷ value_text v ∷ counts_text c
unit_line number Root c = codes "unit" ∷ decimal number ∷ codes "root" ∷ counts_text c
unit_line number Outputs c = codes "root" ∷ decimal number ∷ codes "words" ∷ decimal c.own ∷ []

abbrev pub word_line : List ℕ → ℕ → Line
word_line mark w = mark ∷ word_text w ∷ []

abbrev pub gate_line : GateView → Line
gate_line g = codes "g" ∷ word_text g.a ∷ word_text g.b ∷ word_text g.c ∷ word_text g.d ∷ word_text g.e ∷ []

abbrev pub end_line : Line
end_line = codes "end" ∷ []

-- how a unit's own and other words are marked
abbrev pub own_mark : Due → List ℕ
own_mark Outputs = codes "a"
own_mark due = codes "o"

abbrev pub other_mark : Due → List ℕ
other_mark Outputs = codes "b"
other_mark due = codes "x"

-- ---- the lines of a view

-- both lines of each segment, numbered on from here
abbrev pub segment_lines : ℕ → List Dirs → List Line
segment_lines number [] = []
segment_lines number (d ∷ ds) = segment_line number A d.a ∷ segment_line number B d.b ∷ segment_lines (number + 1) ds

abbrev pub words_lines : Due → UnitWords → List Line
words_lines due w =
    map (word_line (own_mark due)) w.own ++ map (word_line (other_mark due)) w.other
    ++ map gate_line w.gates ++ map (word_line (codes "m")) w.masks

abbrev pub part_lines : ℕ → Part → List Line
part_lines number p = unit_line number p.due (counts_of p.words) ∷ words_lines p.due p.words

-- the units, numbered on from here
abbrev pub parts_lines : ℕ → List Part → List Line
parts_lines number [] = []
parts_lines number (p ∷ ps) = part_lines number p ++ parts_lines (number + 1) ps

abbrev pub view_lines : ViewWords → List Line
view_lines v =
    head_line v.party v.ticket ∷ segment_lines 0 v.dirs ++ parts_lines (first_number v.party v.dirs) v.units ++ end_line ∷ []

-- ---- the text

-- the words, with a blank between two
abbrev pub spaced : Line → List ℕ
spaced words = join_with_byte 32 words

-- the same, and a line feed
abbrev pub line_text : Line → List ℕ
line_text words = spaced words ++ 10 ∷ []

abbrev pub lines_text : List Line → List ℕ
lines_text lines = flat_map line_text lines

abbrev pub view_text : ViewWords → List ℕ
view_text v = lines_text (view_lines v)
