-- The reading of a view as a machine: what may come next after the lines so far, and where a line leads.
use Rattle.std.specs.Prelude.{ℕ, ◌+◌, nat_lt, cond, List, [], ◌∷◌, ◌++◌, length, codes, Option, Some, None}
use Rattle.std.specs.Str.{bytes_eq}
use Rattle.pdn_base.specs.declared.value.Value.{Value}
use Rattle.pdn_base.specs.declared.site.Site.TheVariants.{A, B}
use Rattle.pdn_gmw.specs.declared.views.GateView.{GateView}
use Rattle.pdn_gmw.specs.Shares.{UnitWords}
use Rattle.pdn_view.specs.declared.view.Party.{Party}
use Rattle.pdn_view.specs.declared.due.Due.{Due}
use Rattle.pdn_view.specs.declared.due.Due.TheVariants.{Plain, Secure, Root, Outputs}
use Rattle.pdn_view.specs.declared.due.Counts.{Counts}
use Rattle.pdn_view.specs.declared.machine.Lack.{Lack}
use Rattle.pdn_view.specs.declared.machine.Lack.TheVariants.{Own, Other, Gates, Masks, Nothing}
use Rattle.pdn_view.specs.declared.machine.State.{State}
use Rattle.pdn_view.specs.declared.machine.State.TheVariants.{Begin, Segments, Half, Words, Closed}
use Rattle.pdn_view.specs.Views.{ViewWords, words_of, dues_of, first_number}
use Rattle.pdn_view.specs.Parts.{Opening, Body, Begun}
use Rattle.pdn_view.specs.Lines.{Line, spaced, head_line, segment_line, unit_line, word_line, gate_line, end_line, own_mark, other_mark}
use Rattle.pdn_view.specs.Guesses.{mapped, word, head_in, segment_in, counts_in, word_in, gate_in}

-- what was guessed of a line, where its text is the line
abbrev pub checked : {X : Type 0} → (X → Line) → List ℕ → Option X → Option X
checked says line None = None
checked says line (Some x) = cond (bytes_eq (spaced (says x)) line) (Some x) None

-- ---- the head and the segments

abbrev pub opening : Party × ℕ → Opening
opening h = record { party = h.0; ticket = h.1; dirs = [] }

abbrev pub begins : List ℕ → Option State
begins line = mapped (λ h. Segments (opening h)) (checked (λ h. head_line h.0 h.1) line (head_in line))

abbrev pub with_dirs : Opening → List Value → List Value → Opening
with_dirs o a b = record { party = o.party; ticket = o.ticket; dirs = o.dirs ++ record { a = a; b = b } ∷ [] }

-- ---- units

abbrev pub body_of : Opening → Body
body_of o = record { party = o.party; ticket = o.ticket; dirs = o.dirs; units = []; todo = dues_of o.party o.dirs; number = first_number o.party o.dirs }

abbrev pub view_of : Body → ViewWords
view_of b = record { party = b.party; ticket = b.ticket; dirs = b.dirs; units = b.units }

-- the words that a view keeps of a unit: a plain one has none, and the root's outputs have one list of each site
abbrev pub kept : Due → UnitWords → UnitWords
kept (Plain site v) w = words_of [] []
kept (Secure v) w = w
kept Root w = w
kept Outputs w = words_of w.own w.other

-- a unit is read, and its words are all there
abbrev pub closed : Body → Begun → Body
closed b g = record { party = b.party; ticket = b.ticket; dirs = b.dirs; units = b.units ++ record { due = g.due; words = kept g.due g.words } ∷ []; todo = b.todo; number = b.number }

abbrev pub begun : Due → Counts → Begun
begun due want = record { due = due; want = want; words = words_of [] [] }

-- one unit fewer is due
abbrev pub onto : Body → List Due → Body
onto b todo = record { party = b.party; ticket = b.ticket; dirs = b.dirs; units = b.units; todo = todo; number = b.number + 1 }

-- the line of the next unit, or the end where none is left
abbrev pub opens : Body → List Due → List ℕ → Option State
opens b [] line = cond (bytes_eq (spaced end_line) line) (Some (Closed (view_of b))) None
opens b (due ∷ todo) line =
    mapped (λ want. Words (onto b todo) (begun due want)) (checked (unit_line b.number due) line (counts_in due line))

abbrev pub next_unit : Body → List ℕ → Option State
next_unit b line = opens b b.todo line

-- ---- words

abbrev pub word_of : List ℕ → List ℕ → Option ℕ
word_of mark line = checked (word_line mark) line (word_in (word line 1))

abbrev pub gate_of : List ℕ → Option GateView
gate_of line = checked gate_line line (gate_in line)

abbrev pub with_words : Begun → UnitWords → Begun
with_words g words = record { due = g.due; want = g.want; words = words }

abbrev pub add_own : Begun → ℕ → Begun
add_own g w = with_words g (record { own = g.words.own ++ w ∷ []; other = g.words.other; gates = g.words.gates; masks = g.words.masks })

abbrev pub add_other : Begun → ℕ → Begun
add_other g w = with_words g (record { own = g.words.own; other = g.words.other ++ w ∷ []; gates = g.words.gates; masks = g.words.masks })

abbrev pub add_gate : Begun → GateView → Begun
add_gate g x = with_words g (record { own = g.words.own; other = g.words.other; gates = g.words.gates ++ x ∷ []; masks = g.words.masks })

abbrev pub add_mask : Begun → ℕ → Begun
add_mask g w = with_words g (record { own = g.words.own; other = g.words.other; gates = g.words.gates; masks = g.words.masks ++ w ∷ [] })

-- The kinds of words in their order, each until there are as many as the unit's line says.
abbrev pub lack : Begun → Lack
lack g =
    cond (nat_lt (length g.words.own) g.want.own) Own
    (cond (nat_lt (length g.words.other) g.want.other) Other
    (cond (nat_lt (length g.words.gates) g.want.ands) Gates
    (cond (nat_lt (length g.words.masks) g.want.masks) Masks Nothing)))

abbrev pub added : Begun → Lack → List ℕ → Option Begun
added g Own line = mapped (add_own g) (word_of (own_mark g.due) line)
added g Other line = mapped (add_other g) (word_of (other_mark g.due) line)
added g Gates line = mapped (add_gate g) (gate_of line)
added g Masks line = mapped (add_mask g) (word_of (codes "m") line)
added g Nothing line = None

-- a word that is lacking; and where none is, the next unit
abbrev pub lacking : Lack → Body → Begun → List ℕ → Option State
lacking Nothing b g line = next_unit (closed b g) line
lacking what b g line = mapped (Words b) (added g what line)

abbrev pub next_word : Body → Begun → List ℕ → Option State
next_word b g line = lacking (lack g) b g line

-- ---- the machine

abbrev pub half : Opening → List ℕ → Option State
half o line = mapped (Half o) (checked (segment_line (length o.dirs) A) line (segment_in line))

abbrev pub whole : Opening → List Value → List ℕ → Option State
whole o a line = mapped (λ b. Segments (with_dirs o a b)) (checked (segment_line (length o.dirs) B) line (segment_in line))

abbrev pub next : State → List ℕ → Option State
next Begin line = begins line
next (Segments o) line = cond (bytes_eq (word line 0) (codes "segment")) (half o line) (next_unit (body_of o) line)
next (Half o a) line = whole o a line
next (Words b g) line = next_word b g line
next (Closed v) line = None

abbrev pub onward : Option State → (State → Option State) → Option State
onward None f = None
onward (Some s) f = f s

-- where lines lead from a state
abbrev pub runs : State → List (List ℕ) → Option State
runs s [] = Some s
runs s (line ∷ lines) = onward (next s line) (λ t. runs t lines)
