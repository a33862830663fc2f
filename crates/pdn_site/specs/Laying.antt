-- Gates that are made one after the other, with input words that are numbered as they come.
use Rattle.std.specs.Prelude.{ℕ, ◌+◌, ◌*◌, List, [], ◌∷◌, map}
use Rattle.std.specs.List.{range_with_len}
use Rattle.pdn_base.specs.declared.marks.Kind.{Kind}
use Rattle.pdn_base.specs.declared.site.Site.{Site}
use Rattle.pdn_base.specs.declared.site.Site.TheVariants.{A, B}
use Rattle.pdn_circuit.specs.declared.gate.Gate.{Gate}
use Rattle.pdn_circuit.specs.declared.gate.Gate.TheVariants.{Input, Given}
use Rattle.pdn_circuit.specs.Blocks.{Making, gives, ◌>>=◌}
use Rattle.pdn_obl_rows.specs.Lists.{PaddedList, widths, words_for}
use Rattle.pdn_obl_rows.specs.Encoding.{list_from}

-- the input words of each site and the given words that have come, and the segments
pub record Taken : Type 0 where
  pub a : ℕ
  pub b : ℕ
  pub given : ℕ
  pub segments : ℕ

abbrev pub nothing : Taken
nothing = record { a = 0; b = 0; given = 0; segments = 0 }

abbrev pub Laying : Type 0 → Type 0
Laying X = Taken → Making (X × Taken)

-- gates that take no words
abbrev pub making : {X : Type 0} → Making X → Laying X
making gates taken = gates >>= λ x. gives (x, taken)

-- one after the other
abbrev pub next : {X Y : Type 0} → Laying X → (X → Laying Y) → Laying Y
next first rest taken = first taken >>= λ x. rest x.0 x.1

abbrev pub each_laid : {X Y : Type 0} → (X → Laying Y) → List X → Laying (List Y)
each_laid f [] = making (gives [])
each_laid f (x ∷ xs) = next (f x) (λ a. next (each_laid f xs) (λ rest. making (gives (a ∷ rest))))

-- ---- lists whose words come from outside
-- the words of a list: its valid plane and the planes of its columns
abbrev pub list_words : List Kind → ℕ → ℕ
list_words kinds len = (widths kinds + 1) * words_for len

-- so many gates of one kind, numbered from `first` on, as a list
abbrev pub list_of : (ℕ → Gate) → ℕ → List Kind → ℕ → Making PaddedList
list_of gate first kinds len = λ n. record {
  gates = map gate (range_with_len first (list_words kinds len));
  result = list_from n kinds len;
}

abbrev pub came_from : Site → Taken → ℕ
came_from A taken = taken.a
came_from B taken = taken.b

abbrev pub with_words : Site → ℕ → Taken → Taken
with_words A count taken = record { a = taken.a + count; b = taken.b; given = taken.given; segments = taken.segments }
with_words B count taken = record { a = taken.a; b = taken.b + count; given = taken.given; segments = taken.segments }

-- the next words of a site, as a list
abbrev pub input_list : Site → List Kind → ℕ → Laying PaddedList
input_list site kinds len taken = list_of (Input site) (came_from site taken) kinds len >>= λ list. gives (list, with_words site (list_words kinds len) taken)

abbrev pub with_given : ℕ → Taken → Taken
with_given count taken = record { a = taken.a; b = taken.b; given = taken.given + count; segments = taken.segments }

-- the next given words, as a list
abbrev pub given_list : List Kind → ℕ → Laying PaddedList
given_list kinds len taken = list_of Given taken.given kinds len >>= λ list. gives (list, with_given (list_words kinds len) taken)
