-- A laying as a builder makes it: its input words and given words are numbered by those that the builder has.
use Rattle.std.specs.Prelude.{◌≡◌, ℕ, Bool, List, length, map, Result, MatchResult}
use Rattle.std.specs.List.{range_with_len}
use Rattle.pdn_base.specs.declared.marks.Kind.{Kind}
use Rattle.pdn_base.specs.declared.site.Site.TheVariants.{A, B}
use Rattle.pdn_circuit.specs.declared.gate.Gate.{Gate}
use Rattle.pdn_circuit.specs.declared.tally.BuildErr.{BuildErr}
use Rattle.pdn_circuit.specs.Gates.{input_count, given_count}
use Rattle.pdn_circuit.specs.Blocks.{Making}
use Rattle.pdn_circuit.specs.Building.{Made, Makes, Stops}
use Rattle.pdn_obl_rows.specs.Lists.{PaddedList, IsShaped}
use Rattle.pdn_schema.specs.Models.{SchemaModel}
use Rattle.pdn_base.specs.declared.value.Value.{Value}
use Rattle.pdn_tree.specs.declared.node.Node.{Node, out-Node}
use Rattle.pdn_tree.specs.declared.node.Node.TheFolds.{map-Node}
use Rattle.pdn_level.specs.declared.staged.Leaf.{Leaf}
use Rattle.pdn_level.specs.Padding.{Padding}
use Rattle.pdn_site.specs.Laying.{Taken, Laying}
use Rattle.pdn_site.specs.Circuits.{Laid, laid_leaf, laid_step, is_cut}
use Rattle.pdn_site.specs.Through.{through}

-- so many gates of one kind, numbered from `from` on; gives the first
abbrev pub words_gates : (ℕ → Gate) → ℕ → ℕ → Making ℕ
words_gates gate from count = λ n. record { gates = map gate (range_with_len from count); result = n }

-- the words that these gates take, after so many segments
abbrev pub taken_by : List Gate → ℕ → Taken
taken_by gates segments = record { a = input_count A gates; b = input_count B gates; given = given_count gates; segments = segments }

-- The call laid this list from `before` segments to `after`, or stopped, when a part of its gates may stand.
abbrev pub Lays : Made → Made → ℕ → ℕ → Laying PaddedList → Result PaddedList BuildErr → Type 0
Lays old new before after laying result =
    MatchResult result (λ list. Makes old new (laying (taken_by old.gates before) (length old.gates)) (list, taken_by new.gates after)) (Stops old new (laying (taken_by old.gates before) (length old.gates)))

-- a list of so many rows of these kinds
pub record IsListOf (columns : List Kind) (rows : ℕ) (list : PaddedList) : Type 0 where
  pub kinds : list.kinds ≡ columns
  pub len : list.len ≡ rows
  pub shaped : IsShaped list

-- what is laid of a tree in a secure unit of this value, along leaves
abbrev pub laid_through : SchemaModel → Value → Node → List Leaf → Laid
laid_through schema v n leaves = (through (laid_leaf schema) (laid_step v) n).at leaves

-- whether all groups of a tree's operator, or all rows that it keeps once, hold the unit's value
abbrev pub cut_through : SchemaModel → Value → Node → List Leaf → Bool
cut_through schema v n leaves = is_cut (map-Node Node Padding (λ m. (laid_through schema v m leaves).padding) (out-Node n))

-- a list of the root, and the number of the segment that comes next after it
pub record Rooting : Type 0 where
  pub list : PaddedList
  pub segments : ℕ

-- The call laid this list, where segment i came next, or stopped, when a part of its gates may stand.
abbrev pub LaysFrom : Made → Made → ℕ → Laying PaddedList → Result Rooting BuildErr → Type 0
LaysFrom old new i laying result =
    MatchResult result (λ found. Makes old new (laying (taken_by old.gates i) (length old.gates)) (found.list, taken_by new.gates found.segments)) (Stops old new (laying (taken_by old.gates i) (length old.gates)))
