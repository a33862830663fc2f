-- Circuits, and the plain value of each gate.
use Rattle.std.specs.Prelude.{◌≡◌, ℕ, ◌+◌, ◌<◌, ◌≤◌, List, [], ◌∷◌, ◌++◌, length, map, take, count_by, slice_index, slice_index_or, Bool, true, false}
use Rattle.std.specs.List.{fold, flat_map}
use Rattle.pdn_base.specs.Words.{◌⊕◌, ◌⊗◌, spread, moved}
use Rattle.pdn_circuit.specs.declared.gate.Gate.{Gate}
use Rattle.pdn_circuit.specs.declared.gate.Gate.TheVariants.{Input, Given, Const, Xor, And, Spread, Move}
use Rattle.pdn_base.specs.declared.site.Site.{Site}
use Rattle.pdn_base.specs.declared.site.Site.TheVariants.{A, B}

pub record Net : Type 0 where
  pub gates : List Gate
  pub outputs : List ℕ
  pub released : Bool

-- the words of each site's Input gates and of the Given gates, in their order
pub record InputWords : Type 0 where
  pub a : List ℕ
  pub b : List ℕ
  pub given : List ℕ

abbrev pub words_of : Site → InputWords → List ℕ
words_of A inputs = inputs.a
words_of B inputs = inputs.b

-- the value of a gate over the values of the gates before it
abbrev pub gate_value : InputWords → List ℕ → Gate → ℕ
gate_value inputs words (Input site index) = slice_index (words_of site inputs) index
gate_value inputs words (Given index) = slice_index inputs.given index
gate_value inputs words (Const word) = word
gate_value inputs words (Xor a b) = slice_index words a ⊕ slice_index words b
gate_value inputs words (And a b) = slice_index words a ⊗ slice_index words b
gate_value inputs words (Spread a lane) = spread (slice_index words a) lane
gate_value inputs words (Move a from count to) = moved (slice_index words a) from count to

abbrev pub next_values : InputWords → List ℕ → Gate → List ℕ
next_values inputs words gate = words ++ gate_value inputs words gate ∷ []

-- the values of all gates
abbrev pub values : InputWords → List Gate → List ℕ
values inputs gates = fold (next_values inputs) [] gates

-- the values of the outputs
abbrev pub output_words : InputWords → Net → List ℕ
output_words inputs net = map (λ o. slice_index (values inputs net.gates) o) net.outputs

-- ---- the And gates, and the Input gates
pub record Pair : Type 0 where
  pub x : ℕ
  pub y : ℕ

-- the words at two places
abbrev pub read_pair : List ℕ → Pair → Pair
read_pair words p = record { x = slice_index words p.x; y = slice_index words p.y }

abbrev pub operands_of : Gate → List Pair
operands_of (And a b) = record { x = a; y = b } ∷ []
operands_of (Input site index) = []
operands_of (Given index) = []
operands_of (Const word) = []
operands_of (Xor a b) = []
operands_of (Spread a lane) = []
operands_of (Move a from count to) = []

-- the operands of each And gate, in gate order
abbrev pub ands : List Gate → List Pair
ands gates = flat_map operands_of gates

abbrev pub is_and : Gate → Bool
is_and (And a b) = true
is_and (Input site index) = false
is_and (Given index) = false
is_and (Const word) = false
is_and (Xor a b) = false
is_and (Spread a lane) = false
is_and (Move a from count to) = false

abbrev pub is_input : Gate → Bool
is_input (Input site index) = true
is_input (Given index) = false
is_input (Const word) = false
is_input (Xor a b) = false
is_input (And a b) = false
is_input (Spread a lane) = false
is_input (Move a from count to) = false

-- the words of both operands of each And gate, in gate order
abbrev pub operand_words : InputWords → List Gate → List Pair
operand_words inputs gates = map (read_pair (values inputs gates)) (ands gates)

-- ---- which gates make a circuit
abbrev pub NamesBelow : ℕ → Gate → Type 0
NamesBelow count (Input site index) = Unit {0}
NamesBelow count (Given index) = Unit {0}
NamesBelow count (Const word) = Unit {0}
NamesBelow count (Xor a b) = (a < count) × (b < count)
NamesBelow count (And a b) = (a < count) × (b < count)
NamesBelow count (Spread a lane) = a < count
NamesBelow count (Move a from count' to) = a < count

-- each gate names earlier gates
pub record InOrder (gates : List Gate) : Type 0 where
  pub at : (k : ℕ) (other : Gate) → k < length gates → NamesBelow k (slice_index_or gates k other)

-- lanes and ranges of lanes lie within a word
abbrev pub LanesFit : Gate → Type 0
LanesFit (Input site index) = Unit {0}
LanesFit (Given index) = Unit {0}
LanesFit (Const word) = Unit {0}
LanesFit (Xor a b) = Unit {0}
LanesFit (And a b) = Unit {0}
LanesFit (Spread a lane) = lane < 64
LanesFit (Move a from count to) = (1 ≤ count) × (from + count ≤ 64) × (to + count ≤ 64)

pub record AllLanesFit (gates : List Gate) : Type 0 where
  pub at : (k : ℕ) (other : Gate) → k < length gates → LanesFit (slice_index_or gates k other)

abbrev pub same_site : Site → Site → Bool
same_site A A = true
same_site A B = false
same_site B A = false
same_site B B = true

abbrev pub is_input_of : Site → Gate → Bool
is_input_of site (Input other index) = same_site site other
is_input_of site (Given index) = false
is_input_of site (Const word) = false
is_input_of site (Xor a b) = false
is_input_of site (And a b) = false
is_input_of site (Spread a lane) = false
is_input_of site (Move a from count to) = false

abbrev pub is_given : Gate → Bool
is_given (Input site index) = false
is_given (Given index) = true
is_given (Const word) = false
is_given (Xor a b) = false
is_given (And a b) = false
is_given (Spread a lane) = false
is_given (Move a from count to) = false

-- how many words of a site, and how many given words, these gates take
abbrev pub input_count : Site → List Gate → ℕ
input_count site gates = count_by (is_input_of site) gates

abbrev pub given_count : List Gate → ℕ
given_count gates = count_by is_given gates

-- an Input gate has the number that comes next for its site, a Given gate the next of the given words
abbrev pub TakesNext : List Gate → Gate → Type 0
TakesNext before (Input site index) = index ≡ input_count site before
TakesNext before (Given index) = index ≡ given_count before
TakesNext before (Const word) = Unit {0}
TakesNext before (Xor a b) = Unit {0}
TakesNext before (And a b) = Unit {0}
TakesNext before (Spread a lane) = Unit {0}
TakesNext before (Move a from count to) = Unit {0}

pub record AllTakeNext (gates : List Gate) : Type 0 where
  pub at : (k : ℕ) (other : Gate) → k < length gates → TakesNext (take k gates) (slice_index_or gates k other)

pub record AreGates (gates : List Gate) : Type 0 where
  pub order : InOrder gates
  pub lanes : AllLanesFit gates
  pub numbers : AllTakeNext gates

-- what every circuit keeps
pub record IsCircuit (net : Net) : Type 0 where
  pub gates : AreGates net.gates
  pub outputs : (k : ℕ) → k < length net.outputs → slice_index net.outputs k < length net.gates
  pub few_gates : length net.gates ≤ 16777216
  pub few_outputs : length net.outputs ≤ 16777216

-- as many words of each site, and as many given words, as the circuit takes
pub record HasCounts (net : Net) (inputs : InputWords) : Type 0 where
  pub a : length inputs.a ≡ input_count A net.gates
  pub b : length inputs.b ≡ input_count B net.gates
  pub given : length inputs.given ≡ given_count net.gates

-- the words that a gate reads are there
abbrev pub CanRead : InputWords → List ℕ → Gate → Type 0
CanRead inputs words (Input site index) = index < length (words_of site inputs)
CanRead inputs words (Given index) = index < length inputs.given
CanRead inputs words (Const word) = Unit {0}
CanRead inputs words (Xor a b) = (a < length words) × (b < length words)
CanRead inputs words (And a b) = (a < length words) × (b < length words)
CanRead inputs words (Spread a lane) = (a < length words) × (lane < 64)
CanRead inputs words (Move a from count to) = (a < length words) × (1 ≤ count) × (from + count ≤ 64) × (to + count ≤ 64)
