-- The gates by depth, as a half keeps them.
pub use Rattle.pdn_gmw.specs.declared.layers.LayerAnd.{LayerAnd}
pub use Rattle.pdn_gmw.specs.declared.layers.Leaf.{Leaf}
use Rattle.std.specs.Prelude.{◌≡◌, ℕ, ◌+◌, ◌≤◌, Bool, true, false, ◌&&◌, eqb, List, [], ◌∷◌, ◌++◌, cond, length, take, map, slice_index, slice_index_or}
use Rattle.std.specs.List.{filter, range_with_len, count_by}
use Rattle.pdn_circuit.specs.declared.gate.Gate.{Gate}
use Rattle.pdn_circuit.specs.declared.gate.Gate.TheVariants.{Input, Given, Const, Xor, And, Spread, Move}
use Rattle.pdn_circuit.specs.Gates.{Net, ands}
use Rattle.pdn_circuit.specs.Depths.{depths_of}
use Rattle.pdn_circuit.specs.Gates.{is_and, is_input}
use Rattle.pdn_gmw.specs.Steps.{frame_count}

-- the gates whose shares come of shares alone
abbrev pub is_linear : Gate → Bool
is_linear (Input site index) = false
is_linear (Given index) = false
is_linear (Const word) = false
is_linear (Xor a b) = true
is_linear (And a b) = false
is_linear (Spread a lane) = true
is_linear (Move a from count to) = true

abbrev pub first_of : Gate → ℕ
first_of (And a b) = a
first_of (Input site index) = 0
first_of (Given index) = 0
first_of (Const word) = 0
first_of (Xor a b) = 0
first_of (Spread a lane) = 0
first_of (Move a from count to) = 0

abbrev pub second_of : Gate → ℕ
second_of (And a b) = b
second_of (Input site index) = 0
second_of (Given index) = 0
second_of (Const word) = 0
second_of (Xor a b) = 0
second_of (Spread a lane) = 0
second_of (Move a from count to) = 0

abbrev pub gate_at : List Gate → ℕ → Gate
gate_at gates k = slice_index_or gates k (Const 0)

-- how many And gates stand before gate k
abbrev pub number_of_and : List Gate → ℕ → ℕ
number_of_and gates k = length (ands (take k gates))

abbrev pub and_of : List Gate → ℕ → LayerAnd
and_of gates k = record { gate = k; number = number_of_and gates k; x = first_of (gate_at gates k); y = second_of (gate_at gates k) }

abbrev pub is_layer_and : List Gate → ℕ → ℕ → Bool
is_layer_and gates d k = is_and (gate_at gates k) && eqb (slice_index (depths_of gates) k) d

abbrev pub is_layer_rest : List Gate → ℕ → ℕ → Bool
is_layer_rest gates d k = is_linear (gate_at gates k) && eqb (slice_index (depths_of gates) k) d

pub record LayerWords : Type 0 where
  pub ands : List LayerAnd
  pub rest : List ℕ

abbrev pub no_layer : LayerWords
no_layer = record { ands = []; rest = [] }

-- the And gates and the linear gates of depth d among the first n gates, in gate order
abbrev pub layer_to : List Gate → ℕ → ℕ → LayerWords
layer_to gates n d = record {
  ands = map (and_of gates) (filter (is_layer_and gates d) (range_with_len 0 n));
  rest = filter (is_layer_rest gates d) (range_with_len 0 n);
}

abbrev pub layer_of : List Gate → ℕ → LayerWords
layer_of gates d = layer_to gates (length gates) d

-- a layer with one gate more
abbrev pub layer_more : LayerWords → ℕ → ℕ → Gate → LayerWords
layer_more layer k number gate = record {
  ands = layer.ands ++ cond (is_and gate) (record { gate = k; number = number; x = first_of gate; y = second_of gate } ∷ []) [];
  rest = layer.rest ++ cond (is_linear gate) (k ∷ []) [];
}

-- a layer for each depth
pub record AreByDepth (net : Net) (layers : List LayerWords) : Type 0 where
  pub long : length layers ≡ frame_count net + 1
  pub at : (d : ℕ) → d ≤ frame_count net → slice_index_or layers d no_layer ≡ layer_of net.gates d

-- ---- the gates that read no other
abbrev pub is_leaf : Gate → Bool
is_leaf (Input site index) = true
is_leaf (Given index) = true
is_leaf (Const word) = true
is_leaf (Xor a b) = false
is_leaf (And a b) = false
is_leaf (Spread a lane) = false
is_leaf (Move a from count to) = false

abbrev pub leaf_of : List Gate → ℕ → Leaf
leaf_of gates k = record { at = k; inputs = count_by is_input (take k gates); gate = gate_at gates k }

abbrev pub is_leaf_at : List Gate → ℕ → Bool
is_leaf_at gates k = is_leaf (gate_at gates k)

-- those among the first n gates, in gate order
abbrev pub leaves_to : List Gate → ℕ → List Leaf
leaves_to gates n = map (leaf_of gates) (filter (is_leaf_at gates) (range_with_len 0 n))

abbrev pub leaves_of : List Gate → List Leaf
leaves_of gates = leaves_to gates (length gates)

-- what a gate, before which so many Input gates stand, adds to them
abbrev pub leaf_here : ℕ → ℕ → Gate → List Leaf
leaf_here k inputs gate = cond (is_leaf gate) (record { at = k; inputs = inputs; gate = gate } ∷ []) []

-- ---- the order in which a circuit is run
pub record LayersWords : Type 0 where
  pub leaves : List Leaf
  pub list : List LayerWords

pub record AreLayers (net : Net) (layers : LayersWords) : Type 0 where
  pub leaves : layers.leaves ≡ leaves_of net.gates
  pub list : AreByDepth net layers.list
