-- The gates that number the rows of a list.
use Rattle.std.specs.Prelude.{ℕ, ◌*◌, nat_le, List, [], ◌∷◌, ◌++◌, length, map, replicate}
use Rattle.pdn_base.specs.declared.order.Key.{Key}
use Rattle.pdn_base.specs.declared.marks.Kind.TheVariants as kind
use Rattle.pdn_circuit.specs.declared.gate.Gate.TheVariants.{Const}
use Rattle.pdn_circuit.specs.Blocks.{Making, gives, one, ◌>>=◌, add_bit_gates}
use Rattle.pdn_circuit.specs.Compare.{equal_gates, less_gates}
use Rattle.pdn_circuit.specs.Plain.{truth}
use Rattle.pdn_obl_rows.specs.Encoding.{word_of}
use Rattle.pdn_obl_rows.specs.Lists.{PaddedList}
use Rattle.pdn_obl_rows.specs.Conditions.{and_gates}
use Rattle.pdn_obl_group.specs.Loops.{in_turn, each_word, spread_gates, no_count, counts_column}
use Rattle.pdn_obl_rank.specs.Keys.{sort_key, compared_gates, place_of_key, planes_up, planes_down, word_columns, row_columns, spread_used}

-- the list with a column of counts, of which each word has one
abbrev pub with_counts : PaddedList → List (List ℕ) → PaddedList
with_counts list counters = record { len = list.len; valid = list.valid; kinds = list.kinds ++ kind.Int ∷ []; planes = list.planes ++ counts_column counters }

-- ---- what is numbered: the valid plane, the columns that are compared, and the places among them of the partition and of the sort key
pub record Ranked : Type 0 where
  pub valid : List ℕ
  pub columns : List (List (List ℕ))
  pub partition : List ℕ
  pub key : List ℕ

abbrev pub ranked_of : PaddedList → List ℕ → List Key → List (List (List ℕ)) → Ranked
ranked_of list partition order columns = record {
  valid = list.valid;
  columns = columns;
  partition = partition;
  key = map (place_of_key (length list.kinds) order) (sort_key order (length list.kinds));
}

-- the lanes of word w whose rows stand at place j or later, past the last row too
abbrev pub from_place : ℕ → ℕ → ℕ
from_place j w = word_of (λ row. truth (nat_le j row)) (64 * w) 64

-- row j against word w, whose lanes of the partition and of the key are given: the lanes whose rows are of its partition and
-- come after it, or are equal and not earlier
abbrev pub hit_gates : Ranked → ℕ → List ℕ → List ℕ → ℕ → ℕ → Making ℕ
hit_gates r valid part key j w = do
  same ← equal_gates part (planes_up (word_columns r.columns w r.partition))
  ties ← one (Const (from_place j w))
  before ← less_gates ties key (planes_down (word_columns r.columns w r.key))
  both ← and_gates same before
  and_gates valid both

abbrev pub against_gates : Ranked → ℕ → List ℕ → List ℕ → ℕ → ℕ → List ℕ → Making (List ℕ)
against_gates r valid part key j w counter = do
  hit ← hit_gates r valid part key j w
  add_bit_gates counter hit

-- one row's lanes, each in every lane of a word: its valid lane, those of the partition and those of the key
pub record RowLanes : Type 0 where
  pub valid : ℕ
  pub part : List ℕ
  pub key : List ℕ

abbrev pub lanes_gates : Ranked → ℕ → Making RowLanes
lanes_gates r j = do
  valid ← spread_gates j r.valid
  row ← spread_used r.columns (r.partition ++ r.key) j
  gives (record { valid = valid; part = planes_up (row_columns row r.partition); key = planes_down (row_columns row r.key) })

-- row j against each word
abbrev pub row_gates : Ranked → ℕ → List (List ℕ) → Making (List (List ℕ))
row_gates r j counters = do
  lanes ← lanes_gates r j
  each_word [] (against_gates r lanes.valid lanes.part lanes.key j) counters

-- the list with each row's place as a new last column
abbrev pub number_gates : PaddedList → List ℕ → List Key → Making PaddedList
number_gates list partition order = do
  columns ← compared_gates list order
  counters ← in_turn (row_gates (ranked_of list partition order columns)) 0 list.len (replicate (length list.valid) (no_count list.len))
  gives (with_counts list counters)
