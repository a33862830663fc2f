-- What the calls on a builder make, and which gates are there.
use Rattle.pdn_base.specs.declared.order.Key.{Key}
use Rattle.pdn_obl_rank.specs.Numbers.{Ranked, RowLanes, ranked_of}
use Rattle.std.specs.Prelude.{◌≡◌, ◌<◌, ◌^◌, ℕ, List, [], slice_index_or, length, Result, MatchResult, Vec}
use Rattle.std.specs.Global.{Global}
use Rattle.std.specs.List.{All, sum_by}
use Rattle.pdn_circuit.specs.declared.tally.BuildErr.{BuildErr}
use Rattle.pdn_circuit.specs.Blocks.{Making}
use Rattle.pdn_obl_rows.specs.Lists.{PaddedList}
use Rattle.pdn_obl_rank.specs.Keys.{compared_gates}
use Rattle.pdn_circuit.specs.Building.{Made, Makes, Stops}

-- a list of what each part gives, where a part of the block may stand after a refusal
abbrev pub TriesItems : {A : Type 0} → Made → Made → Making (List A) → Result (Vec A Global) BuildErr → Type 0
TriesItems old now making result = MatchResult result (λ v. Makes old now (making (length old.gates)) v.items) (Stops old now (making (length old.gates)))

-- these are gates, of which there are so many
abbrev pub GatesThere : ℕ → List ℕ → Type 0
GatesThere count gates = All (λ gate. gate < count) gates

abbrev pub PlanesThere : ℕ → List (List ℕ) → Type 0
PlanesThere count planes = All (GatesThere count) planes

abbrev pub ColumnsThere : ℕ → List (List (List ℕ)) → Type 0
ColumnsThere count columns = All (PlanesThere count) columns

-- the planes have such a word
abbrev pub Reach : ℕ → List (List ℕ) → Type 0
Reach word planes = All (λ plane. word < length plane) planes

abbrev pub ColumnsReach : ℕ → List (List (List ℕ)) → Type 0
ColumnsReach word columns = All (Reach word) columns

-- how many planes the columns at these places have
abbrev pub columns_width : List (List (List ℕ)) → List ℕ → ℕ
columns_width columns places = sum_by (λ place. length (slice_index_or columns place [])) places

-- what is numbered is there: gates, places of columns, and planes of as many words as the valid plane
pub record RankedThere (count : ℕ) (r : Ranked) : Type 0 where
  pub valid_there : GatesThere count r.valid
  pub columns_there : ColumnsThere count r.columns
  pub words : (w : ℕ) → w < length r.valid → ColumnsReach w r.columns
  pub partition_in : All (λ place. place < length r.columns) r.partition
  pub key_in : All (λ place. place < length r.columns) r.key
  pub few : length r.columns < 2 ^ 32
  pub few_words : length r.valid < 2 ^ 32

pub record LanesThere (count : ℕ) (r : Ranked) (lanes : RowLanes) : Type 0 where
  pub valid_there : lanes.valid < count
  pub part_there : GatesThere count lanes.part
  pub key_there : GatesThere count lanes.key
  pub part_wide : length lanes.part ≡ columns_width r.columns r.partition
  pub key_wide : length lanes.key ≡ columns_width r.columns r.key

-- the columns were made, and what is numbered is theirs
pub record Compares (old now : Made) (list : PaddedList) (partition : List ℕ) (order : List Key) (r : Ranked) : Type 0 where
  pub made : Makes old now (compared_gates list order (length old.gates)) r.columns
  pub is : r ≡ ranked_of list partition order r.columns
  pub there : RankedThere (length now.gates) r
