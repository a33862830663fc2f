-- What a builder holds, and what a call on it makes.
use Rattle.std.specs.Prelude.{◌≡◌, ℕ, ◌+◌, ◌-◌, ◌^◌, ◌<◌, ◌≤◌, List, [], ◌∷◌, ◌++◌, length, take, Option, Some, None, Result, MatchResult, IfOk, Vec, if◌then◌else◌, nat_lt, nat_eq}
use Rattle.std.specs.Global.{Global}
use Rattle.std.specs.List.{All}
use Rattle.pdn_base.specs.declared.site.Site.TheVariants.{A, B}
use Rattle.pdn_circuit.specs.declared.gate.Gate.{Gate}
use Rattle.pdn_circuit.specs.declared.gate.Gate.TheVariants.{Const}
use Rattle.pdn_circuit.specs.declared.tally.Tally.{Tally}
use Rattle.pdn_circuit.specs.declared.tally.Mark.{Mark}
use Rattle.pdn_circuit.specs.declared.tally.BuildErr.{BuildErr}
use Rattle.pdn_circuit.specs.declared.tally.BuildErr.TheVariants.{Full, Memory}
use Rattle.pdn_circuit.specs.Gates.{operands_of, ands, input_count, given_count, AreGates, NamesBelow, LanesFit, TakesNext}
use Rattle.pdn_circuit.specs.Blocks.{Block, Making}

-- the gates so far, and the most And gates and gates that may be
pub record Made : Type 0 where
  pub gates : List Gate
  pub most_ands : ℕ
  pub most_gates : ℕ

-- gates 0 and 1: no lane, and all lanes
abbrev pub constants : List Gate
constants = Const 0 ∷ Const (2 ^ 64 - 1) ∷ []

abbrev pub and_count : List Gate → ℕ
and_count gates = length (ands gates)

-- what every builder keeps
pub record IsMade (made : Made) : Type 0 where
  pub gates : AreGates made.gates
  pub begins : take 2 made.gates ≡ constants
  pub few_ands : and_count made.gates ≤ made.most_ands
  pub few_gates : length made.gates ≤ made.most_gates
  pub most : made.most_gates ≤ 16777216

-- the limit that the first gate passes which is too many, where so many And gates and so many gates may still come:
-- 2 for an And gate too many, else 3
abbrev pub first_over : ℕ → ℕ → List Gate → Option ℕ
first_over and_room room [] = None
first_over and_room room (g ∷ gs) =
    (if nat_lt and_room (length (operands_of g)) then Some 2 else (if nat_eq room 0 then Some 3 else first_over (and_room - length (operands_of g)) (room - 1) gs))

-- the limit that these gates pass, if they don't fit
abbrev pub refusal : Made → List Gate → Option ℕ
refusal made gates = first_over (made.most_ands - and_count made.gates) (made.most_gates - length made.gates) gates

pub record SameBounds (old now : Made) : Type 0 where
  pub ands : now.most_ands ≡ old.most_ands
  pub gates : now.most_gates ≡ old.most_gates

-- the gates of the block were added, and x is what they give
pub record Makes {A : Type 0} (old now : Made) (block : Block A) (x : A) : Type 0 where
  pub gates : now.gates ≡ old.gates ++ block.gates
  pub gives : x ≡ block.result
  pub fits : refusal old block.gates ≡ None
  pub bounds : SameBounds old now

-- the same gates as a builder held before
pub record IsCut (old now : Made) (kept : List Gate) : Type 0 where
  pub gates : now.gates ≡ kept
  pub bounds : SameBounds old now

-- the gates so far stand, and others may have come
pub record Extends (old now : Made) : Type 0 where
  pub gates : take (length old.gates) now.gates ≡ old.gates
  pub bounds : SameBounds old now

-- nothing was added: the block doesn't fit, or memory ran out
abbrev pub Refuses : {A : Type 0} → Made → Made → Block A → BuildErr → Type 0
Refuses old now block (Full limit) = (now ≡ old) × (refusal old block.gates ≡ Some limit)
Refuses old now block Memory = now ≡ old

-- the same, where a part of the block may have been added
abbrev pub Stops : {A : Type 0} → Made → Made → Block A → BuildErr → Type 0
Stops old now block (Full limit) = Extends old now × (refusal old block.gates ≡ Some limit)
Stops old now block Memory = Extends old now

-- the call made this block, or refused
abbrev pub Builds : Made → Made → Making ℕ → Result ℕ BuildErr → Type 0
Builds old now making result = MatchResult result (Makes old now (making (length old.gates))) (Refuses old now (making (length old.gates)))

abbrev pub BuildsList : Made → Made → Making (List ℕ) → Result (Vec ℕ Global) BuildErr → Type 0
BuildsList old now making result = MatchResult result (λ v. Makes old now (making (length old.gates)) v.items) (Refuses old now (making (length old.gates)))

-- the same, where a part of the block may stand after a refusal
abbrev pub Tries : {A : Type 0} → Made → Made → Making A → Result A BuildErr → Type 0
Tries old now making result = MatchResult result (Makes old now (making (length old.gates))) (Stops old now (making (length old.gates)))

abbrev pub TriesList : Made → Made → Making (List ℕ) → Result (Vec ℕ Global) BuildErr → Type 0
TriesList old now making result = MatchResult result (λ v. Makes old now (making (length old.gates)) v.items) (Stops old now (making (length old.gates)))

-- what a call gives are gates of the builder
abbrev pub GivesGate : Made → Result ℕ BuildErr → Type 0
GivesGate now result = IfOk result (λ gate. gate < length now.gates)

abbrev pub GivesGates : Made → Result (Vec ℕ Global) BuildErr → Type 0
GivesGates now result = IfOk result (λ v. All (λ gate. gate < length now.gates) v.items)

-- of the whole, which began at old, this much is made, and this rest is left
pub record Along {A : Type 0} (old : Made) (whole : Making A) (now : Made) (rest : Making A) : Type 0 where
  pub gates : old.gates ++ (whole (length old.gates)).gates ≡ now.gates ++ (rest (length now.gates)).gates
  pub result : (whole (length old.gates)).result ≡ (rest (length now.gates)).result
  pub fits : refusal old (whole (length old.gates)).gates ≡ refusal now (rest (length now.gates)).gates
  pub stands : Extends old now

-- ---- counters
pub record IsTally (tally : Tally) (gates : List Gate) : Type 0 where
  pub ands : tally.ands ≡ and_count gates
  pub a : tally.a ≡ input_count A gates
  pub b : tally.b ≡ input_count B gates
  pub given : tally.given ≡ given_count gates

abbrev pub tally_sum : Tally → Tally → Tally
tally_sum x y = record { ands = x.ands + y.ands; a = x.a + y.a; b = x.b + y.b; given = x.given + y.given }

-- so many gates, of which so many are of each kind
pub record IsMark (mark : Mark) (gates : List Gate) : Type 0 where
  pub count : mark.gates ≡ length gates
  pub tally : IsTally mark.tally gates

-- the gate may come next
pub record IsNext (gates : List Gate) (gate : Gate) : Type 0 where
  pub names : NamesBelow (length gates) gate
  pub lanes : LanesFit gate
  pub number : TakesNext gates gate

-- ---- a builder that begins
abbrev pub nothing_made : ℕ → ℕ → Made
nothing_made ands gates = record { gates = []; most_ands = ands; most_gates = gates }

abbrev pub Starts : ℕ → ℕ → Made → Type 0
Starts ands gates made = made ≡ record { gates = constants; most_ands = ands; most_gates = gates }

abbrev pub StartRefused : ℕ → ℕ → BuildErr → Type 0
StartRefused ands gates (Full limit) = refusal (nothing_made ands gates) constants ≡ Some limit
StartRefused ands gates Memory = Unit {0}
