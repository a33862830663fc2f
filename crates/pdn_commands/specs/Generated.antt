-- When `gen` is refused, and what its Done comes with.
use Rattle.std.specs.Prelude.{◌≡◌, ◌+◌, ◌^◌, IfSome, ℕ, List, length, Some, Ok, Err}
use Rattle.pdn_schema.specs.Rows.{union}
use Rattle.pdn_sql.specs.declared.query.Query.{Query}
use Rattle.pdn_plan.specs.Answer.{answer}
use Rattle.pdn_plan.specs.Planning.{root}
use Rattle.pdn_site.specs.Models.{UnitModel}
use Rattle.pdn_site.specs.Compiling.{Compiled}
use Rattle.pdn_network.specs.Network.{network_schema, tables_a, tables_b}
use Rattle.pdn_network.specs.Standing.{standing}
use Rattle.pdn_gen.specs.Gen.{short_text}
use Rattle.pdn_query.specs.Answering.{units_over}
use Rattle.pdn_query.specs.Questions.{Told, with_desk}
use Rattle.pdn_commands.specs.Commands.{Generate, task_of}
use Rattle.pdn_commands.specs.Running.{IsReached, AreTexts, with_given}

-- A network of this seed with so many patients is asked for.
pub record AskedNetwork (words : List (List ℕ)) : Type 0 where
  pub seed : ℕ
  pub patients : ℕ
  pub workers : ℕ
  pub asked : task_of words ≡ Some (Generate seed patients workers)

-- a query's units over the network's tables
abbrev pub network_units : ℕ → ℕ → Query → Compiled
network_units seed patients query = units_over network_schema (root network_schema query) (tables_a seed patients) (tables_b seed patients)

-- its units pass no limit
abbrev pub IsSmall : ℕ → ℕ → Query → Type 0
IsSmall seed patients query = (units : List UnitModel) × (network_units seed patients query ≡ Ok units)

-- a standing query is reached, of which this unit is the first that passes a limit
pub record IsLargeNetwork (told : Told) (words : List (List ℕ)) (limit unit : ℕ) : Type 0 where
  pub network : AskedNetwork words
  pub query : Query
  pub reached : IsReached (IsSmall network.seed network.patients) told.desk standing query
  pub passes : network_units network.seed network.patients query ≡ Err (limit, unit)

-- a standing query is reached whose units pass no limit, and no ticket is left
pub record IsNetworkSpent (told : Told) (words : List (List ℕ)) : Type 0 where
  pub network : AskedNetwork words
  pub query : Query
  pub reached : IsReached (IsSmall network.seed network.patients) told.desk standing query
  pub small : IsSmall network.seed network.patients query
  pub spent : IfSome told.desk (λ held. held.next + length reached.before ≡ 2 ^ 40)

-- The text is the answer in short to the query of this number: the rows that it means over the union of both sites' tables, and how
-- many units it has.
abbrev pub IsShort : ℕ → ℕ → ℕ → ℕ → Query → List ℕ → Type 0
IsShort seed patients number ticket query text =
    (small : IsSmall seed patients query) × (text ≡ short_text seed patients number (answer network_schema (union (tables_a seed patients) (tables_b seed patients)) query) (length small.0))

-- the standing queries' answers in short; what the sites keep is as it was, and the desk gave a ticket for each query
pub record IsGenerated (told : Told) (words : List (List ℕ)) (text : List ℕ) (now : Told) : Type 0 where
  pub network : AskedNetwork words
  pub answers : AreTexts (IsShort network.seed network.patients) told.desk 1 0 standing text
  pub given : now ≡ with_desk told (with_given (length standing) told.desk)
