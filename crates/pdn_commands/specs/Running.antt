-- How the queries of a file are answered, one after the other.
use Rattle.std.specs.Prelude.{◌≡◌, ◌<◌, ◌^◌, ℕ, ◌+◌, List, [], ◌∷◌, ◌++◌, length, Option, option_map, IfSome}
use Rattle.std.specs.List.{AllByRecursion}
use Rattle.pdn_schema.specs.Models.{SchemaModel}
use Rattle.pdn_sql.specs.declared.query.Query.{Query}
use Rattle.pdn_view.specs.declared.view.Party.{Party}
use Rattle.pdn_broker.specs.Runs.{Tape}
use Rattle.pdn_desk_keeper.specs.Desks.{DeskHeld}
use Rattle.pdn_query.specs.Answering.{query_script, IsAnswer}
use Rattle.pdn_query.specs.Questions.{Told}
use Rattle.pdn_query.specs.Script.{Script, Finish}

-- a step for each query in order, with its number
abbrev pub numbered : (ℕ → Query → Script → Script) → ℕ → List Query → Script
numbered step number [] = Finish
numbered step number (query ∷ queries) = step number query (numbered step (number + 1) queries)

-- the answer of each query, with the views of these parties on this tape
abbrev pub queries_script : Tape → List Party → SchemaModel → ℕ → List Query → Script
queries_script tape parties s = numbered (query_script tape parties s)

-- the desk after so many more tickets were given
abbrev pub with_given : ℕ → Option DeskHeld → Option DeskHeld
with_given count desk = option_map (λ (held : DeskHeld). record held { next = held.next + count }) desk

-- so many tickets are left
abbrev pub AreLeft : Option DeskHeld → ℕ → Type 0
AreLeft desk count = IfSome desk (λ held. (k : ℕ) → k < count → held.next + k < 2 ^ 40)

-- it is the ticket that is given after so many others
abbrev pub IsGiven : Option DeskHeld → ℕ → ℕ → Type 0
IsGiven desk before ticket = (ticket < 2 ^ 40) × IfSome desk (λ held. ticket ≡ held.next + before)

-- The text is those of these queries, one after the other, before which so many tickets were given; this says what the text of one
-- query is, with its number and ticket.
abbrev pub AreTexts : (ℕ → ℕ → Query → List ℕ → Type 0) → Option DeskHeld → ℕ → ℕ → List Query → List ℕ → Type 0
AreTexts Is desk number before [] text = text ≡ []
AreTexts Is desk number before (query ∷ queries) text = (ticket : ℕ) × (first : List ℕ) × (more : List ℕ) × (text ≡ first ++ more) × IsGiven desk before ticket
    × Is number ticket query first × AreTexts Is desk (number + 1) (before + 1) queries more

-- the text is the answers to these queries
abbrev pub AreAnswers : Tape → List Party → Told → SchemaModel → ℕ → ℕ → List Query → List ℕ → Type 0
AreAnswers tape parties told s = AreTexts (IsAnswer tape parties told.a told.b s) told.desk

-- one of these queries, each before which is taken, by this test, and had a ticket
pub record IsReached (Taken : Query → Type 0) (desk : Option DeskHeld) (queries : List Query) (query : Query) : Type 0 where
  pub before : List Query
  pub later : List Query
  pub stands : queries ≡ before ++ query ∷ later
  pub taken : AllByRecursion Taken before
  pub left : AreLeft desk (length before)
