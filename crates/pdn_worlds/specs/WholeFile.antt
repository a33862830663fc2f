-- A file of queries on one tape, each in two worlds.
use Rattle.std.specs.Prelude.{◌≡◌, ◌≢◌, ℕ, List, [], ◌∷◌, map}
use Rattle.std.specs.List.{AllByRecursion}
use Rattle.pdn_base.specs.declared.site.Site.{Site}
use Rattle.pdn_view.specs.Views.{ViewWords}
use Rattle.pdn_broker.specs.Runs.{Tape}
use Rattle.pdn_broker.specs.Prepared.{PreparedModel}
use Rattle.pdn_broker.specs.Views.{site_view}
use Rattle.pdn_worlds.specs.TapeChange.{shift_tape}
use Rattle.pdn_worlds.specs.TwoWorlds.{AreWorlds}

-- a query with its ticket, made ready in both worlds
pub record Query : Type 0 where
  pub ticket : ℕ
  pub first : PreparedModel
  pub second : PreparedModel

abbrev pub shift_query : Site → Query → Tape → Tape
shift_query site query tape = shift_tape site query.first query.second query.ticket tape

-- the changes of all queries, one after the other
abbrev pub shift_file : Site → List Query → Tape → Tape
shift_file site [] tape = tape
shift_file site (query ∷ queries) tape = shift_file site queries (shift_query site query tape)

-- what a site sees of a query in each world
abbrev pub seen_first : Site → Tape → Query → ViewWords
seen_first site tape query = site_view site query.first tape query.ticket

abbrev pub seen_second : Site → Tape → Query → ViewWords
seen_second site tape query = site_view site query.second tape query.ticket

abbrev pub AllAreWorlds : Site → List Query → Type 0
AllAreWorlds site queries = AllByRecursion (λ query. AreWorlds site query.first query.second) queries

-- no ticket is used twice
abbrev pub UsesTicketsOnce : List Query → Type 0
UsesTicketsOnce [] = Unit {0}
UsesTicketsOnce (query ∷ queries) = AllByRecursion (λ other. other.ticket ≢ query.ticket) queries × UsesTicketsOnce queries

-- All views of a file at once are the same in the second worlds, on the tape that every query has changed.
abbrev pub FileLaw : Type 0
FileLaw = (site : Site) (queries : List Query) (tape : Tape) → AllAreWorlds site queries → UsesTicketsOnce queries
    → map (seen_second site (shift_file site queries tape)) queries ≡ map (seen_first site tape) queries

-- The same query with its worlds exchanged.
abbrev pub exchanged : Query → Query
exchanged query = record { ticket = query.ticket; first = query.second; second = query.first }

-- One to one, too: the changes with the worlds exchanged give each word of the tape back.
abbrev pub FileBackLaw : Type 0
FileBackLaw = (site : Site) (queries : List Query) (tape : Tape) → AllAreWorlds site queries → UsesTicketsOnce queries → (at u place : ℕ)
    → shift_file site (map exchanged queries) (shift_file site queries tape) at u place ≡ tape at u place
