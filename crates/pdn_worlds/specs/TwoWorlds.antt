-- Two worlds of a whole query that a site can't tell apart.
use Rattle.std.specs.Prelude.{◌≡◌, ℕ, false}
use Rattle.pdn_base.specs.declared.site.Site.{Site}
use Rattle.pdn_agree.specs.Agreement.{Union, Agree}
use Rattle.pdn_broker.specs.Runs.{Tape}
use Rattle.pdn_site.specs.Meaning.{AreTables}
use Rattle.pdn_broker.specs.Prepared.{PreparedModel, IsPrepared, prepared_of}
use Rattle.pdn_broker.specs.Views.{site_view}
use Rattle.pdn_worlds.specs.TapeChange.{is_of_query, shift_tape}

abbrev pub union_of : PreparedModel → Union
union_of p = record { a = p.a.tables; b = p.b.tables }

-- One query, made ready over two unions that agree for a site.
pub record AreWorlds (site : Site) (p q : PreparedModel) : Type 0 where
  pub first : IsPrepared p
  pub second : IsPrepared q
  pub schema : q.a.schema ≡ p.a.schema
  pub root : q.a.root ≡ p.a.root
  pub agree : Agree site p.a.schema (union_of p) (union_of q)

-- Every union that agrees for the site gives a second world, with the same units, where its tables have values of the code's types.
abbrev pub SecondWorldLaw : Type 0
SecondWorldLaw = (site : Site) (p : PreparedModel) (u : Union) → IsPrepared p → Agree site p.a.schema (union_of p) u → AreTables p.a.schema u.a → AreTables p.a.schema u.b
    → AreWorlds site p (prepared_of p.a.schema p.a.root u.a u.b p.units)

-- Equal transcripts: what the site sees in the first world on a tape, it sees in the second on the changed tape.
abbrev pub TranscriptLaw : Type 0
TranscriptLaw = (site : Site) (p q : PreparedModel) → AreWorlds site p q → (tape : Tape) (ticket : ℕ)
    → site_view site q (shift_tape site p q ticket tape) ticket ≡ site_view site p tape ticket

-- One to one: the change from the second world to the first, made after it, gives the tape back.
abbrev pub WayBackLaw : Type 0
WayBackLaw = (site : Site) (p q : PreparedModel) → AreWorlds site p q → (tape : Tape) (ticket at u place : ℕ)
    → shift_tape site q p ticket (shift_tape site p q ticket tape) at u place ≡ tape at u place

-- The change touches only words of the query's sections, which are the same in both worlds.
pub record KeepsOthers (site : Site) (p q : PreparedModel) (tape : Tape) (ticket at u place : ℕ) : Type 0 where
  pub same : is_of_query q ticket at u place ≡ is_of_query p ticket at u place
  pub kept : is_of_query p ticket at u place ≡ false → shift_tape site p q ticket tape at u place ≡ tape at u place

abbrev pub OthersLaw : Type 0
OthersLaw = (site : Site) (p q : PreparedModel) → AreWorlds site p q → (tape : Tape) (ticket at u place : ℕ) → KeepsOthers site p q tape ticket at u place

-- A view reads the words of its own ticket alone: so the changes of queries with different tickets, one after the other, leave each
-- query's view as its own change does.
abbrev pub OwnTicketLaw : Type 0
OwnTicketLaw = (site : Site) (p : PreparedModel) (tape other : Tape) (ticket : ℕ) → ((u place : ℕ) → other ticket u place ≡ tape ticket u place)
    → site_view site p other ticket ≡ site_view site p tape ticket
