-- A query in two worlds: a site's view in each, and where the tape is changed.
use Rattle.std.specs.Prelude.{◌≡◌, ℕ, Bool, not, ◌==◌, List, [], length, map, filter, slice_index}
use Rattle.std.specs.List.{range_with_len}
use Rattle.pdn_base.specs.declared.site.Site.{Site}
use Rattle.pdn_view.specs.Views.{ViewWords}
use Rattle.pdn_broker.specs.Runs.{Tape}
use Rattle.pdn_broker.specs.Units.{is_dealt, numbers_upto}
use Rattle.pdn_broker.specs.Prepared.{PreparedModel}
use Rattle.pdn_broker.specs.Views.{site_view}
use Rattle.pdn_worlds.specs.TapeChange.{section_length_at, section_words, changed_words, shift_tape}
use Rattle.pdn_worlds.specs.TwoWorlds.{KeepsOthers}

abbrev pub differs : List ℕ → List ℕ → ℕ → Bool
differs old new place = not (slice_index old place == slice_index new place)

-- the places at which two lists of one length differ, ascending
abbrev pub differing : List ℕ → List ℕ → List ℕ
differing old new = filter (differs old new) (range_with_len 0 (length old))

-- a unit whose section was dealt, and the places of the section that the change alters
pub record ChangeWords : Type 0 where
  pub unit : ℕ
  pub places : List ℕ

abbrev pub change_at : Site → PreparedModel → PreparedModel → Tape → ℕ → ℕ → ChangeWords
change_at site p q tape ticket u = record { unit = u; places = differing (section_words p tape ticket u) (changed_words site p q tape ticket u) }

-- each dealt unit in order
abbrev pub changes : Site → PreparedModel → PreparedModel → Tape → ℕ → List ChangeWords
changes site p q tape ticket = map (change_at site p q tape ticket) (numbers_upto is_dealt p.units (length p.units))

pub record TwinWords : Type 0 where
  pub first : ViewWords
  pub second : ViewWords
  pub changed : List ChangeWords

-- the site's view in the first world on the tape, and in the second on the changed tape
pub record IsTwin (site : Site) (p q : PreparedModel) (tape : Tape) (ticket : ℕ) (twin : TwinWords) : Type 0 where
  pub first : twin.first ≡ site_view site p tape ticket
  pub second : twin.second ≡ site_view site q (shift_tape site p q ticket tape) ticket
  pub equal : twin.second ≡ twin.first
  pub changed : twin.changed ≡ changes site p q tape ticket

-- ---- what the worlds and the change are, whatever the tape

-- all that isn't a row is the same in both worlds: the directories, and the units with their kinds, values, lengths and circuits
pub record AreShapedAlike (p q : PreparedModel) : Type 0 where
  pub dirs : q.dirs ≡ p.dirs
  pub units : q.units ≡ p.units

-- what the site sees in the first world on a tape, it sees in the second on the changed tape
abbrev pub SeesTheSame : Site → PreparedModel → PreparedModel → ℕ → Type 0
SeesTheSame site p q ticket = (tape : Tape) → site_view site q (shift_tape site p q ticket tape) ticket ≡ site_view site p tape ticket

-- made the other way, after it, the change gives the tape back
abbrev pub GivesBack : Site → PreparedModel → PreparedModel → ℕ → Type 0
GivesBack site p q ticket = (tape : Tape) (at u place : ℕ) → shift_tape site q p ticket (shift_tape site p q ticket tape) at u place ≡ tape at u place

-- it alters only words of the query's sections
abbrev pub KeepsTheRest : Site → PreparedModel → PreparedModel → ℕ → Type 0
KeepsTheRest site p q ticket = (tape : Tape) (at u place : ℕ) → KeepsOthers site p q tape ticket at u place

-- and each section keeps its length
abbrev pub KeepsLengths : Site → PreparedModel → PreparedModel → ℕ → Type 0
KeepsLengths site p q ticket = (tape : Tape) (u : ℕ) → length (changed_words site p q tape ticket u) ≡ section_length_at p u
