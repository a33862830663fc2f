-- The change of a query's tape between two worlds.
use Rattle.std.specs.Prelude.{ℕ, Bool, ◌&&◌, ◌==◌, nat_lt, if◌then◌else◌, List, length, slice_index}
use Rattle.pdn_base.specs.declared.site.Site.{Site}
use Rattle.pdn_dealer.specs.Sections.{section_length}
use Rattle.pdn_dealer.specs.Tapes.{first_words}
use Rattle.pdn_shift.specs.Changes.{shift_words}
use Rattle.pdn_broker.specs.Runs.{Tape}
use Rattle.pdn_broker.specs.Units.{is_dealt}
use Rattle.pdn_broker.specs.Running.{unit_at}
use Rattle.pdn_broker.specs.Prepared.{PreparedModel}
use Rattle.pdn_worlds.specs.PlainWords.{net_at, plain_at}

-- how many words the section of a unit has
abbrev pub section_length_at : PreparedModel → ℕ → ℕ
section_length_at p u = section_length (net_at p u)

-- a section is dealt for the unit of this number
abbrev pub has_section : PreparedModel → ℕ → Bool
has_section p u = nat_lt u (length p.units) && is_dealt (unit_at p u).kind

-- the section of a unit, for the query's ticket
abbrev pub section_words : PreparedModel → Tape → ℕ → ℕ → List ℕ
section_words p tape ticket u = first_words (tape ticket u) (section_length_at p u)

-- the same after the change of this site, from the world p to the world q
abbrev pub changed_words : Site → PreparedModel → PreparedModel → Tape → ℕ → ℕ → List ℕ
changed_words site p q tape ticket u = shift_words site (net_at p u) (plain_at p u) (plain_at q u) (section_words p tape ticket u)

-- a word that is the query's: of this ticket, of a unit that has a section, within it
abbrev pub is_of_query : PreparedModel → ℕ → ℕ → ℕ → ℕ → Bool
is_of_query p ticket at u place = at == ticket && (has_section p u && nat_lt place (section_length_at p u))

-- The tape with each section of the query changed. All other words are kept.
abbrev pub shift_tape : Site → PreparedModel → PreparedModel → ℕ → Tape → Tape
shift_tape site p q ticket tape at u place =
    if is_of_query p ticket at u place then slice_index (changed_words site p q tape ticket u) place else tape at u place
