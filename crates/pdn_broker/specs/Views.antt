-- What each party sees of a query: its side of each unit's run, on the section of the query's ticket and the unit's number.
use Rattle.std.specs.Prelude.{ℕ, List, [], ◌∷◌, length, map, get_or}
use Rattle.std.specs.List.{range_with_len}
use Rattle.pdn_base.specs.declared.site.Site.{Site}
use Rattle.pdn_base.specs.declared.site.Site.TheVariants.{A, B}
use Rattle.pdn_gmw.specs.Steps.{FinishedHalf}
use Rattle.pdn_gmw.specs.Pairs.{Run}
use Rattle.pdn_site.specs.declared.unit.UnitKind.{UnitKind}
use Rattle.pdn_site.specs.declared.unit.UnitKind.TheVariants as kind
use Rattle.pdn_site.specs.Models.{UnitModel}
use Rattle.pdn_site.specs.Engines.{no_unit, value_of}
use Rattle.pdn_view.specs.declared.view.Party.{Party}
use Rattle.pdn_view.specs.declared.view.Party.TheVariants as party
use Rattle.pdn_view.specs.declared.due.Due.TheVariants as due
use Rattle.pdn_view.specs.Views.{Part, ViewWords, words_of}
use Rattle.pdn_broker.specs.Runs.{Tape}
use Rattle.pdn_broker.specs.Units.{is_dealt, numbers_upto}
use Rattle.pdn_broker.specs.Running.{unit_at, secure_run, root_run}
use Rattle.pdn_broker.specs.Prepared.{PreparedModel}

-- a site's half of a run
abbrev pub half_of : Site → Run → FinishedHalf
half_of A run = run.a
half_of B run = run.b

abbrev pub party_of : Site → Party
party_of A = party.A
party_of B = party.B

-- what a site sees of a unit: of a plain one that it is there, of any other its side of the run
abbrev pub part_by : Site → PreparedModel → Tape → ℕ → ℕ → UnitKind → Part
part_by site p tape ticket u (kind.Plain at) = record { due = due.Plain at (value_of (unit_at p u)); words = words_of [] [] }
part_by site p tape ticket u kind.Secure = record { due = due.Secure (value_of (unit_at p u)); words = (half_of site (secure_run p tape ticket u)).view }
part_by site p tape ticket u kind.Root = record { due = due.Root; words = (half_of site (root_run p tape ticket)).view }

abbrev pub site_part : Site → PreparedModel → Tape → ℕ → ℕ → Part
site_part site p tape ticket u = part_by site p tape ticket u (unit_at p u).kind

-- a site's view: the ticket, both sites' directories, and its part of each unit in order. It doesn't hold the answer.
abbrev pub site_view : Site → PreparedModel → Tape → ℕ → ViewWords
site_view site p tape ticket = record {
  party = party_of site;
  ticket = ticket;
  dirs = p.dirs;
  units = map (site_part site p tape ticket) (range_with_len 0 (length p.units));
}

-- the broker's view: the root's outputs as both sites put them out
abbrev pub broker_view : PreparedModel → Tape → ℕ → ViewWords
broker_view p tape ticket = record {
  party = party.Broker;
  ticket = ticket;
  dirs = p.dirs;
  units = record { due = due.Outputs; words = words_of (root_run p tape ticket).a.outputs (root_run p tape ticket).b.outputs } ∷ [];
}

abbrev pub view_for : Party → PreparedModel → Tape → ℕ → ViewWords
view_for party.A = site_view A
view_for party.B = site_view B
view_for party.Broker = broker_view

-- ---- on the way: what a site sees, told from the runs themselves

-- of a unit with this run
abbrev pub part_on : Site → UnitModel → Run → UnitKind → Part
part_on site unit run (kind.Plain at) = record { due = due.Plain at (value_of unit); words = words_of [] [] }
part_on site unit run kind.Secure = record { due = due.Secure (value_of unit); words = (half_of site run).view }
part_on site unit run kind.Root = record { due = due.Root; words = (half_of site run).view }

-- the place of a unit's run among the runs, one for each unit that is dealt
abbrev pub run_place : List UnitModel → ℕ → ℕ
run_place units u = length (numbers_upto is_dealt units u)

-- of the unit of this number, whatever stands for a run that isn't there
abbrev pub part_from : Site → List UnitModel → List Run → Run → ℕ → Part
part_from site units runs other u = part_on site (get_or units u no_unit) (get_or runs (run_place units u) other) (get_or units u no_unit).kind
