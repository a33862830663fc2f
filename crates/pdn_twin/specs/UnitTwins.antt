-- A unit's runs in two worlds: in the first on its section, in the second on the change of the section.
use Rattle.std.specs.Prelude.{ℕ, List, map}
use Rattle.pdn_base.specs.declared.site.Site.{Site}
use Rattle.pdn_circuit.specs.Gates.{Net, InputWords}
use Rattle.pdn_dealer.specs.Sections.{layout_of}
use Rattle.pdn_gmw.specs.Pairs.{Run}
use Rattle.pdn_shift.specs.Changes.{shift_words}
use Rattle.pdn_broker.specs.Runs.{Tape, world, run_on}
use Rattle.pdn_broker.specs.Answering.{nothing_given}
use Rattle.pdn_broker.specs.Units.{secure_numbers}
use Rattle.pdn_broker.specs.Running.{unit_at, root_number, engines_own, secure_run, secure_runs, outputs_of, root_run}
use Rattle.pdn_broker.specs.Prepared.{PreparedModel}
use Rattle.pdn_worlds.specs.TapeChange.{shift_tape}
use Rattle.pdn_twin.specs.declared.starts.Start.{Start}
use Rattle.pdn_twin.specs.declared.starts.Starts.{Starts}
use Rattle.pdn_twin.specs.declared.unit_twin.UnitTwin.{UnitTwin}
use Rattle.pdn_twin.specs.Twins.{differing, change_at}

-- ---- one circuit

-- the words that it reads, in plain
abbrev pub plain : Start → InputWords
plain start = (world start.own start.given).inputs

abbrev pub changed_section : Site → Net → Starts → List ℕ → List ℕ
changed_section site net starts words = shift_words site net (plain starts.first) (plain starts.second) words

abbrev pub start_on : Net → Start → List ℕ → Run
start_on net start words = run_on net (layout_of net words) start.own start.given

abbrev pub twin_on : Site → Net → ℕ → Starts → List ℕ → UnitTwin
twin_on site net u starts words =
    let changed : List ℕ = changed_section site net starts words in
    record { first = start_on net starts.first words; second = start_on net starts.second changed; change = record { unit = u; places = differing words changed } }

-- ---- the units of a query

abbrev pub secure_start : PreparedModel → ℕ → Start
secure_start p u = record { own = engines_own p.a p.b (unit_at p u); given = nothing_given }

abbrev pub root_start : PreparedModel → List Run → Start
root_start p runs = record { own = p.own; given = outputs_of runs }

abbrev pub secure_starts : PreparedModel → PreparedModel → ℕ → Starts
secure_starts p q u = record { first = secure_start p u; second = secure_start q u }

unfoldable pub secure_twin : Site → PreparedModel → PreparedModel → Tape → ℕ → ℕ → UnitTwin
secure_twin site p q tape ticket u =
    record { first = secure_run p tape ticket u; second = secure_run q (shift_tape site p q ticket tape) ticket u; change = change_at site p q tape ticket u }

-- in unit order; the units of both worlds are the same
abbrev pub secure_twins : Site → PreparedModel → PreparedModel → Tape → ℕ → List UnitTwin
secure_twins site p q tape ticket = map (secure_twin site p q tape ticket) (secure_numbers p.units)

unfoldable pub root_twin : Site → PreparedModel → PreparedModel → Tape → ℕ → UnitTwin
root_twin site p q tape ticket =
    record { first = root_run p tape ticket; second = root_run q (shift_tape site p q ticket tape) ticket; change = change_at site p q tape ticket (root_number p) }
