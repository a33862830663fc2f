-- The runs of a prepared query's units, each on its own section of a tape, and the answer.
use Rattle.std.specs.Prelude.{◌≡◌, ℕ, ◌-◌, List, [], ◌∷◌, ◌++◌, length, get_or, map}
use Rattle.std.specs.List.{flat_map}
use Rattle.pdn_base.specs.Operators.{Rows, listed}
use Rattle.pdn_base.specs.Words.{xor_lists}
use Rattle.pdn_schema.specs.Rows.{union}
use Rattle.pdn_tree.specs.Meaning.{mean}
use Rattle.pdn_obl_rows.specs.Lists.{valid_rows}
use Rattle.pdn_obl_rows.specs.Encoding.{RowsAreOf, list_from}
use Rattle.pdn_dealer.specs.Sections.{layout_of}
use Rattle.pdn_gmw.specs.Pairs.{Run}
use Rattle.pdn_site.specs.Models.{UnitModel}
use Rattle.pdn_site.specs.Laying.{list_words}
use Rattle.pdn_site.specs.Engines.{EngineModel, no_unit, segment_number, value_of, secure_words}
use Rattle.pdn_broker.specs.Runs.{Both, Tape, section_at, run_on}
use Rattle.pdn_broker.specs.Answering.{nothing_given}
use Rattle.pdn_broker.specs.Units.{net_or, secure_numbers}
use Rattle.pdn_broker.specs.Prepared.{PreparedModel, IsPrepared}

-- ---- units

abbrev pub unit_at : PreparedModel → ℕ → UnitModel
unit_at p u = get_or p.units u no_unit

-- the root is the last unit
abbrev pub root_number : PreparedModel → ℕ
root_number p = length p.units - 1

abbrev pub root_of : PreparedModel → UnitModel
root_of p = unit_at p (root_number p)

-- both sites' words of a secure unit, by their engines
abbrev pub engines_own : EngineModel → EngineModel → UnitModel → Both
engines_own a b unit = record { a = secure_words a (segment_number unit) (value_of unit); b = secure_words b (segment_number unit) (value_of unit) }

-- ---- runs

-- the run of a unit's circuit on these words, and on the section that is dealt for this ticket and the unit's number
abbrev pub run_at : PreparedModel → Tape → ℕ → ℕ → Both → Both → Run
run_at p tape ticket u own given = run_on (net_or (unit_at p u).circuit) (section_at tape (record { ticket = ticket; unit = u }) (net_or (unit_at p u).circuit)) own given

-- the run of a secure unit, on both sites' words and on these words of a section
abbrev pub secure_run_on : PreparedModel → ℕ → List ℕ → Run
secure_run_on p u words = run_on (net_or (unit_at p u).circuit) (layout_of (net_or (unit_at p u).circuit) words) (engines_own p.a p.b (unit_at p u)) nothing_given

-- the run of a secure unit, on both sites' words
unfoldable pub secure_run : PreparedModel → Tape → ℕ → ℕ → Run
secure_run p tape ticket u = run_at p tape ticket u (engines_own p.a p.b (unit_at p u)) nothing_given

-- the runs of the secure units, in order
abbrev pub secure_runs : PreparedModel → Tape → ℕ → List Run
secure_runs p tape ticket = map (secure_run p tape ticket) (secure_numbers p.units)

-- what each site's halves of these runs put out, one after the other
abbrev pub outputs_of : List Run → Both
outputs_of runs = record { a = flat_map (λ (run : Run). run.a.outputs) runs; b = flat_map (λ (run : Run). run.b.outputs) runs }

-- the run of the root, on both sites' words and on what the halves of the secure units put out
unfoldable pub root_run : PreparedModel → Tape → ℕ → Run
root_run p tape ticket = run_at p tape ticket (root_number p) p.own (outputs_of (secure_runs p tape ticket))

-- the runs of a query: those of the secure units, in order, and then the root's
abbrev pub runs_of : PreparedModel → Tape → ℕ → List Run
runs_of p tape ticket = secure_runs p tape ticket ++ root_run p tape ticket ∷ []

-- the runs of a query with this ticket, on some tape
abbrev pub AreRuns : PreparedModel → ℕ → List Run → Type 0
AreRuns p ticket runs = (tape : Tape) × (runs ≡ runs_of p tape ticket)

-- the root's run, on some tape
abbrev pub IsRootRun : PreparedModel → ℕ → Run → Type 0
IsRootRun p ticket run = (tape : Tape) × (run ≡ root_run p tape ticket)

-- ---- what the root opens

-- the words that the root's two outputs come to, and the rows that they hold
abbrev pub opened_words : Run → List ℕ
opened_words run = xor_lists run.a.outputs run.b.outputs

abbrev pub opened_list : PreparedModel → Run → Rows
opened_list p run = valid_rows (opened_words run) (list_from 0 p.columns (root_of p).len)

-- the root's outputs are a list of so many rows, and in the query's order its rows are the plan's meaning over the union
pub record Opens (p : PreparedModel) (run : Run) : Type 0 where
  pub same : length run.b.outputs ≡ length run.a.outputs
  pub count : length (opened_words run) ≡ list_words p.columns (root_of p).len
  pub are : RowsAreOf p.columns (opened_list p run)
  pub rows : listed p.order (opened_list p run) ≡ mean (union p.a.tables p.b.tables) p.a.root

-- Whatever the tape, a prepared query's root opens the plan's meaning over the union of both sites' tables.
abbrev pub AnswersMean : Type 0
AnswersMean = (p : PreparedModel) → IsPrepared p → (tape : Tape) (ticket : ℕ) → Opens p (root_run p tape ticket)
