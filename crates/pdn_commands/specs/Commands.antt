-- What the words of a command line ask for, and what is then to be done.
use Rattle.std.specs.Prelude.{◌≡◌, ℕ, List, [], ◌∷◌, Bool, true, false, ◌&&◌, ◌||◌, not, nat_le, nat_lt, ◌==◌, length, slice_index, Option, Some, None, codes, if◌then◌else◌}
use Rattle.std.specs.Char.{is_ascii_digit}
use Rattle.std.specs.List.{list_all}
use Rattle.std.specs.Str.{bytes_eq}
use Rattle.std.specs.Option.{option_and_then}
use Rattle.pdn_base.specs.Numbers.{number_of, value_of}
use Rattle.pdn_base.specs.declared.site.Site.{Site}
use Rattle.pdn_base.specs.declared.site.Site.TheVariants.{A, B}
use Rattle.pdn_base.specs.declared.status.Status.TheVariants as status
use Rattle.pdn_view.specs.declared.view.Party.{Party}
use Rattle.pdn_view.specs.declared.view.Party.TheVariants as party
use Rattle.pdn_broker.specs.Runs.{Tape}
use Rattle.pdn_broker.specs.Views.{party_of}
use Rattle.pdn_twin.specs.Twins.{TwinWords}
use Rattle.pdn_query.specs.Script.{Script, refuse}
use Rattle.pdn_query.specs.Showing.{all_parties, parties_of}
use Rattle.pdn_commands.specs.Script.{with_inputs, with_queries, load_script}
use Rattle.pdn_commands.specs.Running.{queries_script}
use Rattle.pdn_commands.specs.Checking.{report_script}
use Rattle.pdn_commands.specs.Generating.{generate_script}
use Rattle.pdn_commands.specs.Twinning.{of_each, of_first, twin_script}
use Rattle.pdn_commands.specs.declared.command.Command.{Command}
use Rattle.pdn_commands.specs.declared.command.Command.TheVariants as command

pub data Task : Type 0 where
  Run : List ℕ → ℕ → List Party → Task  -- the SQL file, how many workers, and whose views are shown
  Check : List ℕ → Task  -- the SQL file
  Twin : Site → List ℕ → List ℕ → ℕ → Task  -- of this site, the SQL file, the folder, and how many workers
  Load : Site → List ℕ → ℕ → List ℕ → Task  -- at this site, of the table of this name, the batch of this number, from the CSV file
  Generate : ℕ → ℕ → ℕ → Task  -- of the network of this seed, with so many patients, and how many workers

-- what a command of the code asks for
abbrev pub seen : Command → Task
seen (command.Run file workers show) = Run file.now workers.count (parties_of show)
seen (command.Check file) = Check file.now
seen (command.Twin site file folder workers) = Twin site file.now folder.now workers.count
seen (command.Load site batch) = Load site batch.table.now batch.number batch.file.now
seen (command.Generate size workers) = Generate size.seed size.patients workers.count

-- 1 to 16, without a leading zero
abbrev pub is_workers : List ℕ → ℕ → Bool
is_workers word n = nat_le 1 n && nat_le n 16 && not (slice_index word 0 == 48)

abbrev pub workers_of : List ℕ → Option ℕ
workers_of word = option_and_then (λ n. if is_workers word n then Some n else None) (number_of word)

abbrev pub site_of : List ℕ → Option Site
site_of word = if bytes_eq word (codes "a") then Some A else if bytes_eq word (codes "b") then Some B else None

-- 0 to 2 ^ 64 - 1, without a leading zero
abbrev pub is_batch : List ℕ → Bool
is_batch word = nat_lt 0 (length word) && nat_le (length word) 20 && list_all is_ascii_digit word && (length word == 1 || not (slice_index word 0 == 48)) && nat_lt (value_of word) 18446744073709551616

abbrev pub batch_of : List ℕ → Option ℕ
batch_of word = if is_batch word then Some (value_of word) else None

abbrev pub load_of : Option Site → List ℕ → Option ℕ → List ℕ → Option Task
load_of (Some site) table (Some number) file = Some (Load site table number file)
load_of site table number file = None

-- `a`, `b`, `broker` or `all`
abbrev pub shown_of : List ℕ → Option (List Party)
shown_of word = if bytes_eq word (codes "a") then Some (party.A ∷ []) else if bytes_eq word (codes "b") then Some (party.B ∷ [])
    else if bytes_eq word (codes "broker") then Some (party.Broker ∷ []) else if bytes_eq word (codes "all") then Some all_parties else None

abbrev pub run_of : List ℕ → Option ℕ → Option (List Party) → Option Task
run_of file (Some workers) (Some parties) = Some (Run file workers parties)
run_of file workers parties = None

-- `run <sqlfile> <workers> show <a, b, broker or all>`
abbrev pub show_task : List ℕ → List ℕ → List ℕ → List ℕ → Option Task
show_task file workers verb word = if bytes_eq verb (codes "show") then run_of file (workers_of workers) (shown_of word) else None

-- the same, or without the two words at its end
abbrev pub run_task : List (List ℕ) → Option Task
run_task (file ∷ workers ∷ []) = run_of file (workers_of workers) (Some [])
run_task (file ∷ workers ∷ verb ∷ word ∷ []) = show_task file workers verb word
run_task words = None

-- `check <sqlfile>`
abbrev pub check_task : List (List ℕ) → Option Task
check_task (file ∷ []) = Some (Check file)
check_task words = None

-- `load <a or b> <table> <batch> <csvfile>`
abbrev pub load_task : List (List ℕ) → Option Task
load_task (site ∷ table ∷ batch ∷ file ∷ []) = load_of (site_of site) table (batch_of batch) file
load_task words = None

abbrev pub twin_of : Option Site → List ℕ → List ℕ → Option ℕ → Option Task
twin_of (Some site) file folder (Some workers) = Some (Twin site file folder workers)
twin_of site file folder workers = None

-- `twin <a or b> <sqlfile> <folder> <workers>`
abbrev pub twin_task : List (List ℕ) → Option Task
twin_task (site ∷ file ∷ folder ∷ workers ∷ []) = twin_of (site_of site) file folder (workers_of workers)
twin_task words = None

-- a number that isn't 0 has no leading zero
abbrev pub is_seed : List ℕ → Bool
is_seed word = nat_le (length word) 1 || not (slice_index word 0 == 48)

-- 0 to 2 ^ 32 - 1, without a leading zero
abbrev pub seed_of : List ℕ → Option ℕ
seed_of word = option_and_then (λ n. if is_seed word then Some n else None) (number_of word)

-- 1 to 100, without a leading zero
abbrev pub is_patients : List ℕ → ℕ → Bool
is_patients word n = nat_le 1 n && nat_le n 100 && not (slice_index word 0 == 48)

abbrev pub patients_of : List ℕ → Option ℕ
patients_of word = option_and_then (λ n. if is_patients word n then Some n else None) (number_of word)

abbrev pub both_of : Option ℕ → Option ℕ → Option (ℕ × ℕ)
both_of (Some seed) (Some patients) = Some (seed, patients)
both_of seed patients = None

abbrev pub size_of : List ℕ → List ℕ → Option (ℕ × ℕ)
size_of seed patients = both_of (seed_of seed) (patients_of patients)

abbrev pub generate_of : Option (ℕ × ℕ) → Option ℕ → Option Task
generate_of (Some size) (Some workers) = Some (Generate size.0 size.1 workers)
generate_of size workers = None

-- `gen <seed> <patients> <workers>`
abbrev pub generate_task : List (List ℕ) → Option Task
generate_task (seed ∷ patients ∷ workers ∷ []) = generate_of (size_of seed patients) (workers_of workers)
generate_task words = None

abbrev pub task_of : List (List ℕ) → Option Task
task_of [] = None
task_of (verb ∷ words) = if bytes_eq verb (codes "run") then run_task words else if bytes_eq verb (codes "load") then load_task words
    else if bytes_eq verb (codes "check") then check_task words else if bytes_eq verb (codes "twin") then twin_task words
    else if bytes_eq verb (codes "gen") then generate_task words else None

abbrev pub same_site : Site → Site → Bool
same_site A A = true
same_site B B = true
same_site site other = false

-- a load at this site is asked for
abbrev pub loads : Site → Option Task → Bool
loads site None = false
loads site (Some (Run file workers parties)) = false
loads site (Some (Check file)) = false
loads site (Some (Twin at file folder workers)) = false
loads site (Some (Load at table number file)) = same_site site at
loads site (Some (Generate seed patients workers)) = false

-- a run, a twin or a `gen` is asked for: only these take tickets
abbrev pub runs : Option Task → Bool
runs None = false
runs (Some (Run file workers parties)) = true
runs (Some (Check file)) = false
runs (Some (Twin site file folder workers)) = true
runs (Some (Load at table number file)) = false
runs (Some (Generate seed patients workers)) = true

-- whose views are asked for
abbrev pub shown : Option Task → List Party
shown None = []
shown (Some (Run file workers parties)) = parties
shown (Some (Check file)) = []
shown (Some (Twin site file folder workers)) = party_of site ∷ []
shown (Some (Load at table number file)) = []
shown (Some (Generate seed patients workers)) = []

abbrev pub run_script : Tape → List Party → List ℕ → Script
run_script tape parties file = with_inputs file (λ s sql. with_queries sql (queries_script tape parties s 1))

abbrev pub check_script : List ℕ → Script
check_script file = with_inputs file (λ s sql. with_queries sql (report_script s))

-- what a task asks for, on this tape, where a twin is put with these views
abbrev pub task_script : (TwinWords → TwinWords) → Tape → Option Task → Script
task_script views tape None = refuse status.Words
task_script views tape (Some (Run file workers parties)) = run_script tape parties file
task_script views tape (Some (Check file)) = check_script file
task_script views tape (Some (Twin site file folder workers)) = twin_script views tape site file folder
task_script views tape (Some (Load site table number file)) = load_script site table number file
task_script views tape (Some (Generate seed patients workers)) = generate_script seed patients

-- what the words ask for, on this tape
abbrev pub script : Tape → List (List ℕ) → Script
script tape words = task_script of_each tape (task_of words)

-- the same, but that a twin is put with the first world's view in both places
abbrev pub one_view_script : Tape → List (List ℕ) → Script
one_view_script tape words = task_script of_first tape (task_of words)

-- Where no views are asked for, the script is the same on every tape.
abbrev pub SameOnTapes : Type 0
SameOnTapes = (tape other : Tape) (words : List (List ℕ)) → shown (task_of words) ≡ [] → script tape words ≡ script other words
