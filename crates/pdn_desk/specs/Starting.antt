-- How a desk is started: the words of its command line, and the schema file.
use Rattle.std.specs.Prelude.{◌≡◌, ◌⊎◌, ℕ, Bool, ◌&&◌, ◌||◌, not, ◌==◌, nat_le, if◌then◌else◌, List, [], ◌∷◌, length, slice_index, take, Option, None, Some, Result, Ok, Err, codes}
use Rattle.std.specs.Option.{option_and_then}
use Rattle.pdn_base.specs.Numbers.{number_of}
use Rattle.pdn_base.specs.Texts.{refusal}
use Rattle.pdn_base.specs.declared.status.Status.{Status}
use Rattle.pdn_base.specs.declared.status.Status.TheVariants as status
use Rattle.pdn_base.specs.declared.status.Who.TheVariants.{Files}
use Rattle.pdn_schema.specs.Models.{SchemaModel}
use Rattle.pdn_schema.specs.Reading.{Says, IsFirstFault}
use Rattle.pdn_schema.specs.Words.{lines_of}
use Rattle.pdn_script.specs.declared.stop.Stop.{Stop}
use Rattle.pdn_script.specs.Stops.{stop_of, IsRefusal}
use Rattle.pdn_script.specs.Ways.{NoMemory}
use Rattle.pdn_query.specs.Questions.{Holds}
use Rattle.pdn_desk.specs.declared.start.Start.{Start}
use Rattle.pdn_desk.specs.declared.numbers.Numbers.{Numbers}

-- ---- the words

-- the port to listen on, how many workers answer a query, and how many connections are served
pub record StartNumbers : Type 0 where
  pub port : ℕ
  pub workers : ℕ
  pub connections : ℕ

abbrev pub start_numbers : ℕ → ℕ → ℕ → StartNumbers
start_numbers port workers connections = record { port = port; workers = workers; connections = connections }

abbrev pub has_no_zero_first : List ℕ → Bool
has_no_zero_first word = nat_le (length word) 1 || not (slice_index word 0 == 48)

-- a number within these bounds, in decimal without a zero first
unfoldable pub number_within : ℕ → ℕ → List ℕ → Option ℕ
number_within least most word = option_and_then (λ n. if nat_le least n && nat_le n most && has_no_zero_first word then Some n else None) (number_of word)

abbrev pub numbers_by : Option ℕ → Option ℕ → Option ℕ → Option StartNumbers
numbers_by (Some port) (Some workers) (Some connections) = Some (start_numbers port workers connections)
numbers_by port workers connections = None

-- `<port> <workers> <connections>`
abbrev pub numbers_of : List (List ℕ) → Option StartNumbers
numbers_of (port ∷ workers ∷ connections ∷ []) = numbers_by (number_within 1 65535 port) (number_within 1 16 workers) (number_within 0 65535 connections)
numbers_of words = None

-- ---- the schema file

-- the file says this schema
abbrev pub IsSchemaThere : Option (List ℕ → Option (List ℕ)) → SchemaModel → Type 0
IsSchemaThere files s = (bytes : List ℕ) × Holds files (codes "net.schema") (Some bytes) × Says bytes s

-- why there is no schema: the file isn't there, it wasn't read, or it says none
abbrev pub WhyNoSchema : Type 0 → Option (List ℕ → Option (List ℕ)) → Status → Type 0
WhyNoSchema rose files (status.NoFile name) = (name ≡ codes "net.schema") × Holds files name None
WhyNoSchema rose files (status.Unavailable who) = (who ≡ Files) × rose
WhyNoSchema rose files (status.Schema line cause) = (bytes : List ℕ) × Holds files (codes "net.schema") (Some bytes) × IsFirstFault (lines_of bytes) line cause
WhyNoSchema rose files other = ⊥

-- ---- what a start comes to

-- the words say the numbers, and the file the schema
pub record IsStart (files : Option (List ℕ → Option (List ℕ))) (words : List (List ℕ)) (start : Start) : Type 0 where
  pub numbers : numbers_of words ≡ Some (start_numbers start.port start.workers.count start.connections)
  pub schema : IsSchemaThere files start.schema

-- why a desk isn't started: the words, or else the schema file
abbrev pub WhyUnstarted : Type 0 → Option (List ℕ → Option (List ℕ)) → List (List ℕ) → Status → Type 0
WhyUnstarted rose files words status.Words = numbers_of words ≡ None
WhyUnstarted rose files words other = ((numbers : StartNumbers) × (numbers_of words ≡ Some numbers)) × WhyNoSchema rose files other

-- want of memory has no cause
abbrev pub IsUnstarted : Type 0 → Option (List ℕ → Option (List ℕ)) → List (List ℕ) → Status → Type 0
IsUnstarted rose files words status.Memory = Unit {0}
IsUnstarted rose files words other = WhyUnstarted rose files words other

-- what is put: the line of a refusal, or a front of it where that put failed, and nothing else
abbrev pub Announces : {T : Type 0} → Type 0 → Result T Status → List ℕ → Type 0
Announces rose (Ok start) out = out ≡ []
Announces rose (Err status.Memory) out = out ≡ []
Announces rose (Err refused) out = (out ≡ refusal [] [] refused) ⊎ (rose × (k : ℕ) × (out ≡ take k (refusal [] [] refused)))

-- ---- what the code's results stand for

abbrev pub seen : Numbers → StartNumbers
seen numbers = start_numbers numbers.port numbers.workers.count numbers.connections

-- the refusal of a status of which this is said, or want of memory
abbrev pub Refuses : (Status → Type 0) → Stop → Type 0
Refuses P stop = ((refused : Status) × IsRefusal [] [] refused stop × P refused) ⊎ (stop_of stop ≡ NoMemory)

-- the status of a schema file's first fault
abbrev pub IsFaultOf : List ℕ → Status → Type 0
IsFaultOf bytes (status.Schema line cause) = IsFirstFault (lines_of bytes) line cause
IsFaultOf bytes other = ⊥
