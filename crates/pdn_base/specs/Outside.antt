-- What every outside object has: a count of its faults, and what it holds where it tells that.
use Rattle.std.specs.Prelude.{ℕ, ◌+◌, ◌-◌, ◌^◌, ◌≤◌, ◌&&◌, ◌||◌, min, Bool, not, nat_eq, nat_le, List, ◌++◌, take, length, Option, if◌then◌else◌}
use Rattle.std.specs.List.{find, list_any}
use Rattle.std.specs.Option.{option_map}
use Rattle.std.specs.Str.{bytes_eq}
use Rattle.std.specs.Io.KnownBytes.{Appends}

-- one more, up to the type's end
abbrev pub one_more : ℕ → ℕ
one_more count = min (count + 1) (2 ^ 64 - 1)

-- a count rose, or stands at its type's end
abbrev pub Rose : ℕ → ℕ → Type 0
Rose before now = one_more before ≤ now

-- a call's count has not fallen, and the call failed only where it rose
pub record HasCause (before now : ℕ) (fails : Type 0) : Type 0 where
  pub later : before ≤ now
  pub failed : fails → Rose before now

-- told bytes grow by a front of these
abbrev pub AppendsFront : Option (List ℕ) → Option (List ℕ) → List ℕ → Type 0
AppendsFront old new bytes = (k : ℕ) × Appends old new (take k bytes)

-- The calls of an object in memory: the numbers of those that are to fail, how many were made, and how many failed.
pub record CallsMade : Type 0 where
  pub fail : List ℕ
  pub made : ℕ
  pub faults : ℕ

-- no call yet
abbrev pub no_calls : List ℕ → CallsMade
no_calls fail = record { fail = fail; made = 0; faults = 0 }

-- whether the next call is to fail
abbrev pub fails_next : CallsMade → Bool
fails_next calls = list_any (λ number. nat_eq number (one_more calls.made)) calls.fail

-- a fault is counted
abbrev pub faulted : CallsMade → CallsMade
faulted calls = record calls { faults = one_more calls.faults }

-- one more call
abbrev pub called : CallsMade → CallsMade
called calls = record calls { made = one_more calls.made; faults = if fails_next calls then one_more calls.faults else calls.faults }

-- a file in memory
pub record NamedBytes : Type 0 where
  pub name : List ℕ
  pub bytes : List ℕ

abbrev pub named : List ℕ → List ℕ → NamedBytes
named name bytes = record { name = name; bytes = bytes }

-- what the first of these files that has the name holds
abbrev pub content_of : List NamedBytes → List ℕ → Option (List ℕ)
content_of files name = option_map (λ (file : NamedBytes). file.bytes) (find (λ (file : NamedBytes). bytes_eq file.name name) files)

-- files in memory, and the calls that were made of them
pub record FilesHeld : Type 0 where
  pub files : List NamedBytes
  pub calls : CallsMade

-- a sink in memory: what it has taken, its room in bytes, and the calls that were made of it
pub record SinkHeld : Type 0 where
  pub bytes : List ℕ
  pub room : ℕ
  pub calls : CallsMade

-- whether a sink takes all of so many bytes at its next call
abbrev pub takes_all : SinkHeld → ℕ → Bool
takes_all sink count = not (fails_next sink.calls) && nat_le count (sink.room - length sink.bytes)

-- a sink after one more call with these bytes: a call that is to fail takes none of them, any other what fits, and where
-- they don't all fit, that is a fault
abbrev pub after_put : SinkHeld → List ℕ → SinkHeld
after_put sink bytes = record sink {
  bytes = sink.bytes ++ take (if fails_next sink.calls then 0 else sink.room - length sink.bytes) bytes;
  calls = if fails_next sink.calls || takes_all sink (length bytes) then called sink.calls else faulted (called sink.calls);
}
