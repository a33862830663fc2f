-- The bound that callers may rely on.
use Rattle.std.specs.Prelude.{◌-◌, ◌<◌, ◌^◌, List, length}

-- fewer than 2 ^ 32 - 1 entries: lengths, places and counts are then numbers of 32 bits
abbrev pub IsShort : {X : Type 0} → List X → Type 0
IsShort xs = length xs < 2 ^ 32 - 1
