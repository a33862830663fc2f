-- A link in memory, and what its calls give and leave.
use Rattle.std.specs.Prelude.{ℕ, min, List, [], length, drop, Result, Ok, Err, if◌then◌else◌}
use Rattle.pdn_base.specs.Outside.{SinkHeld, no_calls, called, fails_next}
use Rattle.pdn_link.specs.declared.link.LinkErr.{LinkErr}
use Rattle.pdn_link.specs.declared.link.LinkErr.TheVariants.{Failed}

-- what its peer will still send, and what it has taken, with the calls that were made of the link
pub record LinkHeld : Type 0 where
  pub left : List ℕ
  pub out : SinkHeld

-- a link of which no call was made
abbrev pub new_link : List ℕ → ℕ → List ℕ → LinkHeld
new_link input room fail = record { left = input; out = record { bytes = []; room = room; calls = no_calls fail } }

-- how many bytes the next call receives with this room: as many as there are, where they fit
abbrev pub received : LinkHeld → ℕ → Result ℕ LinkErr
received link room = if fails_next link.out.calls then Err Failed else Ok (min room (length link.left))

-- the link after that call, which has lost what was received
abbrev pub after_recv : LinkHeld → ℕ → LinkHeld
after_recv link room = record {
  left = if fails_next link.out.calls then link.left else drop (min room (length link.left)) link.left;
  out = record link.out { calls = called link.out.calls };
}
