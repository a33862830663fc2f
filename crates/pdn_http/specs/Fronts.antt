-- What the bytes that have come show.
use Rattle.std.specs.Prelude.{◌≤◌, ℕ, List, length, drop}
use Rattle.pdn_schema.specs.declared.schema.Caller.{Caller}
use Rattle.pdn_http.specs.declared.head.Front.{Front}
use Rattle.pdn_http.specs.declared.head.Front.TheVariants as front
use Rattle.pdn_http.specs.Heads.{HasNoHead, NeverHasHead}
use Rattle.pdn_http.specs.Requests.{Heads}

-- what they show: a head that asks for this, or that there is none yet, or never will be
abbrev pub ShowsFront : List Caller → List ℕ → Front → Type 0
ShowsFront callers bytes (front.Head len wanted) = (len ≤ length bytes) × Heads callers bytes wanted (drop len bytes)
ShowsFront callers bytes front.More = HasNoHead bytes
ShowsFront callers bytes front.Never = NeverHasHead bytes
