-- What a seat shows.
use Rattle.std.specs.Prelude.{◌≡◌, ℕ, List, []}
use Rattle.pdn_pool.specs.declared.claims.Claims.{Claims}
use Rattle.pdn_pool.specs.declared.claims.Seat.{Seat}

-- the numbers that the seat drew, in order
abbrev pub drawn : Seat → List ℕ
drawn seat = seat.seat.me.0.drawn

-- the seat's part of the right to draw, of 65535 in all
abbrev pub weight : Seat → ℕ
weight seat = seat.seat.me.0.weight

-- the seat draws from this word
abbrev pub IsSeatOf : Claims → Seat → Type 0
IsSeatOf claims seat = seat.seat.table_id ≡ claims.table.shared.table_id

-- it did not draw yet
abbrev pub IsFresh : Claims → Seat → Type 0
IsFresh claims seat = IsSeatOf claims seat × (drawn seat ≡ [])
