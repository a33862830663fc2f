-- What a command asks of the desk's keeper.
use Rattle.std.specs.Prelude.{ℕ, List, map, Option, Result}
use Rattle.pdn_keeper.specs.declared.site_keeper.KeepErr.{KeepErr}
use Rattle.pdn_desk_keeper.specs.Desks.{DeskHeld, Ticket}
use Rattle.pdn_desk_keeper.specs.Runs.{IsRun}

-- Tickets alone were asked for, and these were the answers. That the tickets of such runs rise is a law of the keeper.
abbrev pub AsksTickets : Option DeskHeld → Option DeskHeld → Type 0
AsksTickets old new = (answers : List (Result ℕ KeepErr)) × IsRun old (map (λ (answer : Result ℕ KeepErr). Ticket answer) answers) new
