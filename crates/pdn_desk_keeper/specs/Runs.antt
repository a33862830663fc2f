-- Any calls of one keeper, one after another, and the tickets that they gave.
use Rattle.std.specs.Prelude.{◌≡◌, ◌≤◌, ◌<◌, ◌^◌, nat_lt, ℕ, if◌then◌else◌}
use Rattle.std.specs.Prelude.{List, [], ◌∷◌, map, Option, Some, Ok, Err}
use Rattle.std.specs.List.{All, AllPairs, concat}
use Rattle.pdn_desk_keeper.specs.Desks.{DeskHeld, Step, Ticket, Find, Keep, Count, IsAnswer, Stands}

-- from old, the keeper may answer these calls so, and then holds new
abbrev pub IsRun : Option DeskHeld → List Step → Option DeskHeld → Type 0
IsRun old [] new = new ≡ old
IsRun old (step ∷ steps) new =
    (mid : Option DeskHeld) × IsAnswer old step × Stands old mid step × IsRun mid steps new

-- the tickets that were given; 2 ^ 40 says that there is none left, and is no ticket
abbrev pub tickets : List Step → List ℕ
tickets [] = []
tickets (Ticket (Ok ticket) ∷ steps) =
    if nat_lt ticket (2 ^ 40) then ticket ∷ tickets steps else tickets steps
tickets (Ticket (Err error) ∷ steps) = tickets steps
tickets (Find caller number result ∷ steps) = tickets steps
tickets (Keep caller number kept result ∷ steps) = tickets steps
tickets (Count caller result ∷ steps) = tickets steps

-- each is less than all that come after it
abbrev pub Rising : List ℕ → Type 0
Rising xs = AllPairs (λ x y. x < y) xs

-- The tickets of a run rise, from the next one before it on, and stay below the next one after it.
pub record AreRising (held now : DeskHeld) (given : List ℕ) : Type 0 where
  pub rising : Rising given
  pub within : All (λ ticket. (held.next ≤ ticket) × (ticket < now.next) × (ticket < 2 ^ 40)) given
  pub later : held.next ≤ now.next

-- where the keeper tells what it holds, it does so after each run, whose tickets rise
abbrev pub TicketsRise : Type 0
TicketsRise = (held : DeskHeld) (steps : List Step) (new : Option DeskHeld)
    → IsRun (Some held) steps new
    → (now : DeskHeld) × (new ≡ Some now) × AreRising held now (tickets steps)

-- runs of one keeper, one after another, as those of several commands
abbrev pub AreRuns : Option DeskHeld → List (List Step) → Option DeskHeld → Type 0
AreRuns old [] new = new ≡ old
AreRuns old (run ∷ runs) new = (mid : Option DeskHeld) × IsRun old run mid × AreRuns mid runs new

-- the same over any number of runs: the tickets of all of them, in order, rise
abbrev pub RunsRise : Type 0
RunsRise = (held : DeskHeld) (runs : List (List Step)) (new : Option DeskHeld)
    → AreRuns (Some held) runs new
    → (now : DeskHeld) × (new ≡ Some now) × AreRising held now (concat (map tickets runs))
