-- What a desk's keeper holds, what it answers, and what stands after each of its calls.
use Rattle.std.specs.Prelude.{◌≡◌, ◌⊎◌, ◌+◌, ◌^◌, ◌==◌, ◌&&◌, nat_lt, ℕ, Bool, if◌then◌else◌, ⊤}
use Rattle.std.specs.Prelude.{List, [], ◌∷◌, ◌++◌, count_by, Option, Some, option_map, IfSome}
use Rattle.std.specs.Prelude.{Result, Ok, Err, IfOk, IsErrOf}
use Rattle.std.specs.List.{find}
use Rattle.pdn_base.specs.Bounds.{IsShort}
use Rattle.pdn_base.specs.Outside.{CallsMade, no_calls, fails_next, HasCause}
use Rattle.pdn_keeper.specs.declared.site_keeper.KeepErr.{KeepErr}
use Rattle.pdn_keeper.specs.declared.site_keeper.KeepErr.TheVariants.{Failed, Memory}

-- what is kept of a call: its query's text, and the body of the reply
pub record KeptText : Type 0 where
  pub text : List ℕ
  pub body : List ℕ

-- a call that is kept, by its caller and its number
pub record KeptCall : Type 0 where
  pub caller : ℕ
  pub number : ℕ
  pub kept : KeptText

abbrev pub kept_call : ℕ → ℕ → KeptText → KeptCall
kept_call caller number kept = record { caller = caller; number = number; kept = kept }

-- the next ticket, and the calls that are kept, in the order in which they were
pub record DeskHeld : Type 0 where
  pub next : ℕ
  pub calls : List KeptCall

-- a desk's keeper in memory, and the calls that were made of it
pub record DeskMemory : Type 0 where
  pub held : DeskHeld
  pub made : CallsMade

-- nothing is kept, and no call was made yet
abbrev pub empty_desk : ℕ → List ℕ → DeskMemory
empty_desk next fail = record { held = record { next = next; calls = [] }; made = no_calls fail }

-- what a call in memory gives that wants no memory itself
abbrev pub unless_failing : {T : Type 0} → CallsMade → T → Result T KeepErr
unless_failing made value = if fails_next made then Err Failed else Ok value

-- a call's count of faults has not fallen, and the call failed only where it rose
abbrev pub IsCounted : {T : Type 0} → ℕ → ℕ → Result T KeepErr → Type 0
IsCounted before now result = HasCause before now (IsErrOf result Failed)

-- lists whose lengths are numbers of 32 bits
abbrev pub IsShortText : KeptText → Type 0
IsShortText kept = IsShort kept.text × IsShort kept.body

-- it is this caller's call of this number
abbrev pub is_call : ℕ → ℕ → KeptCall → Bool
is_call caller number call = call.caller == caller && call.number == number

-- what is kept for a caller's number
abbrev pub kept_text : ℕ → ℕ → List KeptCall → Option KeptText
kept_text caller number calls =
    option_map (λ (call : KeptCall). call.kept) (find (is_call caller number) calls)

-- how many calls are kept for a caller
abbrev pub count_calls : ℕ → List KeptCall → ℕ
count_calls caller calls = count_by (λ (call : KeptCall). call.caller == caller) calls

-- the ticket after this one; at 2 ^ 40 there is none left
abbrev pub after_ticket : ℕ → ℕ
after_ticket ticket = if nat_lt ticket (2 ^ 40) then ticket + 1 else ticket

-- a ticket is taken
abbrev pub with_ticket : Option DeskHeld → Option DeskHeld
with_ticket held =
    option_map (λ (desk : DeskHeld). record desk { next = after_ticket desk.next }) held

-- a call is kept
abbrev pub with_call : KeptCall → Option DeskHeld → Option DeskHeld
with_call call held =
    option_map (λ (desk : DeskHeld). record desk { calls = desk.calls ++ call ∷ [] }) held

-- a call of a desk's keeper, with what it answered
pub data Step : Type 0 where
  Ticket : Result ℕ KeepErr → Step  -- the next ticket
  Find : ℕ → ℕ → Result (Option KeptText) KeepErr → Step  -- what is kept for a caller's number
  Keep : ℕ → ℕ → KeptText → Result (Unit {0}) KeepErr → Step  -- it is kept for a caller's number
  Count : ℕ → Result ℕ KeepErr → Step  -- how many calls are kept for a caller

-- What a call gives, where it gives something. Why it failed is said elsewhere.
abbrev pub IsAnswer : Option DeskHeld → Step → Type 0
IsAnswer old (Ticket result) = IfSome old (λ held. IfOk result (λ ticket. ticket ≡ held.next))
IsAnswer old (Find caller number result) =
    IfSome old (λ held. IfOk result (λ found. found ≡ kept_text caller number held.calls))
IsAnswer old (Keep caller number kept result) = ⊤
IsAnswer old (Count caller result) =
    IfSome old (λ held. IfOk result (λ count. count ≡ count_calls caller held.calls))

-- what is held after a call
abbrev pub Stands : Option DeskHeld → Option DeskHeld → Step → Type 0
Stands old new (Ticket (Ok ticket)) = new ≡ with_ticket old
Stands old new (Ticket (Err Failed)) = (new ≡ old) ⊎ (new ≡ with_ticket old)
Stands old new (Ticket (Err Memory)) = new ≡ old
Stands old new (Find caller number result) = new ≡ old
Stands old new (Keep caller number kept (Ok done)) =
    new ≡ with_call (kept_call caller number kept) old
Stands old new (Keep caller number kept (Err Failed)) =
    (new ≡ old) ⊎ (new ≡ with_call (kept_call caller number kept) old)
Stands old new (Keep caller number kept (Err Memory)) = new ≡ old
Stands old new (Count caller result) = new ≡ old

-- the same of a keeper that tells what it holds
abbrev pub StandsIn : DeskHeld → DeskHeld → Step → Type 0
StandsIn old new step = Stands (Some old) (Some new) step
