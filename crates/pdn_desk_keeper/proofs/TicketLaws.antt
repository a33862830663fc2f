-- The tickets of a run.
use Rattle.std.proofs.Common.{◌≡◌, ℕ, ◌+◌, ◌<◌, ◌≤◌, ◌^◌, Bool, true, false, List, [], ◌∷◌, ◌++◌, map, Some, Ok, Err, refl, sym, ap, subst, ◌∙◌, arith, inl, inr, ltb-true}
use Rattle.std.specs.Prelude.{Option, nat_lt, if◌then◌else◌}
use Rattle.std.specs.List.{concat}
use Rattle.std.proofs.lemmas.List.Elements.{All-cons, All-nil}
use Rattle.std.proofs.lemmas.List.Kept.{AllPairs-cons}
use Rattle.pdn_keeper.specs.declared.site_keeper.KeepErr.TheVariants.{Failed, Memory}
use Rattle.pdn_desk_keeper.specs.Desks.{DeskHeld, KeptCall, Step, Ticket, Find, Keep, Count, after_ticket, kept_call}
use Rattle.pdn_desk_keeper.specs.Runs.{IsRun, AreRuns, tickets, AreRising}

-- ---- two runs are one

joined : (old mid new : Option DeskHeld) (first second : List Step) → IsRun old first mid → IsRun mid second new → IsRun old (first ++ second) new
joined old mid new [] second one two = subst (λ (held : Option DeskHeld). IsRun held second new) one two
joined old mid new (step ∷ first) second (between, answer, stands, rest) two = (between, answer, stands, joined between mid new first second rest two)

-- ---- tickets rise

-- what a run comes to
abbrev Ends : DeskHeld → Option DeskHeld → List ℕ → Type 0
Ends held new given = (now : DeskHeld) × (new ≡ Some now) × AreRising held now given

-- a run from a later ticket on is one from an earlier ticket on
sooner : (held next now : DeskHeld) (given : List ℕ) → held.next ≤ next.next → AreRising next now given → AreRising held now given
sooner held next now given le r = record {
  rising = r.rising;
  within = λ k d lt. (let here = (r.within k d lt).0 in omega arith, (r.within k d lt).1, (r.within k d lt).2);
  later = let later = r.later in omega arith;
}

sooner_ends : (held next : DeskHeld) (new : Option DeskHeld) (given : List ℕ) → held.next ≤ next.next → Ends next new given → Ends held new given
sooner_ends held next new given le (now, is, r) = (now, is, sooner held next now given le r)

after-later : (ticket : ℕ) (b : Bool) → ticket ≤ (if b then ticket + 1 else ticket)
after-later ticket true = omega arith
after-later ticket false = omega arith

-- one more ticket in front
one_more_given : (held now : DeskHeld) (given : List ℕ) (next : ℕ) → held.next < 2 ^ 40 → next ≡ held.next + 1 → AreRising (record held { next = next }) now given → AreRising held now (held.next ∷ given)
one_more_given held now given next few e r = record {
  rising = AllPairs-cons (λ x y. x < y) held.next given (λ k d lt. let here = (r.within k d lt).0 in omega arith) r.rising;
  within = All-cons (λ ticket. (held.next ≤ ticket) × (ticket < now.next) × (ticket < 2 ^ 40)) held.next given
      (omega arith, let later = r.later in omega arith, few)
      (λ k d lt. (let here = (r.within k d lt).0 in omega arith, (r.within k d lt).1, (r.within k d lt).2));
  later = let later = r.later in omega arith;
}

given_ends : (held : DeskHeld) (new : Option DeskHeld) (given : List ℕ) (b : Bool) → nat_lt held.next (2 ^ 40) ≡ b
    → Ends (record held { next = if b then held.next + 1 else held.next }) new given → Ends held new (if b then held.next ∷ given else given)
given_ends held new given true few (now, is, r) = (now, is, one_more_given held now given (held.next + 1) (ltb-true held.next (2 ^ 40) few) refl r)
given_ends held new given false few (now, is, r) = (now, is, sooner held (record held { next = held.next }) now given (omega arith) r)

-- the rest of a run, from what stands after one call
from : (held : DeskHeld) (mid : Option DeskHeld) (steps : List Step) (new : Option DeskHeld) → mid ≡ Some held → IsRun mid steps new → IsRun (Some held) steps new
from held mid steps new e run = subst (λ (at : Option DeskHeld). IsRun at steps new) e run

-- what stands after a ticket was taken, and after a call was kept
abbrev taken : DeskHeld → DeskHeld
taken held = record held { next = after_ticket held.next }

abbrev kept : KeptCall → DeskHeld → DeskHeld
kept call held = record held { calls = held.calls ++ call ∷ [] }

-- a ticket that was taken, and not given
lost : (held : DeskHeld) (new : Option DeskHeld) (given : List ℕ) → Ends (taken held) new given → Ends held new given
lost held new given ends = sooner_ends held (taken held) new given (after-later held.next (nat_lt held.next (2 ^ 40))) ends

pub rises : (held : DeskHeld) (steps : List Step) (new : Option DeskHeld) → IsRun (Some held) steps new → Ends held new (tickets steps)
rises held [] new e = (held, e, record { rising = λ i j d lt l. omega arith; within = All-nil _; later = omega arith })
rises held (Ticket (Ok ticket) ∷ steps) new (mid, answer, stands, rest) =
    subst (λ (t : ℕ). Ends held new (if nat_lt t (2 ^ 40) then t ∷ tickets steps else tickets steps)) (sym answer)
    (given_ends held new (tickets steps) (nat_lt held.next (2 ^ 40)) refl (rises (taken held) steps new (from (taken held) mid steps new stands rest)))
rises held (Ticket (Err Failed) ∷ steps) new (mid, answer, stands, rest) = elim stands [
  | inl same ↦ rises held steps new (from held mid steps new same rest)
  | inr lets ↦ lost held new (tickets steps) (rises (taken held) steps new (from (taken held) mid steps new lets rest))
]
rises held (Ticket (Err Memory) ∷ steps) new (mid, answer, stands, rest) = rises held steps new (from held mid steps new stands rest)
rises held (Find caller number result ∷ steps) new (mid, answer, stands, rest) = rises held steps new (from held mid steps new stands rest)
rises held (Keep caller number text (Ok done) ∷ steps) new (mid, answer, stands, rest) =
    sooner_ends held (kept (kept_call caller number text) held) new (tickets steps) (omega arith) (rises (kept (kept_call caller number text) held) steps new (from (kept (kept_call caller number text) held) mid steps new stands rest))
rises held (Keep caller number text (Err Failed) ∷ steps) new (mid, answer, stands, rest) = elim stands [
  | inl same ↦ rises held steps new (from held mid steps new same rest)
  | inr keeps ↦ sooner_ends held (kept (kept_call caller number text) held) new (tickets steps) (omega arith) (rises (kept (kept_call caller number text) held) steps new (from (kept (kept_call caller number text) held) mid steps new keeps rest))
]
rises held (Keep caller number text (Err Memory) ∷ steps) new (mid, answer, stands, rest) = rises held steps new (from held mid steps new stands rest)
rises held (Count caller result ∷ steps) new (mid, answer, stands, rest) = rises held steps new (from held mid steps new stands rest)

-- ---- any number of runs

abbrev all_steps : List (List Step) → List Step
all_steps [] = []
all_steps (run ∷ runs) = run ++ all_steps runs

one_run : (old : Option DeskHeld) (runs : List (List Step)) (new : Option DeskHeld) → AreRuns old runs new → IsRun old (all_steps runs) new
one_run old [] new e = e
one_run old (run ∷ runs) new (mid, first, rest) = joined old mid new run (all_steps runs) first (one_run mid runs new rest)

front : (b : Bool) (ticket : ℕ) (first second whole : List ℕ) → whole ≡ first ++ second → (if b then ticket ∷ whole else whole) ≡ (if b then ticket ∷ first else first) ++ second
front true ticket first second whole e = ap (λ (given : List ℕ). ticket ∷ given) e
front false ticket first second whole e = e

tickets-append : (first second : List Step) → tickets (first ++ second) ≡ tickets first ++ tickets second
tickets-append [] second = refl
tickets-append (Ticket (Ok ticket) ∷ first) second = front (nat_lt ticket (2 ^ 40)) ticket (tickets first) (tickets second) (tickets (first ++ second)) (tickets-append first second)
tickets-append (Ticket (Err error) ∷ first) second = tickets-append first second
tickets-append (Find caller number result ∷ first) second = tickets-append first second
tickets-append (Keep caller number text result ∷ first) second = tickets-append first second
tickets-append (Count caller result ∷ first) second = tickets-append first second

tickets-all : (runs : List (List Step)) → tickets (all_steps runs) ≡ concat (map tickets runs)
tickets-all [] = refl
tickets-all (run ∷ runs) = tickets-append run (all_steps runs) ∙ ap (λ (given : List ℕ). tickets run ++ given) (tickets-all runs)

pub runs_rise : (held : DeskHeld) (runs : List (List Step)) (new : Option DeskHeld) → AreRuns (Some held) runs new → Ends held new (concat (map tickets runs))
runs_rise held runs new are = subst (λ (given : List ℕ). Ends held new given) (tickets-all runs) (rises held (all_steps runs) new (one_run (Some held) runs new are))
