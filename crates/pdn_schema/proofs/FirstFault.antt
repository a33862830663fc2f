-- Where reading stops is the first fault.
use Rattle.std.proofs.Common.{◌≡◌, ℕ, ◌+◌, Bool, true, false, cond, List, [], ◌∷◌, ◌++◌, length, Option, Some, None, Result, Ok, Err, refl, sym, ap, arith, inl, inr, ◌⊎◌}
use Rattle.pdn_schema.specs.declared.cause.Cause.{Cause}
use Rattle.pdn_schema.specs.declared.read.SchemaErr.{SchemaErr}
use Rattle.pdn_schema.specs.declared.read.SchemaErr.TheVariants.{Line, Memory}
use Rattle.pdn_schema.specs.Models.{Part}
use Rattle.pdn_schema.specs.Words.{words_of}
use Rattle.pdn_schema.specs.Forms.{form_of}
use Rattle.pdn_schema.specs.Causes.{start, cause_of, cause_number, after}
use Rattle.pdn_schema.specs.Reading.{is_passed, judged, line_read, go_on, read_lines, OneLine, Leads, HasCause, FaultAt, IsFirstFault, Fails, IsFault}
use Rattle.pdn_schema.proofs.CauseLaws.{no_cause, least_cause}

-- a line: it goes on, or it is the fault
line_cases : (m n c : ℕ) (p : Part) (line : List ℕ) (passed : Bool) (o : Option Cause) (f : Part → Result Part SchemaErr) → is_passed (words_of line) ≡ passed → cause_of p (form_of (words_of line)) ≡ o
    → go_on (cond passed (Ok p) (judged m (after p (form_of (words_of line))) o)) f ≡ Err (Line n c) → ((q : Part) × OneLine p line q × (f q ≡ Err (Line n c))) ⊎ (HasCause p line c × (n ≡ m))
line_cases m n c p line true o f h k e = inl (p, inl (h, refl), e)
line_cases m n c p line false None f h k e = inl (after p (form_of (words_of line)), inr (no_cause p (form_of (words_of line)) k, refl), e)
line_cases m n c p line false (Some d) f h k e =
    let is : cause_number d ≡ c = cc in
    let at : m ≡ n = cc in
    inr (record { stands = h; cause = d; least = least_cause p (form_of (words_of line)) d k; is = sym is }, sym at)

-- the fault from a part on, at line m
record Fault (m : ℕ) (p : Part) (lines : List (List ℕ)) (n c : ℕ) : Type 0 where
  before : List (List ℕ)
  after_it : List (List ℕ)
  part : Part
  parts : lines ≡ before ++ after_it
  line : n ≡ length before + m
  leads : Leads p before part
  fault : FaultAt part after_it c

ended_cases : (m n c : ℕ) (p : Part) (b : Bool) → p.ended ≡ b → cond b (Ok p) (Err (Line m 2)) ≡ Err (Line n c) → (p.ended ≡ false) × (c ≡ 2) × (n ≡ m)
ended_cases m n c p true h e = absurd cc
ended_cases m n c p false h e = (h, cc, cc)

fault_next : (m n c : ℕ) (p q : Part) (line : List ℕ) (lines : List (List ℕ)) → OneLine p line q → Fault (m + 1) q lines n c → Fault m p (line ∷ lines) n c
fault_next m n c p q line lines one f = record {
  before = line ∷ f.before;
  after_it = f.after_it;
  part = f.part;
  parts = ap (λ (ls : List (List ℕ)). line ∷ ls) f.parts;
  line = omega (arith, f.line);
  leads = (q, one, f.leads);
  fault = f.fault;
}

faults : (lines : List (List ℕ)) (m n c : ℕ) (p : Part) → read_lines m p lines ≡ Err (Line n c) → Fault m p lines n c
unfolding read_lines line_read
faults [] m n c p e =
    let h = ended_cases m n c p p.ended refl e in
    record { before = []; after_it = []; part = p; parts = refl; line = omega (arith, h.2); leads = refl; fault = (h.0, h.1) }
faults (line ∷ lines) m n c p e =
    elim (line_cases m n c p line (is_passed (words_of line)) (cause_of p (form_of (words_of line))) (λ q. read_lines (m + 1) q lines) refl refl e) [
      | inl (q, one, rest) ↦ fault_next m n c p q line lines one (faults lines (m + 1) n c q rest)
      | inr (cause, at) ↦ record { before = []; after_it = line ∷ lines; part = p; parts = refl; line = omega (arith, at); leads = refl; fault = cause }
    ]

first_fault : (lines : List (List ℕ)) (n c : ℕ) → read_lines 1 start lines ≡ Err (Line n c) → IsFirstFault lines n c
first_fault lines n c e =
    let f = faults lines 1 n c start e in
    record { before = f.before; after_it = f.after_it; part = f.part; parts = f.parts; line = f.line; leads = f.leads; fault = f.fault }

pub fault_of : (lines : List (List ℕ)) (e : SchemaErr) → Fails e (read_lines 1 start lines) → IsFault lines e
fault_of lines Memory h = tt
fault_of lines (Line n c) h = first_fault lines n c h
