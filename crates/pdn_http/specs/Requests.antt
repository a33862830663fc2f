-- What the bytes of a connection ask for: the first row that applies.
use Rattle.std.specs.Prelude.{◌≡◌, ◌⊎◌, ℕ, Bool, ◌&&◌, nat_lt, nat_le, if◌then◌else◌, List, [], ◌∷◌, length, take, codes}
use Rattle.std.specs.Prelude.{Option, None, Some, Result, Ok, Err}
use Rattle.std.specs.Char.{is_ascii_digit}
use Rattle.std.specs.List.{list_all, list_any}
use Rattle.std.specs.Str.{bytes_eq}
use Rattle.httparse.specs.Grammar.{RequestHead}
use Rattle.pdn_base.specs.Numbers.{value_of}
use Rattle.pdn_schema.specs.declared.schema.Caller.{Caller}
use Rattle.pdn_http.specs.declared.call.Call.{Call}
use Rattle.pdn_http.specs.declared.refusal.Refusal.{Refusal}
use Rattle.pdn_http.specs.declared.refusal.Refusal.TheVariants.{Request, Encoding, Unknown, Method, Length, Long}
use Rattle.pdn_http.specs.declared.want.Want.{Want}
use Rattle.pdn_http.specs.declared.want.Want.TheVariants as want
use Rattle.pdn_http.specs.Heads.{IsHead, HasNoHead, lines_of, has_name, values_of, path_of}
use Rattle.pdn_http.specs.Routes.{Leads}

-- what a connection comes to
pub data Outcome : Type 0 where
  Silent : Outcome  -- it ended before its first byte
  Refused : Refusal → Outcome
  Get : Call → Outcome
  Post : Call → List ℕ → Outcome  -- with this body

-- ---- the length of the body

-- 1 to 10 decimal digits
abbrev pub is_length : List ℕ → Bool
is_length text = nat_lt 0 (length text) && nat_le (length text) 10 && list_all is_ascii_digit text

abbrev pub at_most_4096 : ℕ → Result (Option ℕ) Refusal
at_most_4096 size = if nat_le size 4096 then Ok (Some size) else Err Long

abbrev pub size_of : List ℕ → Result (Option ℕ) Refusal
size_of text = if is_length text then at_most_4096 (value_of text) else Err Request

-- how long the body is, by the values of the lines that say so; None where no line does
abbrev pub body_size : List (List ℕ) → Result (Option ℕ) Refusal
body_size [] = Ok None
body_size (text ∷ []) = size_of text
body_size (text ∷ again ∷ more) = Err Request

-- ---- what a head asks for

abbrev pub getting : Call → Result (Option ℕ) Refusal → Want
getting call (Ok size) = want.Get call
getting call (Err refusal) = want.Refused refusal

abbrev pub posting : Call → Result (Option ℕ) Refusal → Want
posting call (Ok None) = want.Refused Length
posting call (Ok (Some size)) = want.Post call size
posting call (Err refusal) = want.Refused refusal

abbrev pub by_method : List ℕ → Call → Result (Option ℕ) Refusal → Want
by_method method call size =
    if bytes_eq method (codes "GET") then getting call size
    else if bytes_eq method (codes "POST") then posting call size
    else want.Refused Method

abbrev pub if_known : List ℕ → Option Call → Result (Option ℕ) Refusal → Want
if_known method None size = want.Refused Unknown
if_known method (Some call) size = by_method method call size

-- what a head of this method and these lines asks for, whose path leads there
abbrev pub want_of : List ℕ → List (List ℕ × List ℕ) → Option Call → Want
want_of method lines route =
    if list_any (has_name (codes "transfer-encoding")) lines then want.Refused Encoding
    else if_known method route (body_size (values_of (codes "content-length") lines))

-- what a head asks for
pub record Asks (callers : List Caller) (h : RequestHead) (wanted : Want) : Type 0 where
  pub route : Option Call
  pub leads : Leads callers (path_of h.target) route
  pub is : wanted ≡ want_of h.method (lines_of h) route

-- ---- the whole

-- the body is the front of what comes after the head; the input may end inside it
abbrev pub with_body : Call → ℕ → List ℕ → Outcome
with_body call size rest = if nat_le size (length rest) then Post call (take size rest) else Refused Request

-- what is asked for, with what comes after the head
abbrev pub with_rest : Want → List ℕ → Outcome
with_rest (want.Refused refusal) rest = Refused refusal
with_rest (want.Get call) rest = Get call
with_rest (want.Post call size) rest = with_body call size rest

-- at the front of the bytes stands a head that asks for this
pub record Heads (callers : List Caller) (bytes : List ℕ) (wanted : Want) (rest : List ℕ) : Type 0 where
  pub head : RequestHead
  pub is : IsHead bytes head rest
  pub asks : Asks callers head wanted

-- What these are, all the bytes of one connection.
abbrev pub IsOutcome : List Caller → List ℕ → Outcome → Type 0
IsOutcome callers [] outcome = outcome ≡ Silent
IsOutcome callers (byte ∷ bytes) outcome =
    ((wanted : Want) × (rest : List ℕ) × Heads callers (byte ∷ bytes) wanted rest × (outcome ≡ with_rest wanted rest))
    ⊎ (HasNoHead (byte ∷ bytes) × (outcome ≡ Refused Request))
