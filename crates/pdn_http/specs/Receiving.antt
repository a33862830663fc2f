-- What was received of a connection so far.
use Rattle.std.specs.Prelude.{◌≡◌, ◌<◌, ◌≤◌, ℕ, Bool, true, false, List, [], ◌∷◌, ◌++◌, length, take, drop, Option, None, Some, ⊤}
use Rattle.std.specs.Io.KnownBytes.{Consumes, IsAtEnd}
use Rattle.pdn_schema.specs.declared.schema.Caller.{Caller}
use Rattle.pdn_http.specs.declared.refusal.Refusal.TheVariants.{Request}
use Rattle.pdn_http.specs.declared.request.NoRequest.{NoRequest}
use Rattle.pdn_http.specs.declared.request.NoRequest.TheVariants as none_for
use Rattle.pdn_http.specs.declared.request.Request.{Request as Asked}
use Rattle.pdn_http.specs.declared.request.Request.TheVariants as asked
use Rattle.pdn_http.specs.declared.read_head.Heard.{Heard}
use Rattle.pdn_http.specs.Heads.{HasNoHead}
use Rattle.pdn_http.specs.Requests.{Outcome, Silent, Refused, Get, Post, Heads, IsOutcome}

-- these are all the bytes of a connection, where they are told
abbrev pub AreAll : Option (List ℕ) → List ℕ → Type 0
AreAll None bytes = ⊤
AreAll (Some left) bytes = left ≡ bytes

-- Bytes were received behind those that had come, at most so many; none only where the peer sends no more.
pub record Received (old new : Option (List ℕ)) (before after : List ℕ) (most : ℕ) (some : Bool) : Type 0 where
  pub got : List ℕ
  pub taken : Consumes old new got
  pub all : after ≡ before ++ got
  pub few : length got ≤ most
  pub more : some ≡ true → 0 < length got
  pub end : some ≡ false → IsAtEnd new × (got ≡ [])

-- it is no answer to the bytes that came
abbrev pub IsFault : NoRequest → Type 0
IsFault none_for.Silent = ⊥
IsFault (none_for.Refused refusal) = ⊥
IsFault none_for.Unread = ⊤
IsFault none_for.Memory = ⊤

-- ---- the head

-- a connection that has ended with these bytes, which have no head
abbrev pub ended_with : List ℕ → NoRequest
ended_with [] = none_for.Silent
ended_with (byte ∷ bytes) = none_for.Refused Request

-- the bytes that were received hold a head, within its bound, that asks for this
pub record HeadCame (callers : List Caller) (old new : Option (List ℕ)) (heard : Heard) : Type 0 where
  pub taken : Consumes old new heard.bytes.items
  pub within : heard.len ≤ length heard.bytes.items
  pub asks : Heads callers heard.bytes.items heard.want (drop heard.len heard.bytes.items)

-- the connection has bytes, and no head
pub record NoHeadCame (old : Option (List ℕ)) : Type 0 where
  pub bytes : List ℕ
  pub all : AreAll old bytes
  pub some : 0 < length bytes
  pub none_there : HasNoHead bytes

abbrev pub WhyNoHead : Option (List ℕ) → NoRequest → Type 0
WhyNoHead old none_for.Silent = IsAtEnd old
WhyNoHead old (none_for.Refused refusal) = (refusal ≡ Request) × NoHeadCame old
WhyNoHead old none_for.Unread = ⊤
WhyNoHead old none_for.Memory = ⊤

-- ---- the body

-- the body of this size is the front of what had come of it and of what was received
pub record BodyCame (old new : Option (List ℕ)) (come : List ℕ) (size : ℕ) (body : List ℕ) : Type 0 where
  pub got : List ℕ
  pub taken : Consumes old new got
  pub within : size ≤ length (come ++ got)
  pub is : body ≡ take size (come ++ got)

-- the peer sends no more, and the body isn't whole
pub record BodyEnded (old new : Option (List ℕ)) (come : List ℕ) (size : ℕ) : Type 0 where
  pub got : List ℕ
  pub taken : Consumes old new got
  pub end : IsAtEnd new
  pub short : length (come ++ got) < size

abbrev pub WhyNoBody : Option (List ℕ) → Option (List ℕ) → List ℕ → ℕ → NoRequest → Type 0
WhyNoBody old new come size none_for.Silent = ⊥
WhyNoBody old new come size (none_for.Refused refusal) = (refusal ≡ Request) × BodyEnded old new come size
WhyNoBody old new come size none_for.Unread = ⊤
WhyNoBody old new come size none_for.Memory = ⊤

-- ---- the whole

-- the connection's bytes come to this
abbrev pub ComesTo : List Caller → Option (List ℕ) → Outcome → Type 0
ComesTo callers old outcome = (bytes : List ℕ) × AreAll old bytes × IsOutcome callers bytes outcome

abbrev pub Requested : List Caller → Option (List ℕ) → Asked → Type 0
Requested callers old (asked.Get call) = ComesTo callers old (Get call)
Requested callers old (asked.Post call body) = ComesTo callers old (Post call body.items)

-- No request: the outcome, if it isn't that the link failed or that memory ran out.
abbrev pub NotRequested : List Caller → Option (List ℕ) → NoRequest → Type 0
NotRequested callers old none_for.Silent = ComesTo callers old Silent
NotRequested callers old (none_for.Refused refusal) = ComesTo callers old (Refused refusal)
NotRequested callers old none_for.Unread = ⊤
NotRequested callers old none_for.Memory = ⊤
