-- The desk's replies.
use Rattle.std.specs.Prelude.{ℕ, ◌==◌, List, [], codes}
use Rattle.std.specs.List.{before_first}
use Rattle.pdn_base.specs.Texts.{refusal}
use Rattle.pdn_base.specs.declared.status.Status.{Status}
use Rattle.pdn_base.specs.declared.status.Status.TheVariants as status
use Rattle.pdn_reply.specs.Bodies.{error_text}
use Rattle.pdn_reply.specs.Replies.{reply_text}

-- a whole reply, as bytes
pub record ReplyBytes : Type 0 where
  pub status : ℕ
  pub bytes : List ℕ

-- the reply of this status with this body
abbrev pub reply : ℕ → List ℕ → ReplyBytes
reply status body = record { status = status; bytes = reply_text status body }

-- the reply of this status whose body names this error
abbrev pub failure : ℕ → List ℕ → ReplyBytes
failure status error = reply status (error_text error)

-- want of memory
abbrev pub memory_failure : ReplyBytes
memory_failure = failure 500 (codes "memory")

-- the desk's keeper failed
abbrev pub desk_failure : ReplyBytes
desk_failure = failure 503 (codes "refused 10 desk")

-- The status of the reply to a query that is refused: its text, its plan, its rows or its size; an object that failed; no ticket
-- left. No other status refuses a query.
abbrev pub status_for : Status → ℕ
status_for (status.Sql place kind) = 422
status_for (status.Plan kind name) = 422
status_for (status.Forbidden column label) = 422
status_for (status.BadRows site table cause) = 422
status_for (status.TooLarge limit unit) = 422
status_for (status.Unavailable who) = 503
status_for status.TicketsSpent = 507
status_for other = 500

-- a line but for its line feed
abbrev pub before_feed : List ℕ → List ℕ
before_feed line = before_first (λ byte. byte == 10) line

-- the reply to a query that is refused with this line, which it names without its line feed
abbrev pub refusing : Status → List ℕ → ReplyBytes
refusing refused line = failure (status_for refused) (before_feed line)

-- the same of a text that says no query, at this place
abbrev pub unsaid : ℕ → ℕ → ReplyBytes
unsaid place kind = refusing (status.Sql place kind) (refusal [] [] (status.Sql place kind))
