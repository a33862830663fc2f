-- The rows of the desk: what each request comes to, the first row that applies.
use Rattle.std.specs.Prelude.{ℕ, nat_le, if◌then◌else◌, List, Option, None, Some, codes}
use Rattle.std.specs.List.{slice_get}
use Rattle.std.specs.Str.{bytes_eq}
use Rattle.pdn_schema.specs.Models.{SchemaModel}
use Rattle.pdn_schema.specs.declared.schema.Caller.{Caller}
use Rattle.pdn_sql.specs.declared.query.Query.{Query}
use Rattle.pdn_http.specs.declared.call.Call.{Call}
use Rattle.pdn_http.specs.Requests.{Outcome, Silent, Refused, Get, Post}
use Rattle.pdn_http.specs.Refusals.{error_of, status_of}
use Rattle.pdn_reply.specs.Bodies.{answer_text}
use Rattle.pdn_desk_keeper.specs.Desks.{KeptText}
use Rattle.pdn_query.specs.Answering.{answering}
use Rattle.pdn_query.specs.Script.{Script, binding}
use Rattle.pdn_desk.specs.Courses.{Course, Reply, Find, Count, Read, Answer, Keep, failing}

-- how many calls a caller has in all
abbrev pub calls_of : Option Caller → ℕ
calls_of None = 0
calls_of (Some caller) = caller.calls

-- A query is answered as a command answers it: it is bound, both sites' rows are asked for and judged, a ticket is taken. What
-- follows is the body of the reply.
abbrev pub answer_script : SchemaModel → Query → (List ℕ → Script) → Script
answer_script s query next = binding s query (λ plan. answering s query plan (λ ticket p rows. next (answer_text plan.columns rows ticket)))

-- what is kept for a call is replied
abbrev pub getting : Option KeptText → Course
getting None = failing 404 (codes "unknown")
getting (Some kept) = Reply 200 kept.body

-- a call that is kept is made again, with this text
abbrev pub repeating : List ℕ → KeptText → Course
repeating text kept = if bytes_eq kept.text text then Reply 200 kept.body else failing 409 (codes "differs")

-- a text is answered, and the answer kept
abbrev pub answering_text : SchemaModel → Call → List ℕ → Course
answering_text s call text = Read text (λ query. Answer (answer_script s query) (λ body. Keep call (record { text = text; body = body })))

-- the same, unless the caller's calls are spent
abbrev pub calling : SchemaModel → Call → List ℕ → Course
calling s call text = Count call.caller (λ count. if nat_le (calls_of (slice_get s.callers call.caller)) count then failing 429 (codes "spent") else answering_text s call text)

abbrev pub posting : SchemaModel → Call → List ℕ → Option KeptText → Course
posting s call text None = calling s call text
posting s call text (Some kept) = repeating text kept

-- what the bytes of a connection come to; of none there is no reply
abbrev pub course_of : SchemaModel → Outcome → Option Course
course_of s Silent = None
course_of s (Refused refusal) = Some (failing (status_of refusal) (error_of refusal))
course_of s (Get call) = Some (Find call getting)
course_of s (Post call text) = Some (Find call (posting s call text))
