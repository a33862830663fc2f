-- What the desk does with a request: what it asks, what it makes of each answer, and what it replies.
use Rattle.std.specs.Prelude.{ℕ, List, Option}
use Rattle.pdn_http.specs.declared.call.Call.{Call}
use Rattle.pdn_sql.specs.declared.query.Query.{Query}
use Rattle.pdn_desk_keeper.specs.Desks.{KeptText}
use Rattle.pdn_query.specs.Script.{Script}
use Rattle.pdn_reply.specs.Bodies.{error_text}

pub data Course : Type 0 where
  Reply : ℕ → List ℕ → Course  -- ends with the reply of this status and this body
  Find : Call → (Option KeptText → Course) → Course  -- what is kept for the call
  Count : ℕ → (ℕ → Course) → Course  -- how many calls are kept for the caller
  Read : List ℕ → (Query → Course) → Course  -- the query that a text says, or its refusal
  Answer : ((List ℕ → Script) → Script) → (List ℕ → Course) → Course  -- goes along a query's script to what is said of it, or to its refusal
  Keep : Call → KeptText → Course  -- this is kept for the call, and then replied

-- ends with the reply of this status that names this error
abbrev pub failing : ℕ → List ℕ → Course
failing status error = Reply status (error_text error)
