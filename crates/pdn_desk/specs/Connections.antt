-- What one connection of the desk comes to.
use Rattle.std.specs.Prelude.{◌≡◌, ◌⊎◌, ℕ, List, Option, Some, Result, Ok, Err}
use Rattle.std.specs.Io.KnownBytes.{Appends}
use Rattle.pdn_base.specs.Outside.{Rose, AppendsFront}
use Rattle.pdn_base.specs.declared.memory.Memory.{Memory}
use Rattle.pdn_schema.specs.Models.{SchemaModel}
use Rattle.pdn_http.specs.Requests.{Outcome, Silent}
use Rattle.pdn_http.specs.Receiving.{ComesTo}
use Rattle.pdn_http.specs.declared.request.Request.{Request}
use Rattle.pdn_http.specs.declared.request.Request.TheVariants as request
use Rattle.pdn_query.specs.World.{WorldModel}
use Rattle.pdn_desk.specs.Courses.{Course, Find}
use Rattle.pdn_desk.specs.Replies.{ReplyBytes, memory_failure}
use Rattle.pdn_desk.specs.Requests.{course_of, getting, posting}
use Rattle.pdn_desk.specs.Ways.{Came, End, Replied, NoMemory}
use Rattle.pdn_desk.specs.declared.desk_end.DeskEnd.{DeskEnd}
use Rattle.pdn_desk.specs.declared.desk_end.DeskEnd.TheVariants as ends
use Rattle.pdn_desk.specs.declared.serve.NoReply.{NoReply}
use Rattle.pdn_desk.specs.declared.serve.NoReply.TheVariants as none_yet

-- the link to a peer: what the peer will still send and what it was sent, where that is told, and how often the link has failed
pub record LinkModel : Type 0 where
  pub left : Option (List ℕ)
  pub sent : Option (List ℕ)
  pub faults : ℕ

abbrev pub link_model : Option (List ℕ) → Option (List ℕ) → ℕ → LinkModel
link_model left sent faults = record { left = left; sent = sent; faults = faults }

-- what a connection's bytes come to, which this link is to bring, over these objects
pub record Answers (s : SchemaModel) (link : LinkModel) (old new : WorldModel) (end : End) : Type 0 where
  pub outcome : Outcome
  pub course : Course
  pub come : ComesTo s.callers link.left outcome
  pub is : course_of s outcome ≡ Some course
  pub came : Came old new course end

-- the same, or memory ran out before all bytes had come
abbrev pub Responds : SchemaModel → LinkModel → WorldModel → WorldModel → End → Type 0
Responds s link old new end = Answers s link old new end ⊎ ((end ≡ NoMemory) × (new ≡ old))

-- the reply of an end: want of memory has one too
abbrev pub reply_of : End → ReplyBytes
reply_of (Replied made) = made
reply_of NoMemory = memory_failure

-- the desk responds with a reply of this status
pub record Replies (s : SchemaModel) (link : LinkModel) (old new : WorldModel) (status : ℕ) (bytes : List ℕ) : Type 0 where
  pub end : End
  pub responds : Responds s link old new end
  pub status_is : status ≡ (reply_of end).status
  pub bytes_are : bytes ≡ (reply_of end).bytes

-- What a connection comes to. Nothing is sent but a reply, whole or, where the link failed, a front of it.
abbrev pub Serves : SchemaModel → LinkModel → LinkModel → WorldModel → WorldModel → Result DeskEnd Memory → Type 0
Serves s link now old new (Ok ends.Silent) = ComesTo s.callers link.left Silent × (now.sent ≡ link.sent) × (new ≡ old)
Serves s link now old new (Ok ends.Unread) = Rose link.faults now.faults × (now.sent ≡ link.sent) × (new ≡ old)
Serves s link now old new (Ok (ends.Replied status)) = (bytes : List ℕ) × Replies s link old new status bytes × Appends link.sent now.sent bytes
Serves s link now old new (Ok (ends.Lost status)) = (bytes : List ℕ) × Replies s link old new status bytes × AppendsFront link.sent now.sent bytes × Rose link.faults now.faults
Serves s link now old new (Err short) = Responds s link old new NoMemory × (now.sent ≡ link.sent)

-- ---- what the code's results stand for

-- what the desk does with a request that was read
abbrev pub course_for : SchemaModel → Request → Course
course_for s (request.Get call) = Find call getting
course_for s (request.Post call text) = Find call (posting s call text.items)

-- the reply to what a connection brings, or why there is none yet
abbrev pub Brings : SchemaModel → LinkModel → LinkModel → WorldModel → WorldModel → Result ReplyBytes NoReply → Type 0
Brings s link now old new (Ok made) = Responds s link old new (Replied made) × (now.sent ≡ link.sent)
Brings s link now old new (Err none_yet.Silent) = Serves s link now old new (Ok ends.Silent)
Brings s link now old new (Err none_yet.Unread) = Serves s link now old new (Ok ends.Unread)
Brings s link now old new (Err none_yet.Memory) = Responds s link old new NoMemory × (now.sent ≡ link.sent)

-- a reply was sent, or a front of it
abbrev pub Sends : LinkModel → LinkModel → ReplyBytes → DeskEnd → Type 0
Sends link now made ends.Silent = ⊥
Sends link now made ends.Unread = ⊥
Sends link now made (ends.Replied status) = (status ≡ made.status) × Appends link.sent now.sent made.bytes
Sends link now made (ends.Lost status) = (status ≡ made.status) × AppendsFront link.sent now.sent made.bytes × Rose link.faults now.faults
