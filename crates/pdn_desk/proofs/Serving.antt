-- What one connection comes to.
use Rattle.std.proofs.Common.{◌≡◌, ◌≤◌, ℕ, List, Option, Some, Result, Ok, Err, refl, sym, subst, ap, arith, inl, inr}
use Rattle.std.specs.Io.KnownBytes.{Appends}
use Rattle.pdn_base.specs.Outside.{Rose, AppendsFront}
use Rattle.pdn_base.specs.declared.memory.Memory.{Memory}
use Rattle.pdn_schema.specs.Models.{SchemaModel}
use Rattle.pdn_http.specs.declared.refusal.Refusal.{Refusal}
use Rattle.pdn_http.specs.declared.request.Request.{Request}
use Rattle.pdn_http.specs.declared.request.Request.TheVariants as request
use Rattle.pdn_http.specs.Receiving.{ComesTo, Requested}
use Rattle.pdn_http.specs.Refusals.{error_of, status_of}
use Rattle.pdn_http.specs.Requests.{Outcome, Silent, Refused, Get, Post}
use Rattle.pdn_reply.specs.Bodies.{error_text}
use Rattle.pdn_query.specs.World.{WorldModel}
use Rattle.pdn_desk.specs.Connections.{LinkModel, Answers, Responds, Replies, Serves, Sends, reply_of, course_for}
use Rattle.pdn_desk.specs.Replies.{ReplyBytes, failure}
use Rattle.pdn_desk.specs.Ways.{Came, End, Replied, NoMemory, Makes}
use Rattle.pdn_desk.specs.declared.desk_end.DeskEnd.{DeskEnd}
use Rattle.pdn_desk.specs.declared.desk_end.DeskEnd.TheVariants as ends
use Rattle.pdn_desk.proofs.Coming.{replies}

module _ (s : SchemaModel) (link : LinkModel) where
  -- a request was read, and gone along its course
  pub requested : (old new : WorldModel) (asked : Request) (end : End) → Requested s.callers link.left asked → Came old new (course_for s asked) end → Responds s link old new end
  requested old new (request.Get call) end come came = inl (record { outcome = Get call; course = course_for s (request.Get call); come = come; is = refl; came = came })
  requested old new (request.Post call text) end come came = inl (record { outcome = Post call text.items; course = course_for s (request.Post call text); come = come; is = refl; came = came })

  -- what came is refused
  pub refused : (w : WorldModel) (refusal : Refusal) (end : End) → ComesTo s.callers link.left (Refused refusal) → Makes (failure (status_of refusal) (error_of refusal)) end → Responds s link w w end
  refused w refusal end come made = inl (record { outcome = Refused refusal; course = _; come = come; is = refl; came = replies w (status_of refusal) (error_text (error_of refusal)) end made })

  -- memory ran out before all bytes had come
  pub unheard : (w : WorldModel) → Responds s link w w NoMemory
  unheard w = inr (refl, refl)

rose_later : (before mid after : ℕ) → before ≤ mid → Rose mid after → Rose before after
rose_later before mid after le rise = omega (arith, le, rise)

-- a reply is sent
pub served : (s : SchemaModel) (link mid now : LinkModel) (old new : WorldModel) (end : End) (made : ReplyBytes) (result : DeskEnd) → Responds s link old new end → made ≡ reply_of end →
    mid.sent ≡ link.sent → link.faults ≤ mid.faults → Sends mid now made result → Serves s link now old new (Ok result)
served s link mid now old new end made ends.Silent responds is same later sends = absurd sends
served s link mid now old new end made ends.Unread responds is same later sends = absurd sends
served s link mid now old new end made (ends.Replied status) responds is same later (status_is, sent) = (
  made.bytes,
  record { end = end; responds = responds; status_is = subst (λ (m : ReplyBytes). status ≡ m.status) is status_is; bytes_are = ap (λ (m : ReplyBytes). m.bytes) is },
  subst (λ (before : Option (List ℕ)). Appends before now.sent made.bytes) same sent,
)
served s link mid now old new end made (ends.Lost status) responds is same later (status_is, sent, rise) = (
  made.bytes,
  record { end = end; responds = responds; status_is = subst (λ (m : ReplyBytes). status ≡ m.status) is status_is; bytes_are = ap (λ (m : ReplyBytes). m.bytes) is },
  subst (λ (before : Option (List ℕ)). AppendsFront before now.sent made.bytes) same sent,
  rose_later link.faults mid.faults now.faults later rise,
)
