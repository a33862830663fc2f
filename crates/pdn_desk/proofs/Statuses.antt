-- The statuses of replies are statuses of HTTP.
use Rattle.std.proofs.Common.{ℕ, arith}
use Rattle.http.specs.StatusCode.{IsStatusCode}
use Rattle.pdn_base.specs.declared.status.Status.{Status}
use Rattle.pdn_base.specs.declared.status.Status.TheVariants as status
use Rattle.pdn_http.specs.declared.refusal.Refusal.{Refusal}
use Rattle.pdn_http.specs.declared.refusal.Refusal.TheVariants.{Request, Encoding, Unknown, Method, Length, Long}
use Rattle.pdn_http.specs.Refusals.{status_of}
use Rattle.pdn_desk.specs.Replies.{status_for}

pub refusal_has_status : (refusal : Refusal) → IsStatusCode (status_of refusal)
refusal_has_status Request = (omega arith, omega arith)
refusal_has_status Encoding = (omega arith, omega arith)
refusal_has_status Unknown = (omega arith, omega arith)
refusal_has_status Method = (omega arith, omega arith)
refusal_has_status Length = (omega arith, omega arith)
refusal_has_status Long = (omega arith, omega arith)

pub query_has_status : (refused : Status) → IsStatusCode (status_for refused)
query_has_status (status.Sql place kind) = (omega arith, omega arith)
query_has_status (status.Plan kind name) = (omega arith, omega arith)
query_has_status (status.Forbidden column label) = (omega arith, omega arith)
query_has_status (status.BadRows site table cause) = (omega arith, omega arith)
query_has_status (status.TooLarge limit unit) = (omega arith, omega arith)
query_has_status (status.Unavailable who) = (omega arith, omega arith)
query_has_status status.TicketsSpent = (omega arith, omega arith)
query_has_status other = (omega arith, omega arith)
