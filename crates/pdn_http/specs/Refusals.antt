-- The reply of a request that is refused.
use Rattle.std.specs.Prelude.{ℕ, List, codes}
use Rattle.pdn_http.specs.declared.refusal.Refusal.{Refusal}
use Rattle.pdn_http.specs.declared.refusal.Refusal.TheVariants.{Request, Encoding, Unknown, Method, Length, Long}

abbrev pub status_of : Refusal → ℕ
status_of Request = 400
status_of Encoding = 501
status_of Unknown = 404
status_of Method = 405
status_of Length = 411
status_of Long = 413

-- the error that its body names
abbrev pub error_of : Refusal → List ℕ
error_of Request = codes "request"
error_of Encoding = codes "encoding"
error_of Unknown = codes "unknown"
error_of Method = codes "method"
error_of Length = codes "length"
error_of Long = codes "long"
