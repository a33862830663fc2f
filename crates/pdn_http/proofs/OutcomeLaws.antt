-- What was received of a connection, and what all its bytes come to.
use Rattle.std.proofs.Common.{◌≡◌, ◌≤◌, ◌<◌, ℕ, List, [], ◌∷◌, ◌++◌, length, take, drop, None, Some, refl, sym, ap, ◌∙◌, subst, arith, inl, inr}
use Rattle.std.proofs.Common.{append_assoc, append-nil, length-append, le-leb, lt_irrefl, zero-lt-suc}
use borrow.Author.Tests.{lt-leb}
use lib.Seq.{take-append-le}
use Rattle.std.specs.Prelude.{Option, unwrap_or}
use Rattle.std.specs.Io.KnownBytes.{Consumes, IsAtEnd}
use Rattle.std.proofs.KnownBytes.{Consumes-trans}
use Rattle.pdn_schema.specs.declared.schema.Caller.{Caller}
use Rattle.pdn_http.specs.declared.call.Call.{Call}
use Rattle.pdn_http.specs.declared.refusal.Refusal.{Refusal}
use Rattle.pdn_http.specs.declared.refusal.Refusal.TheVariants.{Request}
use Rattle.pdn_http.specs.declared.want.Want.{Want}
use Rattle.pdn_http.specs.declared.want.Want.TheVariants as want
use Rattle.pdn_http.specs.Heads.{HasNoHead, NeverHasHead}
use Rattle.pdn_http.specs.Requests.{Silent, Refused, Get, Post, with_rest, with_body, Heads, IsOutcome}
use Rattle.pdn_http.specs.Receiving.{AreAll, HeadCame, NoHeadCame, WhyNoHead, BodyCame, BodyEnded, WhyNoBody, ComesTo, NotRequested, IsFault, ended_with}
use Rattle.pdn_http.specs.declared.request.NoRequest.{NoRequest}
use Rattle.pdn_http.specs.declared.request.NoRequest.TheVariants as none_for
use Rattle.pdn_http.specs.declared.read_head.Heard.{Heard}
use Rattle.pdn_http.proofs.HeadLaws.{Heads-append, nothing_has_no_head, full_without_head}

-- ---- all the bytes of a connection

-- what is left, where it is told
abbrev pub told : Option (List ℕ) → List ℕ
told left = unwrap_or left []

pub all_with_told : (old new : Option (List ℕ)) (bytes : List ℕ) → Consumes old new bytes → AreAll old (bytes ++ told new)
all_with_told None new bytes taken = tt
all_with_told (Some xs) None bytes taken = absurd taken
all_with_told (Some xs) (Some ys) bytes taken = taken

pub all_at_end : (old new : Option (List ℕ)) (bytes : List ℕ) → Consumes old new bytes → IsAtEnd new → AreAll old bytes
all_at_end None new bytes taken end = tt
all_at_end (Some xs) None bytes taken end = absurd taken
all_at_end (Some xs) (Some ys) bytes taken end = taken ∙ ap (λ l. bytes ++ l) end ∙ append-nil bytes

pub at_end_before : (old new : Option (List ℕ)) → Consumes old new [] → IsAtEnd new → IsAtEnd old
at_end_before None new taken end = tt
at_end_before (Some xs) None taken end = absurd taken
at_end_before (Some xs) (Some ys) taken end = taken ∙ end

-- ---- where no head is

pub no_head_never : (old new : Option (List ℕ)) (bytes : List ℕ) → Consumes old new bytes → 0 < length bytes → NeverHasHead bytes → NoHeadCame old
no_head_never old new bytes taken some never = record {
  bytes = bytes ++ told new;
  all = all_with_told old new bytes taken;
  some = omega (arith, some, length-append bytes (told new));
  none_there = never (told new);
}

pub no_head_full : (old new : Option (List ℕ)) (bytes : List ℕ) → Consumes old new bytes → 8192 ≤ length bytes → HasNoHead bytes → NoHeadCame old
no_head_full old new bytes taken full none = no_head_never old new bytes taken (omega (arith, full)) (full_without_head bytes full none)

pub no_head_ended : (old new : Option (List ℕ)) (bytes : List ℕ) → Consumes old new bytes → IsAtEnd new → 0 < length bytes → HasNoHead bytes → NoHeadCame old
no_head_ended old new bytes taken end some none = record { bytes = bytes; all = all_at_end old new bytes taken end; some = some; none_there = none }

-- the peer has ended with these bytes, which have no head
pub ended : (old new : Option (List ℕ)) (bytes : List ℕ) → Consumes old new bytes → IsAtEnd new → HasNoHead bytes → WhyNoHead old (ended_with bytes)
ended old new [] taken end none = at_end_before old new taken end
ended old new (byte ∷ bytes) taken end none = (refl, no_head_ended old new (byte ∷ bytes) taken end (zero-lt-suc (length bytes)) none)

-- ---- why nothing is there

pub no_head_by_fault : (old : Option (List ℕ)) (why : NoRequest) → IsFault why → WhyNoHead old why
no_head_by_fault old none_for.Silent fault = absurd fault
no_head_by_fault old (none_for.Refused refusal) fault = absurd fault
no_head_by_fault old none_for.Unread fault = tt
no_head_by_fault old none_for.Memory fault = tt

pub no_body_by_fault : (old new : Option (List ℕ)) (come : List ℕ) (size : ℕ) (why : NoRequest) → IsFault why → WhyNoBody old new come size why
no_body_by_fault old new come size none_for.Silent fault = absurd fault
no_body_by_fault old new come size (none_for.Refused refusal) fault = absurd fault
no_body_by_fault old new come size none_for.Unread fault = tt
no_body_by_fault old new come size none_for.Memory fault = tt

-- ---- what they come to

outcome_of_head : (callers : List Caller) (bytes : List ℕ) (wanted : Want) (rest : List ℕ)
    → Heads callers bytes wanted rest → IsOutcome callers bytes (with_rest wanted rest)
outcome_of_head callers [] wanted rest h = absurd (nothing_has_no_head h.head rest h.is)
outcome_of_head callers (byte ∷ bytes) wanted rest h = inl (wanted, rest, h, refl)

outcome_without : (callers : List Caller) (bytes : List ℕ) → 0 < length bytes → HasNoHead bytes → IsOutcome callers bytes (Refused Request)
outcome_without callers [] some none = absurd (lt_irrefl 0 some)
outcome_without callers (byte ∷ bytes) some none = inr (none, refl)

pub silent : (callers : List Caller) (old : Option (List ℕ)) → IsAtEnd old → ComesTo callers old Silent
silent callers None end = ([], tt, refl)
silent callers (Some xs) end = ([], end, refl)

pub headless : (callers : List Caller) (old : Option (List ℕ)) → NoHeadCame old → ComesTo callers old (Refused Request)
headless callers old n = (n.bytes, n.all, outcome_without callers n.bytes n.some n.none_there)

-- with these bytes behind those that have come
with_more : (callers : List Caller) (old new : Option (List ℕ)) (heard : Heard) (more : List ℕ) → HeadCame callers old new heard
    → AreAll old (heard.bytes.items ++ more) → ComesTo callers old (with_rest heard.want (drop heard.len heard.bytes.items ++ more))
with_more callers old new heard more came all =
    (heard.bytes.items ++ more, all, outcome_of_head callers _ heard.want _ (Heads-append callers _ heard.want _ more came.asks))

-- what needs no body
pub refused : (callers : List Caller) (old new : Option (List ℕ)) (heard : Heard) (refusal : Refusal) → HeadCame callers old new heard
    → heard.want ≡ want.Refused refusal → ComesTo callers old (Refused refusal)
refused callers old new heard refusal came is =
    subst (λ (w : Want). ComesTo callers old (with_rest w (drop heard.len heard.bytes.items ++ told new))) is
    (with_more callers old new heard (told new) came (all_with_told old new heard.bytes.items came.taken))

pub got : (callers : List Caller) (old new : Option (List ℕ)) (heard : Heard) (call : Call) → HeadCame callers old new heard
    → heard.want ≡ want.Get call → ComesTo callers old (Get call)
got callers old new heard call came is =
    subst (λ (w : Want). ComesTo callers old (with_rest w (drop heard.len heard.bytes.items ++ told new))) is
    (with_more callers old new heard (told new) came (all_with_told old new heard.bytes.items came.taken))

-- a body that came, or that was cut off
body_there : (call : Call) (size : ℕ) (come got more : List ℕ) → size ≤ length (come ++ got)
    → with_body call size (come ++ (got ++ more)) ≡ Post call (take size (come ++ got))
body_there call size come got more fits =
    let joined = append_assoc come got more in
    let longer = length-append (come ++ got) more in
    let within : size ≤ length ((come ++ got) ++ more) = omega (arith, fits, longer) in
    rw (sym joined, le-leb size (length ((come ++ got) ++ more)) within) (ap (Post call) (take-append-le size (come ++ got) more fits))

body_cut : (call : Call) (size : ℕ) (rest : List ℕ) → length rest < size → with_body call size rest ≡ Refused Request
body_cut call size rest short = rw (lt-leb size (length rest) short) refl

pub posted : (callers : List Caller) (old mid new : Option (List ℕ)) (heard : Heard) (call : Call) (size : ℕ) (body : List ℕ) → HeadCame callers old mid heard
    → heard.want ≡ want.Post call size → BodyCame mid new (drop heard.len heard.bytes.items) size body → ComesTo callers old (Post call body)
posted callers old mid new heard call size body came is b =
    let come = drop heard.len heard.bytes.items in
    let all = subst (AreAll old) (append_assoc heard.bytes.items b.got (told new))
    (all_with_told old new (heard.bytes.items ++ b.got) (Consumes-trans old mid new heard.bytes.items b.got came.taken b.taken)) in
    let there = subst (λ (w : Want). ComesTo callers old (with_rest w (come ++ (b.got ++ told new)))) is (with_more callers old mid heard (b.got ++ told new) came all) in
    subst (ComesTo callers old) (body_there call size come b.got (told new) b.within ∙ ap (Post call) (sym b.is)) there

pub cut_off : (callers : List Caller) (old mid new : Option (List ℕ)) (heard : Heard) (call : Call) (size : ℕ) → HeadCame callers old mid heard
    → heard.want ≡ want.Post call size → BodyEnded mid new (drop heard.len heard.bytes.items) size → ComesTo callers old (Refused Request)
cut_off callers old mid new heard call size came is b =
    let come = drop heard.len heard.bytes.items in
    let all = all_at_end old new (heard.bytes.items ++ b.got) (Consumes-trans old mid new heard.bytes.items b.got came.taken b.taken) b.end in
    let there = subst (λ (w : Want). ComesTo callers old (with_rest w (come ++ b.got))) is (with_more callers old mid heard b.got came all) in
    subst (ComesTo callers old) (body_cut call size (come ++ b.got) b.short) there

-- ---- why there is no request

pub unheard : (callers : List Caller) (old : Option (List ℕ)) (why : NoRequest) → WhyNoHead old why → NotRequested callers old why
unheard callers old none_for.Silent why = silent callers old why
unheard callers old (none_for.Refused refusal) why = subst (λ (r : Refusal). ComesTo callers old (Refused r)) (sym why.0) (headless callers old why.1)
unheard callers old none_for.Unread why = tt
unheard callers old none_for.Memory why = tt

pub bodyless : (callers : List Caller) (old mid new : Option (List ℕ)) (heard : Heard) (call : Call) (size : ℕ) (why : NoRequest) → HeadCame callers old mid heard
    → heard.want ≡ want.Post call size → WhyNoBody mid new (drop heard.len heard.bytes.items) size why → NotRequested callers old why
bodyless callers old mid new heard call size none_for.Silent came is why = absurd why
bodyless callers old mid new heard call size (none_for.Refused refusal) came is why =
    subst (λ (r : Refusal). ComesTo callers old (Refused r)) (sym why.0) (cut_off callers old mid new heard call size came is why.1)
bodyless callers old mid new heard call size none_for.Unread came is why = tt
bodyless callers old mid new heard call size none_for.Memory came is why = tt
