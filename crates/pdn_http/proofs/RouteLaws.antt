-- Where paths lead.
use Rattle.std.proofs.Common.{◌≡◌, ◌≢◌, ◌<◌, ◌≤◌, ◌^◌, ◌+◌, ℕ, suc, zero, List, [], ◌∷◌, ◌++◌, length, None, Some, true, false, sym, ap, ◌∙◌, subst, arith, codes, ⊎_elim}
use Rattle.std.proofs.Common.{eq-or-lt_of_le}
use mathlib.Core.List.{append_cancel_left}
use Rattle.std.specs.Prelude.{Option, MatchOption, decimal}
use Rattle.std.specs.List.{slice_get}
use Rattle.std.specs.Str.{bytes_eq, IsUtf8}
use Rattle.std.proofs.lemmas.Bool.{false≢true}
use Rattle.std.proofs.lemmas.Fmt.{IsAscii-decimal}
use Rattle.std.proofs.lemmas.Slice.Eq.{bytes_eq-Decides}
use Rattle.std.proofs.lemmas.Str.{IsUtf8-from_ascii}
use Rattle.std.proofs.lemmas.Option.{slice_get_within, same_Some, none-some}
use Rattle.pdn_schema.specs.declared.schema.Caller.{Caller}
use Rattle.pdn_schema.specs.Schemas.{IsCallers, IsCaller}
use Rattle.std.specs.List.{AllByRecursion}
use Rattle.pdn_http.specs.declared.call.Call.{Call}
use Rattle.pdn_http.specs.Routes.{IsPart, IsRoute, Leads, HasRoute, call_path, call_pattern}
use Rattle.pdn_http.proofs.PathLaws.{name_is_part, decimal_is_part, finds_path, row}
use Rattle.matchit.specs.Rows.{RowsOf}
use Rattle.matchit.specs.Router.{RouteOf}
use Rattle.matchit.specs.Seek.{first}

-- what stands behind the same front is the same
pub behind : (front rest more path : List ℕ) → path ≡ front ++ rest → path ≡ front ++ more → rest ≡ more
behind front rest more path here there = append_cancel_left front rest more (sym here ∙ there)

-- a path that doesn't begin as each call's does, or not with this caller
pub no_front : (caller path : List ℕ) → ((rest : List ℕ) → path ≢ codes "/callers/" ++ rest) → (n : ℕ) → n < 2 ^ 64 → path ≢ call_path caller (decimal n)
no_front caller path none n fits is = none (caller ++ (codes "/queries/" ++ decimal n)) is

pub no_caller : (caller path rest : List ℕ) → path ≡ codes "/callers/" ++ rest → ((more : List ℕ) → rest ≢ caller ++ more)
    → (n : ℕ) → n < 2 ^ 64 → path ≢ call_path caller (decimal n)
no_caller caller path rest here none n fits is =
    none (codes "/queries/" ++ decimal n) (behind (codes "/callers/") rest (caller ++ (codes "/queries/" ++ decimal n)) path here is)

pub no_middle : (caller path rest behind_it : List ℕ) → path ≡ codes "/callers/" ++ rest → rest ≡ caller ++ behind_it
    → ((more : List ℕ) → behind_it ≢ codes "/queries/" ++ more) → (n : ℕ) → n < 2 ^ 64 → path ≢ call_path caller (decimal n)
no_middle caller path rest behind_it here next none n fits is =
    none (decimal n) (behind caller behind_it (codes "/queries/" ++ decimal n) rest next
    (behind (codes "/callers/") rest (caller ++ (codes "/queries/" ++ decimal n)) path here is))

-- the number stands at the end
pub spelled : (caller path rest behind_it text : List ℕ) → path ≡ codes "/callers/" ++ rest → rest ≡ caller ++ behind_it
    → behind_it ≡ codes "/queries/" ++ text → path ≡ call_path caller text
spelled caller path rest behind_it text here next last =
    here ∙ ap (λ l. codes "/callers/" ++ l) (next ∙ ap (λ l. caller ++ l) last)

pub no_number : (caller path rest behind_it text : List ℕ) → path ≡ codes "/callers/" ++ rest → rest ≡ caller ++ behind_it
    → behind_it ≡ codes "/queries/" ++ text → ((n : ℕ) → n < 2 ^ 64 → text ≢ decimal n) → (n : ℕ) → n < 2 ^ 64 → path ≢ call_path caller (decimal n)
no_number caller path rest behind_it text here next last none n fits is =
    none n fits (behind (codes "/queries/") text (decimal n) behind_it last
    (behind caller behind_it (codes "/queries/" ++ decimal n) rest next
    (behind (codes "/callers/") rest (caller ++ (codes "/queries/" ++ decimal n)) path here is)))

pub number_result : (caller path named behind_it number : List ℕ) → path ≡ codes "/callers/" ++ named → named ≡ caller ++ behind_it
    → behind_it ≡ codes "/queries/" ++ number → (r : Option ℕ) → MatchOption r ((n : ℕ) → n < 2 ^ 64 → number ≢ decimal n) (λ n. number ≡ decimal n)
    → MatchOption r ((n : ℕ) → n < 2 ^ 64 → path ≢ call_path caller (decimal n)) (λ n. path ≡ call_path caller (decimal n))
number_result caller path named behind_it number here next last None none = no_number caller path named behind_it number here next last none
number_result caller path named behind_it number here next last (Some n) is =
    spelled caller path named behind_it (decimal n) here next (last ∙ ap (λ text. codes "/queries/" ++ text) is)

-- ---- the number

abbrev pub Parses : List ℕ → Option ℕ → Type 0
Parses text result = (n : ℕ) → n < 2 ^ 64 → text ≡ decimal n → result ≡ Some n

pub no_number_parses : (text : List ℕ) → Parses text None → (n : ℕ) → n < 2 ^ 64 → text ≢ decimal n
no_number_parses text parses n fits is = none-some n (parses n fits is)

pub this_number : (text : List ℕ) (m : ℕ) → bytes_eq text (decimal m) ≡ true → text ≡ decimal m
this_number text m same = (bytes_eq-Decides text (decimal m)).0 same

pub other_number : (text : List ℕ) (m : ℕ) → Parses text (Some m) → bytes_eq text (decimal m) ≡ false → (n : ℕ) → n < 2 ^ 64 → text ≢ decimal n
other_number text m parses differs n fits is =
    false≢true (sym differs ∙ (bytes_eq-Decides text (decimal m)).1 (is ∙ ap decimal (sym (same_Some m n (parses n fits is)))))

pub no_text_no_number : (text : List ℕ) → ¬ (IsUtf8 text) → (n : ℕ) → n < 2 ^ 64 → text ≢ decimal n
no_text_no_number text none n fits is = none (subst IsUtf8 (sym is) (IsUtf8-from_ascii (decimal n) (IsAscii-decimal n fits)))

-- ---- over the callers

-- none of the callers before this one
abbrev pub NoneBefore : List Caller → List ℕ → ℕ → Type 0
NoneBefore callers path at = (call : Call) → call.caller < at → ¬ (IsRoute callers path call)

pub none_before_next : (callers : List Caller) (path : List ℕ) (at : ℕ) (caller : Caller) → slice_get callers at ≡ Some caller
    → NoneBefore callers path at → ((n : ℕ) → n < 2 ^ 64 → path ≢ call_path caller.name (decimal n)) → NoneBefore callers path (at + 1)
none_before_next callers path at caller known before none call within route =
    ⊎_elim
    (λ (same : call.caller ≡ at). none call.number route.fits (route.spelled ∙ ap (λ (c : Caller). call_path c.name (decimal call.number))
    (same_Some route.caller caller (sym route.known ∙ ap (slice_get callers) same ∙ known))))
    (λ (less : call.caller < at). before call less route)
    (eq-or-lt_of_le (omega (arith, within)))

pub leads_there : (callers : List Caller) (path : List ℕ) (call : Call) (caller : Caller) → slice_get callers call.caller ≡ Some caller → call.number < 2 ^ 64
    → path ≡ call_path caller.name (decimal call.number) → Leads callers path (Some call)
leads_there callers path call caller known fits is = record { caller = caller; known = known; fits = fits; spelled = is }

pub none_of_all : (callers : List Caller) (path : List ℕ) (at : ℕ) → length callers ≤ at → NoneBefore callers path at → Leads callers path None
none_of_all callers path at all before call route = before call (omega (arith, all, slice_get_within callers call.caller route.caller route.known)) route

-- ---- with the router

pub caller_at : (callers : List Caller) (i : ℕ) (c : Caller) → AllByRecursion IsCaller callers → slice_get callers i ≡ Some c → IsCaller c
caller_at [] i c all e = absurd (none-some c e)
caller_at (x ∷ xs) zero c all e = subst IsCaller (same_Some x c e) all.0
caller_at (x ∷ xs) (suc i) c all e = caller_at xs i c all.1 e

-- the parts of a path that leads somewhere
pub parts : (callers : List Caller) (path : List ℕ) (call : Call) → IsCallers callers → IsRoute callers path call
    → (caller : List ℕ) × (number : List ℕ) × IsPart caller × IsPart number × (path ≡ call_path caller number)
parts callers path call are route = (
  route.caller.name,
  decimal call.number,
  name_is_part route.caller.name (caller_at callers call.caller route.caller are.each route.known).name,
  decimal_is_part call.number route.fits,
  route.spelled,
)

-- what the router doesn't find leads nowhere
pub unfound : (callers : List Caller) (path : List ℕ) (router : RowsOf (RouteOf (Unit {0}))) → IsCallers callers → HasRoute router
    → first router path ≡ None → Leads callers path None
unfound callers path router are has none call route =
    let p = parts callers path call are route in
    let found : first router path ≡ Some has.0 =
    ap (λ r. first r path) has.1 ∙ ap (first (row call_pattern has.0)) p.4 ∙ finds_path p.0 p.1 has.0 p.2 p.3 in
    none-some has.0 (sym none ∙ found)
