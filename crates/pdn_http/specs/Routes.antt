-- The one route, to a caller's number.
use Rattle.std.specs.Prelude.{◌≡◌, ◌≢◌, ◌<◌, ◌^◌, ℕ, List, [], ◌∷◌, ◌++◌, Option, None, Some, codes, decimal}
use Rattle.std.specs.List.{slice_get}
use Rattle.matchit.specs.Rows.{param_token, RowsOf}
use Rattle.matchit.specs.Router.{RouteOf}
use Rattle.pdn_schema.specs.declared.schema.Caller.{Caller}
use Rattle.pdn_http.specs.declared.call.Call.{Call}

-- bytes with no slash
abbrev pub Part : List ℕ → Type 0
Part [] = Unit {0}
Part (b ∷ bs) = (b < 256) × (b ≢ 47) × Part bs

-- a part of a path: at least one byte, and no slash
abbrev pub IsPart : List ℕ → Type 0
IsPart [] = ⊥
IsPart (b ∷ bs) = Part (b ∷ bs)

abbrev pub call_path : List ℕ → List ℕ → List ℕ
call_path caller number = codes "/callers/" ++ (caller ++ (codes "/queries/" ++ number))

-- the route as tokens
abbrev pub call_pattern : List ℕ
call_pattern = codes "/callers/" ++ (param_token ∷ codes "/queries/" ++ (param_token ∷ []))

-- the router has that one route
abbrev pub HasRoute : RowsOf (RouteOf (Unit {0})) → Type 0
HasRoute router = (k : RouteOf (Unit {0})) × (router ≡ (call_pattern, k) ∷ [])

-- The path leads to a caller's number: 0 to 2^64 - 1 in decimal, without leading zeros.
pub record IsRoute (callers : List Caller) (path : List ℕ) (call : Call) : Type 0 where
  pub caller : Caller
  pub known : slice_get callers call.caller ≡ Some caller
  pub fits : call.number < 2 ^ 64
  pub spelled : path ≡ call_path caller.name (decimal call.number)

-- where the path leads, if anywhere
abbrev pub Leads : List Caller → List ℕ → Option Call → Type 0
Leads callers path (Some call) = IsRoute callers path call
Leads callers path None = (call : Call) → ¬ (IsRoute callers path call)
