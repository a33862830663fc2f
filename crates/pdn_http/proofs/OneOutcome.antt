-- The bytes of a connection come to one outcome.
use Rattle.std.proofs.Common.{◌≡◌, ◌≢◌, ℕ, zero, suc, List, [], ◌∷◌, ◌++◌, drop, get_or, None, Some, false, refl, sym, ap, ap₂, ◌∙◌, subst, codes, inl, inr}
use Rattle.std.proofs.lemmas.Bool.{false≢true}
use Rattle.std.proofs.lemmas.Fmt.{decimal_injective}
use Rattle.std.proofs.lemmas.Option.{none-some, same_Some}
use Rattle.std.proofs.lemmas.Slice.Eq.{bytes_eq-Decides}
use Rattle.std.specs.List.{AllByRecursion, IsDistinct, slice_get}
use Rattle.std.specs.Prelude.{Option, decimal}
use Rattle.std.specs.Str.{bytes_eq}
use mathlib.Core.List.{append_cancel_left}
use Rattle.httparse.specs.Grammar.{RequestHead}
use Rattle.httparse.proofs.GrammarLemmas.{request_unique}
use Rattle.pdn_schema.specs.declared.schema.Caller.{Caller}
use Rattle.pdn_schema.specs.Schemas.{IsCallers, caller_names}
use Rattle.pdn_http.specs.declared.call.Call.{Call}
use Rattle.pdn_http.specs.declared.want.Want.{Want}
use Rattle.pdn_http.specs.Heads.{lines_of, path_of}
use Rattle.pdn_http.specs.Requests.{Outcome, Asks, Heads, IsOutcome, want_of, with_rest}
use Rattle.pdn_http.specs.Routes.{Part, IsRoute, Leads, call_path}
use Rattle.pdn_http.proofs.PathLaws.{name_part_of}
use Rattle.pdn_http.proofs.RouteLaws.{caller_at}

-- ---- a path leads to one call

same_head : (b c : ℕ) (xs ys : List ℕ) → b ∷ xs ≡ c ∷ ys → b ≡ c
same_head b c xs ys e = ap (λ l. get_or l 0 0) e

same_tail : (b c : ℕ) (xs ys : List ℕ) → b ∷ xs ≡ c ∷ ys → xs ≡ ys
same_tail b c xs ys e = ap (drop 1) e

-- what stands before the first slash
one_part : (c d xs ys : List ℕ) → Part c → Part d → c ++ 47 ∷ xs ≡ d ++ 47 ∷ ys → (c ≡ d) × (xs ≡ ys)
one_part [] [] xs ys p q e = (refl, same_tail 47 47 xs ys e)
one_part [] (b ∷ d) xs ys p q e = absurd (q.1 (sym (same_head 47 b xs (d ++ 47 ∷ ys) e)))
one_part (b ∷ c) [] xs ys p q e = absurd (p.1 (same_head b 47 (c ++ 47 ∷ xs) ys e))
one_part (b ∷ c) (f ∷ d) xs ys p q e =
    let rest = one_part c d xs ys p.2 q.2 (same_tail b f (c ++ 47 ∷ xs) (d ++ 47 ∷ ys) e) in
    (ap (λ l. b ∷ l) rest.0 ∙ ap (λ x. x ∷ d) (same_head b f (c ++ 47 ∷ xs) (d ++ 47 ∷ ys) e), rest.1)

one_spelling : (c d m n : List ℕ) → Part c → Part d → call_path c m ≡ call_path d n → (c ≡ d) × (m ≡ n)
one_spelling c d m n p q e =
    let behind = append_cancel_left (codes "/callers/") (c ++ (codes "/queries/" ++ m)) (d ++ (codes "/queries/" ++ n)) e in
    let cut = one_part c d (codes "queries/" ++ m) (codes "queries/" ++ n) p q behind in
    (cut.0, append_cancel_left (codes "queries/") m n cut.1)

other_name : (name : List ℕ) (callers : List Caller) (i : ℕ) (c : Caller) → AllByRecursion (λ y. bytes_eq name y ≡ false) (caller_names callers)
    → slice_get callers i ≡ Some c → bytes_eq name c.name ≡ false
other_name name [] i c all e = absurd (none-some c e)
other_name name (x ∷ callers) zero c all e = subst (λ (y : Caller). bytes_eq name y.name ≡ false) (same_Some x c e) all.0
other_name name (x ∷ callers) (suc i) c all e = other_name name callers i c all.1 e

differ : (x y : List ℕ) → bytes_eq x y ≡ false → x ≢ y
differ x y e same = false≢true (sym e ∙ (bytes_eq-Decides x y).1 same)

one_place : (callers : List Caller) (i j : ℕ) (c d : Caller) → IsDistinct bytes_eq (caller_names callers)
    → slice_get callers i ≡ Some c → slice_get callers j ≡ Some d → c.name ≡ d.name → i ≡ j
unfolding IsDistinct
one_place [] i j c d distinct at_i at_j same = absurd (none-some c at_i)
one_place (x ∷ callers) zero zero c d distinct at_i at_j same = refl
one_place (x ∷ callers) zero (suc j) c d distinct at_i at_j same =
    absurd (differ x.name d.name (other_name x.name callers j d distinct.0 at_j) (ap (λ (y : Caller). y.name) (same_Some x c at_i) ∙ same))
one_place (x ∷ callers) (suc i) zero c d distinct at_i at_j same =
    absurd (differ x.name c.name (other_name x.name callers i c distinct.0 at_i) (ap (λ (y : Caller). y.name) (same_Some x d at_j) ∙ sym same))
one_place (x ∷ callers) (suc i) (suc j) c d distinct at_i at_j same = ap suc (one_place callers i j c d distinct.1 at_i at_j same)

abbrev the_call : ℕ → ℕ → Call
the_call caller number = record { caller = caller; number = number }

same_call : (c d : Call) → c.caller ≡ d.caller → c.number ≡ d.number → c ≡ d
same_call c d e f = ap₂ (λ (caller number : ℕ). the_call caller number) e f

one_route : (callers : List Caller) (path : List ℕ) (c d : Call) → IsCallers callers → IsRoute callers path c → IsRoute callers path d → c ≡ d
one_route callers path c d are p q =
    let name_c = name_part_of p.caller.name (caller_at callers c.caller p.caller are.each p.known).name in
    let name_d = name_part_of q.caller.name (caller_at callers d.caller q.caller are.each q.known).name in
    let same = one_spelling p.caller.name q.caller.name (decimal c.number) (decimal d.number) name_c name_d (sym p.spelled ∙ q.spelled) in
    same_call c d
    (one_place callers c.caller d.caller p.caller q.caller are.distinct p.known q.known same.0)
    (decimal_injective c.number d.number p.fits q.fits same.1)

one_lead : (callers : List Caller) (path : List ℕ) (r t : Option Call) → IsCallers callers → Leads callers path r → Leads callers path t → r ≡ t
one_lead callers path None None are p q = refl
one_lead callers path None (Some d) are p q = absurd (p d q)
one_lead callers path (Some c) None are p q = absurd (q c p)
one_lead callers path (Some c) (Some d) are p q = ap Some (one_route callers path c d are p q)

-- ---- the whole

one_want : (callers : List Caller) (h : RequestHead) (v w : Want) → IsCallers callers → Asks callers h v → Asks callers h w → v ≡ w
one_want callers h v w are p q =
    p.is ∙ ap (want_of h.method (lines_of h)) (one_lead callers (path_of h.target) p.route q.route are p.leads q.leads) ∙ sym q.is

one_head : (callers : List Caller) (bytes : List ℕ) (v w : Want) (r t : List ℕ) → IsCallers callers
    → Heads callers bytes v r → Heads callers bytes w t → with_rest v r ≡ with_rest w t
one_head callers bytes v w r t are p q =
    let same = request_unique bytes p.head q.head r t p.is.reads q.is.reads in
    let wants = one_want callers q.head v w are (subst (λ (h : RequestHead). Asks callers h v) same.0 p.asks) q.asks in
    ap (λ (x : Want). with_rest x r) wants ∙ ap (with_rest w) same.1

pub one_outcome : (callers : List Caller) (bytes : List ℕ) (o p : Outcome) → IsCallers callers
    → IsOutcome callers bytes o → IsOutcome callers bytes p → o ≡ p
one_outcome callers [] o p are x y = x ∙ sym y
one_outcome callers (byte ∷ bytes) o p are (inl x) (inl y) = x.3 ∙ one_head callers (byte ∷ bytes) x.0 y.0 x.1 y.1 are x.2 y.2 ∙ sym y.3
one_outcome callers (byte ∷ bytes) o p are (inl x) (inr y) = absurd (y.0 x.2.head x.1 x.2.is)
one_outcome callers (byte ∷ bytes) o p are (inr x) (inl y) = absurd (x.0 y.2.head y.1 y.2.is)
one_outcome callers (byte ∷ bytes) o p are (inr x) (inr y) = x.1 ∙ sym y.1
