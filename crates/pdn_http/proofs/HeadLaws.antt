-- Heads at the front of bytes, when more bytes come.
use Rattle.std.proofs.Common.{◌≡◌, ◌≤◌, ℕ, List, [], ◌∷◌, ◌++◌, length, take, drop, sym, ap, ◌∙◌, arith}
use Rattle.std.proofs.Common.{length-append, take-append-drop}
use lib.Seq.{take-append_seam, take-append-le}
use Rattle.httparse.specs.Grammar.{RequestHead, print_request, print_blank, print_version, print_end, print_section}
use Rattle.httparse.proofs.GrammarLemmas.{ReadsRequest-append, print_request-append}
use Rattle.pdn_schema.specs.declared.schema.Caller.{Caller}
use Rattle.pdn_http.specs.declared.want.Want.{Want}
use Rattle.pdn_http.specs.Heads.{IsHead, HasNoHead, NeverHasHead}
use Rattle.pdn_http.specs.Requests.{Heads}

-- a head stays where more bytes come
pub IsHead-append : (bytes rest more : List ℕ) (h : RequestHead) → IsHead bytes h rest → IsHead (bytes ++ more) h (rest ++ more)
IsHead-append bytes rest more h is = record { reads = ReadsRequest-append bytes h rest more is.reads; short = is.short; few = is.few }

pub Heads-append : (callers : List Caller) (bytes : List ℕ) (wanted : Want) (rest more : List ℕ)
    → Heads callers bytes wanted rest → Heads callers (bytes ++ more) wanted (rest ++ more)
Heads-append callers bytes wanted rest more h = record { head = h.head; is = IsHead-append bytes rest more h.head h.is; asks = h.asks }

-- no front of no bytes is a head
pub nothing_has_no_head : HasNoHead []
nothing_has_no_head h rest is =
    let tail = 32 ∷ (h.target ++ 32 ∷ (print_version h.minor ++ (print_end h.line_end ++ (print_section h.fields h.last ++ rest)))) in
    let whole : 0 ≡ length (print_blank h.blank ++ (h.method ++ tail)) = ap length (is.reads.1 ∙ print_request-append h rest) in
    omega (arith, whole, length-append (print_blank h.blank) (h.method ++ tail), length-append h.method tail, is.reads.0.method.0)

-- what stands at the front of two lists and is no longer than the first
front_within : (xs ys ps qs : List ℕ) → length ps ≤ length xs → xs ++ ys ≡ ps ++ qs → xs ≡ ps ++ drop (length ps) xs
front_within xs ys ps qs fits same =
    sym (take-append-drop (length ps) xs) ∙ ap (λ l. l ++ drop (length ps) xs) (sym (take-append-le (length ps) xs ys fits) ∙ ap (take (length ps)) same ∙ take-append_seam ps qs)

-- where a head may have no more bytes than have come, none of them being a head, none ever comes
pub full_without_head : (bytes : List ℕ) → 8192 ≤ length bytes → HasNoHead bytes → NeverHasHead bytes
full_without_head bytes full none more h rest is =
    none h (drop (length (print_request h)) bytes) (record {
      reads = (is.reads.0, front_within bytes more (print_request h) rest (omega (arith, full, is.short)) is.reads.1);
      short = is.short;
      few = is.few;
    })
