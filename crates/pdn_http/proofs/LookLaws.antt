-- What the parser's answer says of a connection's bytes.
use Rattle.std.proofs.Common.{◌≡◌, ◌≤◌, ℕ, List, length, map, take, drop, ap, ◌∙◌, subst, arith, lt_of_lt_of_le, lt_irrefl}
use Rattle.std.specs.Prelude.{Option}
use Rattle.httparse.specs.declared.spans.HeaderSpan.{HeaderSpan}
use Rattle.httparse.specs.declared.spans.RequestSpans.{RequestSpans}
use Rattle.httparse.specs.Grammar.{HasNoRequest}
use Rattle.httparse.specs.Spans.{IsRequestOf, IsRequestWithin, RequestOverflows, span_bytes, header_bytes}
use Rattle.pdn_schema.specs.declared.schema.Caller.{Caller}
use Rattle.pdn_http.specs.declared.call.Call.{Call}
use Rattle.pdn_http.specs.declared.want.Want.{Want}
use Rattle.pdn_http.specs.Heads.{HasNoHead, NeverHasHead, path_of}
use Rattle.pdn_http.specs.Requests.{Heads, want_of}
use Rattle.pdn_http.specs.Routes.{Leads}
use Rattle.pdn_http.proofs.LineLaws.{few_lines}

-- what the parts of a head ask for
abbrev pub AsksBy : List Caller → List ℕ → List HeaderSpan → RequestSpans → Want → Type 0
AsksBy callers bytes lines spans wanted = (route : Option Call) × Leads callers (path_of (span_bytes bytes spans.path)) route
    × (wanted ≡ want_of (span_bytes bytes spans.method) (map (header_bytes bytes) (take spans.headers lines)) route)

pub shows_head : (callers : List Caller) (bytes : List ℕ) (lines : List HeaderSpan) (spans : RequestSpans) (wanted : Want) → length bytes ≤ 8192 → length lines ≤ 64
    → IsRequestWithin bytes lines spans → IsRequestOf bytes lines spans → AsksBy callers bytes lines spans wanted
    → (spans.len ≤ length bytes) × Heads callers bytes wanted (drop spans.len bytes)
shows_head callers bytes lines spans wanted short room within of asks =
    let h = of.0 in
    let is = of.1 in (
      within.section.len_fits,
      record {
        head = h;
        is = record {
          reads = is.reads;
          short = omega (arith, is.len, within.section.len_fits, short);
          few = few_lines bytes lines spans.headers 64 h is.fields room;
        };
        asks = record {
          route = asks.0;
          leads = subst (λ target. Leads callers (path_of target) asks.0) is.path asks.1;
          is = asks.2 ∙ ap (λ method. want_of method (map (header_bytes bytes) (take spans.headers lines)) asks.0) is.method ∙ ap (λ fields. want_of h.method fields asks.0) is.fields;
        };
      },
    )

pub shows_more : (bytes : List ℕ) → HasNoRequest bytes → HasNoHead bytes
shows_more bytes none h rest is = none h rest is.reads

pub shows_never : (bytes : List ℕ) → RequestOverflows 64 bytes → NeverHasHead bytes
shows_never bytes over more h rest is = lt_irrefl 64 (lt_of_lt_of_le (over more h rest is.reads) is.few)
