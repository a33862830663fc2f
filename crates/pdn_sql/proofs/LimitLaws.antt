-- What every file of queries that is read keeps.
use Rattle.std.proofs.Common.{inl, inr, ℕ, false, List, [], ◌∷◌, length, refl, sym, subst, arith}
use Rattle.std.specs.List.{AllByRecursion}
use Rattle.std.proofs.lemmas.List.{append-nil}
use Rattle.pdn_sql.specs.declared.query.Query.{Query}
use Rattle.pdn_sql.specs.Part.{says_all}
use Rattle.pdn_sql.specs.Grammar.{query}
use Rattle.pdn_sql.specs.Tokens.{tokens_of}
use Rattle.pdn_sql.specs.Marks.{seen_first, marked_tokens}
use Rattle.pdn_sql.specs.Reading.{Says}
use Rattle.pdn_sql.specs.Same.{bare, Member}
use Rattle.pdn_sql.specs.Limits.{KeepsLimits, FileKeeps}
use Rattle.pdn_sql.proofs.Quiet.{NoSecond, unmarked}
use Rattle.pdn_sql.proofs.RoundTrip.{Stands, stands, file_all, file_fair}
use Rattle.pdn_sql.proofs.Numbers.{query_holds}
use Rattle.pdn_sql.proofs.Extents.{tokens_rising, extents}

query_keeps : (q : Query) → Stands q → KeepsLimits q
query_keeps q s =
    let numbers = query_holds q s.ts [] s.says (subst (NoSecond false) (sym (append-nil (bare s.ts))) s.second) in
    record { few_blocks = s.few; one_in_with = numbers.0; one_in_main = numbers.1 }

all_members : (P : Query → Type 0) (qs : List Query) → ((q : Query) → Member q qs → P q) → AllByRecursion P qs
all_members P [] h = tt
all_members P (q ∷ qs) h = (h q (inl refl), all_members P qs (λ r m. h r (inr m)))

pub file_keeps : (most : ℕ) (bytes : List ℕ) (queries : List Query) → Says most bytes queries → FileKeeps most bytes queries
file_keeps most bytes queries says =
    let all : says_all query queries (marked_tokens most bytes) = file_all queries (marked_tokens most bytes) says in
    let u = unmarked (length bytes) (tokens_of bytes) (seen_first most) (file_fair queries (marked_tokens most bytes) all) in
    let here : says_all query queries (tokens_of bytes) = subst (says_all query queries) u.1 all in
    let e = extents queries (tokens_of bytes) 0 (length bytes) (seen_first most) here refl u.0 (tokens_rising 0 0 (length bytes) bytes (omega arith)) in
    record { few = e.0; each = all_members KeepsLimits queries (λ q member. query_keeps q (stands most bytes queries q says member)); short = e.1 }
