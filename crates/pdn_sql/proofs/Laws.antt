-- What a reader answers, in the words of the grammar.
use Rattle.std.proofs.Common.{◌≡◌, ℕ, List, [], length, Ok, Err, sym, ap, ◌∙◌}
use Rattle.pdn_sql.specs.declared.token.Placed.{Placed}
use Rattle.pdn_sql.specs.declared.query.Query.{Query}
use Rattle.pdn_sql.specs.Part.{whole}
use Rattle.pdn_sql.specs.Grammar.{file}
use Rattle.pdn_sql.specs.Marks.{marked_tokens}
use Rattle.pdn_sql.specs.Reading.{Says, IsFault, place_of, kind_of}
use Rattle.pdn_sql.proofs.Exact.{whole_found, whole_only, whole_stuck, ok_is}
use Rattle.pdn_sql.proofs.Productions.{file_exact}

pub says_read : (most : ℕ) (bytes : List ℕ) (q : List Query) (left : List Placed) → whole file (marked_tokens most bytes) ≡ Ok (q, left) → Says most bytes q
says_read most bytes q left e = whole_found file file_exact (marked_tokens most bytes) q left e

pub read_is : (most : ℕ) (bytes : List ℕ) (q r : List Query) (left : List Placed) → whole file (marked_tokens most bytes) ≡ Ok (r, left) → Says most bytes q → r ≡ q
read_is most bytes q r left e says = ap (λ (z : List Query × List Placed). z.0) (ok_is (r, left) (q, []) (sym e ∙ whole_only file file_exact q (marked_tokens most bytes) says))

pub no_read : (most : ℕ) (bytes : List ℕ) (q : List Query) (left : List Placed) → whole file (marked_tokens most bytes) ≡ Err left → Says most bytes q → ⊥
no_read most bytes q left e says =
    let f : whole file (marked_tokens most bytes) ≡ Ok (q, []) = whole_only file file_exact q (marked_tokens most bytes) says in
    absurd cc

pub fault_is : (most : ℕ) (bytes : List ℕ) (left : List Placed) (place kind : ℕ) → whole file (marked_tokens most bytes) ≡ Err left → place ≡ place_of (length bytes) left → kind ≡ kind_of (marked_tokens most bytes) left → IsFault most bytes place kind
fault_is most bytes left place kind e p k = record { rest = left; first = whole_stuck file file_exact (marked_tokens most bytes) left e; stands = p; has_kind = k }
