-- A loop that reads a part as long as it begins.
use Rattle.std.proofs.Common.{◌≡◌, ◌-◌, true, false, List, [], ◌∷◌, ◌++◌, length, Ok, Err, refl, sym, ap, ◌∙◌, append_assoc, arith}
use Rattle.std.proofs.lemmas.List.{append-nil}
use Rattle.pdn_sql.specs.declared.token.Placed.{Placed}
use Rattle.pdn_sql.specs.declared.stop.Stop.{Stop}
use Rattle.pdn_sql.specs.declared.stop.Stop.TheVariants.{Memory, Here}
use Rattle.pdn_sql.specs.Part.{Read, ◌>>=◌, Part, begins, many, with_front, Fails}
use Rattle.pdn_sql.proofs.Exact.{IsExact, IsFull, many_is, many_enough, shorter}

regroup : {A : Type 0} (front : List A) (x : A) (read : Read (List A)) → with_front front (read >>= λ y. Ok (x ∷ y.0, y.1)) ≡ with_front (front ++ x ∷ []) read
regroup front x (Ok y) = ap (λ (xs : List _). Ok (xs, y.1)) (simp append_assoc)
regroup front x (Err d) = refl

pub loop_next : {A : Type 0} (a : Part A) → IsExact a → IsFull a → (front : List A) (ts : List Placed) (x : A) (rest : List Placed) (total : Read (List A)) → begins a.starts ts ≡ true → a.read ts ≡ Ok (x, rest)
    → with_front front ((many a).read ts) ≡ total → with_front (front ++ x ∷ []) ((many a).read rest) ≡ total
loop_next a ea full front ts x rest total h e so_far =
    let less = shorter a ea full ts (x, rest) e in
    let one : (many a).read ts ≡ ((many a).read rest >>= λ y. Ok (x ∷ y.0, y.1)) = many_is a (length ts) ts true (omega arith) h ∙ rw (e, many_enough a ea full (length ts - 1) rest (omega arith)) refl in
    sym (regroup front x ((many a).read rest)) ∙ ap (with_front front) (sym one) ∙ so_far

pub loop_err : {A : Type 0} (a : Part A) (front : List A) (ts rest : List Placed) (total : Read (List A)) → begins a.starts ts ≡ true → a.read ts ≡ Err rest
    → with_front front ((many a).read ts) ≡ total → total ≡ Err rest
loop_err a front ts rest total h e so_far =
    let one : (many a).read ts ≡ Err rest = many_is a (length ts) ts true (omega arith) h ∙ rw e refl in
    sym so_far ∙ ap (with_front front) one

pub loop_done : {A : Type 0} (a : Part A) (front : List A) (ts : List Placed) (total : Read (List A)) → begins a.starts ts ≡ false
    → with_front front ((many a).read ts) ≡ total → total ≡ Ok (front, ts)
loop_done a front ts total h so_far =
    let one : (many a).read ts ≡ Ok ([], ts) = many_is a (length ts) ts false (omega arith) h in
    sym so_far ∙ ap (with_front front) one ∙ ap (λ (xs : List _). Ok (xs, ts)) (append-nil front)

-- an error of the part is one of the loop
pub loop_fails : {A : Type 0} (a : Part A) (e : Stop) (front : List A) (ts left : List Placed) (total : Read (List A)) → begins a.starts ts ≡ true
    → Fails e left (a.read ts) → with_front front ((many a).read ts) ≡ total → Fails e left total
loop_fails a Memory front ts left total h given so_far = tt
loop_fails a Here front ts left total h given so_far = loop_err a front ts left total h given so_far
