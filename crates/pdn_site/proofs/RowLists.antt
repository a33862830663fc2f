-- Rows of kinds, row by row.
use Rattle.std.proofs.Common.{ℕ, zero, suc, ◌<◌, ◌≤◌, Bool, true, false, cond, List, [], ◌∷◌, ◌++◌, length, get_or, map, filter, arith}
use Rattle.std.specs.List.{AllByRecursion}
use Rattle.pdn_base.specs.declared.marks.Kind.{Kind}
use Rattle.pdn_base.specs.Values.{same_row}
use Rattle.pdn_base.specs.Operators.{Rows, SameRows, listed}
use Rattle.pdn_base.proofs.Perms.{Perm, Perm-length, Perm-sym}
use Rattle.pdn_base.proofs.Perms.Perm.{none, more, exchange, then}
use Rattle.pdn_base.proofs.BagLaws.{SameBag-from_perm}
use Rattle.pdn_base.proofs.Listing.{listed-rows}
use Rattle.pdn_obl_rows.specs.Encoding.{RowIsOf, RowsAreOf}

-- ---- what holds of each
pub all_perm : {X : Type 0} (P : X → Type 0) {xs ys : List X} → Perm X xs ys → AllByRecursion P xs → AllByRecursion P ys
all_perm P none h = h
all_perm P (more x p) h = (h.0, all_perm P p h.1)
all_perm P (exchange x y xs) h = (h.1.0, (h.0, h.1.1))
all_perm P (then p q) h = all_perm P q (all_perm P p h)

pub all_filter : {X : Type 0} (P : X → Type 0) (p : X → Bool) (xs : List X) → AllByRecursion P xs → AllByRecursion P (filter p xs)
all_filter P p [] h = tt
all_filter {X} P p (x ∷ xs) h = one (p x) (all_filter P p xs h.1)
  where
    one : (b : Bool) → AllByRecursion P (filter p xs) → AllByRecursion P (cond b (x ∷ filter p xs) (filter p xs))
    one true k = (h.0, k)
    one false k = k

pub all_append : {X : Type 0} (P : X → Type 0) (xs ys : List X) → AllByRecursion P xs → AllByRecursion P ys → AllByRecursion P (xs ++ ys)
all_append P [] ys h k = k
all_append P (x ∷ xs) ys h k = (h.0, all_append P xs ys h.1 k)

pub all_map : {X Y : Type 0} (P : X → Type 0) (Q : Y → Type 0) (f : X → Y) → ((x : X) → P x → Q (f x)) → (xs : List X) → AllByRecursion P xs → AllByRecursion Q (map f xs)
all_map P Q f s [] h = tt
all_map P Q f s (x ∷ xs) h = (s x h.0, all_map P Q f s xs h.1)

-- ---- rows of kinds
pub of_all : (kinds : List Kind) (rows : Rows) → AllByRecursion (RowIsOf kinds) rows → RowsAreOf kinds rows
of_all kinds rows h = record { at = λ i l. at rows h i l }
  where
    at : (rows : Rows) → AllByRecursion (RowIsOf kinds) rows → (i : ℕ) → i < length rows → RowIsOf kinds (get_or rows i [])
    at [] h i l = absurd (omega arith)
    at (r ∷ rs) h zero l = h.0
    at (r ∷ rs) h (suc i) l = at rs h.1 i (omega arith)

pub to_all : (kinds : List Kind) (rows : Rows) → RowsAreOf kinds rows → AllByRecursion (RowIsOf kinds) rows
to_all kinds [] h = tt
to_all kinds (r ∷ rs) h = (h.at 0 (omega arith), to_all kinds rs (record { at = λ i l. h.at (suc i) (omega arith) }))

pub listed_are : (kinds : List Kind) (rows : Rows) → RowsAreOf kinds rows → RowsAreOf kinds (listed [] rows)
listed_are kinds rows h = of_all kinds (listed [] rows) (all_perm (RowIsOf kinds) (listed-rows [] rows) (to_all kinds rows h))

pub listed_few : (rows : Rows) (n : ℕ) → length rows ≤ n → length (listed [] rows) ≤ n
listed_few rows n h = omega (arith, h, Perm-length (listed-rows [] rows))

pub listed_same : (rows : Rows) → SameRows (listed [] rows) rows
listed_same rows = SameBag-from_perm same_row (Perm-sym (listed-rows [] rows))
