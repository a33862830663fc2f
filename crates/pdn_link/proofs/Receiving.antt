-- What a link in memory gives and loses.
use Rattle.std.proofs.Common.{◌≡◌, ◌<◌, ◌≤◌, ◌+◌, ℕ, List, [], ◌++◌, min, length, take, drop, sym, ap, ◌∙◌, arith}
use Rattle.std.proofs.Common.{length-take, length-drop, length-append, take-append-drop, take_at, drop-drop}
use Rattle.std.proofs.lemmas.List.{drop_all}

-- a front of what is left is received, and the rest is left; nothing only where nothing was left
pub receives : (input old new : List ℕ) (at n : ℕ) → at ≤ length input → n ≡ min (length old) (length (drop at input))
    → new ≡ take n (drop at input) ++ drop n old
    → (drop at input ≡ take n new ++ drop (at + n) input) × (n ≡ 0 → 0 < length new → drop (at + n) input ≡ [])
receives input old new at n within count filled =
    let left = length-drop at input in
    let size = length-take n (drop at input) in
    let front : take n new ≡ take n (drop at input) =
    ap (take n) filled ∙ take_at (take n (drop at input)) (drop n old) n (omega (arith, size, count)) in
    let whole = length-append (take n (drop at input)) (drop n old) in
    let rest = length-drop n old in (
      sym (ap (λ l. l ++ drop (at + n) input) front ∙ ap (λ l. take n (drop at input) ++ l) (sym (drop-drop n at input)) ∙ take-append-drop n (drop at input)),
      λ none some. drop_all (at + n) input (omega (arith, left, size, count, none, some, ap length filled, whole, rest)),
    )
