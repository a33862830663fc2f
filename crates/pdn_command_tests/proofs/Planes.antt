-- Planes of a circuit.
use Rattle.std.proofs.Common.{◌≡◌, ℕ, ◌<◌, List, replicate, sym, subst}
use Rattle.std.specs.List.{All}
use Rattle.std.proofs.lemmas.List.Elements.{All-replicate}

pub zeros_there : (count n : ℕ) (zeros : List ℕ) → zeros ≡ replicate n 0 → 0 < count → All (λ plane. plane < count) zeros
zeros_there count n zeros e h = subst (λ (xs : List ℕ). All (λ plane. plane < count) xs) (sym e) (All-replicate (λ plane. plane < count) n 0 h)
