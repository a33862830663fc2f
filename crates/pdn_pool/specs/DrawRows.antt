-- Rows of draws that the rule allows, and rows that it does not.
use Rattle.std.specs.Prelude.{[], ◌∷◌}
use Rattle.pdn_pool.specs.Draws.{Draws, hand}

pub record DrawRows : Type 0 where
  pub in_turn : Draws (3 ∷ []) (hand 65534 (0 ∷ 2 ∷ []) ∷ hand 1 (1 ∷ []) ∷ [])
  pub after_a_join : Draws (3 ∷ []) (hand 65535 (0 ∷ 2 ∷ 1 ∷ []) ∷ hand 0 [] ∷ [])
  pub drawn_twice : ¬ Draws (2 ∷ []) (hand 65534 (0 ∷ []) ∷ hand 1 (0 ∷ []) ∷ [])
  pub left_out : ¬ Draws (2 ∷ []) (hand 65534 (0 ∷ 2 ∷ []) ∷ hand 1 [] ∷ [])
