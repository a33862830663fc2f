-- The rule at rows of draws.
use Rattle.std.proofs.Common.{◌≡◌, ◌≢◌, ℕ, zero, suc, [], ◌∷◌, refl, sym, subst, arith}
use mathlib.Core.Option.{some, some-injective, some-ne-none}
use lib.ListN.{get_elem?}
use Rattle.std.proofs.lemmas.Bool.Decides.{nat_tests}
use Rattle.pdn_pool.specs.declared.rule.Hand.{Hand}
use Rattle.pdn_pool.specs.Draws.{total, times, hand, HasRoom, Draws}

roomy_two : (v w : Hand) → HasRoom v → HasRoom w → (k : ℕ) (u : Hand) → get_elem? (v ∷ w ∷ []) k ≡ some u → HasRoom u
roomy_two v w rv rw' zero u e = subst (λ (z : Hand). HasRoom z) (some-injective v u e) rv
roomy_two v w rv rw' (suc zero) u e = subst (λ (z : Hand). HasRoom z) (some-injective w u e) rw'
roomy_two v w rv rw' (suc (suc k)) u e = absurd (some-ne-none u (sym e))

pub in_turn : Draws (3 ∷ []) (hand 65534 (0 ∷ 2 ∷ []) ∷ hand 1 (1 ∷ []) ∷ [])
unfolding total times
in_turn = record {
  word = refl;
  each_once = λ x. grind (arith, nat_tests);
  lengths = refl;
  weights = refl;
  room = roomy_two (hand 65534 (0 ∷ 2 ∷ [])) (hand 1 (1 ∷ [])) (omega arith) (omega arith);
}

pub after_a_join : Draws (3 ∷ []) (hand 65535 (0 ∷ 2 ∷ 1 ∷ []) ∷ hand 0 [] ∷ [])
unfolding total times
after_a_join = record {
  word = refl;
  each_once = λ x. grind (arith, nat_tests);
  lengths = refl;
  weights = refl;
  room = roomy_two (hand 65535 (0 ∷ 2 ∷ 1 ∷ [])) (hand 0 []) (omega arith) (omega arith);
}

not_both : (a b : ℕ) → a ≡ b → a ≢ b → ⊥
not_both a b e n = absurd (n e)

pub drawn_twice : ¬ Draws (2 ∷ []) (hand 65534 (0 ∷ []) ∷ hand 1 (0 ∷ []) ∷ [])
unfolding total times
drawn_twice d = not_both 2 1 (d.each_once 0) (λ e. absurd (omega arith))

pub left_out : ¬ Draws (2 ∷ []) (hand 65534 (0 ∷ 2 ∷ []) ∷ hand 1 [] ∷ [])
unfolding total times
left_out d = not_both 0 1 (d.each_once 1) (λ e. absurd (omega arith))
