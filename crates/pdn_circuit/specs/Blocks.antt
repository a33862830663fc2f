-- Blocks of gates: a function from the number of the next gate to the gates that are made, in order, and to what they give.
use Rattle.std.specs.Prelude.{ℕ, ◌+◌, List, [], ◌∷◌, ◌++◌, length}
use Rattle.pdn_base.specs.declared.site.Site.{Site}
use Rattle.pdn_circuit.specs.declared.gate.Gate.{Gate}
use Rattle.pdn_circuit.specs.declared.gate.Gate.TheVariants.{Input, Given, Const, Xor, And, Spread, Move}

infixl 10 ◌>>=◌
pub record Block (A : Type 0) : Type 0 where
  pub gates : List Gate
  pub result : A

abbrev pub Making : Type 0 → Type 0
Making A = ℕ → Block A

-- no gate
unfoldable pub gives : {A : Type 0} → A → Making A
gives x = λ n. record { gates = []; result = x }

-- one gate, which gives its number
unfoldable pub one : Gate → Making ℕ
one gate = λ n. record { gates = gate ∷ []; result = n }

-- the gates of the first, and after them those that its result asks for
unfoldable pub ◌>>=◌ : {A B : Type 0} → Making A → (A → Making B) → Making B
first >>= rest = λ n.
    let a = first n in
    let b = rest a.result (n + length a.gates) in
    record { gates = a.gates ++ b.gates; result = b.result }

-- the same for each element, in order
abbrev pub each : {X A : Type 0} → (X → Making A) → List X → Making (List A)
each f [] = gives []
each f (x ∷ xs) = do
  a ← f x
  rest ← each f xs
  gives (a ∷ rest)

-- the carry out of a plane: none is made out of the highest
abbrev pub carry_gates : List ℕ → ℕ → ℕ → Making ℕ
carry_gates [] plane bit = gives bit
carry_gates (above ∷ more) plane bit = one (And plane bit)

-- a counter plus a bit, lowest plane first: the new planes
abbrev pub add_bit_gates : List ℕ → ℕ → Making (List ℕ)
add_bit_gates [] bit = gives []
add_bit_gates (plane ∷ above) bit = do
  sum ← one (Xor plane bit)
  carry ← carry_gates above plane bit
  sums ← add_bit_gates above carry
  gives (sum ∷ sums)
