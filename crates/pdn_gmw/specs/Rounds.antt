-- Frames by round: the words of all And gates of one round go together, in gate order.
use Rattle.std.specs.Prelude.{ℕ, zero, suc, ◌≤◌, List, [], ◌∷◌, length, replicate, cond, eqb}
use Rattle.std.specs.List.{All}
use Rattle.pdn_circuit.specs.declared.gate.Gate.{Gate}
use Rattle.pdn_circuit.specs.Gates.{InOrder}
use Rattle.pdn_circuit.specs.Depths.{InRounds, and_rounds, depths_of}
use Rattle.pdn_gmw.specs.Shares.{Masked, blank}
use Rattle.pdn_gmw.specs.Halves.{HalfWords, half_walk, HaveTalked}

-- what goes out in one round, from the words for each And gate
abbrev pub pick : ℕ → List ℕ → List Masked → List Masked
pick d [] fs = []
pick d (e ∷ es) [] = []
pick d (e ∷ es) (f ∷ fs) = cond (eqb e d) (f ∷ pick d es fs) (pick d es fs)

-- what came in in one round, put in the places of its And gates
abbrev pub put : ℕ → List ℕ → List Masked → List Masked → List Masked
put d [] hs frame = []
put d (e ∷ es) [] frame = []
put d (e ∷ es) (h ∷ hs) [] = h ∷ put d es hs []
put d (e ∷ es) (h ∷ hs) (f ∷ frame) = cond (eqb e d) (f ∷ put d es hs frame) (h ∷ put d es hs (f ∷ frame))

-- what two halves have heard after so many rounds, for each And gate in gate order: places of later rounds are blank
pub record Heard : Type 0 where
  pub a : List Masked
  pub b : List Masked

abbrev pub heard_after : HalfWords → HalfWords → List Gate → List ℕ → ℕ → Heard
heard_after a b gates es zero = record { a = replicate (length es) blank; b = replicate (length es) blank }
heard_after a b gates es (suc n) =
    let now = heard_after a b gates es n in
    record {
      a = put (suc n) es now.a (pick (suc n) es (half_walk b now.b gates).sent);
      b = put (suc n) es now.b (pick (suc n) es (half_walk a now.a gates).sent);
    }

-- when all rounds are through, each has heard all that the other sends: no gate's words depend on the rounds
abbrev pub RoundLaw : Type 0
RoundLaw = (a b : HalfWords) (gates : List Gate) (rounds : List ℕ) (last : ℕ) → InRounds gates rounds → All (λ d. d ≤ last) (and_rounds gates rounds)
    → let heard = heard_after a b gates (and_rounds gates rounds) last in HaveTalked a b gates heard.a heard.b

-- as with a round for each depth
abbrev pub DepthLaw : Type 0
DepthLaw = (a b : HalfWords) (gates : List Gate) (deepest : ℕ) → InOrder gates → All (λ d. d ≤ deepest) (and_rounds gates (depths_of gates))
    → let heard = heard_after a b gates (and_rounds gates (depths_of gates)) deepest in HaveTalked a b gates heard.a heard.b
