-- A text cut where a byte first stands.
use Rattle.std.specs.Prelude.{◌≡◌, ℕ, Bool, true, not, eqb, List, [], ◌∷◌, ◌++◌, Option, Some, None}
use Rattle.std.specs.List.{list_all}
use Rattle.std.specs.Borrow.{Bor}
use Rattle.pdn_view.specs.Guesses.{words}

-- the byte doesn't stand in the text
abbrev pub without : ℕ → List ℕ → Bool
without byte text = list_all (λ other. not (eqb other byte)) text

pub record IsCut (byte : ℕ) (text front rest : List ℕ) : Type 0 where
  pub parts : text ≡ front ++ byte ∷ rest
  pub without : without byte front ≡ true

-- the words of what is left of a line, if anything is
abbrev pub words_left : Option (Bor (List ℕ)) → List (List ℕ)
words_left None = []
words_left (Some text) = words text.now
