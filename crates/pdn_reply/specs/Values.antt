-- JSON values, by their texts.
use Rattle.std.specs.Prelude.{◌≡◌, ℕ, false, List, [], ◌∷◌}
use Rattle.serde_json.specs.View.{view}
use Rattle.serde_json.specs.Written.{compact_text, has_float}
use Rattle.serde_json.specs.declared.value.Value.{Value}

-- the value has no float, and this text
pub record Says (json : Value) (text : List ℕ) : Type 0 where
  pub plain : has_float (view json) ≡ false
  pub text_is : compact_text (view json) ≡ text

-- the same of each of these
abbrev pub SayEach : List Value → List (List ℕ) → Type 0
SayEach [] [] = Unit {0}
SayEach [] (text ∷ texts) = ⊥
SayEach (json ∷ jsons) [] = ⊥
SayEach (json ∷ jsons) (text ∷ texts) = Says json text × SayEach jsons texts
