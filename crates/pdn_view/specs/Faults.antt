-- What reading a text answers.
use Rattle.std.specs.Prelude.{◌≡◌, ◌+◌, ℕ, Bool, true, List, [], ◌∷◌, ◌++◌, length, Result, Ok, Err}
use Rattle.std.specs.List.{list_all, flat_map}
use Rattle.pdn_view.specs.declared.view_err.ViewErr.{ViewErr}
use Rattle.pdn_view.specs.declared.view_err.ViewErr.TheVariants.{At, Memory}
use Rattle.pdn_view.specs.Cuts.{without}
use Rattle.pdn_view.specs.Views.{ViewWords, IsView}
use Rattle.pdn_view.specs.declared.machine.State.{State}
use Rattle.pdn_view.specs.declared.machine.State.TheVariants.{Closed}
use Rattle.pdn_view.specs.Lines.{view_text}

abbrev pub ended : List ℕ → List ℕ
ended line = line ++ 10 ∷ []

-- lines, each with its line feed
abbrev pub ended_lines : List (List ℕ) → List ℕ
ended_lines lines = flat_map ended lines

-- no line feed stands in a line
abbrev pub is_line : List ℕ → Bool
is_line line = without 10 line

-- The lines before this one begin some view's text. With this one they begin none, or the text ends inside it; and the text is no
-- view's.
pub record IsFirstFault (bytes : List ℕ) (number : ℕ) : Type 0 where
  pub front : List (List ℕ)
  pub rest : List ℕ
  pub lines : list_all is_line front ≡ true
  pub parts : bytes ≡ ended_lines front ++ rest
  pub counted : number ≡ length front + 1
  pub goes_on : (v : ViewWords) × (more : List ℕ) × IsView v × (view_text v ≡ ended_lines front ++ more)
  pub ends : (line after : List ℕ) → is_line line ≡ true → rest ≡ line ++ 10 ∷ after → (v : ViewWords) (more : List ℕ) → IsView v → view_text v ≡ ended_lines front ++ (line ++ 10 ∷ more) → ⊥
  pub none : (v : ViewWords) → IsView v → bytes ≡ view_text v → ⊥

abbrev pub IsFault : List ℕ → ViewErr → Type 0
IsFault bytes Memory = Unit {0}
IsFault bytes (At number) = IsFirstFault bytes number

-- this view, or want of memory
abbrev pub Gives : ViewWords → Result ViewWords ViewErr → Type 0
Gives v (Ok w) = w ≡ v
Gives v (Err Memory) = Unit {0}
Gives v (Err (At number)) = ⊥

-- what stands where no whole line is left
abbrev pub Finishes : State → List ℕ → ℕ → Result ViewWords ViewErr → Type 0
Finishes state rest number (Ok v) = (state ≡ Closed v) × (rest ≡ [])
Finishes state rest number (Err e) = (e ≡ At number) × ((v : ViewWords) → state ≡ Closed v → rest ≡ [] → ⊥)
