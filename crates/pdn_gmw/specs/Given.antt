-- What a borrowed step gives, and what it leaves.
use Rattle.std.specs.Prelude.{◌≡◌, length, ⊤}
use Rattle.std.specs.Borrow.{MutBor, Fml, follows_so}
use mathlib.Core.Option.{none}
use Rattle.pdn_gmw.specs.declared.stage.Stage.TheVariants.{Sent, Wanting, Over}
use Rattle.pdn_gmw.specs.declared.step.Step.{Step}
use Rattle.pdn_gmw.specs.declared.step.Step.TheVariants.{Send, Want, Done}
use Rattle.pdn_gmw.specs.Steps.{HalfState, stage_after, after_next, next_frame}
use Rattle.pdn_gmw.specs.contracts.half.Half.{the_row}

-- the step tells the stage that the half is in after it
abbrev pub IsStep : HalfState → Step → Type 0
IsStep s (Send words) = (stage_after s ≡ Sent) × (words.now ≡ next_frame s)
IsStep s (Want len) = (stage_after s ≡ Wanting) × (len ≡ length (next_frame s))
IsStep s Done = stage_after s ≡ Over

abbrev pub LeavesStepped : MutBor HalfState → Fml
LeavesStepped m = follows_so the_row the_row m.ghost_name none (λ _ _. ⊤) (λ after. after ≡ after_next m.now)
