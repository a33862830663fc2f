-- The same step for each of a list, one after the other.
use Rattle.std.specs.Prelude.{◌≡◌, List, [], ◌∷◌}
use Rattle.pdn_base.specs.Operators.{Rows}
use Rattle.pdn_base.specs.declared.site.Site.{Site}
use Rattle.pdn_schema.specs.Models.{TableModel}
use Rattle.pdn_query.specs.Questions.{Kept}
use Rattle.pdn_query.specs.Script.{Script, Ask}

-- what follows are the results of the steps, in order
abbrev pub each : {X Y : Type 0} → (X → (Y → Script) → Script) → List X → (List Y → Script) → Script
each step [] next = next []
each step (x ∷ xs) next = step x (λ y. each step xs (λ ys. next (y ∷ ys)))

-- the lists are of one length, and this holds of what stands at the same place in both
abbrev pub EachWith : {X Y : Type 0} → (X → Y → Type 0) → List X → List Y → Type 0
EachWith R [] ys = ys ≡ []
EachWith R (x ∷ xs) [] = ⊥
EachWith R (x ∷ xs) (y ∷ ys) = R x y × EachWith R xs ys

-- a site's rows of a table
abbrev pub keeping : Site → TableModel → (Rows → Script) → Script
keeping site t next = Ask (Kept site t.name) next
