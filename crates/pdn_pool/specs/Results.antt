-- Results of jobs.
use Rattle.std.specs.Prelude.{ℕ, ◌<◌, List, [], ◌∷◌, length, slice_index_or, slice_set, Option, Some}

-- the number names a job, and the result is one that this job gives
pub record GivenAt {J X : Type 0} (gives : J → X → Type 0) (jobs : List J) (p : ℕ × X) : Type 0 where
  pub below : p.0 < length jobs
  pub result : (d : J) → gives (slice_index_or jobs p.0 d) p.1

-- each result is one that the job at its place gives
abbrev pub EachGives : {J X : Type 0} → (J → X → Type 0) → List J → List X → Type 0
EachGives gives jobs outs = (i : ℕ) (job : _) (out : _) → i < length jobs → gives (slice_index_or jobs i job) (slice_index_or outs i out)

-- each result is put at the place of its number
abbrev pub placed : {X : Type 0} → List (Option X) → List (ℕ × X) → List (Option X)
placed slots [] = slots
placed slots (p ∷ ps) = placed (slice_set slots p.0 (Some p.1)) ps
