-- The runs of all units in two worlds.
use Rattle.std.specs.Prelude.{◌≡◌, ℕ, map}
use Rattle.pdn_base.specs.declared.site.Site.{Site}
use Rattle.pdn_broker.specs.Runs.{Tape}
use Rattle.pdn_broker.specs.Units.{secure_numbers}
use Rattle.pdn_broker.specs.Running.{secure_runs, runs_of}
use Rattle.pdn_broker.specs.Prepared.{PreparedModel}
use Rattle.pdn_worlds.specs.TapeChange.{shift_tape}
use Rattle.pdn_twin.specs.declared.runs.Runs.{Runs}
use Rattle.pdn_twin.specs.Twins.{change_at, changes}

-- those of the secure units
pub record AreSecureRuns (site : Site) (p q : PreparedModel) (tape : Tape) (ticket : ℕ) (runs : Runs) : Type 0 where
  pub first : runs.first.items ≡ secure_runs p tape ticket
  pub second : runs.second.items ≡ secure_runs q (shift_tape site p q ticket tape) ticket
  pub changed : runs.changed.items ≡ map (change_at site p q tape ticket) (secure_numbers p.units)

-- and the root's at the end
pub record AreTwinRuns (site : Site) (p q : PreparedModel) (tape : Tape) (ticket : ℕ) (runs : Runs) : Type 0 where
  pub first : runs.first.items ≡ runs_of p tape ticket
  pub second : runs.second.items ≡ runs_of q (shift_tape site p q ticket tape) ticket
  pub changed : runs.changed.items ≡ changes site p q tape ticket
