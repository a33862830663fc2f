-- Views as far as they were read.
use Rattle.std.specs.Prelude.{ℕ, List}
use Rattle.pdn_gmw.specs.Shares.{UnitWords}
use Rattle.pdn_site.specs.Models.{Dirs}
use Rattle.pdn_view.specs.declared.view.Party.{Party}
use Rattle.pdn_view.specs.declared.due.Due.{Due}
use Rattle.pdn_view.specs.declared.due.Counts.{Counts}
use Rattle.pdn_view.specs.Views.{Part}

-- the head, and the segments that are whole
pub record Opening : Type 0 where
  pub party : Party
  pub ticket : ℕ
  pub dirs : List Dirs

-- the units that are whole, those that are still due, and the number of the next one
pub record Body : Type 0 where
  pub party : Party
  pub ticket : ℕ
  pub dirs : List Dirs
  pub units : List Part
  pub todo : List Due
  pub number : ℕ

-- a unit, how many words its line says, and its words so far
pub record Begun : Type 0 where
  pub due : Due
  pub want : Counts
  pub words : UnitWords
