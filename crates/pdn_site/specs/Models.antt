-- Directories and units as contracts see them.
use Rattle.std.specs.Prelude.{ℕ, List, Option}
use Rattle.pdn_base.specs.declared.value.Value.{Value}
use Rattle.pdn_circuit.specs.Gates.{Net}
use Rattle.pdn_site.specs.declared.unit.UnitKind.{UnitKind}

-- the directories of a segment at both sites
pub record Dirs : Type 0 where
  pub a : List Value
  pub b : List Value

pub record UnitModel : Type 0 where
  pub kind : UnitKind
  pub segment : Option ℕ
  pub value : Option Value
  pub len : ℕ
  pub circuit : Option Net
