-- Which unit a value of a segment is.
use Rattle.pdn_base.specs.declared.value.Value.{Value}
use Rattle.pdn_site.specs.declared.unit.UnitKind.{UnitKind}
use Rattle.pdn_site.specs.declared.unit.UnitKind.TheVariants as kinds
use Rattle.pdn_site.specs.Models.{Dirs}
use Rattle.pdn_site.specs.Directories.{kind_of}
use Rattle.pdn_view.specs.declared.due.Due.{Due}
use Rattle.pdn_view.specs.declared.due.Due.TheVariants.{Plain, Secure, Root}

abbrev pub due_by : UnitKind → Value → Due
due_by (kinds.Plain site) v = Plain site v
due_by kinds.Secure v = Secure v
due_by kinds.Root v = Root

-- the unit of a value of a segment with these directories
abbrev pub unit_due : Dirs → Value → Due
unit_due d v = due_by (kind_of d v) v
