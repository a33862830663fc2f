-- A plan as contracts see it, and what every plan keeps.
use Rattle.std.specs.Prelude.{◌≡◌, true, not, List, Option, find}
use Rattle.std.specs.List.{list_all}
use Rattle.pdn_tree.specs.declared.node.Node.{Node}
use Rattle.pdn_tree.specs.declared.plan.OutColumn.{OutColumn}
use Rattle.pdn_tree.specs.Shapes.{is_public, is_top, tops}

pub record PlanModel : Type 0 where
  pub root : Node
  pub columns : List OutColumn

-- the root is the one Top, and every column is public
pub record IsPlan (p : PlanModel) : Type 0 where
  pub root : is_top p.root ≡ true
  pub one : tops p.root ≡ 1
  pub open_to_all : list_all (λ c. is_public c.label) p.columns ≡ true

-- the first column from the left that isn't public
abbrev pub forbidden : List OutColumn → Option OutColumn
forbidden columns = find (λ c. not (is_public c.label)) columns
