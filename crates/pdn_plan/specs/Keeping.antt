-- What is kept of the blocks that were bound, so that no tree grows past what a plan may have.
use Rattle.std.specs.Prelude.{◌≡◌, ℕ, zero, suc, nat_lt, Bool, true, false, cond, List, [], ◌∷◌, ◌++◌, map, Option, Some, None}
use Rattle.pdn_tree.specs.declared.node.Node.{Node}
use Rattle.pdn_tree.specs.declared.node.Node.TheVariants as node
use Rattle.pdn_plan.specs.declared.scope.Relation.{Relation}
use Rattle.pdn_plan.specs.declared.scope.Earlier.{Earlier}
use Rattle.pdn_schema.specs.Models.{SchemaModel}
use Rattle.pdn_sql.specs.declared.query.Block.{Block}
use Rattle.pdn_sql.specs.declared.query.Named.{Named}
use Rattle.pdn_tree.specs.Shapes.{nodes, has_join}
use Rattle.pdn_plan.specs.Names.{or_else, refuse_if}
use Rattle.pdn_plan.specs.Planning.{block_relation, topped}
use Rattle.pdn_plan.specs.Binding.{with_refusal, main_refusal}
use Rattle.pdn_tree.specs.declared.plan.OutColumn.{OutColumn}
use Rattle.pdn_plan.specs.declared.plan_err.PlanErr.{PlanErr}
use Rattle.pdn_plan.specs.declared.plan_err.PlanErr.TheVariants as err
use Rattle.pdn_plan.specs.declared.scope.Refusal.{Refusal}

-- so many Distincts above a tree
abbrev pub deepened : ℕ → Node → Node
deepened zero n = n
deepened (suc k) n = node.Distinct (deepened k n)

-- a small tree with a Join, or with none
abbrev pub least_tree : Bool → Node
least_tree true = node.Join (node.Scan 0) (node.Scan 0) []
least_tree false = node.Scan 0

-- what stands for a tree of more than 32 nodes
unfoldable pub stand_in : Bool → Node
stand_in joins = deepened 32 (least_tree joins)

-- a tree where it has at most 32 nodes; else one that has more too, and a Join where that has one
unfoldable pub capped : Node → Node
capped n = cond (nat_lt 32 (nodes n)) (stand_in (has_join n)) n

abbrev pub capped_relation : Relation → Relation
capped_relation r = record { columns = r.columns; plan = capped r.plan }

abbrev pub kept_as : Earlier → Earlier
kept_as e = record { name = e.name; gives = capped_relation e.gives }

abbrev pub all_kept : List Earlier → List Earlier
all_kept es = map kept_as es

-- What is kept of earlier blocks: names, columns, and trees that are capped already.
abbrev pub AreKept : List Earlier → Type 0
AreKept es = all_kept es ≡ es

-- the first refusal of the blocks of WITH
abbrev pub with_refusals : SchemaModel → List Earlier → List Named → Option Refusal
with_refusals schema earlier [] = None
with_refusals schema earlier (n ∷ ns) = or_else
    (with_refusal schema earlier n)
    (with_refusals schema (earlier ++ record { name = n.name.text; gives = block_relation schema earlier n.block } ∷ []) ns)

-- an error tells a refusal; want of memory may come at any time
abbrev pub Tells : Option Refusal → PlanErr → Type 0
Tells r (err.Refused kind name) = r ≡ Some (record { kind = kind; name = name })
Tells r (err.Forbidden column label) = ⊥
Tells r err.Memory = Unit {0}

-- the tree of a main block
abbrev pub main_tree : SchemaModel → List Earlier → Block → Node
main_tree schema earlier main = topped main (block_relation schema earlier main).plan

-- the first refusal from the main block on
abbrev pub main_refusals : SchemaModel → List Earlier → Block → Option Refusal
main_refusals schema earlier main = or_else (main_refusal schema earlier main) (refuse_if (nat_lt 32 (nodes (main_tree schema earlier main))) 8 [])

-- an error tells of a column that it may not be shown; want of memory may come at any time
abbrev pub Forbids : Option OutColumn → PlanErr → Type 0
Forbids c (err.Refused kind name) = ⊥
Forbids c (err.Forbidden column label) = (o : OutColumn) × (c ≡ Some o) × (o.source ≡ column) × (o.label ≡ label)
Forbids c err.Memory = Unit {0}
