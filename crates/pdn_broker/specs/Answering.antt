-- What the root of a query takes and gives, and the order of the answer.
use Rattle.std.specs.Prelude.{ℕ, List, []}
use Rattle.pdn_base.specs.declared.order.Key.{Key}
use Rattle.pdn_base.specs.declared.site.Site.TheVariants.{A, B}
use Rattle.pdn_base.specs.Operators.{Rows}
use Rattle.pdn_schema.specs.Models.{SchemaModel}
use Rattle.pdn_tree.specs.declared.node.Node.{Node, out-Node}
use Rattle.pdn_tree.specs.declared.node.Node.TheOpen.{Node-F}
use Rattle.pdn_site.specs.SiteRows.{root_words}
use Rattle.pdn_site.specs.Compiling.{root_sizes}
use Rattle.pdn_site.specs.RootMeaning.{parts_of_slices}
use Rattle.pdn_site.specs.NetMeaning.{slices_of}
use Rattle.pdn_broker.specs.Runs.{Both}

abbrev pub order_of : Node-F Node → List Key
order_of (Node-F.Scan table) = []
order_of (Node-F.Filter child cond) = []
order_of (Node-F.Project child columns) = []
order_of (Node-F.Join left right on) = []
order_of (Node-F.Group child keys having) = []
order_of (Node-F.Count child) = []
order_of (Node-F.Distinct child) = []
order_of (Node-F.Number child partition order) = []
order_of (Node-F.Top child order limit) = order

-- the order of a tree whose root is a Top
abbrev pub top_order : Node → List Key
top_order root = order_of (out-Node root)

-- no words of either site
abbrev pub nothing_given : Both
nothing_given = record { a = []; b = [] }

-- both sites' words of the root
abbrev pub root_own : SchemaModel → List Rows → List Rows → Node → Both
root_own schema a b root = record { a = root_words A schema a (slices_of schema a b root) root; b = root_words B schema b (slices_of schema a b root) root }

-- how many rows the root's list has room for
abbrev pub root_len : SchemaModel → List Rows → List Rows → Node → ℕ
root_len schema a b root = (root_sizes schema (parts_of_slices (slices_of schema a b root)) root).len
