-- What each node means, by its children.
use Rattle.std.proofs.Common.{◌≡◌, ℕ, List, Option, ap, ◌∙◌, sym}
use Rattle.pdn_base.specs.declared.order.Key.{Key}
use Rattle.pdn_base.specs.Operators.{filter_rows, project_rows, join_rows, group_rows, count_rows, distinct_rows, number_rows, top_rows}
use Rattle.pdn_tree.specs.declared.node.Node.{Node, Node-F, fold-roll-Node}
use Rattle.pdn_tree.specs.declared.node.Node.TheVariants.{rolls-Scan, rolls-Filter, rolls-Project, rolls-Join, rolls-Group, rolls-Count, rolls-Distinct, rolls-Number, rolls-Top}
use Rattle.pdn_tree.specs.declared.node.Node.TheVariants as node
use Rattle.pdn_tree.specs.Columns.{Clauses}
use Rattle.pdn_tree.specs.Meaning.{Rows, mean, mean_step}

pub mean-Scan : (tables : ℕ → Rows) (table : ℕ) → mean tables (node.Scan table) ≡ tables table
mean-Scan tables table = ap (mean tables) (sym (rolls-Scan table)) ∙ fold-roll-Node Rows (mean_step tables) (Node-F.Scan table)

pub mean-Filter : (tables : ℕ → Rows) (child : Node) (cond : Clauses) → mean tables (node.Filter child cond) ≡ filter_rows cond (mean tables child)
mean-Filter tables child cond = ap (mean tables) (sym (rolls-Filter child cond)) ∙ fold-roll-Node Rows (mean_step tables) (Node-F.Filter child cond)

pub mean-Project : (tables : ℕ → Rows) (child : Node) (columns : List ℕ) → mean tables (node.Project child columns) ≡ project_rows columns (mean tables child)
mean-Project tables child columns = ap (mean tables) (sym (rolls-Project child columns)) ∙ fold-roll-Node Rows (mean_step tables) (Node-F.Project child columns)

pub mean-Join : (tables : ℕ → Rows) (left right : Node) (on : Clauses) → mean tables (node.Join left right on) ≡ join_rows on (mean tables left) (mean tables right)
mean-Join tables left right on = ap (mean tables) (sym (rolls-Join left right on)) ∙ fold-roll-Node Rows (mean_step tables) (Node-F.Join left right on)

pub mean-Group : (tables : ℕ → Rows) (child : Node) (keys : List ℕ) (having : Option ℕ) → mean tables (node.Group child keys having) ≡ group_rows keys having (mean tables child)
mean-Group tables child keys having = ap (mean tables) (sym (rolls-Group child keys having)) ∙ fold-roll-Node Rows (mean_step tables) (Node-F.Group child keys having)

pub mean-Count : (tables : ℕ → Rows) (child : Node) → mean tables (node.Count child) ≡ count_rows (mean tables child)
mean-Count tables child = ap (mean tables) (sym (rolls-Count child)) ∙ fold-roll-Node Rows (mean_step tables) (Node-F.Count child)

pub mean-Distinct : (tables : ℕ → Rows) (child : Node) → mean tables (node.Distinct child) ≡ distinct_rows (mean tables child)
mean-Distinct tables child = ap (mean tables) (sym (rolls-Distinct child)) ∙ fold-roll-Node Rows (mean_step tables) (Node-F.Distinct child)

pub mean-Number : (tables : ℕ → Rows) (child : Node) (partition : List ℕ) (order : List Key) → mean tables (node.Number child partition order) ≡ number_rows partition order (mean tables child)
mean-Number tables child partition order = ap (mean tables) (sym (rolls-Number child partition order)) ∙ fold-roll-Node Rows (mean_step tables) (Node-F.Number child partition order)

pub mean-Top : (tables : ℕ → Rows) (child : Node) (order : List Key) (limit : Option ℕ) → mean tables (node.Top child order limit) ≡ top_rows order limit (mean tables child)
mean-Top tables child order limit = ap (mean tables) (sym (rolls-Top child order limit)) ∙ fold-roll-Node Rows (mean_step tables) (Node-F.Top child order limit)
