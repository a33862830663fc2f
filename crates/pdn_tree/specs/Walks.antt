-- What a node reads, whatever its kind.
use Rattle.std.specs.Prelude.{List, [], ◌∷◌}
use Rattle.pdn_tree.specs.declared.node.Node.{Node, out-Node}
use Rattle.pdn_tree.specs.declared.node.Node.TheOpen.{Node-F}
use Rattle.pdn_tree.specs.declared.node.Below.{Below}
use Rattle.pdn_tree.specs.declared.node.Below.TheVariants.{Nothing, One, Two}

-- the trees that a node reads, left to right
abbrev pub children : {A : Type 0} → Node-F A → List A
children (Node-F.Scan table) = []
children (Node-F.Filter child cond) = child ∷ []
children (Node-F.Project child columns) = child ∷ []
children (Node-F.Join left right on) = left ∷ right ∷ []
children (Node-F.Group child keys having) = child ∷ []
children (Node-F.Count child) = child ∷ []
children (Node-F.Distinct child) = child ∷ []
children (Node-F.Number child partition order) = child ∷ []
children (Node-F.Top child order limit) = child ∷ []

abbrev pub below : Node → List Node
below n = children (out-Node n)

-- the same trees, as they are handed out
abbrev pub read_by : Below → List Node
read_by Nothing = []
read_by (One child) = child.now ∷ []
read_by (Two left right) = left.now ∷ right.now ∷ []
