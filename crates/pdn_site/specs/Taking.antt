-- That the circuits of a query take as many words as are put into them.
use Rattle.std.specs.Prelude.{◌≡◌, true, List}
use Rattle.pdn_base.specs.declared.value.Value.{Value}
use Rattle.pdn_base.specs.Operators.{Rows}
use Rattle.pdn_schema.specs.Models.{SchemaModel}
use Rattle.pdn_tree.specs.declared.node.Node.{Node}
use Rattle.pdn_tree.specs.Shapes.{shape}
use Rattle.pdn_circuit.specs.Gates.{HasCounts}
use Rattle.pdn_site.specs.Meaning.{AreTables, numbers_fit}
use Rattle.pdn_site.specs.RootMeaning.{segment_tops}
use Rattle.pdn_site.specs.NetMeaning.{unit_net, unit_inputs, root_net, root_inputs, UnitsFit}

-- The circuit of a secure unit takes just as many words of each site as the site puts in, and no given words, whatever the tables,
-- the tree and the value.
abbrev pub UnitTakes : Type 0
UnitTakes = (schema : SchemaModel) (a b : List Rows) (top : Node) (v : Value) → HasCounts (unit_net schema top v) (unit_inputs schema a b top v)

-- The circuit of the root takes just as many words of each site as the site puts in, and as many given words as the secure units
-- put out, where the tables are valid, the plan fits the schema, no list of a unit is too long, and its gates stand in order.
abbrev pub RootTakes : Type 0
RootTakes = (schema : SchemaModel) (a b : List Rows) → AreTables schema a → AreTables schema b → (root : Node) → (shape schema root).sound ≡ true → numbers_fit root ≡ true → UnitsFit schema a b (segment_tops schema root) →
    HasCounts (root_net schema a b root) (root_inputs schema a b root)

-- both
pub record CircuitsTake : Type 0 where
  pub unit : UnitTakes
  pub root : RootTakes
