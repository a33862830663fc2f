-- The units of a query as they are compiled, one after the other: what each gives to the root, and which are dealt.
use Rattle.std.specs.Prelude.{◌≡◌, ℕ, ◌-◌, ◌<◌, ◌≤◌, Bool, true, false, List, [], length, map, filter, get_or, Option, Some, None, Ok}
use Rattle.std.specs.List.{flat_map, range_with_len}
use Rattle.pdn_base.specs.declared.value.Value.{Value}
use Rattle.pdn_base.specs.Operators.{Rows}
use Rattle.pdn_schema.specs.Models.{SchemaModel}
use Rattle.pdn_tree.specs.declared.node.Node.{Node}
use Rattle.pdn_tree.specs.Shapes.{shape}
use Rattle.pdn_circuit.specs.Gates.{Net, InOrder, output_words}
use Rattle.pdn_level.specs.Levels.{segments_of}
use Rattle.pdn_level.specs.Cutting.{slice_column}
use Rattle.pdn_site.specs.declared.unit.UnitKind.{UnitKind}
use Rattle.pdn_site.specs.declared.unit.UnitKind.TheVariants.{Plain, Secure, Root}
use Rattle.pdn_site.specs.Models.{UnitModel}
use Rattle.pdn_site.specs.SiteRows.{unit_words}
use Rattle.pdn_site.specs.Compiling.{node_at, root_sizes, compiled}
use Rattle.pdn_site.specs.Meaning.{numbers_fit}
use Rattle.pdn_site.specs.RootMeaning.{segment_tops, parts_of_slices}
use Rattle.pdn_site.specs.NetMeaning.{slices_of, root_net, root_inputs, UnitsFit, site_dirs}
use Rattle.pdn_site.specs.Engines.{no_segment, no_unit, segment_number, value_of}
use Rattle.pdn_broker.specs.declared.answered.Dealt.{Dealt}
use Rattle.pdn_broker.specs.Runs.{Both, world}
use Rattle.pdn_broker.specs.Answering.{nothing_given, root_len}

abbrev pub no_net : Net
no_net = record { gates = []; outputs = []; released = false }

abbrev pub net_or : Option Net → Net
net_or None = no_net
net_or (Some net) = net

-- the tree of a unit's segment
abbrev pub unit_top : SchemaModel → Node → UnitModel → Node
unit_top schema root unit = node_at (get_or (segments_of schema root []) (segment_number unit) no_segment).path root

-- a site's words of a secure unit
abbrev pub secure_words : SchemaModel → List Rows → Node → UnitModel → List ℕ
secure_words schema tables root unit = unit_words schema tables (value_of unit) (unit_top schema root unit) (slice_column schema (unit_top schema root unit))

abbrev pub secure_own : SchemaModel → List Rows → List Rows → Node → UnitModel → Both
secure_own schema a b root unit = record { a = secure_words schema a root unit; b = secure_words schema b root unit }

-- what a unit gives to the root, in plain: a secure one its output words
abbrev pub gives_by : UnitKind → List ℕ → List ℕ
gives_by (Plain site) words = []
gives_by Secure words = words
gives_by Root words = []

abbrev pub unit_gives : SchemaModel → List Rows → List Rows → Node → UnitModel → List ℕ
unit_gives schema a b root unit = gives_by unit.kind (output_words (world (secure_own schema a b root unit) nothing_given).inputs (net_or unit.circuit))

-- each gate of a unit's circuit stands after those that it reads
abbrev pub CircuitStands : Option Net → Type 0
CircuitStands None = Unit {0}
CircuitStands (Some net) = InOrder net.gates

abbrev pub UnitsStand : List UnitModel → Type 0
UnitsStand units = (k : ℕ) → k < length units → CircuitStands (get_or units k no_unit).circuit

abbrev pub AreUnits : SchemaModel → List Rows → List Rows → Node → List UnitModel → Type 0
AreUnits schema a b root units = compiled schema root (segments_of schema root []) (site_dirs a b (segments_of schema root [])) ≡ Ok units

-- the unit of the root
abbrev pub root_unit : SchemaModel → List Rows → List Rows → Node → UnitModel
root_unit schema a b root = record { kind = Root; segment = None; value = None; len = root_len schema a b root; circuit = Some (root_net schema a b root) }

-- What compiled units tell: none passes a limit, what they give is what the root takes, and the root is the last.
pub record UnitsTell (schema : SchemaModel) (a b : List Rows) (root : Node) (units : List UnitModel) : Type 0 where
  pub fit : UnitsFit schema a b (segment_tops schema root)
  pub few : (root_sizes schema (parts_of_slices (slices_of schema a b root)) root).longest ≤ 4096
  pub order : InOrder (root_net schema a b root).gates
  pub give : flat_map (unit_gives schema a b root) units ≡ (root_inputs schema a b root).given
  pub some : 0 < length units
  pub last : get_or units (length units - 1) no_unit ≡ root_unit schema a b root

abbrev pub CompiledTell : Type 0
CompiledTell = (schema : SchemaModel) (a b : List Rows) (root : Node) → (shape schema root).sound ≡ true → numbers_fit root ≡ true → (units : List UnitModel) →
    AreUnits schema a b root units → UnitsStand units → UnitsTell schema a b root units

-- ---- secure units, and sections

abbrev pub is_secure : UnitKind → Bool
is_secure (Plain site) = false
is_secure Secure = true
is_secure Root = false

-- a section is dealt for each secure unit and for the root
abbrev pub is_dealt : UnitKind → Bool
is_dealt (Plain site) = false
is_dealt Secure = true
is_dealt Root = true

-- the numbers of those of the first so many units whose kind passes a test, ascending
abbrev pub numbers_upto : (UnitKind → Bool) → List UnitModel → ℕ → List ℕ
numbers_upto test units count = filter (λ u. test (get_or units u no_unit).kind) (range_with_len 0 count)

-- the numbers of the secure units
abbrev pub secure_numbers : List UnitModel → List ℕ
secure_numbers units = numbers_upto is_secure units (length units)

-- the ticket with each unit for which a section is dealt, in unit order
abbrev pub dealt_of : ℕ → List UnitModel → List Dealt
dealt_of ticket units = map (λ u. record { ticket = ticket; unit = u }) (numbers_upto is_dealt units (length units))
