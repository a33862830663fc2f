-- What units leave of the limits, and units as they are compiled one after the other.
use Rattle.std.specs.Prelude.{◌≡◌, ℕ, ◌+◌, ◌-◌, ◌≤◌, List, [], ◌∷◌, ◌++◌, map, length, Some, None, Result, Err, MatchResult}
use Rattle.std.specs.List.{flat_map}
use Rattle.pdn_base.specs.declared.value.Value.{Value}
use Rattle.pdn_schema.specs.Models.{SchemaModel}
use Rattle.pdn_circuit.specs.declared.gate.Gate.{Gate}
use Rattle.pdn_circuit.specs.declared.tally.BuildErr.{BuildErr}
use Rattle.pdn_circuit.specs.declared.tally.BuildErr.TheVariants as build
use Rattle.pdn_circuit.specs.Gates.{Net}
use Rattle.pdn_circuit.specs.Building.{Made, Starts, first_over, and_count}
use Rattle.pdn_tree.specs.declared.node.Node.{Node}
use Rattle.pdn_level.specs.declared.staged.Leaf.{Leaf}
use Rattle.pdn_level.specs.Models.{SegmentModel}
use Rattle.pdn_site.specs.declared.budget.Left.{Left}
use Rattle.pdn_site.specs.declared.unit.UnitKind.{UnitKind}
use Rattle.pdn_site.specs.declared.unit.UnitKind.TheVariants.{Plain, Secure, Root}
use Rattle.pdn_site.specs.declared.unit.CompileErr.{CompileErr}
use Rattle.pdn_site.specs.declared.unit.CompileErr.TheVariants as err
use Rattle.pdn_site.specs.Models.{Dirs, UnitModel}
use Rattle.pdn_site.specs.Directories.{unit_values, kind_of}
use Rattle.pdn_site.specs.Lists.{Sized}
use Rattle.pdn_site.specs.Through.{sized_through}
use Rattle.pdn_site.specs.Circuits.{Part}
use Rattle.pdn_site.specs.Built.{laid_through}
use Rattle.pdn_site.specs.Compiling.{Shape, Compiled, with_unit, compiled_from, parts_of, node_at}

-- ---- units before their circuits, along the leaves of their segment

abbrev pub shape_along : SchemaModel → Node → List Leaf → ℕ → Value → UnitKind → Shape
shape_along schema top leaves i v (Plain site) =
    let lists : Sized = sized_through schema 1 top leaves in
    record { kind = Plain site; segment = Some i; value = Some v; len = lists.padding.room; longest = lists.longest; laid = None }
shape_along schema top leaves i v Secure =
    let lists : Sized = sized_through schema 2 top leaves in
    record { kind = Secure; segment = Some i; value = Some v; len = lists.padding.room; longest = lists.longest; laid = Some (laid_through schema v top leaves).list }
shape_along schema top leaves i v Root = record { kind = Root; segment = None; value = None; len = 0; longest = 0; laid = None }

-- the units of segment i
abbrev pub segment_along : SchemaModel → Node → List Leaf → ℕ → Dirs → List Shape
segment_along schema top leaves i dirs = map (λ v. shape_along schema top leaves i v (kind_of dirs v)) (unit_values dirs)

-- the units of each segment, the first of which is segment i
abbrev pub shapes_along : SchemaModel → Node → ℕ → List SegmentModel → List Dirs → List (List Shape)
shapes_along schema root i [] dirs = []
shapes_along schema root i (s ∷ ss) [] = []
shapes_along schema root i (s ∷ ss) (d ∷ ds) = segment_along schema (node_at s.path root) s.leaves i d ∷ shapes_along schema root (i + 1) ss ds

abbrev pub all_of : List (List Shape) → List Shape
all_of below = flat_map (λ shapes. shapes) below

-- ---- what is left of the limits

-- what is left after a unit with these gates
abbrev pub spent : Left → List Gate → Left
spent left made = record { unit = left.unit + 1; ands = left.ands - and_count made; gates = left.gates - length made }

-- units from what is left on
abbrev pub compiled_left : Left → List Shape → Compiled
compiled_left left shapes = compiled_from left.unit left.ands left.gates shapes

-- these gates pass a limit
abbrev pub IsOver : Left → List Gate → BuildErr → Type 0
IsOver left made (build.Full limit) = first_over left.ands left.gates made ≡ Some limit
IsOver left made build.Memory = Unit {0}

-- the circuit is this one, and passes no limit
pub record IsWithin (left : Left) (net circuit : Net) : Type 0 where
  pub is : circuit ≡ net
  pub fits : first_over left.ands left.gates net.gates ≡ None

-- the call made this circuit, or refused it
abbrev pub MakesNet : Left → Net → Result Net BuildErr → Type 0
MakesNet left net result = MatchResult result (IsWithin left net) (IsOver left net.gates)

-- a builder with the constants alone, for which there was room
pub record Begins (left : Left) (made : Made) : Type 0 where
  pub starts : Starts left.ands left.gates made
  pub room : 2 ≤ left.gates

-- ---- units one after the other

abbrev pub with_units : List UnitModel → Compiled → Compiled
with_units [] compiled = compiled
with_units (unit ∷ units) compiled = with_unit unit (with_units units compiled)

-- a unit as the root reads it
abbrev pub unit_part : UnitModel → Part
unit_part unit = record { kind = unit.kind; len = unit.len }

-- Of the whole, which began with what was left at first, these units are made, so much is left now, and the rest is to come.
pub record Reaches (old : Left) (whole : List Shape) (now : Left) (units : List UnitModel) (rest : List Shape) : Type 0 where
  pub on : (more : List Shape) → compiled_left old (whole ++ more) ≡ with_units units (compiled_left now (rest ++ more))
  pub parts : parts_of whole ≡ map unit_part units ++ parts_of rest
  pub fewer : now.gates ≤ old.gates

-- one of these units passes a limit, whatever comes after them
abbrev pub Passes : Left → List Shape → CompileErr → Type 0
Passes left shapes (err.TooLarge limit unit) = (more : List Shape) → compiled_left left (shapes ++ more) ≡ Err (limit, unit)
Passes left shapes err.Memory = Unit {0}

-- what a refused circuit says of its unit
abbrev pub passed_by : ℕ → BuildErr → CompileErr
passed_by unit (build.Full limit) = err.TooLarge limit unit
passed_by unit build.Memory = err.Memory

-- what there is at first
abbrev pub first_left : Left
first_left = record { unit = 0; ands = 4194304; gates = 16777216 }

-- a unit, and what it leaves
pub record Step : Type 0 where
  pub unit : UnitModel
  pub left : Left

-- units, and what they leave
pub record Batch : Type 0 where
  pub units : List UnitModel
  pub left : Left

-- the units of segments, the parts of each of them, and what they leave
pub record Below : Type 0 where
  pub units : List UnitModel
  pub parts : List (List Part)
  pub left : Left

-- the call made this unit, or refused it
abbrev pub MakesUnit : Left → Shape → Result Step CompileErr → Type 0
MakesUnit left shape result = MatchResult result (λ step. Reaches left (shape ∷ []) step.left (step.unit ∷ []) []) (Passes left (shape ∷ []))

-- the call made these units, or refused one
abbrev pub MakesUnits : Left → List Shape → Result Batch CompileErr → Type 0
MakesUnits left shapes result = MatchResult result (λ batch. Reaches left shapes batch.left batch.units []) (Passes left shapes)

-- the units of segments are made
pub record IsBelow (left : Left) (shapes : List (List Shape)) (below : Below) : Type 0 where
  pub units : Reaches left (all_of shapes) below.left below.units []
  pub parts : below.parts ≡ map parts_of shapes

abbrev pub MakesBelow : Left → List (List Shape) → Result Below CompileErr → Type 0
MakesBelow left shapes result = MatchResult result (IsBelow left shapes) (Passes left (all_of shapes))
