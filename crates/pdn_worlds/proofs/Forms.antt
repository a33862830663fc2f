-- Two worlds in one form: both of one schema, one tree and the same units.
use Rattle.std.proofs.Common.{◌≡◌, List, [], refl, sym, ap, ap₂, ◌∙◌, subst, Ok, Err}
use Rattle.pdn_base.specs.declared.site.Site.{Site}
use Rattle.pdn_base.specs.declared.site.Site.TheVariants.{A, B}
use Rattle.pdn_base.specs.Operators.{Rows}
use Rattle.pdn_schema.specs.Models.{SchemaModel}
use Rattle.pdn_tree.specs.declared.node.Node.{Node}
use Rattle.pdn_level.specs.Levels.{segments_of}
use Rattle.pdn_site.specs.Models.{UnitModel}
use Rattle.pdn_site.specs.Compiling.{Compiled}
use Rattle.pdn_site.specs.Engines.{EngineModel, IsEngine}
use Rattle.pdn_agree.specs.Agreement.{Agree}
use Rattle.pdn_agree.specs.EqualShapes.{SameShapes, ShapesLaw, units_over}
use Rattle.pdn_broker.specs.Prepared.{PreparedModel, IsPrepared, engine_at, prepared_of}
use Rattle.pdn_worlds.specs.TwoWorlds.{AreWorlds, union_of, SecondWorldLaw}

engine_form : (e : EngineModel) (site : Site) (schema : SchemaModel) (root : Node) → e.site ≡ site → e.schema ≡ schema → e.root ≡ root → IsEngine e → e ≡ engine_at site schema root e.tables
engine_form e site schema root s c r is =
    let staged : e.staged ≡ segments_of schema root [] = is.staged ∙ ap₂ (λ (m : SchemaModel) (n : Node). segments_of m n []) c r in
    λ i. record { site = s i; schema = c i; root = r i; staged = staged i; tables = e.tables }

pub prepared_form : (p : PreparedModel) → IsPrepared p → p ≡ prepared_of p.a.schema p.a.root p.a.tables p.b.tables p.units
prepared_form p is =
    let a : p.a ≡ engine_at A p.a.schema p.a.root p.a.tables = engine_form p.a A p.a.schema p.a.root is.site_a refl refl is.staged_a in
    let b : p.b ≡ engine_at B p.a.schema p.a.root p.b.tables = engine_form p.b B p.a.schema p.a.root is.site_b is.schema is.root is.staged_b in
    λ i. record { a = a i; b = b i; dirs = is.dirs i; units = p.units; columns = is.columns i; order = is.order i; own = is.own i }

-- two worlds over these tables, where the units are the same
pub record InForm (site : Site) (schema : SchemaModel) (root : Node) (a b c d : List Rows) (units : List UnitModel) : Type 0 where
  pub first : IsPrepared (prepared_of schema root a b units)
  pub second : IsPrepared (prepared_of schema root c d units)
  pub agree : Agree site schema (record { a = a; b = b }) (record { a = c; b = d })

abbrev or_none : Compiled → List UnitModel
or_none (Ok units) = units
or_none (Err e) = []

pub units_same : ShapesLaw → (site : Site) (p q : PreparedModel) → AreWorlds site p q → q.units ≡ p.units
units_same law site p q w =
    let shapes : SameShapes p.a.schema p.a.root (union_of p) (union_of q) = law site p.a.schema p.a.root (union_of p) (union_of q) w.first.sound w.first.numbers w.agree in
    let made : units_over p.a.schema p.a.root (union_of q) ≡ Ok q.units
    = sym (ap₂ (λ (m : SchemaModel) (n : Node). units_over m n (union_of q)) w.schema w.root) ∙ w.second.units in
    ap or_none (sym made ∙ shapes.units ∙ w.first.units)

second_form : (p q : PreparedModel) → IsPrepared q → q.a.schema ≡ p.a.schema → q.a.root ≡ p.a.root → q.units ≡ p.units → q ≡ prepared_of p.a.schema p.a.root q.a.tables q.b.tables p.units
second_form p q is s r u =
    prepared_form q is
    ∙ ap₂ (λ (m : SchemaModel) (n : Node). prepared_of m n q.a.tables q.b.tables q.units) s r
    ∙ ap (prepared_of p.a.schema p.a.root q.a.tables q.b.tables) u

-- what holds of all worlds in this form holds of all
pub in_form : ShapesLaw → (P : PreparedModel → PreparedModel → Type 0) (site : Site) (p q : PreparedModel) → AreWorlds site p q
    → ((schema : SchemaModel) (root : Node) (a b c d : List Rows) (units : List UnitModel) → InForm site schema root a b c d units → P (prepared_of schema root a b units) (prepared_of schema root c d units))
    → P p q
in_form law P site p q w h =
    let first : p ≡ prepared_of p.a.schema p.a.root p.a.tables p.b.tables p.units = prepared_form p w.first in
    let second : q ≡ prepared_of p.a.schema p.a.root q.a.tables q.b.tables p.units = second_form p q w.second w.schema w.root (units_same law site p q w) in
    let form : InForm site p.a.schema p.a.root p.a.tables p.b.tables q.a.tables q.b.tables p.units
    = record { first = subst IsPrepared first w.first; second = subst IsPrepared second w.second; agree = w.agree } in
    subst (λ (m : PreparedModel). P m q) (sym first)
    (subst (λ (m : PreparedModel). P (prepared_of p.a.schema p.a.root p.a.tables p.b.tables p.units) m) (sym second)
    (h p.a.schema p.a.root p.a.tables p.b.tables q.a.tables q.b.tables p.units form))

-- a second world
pub second_world_law : ShapesLaw → SecondWorldLaw
second_world_law law site p u is agree a b =
    let shapes : SameShapes p.a.schema p.a.root (union_of p) u = law site p.a.schema p.a.root (union_of p) u is.sound is.numbers agree in
    record {
      first = is;
      second = record {
        site_a = refl;
        site_b = refl;
        schema = refl;
        root = refl;
        staged_a = record { tables = a; staged = refl; numbers = is.numbers };
        staged_b = record { tables = b; staged = refl; numbers = is.numbers };
        tables_a = a;
        tables_b = b;
        sound = is.sound;
        numbers = is.numbers;
        top = is.top;
        dirs = refl;
        units = shapes.units ∙ is.units;
        stand = is.stand;
        columns = refl;
        order = refl;
        own = refl;
      };
      schema = refl;
      root = refl;
      agree = agree;
    }
