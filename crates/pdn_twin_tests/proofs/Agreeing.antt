-- A query that is made ready over the own tables and two others with the same public values is in two worlds.
use Rattle.std.proofs.Common.{◌≡◌, List, refl, sym, ◌∙◌, subst}
use Rattle.pdn_base.specs.declared.site.Site.{Site}
use Rattle.pdn_base.specs.declared.site.Site.TheVariants.{A, B}
use Rattle.pdn_base.specs.Operators.{Rows}
use Rattle.pdn_schema.specs.Models.{SchemaModel}
use Rattle.pdn_schema.specs.Rows.{AreValid}
use Rattle.pdn_tree.specs.declared.node.Node.{Node}
use Rattle.pdn_agree.specs.Agreement.{Union, Agree, SamePublic}
use Rattle.pdn_broker.specs.Prepared.{PreparedModel, IsPrepared, IsOf}
use Rattle.pdn_worlds.specs.TwoWorlds.{AreWorlds}
use Rattle.pdn_twin_tests.specs.Pairs.{union_of, IsReady}

-- its tables are valid
valid_a : (schema : SchemaModel) (root : Node) (a b : List Rows) (p : PreparedModel) → IsOf schema root a b p → IsPrepared p → AreValid schema a
valid_a schema root a b p made is = subst (λ (s : SchemaModel). AreValid s a) made.schema (subst (λ (tables : List Rows). AreValid p.a.schema tables) made.a is.tables_a.valid)

valid_b : (schema : SchemaModel) (root : Node) (a b : List Rows) (p : PreparedModel) → IsOf schema root a b p → IsPrepared p → AreValid schema b
valid_b schema root a b p made is = subst (λ (s : SchemaModel). AreValid s b) made.schema (subst (λ (tables : List Rows). AreValid p.a.schema tables) made.b is.tables_b.valid)

agree : (site : Site) (schema : SchemaModel) (root : Node) (own first second : List Rows) (p q : PreparedModel) → IsReady site schema root own first p → IsReady site schema root own second q
    → SamePublic schema first second → Agree site schema (union_of site own first) (union_of site own second)
agree A schema root own first second p q x y same = record {
  valid_first = record { a = valid_a schema root own first p x.made x.kept; b = valid_b schema root own first p x.made x.kept };
  valid_second = record { a = valid_a schema root own second q y.made y.kept; b = valid_b schema root own second q y.made y.kept };
  own = refl;
  other = same;
}
agree B schema root own first second p q x y same = record {
  valid_first = record { a = valid_a schema root first own p x.made x.kept; b = valid_b schema root first own p x.made x.kept };
  valid_second = record { a = valid_a schema root second own q y.made y.kept; b = valid_b schema root second own q y.made y.kept };
  own = refl;
  other = same;
}

-- the tables that it is made ready over
tables_are : (schema : SchemaModel) (root : Node) (u : Union) (p : PreparedModel) → IsOf schema root u.a u.b p → u ≡ record { a = p.a.tables; b = p.b.tables }
tables_are schema root u p made = λ i. record { a = sym made.a i; b = sym made.b i }

pub are_worlds : (site : Site) (schema : SchemaModel) (root : Node) (own first second : List Rows) (p q : PreparedModel) → IsReady site schema root own first p → IsReady site schema root own second q
    → SamePublic schema first second → AreWorlds site p q
are_worlds site schema root own first second p q x y same = record {
  first = x.kept;
  second = y.kept;
  schema = y.made.schema ∙ sym x.made.schema;
  root = y.made.root ∙ sym x.made.root;
  agree = subst (λ (s : SchemaModel). Agree site s (record { a = p.a.tables; b = p.b.tables }) (record { a = q.a.tables; b = q.b.tables })) (sym x.made.schema)
      (subst (λ (u : Union). Agree site schema u (record { a = q.a.tables; b = q.b.tables })) (tables_are schema root (union_of site own first) p x.made)
      (subst (λ (u : Union). Agree site schema (union_of site own first) u) (tables_are schema root (union_of site own second) q y.made) (agree site schema root own first second p q x y same)));
}
