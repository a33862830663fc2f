-- What stands in a prepared query.
use Rattle.std.proofs.Common.{◌≡◌, List, [], refl, ap, ap₂, ◌∙◌}
use Rattle.pdn_base.specs.declared.marks.Kind.{Kind}
use Rattle.pdn_base.specs.declared.order.Key.{Key}
use Rattle.pdn_base.specs.declared.site.Site.{Site}
use Rattle.pdn_base.specs.declared.site.Site.TheVariants.{A, B}
use Rattle.pdn_base.specs.Operators.{Rows}
use Rattle.pdn_schema.specs.Models.{SchemaModel}
use Rattle.pdn_tree.specs.declared.node.Node.{Node}
use Rattle.pdn_level.specs.Models.{SegmentModel}
use Rattle.pdn_level.specs.Levels.{segments_of}
use Rattle.pdn_site.specs.Models.{Dirs, UnitModel}
use Rattle.pdn_site.specs.Engines.{EngineModel, IsEngine}
use Rattle.pdn_broker.specs.Runs.{Both}
use Rattle.pdn_broker.specs.Prepared.{PreparedModel, IsPrepared, PreparedForm, engine_at, prepared_of}

engine_with : Site → SchemaModel → Node → List SegmentModel → List Rows → EngineModel
engine_with site schema root staged tables = record { site = site; schema = schema; root = root; staged = staged; tables = tables }

-- an engine of a known site, schema and tree
engine_form : (site : Site) (schema : SchemaModel) (root : Node) (e : EngineModel) → e.site ≡ site → e.schema ≡ schema → e.root ≡ root → IsEngine e → e ≡ engine_at site schema root e.tables
unfolding engine_with
engine_form site schema root e at s r is =
    let staged : e.staged ≡ segments_of schema root [] = is.staged ∙ ap₂ (λ (x : SchemaModel) (y : Node). segments_of x y []) s r in
    ap (λ (x : Site). engine_with x e.schema e.root e.staged e.tables) at ∙ ap₂ (λ (x : SchemaModel) (y : Node). engine_with site x y e.staged e.tables) s r
    ∙ ap (λ (ss : List SegmentModel). engine_with site schema root ss e.tables) staged

prepared_with : EngineModel → EngineModel → List Dirs → List UnitModel → List Kind → List Key → Both → PreparedModel
prepared_with a b dirs units columns order own = record { a = a; b = b; dirs = dirs; units = units; columns = columns; order = order; own = own }

pub form_of_prepared : PreparedForm
unfolding prepared_with
form_of_prepared p is =
    let form : PreparedModel = prepared_of p.a.schema p.a.root p.a.tables p.b.tables p.units in
    ap₂ (λ (x y : EngineModel). prepared_with x y p.dirs p.units p.columns p.order p.own)
    (engine_form A p.a.schema p.a.root p.a is.site_a refl refl is.staged_a) (engine_form B p.a.schema p.a.root p.b is.site_b is.schema is.root is.staged_b)
    ∙ ap₂ (λ (ds : List Dirs) (own : Both). prepared_with form.a form.b ds p.units p.columns p.order own) is.dirs is.own
    ∙ ap₂ (λ (ks : List Kind) (keys : List Key). prepared_with form.a form.b form.dirs p.units ks keys form.own) is.columns is.order
