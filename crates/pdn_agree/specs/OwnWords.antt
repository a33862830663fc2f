-- The words that a site itself puts into the circuits of a query, in two unions that agree for it.
use Rattle.std.specs.Prelude.{◌≡◌, ℕ, true, List, []}
use Rattle.pdn_base.specs.declared.site.Site.{Site}
use Rattle.pdn_base.specs.declared.value.Value.{Value}
use Rattle.pdn_schema.specs.Models.{SchemaModel}
use Rattle.pdn_tree.specs.declared.node.Node.{Node}
use Rattle.pdn_tree.specs.Shapes.{shape}
use Rattle.pdn_level.specs.Levels.{segments_of}
use Rattle.pdn_site.specs.Engines.{EngineModel, secure_words}
use Rattle.pdn_site.specs.Meaning.{numbers_fit}
use Rattle.pdn_site.specs.NetMeaning.{slices_of}
use Rattle.pdn_site.specs.SiteRows.{root_words}
use Rattle.pdn_agree.specs.Agreement.{Union, Agree, own_tables}

-- a site's engine over its own tables of a union
abbrev pub engine_over : Site → SchemaModel → Node → Union → EngineModel
engine_over site s root u = record { site = site; schema = s; root = root; staged = segments_of s root []; tables = own_tables site u }

-- a site's own words in the root
abbrev pub own_root_words : Site → SchemaModel → Node → Union → List ℕ
own_root_words site s root u = root_words site s (own_tables site u) (slices_of s u.a u.b root) root

pub record SameOwnWords (site : Site) (s : SchemaModel) (root : Node) (first second : Union) : Type 0 where
  pub engines : engine_over site s root second ≡ engine_over site s root first
  pub in_units : (segment : ℕ) (v : Value) → secure_words (engine_over site s root second) segment v ≡ secure_words (engine_over site s root first) segment v
  pub in_root : own_root_words site s root second ≡ own_root_words site s root first

-- The law of own words: unions that agree for a site have the same words of it in each secure unit and in the root.
abbrev pub OwnWordsLaw : Type 0
OwnWordsLaw = (site : Site) (s : SchemaModel) (root : Node) (first second : Union) → (shape s root).sound ≡ true → numbers_fit root ≡ true
    → Agree site s first second → SameOwnWords site s root first second
