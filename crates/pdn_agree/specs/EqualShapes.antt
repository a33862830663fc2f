-- What is equal in two unions that agree for a site: directories, units with their circuits, the limit that is passed first, and the
-- site's own words.
use Rattle.std.specs.Prelude.{◌≡◌, true, []}
use Rattle.pdn_base.specs.declared.site.Site.{Site}
use Rattle.pdn_schema.specs.Models.{SchemaModel}
use Rattle.pdn_tree.specs.declared.node.Node.{Node}
use Rattle.pdn_tree.specs.Shapes.{shape}
use Rattle.pdn_level.specs.Levels.{segments_of}
use Rattle.pdn_site.specs.Compiling.{Compiled, compiled}
use Rattle.pdn_site.specs.Meaning.{numbers_fit}
use Rattle.pdn_site.specs.NetMeaning.{site_dirs, slices_of}
use Rattle.pdn_agree.specs.Agreement.{Union, Agree}

-- the units of a plan's tree over a union, or the first limit that is passed
abbrev pub units_over : SchemaModel → Node → Union → Compiled
units_over s root u = compiled s root (segments_of s root []) (site_dirs u.a u.b (segments_of s root []))

pub record SameShapes (s : SchemaModel) (root : Node) (first second : Union) : Type 0 where
  pub dirs : site_dirs second.a second.b (segments_of s root []) ≡ site_dirs first.a first.b (segments_of s root [])
  pub slices : slices_of s second.a second.b root ≡ slices_of s first.a first.b root
  pub units : units_over s root second ≡ units_over s root first

-- The law of equal shapes: whatever the query, unions that agree for a site have the same of all that is not a row.
abbrev pub ShapesLaw : Type 0
ShapesLaw = (site : Site) (s : SchemaModel) (root : Node) (first second : Union) → (shape s root).sound ≡ true → numbers_fit root ≡ true
    → Agree site s first second → SameShapes s root first second
