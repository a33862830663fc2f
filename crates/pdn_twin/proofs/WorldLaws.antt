-- What the laws of two worlds say of a query's worlds.
use Rattle.std.proofs.Common.{◌≡◌, ℕ, [], sym, ap₂, ◌∙◌}
use Rattle.pdn_base.specs.declared.site.Site.{Site}
use Rattle.pdn_schema.specs.Models.{SchemaModel}
use Rattle.pdn_tree.specs.declared.node.Node.{Node}
use Rattle.pdn_level.specs.Levels.{segments_of}
use Rattle.pdn_shift.proofs.Undoing.{back_words_law}
use Rattle.pdn_site.specs.NetMeaning.{site_dirs}
use Rattle.pdn_agree.specs.EqualShapes.{SameShapes}
use Rattle.pdn_agree.proofs.Shapes.{shapes_are_equal}
use Rattle.pdn_broker.specs.Prepared.{PreparedModel}
use Rattle.pdn_worlds.specs.PlainWords.{net_at, plain_at}
use Rattle.pdn_worlds.specs.TapeChange.{section_words}
use Rattle.pdn_worlds.specs.TwoWorlds.{AreWorlds, union_of}
use Rattle.pdn_worlds.proofs.Forms.{units_same}
use Rattle.pdn_worlds.proofs.QueryLaws.{transcript_law, way_back_law, others_law}
use Rattle.pdn_worlds.proofs.TapeLaws.{length-section_words}
use Rattle.pdn_twin.specs.Twins.{AreShapedAlike, SeesTheSame, GivesBack, KeepsTheRest, KeepsLengths}

module _ (site : Site) (p q : PreparedModel) (worlds : AreWorlds site p q) where
  pub same_units : q.units ≡ p.units
  same_units = units_same shapes_are_equal site p q worlds

  shapes : SameShapes p.a.schema p.a.root (union_of p) (union_of q)
  shapes = shapes_are_equal site p.a.schema p.a.root (union_of p) (union_of q) worlds.first.sound worlds.first.numbers worlds.agree

  pub shaped_alike : AreShapedAlike p q
  shaped_alike =
      let second : q.dirs ≡ site_dirs q.a.tables q.b.tables (segments_of p.a.schema p.a.root [])
      = worlds.second.dirs ∙ ap₂ (λ (schema : SchemaModel) (root : Node). site_dirs q.a.tables q.b.tables (segments_of schema root [])) worlds.schema worlds.root in
      record { dirs = second ∙ shapes.dirs ∙ sym worlds.first.dirs; units = same_units }

  pub sees_the_same : (ticket : ℕ) → SeesTheSame site p q ticket
  sees_the_same ticket tape = transcript_law shapes_are_equal site p q worlds tape ticket

  pub gives_back : (ticket : ℕ) → GivesBack site p q ticket
  gives_back ticket tape at u place = way_back_law shapes_are_equal site p q worlds tape ticket at u place

  pub keeps_the_rest : (ticket : ℕ) → KeepsTheRest site p q ticket
  keeps_the_rest ticket tape at u place = others_law shapes_are_equal site p q worlds tape ticket at u place

  pub keeps_lengths : (ticket : ℕ) → KeepsLengths site p q ticket
  keeps_lengths ticket tape u = (back_words_law site (net_at p u) (plain_at p u) (plain_at q u) (section_words p tape ticket u) (length-section_words p tape ticket u)).long
