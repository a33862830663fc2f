use Rattle.std.proofs.Common.{rules, ◌≡◌, ◌<◌, ℕ, List, [], length, sym, ap, ap₂, ◌∙◌}
use Rattle.std.proofs.lemmas.Result.{IfOk-weaker}
use Rattle.pdn_site.proofs.Sizes.{size_of, one_smaller, left_smaller, right_smaller}
use Rattle.pdn_site.specs.SiteRows.{OwnRoot}
use Rattle.pdn_site.specs.RootWords.{slices_in}
use Rattle.pdn_site.proofs.RootWordLaws.{leaf_is, sliced_words}
use Rattle.pdn_site.proofs.UnitWordLaws.{segment_by}
use Rattle.pdn_site.proofs.Standing.{nothing_words, one_words, one_stands, left_stands, right_stands, both_words}
use Rattle.pdn_site.proofs.root.+tree_words.Goals as goal

abbrev the_own : List ℕ → ℕ → OwnRoot
the_own words segments = record { words = words; segments = segments }

pub returns-in-Local : goal.returns-in-Local
returns-in-Local t c = ap (λ (ws : List ℕ). the_own ws c.args.segment) c.in_ok-leaf_words-in-Local.ensures ∙ leaf_is c.args.side.now.site c.args.side.now.schema.now c.args.side.now.tables.now (slices_in (length c.args.side.now.staged.now) c.args.side.now.units.now) c.args.node.now c.args.segment (search rules)

pub returns-in-Sliced : goal.returns-in-Sliced
returns-in-Sliced t c =
    ap₂ the_own (c.in_ok-segment_words-in-Sliced.ensures ∙ segment_by c.args.side.now.site c.args.side.now.schema.now c.args.side.now.tables.now c.args.node.now c.args.side.now.units.now (length c.args.side.now.staged.now) c.args.segment c.leaves_at-leaves.ensures.within) c.next_number.ensures
    ∙ sym (sliced_words c.args.side.now.site c.args.side.now.schema.now c.args.side.now.tables.now (slices_in (length c.args.side.now.staged.now) c.args.side.now.units.now) c.args.node.now c.args.segment (search rules))

pub returns-in-Nothing : goal.returns-in-Nothing
returns-in-Nothing t c =
    let empty : c.new.result.items ≡ [] = search rules in
    ap (λ (ws : List ℕ). the_own ws c.args.segment) empty ∙ nothing_words c.args.side.now.schema.now c.args.side.now.site c.args.side.now.tables.now (slices_in (length c.args.side.now.staged.now) c.args.side.now.units.now) c.args.node.now c.args.segment (search rules) (search rules)

pub tree_words-requires : goal.tree_words-requires
tree_words-requires t c =
    let less : size_of c.in-One.child.now < size_of c.args.node.now = one_smaller c.args.node.now c.in-One.child.now (search rules) in
    (search rules, one_stands c.args.side.now.schema.now c.args.side.now.site c.args.side.now.tables.now (slices_in (length c.args.side.now.staged.now) c.args.side.now.units.now) c.args.side.now.staged.now c.args.node.now c.in-One.child.now c.args.segment (search rules) (search rules) c.requires)

pub returns-in-One : goal.returns-in-One
returns-in-One t c = IfOk-weaker c.tree_words.result _ _ (λ own e. e ∙ one_words c.args.side.now.schema.now c.args.side.now.site c.args.side.now.tables.now (slices_in (length c.args.side.now.staged.now) c.args.side.now.units.now) c.args.node.now c.in-One.child.now c.args.segment (search rules) (search rules)) c.tree_words.ensures

pub tree_words-requires-in-Two : goal.tree_words-requires-in-Two
tree_words-requires-in-Two t c =
    let less : size_of c.in-Two.left.now < size_of c.args.node.now = left_smaller c.args.node.now c.in-Two.left.now c.in-Two.right.now (search rules) in
    (search rules, left_stands c.args.side.now.schema.now c.args.side.now.site c.args.side.now.tables.now (slices_in (length c.args.side.now.staged.now) c.args.side.now.units.now) c.args.side.now.staged.now c.args.node.now c.in-Two.left.now c.in-Two.right.now c.args.segment (search rules) (search rules) c.requires)

pub tree_words-requires-in-Two-2 : goal.tree_words-requires-in-Two-2
tree_words-requires-in-Two-2 t c =
    let less : size_of c.in-Two.right.now < size_of c.args.node.now = right_smaller c.args.node.now c.in-Two.left.now c.in-Two.right.now (search rules) in
    (search rules, right_stands c.args.side.now.schema.now c.args.side.now.site c.args.side.now.tables.now (slices_in (length c.args.side.now.staged.now) c.args.side.now.units.now) c.args.side.now.staged.now c.args.node.now c.in-Two.left.now c.in-Two.right.now c.args.segment _ (search rules) (search rules) (c.next_of.ensures ∙ ap (λ (o : OwnRoot). o.segments) c.in_ok-l-in-Two.ensures) c.requires)

pub returns-in_ok-r-in-Two : goal.returns-in_ok-r-in-Two
returns-in_ok-r-in-Two t c = IfOk-weaker c.both.result _ _ (λ own e. both_words c.args.side.now.schema.now c.args.side.now.site c.args.side.now.tables.now (slices_in (length c.args.side.now.staged.now) c.args.side.now.units.now) c.args.node.now c.in-Two.left.now c.in-Two.right.now c.args.segment _ _ _ own (search rules) (search rules) c.in_ok-l-in-Two.ensures c.next_of.ensures c.in_ok-r-in-Two.ensures e) c.both.ensures
