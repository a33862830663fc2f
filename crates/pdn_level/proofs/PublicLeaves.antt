-- A slice column is traced to public columns of tables.
use Rattle.std.proofs.Common.{◌≡◌, ℕ, ◌+◌, Bool, true, false, ◌&&◌, List, [], ◌∷◌, length, get_or, subst}
use Rattle.std.specs.List.{AllByRecursion, list_any}
use Rattle.pdn_schema.specs.Models.{SchemaModel}
use Rattle.pdn_tree.specs.declared.node.Node.{Node, Node-F, fold-roll-Node}
use Rattle.pdn_tree.specs.declared.node.Node.TheFolds.{ind-Node, map-Node}
use Rattle.pdn_tree.specs.Columns.{has}
use Rattle.pdn_level.specs.declared.staged.Leaf.{Leaf}
use Rattle.pdn_level.specs.Links.{slice_at, links, names_column, link_at}
use Rattle.pdn_level.specs.Slices.{Followed, followed_step}
use Rattle.pdn_level.specs.Levels.{leaf_of, leaves_step}
use Rattle.pdn_level.proofs.Lists.{both_true, all-append}
use Rattle.pdn_level.proofs.LinkLaws.{link_links}
use Rattle.pdn_level.proofs.Soundness.{slice_map, slice_range, slice_front, slice_none, followed_leaves}
use Rattle.pdn_level.specs.Cutting.{IsPublicLeaf}

abbrev AllPublic : SchemaModel → Followed (List Leaf) → Type 0
AllPublic schema l = (c : ℕ) → slice_at l.slices c ≡ true → AllByRecursion (IsPublicLeaf schema) (l.at c)

abbrev Public : SchemaModel → Node → Type 0
Public schema n = AllPublic schema (followed_leaves schema n)

layer : (schema : SchemaModel) (y : Node-F ((n : Node) × Public schema n)) → AllPublic schema (followed_step schema leaf_of leaves_step (map-Node Node (Followed (List Leaf)) (followed_leaves schema) (map-Node ((n : Node) × Public schema n) Node (λ e. e.0) y)))
layer schema (Node-F.Scan table) s h = (h, tt)
layer schema (Node-F.Filter child condition) s h = child.1 s h
layer schema (Node-F.Project child columns) s h = child.1 (get_or columns s 0) (slice_map (slice_at (followed_leaves schema child.0).slices) columns s h).1
layer schema (Node-F.Join left right on) s h =
    let p : List Bool = (followed_leaves schema left.0).slices in
    let q : List Bool = (followed_leaves schema right.0).slices in
    let k = link_links p q on s (slice_range (λ j. list_any (names_column (length p) j) (links p q on)) (length p + length q) s h).1 in
    all-append (IsPublicLeaf schema) _ _ (left.1 (link_at p q on s).left k.linked.left_has) (right.1 (link_at p q on s).right k.linked.right_has)
layer schema (Node-F.Group child keys having) s h = child.1 (get_or keys s 0) (slice_map (slice_at (followed_leaves schema child.0).slices) keys s (slice_front _ s h)).1
layer schema (Node-F.Count child) s h = absurd (slice_none (false ∷ []) s h)
layer schema (Node-F.Distinct child) s h = child.1 s h
layer schema (Node-F.Number child partition order) s h =
    let mask : List Bool = (followed_leaves schema child.0).slices in
    child.1 s (both_true _ _ (slice_range (λ j. has partition j && slice_at mask j) (length mask) s (slice_front _ s h)).1).1
layer schema (Node-F.Top child order limit) s h = absurd (slice_none (followed_leaves schema child.0).slices s h)

pub public_leaves : (schema : SchemaModel) (n : Node) → AllPublic schema (followed_leaves schema n)
public_leaves schema = ind-Node (Public schema) (λ x y is.
    rw (fold-roll-Node (Followed (List Leaf)) (followed_step schema leaf_of leaves_step) x)
    (subst (λ (z : Node-F Node). AllPublic schema (followed_step schema leaf_of leaves_step (map-Node Node (Followed (List Leaf)) (followed_leaves schema) z))) is (layer schema y)))
