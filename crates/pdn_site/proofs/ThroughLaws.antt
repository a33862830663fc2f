-- Along the leaves of a slice column, left to right, a tree gives what it gives where the column is followed.
use Rattle.std.specs.Prelude.{IfOk}
use Rattle.std.proofs.Common.{◌≡◌, ℕ, ◌+◌, ◌<◌, Bool, List, [], ◌++◌, drop, length, get_or, refl, sym, ap, ap₂, ◌∙◌, subst, arith, max, ◌*◌, Option, Result, append_assoc, append-nil, length-append, drop_at}
use Rattle.pdn_base.specs.declared.cond.Cmp.{Cmp}
use Rattle.pdn_base.specs.declared.value.Value.{Value}
use Rattle.pdn_schema.specs.Models.{SchemaModel}
use Rattle.pdn_tree.specs.declared.node.Node.{Node, Node-F, fold-roll-Node}
use Rattle.pdn_tree.specs.declared.node.Node.TheFolds.{ind-Node, map-Node}
use Rattle.pdn_tree.specs.declared.node.Node.TheVariants as node
use Rattle.pdn_tree.specs.declared.node.Node.TheVariants.{rolls-Join}
use Rattle.pdn_level.specs.declared.staged.Leaf.{Leaf}
use Rattle.pdn_level.specs.Links.{link_at}
use Rattle.pdn_level.specs.Slices.{Followed, followed, followed_step, slice_step}
use Rattle.pdn_level.specs.Levels.{leaf_of, leaves_step, leaves_of}
use Rattle.pdn_level.proofs.Soundness.{followed_leaves}
use Rattle.pdn_level.proofs.Tracks.{survey_track}
use Rattle.pdn_site.specs.Narrowing.{Narrowing, narrowing_step, narrowing, scans}
use Rattle.pdn_site.specs.Lists.{Sized, grown, sized, sized_leaf, sized_step}
use Rattle.pdn_site.specs.Through.{Through, through_step, through, sized_through, IsSized}

-- ---- as many tables as a narrowing counts
module _ {X : Type 0} (leaf : ℕ → ℕ → X) (step : Node-F X → X) (v : Value) where
  abbrev Counts : Node → Type 0
  Counts n = (through leaf step n).scans ≡ scans v n

  count_layer : (y : Node-F ((n : Node) × Counts n)) → (through_step leaf step (map-Node Node (Through X) (through leaf step) (map-Node ((n : Node) × Counts n) Node (λ e. e.0) y))).scans
      ≡ (narrowing_step v (map-Node Node Narrowing (narrowing v) (map-Node ((n : Node) × Counts n) Node (λ e. e.0) y))).scans
  count_layer (Node-F.Scan table) = refl
  count_layer (Node-F.Filter child cond) = child.1
  count_layer (Node-F.Project child columns) = child.1
  count_layer (Node-F.Join left right on) = ap₂ (λ (a b : ℕ). a + b) left.1 right.1
  count_layer (Node-F.Group child keys having) = child.1
  count_layer (Node-F.Count child) = child.1
  count_layer (Node-F.Distinct child) = child.1
  count_layer (Node-F.Number child partition order) = child.1
  count_layer (Node-F.Top child order limit) = child.1

  pub through_scans : (n : Node) → (through leaf step n).scans ≡ scans v n
  through_scans = ind-Node Counts (λ x y is.
      ap (λ (t : Through X). t.scans) (fold-roll-Node (Through X) (through_step leaf step) x)
      ∙ subst (λ (z : Node-F Node). (through_step leaf step (map-Node Node (Through X) (through leaf step) z)).scans ≡ (narrowing_step v (map-Node Node Narrowing (narrowing v) z)).scans) is (count_layer y)
      ∙ sym (ap (λ (g : Narrowing). g.scans) (fold-roll-Node Narrowing (narrowing_step v) x)))

-- ---- the same as where a column is followed
module _ {X : Type 0} (schema : SchemaModel) (leaf : ℕ → ℕ → X) (step : Node-F X → X) where
  record Agree (l : Followed (List Leaf)) (f : Followed X) (t : Through X) : Type 0 where
    pub same : l.slices ≡ f.slices
    pub count : (c : ℕ) → length (l.at c) ≡ t.scans
    pub means : (c : ℕ) (rest : List Leaf) → t.at (l.at c ++ rest) ≡ f.at c

  abbrev leaves_step_of : Node-F (Followed (List Leaf)) → Followed (List Leaf)
  leaves_step_of = followed_step schema leaf_of leaves_step

  join_means : (ll lr : Followed (List Leaf)) (fl fr : Followed X) (tl tr : Through X) (on : List (List Cmp)) → Agree ll fl tl → Agree lr fr tr
      → (c : ℕ) (rest : List Leaf) → (through_step leaf step (Node-F.Join tl tr on)).at ((leaves_step_of (Node-F.Join ll lr on)).at c ++ rest) ≡ (followed_step schema leaf step (Node-F.Join fl fr on)).at c
  join_means ll lr fl fr tl tr on left right c rest =
      let k = link_at ll.slices lr.slices on c in
      let la : List Leaf = ll.at k.left in
      let lb : List Leaf = lr.at k.right in
      let link : k ≡ link_at fl.slices fr.slices on c = ap₂ (λ p q. link_at p q on c) left.same right.same in
      let first : tl.at ((la ++ lb) ++ rest) ≡ fl.at (link_at fl.slices fr.slices on c).left =
      ap (λ (ls : List Leaf). tl.at ls) (append_assoc la lb rest) ∙ left.means k.left (lb ++ rest) ∙ ap (λ j. fl.at j.left) link in
      let past : drop tl.scans ((la ++ lb) ++ rest) ≡ lb ++ rest = ap (drop tl.scans) (append_assoc la lb rest) ∙ drop_at la (lb ++ rest) tl.scans (left.count k.left) in
      let second : tr.at (drop tl.scans ((la ++ lb) ++ rest)) ≡ fr.at (link_at fl.slices fr.slices on c).right =
      ap (λ (ls : List Leaf). tr.at ls) past ∙ right.means k.right rest ∙ ap (λ j. fr.at j.right) link in
      ap₂ (λ (x y : X). step (Node-F.Join x y on)) first second

  abbrev Follows : Node → Type 0
  Follows n = Agree (followed_leaves schema n) (followed schema leaf step n) (through leaf step n)

  layer : (y : Node-F ((n : Node) × Follows n)) → Agree
      (leaves_step_of (map-Node Node (Followed (List Leaf)) (followed_leaves schema) (map-Node ((n : Node) × Follows n) Node (λ e. e.0) y)))
      (followed_step schema leaf step (map-Node Node (Followed X) (followed schema leaf step) (map-Node ((n : Node) × Follows n) Node (λ e. e.0) y)))
      (through_step leaf step (map-Node Node (Through X) (through leaf step) (map-Node ((n : Node) × Follows n) Node (λ e. e.0) y)))
  layer (Node-F.Scan table) = record { same = refl; count = λ c. refl; means = λ c rest. refl }
  layer (Node-F.Filter child cond) = record { same = child.1.same; count = child.1.count; means = λ c rest. ap (λ (x : X). step (Node-F.Filter x cond)) (child.1.means c rest) }
  layer (Node-F.Project child columns) = record {
    same = ap (λ (bs : List Bool). slice_step schema (Node-F.Project bs columns)) child.1.same;
    count = λ c. child.1.count (get_or columns c 0);
    means = λ c rest. ap (λ (x : X). step (Node-F.Project x columns)) (child.1.means (get_or columns c 0) rest);
  }
  layer (Node-F.Join left right on) = record {
    same = ap₂ (λ (bs cs : List Bool). slice_step schema (Node-F.Join bs cs on)) left.1.same right.1.same;
    count = λ c. length-append _ _ ∙ ap₂ (λ a b. a + b) (left.1.count _) (right.1.count _);
    means = join_means _ _ _ _ _ _ on left.1 right.1;
  }
  layer (Node-F.Group child keys having) = record {
    same = ap (λ (bs : List Bool). slice_step schema (Node-F.Group bs keys having)) child.1.same;
    count = λ c. child.1.count (get_or keys c 0);
    means = λ c rest. ap (λ (x : X). step (Node-F.Group x keys having)) (child.1.means (get_or keys c 0) rest);
  }
  layer (Node-F.Count child) = record { same = refl; count = child.1.count; means = λ c rest. ap (λ (x : X). step (Node-F.Count x)) (child.1.means c rest) }
  layer (Node-F.Distinct child) = record { same = child.1.same; count = child.1.count; means = λ c rest. ap (λ (x : X). step (Node-F.Distinct x)) (child.1.means c rest) }
  layer (Node-F.Number child partition order) = record {
    same = ap (λ (bs : List Bool). slice_step schema (Node-F.Number bs partition order)) child.1.same;
    count = child.1.count;
    means = λ c rest. ap (λ (x : X). step (Node-F.Number x partition order)) (child.1.means c rest);
  }
  layer (Node-F.Top child order limit) = record {
    same = ap (λ (bs : List Bool). slice_step schema (Node-F.Top bs order limit)) child.1.same;
    count = child.1.count;
    means = λ c rest. ap (λ (x : X). step (Node-F.Top x order limit)) (child.1.means c rest);
  }

  follows : (n : Node) → Follows n
  follows = ind-Node Follows (λ x y is.
      rw (fold-roll-Node (Followed (List Leaf)) leaves_step_of x, fold-roll-Node (Followed X) (followed_step schema leaf step) x, fold-roll-Node (Through X) (through_step leaf step) x)
      (subst (λ (z : Node-F Node). Agree
      (leaves_step_of (map-Node Node (Followed (List Leaf)) (followed_leaves schema) z))
      (followed_step schema leaf step (map-Node Node (Followed X) (followed schema leaf step) z))
      (through_step leaf step (map-Node Node (Through X) (through leaf step) z))) is (layer y)))

  pub through_followed : (n : Node) (column : ℕ) → (through leaf step n).at (leaves_of schema n column) ≡ (followed schema leaf step n).at column
  through_followed n column =
      let agree = follows n in
      ap (through leaf step n).at (ap (λ (t : Followed (List Leaf)). t.at column) (survey_track schema n) ∙ sym (append-nil _)) ∙ agree.means column []

-- the lists of a unit
pub sized_is : (schema : SchemaModel) (sites : ℕ) (n : Node) (column : ℕ) → sized_through schema sites n (leaves_of schema n column) ≡ sized schema sites n column
sized_is schema sites = through_followed schema (sized_leaf schema sites) sized_step

-- ---- the lists of a Join
module _ (schema : SchemaModel) (sites : ℕ) (v : Value) (n l r : Node) (on : List (List Cmp)) (leaves others : List Leaf) (count : ℕ) (is : n ≡ node.Join l r on) (rest : others ≡ drop count leaves) (counted : count ≡ scans v l) where
  join_lists : sized_through schema sites n leaves ≡ sized_step (Node-F.Join (sized_through schema sites l leaves) (sized_through schema sites r others) on)
  join_lists =
      ap (λ (m : Node). sized_through schema sites m leaves) (is ∙ sym (rolls-Join l r on))
      ∙ ap (λ (t : Through Sized). t.at leaves) (fold-roll-Node (Through Sized) (through_step (sized_leaf schema sites) sized_step) (Node-F.Join l r on))
      ∙ ap (λ (ls : List Leaf). sized_step (Node-F.Join (sized_through schema sites l leaves) (sized_through schema sites r ls) on))
      (ap (λ (k : ℕ). drop k leaves) (through_scans (sized_leaf schema sites) sized_step v l ∙ sym counted) ∙ sym rest)

  pub join_right_long : 4096 < (sized_through schema sites r others).longest → 4096 < (sized_through schema sites n leaves).longest
  join_right_long h = subst (λ (s : Sized). 4096 < s.longest) (sym join_lists) (longer (sized_through schema sites l leaves) (sized_through schema sites r others) h)
    where
      longer : (a b : Sized) → 4096 < b.longest → 4096 < (sized_step (Node-F.Join a b on)).longest
      longer a b k = omega (arith, k)

  pub join_sized : {E : Type 0} (fl fr : Sized) (result : Result (Option Sized) E) → fl ≡ sized_through schema sites l leaves → fr ≡ sized_through schema sites r others
      → IfOk result (IsSized (grown (max fl.longest fr.longest) (record { pinned = fl.padding.pinned ++ fr.padding.pinned; room = fl.padding.room * fr.padding.room }))) → IfOk result (IsSized (sized_through schema sites n leaves))
  join_sized fl fr result a b h = subst (λ (s : Sized). IfOk result (IsSized s)) (ap₂ (λ (x y : Sized). sized_step (Node-F.Join x y on)) a b ∙ sym join_lists) h
