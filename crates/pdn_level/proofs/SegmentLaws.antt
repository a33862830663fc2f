-- Every segment of a tree is sound.
use Rattle.std.proofs.Common.{◌≡◌, ℕ, Bool, true, false, not, ◌&&◌, cond, List, [], ◌∷◌, ◌++◌, Some, sym, refl, ap, ◌∙◌, subst, append_assoc, append-nil}
use Rattle.std.specs.List.{AllByRecursion, list_any}
use Rattle.pdn_schema.specs.Models.{SchemaModel}
use Rattle.pdn_tree.specs.declared.node.Node.{Node, Node-F, fold-roll-Node, out-Node, roll-Node, out-roll-Node}
use Rattle.pdn_tree.specs.declared.node.Node.TheFolds.{ind-Node, map-Node}
use Rattle.pdn_level.specs.declared.staged.Leaf.{Leaf}
use Rattle.pdn_level.specs.declared.staged.Level.{Level}
use Rattle.pdn_level.specs.declared.staged.Level.TheVariants as level
use Rattle.pdn_level.specs.Models.{SegmentModel}
use Rattle.pdn_level.specs.Links.{slice_at}
use Rattle.pdn_level.specs.Slices.{slices, Followed, followed}
use Rattle.pdn_level.specs.Levels.{Survey, survey, survey_step, segments_at, below_at, level_step, sliced_if, kept_level, first_slice, leaf_of, leaves_step, level_of_node, segments_of}
use Rattle.pdn_level.specs.Cutting.{slice_column, child_of, IsSound, IsPublicLeaf}
use Rattle.pdn_level.proofs.Lists.{all-append, all_on}
use Rattle.pdn_level.proofs.Tracks.{followed_slices, survey_track}
use Rattle.pdn_level.proofs.PublicLeaves.{public_leaves}
use Rattle.pdn_level.proofs.Sums.{slices_add}

-- the first slice column is one
pub first_is : (bs : List Bool) → list_any (λ s. s) bs ≡ true → slice_at bs (first_slice bs) ≡ true
first_is [] h = absurd cc
first_is (true ∷ bs) h = refl
first_is (false ∷ bs) h = first_is bs h

-- a Sliced tree has a slice column
sliced_any : (mask : List Bool) (b : Bool) → sliced_if mask b ≡ level.Sliced → list_any (λ s. s) mask ≡ true
sliced_any mask b h = by (list_any (λ s. s) mask) (not b) h
  where
    by : (c d : Bool) → cond (c && d) level.Sliced level.Secure ≡ level.Sliced → c ≡ true
    by true d e = refl
    by false d e = absurd cc

kept_any : (mask : List Bool) (l : Level) → kept_level mask l ≡ level.Sliced → list_any (λ s. s) mask ≡ true
kept_any mask level.Local h = absurd cc
kept_any mask level.Sliced h = sliced_any mask false h
kept_any mask level.Secure h = sliced_any mask true h

level_any : (mask : List Bool) (y : Node-F Level) → level_step mask y ≡ level.Sliced → list_any (λ s. s) mask ≡ true
level_any mask (Node-F.Scan table) h = absurd cc
level_any mask (Node-F.Filter child condition) h = kept_any mask child h
level_any mask (Node-F.Project child columns) h = kept_any mask child h
level_any mask (Node-F.Join left right on) h = sliced_any mask _ h
level_any mask (Node-F.Group child keys having) h = sliced_any mask _ h
level_any mask (Node-F.Count child) h = sliced_any mask _ h
level_any mask (Node-F.Distinct child) h = sliced_any mask _ h
level_any mask (Node-F.Number child partition order) h = sliced_any mask _ h
level_any mask (Node-F.Top child order limit) h = sliced_any mask _ h

step_any : (schema : SchemaModel) (y : Node-F Survey) → (survey_step schema y).level ≡ level.Sliced → list_any (λ s. s) (survey_step schema y).track.slices ≡ true
step_any schema (Node-F.Scan table) h = level_any (survey_step schema (Node-F.Scan table)).track.slices (Node-F.Scan table) h
step_any schema (Node-F.Filter child condition) h = level_any (survey_step schema (Node-F.Filter child condition)).track.slices (Node-F.Filter child.level condition) h
step_any schema (Node-F.Project child columns) h = level_any (survey_step schema (Node-F.Project child columns)).track.slices (Node-F.Project child.level columns) h
step_any schema (Node-F.Join left right on) h = level_any (survey_step schema (Node-F.Join left right on)).track.slices (Node-F.Join left.level right.level on) h
step_any schema (Node-F.Group child keys having) h = level_any (survey_step schema (Node-F.Group child keys having)).track.slices (Node-F.Group child.level keys having) h
step_any schema (Node-F.Count child) h = level_any (survey_step schema (Node-F.Count child)).track.slices (Node-F.Count child.level) h
step_any schema (Node-F.Distinct child) h = level_any (survey_step schema (Node-F.Distinct child)).track.slices (Node-F.Distinct child.level) h
step_any schema (Node-F.Number child partition order) h = level_any (survey_step schema (Node-F.Number child partition order)).track.slices (Node-F.Number child.level partition order) h
step_any schema (Node-F.Top child order limit) h = level_any (survey_step schema (Node-F.Top child order limit)).track.slices (Node-F.Top child.level order limit) h

sliced_has : (schema : SchemaModel) (n : Node) → (survey schema n).level ≡ level.Sliced → list_any (λ s. s) (survey schema n).track.slices ≡ true
sliced_has schema = ind-Node (λ n. (survey schema n).level ≡ level.Sliced → list_any (λ s. s) (survey schema n).track.slices ≡ true) (λ x y is.
    rw (fold-roll-Node Survey (survey_step schema) x) (step_any schema (map-Node Node Survey (survey schema) x)))

track_slices : (schema : SchemaModel) (n : Node) → (survey schema n).track.slices ≡ slices schema n
track_slices schema n = ap (λ (t : Followed (List Leaf)). t.slices) (survey_track schema n) ∙ followed_slices schema leaf_of leaves_step n

-- a Sliced tree is a sound segment of itself
itself : (schema : SchemaModel) (n : Node) → level_of_node schema n ≡ level.Sliced → IsSound schema n (record { path = []; leaves = (survey schema n).track.at (first_slice (survey schema n).track.slices) })
itself schema n h =
    let c : ℕ = slice_column schema n in
    let same : first_slice (survey schema n).track.slices ≡ c = ap first_slice (track_slices schema n) in
    let sliced : slice_at (slices schema n) c ≡ true = first_is (slices schema n) (subst (λ (bs : List Bool). list_any (λ s. s) bs ≡ true) (track_slices schema n) (sliced_has schema n h)) in
    let traced : (survey schema n).track.at (first_slice (survey schema n).track.slices) ≡ (followed schema leaf_of leaves_step n).at c =
    ap (λ (k : ℕ). (survey schema n).track.at k) same ∙ ap (λ (t : Followed (List Leaf)). t.at c) (survey_track schema n) in record {
      top = n;
      there = refl;
      level = h;
      leaves = ap (λ (k : ℕ). (survey schema n).track.at k) same;
      public = subst (λ (ls : List Leaf). AllByRecursion (IsPublicLeaf schema) ls) (sym traced) (public_leaves schema n c (subst (λ (bs : List Bool). slice_at bs c ≡ true) (sym (followed_slices schema leaf_of leaves_step n)) sliced));
      slices = sliced;
      add = λ tables values wide each. slices_add schema tables n values _ sliced traced wide each;
    }

-- a segment, by the way that leads to it from a tree that stands at a path
abbrev From : SchemaModel → Node → List ℕ → SegmentModel → Type 0
From schema n path segment = (way : List ℕ) × (segment.path ≡ path ++ way) × IsSound schema n (record { path = way; leaves = segment.leaves })

abbrev AllFrom : SchemaModel → Node → Type 0
AllFrom schema n = (path : List ℕ) → AllByRecursion (From schema n path) (segments_of schema n path)

-- from what is read to what reads it
further : (schema : SchemaModel) (n child : Node) (k : ℕ) → child_of k (out-Node n) ≡ Some child → (path : List ℕ) (segment : SegmentModel) → From schema child (path ++ k ∷ []) segment → From schema n path segment
further schema n child k is path segment h =
    let s = h.2 in (
      k ∷ h.0,
      h.1 ∙ append_assoc path (k ∷ []) h.0,
      record { top = s.top; there = (child, is, s.there); level = s.level; leaves = s.leaves; public = s.public; slices = s.slices; add = s.add },
    )

-- where a tree isn't Local or Sliced, its segments are those below
by_level : (schema : SchemaModel) (n : Node) (path : List ℕ) (below : List SegmentModel) → AllByRecursion (From schema n path) below → (l : Level) → level_of_node schema n ≡ l
    → AllByRecursion (From schema n path) (segments_at l (survey schema n).track path below)
by_level schema n path below h level.Local e = tt
by_level schema n path below h level.Sliced e = (([], sym (append-nil path), itself schema n e), tt)
by_level schema n path below h level.Secure e = h

over : (schema : SchemaModel) (n : Node) (s : Survey) → survey schema n ≡ s → (below : List ℕ → List SegmentModel) → ((path : List ℕ) → s.segments path ≡ segments_at s.level s.track path (below path))
    → ((path : List ℕ) → AllByRecursion (From schema n path) (below path)) → AllFrom schema n
over schema n s is below one h path =
    subst (λ (segments : List SegmentModel). AllByRecursion (From schema n path) segments)
    (sym (subst (λ (t : Survey). t.segments path ≡ segments_at t.level t.track path (below path)) (sym is) (one path)))
    (by_level schema n path (below path) (h path) (survey schema n).level refl)

layer : (schema : SchemaModel) (y : Node-F ((n : Node) × AllFrom schema n)) (n : Node) → out-Node n ≡ map-Node ((n : Node) × AllFrom schema n) Node (λ e. e.0) y
    → survey schema n ≡ survey_step schema (map-Node Node Survey (survey schema) (map-Node ((n : Node) × AllFrom schema n) Node (λ e. e.0) y)) → AllFrom schema n
layer schema (Node-F.Scan table) n o is = over schema n _ is (λ path. []) (λ path. refl) (λ path. tt)
layer schema (Node-F.Filter child condition) n o is = over schema n _ is (below_at 0 (survey schema child.0)) (λ path. refl) (λ path. all_on _ _ (further schema n child.0 0 (ap (child_of 0) o) path) _ (child.1 (path ++ 0 ∷ [])))
layer schema (Node-F.Project child columns) n o is = over schema n _ is (below_at 0 (survey schema child.0)) (λ path. refl) (λ path. all_on _ _ (further schema n child.0 0 (ap (child_of 0) o) path) _ (child.1 (path ++ 0 ∷ [])))
layer schema (Node-F.Join left right on) n o is = over schema n _ is (λ path. below_at 0 (survey schema left.0) path ++ below_at 1 (survey schema right.0) path) (λ path. refl) (λ path. all-append (From schema n path) _ _
    (all_on _ _ (further schema n left.0 0 (ap (child_of 0) o) path) _ (left.1 (path ++ 0 ∷ [])))
    (all_on _ _ (further schema n right.0 1 (ap (child_of 1) o) path) _ (right.1 (path ++ 1 ∷ []))))
layer schema (Node-F.Group child keys having) n o is = over schema n _ is (below_at 0 (survey schema child.0)) (λ path. refl) (λ path. all_on _ _ (further schema n child.0 0 (ap (child_of 0) o) path) _ (child.1 (path ++ 0 ∷ [])))
layer schema (Node-F.Count child) n o is = over schema n _ is (below_at 0 (survey schema child.0)) (λ path. refl) (λ path. all_on _ _ (further schema n child.0 0 (ap (child_of 0) o) path) _ (child.1 (path ++ 0 ∷ [])))
layer schema (Node-F.Distinct child) n o is = over schema n _ is (below_at 0 (survey schema child.0)) (λ path. refl) (λ path. all_on _ _ (further schema n child.0 0 (ap (child_of 0) o) path) _ (child.1 (path ++ 0 ∷ [])))
layer schema (Node-F.Number child partition order) n o is = over schema n _ is (below_at 0 (survey schema child.0)) (λ path. refl) (λ path. all_on _ _ (further schema n child.0 0 (ap (child_of 0) o) path) _ (child.1 (path ++ 0 ∷ [])))
layer schema (Node-F.Top child order limit) n o is = over schema n _ is (below_at 0 (survey schema child.0)) (λ path. refl) (λ path. all_on _ _ (further schema n child.0 0 (ap (child_of 0) o) path) _ (child.1 (path ++ 0 ∷ [])))

all_from : (schema : SchemaModel) (n : Node) → AllFrom schema n
all_from schema = ind-Node (AllFrom schema) (λ x y is.
    layer schema y (roll-Node x) (out-roll-Node x ∙ sym is) (fold-roll-Node Survey (survey_step schema) x ∙ ap (λ (z : Node-F Node). survey_step schema (map-Node Node Survey (survey schema) z)) (sym is)))

-- all segments of a tree whose root stands at the empty path are sound
pub segments_sound : (schema : SchemaModel) (n : Node) → AllByRecursion (IsSound schema n) (segments_of schema n [])
segments_sound schema n = all_on _ _ (λ segment h. subst (λ (p : List ℕ). IsSound schema n (record { path = p; leaves = segment.leaves })) (sym h.1) h.2) _ (all_from schema n [])
