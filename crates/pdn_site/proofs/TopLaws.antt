-- The tops that the root takes are those of the plan's segments.
use Rattle.std.proofs.Common.{◌≡◌, ℕ, Bool, true, List, [], ◌∷◌, ◌++◌, refl, sym, ap, ap₂, ◌∙◌, subst, Option, Some}
use Rattle.std.specs.List.{AllByRecursion}
use Rattle.pdn_schema.specs.Models.{SchemaModel}
use Rattle.pdn_tree.specs.declared.node.Node.{Node, Node-F, fold-Node, out-Node, roll-Node, fold-roll-Node, out-roll-Node}
use Rattle.pdn_tree.specs.declared.node.Node.TheFolds.{ind-Node, map-Node}
use Rattle.pdn_tree.specs.declared.node.Node.TheVariants.{rolls-Scan, rolls-Filter, rolls-Project, rolls-Join, rolls-Group, rolls-Count, rolls-Distinct, rolls-Number, rolls-Top}
use Rattle.pdn_tree.specs.declared.node.Node.TheVariants as node
use Rattle.pdn_tree.specs.Shapes.{Shape, shape, shape_step}
use Rattle.pdn_level.specs.declared.staged.Leaf.{Leaf}
use Rattle.pdn_level.specs.declared.staged.Level.{Level}
use Rattle.pdn_level.specs.declared.staged.Level.TheVariants as level
use Rattle.pdn_level.specs.Models.{SegmentModel}
use Rattle.pdn_level.specs.Links.{slice_at}
use Rattle.pdn_level.specs.Slices.{Followed, slices}
use Rattle.pdn_level.specs.Levels.{Survey, survey, survey_step, segments_at, segments_of, first_slice, leaves_of, level_of_node, leaf_of, leaves_step}
use Rattle.pdn_level.specs.Cutting.{slice_column, child_of, stands_at, IsSound}
use Rattle.pdn_level.proofs.Lists.{both_true}
use Rattle.pdn_level.proofs.Tracks.{survey_track, followed_slices}
use Rattle.pdn_level.proofs.SegmentLaws.{segments_sound}
use Rattle.pdn_site.specs.Compiling.{or_same, node_at}
use Rattle.pdn_site.specs.Meaning.{numbers_fit, numbers_step}
use Rattle.pdn_site.specs.RootMeaning.{Topped, topped, topped_step, tops_by, segment_tops}
use Rattle.pdn_site.specs.DirectoryMeaning.{Places, IsTop, TopsMean}
use Rattle.pdn_site.proofs.RowLists.{all_append}
use Rattle.pdn_site.proofs.Folding.{fold_seen}

-- ---- ways
way_on : (path : List ℕ) (way : ℕ) (root : Node) → node_at (path ++ way ∷ []) root ≡ or_same (node_at path root) (child_of way (out-Node (node_at path root)))
way_on [] way root = refl
way_on (w ∷ path) way root = way_on path way (or_same root (child_of w (out-Node root)))

-- a child of what stands at a way
child_at : (path : List ℕ) (way : ℕ) (root : Node) (x : Node-F Node) (child : Node) → node_at path root ≡ roll-Node x → child_of way x ≡ Some child → node_at (path ++ way ∷ []) root ≡ child
child_at path way root x child e c =
    way_on path way root ∙ ap (λ (n : Node). or_same n (child_of way (out-Node n))) e
    ∙ ap (λ (y : Node-F Node). or_same (roll-Node x) (child_of way y)) (out-roll-Node x) ∙ ap (or_same (roll-Node x)) c

places_append : (schema : SchemaModel) (root : Node) (ss us : List SegmentModel) (ts vs : List Node) → Places schema root ss ts → Places schema root us vs → Places schema root (ss ++ us) (ts ++ vs)
places_append schema root [] us [] vs h k = k
places_append schema root [] us (t ∷ ts) vs h k = absurd h
places_append schema root (s ∷ ss) us [] vs h k = absurd h
places_append schema root (s ∷ ss) us (t ∷ ts) vs h k = (h.0, places_append schema root ss us ts vs h.1 k)

-- a way that stands leads there
stands_leads : (path : List ℕ) (root top : Node) → stands_at path root top → node_at path root ≡ top
stands_leads [] root top h = h
stands_leads (way ∷ path) root top h = ap (λ (o : Option Node). node_at path (or_same root o)) h.1 ∙ stands_leads path h.0 top h.2

-- ---- what is known of a tree, side by side
record Plot : Type 0 where
  topped : Topped
  fit : Shape
  number : Bool
  survey : Survey

record Fits (schema : SchemaModel) (top : Node) : Type 0 where
  sound : (shape schema top).sound ≡ true
  numbers : numbers_fit top ≡ true

module _ (schema : SchemaModel) where
  abbrev step : Node-F Plot → Plot
  step y = record {
    topped = topped_step schema (map-Node Plot Topped (λ (p : Plot). p.topped) y);
    fit = shape_step schema (map-Node Plot Shape (λ (p : Plot). p.fit) y);
    number = numbers_step (map-Node Plot Bool (λ (p : Plot). p.number) y);
    survey = survey_step schema (map-Node Plot Survey (λ (p : Plot). p.survey) y);
  }

  abbrev plot : Node → Plot
  plot = fold-Node Plot step

  record Plotted (n : Node) (p : Plot) : Type 0 where
    tree : p.topped.tree ≡ n
    fits : p.fit.sound ≡ true → p.number ≡ true → AllByRecursion (Fits schema) p.topped.tops
    places : (root : Node) (path : List ℕ) → node_at path root ≡ n → Places schema root (p.survey.segments path) p.topped.tops

  rolled : {Y : Type 0} (step' : Node-F Y → Y) (f : Plot → Y) → ((y : Node-F Plot) → f (step y) ≡ step' (map-Node Plot Y f y)) → (x : Node-F Node) → fold-Node Y step' (roll-Node x) ≡ f (step (map-Node Node Plot plot x))
  rolled step' f at_step x = sym (fold_seen step step' f at_step (roll-Node x)) ∙ ap f (fold-roll-Node Plot step x)

  record Known (n : Node) (fit : Shape) (number : Bool) (s : Survey) : Type 0 where
    fit_is : shape schema n ≡ fit
    number_is : numbers_fit n ≡ number
    survey_is : survey schema n ≡ s

  knows : (x : Node-F Node) → Known (roll-Node x) (step (map-Node Node Plot plot x)).fit (step (map-Node Node Plot plot x)).number (step (map-Node Node Plot plot x)).survey
  knows x = record {
    fit_is = rolled (shape_step schema) (λ (p : Plot). p.fit) (λ z. refl) x;
    number_is = rolled numbers_step (λ (p : Plot). p.number) (λ z. refl) x;
    survey_is = rolled (survey_step schema) (λ (p : Plot). p.survey) (λ z. refl) x;
  }

  track_slices : (n : Node) → (survey schema n).track.slices ≡ slices schema n
  track_slices n = ap (λ (t : Followed (List Leaf)). t.slices) (survey_track schema n) ∙ followed_slices schema leaf_of leaves_step n

  -- a node, by its level
  node_plotted : (n t : Node) (below : List Node) (fit : Shape) (number : Bool) (track : Followed (List Leaf)) (l : Level) (segments : List ℕ → List SegmentModel) → t ≡ n
      → Known n fit number (record { track = track; level = l; segments = λ path. segments_at l track path (segments path) })
      → (fit.sound ≡ true → number ≡ true → AllByRecursion (Fits schema) below) → ((root : Node) (path : List ℕ) → node_at path root ≡ n → Places schema root (segments path) below)
      → Plotted n (record { topped = topped schema t below; fit = fit; number = number; survey = record { track = track; level = l; segments = λ path. segments_at l track path (segments path) } })
  node_plotted n t below fit number track l segments e known fits places = record {
    tree = e;
    fits = λ f k. subst (λ (ts : List Node). AllByRecursion (Fits schema) ts) (sym tops) (own_fits l f k);
    places = λ root path h. subst (λ (ts : List Node). Places schema root (segments_at l track path (segments path)) ts) (sym tops) (own_places l root path h leaves);
  }
    where
      tops : tops_by (level_of_node schema t) t below ≡ tops_by l n below
      tops = ap₂ (λ k m. tops_by k m below) (ap (level_of_node schema) e ∙ ap (λ (s : Survey). s.level) known.survey_is) e

      leaves : track.at (first_slice track.slices) ≡ leaves_of schema n (slice_column schema n)
      leaves = ap (λ (s : Survey). s.track.at (first_slice s.track.slices)) (sym known.survey_is) ∙ ap (λ (bs : List Bool). (survey schema n).track.at (first_slice bs)) (track_slices n)

      own_fits : (k : Level) → fit.sound ≡ true → number ≡ true → AllByRecursion (Fits schema) (tops_by k n below)
      own_fits level.Local f m = tt
      own_fits level.Sliced f m = (record { sound = ap (λ (s : Shape). s.sound) known.fit_is ∙ f; numbers = known.number_is ∙ m }, tt)
      own_fits level.Secure f m = fits f m

      own_places : (k : Level) (root : Node) (path : List ℕ) → node_at path root ≡ n → track.at (first_slice track.slices) ≡ leaves_of schema n (slice_column schema n) → Places schema root (segments_at k track path (segments path)) (tops_by k n below)
      own_places level.Local root path h d = tt
      own_places level.Sliced root path h d = ((h, d), tt)
      own_places level.Secure root path h d = places root path h

  -- a node over one other
  unary_plotted : (child : Node) (wrap : Node → Node) (x : Node-F Node) → wrap child ≡ roll-Node x → child_of 0 x ≡ Some child → (fit : Shape) (number : Bool) (track : Followed (List Leaf)) (l : Level)
      → Known (roll-Node x) fit number (record { track = track; level = l; segments = λ path. segments_at l track path ((plot child).survey.segments (path ++ 0 ∷ [])) }) → Plotted child (plot child)
      → (fit.sound ≡ true → number ≡ true → ((plot child).fit.sound ≡ true) × ((plot child).number ≡ true))
      → Plotted (roll-Node x) (record { topped = topped schema (wrap (plot child).topped.tree) (plot child).topped.tops; fit = fit; number = number; survey = record { track = track; level = l; segments = λ path. segments_at l track path ((plot child).survey.segments (path ++ 0 ∷ [])) } })
  unary_plotted child wrap x w c fit number track l known below down =
      node_plotted (roll-Node x) (wrap (plot child).topped.tree) (plot child).topped.tops fit number track l (λ path. (plot child).survey.segments (path ++ 0 ∷ [])) (ap wrap below.tree ∙ w) known
      (λ f k. let parts = down f k in below.fits parts.0 parts.1) (λ root path h. below.places root (path ++ 0 ∷ []) (child_at path 0 root x child h c))

  abbrev Plots : Node → Type 0
  Plots n = Plotted n (plot n)

  abbrev plain : Node-F ((n : Node) × Plots n) → Node-F Node
  plain y = map-Node ((n : Node) × Plots n) Node (λ e. e.0) y

  layer : (y : Node-F ((n : Node) × Plots n)) → Plotted (roll-Node (plain y)) (step (map-Node Node Plot plot (plain y)))
  layer (Node-F.Scan table) = record {
    tree = sym (rolls-Scan table);
    fits = λ f k. subst (λ (ts : List Node). AllByRecursion (Fits schema) ts) (sym none) tt;
    places = λ root path h. subst (λ (ts : List Node). Places schema root [] ts) (sym none) tt;
  }
    where
      none : tops_by (level_of_node schema (node.Scan table)) (node.Scan table) [] ≡ []
      none = ap (λ k. tops_by k (node.Scan table) []) (ap (level_of_node schema) (sym (rolls-Scan table)) ∙ ap (λ (s : Survey). s.level) (fold-roll-Node Survey (survey_step schema) (Node-F.Scan table)))
  layer (Node-F.Filter child cond) = unary_plotted child.0 (λ t. node.Filter t cond) (Node-F.Filter child.0 cond) (sym (rolls-Filter child.0 cond)) refl _ _ _ _ (knows (Node-F.Filter child.0 cond)) child.1
      (λ f k. ((both_true _ _ (both_true _ _ f).0).0, (both_true _ _ k).0))
  layer (Node-F.Project child columns) = unary_plotted child.0 (λ t. node.Project t columns) (Node-F.Project child.0 columns) (sym (rolls-Project child.0 columns)) refl _ _ _ _ (knows (Node-F.Project child.0 columns)) child.1
      (λ f k. ((both_true _ _ (both_true _ _ f).0).0, k))
  layer (Node-F.Join left right on) =
      node_plotted (roll-Node (Node-F.Join left.0 right.0 on)) (node.Join (plot left.0).topped.tree (plot right.0).topped.tree on) ((plot left.0).topped.tops ++ (plot right.0).topped.tops) _ _ _ _ (λ path. (plot left.0).survey.segments (path ++ 0 ∷ []) ++ (plot right.0).survey.segments (path ++ 1 ∷ []))
      (ap₂ (λ (s t : Node). node.Join s t on) left.1.tree right.1.tree ∙ sym (rolls-Join left.0 right.0 on)) (knows (Node-F.Join left.0 right.0 on))
      (λ f k.
      let fits = both_true _ _ (both_true _ _ (both_true _ _ f).0).0 in
      let numbers = both_true _ _ (both_true _ _ k).0 in
      all_append (Fits schema) (plot left.0).topped.tops (plot right.0).topped.tops (left.1.fits fits.0 numbers.0) (right.1.fits fits.1 numbers.1))
      (λ root path h. places_append schema root ((plot left.0).survey.segments (path ++ 0 ∷ [])) ((plot right.0).survey.segments (path ++ 1 ∷ [])) (plot left.0).topped.tops (plot right.0).topped.tops
      (left.1.places root (path ++ 0 ∷ []) (child_at path 0 root (Node-F.Join left.0 right.0 on) left.0 h refl)) (right.1.places root (path ++ 1 ∷ []) (child_at path 1 root (Node-F.Join left.0 right.0 on) right.0 h refl)))
  layer (Node-F.Group child keys having) = unary_plotted child.0 (λ t. node.Group t keys having) (Node-F.Group child.0 keys having) (sym (rolls-Group child.0 keys having)) refl _ _ _ _ (knows (Node-F.Group child.0 keys having)) child.1
      (λ f k. ((both_true _ _ (both_true _ _ (both_true _ _ f).0).0).0, (both_true _ _ k).0))
  layer (Node-F.Count child) = unary_plotted child.0 (λ t. node.Count t) (Node-F.Count child.0) (sym (rolls-Count child.0)) refl _ _ _ _ (knows (Node-F.Count child.0)) child.1
      (λ f k. ((both_true _ _ (both_true _ _ f).0).0, k))
  layer (Node-F.Distinct child) = unary_plotted child.0 (λ t. node.Distinct t) (Node-F.Distinct child.0) (sym (rolls-Distinct child.0)) refl _ _ _ _ (knows (Node-F.Distinct child.0)) child.1 (λ f k. ((both_true _ _ f).0, k))
  layer (Node-F.Number child partition order) = unary_plotted child.0 (λ t. node.Number t partition order) (Node-F.Number child.0 partition order) (sym (rolls-Number child.0 partition order)) refl _ _ _ _ (knows (Node-F.Number child.0 partition order)) child.1
      (λ f k. ((both_true _ _ (both_true _ _ (both_true _ _ f).0).0).0, k))
  layer (Node-F.Top child order limit) = unary_plotted child.0 (λ t. node.Top t order limit) (Node-F.Top child.0 order limit) (sym (rolls-Top child.0 order limit)) refl _ _ _ _ (knows (Node-F.Top child.0 order limit)) child.1
      (λ f k. ((both_true _ _ (both_true _ _ f).0).0, (both_true _ _ k).0))

  all_plotted : (n : Node) → Plots n
  all_plotted = ind-Node Plots (λ x y is.
      subst (λ (p : Plot). Plotted (roll-Node x) p) (sym (fold-roll-Node Plot step x))
      (subst (λ (z : Node-F Node). Plotted (roll-Node z) (step (map-Node Node Plot plot z))) is (layer y)))

  -- each of a sound segment's tops has a slice column
  all_tops : (root : Node) (ss : List SegmentModel) (ts : List Node) → AllByRecursion (IsSound schema root) ss → Places schema root ss ts → AllByRecursion (Fits schema) ts → AllByRecursion (IsTop schema) ts
  all_tops root [] [] sound places fits = tt
  all_tops root [] (t ∷ ts) sound places fits = absurd places
  all_tops root (s ∷ ss) [] sound places fits = absurd places
  all_tops root (s ∷ ss) (t ∷ ts) sound places fits =
      let same : sound.0.top ≡ t = sym (stands_leads s.path root sound.0.top sound.0.there) ∙ places.0.0 in (
        record { sound = fits.0.sound; numbers = fits.0.numbers; slices = subst (λ (n : Node). slice_at (slices schema n) (slice_column schema n) ≡ true) same sound.0.slices },
        all_tops root ss ts sound.1 places.1 fits.1,
      )

  pub tops_hold : (root : Node) → (shape schema root).sound ≡ true → numbers_fit root ≡ true → Places schema root (segments_of schema root []) (segment_tops schema root) × AllByRecursion (IsTop schema) (segment_tops schema root)
  tops_hold root sound numbers =
      let all = all_plotted root in
      let tops : (plot root).topped.tops ≡ segment_tops schema root = ap (λ (t : Topped). t.tops) (fold_seen step (topped_step schema) (λ (p : Plot). p.topped) (λ z. refl) root) in
      let fit : (plot root).fit ≡ shape schema root = fold_seen step (shape_step schema) (λ (p : Plot). p.fit) (λ z. refl) root in
      let number : (plot root).number ≡ numbers_fit root = fold_seen step numbers_step (λ (p : Plot). p.number) (λ z. refl) root in
      let surveyed : (plot root).survey ≡ survey schema root = fold_seen step (survey_step schema) (λ (p : Plot). p.survey) (λ z. refl) root in
      let fits = subst (λ (ts : List Node). AllByRecursion (Fits schema) ts) tops (all.fits (ap (λ (s : Shape). s.sound) fit ∙ sound) (number ∙ numbers)) in
      let places : Places schema root (segments_of schema root []) (segment_tops schema root)
      = subst (λ (s : Survey). Places schema root (s.segments []) (segment_tops schema root)) surveyed (subst (λ (ts : List Node). Places schema root ((plot root).survey.segments []) ts) tops (all.places root [] refl)) in
      (places, all_tops root (segments_of schema root []) (segment_tops schema root) (segments_sound schema root) places fits)

pub tops_mean : TopsMean
tops_mean schema root sound numbers = tops_hold schema root sound numbers
