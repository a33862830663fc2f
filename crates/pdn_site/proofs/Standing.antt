-- Where the segments of a tree stand among those of the whole.
use Rattle.std.proofs.Common.{◌≡◌, ℕ, suc, ◌+◌, ◌<◌, List, [], ◌∷◌, ◌++◌, get_or, length, refl, sym, ap, ap₂, ◌∙◌, subst, arith, append_assoc, append-nil, length-append, map}
use Rattle.std.proofs.lemmas.List.{get_or_at}
use Rattle.pdn_base.specs.declared.site.Site.{Site}
use Rattle.pdn_base.specs.Operators.{Rows}
use Rattle.pdn_schema.specs.Models.{SchemaModel}
use Rattle.pdn_tree.specs.declared.node.Node.{Node, Node-F, fold-roll-Node, roll-Node, out-roll-Node}
use Rattle.pdn_tree.specs.declared.node.Node.TheFolds.{ind-Node, map-Node}
use Rattle.pdn_tree.specs.Walks.{children, below}
use Rattle.pdn_level.specs.declared.staged.Leaf.{Leaf}
use Rattle.pdn_level.specs.declared.staged.Level.{Level}
use Rattle.pdn_level.specs.declared.staged.Level.TheVariants as level
use Rattle.pdn_level.specs.Models.{SegmentModel}
use Rattle.pdn_level.specs.Slices.{Followed}
use Rattle.pdn_level.specs.Levels.{Survey, survey, survey_step, segments_at, segments_of, level_of_node, leaves_of, first_slice}
use Rattle.pdn_level.specs.Cutting.{IsSound, slice_column}
use Rattle.pdn_level.proofs.SegmentLaws.{segments_sound}
use Rattle.std.specs.List.{AllByRecursion}
use Rattle.pdn_level.proofs.Surveys.{local_segments, sliced_segments}
use Rattle.pdn_site.specs.Engines.{no_segment}
use Rattle.pdn_site.specs.SiteRows.{Slice, OwnRoot}
use Rattle.pdn_site.specs.RootWords.{tree_words, StandsFrom}
use Rattle.pdn_site.proofs.RootWordLaws.{over, local_words, sliced_words, secure_words}
use Rattle.pdn_site.proofs.Sizes.{children_map}

module _ (schema : SchemaModel) where
  -- the segments of trees that a node reads, left to right, where it is neither a leaf nor a segment
  abbrev pub under : List Node → List ℕ → List SegmentModel
  under [] path = []
  under (child ∷ []) path = segments_of schema child (path ++ 0 ∷ [])
  under (left ∷ right ∷ rest) path = segments_of schema left (path ++ 0 ∷ []) ++ segments_of schema right (path ++ 1 ∷ [])

  at_secure : (l : Level) (track : Followed (List Leaf)) (path : List ℕ) (ss : List SegmentModel) → l ≡ level.Secure → segments_at l track path ss ≡ ss
  at_secure l track path ss h = ap (λ (k : Level). segments_at k track path ss) h

  abbrev surveyed : Node-F Node → Survey
  surveyed y = survey_step schema (map-Node Node Survey (survey schema) y)

  step_under : (y : Node-F Node) (path : List ℕ) → (surveyed y).level ≡ level.Secure → (surveyed y).segments path ≡ under (children y) path
  step_under (Node-F.Scan table) path h = at_secure (surveyed (Node-F.Scan table)).level (surveyed (Node-F.Scan table)).track path [] h
  step_under (Node-F.Filter child condition) path h = at_secure (surveyed (Node-F.Filter child condition)).level (surveyed (Node-F.Filter child condition)).track path _ h
  step_under (Node-F.Project child columns) path h = at_secure (surveyed (Node-F.Project child columns)).level (surveyed (Node-F.Project child columns)).track path _ h
  step_under (Node-F.Join left right on) path h = at_secure (surveyed (Node-F.Join left right on)).level (surveyed (Node-F.Join left right on)).track path _ h
  step_under (Node-F.Group child keys having) path h = at_secure (surveyed (Node-F.Group child keys having)).level (surveyed (Node-F.Group child keys having)).track path _ h
  step_under (Node-F.Count child) path h = at_secure (surveyed (Node-F.Count child)).level (surveyed (Node-F.Count child)).track path (segments_of schema child (path ++ 0 ∷ [])) h
  step_under (Node-F.Distinct child) path h = at_secure (surveyed (Node-F.Distinct child)).level (surveyed (Node-F.Distinct child)).track path _ h
  step_under (Node-F.Number child partition order) path h = at_secure (surveyed (Node-F.Number child partition order)).level (surveyed (Node-F.Number child partition order)).track path _ h
  step_under (Node-F.Top child order limit) path h = at_secure (surveyed (Node-F.Top child order limit)).level (surveyed (Node-F.Top child order limit)).track path _ h

  pub secure_segments : (n : Node) (path : List ℕ) → level_of_node schema n ≡ level.Secure → segments_of schema n path ≡ under (below n) path
  secure_segments = ind-Node (λ n. (path : List ℕ) → level_of_node schema n ≡ level.Secure → segments_of schema n path ≡ under (below n) path) (λ x y is path h.
      let opened = fold-roll-Node Survey (survey_step schema) x in
      ap (λ (s : Survey). s.segments path) opened ∙ step_under x path (sym (ap (λ (s : Survey). s.level) opened) ∙ h)
      ∙ ap (λ (z : Node-F Node). under (children z) path) (sym (out-roll-Node x)))

  -- ---- how many there are

  module _ (site : Site) (tables : List Rows) (slices : List (List Slice)) where
    abbrev next : Node → ℕ → ℕ
    next n i = (tree_words site schema tables slices n i).segments

    abbrev Counts : Node → Type 0
    Counts n = (i : ℕ) (path : List ℕ) → next n i ≡ i + length (segments_of schema n path)

    abbrev Pair : Type 0
    Pair = (n : Node) × Counts n

    abbrev node_of : Pair → Node
    node_of e = e.0

    counts_over : (es : List Pair) (i : ℕ) (path : List ℕ) → (over site schema tables slices (map node_of es) i).segments ≡ i + length (under (map node_of es) path)
    counts_over [] i path = omega arith
    counts_over (child ∷ []) i path = child.1 i (path ++ 0 ∷ [])
    counts_over (left ∷ right ∷ rest) i path =
        let l : List SegmentModel = segments_of schema left.0 (path ++ 0 ∷ []) in
        let r : List SegmentModel = segments_of schema right.0 (path ++ 1 ∷ []) in
        let first : next left.0 i ≡ i + length l = left.1 i (path ++ 0 ∷ []) in
        let second : next right.0 (next left.0 i) ≡ next left.0 i + length r = right.1 (next left.0 i) (path ++ 1 ∷ []) in
        let both : length (l ++ r) ≡ length l + length r = length-append l r in
        omega (arith, first, second, both)

    counted_at : (l : Level) (n : Node) (i : ℕ) (path : List ℕ) → level_of_node schema n ≡ l → (over site schema tables slices (below n) i).segments ≡ i + length (under (below n) path) → next n i ≡ i + length (segments_of schema n path)
    counted_at level.Local n i path h b = ap (λ (o : OwnRoot). o.segments) (local_words site schema tables slices n i h) ∙ sym (ap (λ (ss : List SegmentModel). i + length ss) (local_segments schema n path h) ∙ omega arith)
    counted_at level.Sliced n i path h b = ap (λ (o : OwnRoot). o.segments) (sliced_words site schema tables slices n i h) ∙ sym (ap (λ (ss : List SegmentModel). i + length ss) (sliced_segments schema n path h))
    counted_at level.Secure n i path h b = ap (λ (o : OwnRoot). o.segments) (secure_words site schema tables slices n i h) ∙ b ∙ sym (ap (λ (ss : List SegmentModel). i + length ss) (secure_segments n path h))

    pub counted : (n : Node) → Counts n
    counted = ind-Node Counts (λ x y is i path.
        counted_at (level_of_node schema (roll-Node x)) (roll-Node x) i path refl
        (subst (λ (ns : List Node). (over site schema tables slices ns i).segments ≡ i + length (under ns path))
        (sym (children_map node_of y) ∙ ap (λ (z : Node-F Node). children z) (is ∙ sym (out-roll-Node x)))
        (counts_over (children y) i path)))

  -- ---- where they stand

  module _ (staged : List SegmentModel) where
    pub stands_only : (n child : Node) (i : ℕ) → ((path : List ℕ) → segments_of schema n path ≡ segments_of schema child (path ++ 0 ∷ [])) → StandsFrom schema staged n i → StandsFrom schema staged child i
    stands_only n child i same s = record {
      path = s.path ++ 0 ∷ [];
      front = s.front;
      rest = s.rest;
      is = s.is ∙ ap (λ (ss : List SegmentModel). s.front ++ (ss ++ s.rest)) (same s.path);
      count = s.count;
    }

    -- the segments of both trees that a node reads
    both_segments : (n left right : Node) (path : List ℕ) → left ∷ right ∷ [] ≡ below n → level_of_node schema n ≡ level.Secure → segments_of schema n path ≡ segments_of schema left (path ++ 0 ∷ []) ++ segments_of schema right (path ++ 1 ∷ [])
    both_segments n left right path reads h = secure_segments n path h ∙ ap (λ (ns : List Node). under ns path) (sym reads)

    pub stands_left : (n left right : Node) (i : ℕ) → left ∷ right ∷ [] ≡ below n → level_of_node schema n ≡ level.Secure → StandsFrom schema staged n i → StandsFrom schema staged left i
    stands_left n left right i reads h s = record {
      path = s.path ++ 0 ∷ [];
      front = s.front;
      rest = segments_of schema right (s.path ++ 1 ∷ []) ++ s.rest;
      is = s.is ∙ ap (λ (ss : List SegmentModel). s.front ++ (ss ++ s.rest)) (both_segments n left right s.path reads h)
          ∙ ap (λ (ss : List SegmentModel). s.front ++ ss) (append_assoc (segments_of schema left (s.path ++ 0 ∷ [])) (segments_of schema right (s.path ++ 1 ∷ [])) s.rest);
      count = s.count;
    }

    pub stands_right : (n left right : Node) (i j : ℕ) → left ∷ right ∷ [] ≡ below n → level_of_node schema n ≡ level.Secure
        → ((path : List ℕ) → j ≡ i + length (segments_of schema left path)) → StandsFrom schema staged n i → StandsFrom schema staged right j
    stands_right n left right i j reads h past s =
        let l : List SegmentModel = segments_of schema left (s.path ++ 0 ∷ []) in
        let r : List SegmentModel = segments_of schema right (s.path ++ 1 ∷ []) in
        record {
          path = s.path ++ 1 ∷ [];
          front = s.front ++ l;
          rest = s.rest;
          is = s.is ∙ ap (λ (ss : List SegmentModel). s.front ++ (ss ++ s.rest)) (both_segments n left right s.path reads h)
              ∙ ap (λ (ss : List SegmentModel). s.front ++ ss) (append_assoc l r s.rest)
              ∙ sym (append_assoc s.front l (r ++ s.rest));
          count = length-append s.front l ∙ ap (λ k. k + length l) s.count ∙ sym (past (s.path ++ 0 ∷ []));
        }

    abbrev segment_here : Node → List ℕ → SegmentModel
    segment_here top path = record { path = path; leaves = (survey schema top).track.at (first_slice (survey schema top).track.slices) }

    -- a segment stands at its number
    stands_here : (top : Node) (i : ℕ) (s : StandsFrom schema staged top i) → level_of_node schema top ≡ level.Sliced → staged ≡ s.front ++ (segment_here top s.path ∷ s.rest)
    stands_here top i s h = s.is ∙ ap (λ (ss : List SegmentModel). s.front ++ (ss ++ s.rest)) (sliced_segments schema top s.path h)

    leaves_here : (top : Node) → level_of_node schema top ≡ level.Sliced → (segment_here top []).leaves ≡ leaves_of schema top (slice_column schema top)
    leaves_here top h =
        let all : AllByRecursion (IsSound schema top) (segment_here top [] ∷ []) = subst (λ (ss : List SegmentModel). AllByRecursion (IsSound schema top) ss) (sliced_segments schema top [] h) (segments_sound schema top) in
        let sound : IsSound schema top (segment_here top []) = all.0 in
        sound.leaves ∙ ap (λ (n : Node). leaves_of schema n (slice_column schema n)) (sym sound.there)

    pub stands_within : (top : Node) (i : ℕ) → StandsFrom schema staged top i → level_of_node schema top ≡ level.Sliced → i < length staged
    stands_within top i s h =
        let long : length staged ≡ length s.front + suc (length s.rest) = ap length (stands_here top i s h) ∙ length-append s.front _ in
        let count : length s.front ≡ i = s.count in
        omega (arith, long, count)

    pub leaves_stand : (top : Node) (i : ℕ) (d : SegmentModel) → StandsFrom schema staged top i → level_of_node schema top ≡ level.Sliced → (get_or staged i d).leaves ≡ leaves_of schema top (slice_column schema top)
    leaves_stand top i d s h = ap (λ (ss : List SegmentModel). (get_or ss i d).leaves) (stands_here top i s h) ∙ ap (λ (m : SegmentModel). m.leaves) (get_or_at s.front (segment_here top s.path) s.rest d i s.count) ∙ leaves_here top h

    -- the same, step by step
    pub leaves_by : (top : Node) (i : ℕ) (found : SegmentModel) (leaves : List Leaf) → StandsFrom schema staged top i → level_of_node schema top ≡ level.Sliced → found ≡ get_or staged i no_segment → leaves ≡ found.leaves → leaves ≡ leaves_of schema top (slice_column schema top)
    leaves_by top i found leaves s h at of = of ∙ ap (λ (m : SegmentModel). m.leaves) at ∙ leaves_stand top i no_segment s h

-- all segments of a tree stand from the first number on
pub stands_whole : (schema : SchemaModel) (staged : List SegmentModel) (root : Node) → staged ≡ segments_of schema root [] → StandsFrom schema staged root 0
stands_whole schema staged root e = record { path = []; front = []; rest = []; is = e ∙ sym (append-nil _); count = refl }

-- ---- operators, by what they read

module _ (schema : SchemaModel) (site : Site) (tables : List Rows) (slices : List (List Slice)) where
  abbrev words : Node → ℕ → OwnRoot
  words n i = tree_words site schema tables slices n i

  read_words : (n : Node) (ns : List Node) (i : ℕ) → ns ≡ below n → level_of_node schema n ≡ level.Secure → over site schema tables slices ns i ≡ words n i
  read_words n ns i reads h = ap (λ (ms : List Node). over site schema tables slices ms i) reads ∙ sym (secure_words site schema tables slices n i h)

  pub nothing_words : (n : Node) (i : ℕ) → [] ≡ below n → level_of_node schema n ≡ level.Secure → record { words = []; segments = i } ≡ words n i
  nothing_words n i reads h = read_words n [] i reads h

  -- a node that reads one tree has its words and segments
  pub one_words : (n child : Node) (i : ℕ) → child ∷ [] ≡ below n → level_of_node schema n ≡ level.Secure → words child i ≡ words n i
  one_words n child i reads h = read_words n (child ∷ []) i reads h

  pub one_stands : (staged : List SegmentModel) (n child : Node) (i : ℕ) → child ∷ [] ≡ below n → level_of_node schema n ≡ level.Secure → StandsFrom schema staged n i → StandsFrom schema staged child i
  one_stands staged n child i reads h s = stands_only schema staged n child i (λ path. secure_segments schema n path h ∙ ap (λ (ns : List Node). under schema ns path) (sym reads)) s

  -- a node that reads two has those of the left one and of the right one
  pub left_stands : (staged : List SegmentModel) (n left right : Node) (i : ℕ) → left ∷ right ∷ [] ≡ below n → level_of_node schema n ≡ level.Secure → StandsFrom schema staged n i → StandsFrom schema staged left i
  left_stands staged n left right i reads h s = stands_left schema staged n left right i reads h s

  pub right_stands : (staged : List SegmentModel) (n left right : Node) (i j : ℕ) → left ∷ right ∷ [] ≡ below n → level_of_node schema n ≡ level.Secure → j ≡ (words left i).segments → StandsFrom schema staged n i → StandsFrom schema staged right j
  right_stands staged n left right i j reads h past s = stands_right schema staged n left right i j reads h (λ path. past ∙ counted schema site tables slices left i path) s

  pub both_words : (n left right : Node) (i j : ℕ) (l r both : OwnRoot) → left ∷ right ∷ [] ≡ below n → level_of_node schema n ≡ level.Secure → l ≡ words left i → j ≡ l.segments → r ≡ words right j → both ≡ record { words = l.words ++ r.words; segments = r.segments } → both ≡ words n i
  both_words n left right i j l r both reads h el ej er e =
      let r_at : r ≡ words right (words left i).segments = er ∙ ap (words right) (ej ∙ ap (λ (o : OwnRoot). o.segments) el) in
      e ∙ ap₂ (λ (a b : OwnRoot). record { words = a.words ++ b.words; segments = b.segments }) el r_at
      ∙ read_words n (left ∷ right ∷ []) i reads h
