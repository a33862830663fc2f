-- The circuit of the root takes as many words as are put into it, by induction on the plan's tree.
use Rattle.std.proofs.Common.{◌≡◌, ℕ, true, false, suc, ◌+◌, ◌*◌, List, [], ◌∷◌, ◌++◌, cond, length, get_or, map, refl, sym, ap, ap₂, ◌∙◌, subst, arith, length-append, append-nil, append_assoc}
use Rattle.std.specs.Prelude.{slice_index}
use Rattle.std.specs.List.{AllByRecursion, flat_map}
use Rattle.std.proofs.lemmas.List.{get_or_at}
use Rattle.pdn_base.specs.declared.marks.Kind.{Kind}
use Rattle.pdn_base.specs.declared.marks.Kind.TheVariants as kind
use Rattle.pdn_base.specs.declared.site.Site.TheVariants.{A, B}
use Rattle.pdn_base.specs.declared.value.Value.{Value}
use Rattle.pdn_base.specs.declared.cond.Cmp.{Cmp}
use Rattle.pdn_base.specs.Operators.{Rows, listed}
use Rattle.pdn_schema.specs.Models.{SchemaModel, table_of}
use Rattle.pdn_tree.specs.declared.node.Node.{Node, Node-F, fold-Node, roll-Node, fold-roll-Node}
use Rattle.pdn_tree.specs.declared.node.Node.TheFolds.{ind-Node, map-Node}
use Rattle.pdn_tree.specs.declared.node.Node.TheVariants.{rolls-Scan, rolls-Filter, rolls-Project, rolls-Join, rolls-Group, rolls-Count, rolls-Distinct, rolls-Number, rolls-Top}
use Rattle.pdn_tree.specs.declared.node.Node.TheVariants as node
use Rattle.pdn_tree.specs.Meaning.{table_of as rows_of}
use Rattle.pdn_tree.specs.Shapes.{Shape, shape_step, kinds, kind_at}
use Rattle.pdn_circuit.specs.Gates.{InputWords, values}
use Rattle.pdn_circuit.specs.Blocks.{Making, gives}
use Rattle.pdn_obl_rows.specs.Lists.{PaddedList, widths, words_for}
use Rattle.pdn_obl_rows.specs.Encoding.{Stand}
use Rattle.pdn_obl_rows.specs.Operators.{filter_gates, projected, join_gates}
use Rattle.pdn_obl_rows.proofs.EncodingLaws.{length-encoded}
use Rattle.pdn_obl_group.specs.Operators.{distinct_gates, group_gates, count_gates}
use Rattle.pdn_obl_rank.specs.Numbers.{number_gates}
use Rattle.pdn_obl_rank.specs.Tops.{top_gates}
use Rattle.pdn_level.specs.declared.staged.Level.{Level}
use Rattle.pdn_level.specs.declared.staged.Level.TheVariants as level
use Rattle.pdn_level.specs.Levels.{level_of_node}
use Rattle.pdn_level.specs.Cutting.{slice_column}
use Rattle.pdn_site.specs.declared.unit.UnitKind.{UnitKind}
use Rattle.pdn_site.specs.declared.unit.UnitKind.TheVariants.{Plain, Secure, Root}
use Rattle.pdn_site.specs.Laying.{Taken, Laying, nothing, making, next, each_laid, list_words}
use Rattle.pdn_site.specs.Circuits.{Part, part_by, part_list, no_rows, joined_parts, segment_list, past_segment, Rooted, by_level, rooted, root_step, root_list, leaf_list, table_kinds, counted_kinds, then_gates, net_of, unit_list}
use Rattle.pdn_site.specs.Directories.{unit_values, kind_of}
use Rattle.pdn_site.specs.SiteRows.{entered, plain_rows, is_of, Slice, slice_words, OwnRoot, RootRows, root_by, root_own, no_words, words_of_both, root_words_step}
use Rattle.pdn_site.specs.Meaning.{AreTables}
use Rattle.pdn_site.specs.RootMeaning.{Topped, topped, topped_step, tops_by, segment_tops, part_of, parts_of_slices, given_by, segment_given, given_from}
use Rattle.pdn_site.specs.DirectoryMeaning.{unit_len, unit_slices, both_dirs, IsTop}
use Rattle.pdn_site.specs.NetMeaning.{unit_inputs, unit_outputs, outputs_of, slices_of, root_inputs, UnitFits, UnitsFit}
use Rattle.pdn_site.specs.Taking.{RootTakes, CircuitsTake}
use Rattle.pdn_site.proofs.Quiet.{Quiet, quiet_gives, quiet_filter, quiet_append, quiet_join, quiet_distinct, quiet_group, quiet_count, quiet_number, quiet_top}
use Rattle.pdn_site.proofs.Folding.{fold_seen}
use Rattle.pdn_site.proofs.OutputLaws.{length-words_out}
use Rattle.pdn_site.proofs.PartLaws.{parts_at}
use Rattle.pdn_site.proofs.NetLaws.{net_means}
use Rattle.pdn_site.proofs.UnitLaws.{unit_means}
use Rattle.pdn_site.proofs.TopLaws.{tops_mean}
use Rattle.pdn_site.proofs.TakesLaws.{Takes, takes_as, takes_making, takes_next, takes_a, takes_b, takes_given, takes_then, takes_join, takes_leaf, net_takes, unit_takes}

-- how many given words a unit's list is read from
abbrev given_words : UnitKind → List Kind → ℕ → ℕ
given_words (Plain site) columns len = 0
given_words Secure columns len = list_words columns len
given_words Root columns len = list_words columns len

quiet_parts : (columns : List Kind) (lists : List PaddedList) → Quiet (joined_parts columns lists)
quiet_parts columns [] = quiet_gives (no_rows columns)
quiet_parts columns (l ∷ ls) = quiet_append (l ∷ ls)

module _ (schema : SchemaModel) (ta tb : List Rows) (slices : List (List Slice)) (outputs : ℕ → Value → List ℕ) where
  -- ---- what the units put out is as long as their lists
  abbrev UnitLong : Node → (Value → List ℕ) → Slice → Type 0
  UnitLong top output s = length (given_by output s.value s.kind) ≡ given_words s.kind (kinds schema top) s.len

  abbrev SegmentsLong : ℕ → List Node → Type 0
  SegmentsLong i [] = Unit {0}
  SegmentsLong i (top ∷ tops) = AllByRecursion (UnitLong top (outputs i)) (get_or slices i []) × SegmentsLong (i + 1) tops

  long_left : (i : ℕ) (xs ys : List Node) → SegmentsLong i (xs ++ ys) → SegmentsLong i xs
  long_left i [] ys h = tt
  long_left i (x ∷ xs) ys h = (h.0, long_left (i + 1) xs ys h.1)

  long_right : (i : ℕ) (xs ys : List Node) → SegmentsLong i (xs ++ ys) → SegmentsLong (i + length xs) ys
  long_right i [] ys h = subst (λ (n : ℕ). SegmentsLong n ys) (let e : i ≡ i + 0 = omega arith in e) h
  long_right i (x ∷ xs) ys h = subst (λ (n : ℕ). SegmentsLong n ys) (let e : i + 1 + length xs ≡ i + suc (length xs) = omega arith in e) (long_right (i + 1) xs ys h.1)

  abbrev given_at : ℕ → List Node → List ℕ
  given_at i tops = given_from slices outputs i tops

  given_long : (i : ℕ) (xs ys : List Node) → length (given_at i (xs ++ ys)) ≡ length (given_at i xs) + length (given_at (i + length xs) ys)
  given_long i [] ys =
      let far : length (given_at i ys) ≡ length (given_at (i + 0) ys) = ap (λ n. length (given_at n ys)) (let e : i ≡ i + 0 = omega arith in e) in
      omega (arith, far)
  given_long i (x ∷ xs) ys =
      let own : List ℕ = segment_given slices outputs i in
      let far : length (given_at (i + 1 + length xs) ys) ≡ length (given_at (i + suc (length xs)) ys) = ap (λ n. length (given_at n ys)) (let e : i + 1 + length xs ≡ i + suc (length xs) = omega arith in e) in
      omega (arith, length-append own (given_at (i + 1) (xs ++ ys)), length-append own (given_at (i + 1) xs), given_long (i + 1) xs ys, far)

  -- ---- a segment
  module _ (top : Node) where
    abbrev columns : List Kind
    columns = kinds schema top

    kind_takes : (output : Value → List ℕ) (v : Value) (len : ℕ) (k : UnitKind) → length (given_by output v k) ≡ given_words k columns len → (taken : Taken) (n : ℕ)
        → Takes taken (part_by k columns len taken n) (length (cond (is_of A k) (entered (plain_rows schema ta v top) columns len) [])) (length (cond (is_of B k) (entered (plain_rows schema tb v top) columns len) [])) (length (given_by output v k)) 0
    kind_takes output v len (Plain A) h taken n = takes_as (takes_a columns len taken n) (sym (length-encoded (listed [] (plain_rows schema ta v top)) columns len)) refl refl refl
    kind_takes output v len (Plain B) h taken n = takes_as (takes_b columns len taken n) refl (sym (length-encoded (listed [] (plain_rows schema tb v top)) columns len)) refl refl
    kind_takes output v len Secure h taken n = takes_as (takes_given columns len taken n) refl refl (sym h) refl
    kind_takes output v len Root h taken n = takes_as (takes_given columns len taken n) refl refl (sym h) refl

    parts_take : (output : Value → List ℕ) (own : List Slice) → AllByRecursion (UnitLong top output) own → (taken : Taken) (n : ℕ)
        → Takes taken (each_laid (part_list columns) (map part_of own) taken n) (length (flat_map (slice_words A schema ta top) own)) (length (flat_map (slice_words B schema tb top) own)) (length (flat_map (λ (s : Slice). given_by output s.value s.kind) own)) 0
    parts_take output [] h taken n = takes_making (gives []) (quiet_gives []) taken n
    parts_take output (s ∷ ss) h taken n =
        takes_as
        (takes_next (part_list columns (part_of s)) (λ a. next (each_laid (part_list columns) (map part_of ss)) (λ rest. making (gives (a ∷ rest)))) taken n (kind_takes output s.value s.len s.kind h.0 taken n)
        (takes_next (each_laid (part_list columns) (map part_of ss)) (λ rest. making (gives ((part_list columns (part_of s) taken n).result.0 ∷ rest))) _ _ (parts_take output ss h.1 _ _) (takes_making _ (quiet_gives _) _ _)))
        (omega (arith, length-append (slice_words A schema ta top s) (flat_map (slice_words A schema ta top) ss)))
        (omega (arith, length-append (slice_words B schema tb top s) (flat_map (slice_words B schema tb top) ss)))
        (omega (arith, length-append (given_by output s.value s.kind) (flat_map (λ (u : Slice). given_by output u.value u.kind) ss))) refl

    segment_takes : (taken : Taken) (n : ℕ) → AllByRecursion (UnitLong top (outputs taken.segments)) (get_or slices taken.segments [])
        → Takes taken (segment_list (parts_of_slices slices) columns taken n) (length (flat_map (slice_words A schema ta top) (get_or slices taken.segments []))) (length (flat_map (slice_words B schema tb top) (get_or slices taken.segments [])))
        (length (segment_given slices outputs taken.segments)) 1
    segment_takes taken n h =
        let own : List Slice = get_or slices taken.segments [] in
        let units : (parts : List Part) → parts ≡ map part_of own
        → Takes (past_segment taken) (each_laid (part_list columns) parts (past_segment taken) n) (length (flat_map (slice_words A schema ta top) own)) (length (flat_map (slice_words B schema tb top) own)) (length (segment_given slices outputs taken.segments)) 0
        = λ parts e. subst (λ (ps : List Part). Takes (past_segment taken) (each_laid (part_list columns) ps (past_segment taken) n) (length (flat_map (slice_words A schema ta top) own)) (length (flat_map (slice_words B schema tb top) own)) (length (segment_given slices outputs taken.segments)) 0)
        (sym e) (parts_take (outputs taken.segments) own h (past_segment taken) n) in
        let whole = takes_next (each_laid (part_list columns) (get_or (parts_of_slices slices) taken.segments [])) (λ lists. making (joined_parts columns lists)) (past_segment taken) n (units _ (parts_at slices taken.segments)) (takes_making _ (quiet_parts columns _) _ _) in
        record { of_a = whole.of_a ∙ omega arith; of_b = whole.of_b ∙ omega arith; of_given = whole.of_given ∙ omega arith; after = whole.after ∙ omega arith }

  -- ---- a tree: its list, the sites' words and its segments' tops
  record Feeds (list : Laying PaddedList) (a b : ℕ → OwnRoot) (tops : List Node) : Type 0 where
    takes : (taken : Taken) (n : ℕ) → SegmentsLong taken.segments tops → Takes taken (list taken n) (length (a taken.segments).words) (length (b taken.segments).words) (length (given_at taken.segments tops)) (length tops)
    next_a : (i : ℕ) → (a i).segments ≡ i + length tops
    next_b : (i : ℕ) → (b i).segments ≡ i + length tops

  over_feeds : (list : Laying PaddedList) (a b : ℕ → OwnRoot) (tops : List Node) (gates : PaddedList → Making PaddedList) → ((l : PaddedList) → Quiet (gates l)) → Feeds list a b tops → Feeds (then_gates list gates) a b tops
  over_feeds list a b tops gates q feeds = record { takes = λ taken n long. takes_then list gates q taken n (feeds.takes taken n long); next_a = feeds.next_a; next_b = feeds.next_b }

  both_long : (first second : ℕ → OwnRoot) (i j : ℕ) → j ≡ (first i).segments → length (first i).words + length (second j).words ≡ length (words_of_both first second i).words
  both_long first second i j e = ap (λ k. length (first i).words + length (second k).words) e ∙ sym (length-append (first i).words (second (first i).segments).words)

  join_feeds : (l r : Laying PaddedList) (a b a' b' : ℕ → OwnRoot) (tops tops' : List Node) (on : List (List Cmp)) → Feeds l a b tops → Feeds r a' b' tops'
      → Feeds (next l (λ x. next r (λ y. making (join_gates x y on)))) (words_of_both a a') (words_of_both b b') (tops ++ tops')
  join_feeds l r a b a' b' tops tops' on fl fr = record {
    takes = λ taken n long.
        let i : ℕ = taken.segments in
        let t : Taken = (l taken n).result.1 in
        let left = fl.takes taken n (long_left i tops tops' long) in
        let at : t.segments ≡ i + length tops = left.after in
        let right = fr.takes t (n + length (l taken n).gates) (subst (λ (k : ℕ). SegmentsLong k tops') (sym at) (long_right i tops tops' long)) in
        takes_as (takes_join l r (λ x y. join_gates x y on) (λ x y. quiet_join x y on) taken n left right) (both_long a a' i t.segments (at ∙ sym (fl.next_a i))) (both_long b b' i t.segments (at ∙ sym (fl.next_b i)))
        (ap (λ k. length (given_at i tops) + length (given_at k tops')) at ∙ sym (given_long i tops tops')) (sym (length-append tops tops'));
    next_a = λ i. fr.next_a (a i).segments ∙ ap (λ k. k + length tops') (fl.next_a i) ∙ omega (arith, length-append tops tops');
    next_b = λ i. fr.next_b (b i).segments ∙ ap (λ k. k + length tops') (fl.next_b i) ∙ omega (arith, length-append tops tops');
  }

  -- ---- a node, by its level
  module _ (n : Node) (own : List Kind) (count : ℕ) (above : Laying PaddedList) (rows_a : Rows) (len_a : ℕ) (below_a : ℕ → OwnRoot) (rows_b : Rows) (len_b : ℕ) (below_b : ℕ → OwnRoot) (tops : List Node) (same : own ≡ kinds schema n) (long_a : len_a ≡ count) (long_b : len_b ≡ count)
      (feeds : Feeds above below_a below_b tops) where
    entered_long : (rows : Rows) (len : ℕ) → len ≡ count → list_words own count ≡ length (entered rows (kinds schema n) len)
    entered_long rows len e = sym (length-encoded (listed [] rows) (kinds schema n) len ∙ ap₂ (λ (ks : List Kind) m. list_words ks m) (sym same) e)

    leveled : (l : Level) → Feeds (by_level l (leaf_list own count) (segment_list (parts_of_slices slices) own) above) (root_by l A schema ta slices n rows_a len_a below_a) (root_by l B schema tb slices n rows_b len_b below_b) (tops_by l n tops)
    leveled level.Local = record {
      takes = λ taken m long. takes_as (takes_leaf own count taken m) (entered_long rows_a len_a long_a) (entered_long rows_b len_b long_b) refl refl;
      next_a = λ i. omega arith;
      next_b = λ i. omega arith;
    }
    leveled level.Sliced = record {
      takes = λ taken m long.
          subst (λ (ks : List Kind). Takes taken (segment_list (parts_of_slices slices) ks taken m) (length (flat_map (slice_words A schema ta n) (get_or slices taken.segments []))) (length (flat_map (slice_words B schema tb n) (get_or slices taken.segments []))) (length (given_at taken.segments (n ∷ []))) 1)
          (sym same) (takes_as (segment_takes n taken m long.0) refl refl (sym (ap (λ (ws : List ℕ). length ws) (append-nil (segment_given slices outputs taken.segments)))) refl);
      next_a = λ i. refl;
      next_b = λ i. refl;
    }
    leveled level.Secure = feeds

    node_feeds : (tl ta' tb' tt' : Node) → tl ≡ n → ta' ≡ n → tb' ≡ n → tt' ≡ n
        → Feeds (rooted schema (parts_of_slices slices) tl own count above).list (root_own A schema ta slices ta' rows_a len_a below_a).words (root_own B schema tb slices tb' rows_b len_b below_b).words (topped schema tt' tops).tops
    node_feeds tl ta' tb' tt' el ea eb et =
        subst (λ (t : Node). Feeds (list t) (own_a ta') (own_b tb') (topped schema tt' tops).tops) (sym el)
        (subst (λ (t : Node). Feeds (list n) (own_a t) (own_b tb') (topped schema tt' tops).tops) (sym ea)
        (subst (λ (t : Node). Feeds (list n) (own_a n) (own_b t) (topped schema tt' tops).tops) (sym eb)
        (subst (λ (t : Node). Feeds (list n) (own_a n) (own_b n) (topped schema t tops).tops) (sym et) (leveled (level_of_node schema n)))))
      where
        list : Node → Laying PaddedList
        list t = (rooted schema (parts_of_slices slices) t own count above).list

        own_a : Node → ℕ → OwnRoot
        own_a t = (root_own A schema ta slices t rows_a len_a below_a).words

        own_b : Node → ℕ → OwnRoot
        own_b t = (root_own B schema tb slices t rows_b len_b below_b).words

  -- ---- what is known of a tree, side by side
  record Fed : Type 0 where
    laid : Rooted
    a : RootRows
    b : RootRows
    topped : Topped
    fit : Shape

  abbrev step : Node-F Fed → Fed
  step y = record {
    laid = root_step schema (parts_of_slices slices) (map-Node Fed Rooted (λ (p : Fed). p.laid) y);
    a = root_words_step A schema ta slices (map-Node Fed RootRows (λ (p : Fed). p.a) y);
    b = root_words_step B schema tb slices (map-Node Fed RootRows (λ (p : Fed). p.b) y);
    topped = topped_step schema (map-Node Fed Topped (λ (p : Fed). p.topped) y);
    fit = shape_step schema (map-Node Fed Shape (λ (p : Fed). p.fit) y);
  }

  abbrev parts : Node → Fed
  parts = fold-Node Fed step

  record Good (n : Node) (p : Fed) : Type 0 where
    tree : p.laid.tree ≡ n
    tree_a : p.a.tree ≡ n
    tree_b : p.b.tree ≡ n
    tree_topped : p.topped.tree ≡ n
    columns : p.laid.kinds ≡ p.fit.kinds
    len_a : p.a.len ≡ p.laid.rows
    len_b : p.b.len ≡ p.laid.rows
    feeds : Feeds p.laid.list p.a.words p.b.words p.topped.tops

  seen : {Y : Type 0} (step' : Node-F Y → Y) (f : Fed → Y) → ((y : Node-F Fed) → f (step y) ≡ step' (map-Node Fed Y f y)) → (n : Node) → f (parts n) ≡ fold-Node Y step' n
  seen step' f at_step n = fold_seen step step' f at_step n

  fits : (x : Node-F Node) → (step (map-Node Node Fed parts x)).fit.kinds ≡ kinds schema (roll-Node x)
  fits x = ap (λ (p : Fed). p.fit.kinds) (sym (fold-roll-Node Fed step x)) ∙ ap (λ (s : Shape). s.kinds) (seen (shape_step schema) (λ (p : Fed). p.fit) (λ z. refl) (roll-Node x))

  -- a node over one other
  unary : (c : Node) (C : Fed) → Good c C → (n : Node) (wrap : Node → Node) → wrap c ≡ n → (own : List Kind) (count : ℕ) (gates : PaddedList → Making PaddedList) (rows_a : Rows) (len_a : ℕ) (rows_b : Rows) (len_b : ℕ) (fit : Shape) → ((l : PaddedList) → Quiet (gates l)) → own ≡ fit.kinds
      → fit.kinds ≡ kinds schema n → len_a ≡ count → len_b ≡ count → Good n (record {
        laid = rooted schema (parts_of_slices slices) (wrap C.laid.tree) own count (then_gates C.laid.list gates);
        a = root_own A schema ta slices (wrap C.a.tree) rows_a len_a C.a.words;
        b = root_own B schema tb slices (wrap C.b.tree) rows_b len_b C.b.words;
        topped = topped schema (wrap C.topped.tree) C.topped.tops;
        fit = fit;
      })
  unary c C good n wrap w own count gates rows_a len_a rows_b len_b fit q is known la lb = record {
    tree = ap wrap good.tree ∙ w;
    tree_a = ap wrap good.tree_a ∙ w;
    tree_b = ap wrap good.tree_b ∙ w;
    tree_topped = ap wrap good.tree_topped ∙ w;
    columns = is;
    len_a = la;
    len_b = lb;
    feeds = node_feeds n own count (then_gates C.laid.list gates) rows_a len_a C.a.words rows_b len_b C.b.words C.topped.tops (is ∙ known) la lb (over_feeds C.laid.list C.a.words C.b.words C.topped.tops gates q good.feeds)
        (wrap C.laid.tree) (wrap C.a.tree) (wrap C.b.tree) (wrap C.topped.tree) (ap wrap good.tree ∙ w) (ap wrap good.tree_a ∙ w) (ap wrap good.tree_b ∙ w) (ap wrap good.tree_topped ∙ w);
  }

  abbrev Goods : Node → Type 0
  Goods n = Good n (parts n)

  abbrev plain : Node-F ((n : Node) × Goods n) → Node-F Node
  plain y = map-Node ((n : Node) × Goods n) Node (λ e. e.0) y

  layer : (y : Node-F ((n : Node) × Goods n)) → Good (roll-Node (plain y)) (step (map-Node Node Fed parts (plain y)))
  layer (Node-F.Scan table) =
      let t : node.Scan table ≡ roll-Node (Node-F.Scan table) = sym (rolls-Scan table) in
      let none : Feeds (making (gives (no_rows []))) no_words no_words [] = record { takes = λ taken n long. takes_making (gives (no_rows [])) (quiet_gives (no_rows [])) taken n; next_a = λ i. omega arith; next_b = λ i. omega arith } in
      record {
        tree = t;
        tree_a = t;
        tree_b = t;
        tree_topped = t;
        columns = refl;
        len_a = refl;
        len_b = refl;
        feeds = node_feeds (roll-Node (Node-F.Scan table)) (table_kinds schema table) (table_of schema table).rows (making (gives (no_rows []))) (rows_of ta table) (table_of schema table).rows no_words (rows_of tb table) (table_of schema table).rows no_words [] (fits (Node-F.Scan table)) refl refl none
            (node.Scan table) (node.Scan table) (node.Scan table) (node.Scan table) t t t t;
      }
  layer (Node-F.Filter child condition) =
      let C : Fed = parts child.0 in
      unary child.0 C child.1 (roll-Node (Node-F.Filter child.0 condition)) (λ t. node.Filter t condition) (sym (rolls-Filter child.0 condition)) C.laid.kinds C.laid.rows (λ l. filter_gates l condition) _ C.a.len _ C.b.len (shape_step schema (Node-F.Filter C.fit condition))
      (λ l. quiet_filter l condition) child.1.columns (fits (Node-F.Filter child.0 condition)) child.1.len_a child.1.len_b
  layer (Node-F.Project child columns) =
      let C : Fed = parts child.0 in
      unary child.0 C child.1 (roll-Node (Node-F.Project child.0 columns)) (λ t. node.Project t columns) (sym (rolls-Project child.0 columns)) (map (kind_at C.laid.kinds) columns) C.laid.rows (λ l. gives (projected l columns)) _ C.a.len _ C.b.len (shape_step schema (Node-F.Project C.fit columns))
      (λ l. quiet_gives (projected l columns)) (ap (λ (ks : List Kind). map (kind_at ks) columns) child.1.columns) (fits (Node-F.Project child.0 columns)) child.1.len_a child.1.len_b
  layer (Node-F.Join left right on) =
      let L : Fed = parts left.0 in
      let R : Fed = parts right.0 in
      let w : node.Join left.0 right.0 on ≡ roll-Node (Node-F.Join left.0 right.0 on) = sym (rolls-Join left.0 right.0 on) in
      let both : (x y : Node) → x ≡ left.0 → y ≡ right.0 → node.Join x y on ≡ roll-Node (Node-F.Join left.0 right.0 on) = λ x y e f. ap₂ (λ (s t : Node). node.Join s t on) e f ∙ w in
      let is : L.laid.kinds ++ R.laid.kinds ≡ L.fit.kinds ++ R.fit.kinds = ap₂ (λ (xs ys : List Kind). xs ++ ys) left.1.columns right.1.columns in
      record {
        tree = both _ _ left.1.tree right.1.tree;
        tree_a = both _ _ left.1.tree_a right.1.tree_a;
        tree_b = both _ _ left.1.tree_b right.1.tree_b;
        tree_topped = both _ _ left.1.tree_topped right.1.tree_topped;
        columns = is;
        len_a = refl;
        len_b = refl;
        feeds = node_feeds (roll-Node (Node-F.Join left.0 right.0 on)) (L.laid.kinds ++ R.laid.kinds) 0 (next L.laid.list (λ l. next R.laid.list (λ r. making (join_gates l r on)))) [] 0 (words_of_both L.a.words R.a.words) [] 0 (words_of_both L.b.words R.b.words) (L.topped.tops ++ R.topped.tops)
            (is ∙ fits (Node-F.Join left.0 right.0 on)) refl refl (join_feeds L.laid.list R.laid.list L.a.words L.b.words R.a.words R.b.words L.topped.tops R.topped.tops on left.1.feeds right.1.feeds)
            (node.Join L.laid.tree R.laid.tree on) (node.Join L.a.tree R.a.tree on) (node.Join L.b.tree R.b.tree on) (node.Join L.topped.tree R.topped.tree on) (both _ _ left.1.tree right.1.tree) (both _ _ left.1.tree_a right.1.tree_a) (both _ _ left.1.tree_b right.1.tree_b) (both _ _ left.1.tree_topped right.1.tree_topped);
      }
  layer (Node-F.Group child keys having) =
      let C : Fed = parts child.0 in
      unary child.0 C child.1 (roll-Node (Node-F.Group child.0 keys having)) (λ t. node.Group t keys having) (sym (rolls-Group child.0 keys having)) (counted_kinds C.laid.kinds keys) 0 (λ l. group_gates l keys having) [] 0 [] 0 (shape_step schema (Node-F.Group C.fit keys having))
      (λ l. quiet_group l keys having) (ap (λ (ks : List Kind). counted_kinds ks keys) child.1.columns) (fits (Node-F.Group child.0 keys having)) refl refl
  layer (Node-F.Count child) =
      unary child.0 (parts child.0) child.1 (roll-Node (Node-F.Count child.0)) (λ t. node.Count t) (sym (rolls-Count child.0)) (kind.Int ∷ []) 0 count_gates [] 0 [] 0 (shape_step schema (Node-F.Count (parts child.0).fit)) quiet_count refl (fits (Node-F.Count child.0)) refl refl
  layer (Node-F.Distinct child) =
      let C : Fed = parts child.0 in
      unary child.0 C child.1 (roll-Node (Node-F.Distinct child.0)) (λ t. node.Distinct t) (sym (rolls-Distinct child.0)) C.laid.kinds 0 distinct_gates [] 0 [] 0 (shape_step schema (Node-F.Distinct C.fit)) quiet_distinct child.1.columns (fits (Node-F.Distinct child.0)) refl refl
  layer (Node-F.Number child partition order) =
      let C : Fed = parts child.0 in
      unary child.0 C child.1 (roll-Node (Node-F.Number child.0 partition order)) (λ t. node.Number t partition order) (sym (rolls-Number child.0 partition order)) (C.laid.kinds ++ kind.Int ∷ []) 0 (λ l. number_gates l partition order) [] 0 [] 0 (shape_step schema (Node-F.Number C.fit partition order))
      (λ l. quiet_number l partition order) (ap (λ (ks : List Kind). ks ++ kind.Int ∷ []) child.1.columns) (fits (Node-F.Number child.0 partition order)) refl refl
  layer (Node-F.Top child order limit) =
      let C : Fed = parts child.0 in
      unary child.0 C child.1 (roll-Node (Node-F.Top child.0 order limit)) (λ t. node.Top t order limit) (sym (rolls-Top child.0 order limit)) C.laid.kinds 0 (λ l. top_gates l order limit) [] 0 [] 0 (shape_step schema (Node-F.Top C.fit order limit))
      (λ l. quiet_top l order limit) child.1.columns (fits (Node-F.Top child.0 order limit)) refl refl

  all_good : (n : Node) → Goods n
  all_good = ind-Node Goods (λ x y is.
      subst (λ (p : Fed). Good (roll-Node x) p) (sym (fold-roll-Node Fed step x))
      (subst (λ (z : Node-F Node). Good (roll-Node z) (step (map-Node Node Fed parts z))) is (layer y)))

  -- what the root's list takes
  root_long : (root : Node) → SegmentsLong 0 (segment_tops schema root)
      → Takes nothing (root_list schema (parts_of_slices slices) root nothing 2) (length ((fold-Node RootRows (root_words_step A schema ta slices) root).words 0).words) (length ((fold-Node RootRows (root_words_step B schema tb slices) root).words 0).words)
      (length (given_at 0 (segment_tops schema root))) (length (segment_tops schema root))
  root_long root long =
      let P : Fed = parts root in
      let laid = seen (root_step schema (parts_of_slices slices)) (λ (p : Fed). p.laid) (λ z. refl) root in
      let own_a = seen (root_words_step A schema ta slices) (λ (p : Fed). p.a) (λ z. refl) root in
      let own_b = seen (root_words_step B schema tb slices) (λ (p : Fed). p.b) (λ z. refl) root in
      let tops : P.topped.tops ≡ segment_tops schema root = ap (λ (t : Topped). t.tops) (seen (topped_step schema) (λ (p : Fed). p.topped) (λ z. refl) root) in
      let takes = (all_good root).feeds.takes nothing 2 (subst (λ (ts : List Node). SegmentsLong 0 ts) (sym tops) long) in
      takes_as (subst (λ (r : Rooted). Takes nothing (r.list nothing 2) (length (P.a.words 0).words) (length (P.b.words 0).words) (length (given_at 0 P.topped.tops)) (length P.topped.tops)) laid takes)
      (ap (λ (r : RootRows). length (r.words 0).words) own_a) (ap (λ (r : RootRows). length (r.words 0).words) own_b) (ap (λ (ts : List Node). length (given_at 0 ts)) tops) (ap (λ (ts : List Node). length ts) tops)

-- ---- what the units of a query put out
stand_first : (words : List ℕ) → Stand words 0 words
stand_first words = record { at = λ k h. let e : 0 + k ≡ k = omega arith in ap (slice_index words) e }

no_given : (columns : List Kind) → 0 ≡ list_words columns 0
unfolding words_for
no_given columns = let e : (widths columns + 1) * 0 ≡ 0 = omega arith in sym e

module _ (schema : SchemaModel) (a b : List Rows) (tables_a : AreTables schema a) (tables_b : AreTables schema b) (root : Node) where
  unit_long : (top : Node) → IsTop schema top → (output : Value → List ℕ) (v : Value) (k : UnitKind) → output v ≡ unit_outputs schema a b top v → UnitFits schema top v k → length (given_by output v k) ≡ given_words k (kinds schema top) (unit_len schema top k)
  unit_long top is output v (Plain site) e h = refl
  unit_long top is output v Secure e h =
      let inputs : InputWords = unit_inputs schema a b top v in
      let laying : Laying PaddedList = unit_list schema v top (slice_column schema top) in
      let words : List ℕ = values inputs (net_of false laying).gates in
      let list : PaddedList = (laying nothing 2).result.0 in
      let run = net_means false laying h.1 inputs in
      let law = unit_means schema a b tables_a tables_b v top (slice_column schema top) is.sound is.numbers is.slices h.0 inputs words run.ends nothing (laying nothing 2).result.1 (stand_first inputs.a) (stand_first inputs.b) list run.yields in
      ap length (e ∙ run.outputs) ∙ length-words_out words list law.0.shaped ∙ ap₂ (λ (ks : List Kind) m. list_words ks m) law.0.kinds law.0.len
  unit_long top is output v Root e h = no_given (kinds schema top)

  each_long : (top : Node) → IsTop schema top → (slices : List (List Slice)) (outputs : ℕ → Value → List ℕ) (output : Value → List ℕ) → ((v : Value) → output v ≡ unit_outputs schema a b top v) → (kind : Value → UnitKind) (vs : List Value) → AllByRecursion (λ v. UnitFits schema top v (kind v)) vs
      → AllByRecursion (UnitLong schema a b slices outputs top output) (map (λ v. record { kind = kind v; value = v; len = unit_len schema top (kind v) }) vs)
  each_long top is slices outputs output e kind [] h = tt
  each_long top is slices outputs output e kind (v ∷ vs) h = (unit_long top is output v (kind v) (e v) h.0, each_long top is slices outputs output e kind vs h.1)

  abbrev units_of : Node → List Slice
  units_of top = unit_slices schema top (both_dirs schema a b top)

  segments_long : (before : List (List Slice)) (past tops : List Node) (i : ℕ) → length before ≡ i → length past ≡ i → AllByRecursion (IsTop schema) tops → UnitsFit schema a b tops
      → SegmentsLong schema a b (before ++ map units_of tops) (outputs_of schema a b root (past ++ tops)) i tops
  segments_long before past [] i e f is h = tt
  segments_long before past (top ∷ tops) i e f is h =
      let all : List (List Slice) = before ++ units_of top ∷ map units_of tops in
      let outputs : ℕ → Value → List ℕ = outputs_of schema a b root (past ++ top ∷ tops) in
      let slices : get_or all i [] ≡ units_of top = get_or_at before (units_of top) (map units_of tops) [] i e in
      let here : get_or (past ++ top ∷ tops) i root ≡ top = get_or_at past top tops root i f in
      let own = each_long top is.0 all outputs (outputs i) (λ v. ap (λ (t : Node). unit_outputs schema a b t v) here) (kind_of (both_dirs schema a b top)) (unit_values (both_dirs schema a b top)) h.0 in (
        subst (λ (ss : List Slice). AllByRecursion (UnitLong schema a b all outputs top (outputs i)) ss) (sym slices) own,
        subst (λ (ss : List (List Slice)). SegmentsLong schema a b ss outputs (i + 1) tops) (append_assoc before (units_of top ∷ []) (map units_of tops))
            (subst (λ (ts : List Node). SegmentsLong schema a b ((before ++ units_of top ∷ []) ++ map units_of tops) (outputs_of schema a b root ts) (i + 1) tops) (append_assoc past (top ∷ []) tops)
            (segments_long (before ++ units_of top ∷ []) (past ++ top ∷ []) tops (i + 1) (omega (arith, e, length-append before (units_of top ∷ []))) (omega (arith, f, length-append past (top ∷ []))) is.1 h.1)),
      )

pub root_takes : RootTakes
root_takes schema a b tables_a tables_b root sound numbers fit =
    let tops : List Node = segment_tops schema root in
    let long = segments_long schema a b tables_a tables_b root [] [] tops 0 refl refl (tops_mean schema root sound numbers).1 fit in
    net_takes true (root_list schema (parts_of_slices (slices_of schema a b root)) root) (root_inputs schema a b root) (root_long schema a b (slices_of schema a b root) (outputs_of schema a b root tops) root long) refl refl refl

pub circuits_take : CircuitsTake
circuits_take = record { unit = unit_takes; root = root_takes }
