-- What the root means, by induction on the plan's tree.
use Rattle.std.proofs.Common.{◌≡◌, ℕ, ◌≤◌, nat_lt, Bool, true, false, cond, List, [], ◌∷◌, ◌++◌, length, map, refl, sym, ap, ap₂, ◌∙◌, subst, arith, ltb-true, ltb-false}
use Rattle.std.specs.List.{AllByRecursion}
use Rattle.std.proofs.lemmas.List.{length-map, map-append}
use Rattle.std.proofs.lemmas.List.Elements.{filter-append}
use Rattle.pdn_base.specs.declared.marks.Kind.{Kind}
use Rattle.pdn_base.specs.declared.marks.Kind.TheVariants as kind
use Rattle.pdn_base.specs.declared.site.Site.TheVariants.{A, B}
use Rattle.pdn_base.specs.declared.value.Value.{Value}
use Rattle.pdn_base.specs.declared.value.Value.TheVariants as value
use Rattle.pdn_base.specs.Values.{cut}
use Rattle.pdn_base.specs.Conditions.{meets}
use Rattle.pdn_base.specs.Operators.{Rows, filter_rows, project_rows, join_rows, group_rows, count_rows, distinct_rows, number_rows, top_rows}
use Rattle.pdn_schema.specs.Models.{SchemaModel, table_of}
use Rattle.pdn_schema.specs.Rows.{union}
use Rattle.pdn_tree.specs.declared.node.Node.{Node, Node-F, fold-Node, roll-Node, fold-roll-Node}
use Rattle.pdn_tree.specs.declared.node.Node.TheFolds.{ind-Node, map-Node}
use Rattle.pdn_tree.specs.declared.node.Node.TheVariants.{rolls-Scan, rolls-Filter, rolls-Project, rolls-Join, rolls-Group, rolls-Count, rolls-Distinct, rolls-Number, rolls-Top}
use Rattle.pdn_tree.specs.declared.node.Node.TheVariants as node
use Rattle.pdn_tree.specs.Meaning.{mean, mean_step}
use Rattle.pdn_tree.specs.Meaning.{table_of as rows_of}
use Rattle.pdn_tree.specs.Shapes.{Shape, shape, shape_step, kinds, kind_at}
use Rattle.pdn_circuit.specs.Gates.{InputWords}
use Rattle.pdn_circuit.specs.Blocks.{Making, gives}
use Rattle.pdn_circuit.specs.Plain.{Yields, Ends}
use Rattle.pdn_circuit.proofs.PlainLaws.{yields-gives}
use Rattle.pdn_obl_rows.specs.Lists.{PaddedList}
use Rattle.pdn_obl_rows.specs.Encoding.{RowIsOf, Stand}
use Rattle.pdn_obl_rows.specs.Operators.{filter_gates, projected, join_gates}
use Rattle.pdn_obl_group.specs.Operators.{distinct_gates, group_gates, count_gates}
use Rattle.pdn_obl_group.proofs.CutLaws.{cut_kinds}
use Rattle.pdn_obl_rank.specs.Numbers.{number_gates}
use Rattle.pdn_obl_rank.specs.Tops.{top_gates}
use Rattle.pdn_level.specs.declared.staged.Level.{Level}
use Rattle.pdn_level.specs.declared.staged.Level.TheVariants as level
use Rattle.pdn_level.specs.Levels.{Survey, survey_step, kept_level}
use Rattle.pdn_level.proofs.Lists.{both_true, get_or-past}
use Rattle.pdn_site.specs.Laying.{Taken, nothing, making, next}
use Rattle.pdn_site.specs.Circuits.{Rooted, root_step, root_list, then_gates, no_rows, table_kinds, counted_kinds}
use Rattle.pdn_site.specs.Compiling.{RootLists, alone, over_len, over_both, same_len, one_row, root_sizes_step, root_sizes}
use Rattle.pdn_site.specs.SiteRows.{Slice, RootRows, no_words, words_of_both, root_words_step, root_words}
use Rattle.pdn_site.specs.Meaning.{AreTables, Holds, numbers_fit, numbers_step}
use Rattle.pdn_site.specs.RootMeaning.{Topped, topped_step, segment_tops, parts_of_slices, SegmentsGive, given_from, RootMeans}
use Rattle.pdn_site.proofs.RowLists.{all_filter, all_map, to_all}
use Rattle.pdn_site.proofs.FitLaws.{cond_ok, within_ok, order_ok, having_ok, limit_ok}
use Rattle.pdn_site.proofs.Folding.{fold_seen}
use Rattle.pdn_site.proofs.Stages.{Staged, unpinned, free, filter_staged, project_staged, join_staged, distinct_staged, group_staged, count_staged, number_staged, top_staged}
use Rattle.pdn_site.proofs.UnitLaws.{few_filtered}
use Rattle.pdn_site.proofs.RootPieces.{IsRootLeaf, over_is, join_is}
use Rattle.pdn_site.proofs.RootNodes.{RootParts, root_parts_step, piece_of, HasLeaf, RootGood, Known, node_of, node_good}

-- ---- levels
not_local : (b : Bool) → cond b level.Sliced level.Secure ≡ level.Local → ⊥
not_local true e = absurd cc
not_local false e = absurd cc

kept_local : (slices : List Bool) (l : Level) → kept_level slices l ≡ level.Local → l ≡ level.Local
kept_local slices level.Local e = refl
kept_local slices level.Sliced e = absurd (not_local _ e)
kept_local slices level.Secure e = absurd (not_local _ e)

-- ---- leaves
part_leaf : (columns columns' : List Kind) (count : ℕ) (rows rows_a rows_b : Rows) (f : Rows → Rows) → ((xs ys : Rows) → f (xs ++ ys) ≡ f xs ++ f ys) → ((xs : Rows) → length (f xs) ≤ length xs)
    → ((xs : Rows) → AllByRecursion (RowIsOf columns) xs → AllByRecursion (RowIsOf columns') (f xs)) → IsRootLeaf columns count rows rows_a rows_b → IsRootLeaf columns' count (f rows) (f rows_a) (f rows_b)
part_leaf columns columns' count rows rows_a rows_b f append few of is = record {
  both = ap f is.both ∙ append rows_a rows_b;
  of_a = of rows_a is.of_a;
  of_b = of rows_b is.of_b;
  few_a = omega (arith, few rows_a, is.few_a);
  few_b = omega (arith, few rows_b, is.few_b);
}

table_few : (schema : SchemaModel) (tables : List Rows) → AreTables schema tables → (table : ℕ) → length (rows_of tables table) ≤ (table_of schema table).rows
table_few schema tables are table = by (nat_lt table (length schema.tables)) refl
  where
    by : (b : Bool) → nat_lt table (length schema.tables) ≡ b → length (rows_of tables table) ≤ (table_of schema table).rows
    by true e = (are.valid.each table (ltb-true table (length schema.tables) e)).few
    by false e = omega (arith, ap (λ (rows : Rows). length rows) (get_or-past tables [] table (omega (arith, are.valid.count, ltb-false table (length schema.tables) e))))

module _ (inputs : InputWords) (words : List ℕ) (ends : Ends words) (schema : SchemaModel) (ta tb : List Rows) (tables_a : AreTables schema ta) (tables_b : AreTables schema tb) (slices : List (List Slice)) (outputs : ℕ → Value → List ℕ) where
  abbrev step : Node-F RootParts → RootParts
  step = root_parts_step schema ta tb slices

  abbrev parts : Node → RootParts
  parts = fold-Node RootParts step

  abbrev Good : Node → RootParts → Type 0
  Good n p = RootGood inputs words ends schema ta tb slices outputs n p

  abbrev GoodAs : Node → RootParts → Type 0
  GoodAs n p = p.fit.sound ≡ true → p.number ≡ true → Good n p

  abbrev Knows : Node → RootParts → Type 0
  Knows n p = Known inputs words ends schema ta tb slices outputs n p

  -- ---- what each part of a tree is
  seen : {Y : Type 0} (step' : Node-F Y → Y) (f : RootParts → Y) → ((y : Node-F RootParts) → f (step y) ≡ step' (map-Node RootParts Y f y)) → (n : Node) → f (parts n) ≡ fold-Node Y step' n
  seen step' f at_step n = fold_seen step step' f at_step n

  rolled : {Y : Type 0} (step' : Node-F Y → Y) (f : RootParts → Y) → ((y : Node-F RootParts) → f (step y) ≡ step' (map-Node RootParts Y f y)) → (x : Node-F Node) → fold-Node Y step' (roll-Node x) ≡ f (step (map-Node Node RootParts parts x))
  rolled step' f at_step x = sym (seen step' f at_step (roll-Node x)) ∙ ap f (fold-roll-Node RootParts step x)

  knows : (x : Node-F Node) → Knows (roll-Node x) (step (map-Node Node RootParts parts x))
  knows x = record {
    level = ap (λ (s : Survey). s.level) (rolled (survey_step schema) (λ (p : RootParts). p.survey) (λ z. refl) x);
    kinds = ap (λ (s : Shape). s.kinds) (rolled (shape_step schema) (λ (p : RootParts). p.fit) (λ z. refl) x);
    rows = rolled (mean_step (union ta tb)) (λ (p : RootParts). p.rows) (λ z. refl) x;
  }

  -- ---- a node over one other
  unary_good : (c : Node) (C : RootParts) → Good c C → (n : Node) (wrap : Node → Node) → wrap c ≡ n → (ks : List Kind) (count : ℕ) (gates : PaddedList → Making PaddedList) (len : ℕ → ℕ) (rows_a : Rows) (len_a : ℕ) (rows_b : Rows) (len_b : ℕ) (count' : ℕ) (rows : Rows) (fit : Shape) (number : Bool) (s : Survey)
      → ks ≡ fit.kinds
      → Knows n (node_of inputs words ends schema ta tb slices outputs (wrap C.laid.tree) (wrap C.a.tree) (wrap C.b.tree) (wrap C.sized.tree) (wrap C.topped.tree) ks count (then_gates C.laid.list gates) rows_a len_a C.a.words rows_b len_b C.b.words count' (over_len len C.sized.lists) C.topped.tops rows fit number s)
      → (s.level ≡ level.Local → HasLeaf (node_of inputs words ends schema ta tb slices outputs (wrap C.laid.tree) (wrap C.a.tree) (wrap C.b.tree) (wrap C.sized.tree) (wrap C.topped.tree) ks count (then_gates C.laid.list gates) rows_a len_a C.a.words rows_b len_b C.b.words count' (over_len len C.sized.lists) C.topped.tops rows fit number s))
      → ((m : ℕ) → m ≤ 4096 → (list out : PaddedList) → Holds words list C.fit.kinds m C.rows → Yields inputs words (gates list) out → Holds words out fit.kinds (len m) rows)
      → Good n (node_of inputs words ends schema ta tb slices outputs (wrap C.laid.tree) (wrap C.a.tree) (wrap C.b.tree) (wrap C.sized.tree) (wrap C.topped.tree) ks count (then_gates C.laid.list gates) rows_a len_a C.a.words rows_b len_b C.b.words count' (over_len len C.sized.lists) C.topped.tops rows fit number s)
  unary_good c C good n wrap w ks count gates len rows_a len_a rows_b len_b count' rows fit number s ek known leaf op =
      let t = good.trees in
      node_good inputs words ends schema ta tb slices outputs n ks count (then_gates C.laid.list gates) rows_a len_a C.a.words rows_b len_b C.b.words count' (over_len len C.sized.lists) C.topped.tops rows fit number s
      (wrap C.laid.tree) (wrap C.a.tree) (wrap C.b.tree) (wrap C.sized.tree) (wrap C.topped.tree) (ap wrap t.laid ∙ w) (ap wrap t.a ∙ w) (ap wrap t.b ∙ w) (ap wrap t.sized ∙ w) (ap wrap t.topped ∙ w)
      ek known leaf (λ e. over_is inputs words ends schema ta tb slices outputs (piece_of C) fit.kinds rows gates len good.piece op)

  abbrev any : Value
  any = value.Int 0

  -- a list of which nothing is pinned
  loose : (list : PaddedList) (columns : List Kind) (m : ℕ) (rows : Rows) → Holds words list columns m rows → Staged words list columns m (unpinned columns) any rows
  loose list columns m rows h = free words list columns m any rows h

  -- ---- the induction
  abbrev Goods : Node → Type 0
  Goods n = GoodAs n (parts n)

  abbrev plain : Node-F ((n : Node) × Goods n) → Node-F Node
  plain y = map-Node ((n : Node) × Goods n) Node (λ e. e.0) y

  layer : (y : Node-F ((n : Node) × Goods n)) → GoodAs (roll-Node (plain y)) (step (map-Node Node RootParts parts (plain y)))
  layer (Node-F.Scan table) sound number =
      let t : node.Scan table ≡ roll-Node (Node-F.Scan table) = sym (rolls-Scan table) in
      let is : IsRootLeaf (table_kinds schema table) (table_of schema table).rows (union ta tb table) (rows_of ta table) (rows_of tb table) = record {
        both = refl;
        of_a = to_all (table_kinds schema table) (rows_of ta table) (tables_a.of table);
        of_b = to_all (table_kinds schema table) (rows_of tb table) (tables_b.of table);
        few_a = table_few schema ta tables_a table;
        few_b = table_few schema tb tables_b table;
      } in
      node_good inputs words ends schema ta tb slices outputs (roll-Node (Node-F.Scan table)) (table_kinds schema table) (table_of schema table).rows (making (gives (no_rows []))) (rows_of ta table) (table_of schema table).rows no_words
      (rows_of tb table) (table_of schema table).rows no_words (table_of schema table).rows (alone 0) [] (union ta tb table) (shape_step schema (Node-F.Scan table)) true (survey_step schema (Node-F.Scan table))
      (node.Scan table) (node.Scan table) (node.Scan table) (node.Scan table) (node.Scan table) t t t t t refl (knows (Node-F.Scan table))
      (λ e. record { leaf = is; len_a = refl; len_b = refl; sized = refl }) (λ e. absurd (local_secure e))
    where
      local_secure : level.Local ≡ level.Secure → ⊥
      local_secure e = absurd cc
  layer (Node-F.Filter child condition) sound number =
      let C : RootParts = parts child.0 in
      let fits = both_true _ _ (both_true _ _ sound).0 in
      let numbers = both_true _ _ number in
      let good = child.1 fits.0 numbers.0 in
      unary_good child.0 C good (roll-Node (Node-F.Filter child.0 condition)) (λ t. node.Filter t condition) (sym (rolls-Filter child.0 condition)) C.laid.kinds C.laid.rows (λ l. filter_gates l condition) same_len
      (filter_rows condition C.a.rows) C.a.len (filter_rows condition C.b.rows) C.b.len C.sized.rows (filter_rows condition C.rows) (shape_step schema (Node-F.Filter C.fit condition)) (numbers_step (Node-F.Filter C.number condition)) (survey_step schema (Node-F.Filter C.survey condition))
      good.kinds (knows (Node-F.Filter child.0 condition))
      (λ e.
      let has = good.leaf (kept_local (survey_step schema (Node-F.Filter C.survey condition)).track.slices C.survey.level e) in
      record {
        leaf = part_leaf C.fit.kinds C.fit.kinds C.laid.rows C.rows C.a.rows C.b.rows (filter_rows condition) (filter-append (meets condition)) (few_filtered (meets condition)) (λ xs h. all_filter (RowIsOf C.fit.kinds) (meets condition) xs h) has.leaf;
        len_a = has.len_a;
        len_b = has.len_b;
        sized = has.sized;
      })
      (λ m few list out h y.
      let stage = filter_staged inputs words ends list C.fit.kinds m (unpinned C.fit.kinds) any C.rows (loose list C.fit.kinds m C.rows h) condition (cond_ok C.fit.kinds condition fits.1 numbers.1) out y in
      stage.holds)
  layer (Node-F.Project child columns) sound number =
      let C : RootParts = parts child.0 in
      let fits = both_true _ _ (both_true _ _ sound).0 in
      let good = child.1 fits.0 number in
      let there = within_ok C.fit.kinds columns fits.1 in
      unary_good child.0 C good (roll-Node (Node-F.Project child.0 columns)) (λ t. node.Project t columns) (sym (rolls-Project child.0 columns)) (map (kind_at C.laid.kinds) columns) C.laid.rows (λ l. gives (projected l columns)) same_len
      (project_rows columns C.a.rows) C.a.len (project_rows columns C.b.rows) C.b.len C.sized.rows (project_rows columns C.rows) (shape_step schema (Node-F.Project C.fit columns)) (numbers_step (Node-F.Project C.number columns)) (survey_step schema (Node-F.Project C.survey columns))
      (ap (λ (ks : List Kind). map (kind_at ks) columns) good.kinds) (knows (Node-F.Project child.0 columns))
      (λ e.
      let has = good.leaf (kept_local (survey_step schema (Node-F.Project C.survey columns)).track.slices C.survey.level e) in
      record {
        leaf = part_leaf C.fit.kinds (map (kind_at C.fit.kinds) columns) C.laid.rows C.rows C.a.rows C.b.rows (project_rows columns) (map-append (cut columns)) (λ xs. omega (arith, length-map xs (cut columns)))
            (λ xs h. all_map (RowIsOf C.fit.kinds) (RowIsOf (map (kind_at C.fit.kinds) columns)) (cut columns) (λ row r. cut_kinds C.fit.kinds row columns r there) xs h) has.leaf;
        len_a = has.len_a;
        len_b = has.len_b;
        sized = has.sized;
      })
      (λ m few list out h y.
      let stage = project_staged inputs words ends list C.fit.kinds m (unpinned C.fit.kinds) any C.rows (loose list C.fit.kinds m C.rows h) columns there in
      subst (λ (o : PaddedList). Holds words o (map (kind_at C.fit.kinds) columns) m (project_rows columns C.rows)) (sym (yields-gives _ y)) stage.holds)
  layer (Node-F.Join left right on) sound number =
      let L : RootParts = parts left.0 in
      let R : RootParts = parts right.0 in
      let fits = both_true _ _ (both_true _ _ sound).0 in
      let sides = both_true _ _ fits.0 in
      let numbers = both_true _ _ number in
      let each = both_true _ _ numbers.0 in
      let gl = left.1 sides.0 each.0 in
      let gr = right.1 sides.1 each.1 in
      let w : node.Join left.0 right.0 on ≡ roll-Node (Node-F.Join left.0 right.0 on) = sym (rolls-Join left.0 right.0 on) in
      let both : (x y : Node) → x ≡ left.0 → y ≡ right.0 → node.Join x y on ≡ roll-Node (Node-F.Join left.0 right.0 on) = λ x y e f. ap₂ (λ (s t : Node). node.Join s t on) e f ∙ w in
      let tl = gl.trees in
      let tr = gr.trees in
      node_good inputs words ends schema ta tb slices outputs (roll-Node (Node-F.Join left.0 right.0 on)) (L.laid.kinds ++ R.laid.kinds) 0 (next L.laid.list (λ l. next R.laid.list (λ r. making (join_gates l r on)))) [] 0 (words_of_both L.a.words R.a.words)
      [] 0 (words_of_both L.b.words R.b.words) 0 (over_both L.sized.lists R.sized.lists) (L.topped.tops ++ R.topped.tops) (join_rows on L.rows R.rows) (shape_step schema (Node-F.Join L.fit R.fit on)) (numbers_step (Node-F.Join L.number R.number on)) (survey_step schema (Node-F.Join L.survey R.survey on))
      (node.Join L.laid.tree R.laid.tree on) (node.Join L.a.tree R.a.tree on) (node.Join L.b.tree R.b.tree on) (node.Join L.sized.tree R.sized.tree on) (node.Join L.topped.tree R.topped.tree on)
      (both _ _ tl.laid tr.laid) (both _ _ tl.a tr.a) (both _ _ tl.b tr.b) (both _ _ tl.sized tr.sized) (both _ _ tl.topped tr.topped)
      (ap₂ (λ (xs ys : List Kind). xs ++ ys) gl.kinds gr.kinds) (knows (Node-F.Join left.0 right.0 on)) (λ e. absurd (not_local _ e))
      (λ e. join_is inputs words ends schema ta tb slices outputs (piece_of L) (piece_of R) on gl.piece gr.piece
      (λ m n l r out h k y.
      let stage = join_staged inputs words ends l L.fit.kinds m (unpinned L.fit.kinds) any L.rows (loose l L.fit.kinds m L.rows h) r R.fit.kinds n (unpinned R.fit.kinds) R.rows (loose r R.fit.kinds n R.rows k) on (cond_ok (L.fit.kinds ++ R.fit.kinds) on fits.1 numbers.1) out y in
      stage.holds))
  layer (Node-F.Group child keys having) sound number =
      let C : RootParts = parts child.0 in
      let fits = both_true _ _ (both_true _ _ (both_true _ _ sound).0).0 in
      let numbers = both_true _ _ number in
      let good = child.1 fits.0 numbers.0 in
      unary_good child.0 C good (roll-Node (Node-F.Group child.0 keys having)) (λ t. node.Group t keys having) (sym (rolls-Group child.0 keys having)) (counted_kinds C.laid.kinds keys) 0 (λ l. group_gates l keys having) same_len [] 0 [] 0 0
      (group_rows keys having C.rows) (shape_step schema (Node-F.Group C.fit keys having)) (numbers_step (Node-F.Group C.number keys having)) (survey_step schema (Node-F.Group C.survey keys having))
      (ap (λ (ks : List Kind). map (kind_at ks) keys ++ kind.Int ∷ []) good.kinds) (knows (Node-F.Group child.0 keys having)) (λ e. absurd (not_local _ e))
      (λ m few list out h y.
      let stage = group_staged inputs words ends list C.fit.kinds m (unpinned C.fit.kinds) any C.rows (loose list C.fit.kinds m C.rows h) keys having few (within_ok C.fit.kinds keys fits.1) (having_ok having numbers.1) out y in
      stage.holds)
  layer (Node-F.Count child) sound number =
      let C : RootParts = parts child.0 in
      let fits = both_true _ _ (both_true _ _ sound).0 in
      let good = child.1 fits.0 number in
      unary_good child.0 C good (roll-Node (Node-F.Count child.0)) (λ t. node.Count t) (sym (rolls-Count child.0)) (kind.Int ∷ []) 0 count_gates one_row [] 0 [] 0 0
      (count_rows C.rows) (shape_step schema (Node-F.Count C.fit)) (numbers_step (Node-F.Count C.number)) (survey_step schema (Node-F.Count C.survey)) refl (knows (Node-F.Count child.0)) (λ e. absurd (not_local false e))
      (λ m few list out h y.
      let stage = count_staged inputs words ends list C.fit.kinds m (unpinned C.fit.kinds) any C.rows (loose list C.fit.kinds m C.rows h) few out y in
      stage.holds)
  layer (Node-F.Distinct child) sound number =
      let C : RootParts = parts child.0 in
      let good = child.1 (both_true _ _ sound).0 number in
      unary_good child.0 C good (roll-Node (Node-F.Distinct child.0)) (λ t. node.Distinct t) (sym (rolls-Distinct child.0)) C.laid.kinds 0 distinct_gates same_len [] 0 [] 0 0
      (distinct_rows C.rows) (shape_step schema (Node-F.Distinct C.fit)) (numbers_step (Node-F.Distinct C.number)) (survey_step schema (Node-F.Distinct C.survey)) good.kinds (knows (Node-F.Distinct child.0)) (λ e. absurd (not_local _ e))
      (λ m few list out h y.
      let stage = distinct_staged inputs words ends list C.fit.kinds m (unpinned C.fit.kinds) any C.rows (loose list C.fit.kinds m C.rows h) out y in
      stage.holds)
  layer (Node-F.Number child partition order) sound number =
      let C : RootParts = parts child.0 in
      let fits = both_true _ _ (both_true _ _ (both_true _ _ sound).0).0 in
      let good = child.1 fits.0 number in
      unary_good child.0 C good (roll-Node (Node-F.Number child.0 partition order)) (λ t. node.Number t partition order) (sym (rolls-Number child.0 partition order)) (C.laid.kinds ++ kind.Int ∷ []) 0 (λ l. number_gates l partition order) same_len [] 0 [] 0 0
      (number_rows partition order C.rows) (shape_step schema (Node-F.Number C.fit partition order)) (numbers_step (Node-F.Number C.number partition order)) (survey_step schema (Node-F.Number C.survey partition order))
      (ap (λ (ks : List Kind). ks ++ kind.Int ∷ []) good.kinds) (knows (Node-F.Number child.0 partition order)) (λ e. absurd (not_local _ e))
      (λ m few list out h y.
      let stage = number_staged inputs words ends list C.fit.kinds m (unpinned C.fit.kinds) any C.rows (loose list C.fit.kinds m C.rows h) partition order few (order_ok C.fit.kinds partition order fits.1) out y in
      stage.holds)
  layer (Node-F.Top child order limit) sound number =
      let C : RootParts = parts child.0 in
      let fits = both_true _ _ (both_true _ _ sound).0 in
      let numbers = both_true _ _ number in
      let good = child.1 fits.0 numbers.0 in
      unary_good child.0 C good (roll-Node (Node-F.Top child.0 order limit)) (λ t. node.Top t order limit) (sym (rolls-Top child.0 order limit)) C.laid.kinds 0 (λ l. top_gates l order limit) same_len [] 0 [] 0 0
      (top_rows order limit C.rows) (shape_step schema (Node-F.Top C.fit order limit)) (numbers_step (Node-F.Top C.number order limit)) (survey_step schema (Node-F.Top C.survey order limit))
      good.kinds (knows (Node-F.Top child.0 order limit)) (λ e. absurd (not_local _ e))
      (λ m few list out h y.
      let stage = top_staged inputs words ends list C.fit.kinds m (unpinned C.fit.kinds) any C.rows (loose list C.fit.kinds m C.rows h) order limit few (order_ok C.fit.kinds [] order fits.1) (limit_ok limit numbers.1) out y in
      stage.holds)

  all_good : (n : Node) → Goods n
  all_good = ind-Node Goods (λ x y is.
      subst (λ (p : RootParts). GoodAs (roll-Node x) p) (sym (fold-roll-Node RootParts step x))
      (subst (λ (z : Node-F Node). GoodAs (roll-Node z) (step (map-Node Node RootParts parts z))) is (layer y)))

  pub root_holds : (root : Node) → (shape schema root).sound ≡ true → numbers_fit root ≡ true → SegmentsGive schema ta tb slices outputs 0 (segment_tops schema root) → (root_sizes schema (parts_of_slices slices) root).longest ≤ 4096
      → Stand inputs.a 0 (root_words A schema ta slices root) → Stand inputs.b 0 (root_words B schema tb slices root) → Stand inputs.given 0 (given_from slices outputs 0 (segment_tops schema root))
      → (list : PaddedList) (after : Taken) → Yields inputs words (root_list schema (parts_of_slices slices) root nothing) (list, after)
      → Holds words list (kinds schema root) (root_sizes schema (parts_of_slices slices) root).len (mean (union ta tb) root)
  root_holds root sound numbers give few sa sb sg list after y =
      let P : RootParts = parts root in
      let laid = seen (root_step schema (parts_of_slices slices)) (λ (p : RootParts). p.laid) (λ z. refl) root in
      let own_a = seen (root_words_step A schema ta slices) (λ (p : RootParts). p.a) (λ z. refl) root in
      let own_b = seen (root_words_step B schema tb slices) (λ (p : RootParts). p.b) (λ z. refl) root in
      let sized = seen (root_sizes_step schema (parts_of_slices slices)) (λ (p : RootParts). p.sized) (λ z. refl) root in
      let tops : P.topped.tops ≡ segment_tops schema root = ap (λ (t : Topped). t.tops) (seen (topped_step schema) (λ (p : RootParts). p.topped) (λ z. refl) root) in
      let rows = seen (mean_step (union ta tb)) (λ (p : RootParts). p.rows) (λ z. refl) root in
      let fit = seen (shape_step schema) (λ (p : RootParts). p.fit) (λ z. refl) root in
      let number = seen numbers_step (λ (p : RootParts). p.number) (λ z. refl) root in
      let good = all_good root (ap (λ (s : Shape). s.sound) fit ∙ sound) (number ∙ numbers) in
      let piece = good.piece in
      let result = piece.meant nothing after list (subst (λ (z : RootLists). (z.lists 0).longest ≤ 4096) (sym sized) few)
      (subst (λ (ts : List Node). SegmentsGive schema ta tb slices outputs 0 ts) (sym tops) give)
      (subst (λ (r : RootRows). Stand inputs.a 0 (r.words 0).words) (sym own_a) sa) (subst (λ (r : RootRows). Stand inputs.b 0 (r.words 0).words) (sym own_b) sb)
      (subst (λ (ts : List Node). Stand inputs.given 0 (given_from slices outputs 0 ts)) (sym tops) sg)
      (subst (λ (r : Rooted). Yields inputs words (r.list nothing) (list, after)) (sym laid) y) in
      subst (λ (rs : Rows). Holds words list (kinds schema root) (root_sizes schema (parts_of_slices slices) root).len rs) rows
      (subst (λ (s : Shape). Holds words list s.kinds (root_sizes schema (parts_of_slices slices) root).len P.rows) fit
      (subst (λ (z : RootLists). Holds words list P.fit.kinds (z.lists 0).len P.rows) sized result.0))

pub root_means : RootMeans
root_means schema a b are_a are_b root sound numbers slices outputs give few inputs words ends sa sb sg list after y = root_holds inputs words ends schema a b are_a are_b slices outputs root sound numbers give few sa sb sg list after y
