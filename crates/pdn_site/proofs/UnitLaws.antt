-- What a secure unit means, by induction on its tree.
use Rattle.std.proofs.Common.{◌≡◌, ℕ, ◌+◌, ◌≤◌, ◌<◌, ◌==◌, Bool, true, false, ◌&&◌, cond, List, [], ◌∷◌, ◌++◌, length, get_or, map, filter, refl, sym, ap, ap₂, ◌∙◌, subst, arith, length-append, eqb-true, Option}
use Rattle.std.specs.List.{AllByRecursion, list_any, range_with_len}
use Rattle.std.proofs.lemmas.List.{length-map, map-append}
use Rattle.std.proofs.lemmas.List.Elements.{filter-append}
use Rattle.std.proofs.lemmas.List.FromFn.{length-range_with_len}
use Rattle.std.proofs.lemmas.List.Sums.{length-filter, count_by-le-length}
use Rattle.pdn_base.specs.declared.marks.Kind.{Kind}
use Rattle.pdn_base.specs.declared.marks.Kind.TheVariants as kind
use Rattle.pdn_base.specs.declared.value.Value.{Value}
use Rattle.pdn_base.specs.declared.order.Key.{Key}
use Rattle.pdn_base.specs.declared.cond.Cmp.{Cmp}
use Rattle.pdn_base.specs.Values.{cell, cut}
use Rattle.pdn_base.specs.Conditions.{meets}
use Rattle.pdn_base.specs.Operators.{Rows, filter_rows, project_rows, group_rows, distinct_rows, number_rows}
use Rattle.pdn_base.proofs.RowLaws.{value_cmp-ties, is_eq-tie}
use Rattle.pdn_schema.specs.Models.{SchemaModel}
use Rattle.pdn_schema.specs.Rows.{union}
use Rattle.pdn_tree.specs.declared.node.Node.{Node, Node-F, roll-Node, fold-roll-Node}
use Rattle.pdn_tree.specs.declared.node.Node.TheFolds.{ind-Node, map-Node}
use Rattle.pdn_tree.specs.Meaning.{mean_step}
use Rattle.pdn_tree.specs.Meaning.{table_of as rows_of}
use Rattle.pdn_tree.specs.Columns.{has}
use Rattle.pdn_tree.specs.Shapes.{is_public, Shape, shape, shape_step, kinds, kind_at, table_columns}
use Rattle.pdn_circuit.specs.Gates.{InputWords}
use Rattle.pdn_circuit.specs.Plain.{Yields, Ends}
use Rattle.pdn_circuit.proofs.PlainLaws.{yields-gives}
use Rattle.pdn_obl_rows.specs.Lists.{PaddedList}
use Rattle.pdn_obl_rows.specs.Encoding.{RowIsOf, Stand}
use Rattle.pdn_obl_rows.specs.Conditions.{CondFits}
use Rattle.pdn_obl_group.specs.Means.{HavingFits}
use Rattle.pdn_obl_rank.specs.Keys.{KeysFit}
use Rattle.pdn_circuit.specs.Blocks.{gives}
use Rattle.pdn_obl_rows.specs.Operators.{filter_gates, projected}
use Rattle.pdn_obl_rank.specs.Numbers.{number_gates}
use Rattle.pdn_level.specs.declared.staged.Leaf.{Leaf}
use Rattle.pdn_level.specs.Links.{slice_at, links, names_column, link_at}
use Rattle.pdn_level.specs.Slices.{Followed, followed, followed_step, slices}
use Rattle.pdn_level.specs.Cutting.{same_value, at, mean_at}
use Rattle.pdn_level.specs.Padding.{Padding, padding_step}
use Rattle.pdn_level.proofs.Lists.{both_true}
use Rattle.pdn_level.proofs.LinkLaws.{link_links}
use Rattle.pdn_level.proofs.Soundness.{slice_map, slice_range, slice_front, slice_none}
use Rattle.pdn_level.proofs.Tracks.{followed_slices}
use Rattle.pdn_level.proofs.TableBounds.{site_few}
use Rattle.pdn_site.specs.Laying.{Taken}
use Rattle.pdn_site.specs.Lists.{Sized, sized, sized_leaf, sized_step}
use Rattle.pdn_site.specs.Circuits.{table_kinds, Laid, laid_leaf, laid_step, all_pinned, grouped_gates, once_gates, cut_by, unit_list}
use Rattle.pdn_site.specs.SiteRows.{own_leaf, own_step, words_below, unit_words}
use Rattle.pdn_site.specs.Meaning.{AreTables, Holds, numbers_fit, numbers_step, past, UnitMeans}
use Rattle.pdn_site.proofs.RowLists.{to_all}
use Rattle.pdn_site.proofs.FitLaws.{cond_ok, within_ok, order_ok, having_ok}
use Rattle.pdn_site.proofs.Following.{followed_at}
use Rattle.pdn_site.proofs.Fitting.{IsFit, AreFit, fit_filter, fit_project}
use Rattle.pdn_site.proofs.Stages.{Staged, filter_staged, project_staged, distinct_staged, cut_distinct_staged, group_staged, cut_group_staged, number_staged}
use Rattle.pdn_site.proofs.UnitParts.{Parts, parts_leaf, parts_step, IsLeaf, Good, ByRow, leaf_meant, part_good, over_good, join_good}

-- ---- a table's rows with the value
pinned_column : (n s k : ℕ) → slice_at (map (λ c. c == s) (range_with_len 0 n)) k ≡ true → k ≡ s
pinned_column n s k h = eqb-true k s (slice_range (λ c. c == s) n k h).1

fit_at : (columns : List Kind) (n s : ℕ) (v : Value) (rows : Rows) → AllByRecursion (RowIsOf columns) rows → AreFit columns (map (λ c. c == s) (range_with_len 0 n)) v (at s v rows)
fit_at columns n s v [] h = tt
fit_at columns n s v (row ∷ rows) h = one (same_value v (cell row s)) refl (fit_at columns n s v rows h.1)
  where
    here : same_value v (cell row s) ≡ true → IsFit columns (map (λ c. c == s) (range_with_len 0 n)) v row
    here e = record { of = h.0; pins = λ k p. ap (cell row) (pinned_column n s k p) ∙ sym (value_cmp-ties v (cell row s) (is_eq-tie _ e)) }

    one : (b : Bool) → same_value v (cell row s) ≡ b → AreFit columns (map (λ c. c == s) (range_with_len 0 n)) v (at s v rows) → AreFit columns (map (λ c. c == s) (range_with_len 0 n)) v (cond b (row ∷ at s v rows) (at s v rows))
    one true e k = (here e, k)
    one false e k = k

pub few_filtered : (p : List Value → Bool) (rows : Rows) → length (filter p rows) ≤ length rows
few_filtered p rows = omega (arith, length-filter p rows, count_by-le-length p rows)

module _ (schema : SchemaModel) (ta tb : List Rows) (tables_a : AreTables schema ta) (tables_b : AreTables schema tb) (v : Value) (inputs : InputWords) (words : List ℕ) (ends : Ends words) where
  abbrev parts : Node → Followed Parts
  parts = followed schema (parts_leaf schema ta tb v) (parts_step ta tb v)

  site_fit : (tables : List Rows) → AreTables schema tables → (table s : ℕ) → AreFit (table_kinds schema table) (map (λ c. c == s) (range_with_len 0 (length (table_columns schema table)))) v (at s v (rows_of tables table))
  site_fit tables are table s = fit_at (table_kinds schema table) (length (table_columns schema table)) s v (rows_of tables table) (to_all (table_kinds schema table) (rows_of tables table) (are.of table))

  leaf_good : (table s : ℕ) → slice_at (map (λ c. is_public c.mark) (table_columns schema table)) s ≡ true → Good inputs words v (parts_leaf schema ta tb v table s) (table_kinds schema table)
  leaf_good table s h =
      let leaf : Leaf = record { table = table; column = s } in
      let wide : length (map (λ c. c == s) (range_with_len 0 (length (table_columns schema table)))) ≡ length (table_kinds schema table)
      = length-map (range_with_len 0 (length (table_columns schema table))) (λ c. c == s) ∙ length-range_with_len 0 (length (table_columns schema table)) ∙ sym (length-map (table_columns schema table) (λ c. c.kind)) in
      let is : IsLeaf v (parts_leaf schema ta tb v table s) (table_kinds schema table) = record {
        list = refl;
        rows = filter-append (λ row. same_value v (cell row s)) (rows_of ta table) (rows_of tb table);
        fit_a = site_fit ta tables_a table s;
        fit_b = site_fit tb tables_b table s;
        few_a = site_few schema ta v leaf tables_a.valid h;
        few_b = site_few schema tb v leaf tables_b.valid h;
        len_a = refl;
        len_b = refl;
        room = refl;
      } in
      record {
        kinds = refl;
        kinds_a = refl;
        kinds_b = refl;
        local_a = refl;
        local_b = refl;
        padding = refl;
        room = omega arith;
        wide = wide;
        leaf = λ e. is;
        means = leaf_meant inputs words v (parts_leaf schema ta tb v table s) (table_kinds schema table) refl refl refl refl wide is;
      }

  filter_row : (cond : List (List Cmp)) (columns : List Kind) (pinned : List Bool) → ByRow columns columns pinned pinned v (filter_rows cond)
  filter_row cond columns pinned = record { append = filter-append (meets cond); few = few_filtered (meets cond); fit = fit_filter columns pinned v cond }

  project_row : (chosen : List ℕ) (columns : List Kind) (pinned : List Bool) → AllByRecursion (λ c. c < length columns) chosen → ByRow columns (map (kind_at columns) chosen) pinned (map (slice_at pinned) chosen) v (project_rows chosen)
  project_row chosen columns pinned there = record { append = map-append (cut chosen); few = λ xs. omega (arith, length-map xs (cut chosen)); fit = λ xs h. fit_project columns pinned v chosen xs there h }

  -- ---- one operator
  abbrev GoodAs : Shape → Bool → Followed Parts → Type 0
  GoodAs fit number made = fit.sound ≡ true → number ≡ true → (s : ℕ) → slice_at made.slices s ≡ true → Good inputs words v (made.at s) fit.kinds

  abbrev Goods : Node → Type 0
  Goods n = GoodAs (shape schema n) (numbers_fit n) (parts n)

  filter_good : (p : Parts) (columns : List Kind) (cond : List (List Cmp)) → CondFits columns cond → Good inputs words v p columns → Good inputs words v (parts_step ta tb v (Node-F.Filter p cond)) columns
  filter_good p columns cond fits good =
      part_good inputs words v p columns columns p.laid.kinds p.a.kinds p.b.kinds p.laid.padding p.sized.padding (filter_rows cond) (λ l. filter_gates l cond) good good.kinds good.kinds_a good.kinds_b good.padding refl good.wide
      (filter_row cond columns p.laid.padding.pinned)
      (λ list out stage y. filter_staged inputs words ends list columns p.laid.padding.room p.laid.padding.pinned v p.rows stage cond fits out y)

  project_good : (p : Parts) (columns : List Kind) (chosen : List ℕ) → AllByRecursion (λ c. c < length columns) chosen → Good inputs words v p columns → Good inputs words v (parts_step ta tb v (Node-F.Project p chosen)) (map (kind_at columns) chosen)
  project_good p columns chosen there good =
      let new : List Kind = map (kind_at columns) chosen in
      let pinned : List Bool = map (slice_at p.laid.padding.pinned) chosen in
      let named : (ks : List Kind) → ks ≡ columns → map (kind_at ks) chosen ≡ new = λ ks e. ap (λ (js : List Kind). map (kind_at js) chosen) e in
      part_good inputs words v p columns new (map (kind_at p.laid.kinds) chosen) (map (kind_at p.a.kinds) chosen) (map (kind_at p.b.kinds) chosen) (padding_step (Node-F.Project p.laid.padding chosen)) (padding_step (Node-F.Project p.sized.padding chosen))
      (project_rows chosen) (λ l. gives (projected l chosen)) good (named p.laid.kinds good.kinds) (named p.a.kinds good.kinds_a) (named p.b.kinds good.kinds_b)
      (ap (λ (k : Padding). padding_step (Node-F.Project k chosen)) good.padding) refl (length-map chosen (slice_at p.laid.padding.pinned) ∙ sym (length-map chosen (kind_at columns))) (project_row chosen columns p.laid.padding.pinned there)
      (λ list out stage y. subst (λ (o : PaddedList). Staged words o new p.laid.padding.room pinned v (project_rows chosen p.rows)) (sym (yields-gives _ y))
      (project_staged inputs words ends list columns p.laid.padding.room p.laid.padding.pinned v p.rows stage chosen there))

  distinct_good : (p : Parts) (columns : List Kind) → Good inputs words v p columns → Good inputs words v (parts_step ta tb v (Node-F.Distinct p)) columns
  distinct_good p columns good =
      over_good inputs words v p columns columns p.laid.kinds p.a.kinds p.b.kinds (padding_step (Node-F.Distinct p.laid.padding)) (padding_step (Node-F.Distinct p.sized.padding)) (distinct_rows p.rows) (distinct_rows p.a.rows) (distinct_rows p.b.rows)
      (once_gates (cut_by (all_pinned p.laid.padding.pinned) v)) good good.kinds good.kinds_a good.kinds_b (ap (λ (k : Padding). padding_step (Node-F.Distinct k)) good.padding) good.wide
      (λ few. op (all_pinned p.laid.padding.pinned) refl)
    where
      op : (b : Bool) → all_pinned p.laid.padding.pinned ≡ b → (list out : PaddedList) → Staged words list columns p.laid.padding.room p.laid.padding.pinned v p.rows → Yields inputs words (once_gates (cut_by b v) list) out
          → Staged words out columns (cond b 1 p.laid.padding.room) p.laid.padding.pinned v (distinct_rows p.rows)
      op true e list out stage y = cut_distinct_staged inputs words ends list columns p.laid.padding.room p.laid.padding.pinned v p.rows stage e out y
      op false e list out stage y = distinct_staged inputs words ends list columns p.laid.padding.room p.laid.padding.pinned v p.rows stage out y

  group_good : (p : Parts) (columns : List Kind) (keys : List ℕ) (having : Option ℕ) → AllByRecursion (λ c. c < length columns) keys → HavingFits having → Good inputs words v p columns
      → Good inputs words v (parts_step ta tb v (Node-F.Group p keys having)) (map (kind_at columns) keys ++ kind.Int ∷ [])
  group_good p columns keys having there fits good =
      let named : (ks : List Kind) → ks ≡ columns → map (kind_at ks) keys ++ kind.Int ∷ [] ≡ map (kind_at columns) keys ++ kind.Int ∷ [] = λ ks e. ap (λ (js : List Kind). map (kind_at js) keys ++ kind.Int ∷ []) e in
      over_good inputs words v p columns (map (kind_at columns) keys ++ kind.Int ∷ []) (map (kind_at p.laid.kinds) keys ++ kind.Int ∷ []) (map (kind_at p.a.kinds) keys ++ kind.Int ∷ []) (map (kind_at p.b.kinds) keys ++ kind.Int ∷ [])
      (padding_step (Node-F.Group p.laid.padding keys having)) (padding_step (Node-F.Group p.sized.padding keys having)) (group_rows keys having p.rows) (group_rows keys having p.a.rows) (group_rows keys having p.b.rows)
      (grouped_gates (cut_by (all_pinned (map (slice_at p.laid.padding.pinned) keys)) v) keys having) good (named p.laid.kinds good.kinds) (named p.a.kinds good.kinds_a) (named p.b.kinds good.kinds_b)
      (ap (λ (k : Padding). padding_step (Node-F.Group k keys having)) good.padding)
      (omega (arith, length-append (map (slice_at p.laid.padding.pinned) keys) (false ∷ []), length-append (map (kind_at columns) keys) (kind.Int ∷ []), length-map keys (slice_at p.laid.padding.pinned), length-map keys (kind_at columns)))
      (λ few. op few (all_pinned (map (slice_at p.laid.padding.pinned) keys)) refl)
    where
      op : p.laid.padding.room ≤ 4096 → (b : Bool) → all_pinned (map (slice_at p.laid.padding.pinned) keys) ≡ b → (list out : PaddedList) → Staged words list columns p.laid.padding.room p.laid.padding.pinned v p.rows → Yields inputs words (grouped_gates (cut_by b v) keys having list) out
          → Staged words out (map (kind_at columns) keys ++ kind.Int ∷ []) (cond b 1 p.laid.padding.room) (map (slice_at p.laid.padding.pinned) keys ++ false ∷ []) v (group_rows keys having p.rows)
      op few true e list out stage y = cut_group_staged inputs words ends list columns p.laid.padding.room p.laid.padding.pinned v p.rows stage keys having few there fits e out y
      op few false e list out stage y = group_staged inputs words ends list columns p.laid.padding.room p.laid.padding.pinned v p.rows stage keys having few there fits out y

  number_good : (p : Parts) (columns : List Kind) (partition : List ℕ) (order : List Key) → KeysFit (length columns) partition order → Good inputs words v p columns
      → Good inputs words v (parts_step ta tb v (Node-F.Number p partition order)) (columns ++ kind.Int ∷ [])
  number_good p columns partition order fits good =
      let named : (ks : List Kind) → ks ≡ columns → ks ++ kind.Int ∷ [] ≡ columns ++ kind.Int ∷ [] = λ ks e. ap (λ (js : List Kind). js ++ kind.Int ∷ []) e in
      over_good inputs words v p columns (columns ++ kind.Int ∷ []) (p.laid.kinds ++ kind.Int ∷ []) (p.a.kinds ++ kind.Int ∷ []) (p.b.kinds ++ kind.Int ∷ [])
      (padding_step (Node-F.Number p.laid.padding partition order)) (padding_step (Node-F.Number p.sized.padding partition order)) (number_rows partition order p.rows) (number_rows partition order p.a.rows) (number_rows partition order p.b.rows)
      (λ l. number_gates l partition order) good (named p.laid.kinds good.kinds) (named p.a.kinds good.kinds_a) (named p.b.kinds good.kinds_b)
      (ap (λ (k : Padding). padding_step (Node-F.Number k partition order)) good.padding)
      (omega (arith, length-append p.laid.padding.pinned (false ∷ []), length-append columns (kind.Int ∷ []), good.wide))
      (λ few list out stage y. number_staged inputs words ends list columns p.laid.padding.room p.laid.padding.pinned v p.rows stage partition order few fits out y)

  -- ---- the induction
  abbrev plain : Node-F ((n : Node) × Goods n) → Node-F Node
  plain y = map-Node ((n : Node) × Goods n) Node (λ e. e.0) y

  abbrev step : Node-F (Followed Parts) → Followed Parts
  step = followed_step schema (parts_leaf schema ta tb v) (parts_step ta tb v)

  layer : (y : Node-F ((n : Node) × Goods n)) → GoodAs (shape_step schema (map-Node Node Shape (shape schema) (plain y))) (numbers_step (map-Node Node Bool numbers_fit (plain y))) (step (map-Node Node (Followed Parts) parts (plain y)))
  layer (Node-F.Scan table) sound numbers s h = leaf_good table s h
  layer (Node-F.Filter child cond) sound numbers s h =
      let parts_fit = both_true _ _ (both_true _ _ sound).0 in
      let parts_number = both_true _ _ numbers in
      filter_good ((parts child.0).at s) (kinds schema child.0) cond (cond_ok (kinds schema child.0) cond parts_fit.1 parts_number.1) (child.1 parts_fit.0 parts_number.0 s h)
  layer (Node-F.Project child columns) sound numbers s h =
      let parts_fit = both_true _ _ (both_true _ _ sound).0 in
      let there = slice_map (slice_at (parts child.0).slices) columns s h in
      project_good ((parts child.0).at (get_or columns s 0)) (kinds schema child.0) columns (within_ok (kinds schema child.0) columns parts_fit.1) (child.1 parts_fit.0 numbers (get_or columns s 0) there.1)
  layer (Node-F.Join left right on) sound numbers s h =
      let p : List Bool = (parts left.0).slices in
      let q : List Bool = (parts right.0).slices in
      let parts_fit = both_true _ _ (both_true _ _ sound).0 in
      let sides_fit = both_true _ _ parts_fit.0 in
      let parts_number = both_true _ _ numbers in
      let sides_number = both_true _ _ parts_number.0 in
      let k = link_links p q on s (slice_range (λ j. list_any (names_column (length p) j) (links p q on)) (length p + length q) s h).1 in
      join_good inputs words v ends ((parts left.0).at (link_at p q on s).left) ((parts right.0).at (link_at p q on s).right) (kinds schema left.0) (kinds schema right.0) on _ _
      (cond_ok (kinds schema left.0 ++ kinds schema right.0) on parts_fit.1 parts_number.1)
      (left.1 sides_fit.0 sides_number.0 (link_at p q on s).left k.linked.left_has) (right.1 sides_fit.1 sides_number.1 (link_at p q on s).right k.linked.right_has)
  layer (Node-F.Group child keys having) sound numbers s h =
      let parts_fit = both_true _ _ (both_true _ _ (both_true _ _ sound).0).0 in
      let parts_number = both_true _ _ numbers in
      let there = slice_map (slice_at (parts child.0).slices) keys s (slice_front _ s h) in
      group_good ((parts child.0).at (get_or keys s 0)) (kinds schema child.0) keys having (within_ok (kinds schema child.0) keys parts_fit.1) (having_ok having parts_number.1) (child.1 parts_fit.0 parts_number.0 (get_or keys s 0) there.1)
  layer (Node-F.Count child) sound numbers s h = absurd (slice_none (false ∷ []) s h)
  layer (Node-F.Distinct child) sound numbers s h = distinct_good ((parts child.0).at s) (kinds schema child.0) (child.1 (both_true _ _ sound).0 numbers s h)
  layer (Node-F.Number child partition order) sound numbers s h =
      let mask : List Bool = (parts child.0).slices in
      let parts_fit = both_true _ _ (both_true _ _ (both_true _ _ sound).0).0 in
      let there = both_true _ _ (slice_range (λ j. has partition j && slice_at mask j) (length mask) s (slice_front _ s h)).1 in
      number_good ((parts child.0).at s) (kinds schema child.0) partition order (order_ok (kinds schema child.0) partition order parts_fit.1) (child.1 parts_fit.0 numbers s there.1)
  layer (Node-F.Top child order limit) sound numbers s h = absurd (slice_none (parts child.0).slices s h)

  rolled : (x : Node-F Node) → GoodAs (shape_step schema (map-Node Node Shape (shape schema) x)) (numbers_step (map-Node Node Bool numbers_fit x)) (step (map-Node Node (Followed Parts) parts x)) → Goods (roll-Node x)
  rolled x h =
      subst (λ (k : Shape). GoodAs k (numbers_fit (roll-Node x)) (parts (roll-Node x))) (sym (fold-roll-Node Shape (shape_step schema) x))
      (subst (λ (k : Bool). GoodAs (shape_step schema (map-Node Node Shape (shape schema) x)) k (parts (roll-Node x))) (sym (fold-roll-Node Bool numbers_step x))
      (subst (λ (k : Followed Parts). GoodAs (shape_step schema (map-Node Node Shape (shape schema) x)) (numbers_step (map-Node Node Bool numbers_fit x)) k) (sym (fold-roll-Node (Followed Parts) step x)) h))

  all_good : (n : Node) → Goods n
  all_good = ind-Node Goods (λ x y is.
      rolled x (subst (λ (z : Node-F Node). GoodAs (shape_step schema (map-Node Node Shape (shape schema) z)) (numbers_step (map-Node Node Bool numbers_fit z)) (step (map-Node Node (Followed Parts) parts z))) is (layer y)))

  seen : {Y : Type 0} (leaf : ℕ → ℕ → Y) (step : Node-F Y → Y) (f : Parts → Y) → ((table s : ℕ) → f (parts_leaf schema ta tb v table s) ≡ leaf table s) → ((y : Node-F Parts) → f (parts_step ta tb v y) ≡ step (map-Node Parts Y f y))
      → (n : Node) (s : ℕ) → f ((parts n).at s) ≡ (followed schema leaf step n).at s
  seen leaf step f at_leaf at_step n s = followed_at schema (parts_leaf schema ta tb v) (parts_step ta tb v) leaf step f at_leaf at_step n s

  pub unit_holds : (top : Node) (column : ℕ) → (shape schema top).sound ≡ true → numbers_fit top ≡ true → slice_at (slices schema top) column ≡ true → (sized schema 2 top column).longest ≤ 4096 → (taken after : Taken)
      → Stand inputs.a taken.a (unit_words schema ta v top column) → Stand inputs.b taken.b (unit_words schema tb v top column) → (list : PaddedList) → Yields inputs words (unit_list schema v top column taken) (list, after)
      → Holds words list (kinds schema top) (sized schema 2 top column).padding.room (mean_at schema (union ta tb) v top column)
      × (after ≡ past (length (unit_words schema ta v top column)) (length (unit_words schema tb v top column)) taken)
  unit_holds top column sound numbers sliced few taken after sa sb list y =
      let p : Parts = (parts top).at column in
      let good = all_good top sound numbers column (subst (λ (bs : List Bool). slice_at bs column ≡ true) (sym (followed_slices schema (parts_leaf schema ta tb v) (parts_step ta tb v) top)) sliced) in
      let laid : p.laid ≡ (followed schema (laid_leaf schema) (laid_step v) top).at column = seen (laid_leaf schema) (laid_step v) (λ (q : Parts). q.laid) (λ t s. refl) (λ z. refl) top column in
      let own_a : p.a ≡ (followed schema (own_leaf schema ta v) own_step top).at column = seen (own_leaf schema ta v) own_step (λ (q : Parts). q.a) (λ t s. refl) (λ z. refl) top column in
      let own_b : p.b ≡ (followed schema (own_leaf schema tb v) own_step top).at column = seen (own_leaf schema tb v) own_step (λ (q : Parts). q.b) (λ t s. refl) (λ z. refl) top column in
      let rows : p.rows ≡ mean_at schema (union ta tb) v top column = seen (λ t s. at s v (union ta tb t)) (mean_step (union ta tb)) (λ (q : Parts). q.rows) (λ t s. refl) (λ z. refl) top column in
      let size : p.sized ≡ sized schema 2 top column = seen (sized_leaf schema 2) sized_step (λ (q : Parts). q.sized) (λ t s. refl) (λ z. refl) top column in
      let words_a : words_below p.a ≡ unit_words schema ta v top column = ap words_below own_a in
      let words_b : words_below p.b ≡ unit_words schema tb v top column = ap words_below own_b in
      let result = good.means (subst (λ (z : Sized). z.longest ≤ 4096) (sym size) few) taken after list (subst (λ (ws : List ℕ). Stand inputs.a taken.a ws) (sym words_a) sa) (subst (λ (ws : List ℕ). Stand inputs.b taken.b ws) (sym words_b) sb)
      (subst (λ (l : Laid). Yields inputs words (l.list taken) (list, after)) (sym laid) y) in
      let room : p.laid.padding.room ≡ (sized schema 2 top column).padding.room = ap (λ (k : Padding). k.room) good.padding ∙ ap (λ (z : Sized). z.padding.room) size in
      let held : Holds words list (kinds schema top) p.laid.padding.room p.rows = result.0.holds in (
        subst (λ (rs : Rows). Holds words list (kinds schema top) (sized schema 2 top column).padding.room rs) rows (subst (λ (n : ℕ). Holds words list (kinds schema top) n p.rows) room held),
        result.1 ∙ ap₂ (λ (xs ys : List ℕ). past (length xs) (length ys) taken) words_a words_b,
      )

pub unit_means : UnitMeans
unit_means schema a b are_a are_b v top column sound numbers sliced few inputs words ends taken after sa sb list y = unit_holds schema a b are_a are_b v inputs words ends top column sound numbers sliced few taken after sa sb list y
