-- A plain unit's rows are of its segment's kinds.
use Rattle.std.proofs.Common.{◌≡◌, ℕ, ◌+◌, ◌≤◌, Bool, true, false, ◌&&◌, List, [], ◌∷◌, length, get_or, map, refl, sym, ap, ◌∙◌, subst, arith}
use Rattle.std.specs.List.{list_any, range_with_len}
use Rattle.pdn_base.specs.declared.marks.Kind.{Kind}
use Rattle.pdn_base.specs.declared.value.Value.{Value}
use Rattle.pdn_base.specs.Values.{cell}
use Rattle.pdn_base.specs.Operators.{Rows}
use Rattle.pdn_schema.specs.Models.{SchemaModel}
use Rattle.pdn_tree.specs.declared.node.Node.{Node, Node-F, roll-Node, fold-roll-Node}
use Rattle.pdn_tree.specs.declared.node.Node.TheFolds.{ind-Node, map-Node}
use Rattle.pdn_tree.specs.Meaning.{mean_step}
use Rattle.pdn_tree.specs.Meaning.{table_of as rows_of}
use Rattle.pdn_tree.specs.Columns.{has}
use Rattle.pdn_tree.specs.Shapes.{Shape, shape, shape_step, kinds}
use Rattle.pdn_obl_rows.specs.Encoding.{RowIsOf, RowsAreOf}
use Rattle.pdn_level.specs.Links.{slice_at, links, names_column, link_at}
use Rattle.pdn_level.specs.Slices.{Followed, followed, followed_step, slices}
use Rattle.pdn_level.specs.Cutting.{same_value, at, mean_at}
use Rattle.pdn_level.specs.Padding.{Padding, leaf_padding, padding_step, padding}
use Rattle.pdn_level.proofs.Lists.{both_true}
use Rattle.pdn_level.proofs.LinkLaws.{link_links}
use Rattle.pdn_level.proofs.Soundness.{slice_map, slice_range, slice_front, slice_none}
use Rattle.pdn_level.proofs.Tracks.{followed_slices}
use Rattle.pdn_level.proofs.PaddingLaws.{within_one}
use Rattle.pdn_site.specs.Lists.{Sized, sized, sized_leaf, sized_step}
use Rattle.pdn_site.specs.Circuits.{table_kinds}
use Rattle.pdn_site.specs.Meaning.{AreTables}
use Rattle.pdn_site.proofs.RowLists.{all_filter, to_all}
use Rattle.pdn_site.proofs.FitLaws.{within_ok}
use Rattle.pdn_site.proofs.Following.{followed_at}
use Rattle.pdn_site.proofs.Fitting.{AreFit, fit_filter, fit_project, fit_distinct, fit_pairs, fit_number_from, fit_group}
use Rattle.pdn_site.proofs.Stages.{are_of_fit, unpinned, unpinned_wide, loosened, loose_rows}

-- a list's padding, as the sizes of lists have it
padding_seen : (y : Node-F Sized) → (sized_step y).padding ≡ padding_step (map-Node Sized Padding (λ (z : Sized). z.padding) y)
padding_seen (Node-F.Scan table) = refl
padding_seen (Node-F.Filter child cond) = refl
padding_seen (Node-F.Project child columns) = refl
padding_seen (Node-F.Join left right on) = refl
padding_seen (Node-F.Group child keys having) = refl
padding_seen (Node-F.Count child) = refl
padding_seen (Node-F.Distinct child) = refl
padding_seen (Node-F.Number child partition order) = refl
padding_seen (Node-F.Top child order limit) = refl

pub sized_padding : (schema : SchemaModel) (sites : ℕ) (n : Node) (c : ℕ) → (sized schema sites n c).padding ≡ padding schema sites n c
sized_padding schema sites n c = followed_at schema (sized_leaf schema sites) sized_step (leaf_padding schema sites) padding_step (λ (z : Sized). z.padding) (λ t s. refl) padding_seen n c

record Alone : Type 0 where
  rows : Rows
  sized : Sized

module _ (schema : SchemaModel) (tables : List Rows) (are : AreTables schema tables) (v : Value) where
  abbrev leaf : ℕ → ℕ → Alone
  leaf table s = record { rows = at s v (rows_of tables table); sized = sized_leaf schema 1 table s }

  abbrev step : Node-F Alone → Alone
  step y = record { rows = mean_step (rows_of tables) (map-Node Alone Rows (λ (p : Alone). p.rows) y); sized = sized_step (map-Node Alone Sized (λ (p : Alone). p.sized) y) }

  abbrev alone : Node → Followed Alone
  alone = followed schema leaf step

  -- the rows are of these kinds, and the list has no more room than the longest
  record OfKinds (columns : List Kind) (p : Alone) : Type 0 where
    of : p.sized.longest ≤ 4096 → AreFit columns (unpinned columns) v p.rows
    room : p.sized.padding.room ≤ p.sized.longest

  abbrev KindsAs : Shape → Followed Alone → Type 0
  KindsAs fit f = fit.sound ≡ true → (s : ℕ) → slice_at f.slices s ≡ true → OfKinds fit.kinds (f.at s)

  abbrev Kinds : Node → Type 0
  Kinds n = KindsAs (shape schema n) (alone n)

  rows_seen : (n : Node) (s : ℕ) → ((alone n).at s).rows ≡ mean_at schema (rows_of tables) v n s
  rows_seen n s = followed_at schema leaf step (λ t c. at c v (rows_of tables t)) (mean_step (rows_of tables)) (λ (p : Alone). p.rows) (λ t c. refl) (λ z. refl) n s

  sized_seen : (n : Node) (s : ℕ) → ((alone n).at s).sized ≡ sized schema 1 n s
  sized_seen n s = followed_at schema leaf step (sized_leaf schema 1) sized_step (λ (p : Alone). p.sized) (λ t c. refl) (λ z. refl) n s

  few : (n : Node) (s : ℕ) → slice_at (alone n).slices s ≡ true → ((alone n).at s).sized.padding.room ≤ ((alone n).at s).sized.longest → ((alone n).at s).sized.longest ≤ 4096 → length ((alone n).at s).rows ≤ 4096
  few n s h room small =
      let sliced : slice_at (slices schema n) s ≡ true = subst (λ (bs : List Bool). slice_at bs s ≡ true) (followed_slices schema leaf step n) h in
      omega (
        arith,
        ap (λ (rows : Rows). length rows) (rows_seen n s),
        within_one schema tables v n s are.valid sliced,
        ap (λ (p : Padding). p.room) (ap (λ (z : Sized). z.padding) (sized_seen n s) ∙ sized_padding schema 1 n s),
        room,
        small,
      )

  layer : (y : Node-F ((n : Node) × Kinds n)) → KindsAs (shape_step schema (map-Node Node Shape (shape schema) (map-Node ((n : Node) × Kinds n) Node (λ e. e.0) y))) (followed_step schema leaf step (map-Node Node (Followed Alone) alone (map-Node ((n : Node) × Kinds n) Node (λ e. e.0) y)))
  layer (Node-F.Scan table) sound s h =
      let columns : List Kind = table_kinds schema table in
      record { of = λ small. loose_rows columns v (at s v (rows_of tables table)) (all_filter (RowIsOf columns) (λ row. same_value v (cell row s)) (rows_of tables table) (to_all columns (rows_of tables table) (are.of table))); room = omega arith }
  layer (Node-F.Filter child cond) sound s h =
      let columns : List Kind = kinds schema child.0 in
      let below = child.1 (both_true _ _ (both_true _ _ sound).0).0 s h in
      record { of = λ small. fit_filter columns (unpinned columns) v cond ((alone child.0).at s).rows (below.of (omega (arith, small))); room = omega arith }
  layer (Node-F.Project child chosen) sound s h =
      let columns : List Kind = kinds schema child.0 in
      let fits = both_true _ _ (both_true _ _ sound).0 in
      let c : ℕ = get_or chosen s 0 in
      let below = child.1 fits.0 c (slice_map (slice_at (alone child.0).slices) chosen s h).1 in
      record { of = λ small. loosened _ _ v _ (fit_project columns (unpinned columns) v chosen ((alone child.0).at c).rows (within_ok columns chosen fits.1) (below.of (omega (arith, small)))); room = omega arith }
  layer (Node-F.Join left right on) sound s h =
      let p : List Bool = (alone left.0).slices in
      let q : List Bool = (alone right.0).slices in
      let sides = both_true _ _ (both_true _ _ (both_true _ _ sound).0).0 in
      let k = link_links p q on s (slice_range (λ j. list_any (names_column (length p) j) (links p q on)) (length p + length q) s h).1 in
      let link = link_at p q on s in
      let l = left.1 sides.0 link.left k.linked.left_has in
      let r = right.1 sides.1 link.right k.linked.right_has in
      let xs : List Kind = kinds schema left.0 in
      let ys : List Kind = kinds schema right.0 in
      record {
        of = λ small. loosened _ _ v _ (fit_pairs xs (unpinned xs) v ys (unpinned ys) on ((alone left.0).at link.left).rows ((alone right.0).at link.right).rows (unpinned_wide xs) (l.of (omega (arith, small))) (r.of (omega (arith, small))));
        room = omega arith;
      }
  layer (Node-F.Group child keys having) sound s h =
      let columns : List Kind = kinds schema child.0 in
      let fits = both_true _ _ (both_true _ _ (both_true _ _ sound).0).0 in
      let c : ℕ = get_or keys s 0 in
      let there = (slice_map (slice_at (alone child.0).slices) keys s (slice_front _ s h)).1 in
      let below = child.1 fits.0 c there in
      record {
        of = λ small. loosened _ _ v _ (fit_group columns (unpinned columns) v keys having ((alone child.0).at c).rows (within_ok columns keys fits.1) (omega (arith, few child.0 c there below.room (omega (arith, small)))) (below.of (omega (arith, small))));
        room = omega arith;
      }
  layer (Node-F.Count child) sound s h = absurd (slice_none (false ∷ []) s h)
  layer (Node-F.Distinct child) sound s h =
      let columns : List Kind = kinds schema child.0 in
      let below = child.1 (both_true _ _ sound).0 s h in
      record { of = λ small. fit_distinct columns (unpinned columns) v ((alone child.0).at s).rows (below.of (omega (arith, small))); room = omega arith }
  layer (Node-F.Number child partition order) sound s h =
      let columns : List Kind = kinds schema child.0 in
      let mask : List Bool = (alone child.0).slices in
      let fits = both_true _ _ (both_true _ _ (both_true _ _ sound).0).0 in
      let inside : (has partition s && slice_at mask s) ≡ true = (slice_range (λ j. has partition j && slice_at mask j) (length mask) s (slice_front (map (λ j. has partition j && slice_at mask j) (range_with_len 0 (length mask))) s h)).1 in
      let there : slice_at mask s ≡ true = (both_true (has partition s) (slice_at mask s) inside).1 in
      let below = child.1 fits.0 s there in
      let rows : Rows = ((alone child.0).at s).rows in
      record {
        of = λ small.
            let bound : length rows ≤ 4096 = few child.0 s there below.room (omega (arith, small)) in
            loosened _ _ v _ (fit_number_from columns (unpinned columns) v partition order rows [] rows (unpinned_wide columns) bound (omega (arith, bound)) (below.of (omega (arith, small))));
        room = omega arith;
      }
  layer (Node-F.Top child order limit) sound s h = absurd (slice_none (alone child.0).slices s h)

  all_kinds : (n : Node) → Kinds n
  all_kinds = ind-Node Kinds (λ x y is.
      subst (λ (k : Shape). KindsAs k (alone (roll-Node x))) (sym (fold-roll-Node Shape (shape_step schema) x))
      (subst (λ (f : Followed Alone). KindsAs (shape_step schema (map-Node Node Shape (shape schema) x)) f) (sym (fold-roll-Node (Followed Alone) (followed_step schema leaf step) x))
      (subst (λ (z : Node-F Node). KindsAs (shape_step schema (map-Node Node Shape (shape schema) z)) (followed_step schema leaf step (map-Node Node (Followed Alone) alone z))) is (layer y))))

  pub plain_kinds : (n : Node) (c : ℕ) → (shape schema n).sound ≡ true → slice_at (slices schema n) c ≡ true → (sized schema 1 n c).longest ≤ 4096 → RowsAreOf (kinds schema n) (mean_at schema (rows_of tables) v n c)
  plain_kinds n c sound sliced small =
      let all = all_kinds n sound c (subst (λ (bs : List Bool). slice_at bs c ≡ true) (sym (followed_slices schema leaf step n)) sliced) in
      let own : AreFit (kinds schema n) (unpinned (kinds schema n)) v ((alone n).at c).rows = all.of (omega (arith, small, ap (λ (z : Sized). z.longest) (sized_seen n c))) in
      subst (λ (rows : Rows). RowsAreOf (kinds schema n) rows) (rows_seen n c) (are_of_fit (kinds schema n) (unpinned (kinds schema n)) v ((alone n).at c).rows own)
