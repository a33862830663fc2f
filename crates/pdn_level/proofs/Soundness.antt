-- Cutting the leaves of a tree at a value of its slice column cuts its rows.
use Rattle.std.proofs.Common.{◌≡◌, ℕ, zero, suc, ◌+◌, ◌<◌, Bool, true, false, ◌&&◌, List, [], ◌∷◌, ◌++◌, filter, length, map, get_or, sym, refl, ap, ap₂, ◌∙◌, subst, arith, Option, length-append, zero-add}
use Rattle.std.specs.List.{AllByRecursion, list_any, range_with_len}
use Rattle.std.proofs.lemmas.List.{length-map}
use Rattle.std.proofs.lemmas.List.FromFn.{length-range_with_len, get_or-range_with_len}
use Rattle.pdn_base.specs.declared.value.Value.{Value}
use Rattle.pdn_base.specs.declared.value.Value.TheVariants as value
use Rattle.pdn_base.specs.declared.order.Key.{Key}
use Rattle.pdn_base.specs.declared.cond.Cmp.{Cmp}
use Rattle.pdn_base.specs.Values.{cut, same_row}
use Rattle.pdn_base.specs.Conditions.{meets}
use Rattle.pdn_base.specs.Bags.{pairs, times, distinct}
use Rattle.pdn_base.specs.Operators.{filter_rows, project_rows, join_rows, joined, group_rows, distinct_rows, number_rows, number_from, place_of, counted, allows}
use Rattle.pdn_schema.specs.Models.{SchemaModel}
use Rattle.pdn_tree.specs.declared.node.Node.{Node, Node-F, fold-roll-Node}
use Rattle.pdn_tree.specs.declared.node.Node.TheFolds.{ind-Node, map-Node}
use Rattle.pdn_tree.specs.Shapes.{is_public, table_columns}
use Rattle.pdn_tree.specs.Meaning.{Rows, mean, mean_step}
use Rattle.pdn_tree.specs.Columns.{Wide, has, Has}
use Rattle.pdn_level.specs.declared.staged.Leaf.{Leaf}
use Rattle.pdn_level.specs.Links.{slice_at, links, names_column, link_at}
use Rattle.pdn_level.specs.Slices.{Followed, followed, followed_step, linked, among}
use Rattle.pdn_level.specs.Levels.{leaf_of, leaves_step}
use Rattle.pdn_level.specs.Cutting.{at, AreWide}
use Rattle.pdn_level.proofs.Lists.{both_true, wide-filter, wide-project, wide-pairs, all-append, all_filter}
use Rattle.pdn_level.proofs.LinkLaws.{Links, link_links, slice-within}
use Rattle.pdn_level.proofs.OperatorSlices.{slice_filter, slice_project, slice_join, slice_group, slice_distinct, slice_number, all_distinct}

-- where a list of slice columns has one
pub slice_map : (f : ℕ → Bool) (columns : List ℕ) (s : ℕ) → slice_at (map f columns) s ≡ true → (s < length columns) × (f (get_or columns s 0) ≡ true)
slice_map f [] s h = absurd cc
slice_map f (c ∷ cs) zero h = (omega arith, h)
slice_map f (c ∷ cs) (suc s) h =
    let rest = slice_map f cs s h in
    (omega (arith, rest.0), rest.1)

pub slice_range : (f : ℕ → Bool) (n s : ℕ) → slice_at (map f (range_with_len 0 n)) s ≡ true → (s < n) × (f s ≡ true)
slice_range f n s h =
    let there = slice_map f (range_with_len 0 n) s h in
    let within : s < n = omega (arith, there.0, length-range_with_len 0 n) in
    (within, subst (λ (k : ℕ). f k ≡ true) (get_or-range_with_len 0 n s 0 within ∙ zero-add s) there.1)

pub slice_front : (slices : List Bool) (s : ℕ) → slice_at (slices ++ false ∷ []) s ≡ true → slice_at slices s ≡ true
slice_front [] zero h = h
slice_front [] (suc s) h = h
slice_front (b ∷ bs) zero h = h
slice_front (b ∷ bs) (suc s) h = slice_front bs s h

pub slice_none : (slices : List Bool) (s : ℕ) → slice_at (map (λ b. false) slices) s ≡ true → ⊥
slice_none [] s h = absurd cc
slice_none (b ∷ bs) zero h = absurd cc
slice_none (b ∷ bs) (suc s) h = slice_none bs s h

-- what a list that is not empty was made of
some_filter : {X : Type 0} (p : X → Bool) (xs : List X) → 0 < length (filter p xs) → 0 < length xs
some_filter p [] h = h
some_filter p (x ∷ xs) h = omega arith

some_pairs : (xs ys : Rows) → 0 < length (pairs joined xs ys) → (0 < length xs) × (0 < length ys)
some_pairs [] ys h = absurd (omega (arith, h))
some_pairs (x ∷ xs) [] h = (omega arith, (some_pairs xs [] h).1)
some_pairs (x ∷ xs) (y ∷ ys) h = (omega arith, omega arith)

some_group : (keys : List ℕ) (having : Option ℕ) (rows : Rows) → 0 < length (group_rows keys having rows) → 0 < length rows
some_group keys having [] h = h
some_group keys having (x ∷ xs) h = omega arith

some_distinct : (rows : Rows) → 0 < length (distinct_rows rows) → 0 < length rows
some_distinct [] h = h
some_distinct (x ∷ xs) h = omega arith

some_number : (partition : List ℕ) (order : List Key) (rows : Rows) → 0 < length (number_rows partition order rows) → 0 < length rows
some_number partition order [] h = h
some_number partition order (x ∷ xs) h = omega arith

-- widths of grouped and numbered rows
wide_last : (w : ℕ) (f : List Value → List Value) (rows : Rows) → AllByRecursion (λ row. length (f row) ≡ w) rows → Wide w (map f rows)
wide_last w f [] h = tt
wide_last w f (x ∷ xs) h = (h.0, wide_last w f xs h.1)

all_wide : (w : ℕ) (all : Rows) (rows : Rows) → Wide w rows → AllByRecursion (λ row. length (counted all row) ≡ w + 1) rows
all_wide w all [] h = tt
all_wide w all (x ∷ xs) h = (omega (arith, length-append x (value.Int (times same_row x all) ∷ []), h.0), all_wide w all xs h.1)

pub wide_group : (keys : List ℕ) (having : Option ℕ) (rows : Rows) → Wide (length keys + 1) (group_rows keys having rows)
wide_group keys having rows =
    let all : Rows = project_rows keys rows in
    wide_last (length keys + 1) (counted all) _ (all_wide (length keys) all _
    (all_filter (λ row. length row ≡ length keys) (λ key. allows having (times same_row key all)) (distinct same_row all) (all_distinct (λ row. length row ≡ length keys) same_row all (wide-project keys rows))))

pub wide_number_from : (w : ℕ) (partition : List ℕ) (order : List Key) (all earlier rows : Rows) → Wide w rows → Wide (w + 1) (number_from partition order all earlier rows)
wide_number_from w partition order all earlier [] h = tt
wide_number_from w partition order all earlier (x ∷ xs) h = (omega (arith, length-append x (value.Int (place_of partition order all earlier x) ∷ []), h.0), wide_number_from w partition order all (earlier ++ x ∷ []) xs h.1)

-- a column of a table with the value v in some row
abbrev pub HasRow : (ℕ → Rows) → Value → Leaf → Type 0
HasRow tables v leaf = 0 < length (at leaf.column v (tables leaf.table))

-- Where c is a slice column: the rows are as wide as there are columns, those with v in c are the rows over cut leaves, and
-- if there is one, v stands in each leaf's traced column. There is a leaf.
pub record Cuts (tables : ℕ → Rows) (v : Value) (r : Followed Rows) (l : Followed (List Leaf)) (rows : Rows) : Type 0 where
  pub same : l.slices ≡ r.slices
  pub wide : (c : ℕ) → slice_at r.slices c ≡ true → Wide (length r.slices) rows
  pub cuts : (c : ℕ) → slice_at r.slices c ≡ true → r.at c ≡ at c v rows
  pub found : (c : ℕ) → slice_at r.slices c ≡ true → 0 < length (r.at c) → AllByRecursion (HasRow tables v) (l.at c)
  pub some : (c : ℕ) → slice_at r.slices c ≡ true → 0 < length (l.at c)

abbrev pub cut_leaf : (ℕ → Rows) → Value → ℕ → ℕ → Rows
cut_leaf tables v table s = at s v (tables table)

abbrev pub followed_rows : SchemaModel → (ℕ → Rows) → Value → Node → Followed Rows
followed_rows schema tables v = followed schema (cut_leaf tables v) (mean_step tables)

abbrev pub followed_leaves : SchemaModel → Node → Followed (List Leaf)
followed_leaves schema = followed schema leaf_of leaves_step

abbrev pub Cut : SchemaModel → (ℕ → Rows) → Value → Node → Type 0
Cut schema tables v n = Cuts tables v (followed_rows schema tables v n) (followed_leaves schema n) (mean tables n)

join_link : (r q : Followed Rows) (on : List (List Cmp)) (s : ℕ) → slice_at (linked r.slices q.slices on) s ≡ true → Links r.slices q.slices on s (link_at r.slices q.slices on s)
join_link r q on s h = link_links r.slices q.slices on s (slice_range (λ s. list_any (names_column (length r.slices) s) (links r.slices q.slices on)) (length r.slices + length q.slices) s h).1

join_wide : (tables : ℕ → Rows) (v : Value) (on : List (List Cmp)) (r q : Followed Rows) (l m : Followed (List Leaf)) (R Q : Rows) → Cuts tables v r l R → Cuts tables v q m Q → (s : ℕ) → slice_at (linked r.slices q.slices on) s ≡ true
    → Wide (length (linked r.slices q.slices on)) (join_rows on R Q)
join_wide tables v on r q l m R Q cr cq s h =
    let k = join_link r q on s h in
    let w : ℕ = length r.slices + length q.slices in
    let long : w ≡ length (linked r.slices q.slices on) = sym (length-map (range_with_len 0 w) (λ s. list_any (names_column (length r.slices) s) (links r.slices q.slices on)) ∙ length-range_with_len 0 w) in
    subst (λ (n : ℕ). Wide n (join_rows on R Q)) long
    (wide-filter w (meets on) (pairs joined R Q) (wide-pairs (length r.slices) (length q.slices) R Q (cr.wide _ k.linked.left_has) (cq.wide _ k.linked.right_has)))

join_cuts : (tables : ℕ → Rows) (v : Value) (on : List (List Cmp)) (r q : Followed Rows) (l m : Followed (List Leaf)) (R Q : Rows) → Cuts tables v r l R → Cuts tables v q m Q → (s : ℕ) → slice_at (linked r.slices q.slices on) s ≡ true
    → join_rows on (r.at (link_at r.slices q.slices on s).left) (q.at (link_at r.slices q.slices on s).right) ≡ at s v (join_rows on R Q)
join_cuts tables v on r q l m R Q cr cq s h =
    let k = join_link r q on s h in
    let link = link_at r.slices q.slices on s in
    ap₂ (join_rows on) (cr.cuts link.left k.linked.left_has) (cq.cuts link.right k.linked.right_has)
    ∙ sym (slice_join (length r.slices) link.left link.right s v on R Q (cr.wide link.left k.linked.left_has) (slice-within r.slices link.left k.linked.left_has) k.linked.equal k.side)

join_found : (tables : ℕ → Rows) (v : Value) (on : List (List Cmp)) (r q : Followed Rows) (l m : Followed (List Leaf)) (R Q : Rows) → Cuts tables v r l R → Cuts tables v q m Q → (s : ℕ) → slice_at (linked r.slices q.slices on) s ≡ true
    → 0 < length (join_rows on (r.at (link_at r.slices q.slices on s).left) (q.at (link_at r.slices q.slices on s).right))
    → AllByRecursion (HasRow tables v) (l.at (link_at r.slices q.slices on s).left ++ m.at (link_at r.slices q.slices on s).right)
join_found tables v on r q l m R Q cr cq s h there =
    let k = join_link r q on s h in
    let link = link_at r.slices q.slices on s in
    let both = some_pairs (r.at link.left) (q.at link.right) (some_filter (meets on) _ there) in
    all-append (HasRow tables v) (l.at link.left) (m.at link.right) (cr.found link.left k.linked.left_has both.0) (cq.found link.right k.linked.right_has both.1)

-- the leaves of a join, by the slice columns that the rows have
pub same_link : (P : List Leaf → Type 0) (on : List (List Cmp)) (l m : Followed (List Leaf)) (a b : List Bool) (s : ℕ) → l.slices ≡ a → m.slices ≡ b
    → P (l.at (link_at a b on s).left ++ m.at (link_at a b on s).right) → P (l.at (link_at l.slices m.slices on s).left ++ m.at (link_at l.slices m.slices on s).right)
same_link P on l m a b s e f h =
    subst (λ (c : List Bool). P (l.at (link_at c m.slices on s).left ++ m.at (link_at c m.slices on s).right)) (sym e)
    (subst (λ (c : List Bool). P (l.at (link_at a c on s).left ++ m.at (link_at a c on s).right)) (sym f) h)

layer : (schema : SchemaModel) (tables : ℕ → Rows) (v : Value) → AreWide schema tables → (y : Node-F ((n : Node) × Cut schema tables v n))
    → Cuts tables v (followed_step schema (cut_leaf tables v) (mean_step tables) (map-Node Node (Followed Rows) (followed_rows schema tables v) (map-Node ((n : Node) × Cut schema tables v n) Node (λ e. e.0) y)))
    (followed_step schema leaf_of leaves_step (map-Node Node (Followed (List Leaf)) (followed_leaves schema) (map-Node ((n : Node) × Cut schema tables v n) Node (λ e. e.0) y)))
    (mean_step tables (map-Node Node Rows (mean tables) (map-Node ((n : Node) × Cut schema tables v n) Node (λ e. e.0) y)))
layer schema tables v wide (Node-F.Scan table) = record {
  same = refl;
  wide = λ s h. subst (λ (n : ℕ). Wide n (tables table)) (sym (length-map (table_columns schema table) (λ c. is_public c.mark))) (wide table);
  cuts = λ s h. refl;
  found = λ s h there. (there, tt);
  some = λ s h. omega arith;
}
layer schema tables v wide (Node-F.Filter child condition) = record {
  same = child.1.same;
  wide = λ s h. wide-filter _ (meets condition) _ (child.1.wide s h);
  cuts = λ s h. ap (filter_rows condition) (child.1.cuts s h) ∙ sym (slice_filter s v condition (mean tables child.0));
  found = λ s h there. child.1.found s h (some_filter (meets condition) _ there);
  some = child.1.some;
}
layer schema tables v wide (Node-F.Project child columns) =
    let mask : List Bool = (followed_rows schema tables v child.0).slices in record {
      same = ap (λ (bs : List Bool). map (slice_at bs) columns) child.1.same;
      wide = λ s h. subst (λ (n : ℕ). Wide n (project_rows columns (mean tables child.0))) (sym (length-map columns (slice_at mask))) (wide-project columns (mean tables child.0));
      cuts = λ s h.
          let parts = slice_map (slice_at mask) columns s h in
          ap (project_rows columns) (child.1.cuts (get_or columns s 0) parts.1) ∙ sym (slice_project s v columns (mean tables child.0) parts.0);
      found = λ s h there. child.1.found (get_or columns s 0) (slice_map (slice_at mask) columns s h).1 (subst (λ (n : ℕ). 0 < n) (length-map ((followed_rows schema tables v child.0).at (get_or columns s 0)) (cut columns)) there);
      some = λ s h. child.1.some (get_or columns s 0) (slice_map (slice_at mask) columns s h).1;
    }
layer schema tables v wide (Node-F.Join left right on) = record {
  same = ap₂ (λ (bs cs : List Bool). linked bs cs on) left.1.same right.1.same;
  wide = λ s h. join_wide tables v on _ _ _ _ _ _ left.1 right.1 s h;
  cuts = λ s h. join_cuts tables v on _ _ _ _ _ _ left.1 right.1 s h;
  found = λ s h there. same_link (AllByRecursion (HasRow tables v)) on (followed_leaves schema left.0) (followed_leaves schema right.0) _ _ s left.1.same right.1.same
      (join_found tables v on (followed_rows schema tables v left.0) (followed_rows schema tables v right.0) (followed_leaves schema left.0) (followed_leaves schema right.0) _ _ left.1 right.1 s h there);
  some = λ s h. same_link (λ (ls : List Leaf). 0 < length ls) on (followed_leaves schema left.0) (followed_leaves schema right.0) _ _ s left.1.same right.1.same
      (omega (
        arith,
        length-append ((followed_leaves schema left.0).at (link_at (followed_rows schema tables v left.0).slices (followed_rows schema tables v right.0).slices on s).left) ((followed_leaves schema right.0).at (link_at (followed_rows schema tables v left.0).slices (followed_rows schema tables v right.0).slices on s).right),
        left.1.some _ (join_link (followed_rows schema tables v left.0) (followed_rows schema tables v right.0) on s h).linked.left_has,
      ));
}
layer schema tables v wide (Node-F.Group child keys having) =
    let mask : List Bool = (followed_rows schema tables v child.0).slices in
    let parts : (s : ℕ) → slice_at (map (slice_at mask) keys ++ false ∷ []) s ≡ true → (s < length keys) × (slice_at mask (get_or keys s 0) ≡ true) = λ s h. slice_map (slice_at mask) keys s (slice_front _ s h) in record {
      same = ap (λ (bs : List Bool). map (slice_at bs) keys ++ false ∷ []) child.1.same;
      wide = λ s h. subst (λ (n : ℕ). Wide n (group_rows keys having (mean tables child.0))) (omega (arith, length-append (map (slice_at mask) keys) (false ∷ []), length-map keys (slice_at mask))) (wide_group keys having (mean tables child.0));
      cuts = λ s h. ap (group_rows keys having) (child.1.cuts (get_or keys s 0) (parts s h).1) ∙ sym (slice_group s v keys having (mean tables child.0) (parts s h).0);
      found = λ s h there. child.1.found (get_or keys s 0) (parts s h).1 (some_group keys having _ there);
      some = λ s h. child.1.some (get_or keys s 0) (parts s h).1;
    }
layer schema tables v wide (Node-F.Count child) = record {
  same = refl;
  wide = λ s h. absurd (slice_none (false ∷ []) s h);
  cuts = λ s h. absurd (slice_none (false ∷ []) s h);
  found = λ s h there. absurd (slice_none (false ∷ []) s h);
  some = λ s h. absurd (slice_none (false ∷ []) s h);
}
layer schema tables v wide (Node-F.Distinct child) = record {
  same = child.1.same;
  wide = λ s h. all_distinct _ same_row (mean tables child.0) (child.1.wide s h);
  cuts = λ s h. ap distinct_rows (child.1.cuts s h) ∙ sym (slice_distinct s v (mean tables child.0));
  found = λ s h there. child.1.found s h (some_distinct _ there);
  some = child.1.some;
}
layer schema tables v wide (Node-F.Number child partition order) =
    let mask : List Bool = (followed_rows schema tables v child.0).slices in
    let inside : ℕ → Bool = λ s. has partition s && slice_at mask s in
    let parts : (s : ℕ) → slice_at (map inside (range_with_len 0 (length mask)) ++ false ∷ []) s ≡ true → Has partition s × (slice_at mask s ≡ true) = λ s h. both_true _ _ (slice_range inside (length mask) s (slice_front _ s h)).1 in record {
      same = ap (λ (bs : List Bool). among partition bs ++ false ∷ []) child.1.same;
      wide = λ s h. subst (λ (n : ℕ). Wide n (number_rows partition order (mean tables child.0))) (omega (arith, length-append (map inside (range_with_len 0 (length mask))) (false ∷ []), length-map (range_with_len 0 (length mask)) inside, length-range_with_len 0 (length mask)))
          (wide_number_from (length mask) partition order (mean tables child.0) [] (mean tables child.0) (child.1.wide s (parts s h).1));
      cuts = λ s h. ap (number_rows partition order) (child.1.cuts s (parts s h).1) ∙ sym (slice_number partition order s (length mask) v (parts s h).0 (slice-within mask s (parts s h).1) (mean tables child.0) (child.1.wide s (parts s h).1));
      found = λ s h there. child.1.found s (parts s h).1 (some_number partition order _ there);
      some = λ s h. child.1.some s (parts s h).1;
    }
layer schema tables v wide (Node-F.Top child order limit) =
    let mask : List Bool = (followed_rows schema tables v child.0).slices in record {
      same = ap (λ (bs : List Bool). map (λ s. false) bs) child.1.same;
      wide = λ s h. absurd (slice_none mask s h);
      cuts = λ s h. absurd (slice_none mask s h);
      found = λ s h there. absurd (slice_none mask s h);
      some = λ s h. absurd (slice_none mask s h);
    }

pub cut_means : (schema : SchemaModel) (tables : ℕ → Rows) (v : Value) → AreWide schema tables → (n : Node) → Cut schema tables v n
cut_means schema tables v wide = ind-Node (Cut schema tables v) (λ x y is.
    rw (fold-roll-Node (Followed Rows) (followed_step schema (cut_leaf tables v) (mean_step tables)) x, fold-roll-Node (Followed (List Leaf)) (followed_step schema leaf_of leaves_step) x, fold-roll-Node Rows (mean_step tables) x)
    (subst (λ (z : Node-F Node). Cuts tables v (followed_step schema (cut_leaf tables v) (mean_step tables) (map-Node Node (Followed Rows) (followed_rows schema tables v) z))
    (followed_step schema leaf_of leaves_step (map-Node Node (Followed (List Leaf)) (followed_leaves schema) z)) (mean_step tables (map-Node Node Rows (mean tables) z))) is
    (layer schema tables v wide y)))
