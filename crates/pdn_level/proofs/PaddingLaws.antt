-- No list in a unit is longer than its padded length.
use Rattle.std.proofs.Common.{◌≡◌, ℕ, zero, suc, ◌+◌, ◌*◌, ◌≤◌, ◌==◌, Bool, true, false, not, ◌&&◌, cond, List, [], ◌∷◌, ◌++◌, filter, length, map, get_or, ◌⊎◌, inl, inr, sym, refl, ap, ap₂, ◌∙◌, subst, arith, ⊎_elim, Option, length-append, eqb-true, mul-le-mul, zero-mul, zero-add}
use Rattle.std.specs.List.{AllByRecursion, list_all, list_any, range_with_len}
use Rattle.std.proofs.lemmas.List.{length-map}
use Rattle.std.proofs.lemmas.List.FromFn.{length-range_with_len}
use Rattle.pdn_base.specs.declared.value.Value.{Value}
use Rattle.pdn_base.specs.declared.value.Value.TheVariants as value
use Rattle.pdn_base.specs.declared.order.Key.{Key}
use Rattle.pdn_base.specs.declared.cond.Cmp.{Cmp}
use Rattle.pdn_base.specs.Values.{cell, cut, same_row}
use Rattle.pdn_base.specs.Conditions.{meets}
use Rattle.pdn_base.specs.Bags.{pairs, times}
use Rattle.pdn_base.specs.Operators.{filter_rows, project_rows, join_rows, joined, group_rows, distinct_rows, number_rows, number_from, counted, allows}
use Rattle.pdn_base.proofs.RowLaws.{same_row-tests, value_cmp-ties, is_eq-tie}
use Rattle.pdn_schema.specs.Models.{SchemaModel}
use Rattle.pdn_schema.specs.Rows.{AreValid, union}
use Rattle.pdn_tree.specs.declared.node.Node.{Node, Node-F, fold-roll-Node}
use Rattle.pdn_tree.specs.declared.node.Node.TheFolds.{ind-Node, map-Node}
use Rattle.pdn_tree.specs.Shapes.{table_columns}
use Rattle.pdn_tree.specs.Meaning.{Rows, mean_step}
use Rattle.pdn_tree.specs.Columns.{Wide, has}
use Rattle.pdn_level.specs.declared.staged.Leaf.{Leaf}
use Rattle.pdn_level.specs.Links.{slice_at, links, names_column, link_at}
use Rattle.pdn_level.specs.Slices.{Followed, followed, followed_step, slices, linked, among}
use Rattle.pdn_level.specs.Levels.{leaf_of, leaves_step}
use Rattle.pdn_level.specs.Cutting.{same_value, at, mean_at, AreWide, IsPublicLeaf}
use Rattle.pdn_level.specs.Padding.{Padding, leaf_padding, padding_step, padding, cut_room, per_of, IsFew}
use Rattle.pdn_level.proofs.Lists.{both_true, cell-left, cell-right, cell-cut-at, wide-filter, wide-project, wide-pairs, all-append, all_on, all_filter, passes}
use Rattle.pdn_level.proofs.LinkLaws.{slice-within, link_links}
use Rattle.pdn_level.proofs.OperatorSlices.{all_distinct}
use Rattle.pdn_level.proofs.Tracks.{followed_slices}
use Rattle.pdn_level.proofs.TableBounds.{site_tables, site_wide, union_wide, plain_few, union_few}
use Rattle.pdn_level.proofs.PublicLeaves.{public_leaves}
use Rattle.pdn_level.proofs.Soundness.{slice_map, slice_range, slice_front, slice_none, wide_group, wide_number_from, cut_leaf, followed_rows, followed_leaves}

-- the row has v in each pinned column
abbrev pub Pins : Value → List Bool → List Value → Type 0
Pins v pinned row = (k : ℕ) → slice_at pinned k ≡ true → cell row k ≡ v

-- The rows are as wide as there are columns, have v in each pinned column, and are no more than there is room for.
pub record Fits (v : Value) (p : Padding) (rows : Rows) : Type 0 where
  pub wide : Wide (length p.pinned) rows
  pub pins : AllByRecursion (Pins v p.pinned) rows
  pub few : length rows ≤ p.room

-- no list grows by a filter or by leaving out what occurs again
pub few_filter : {X : Type 0} (p : X → Bool) (xs : List X) → length (filter p xs) ≤ length xs
few_filter p [] = omega arith
few_filter p (x ∷ xs) = by (p x) (few_filter p xs)
  where
    by : (b : Bool) → length (filter p xs) ≤ length xs → length (cond b (x ∷ filter p xs) (filter p xs)) ≤ suc (length xs)
    by true h = omega (arith, h)
    by false h = omega (arith, h)

pub few_distinct : (rows : Rows) → length (distinct_rows rows) ≤ length rows
few_distinct [] = omega arith
few_distinct (x ∷ xs) = omega (arith, few_filter (λ y. not (same_row x y)) (distinct_rows xs), few_distinct xs)

pub few_pairs : (xs ys : Rows) → length (pairs joined xs ys) ≡ length xs * length ys
few_pairs [] ys = sym (zero-mul (length ys))
few_pairs (x ∷ xs) ys = length-append (map (joined x) ys) (pairs joined xs ys) ∙ ap₂ (λ a b. a + b) (length-map ys (joined x)) (few_pairs xs ys) ∙ one_more (length xs) (length ys)
  where
    one_more : (a b : ℕ) → b + a * b ≡ suc a * b
    one_more a b = omega arith

pub number_length : (partition : List ℕ) (order : List Key) (all earlier rows : Rows) → length (number_from partition order all earlier rows) ≡ length rows
number_length partition order all earlier [] = refl
number_length partition order all earlier (x ∷ xs) = ap suc (number_length partition order all (earlier ++ x ∷ []) xs)

-- rows that are pinned in every column are one row
all_v : (v : Value) (pinned : List Bool) (row : List Value) → length row ≡ length pinned → list_all (λ p. p) pinned ≡ true → Pins v pinned row → row ≡ map (λ p. v) pinned
all_v v [] [] long all pins = refl
all_v v [] (c ∷ row) long all pins = absurd (omega (arith, long))
all_v v (p ∷ ps) [] long all pins = absurd (omega (arith, long))
all_v v (p ∷ ps) (c ∷ row) long all pins =
    let both = both_true p (list_all (λ q. q) ps) all in
    ap₂ (λ d ds. d ∷ ds) (pins 0 both.0) (all_v v ps row (omega (arith, long)) both.1 (λ k h. pins (suc k) h))

none_left : (z : List Value) (rows : Rows) → AllByRecursion (λ r. r ≡ z) rows → filter (λ y. not (same_row z y)) rows ≡ []
none_left z [] h = refl
none_left z (x ∷ xs) h = rw (ap (same_row z) h.0 ∙ same_row-tests.itself z) (none_left z xs h.1)

one_row : (z : List Value) (rows : Rows) → AllByRecursion (λ r. r ≡ z) rows → length (distinct_rows rows) ≤ 1
one_row z [] h = omega arith
one_row z (x ∷ xs) h =
    let rest : filter (λ y. not (same_row x y)) (distinct_rows xs) ≡ [] = none_left x (distinct_rows xs) (all_distinct (λ r. r ≡ x) same_row xs (all_on _ _ (λ r e. e ∙ sym h.0) xs h.1)) in
    omega (arith, ap (λ (ys : Rows). length ys) rest)

all_both : {X : Type 0} (P Q R : X → Type 0) → ((x : X) → P x → Q x → R x) → (xs : List X) → AllByRecursion P xs → AllByRecursion Q xs → AllByRecursion R xs
all_both P Q R w [] h k = tt
all_both P Q R w (x ∷ xs) h k = (w x h.0 k.0, all_both P Q R w xs h.1 k.1)

cut_few : (v : Value) (pinned : List Bool) (rows : Rows) (room : ℕ) → Wide (length pinned) rows → AllByRecursion (Pins v pinned) rows → length rows ≤ room → length (distinct_rows rows) ≤ cut_room pinned room
cut_few v pinned rows room wide pins few = by (list_all (λ p. p) pinned) refl
  where
    by : (b : Bool) → list_all (λ p. p) pinned ≡ b → length (distinct_rows rows) ≤ cond b 1 room
    by true e = one_row (map (λ p. v) pinned) rows (all_both _ _ _ (λ row long p. all_v v pinned row long e p) rows wide pins)
    by false e = omega (arith, few, few_distinct rows)

-- pins of rows that are cut, joined or made longer
pins_cut : (v : Value) (pinned : List Bool) (columns : List ℕ) (row : List Value) → Pins v pinned row → Pins v (map (slice_at pinned) columns) (cut columns row)
pins_cut v pinned columns row pins k h =
    let there = slice_map (slice_at pinned) columns k h in
    cell-cut-at columns k there.0 row ∙ pins (get_or columns k 0) there.1

pins_project : (v : Value) (pinned : List Bool) (columns : List ℕ) (rows : Rows) → AllByRecursion (Pins v pinned) rows → AllByRecursion (Pins v (map (slice_at pinned) columns)) (project_rows columns rows)
pins_project v pinned columns [] h = tt
pins_project v pinned columns (x ∷ xs) h = (pins_cut v pinned columns x h.0, pins_project v pinned columns xs h.1)

pins_more : (v : Value) (pinned : List Bool) (row more : List Value) → length row ≡ length pinned → Pins v pinned row → Pins v (pinned ++ false ∷ []) (row ++ more)
pins_more v pinned row more long pins k h =
    let here = slice_front pinned k h in
    cell-left (length pinned) row more long k (slice-within pinned k here) ∙ pins k here

slice_side : (p q : List Bool) (k : ℕ) → slice_at (p ++ q) k ≡ true → (slice_at p k ≡ true) ⊎ ((j : ℕ) × (k ≡ length p + j) × (slice_at q j ≡ true))
slice_side [] q k h = inr (k, sym (zero-add k), h)
slice_side (b ∷ p) q zero h = inl h
slice_side (b ∷ p) q (suc k) h = ⊎_elim (λ e. inl e) (λ e. inr (e.0, omega (arith, e.1), e.2)) (slice_side p q k h)

pins_joined : (v : Value) (p q : List Bool) (a b : List Value) → length a ≡ length p → Pins v p a → Pins v q b → Pins v (p ++ q) (a ++ b)
pins_joined v p q a b long pa pb k h = ⊎_elim
    (λ e. cell-left (length p) a b long k (slice-within p k e) ∙ pa k e)
    (λ e. ap (cell (a ++ b)) e.1 ∙ cell-right (length p) a b long e.0 ∙ pb e.0 e.2)
    (slice_side p q k h)

pins_row : (v : Value) (p q : List Bool) (a : List Value) (ys : Rows) → length a ≡ length p → Pins v p a → AllByRecursion (Pins v q) ys → AllByRecursion (Pins v (p ++ q)) (map (joined a) ys)
pins_row v p q a [] long pa h = tt
pins_row v p q a (y ∷ ys) long pa h = (pins_joined v p q a y long pa h.0, pins_row v p q a ys long pa h.1)

pins_pairs : (v : Value) (p q : List Bool) (xs ys : Rows) → Wide (length p) xs → AllByRecursion (Pins v p) xs → AllByRecursion (Pins v q) ys → AllByRecursion (Pins v (p ++ q)) (pairs joined xs ys)
pins_pairs v p q [] ys wide px py = tt
pins_pairs v p q (x ∷ xs) ys wide px py = all-append _ (map (joined x) ys) (pairs joined xs ys) (pins_row v p q x ys wide.0 px.0 py) (pins_pairs v p q xs ys wide.1 px.1 py)

pins_counted : (v : Value) (p : List Bool) (all rows : Rows) → Wide (length p) rows → AllByRecursion (Pins v p) rows → AllByRecursion (Pins v (p ++ false ∷ [])) (map (counted all) rows)
pins_counted v p all [] wide h = tt
pins_counted v p all (x ∷ xs) wide h = (pins_more v p x (value.Int (times same_row x all) ∷ []) wide.0 h.0, pins_counted v p all xs wide.1 h.1)

pins_number : (v : Value) (p : List Bool) (partition : List ℕ) (order : List Key) (all earlier rows : Rows) → Wide (length p) rows → AllByRecursion (Pins v p) rows → AllByRecursion (Pins v (p ++ false ∷ [])) (number_from partition order all earlier rows)
pins_number v p partition order all earlier [] wide h = tt
pins_number v p partition order all earlier (x ∷ xs) wide h = (pins_more v p x _ wide.0 h.0, pins_number v p partition order all (earlier ++ x ∷ []) xs wide.1 h.1)

-- one lemma an operator
longer : (p : List Bool) → length (p ++ false ∷ []) ≡ length p + 1
longer p = length-append p (false ∷ [])

fits_filter : (v : Value) (on : List (List Cmp)) (p : Padding) (rows : Rows) → Fits v p rows → Fits v p (filter_rows on rows)
fits_filter v on p rows f = record { wide = wide-filter _ (meets on) rows f.wide; pins = all_filter _ (meets on) rows f.pins; few = omega (arith, few_filter (meets on) rows, f.few) }

fits_project : (v : Value) (columns : List ℕ) (p : Padding) (rows : Rows) → Fits v p rows → Fits v (padding_step (Node-F.Project p columns)) (project_rows columns rows)
fits_project v columns p rows f = record {
  wide = subst (λ (n : ℕ). Wide n (project_rows columns rows)) (sym (length-map columns (slice_at p.pinned))) (wide-project columns rows);
  pins = pins_project v p.pinned columns rows f.pins;
  few = omega (arith, f.few, length-map rows (cut columns));
}

fits_join : (v : Value) (on : List (List Cmp)) (p q : Padding) (xs ys : Rows) → Fits v p xs → Fits v q ys → Fits v (padding_step (Node-F.Join p q on)) (join_rows on xs ys)
fits_join v on p q xs ys f g = record {
  wide = subst (λ (n : ℕ). Wide n (join_rows on xs ys)) (sym (length-append p.pinned q.pinned)) (wide-filter _ (meets on) (pairs joined xs ys) (wide-pairs (length p.pinned) (length q.pinned) xs ys f.wide g.wide));
  pins = all_filter _ (meets on) (pairs joined xs ys) (pins_pairs v p.pinned q.pinned xs ys f.wide f.pins g.pins);
  few = omega (arith, few_filter (meets on) (pairs joined xs ys), few_pairs xs ys, mul-le-mul f.few g.few);
}

fits_group : (v : Value) (keys : List ℕ) (having : Option ℕ) (p : Padding) (rows : Rows) → Fits v p rows → Fits v (padding_step (Node-F.Group p keys having)) (group_rows keys having rows)
fits_group v keys having p rows f =
    let mask : List Bool = map (slice_at p.pinned) keys in
    let all : Rows = project_rows keys rows in
    let often : List Value → Bool = λ key. allows having (times same_row key all) in
    let long : length keys ≡ length mask = sym (length-map keys (slice_at p.pinned)) in
    let wide : Wide (length mask) all = subst (λ (n : ℕ). Wide n all) long (wide-project keys rows) in
    let pins : AllByRecursion (Pins v mask) all = pins_project v p.pinned keys rows f.pins in
    let kept : Rows = filter often (distinct_rows all) in record {
      wide = subst (λ (n : ℕ). Wide n (group_rows keys having rows)) (omega (arith, long, longer mask)) (wide_group keys having rows);
      pins = pins_counted v mask all kept (all_filter _ often _ (all_distinct _ same_row all wide)) (all_filter _ often _ (all_distinct _ same_row all pins));
      few = omega (arith, length-map kept (counted all), few_filter often (distinct_rows all), cut_few v mask all p.room wide pins (omega (arith, f.few, length-map rows (cut keys))));
    }

fits_distinct : (v : Value) (p : Padding) (rows : Rows) → Fits v p rows → Fits v (padding_step (Node-F.Distinct p)) (distinct_rows rows)
fits_distinct v p rows f = record { wide = all_distinct _ same_row rows f.wide; pins = all_distinct _ same_row rows f.pins; few = cut_few v p.pinned rows p.room f.wide f.pins f.few }

fits_number : (v : Value) (partition : List ℕ) (order : List Key) (p : Padding) (rows : Rows) → Fits v p rows → Fits v (padding_step (Node-F.Number p partition order)) (number_rows partition order rows)
fits_number v partition order p rows f = record {
  wide = subst (λ (n : ℕ). Wide n (number_rows partition order rows)) (sym (longer p.pinned)) (wide_number_from (length p.pinned) partition order rows [] rows f.wide);
  pins = pins_number v p.pinned partition order rows [] rows f.wide f.pins;
  few = omega (arith, f.few, number_length partition order rows [] rows);
}

-- every leaf of a slice column has few rows, and then the list fits, where c is a slice column
pub record Pads (schema : SchemaModel) (tables : ℕ → Rows) (sites : ℕ) (v : Value) (r : Followed Rows) (l : Followed (List Leaf)) (p : Followed Padding) : Type 0 where
  pub leaves : l.slices ≡ r.slices
  pub paddings : p.slices ≡ r.slices
  pub fits : (c : ℕ) → slice_at r.slices c ≡ true → AllByRecursion (IsFew schema tables sites v) (l.at c) → Fits v (p.at c) (r.at c)

abbrev pub followed_padding : SchemaModel → ℕ → Node → Followed Padding
followed_padding schema sites = followed schema (leaf_padding schema sites) padding_step

abbrev Pad : SchemaModel → (ℕ → Rows) → ℕ → Value → Node → Type 0
Pad schema tables sites v n = Pads schema tables sites v (followed_rows schema tables v n) (followed_leaves schema n) (followed_padding schema sites n)

all-first : {X : Type 0} (P : X → Type 0) (xs ys : List X) → AllByRecursion P (xs ++ ys) → AllByRecursion P xs × AllByRecursion P ys
all-first P [] ys h = (tt, h)
all-first P (x ∷ xs) ys h =
    let rest = all-first P xs ys h.1 in
    ((h.0, rest.0), rest.1)

-- the one column that a leaf pins
pinned_is : (n k c : ℕ) → slice_at (map (λ j. j == c) (range_with_len 0 n)) k ≡ true → k ≡ c
pinned_is n k c h = eqb-true k c (slice_range (λ j. j == c) n k h).1

all_at : (c : ℕ) (v : Value) (n : ℕ) (rows : Rows) → AllByRecursion (λ row. same_value v (cell row c) ≡ true) rows → AllByRecursion (Pins v (map (λ j. j == c) (range_with_len 0 n))) rows
all_at c v n rows h = all_on _ _ (λ row same k at_k. ap (cell row) (pinned_is n k c at_k) ∙ sym (value_cmp-ties v (cell row c) (is_eq-tie _ same))) rows h

fits_leaf : (schema : SchemaModel) (tables : ℕ → Rows) (sites : ℕ) (v : Value) (table c : ℕ) → AreWide schema tables → length (at c v (tables table)) ≤ sites * per_of schema table c → Fits v (leaf_padding schema sites table c) (at c v (tables table))
fits_leaf schema tables sites v table c wide few =
    let n : ℕ = length (table_columns schema table) in record {
      wide = subst (λ (w : ℕ). Wide w (at c v (tables table))) (sym (length-map (range_with_len 0 n) (λ j. j == c) ∙ length-range_with_len 0 n)) (wide-filter n (λ row. same_value v (cell row c)) (tables table) (wide table));
      pins = all_at c v n (at c v (tables table)) (passes (λ row. same_value v (cell row c)) (tables table));
      few = few;
    }

pad_join : (schema : SchemaModel) (tables : ℕ → Rows) (sites : ℕ) (v : Value) (on : List (List Cmp)) (r q : Followed Rows) (l m : Followed (List Leaf)) (p o : Followed Padding) → Pads schema tables sites v r l p → Pads schema tables sites v q m o
    → (s : ℕ) → slice_at (linked r.slices q.slices on) s ≡ true → (a b c d : List Bool) → a ≡ r.slices → b ≡ q.slices → c ≡ r.slices → d ≡ q.slices
    → AllByRecursion (IsFew schema tables sites v) (l.at (link_at a b on s).left ++ m.at (link_at a b on s).right)
    → Fits v (padding_step (Node-F.Join (p.at (link_at c d on s).left) (o.at (link_at c d on s).right) on)) (join_rows on (r.at (link_at r.slices q.slices on s).left) (q.at (link_at r.slices q.slices on s).right))
pad_join schema tables sites v on r q l m p o pr pq s h a b c d ea eb ec ed few =
    let link = link_at r.slices q.slices on s in
    let k = link_links r.slices q.slices on s (slice_range (λ j. list_any (names_column (length r.slices) j) (links r.slices q.slices on)) (length r.slices + length q.slices) s h).1 in
    let parts = all-first (IsFew schema tables sites v) (l.at link.left) (m.at link.right)
    (subst (λ (x : List Bool). AllByRecursion (IsFew schema tables sites v) (l.at (link_at x q.slices on s).left ++ m.at (link_at x q.slices on s).right)) ea
    (subst (λ (y : List Bool). AllByRecursion (IsFew schema tables sites v) (l.at (link_at a y on s).left ++ m.at (link_at a y on s).right)) eb few)) in
    let whole : Fits v (padding_step (Node-F.Join (p.at link.left) (o.at link.right) on)) (join_rows on (r.at link.left) (q.at link.right)) =
    fits_join v on (p.at link.left) (o.at link.right) _ _ (pr.fits link.left k.linked.left_has parts.0) (pq.fits link.right k.linked.right_has parts.1) in
    subst (λ (x : List Bool). Fits v (padding_step (Node-F.Join (p.at (link_at x d on s).left) (o.at (link_at x d on s).right) on)) (join_rows on (r.at link.left) (q.at link.right))) (sym ec)
    (subst (λ (y : List Bool). Fits v (padding_step (Node-F.Join (p.at (link_at r.slices y on s).left) (o.at (link_at r.slices y on s).right) on)) (join_rows on (r.at link.left) (q.at link.right))) (sym ed) whole)

layer : (schema : SchemaModel) (tables : ℕ → Rows) (sites : ℕ) (v : Value) → AreWide schema tables → (y : Node-F ((n : Node) × Pad schema tables sites v n))
    → Pads schema tables sites v (followed_step schema (cut_leaf tables v) (mean_step tables) (map-Node Node (Followed Rows) (followed_rows schema tables v) (map-Node ((n : Node) × Pad schema tables sites v n) Node (λ e. e.0) y)))
    (followed_step schema leaf_of leaves_step (map-Node Node (Followed (List Leaf)) (followed_leaves schema) (map-Node ((n : Node) × Pad schema tables sites v n) Node (λ e. e.0) y)))
    (followed_step schema (leaf_padding schema sites) padding_step (map-Node Node (Followed Padding) (followed_padding schema sites) (map-Node ((n : Node) × Pad schema tables sites v n) Node (λ e. e.0) y)))
layer schema tables sites v wide (Node-F.Scan table) = record { leaves = refl; paddings = refl; fits = λ s h few. fits_leaf schema tables sites v table s wide few.0 }
layer schema tables sites v wide (Node-F.Filter child condition) = record { leaves = child.1.leaves; paddings = child.1.paddings; fits = λ s h few. fits_filter v condition _ _ (child.1.fits s h few) }
layer schema tables sites v wide (Node-F.Project child columns) = record {
  leaves = ap (λ (bs : List Bool). map (slice_at bs) columns) child.1.leaves;
  paddings = ap (λ (bs : List Bool). map (slice_at bs) columns) child.1.paddings;
  fits = λ s h few. fits_project v columns _ _ (child.1.fits (get_or columns s 0) (slice_map (slice_at (followed_rows schema tables v child.0).slices) columns s h).1 few);
}
layer schema tables sites v wide (Node-F.Join left right on) = record {
  leaves = ap₂ (λ (bs cs : List Bool). linked bs cs on) left.1.leaves right.1.leaves;
  paddings = ap₂ (λ (bs cs : List Bool). linked bs cs on) left.1.paddings right.1.paddings;
  fits = λ s h few. pad_join schema tables sites v on (followed_rows schema tables v left.0) (followed_rows schema tables v right.0) (followed_leaves schema left.0) (followed_leaves schema right.0) (followed_padding schema sites left.0) (followed_padding schema sites right.0)
      left.1 right.1 s h _ _ _ _ left.1.leaves right.1.leaves left.1.paddings right.1.paddings few;
}
layer schema tables sites v wide (Node-F.Group child keys having) = record {
  leaves = ap (λ (bs : List Bool). map (slice_at bs) keys ++ false ∷ []) child.1.leaves;
  paddings = ap (λ (bs : List Bool). map (slice_at bs) keys ++ false ∷ []) child.1.paddings;
  fits = λ s h few. fits_group v keys having _ _ (child.1.fits (get_or keys s 0) (slice_map (slice_at (followed_rows schema tables v child.0).slices) keys s (slice_front _ s h)).1 few);
}
layer schema tables sites v wide (Node-F.Count child) = record { leaves = refl; paddings = refl; fits = λ s h few. absurd (slice_none (false ∷ []) s h) }
layer schema tables sites v wide (Node-F.Distinct child) = record { leaves = child.1.leaves; paddings = child.1.paddings; fits = λ s h few. fits_distinct v _ _ (child.1.fits s h few) }
layer schema tables sites v wide (Node-F.Number child partition order) =
    let mask : List Bool = (followed_rows schema tables v child.0).slices in record {
      leaves = ap (λ (bs : List Bool). among partition bs ++ false ∷ []) child.1.leaves;
      paddings = ap (λ (bs : List Bool). among partition bs ++ false ∷ []) child.1.paddings;
      fits = λ s h few. fits_number v partition order _ _ (child.1.fits s (both_true _ _ (slice_range (λ j. has partition j && slice_at mask j) (length mask) s (slice_front _ s h)).1).1 few);
    }
layer schema tables sites v wide (Node-F.Top child order limit) = record {
  leaves = ap (λ (bs : List Bool). map (λ b. false) bs) child.1.leaves;
  paddings = ap (λ (bs : List Bool). map (λ b. false) bs) child.1.paddings;
  fits = λ s h few. absurd (slice_none (followed_rows schema tables v child.0).slices s h);
}

pad_means : (schema : SchemaModel) (tables : ℕ → Rows) (sites : ℕ) (v : Value) → AreWide schema tables → (n : Node) → Pad schema tables sites v n
pad_means schema tables sites v wide = ind-Node (Pad schema tables sites v) (λ x y is.
    rw (fold-roll-Node (Followed Rows) (followed_step schema (cut_leaf tables v) (mean_step tables)) x, fold-roll-Node (Followed (List Leaf)) (followed_step schema leaf_of leaves_step) x, fold-roll-Node (Followed Padding) (followed_step schema (leaf_padding schema sites) padding_step) x)
    (subst (λ (z : Node-F Node). Pads schema tables sites v (followed_step schema (cut_leaf tables v) (mean_step tables) (map-Node Node (Followed Rows) (followed_rows schema tables v) z))
    (followed_step schema leaf_of leaves_step (map-Node Node (Followed (List Leaf)) (followed_leaves schema) z))
    (followed_step schema (leaf_padding schema sites) padding_step (map-Node Node (Followed Padding) (followed_padding schema sites) z))) is
    (layer schema tables sites v wide y)))

-- where the leaves' rows are few, the list of a slice column is no longer than its padded length
pub within_padding : (schema : SchemaModel) (tables : ℕ → Rows) (sites : ℕ) (v : Value) (n : Node) (c : ℕ) → AreWide schema tables → slice_at (slices schema n) c ≡ true → AllByRecursion (IsFew schema tables sites v) ((followed_leaves schema n).at c)
    → length (mean_at schema tables v n c) ≤ (padding schema sites n c).room
within_padding schema tables sites v n c wide h few =
    ((pad_means schema tables sites v wide n).fits c (subst (λ (bs : List Bool). slice_at bs c ≡ true) (sym (followed_slices schema (cut_leaf tables v) (mean_step tables) n)) h) few).few

-- over valid tables the leaves' rows are few
leaves_open : (schema : SchemaModel) (n : Node) (c : ℕ) → slice_at (slices schema n) c ≡ true → AllByRecursion (IsPublicLeaf schema) ((followed_leaves schema n).at c)
leaves_open schema n c h = public_leaves schema n c (subst (λ (bs : List Bool). slice_at bs c ≡ true) (sym (followed_slices schema leaf_of leaves_step n)) h)

pub within_both : (schema : SchemaModel) (a b : List Rows) (v : Value) (n : Node) (c : ℕ) → AreValid schema a → AreValid schema b → slice_at (slices schema n) c ≡ true → length (mean_at schema (union a b) v n c) ≤ (padding schema 2 n c).room
within_both schema a b v n c va vb h = within_padding schema (union a b) 2 v n c (union_wide schema a b va vb) h (all_on _ _ (λ leaf o. union_few schema a b v leaf va vb o) _ (leaves_open schema n c h))

pub within_one : (schema : SchemaModel) (tables : List Rows) (v : Value) (n : Node) (c : ℕ) → AreValid schema tables → slice_at (slices schema n) c ≡ true → length (mean_at schema (site_tables tables) v n c) ≤ (padding schema 1 n c).room
within_one schema tables v n c valid h = within_padding schema (site_tables tables) 1 v n c (site_wide schema tables valid) h (all_on _ _ (λ leaf o. plain_few schema tables v leaf valid o) _ (leaves_open schema n c h))
