-- What a tree means whose leaves read only the rows with a value.
use Rattle.std.proofs.Common.{◌≡◌, ℕ, ◌+◌, Bool, true, false, List, [], ◌++◌, drop, length, get_or, refl, sym, ap, ap₂, ◌∙◌, subst, ⊎_elim, append_assoc, length-append, drop_at}
use Rattle.std.proofs.lemmas.Bool.{cases_Bool}
use Rattle.std.specs.Ordering.{is_eq}
use Rattle.pdn_base.specs.declared.value.Value.{Value}
use Rattle.pdn_base.specs.declared.value.Value.TheVariants as value
use Rattle.pdn_base.specs.declared.cond.Cmp.{Cmp}
use Rattle.pdn_base.specs.Values.{cell, value_cmp}
use Rattle.pdn_base.specs.Conditions.{meets, operand_value}
use Rattle.pdn_base.specs.Operators.{filter_rows, project_rows, join_rows, group_rows, count_rows, distinct_rows, number_rows, top_rows}
use Rattle.pdn_base.proofs.RowLaws.{value_cmp-ties, is_eq-tie}
use Rattle.pdn_schema.specs.Models.{SchemaModel}
use Rattle.pdn_tree.specs.declared.node.Node.{Node, Node-F, fold-roll-Node, roll-Node}
use Rattle.pdn_tree.specs.declared.node.Node.TheFolds.{ind-Node, map-Node}
use Rattle.pdn_tree.specs.declared.node.Node.TheVariants as node
use Rattle.pdn_tree.specs.declared.node.Node.TheVariants.{rolls-Scan, rolls-Filter, rolls-Project, rolls-Join, rolls-Group, rolls-Count, rolls-Distinct, rolls-Number, rolls-Top}
use Rattle.pdn_tree.specs.Meaning.{Rows, mean, mean_step}
use Rattle.pdn_level.specs.declared.staged.Leaf.{Leaf}
use Rattle.pdn_level.specs.Links.{link_at}
use Rattle.pdn_level.specs.Slices.{Followed, followed, followed_step, slice_step}
use Rattle.pdn_level.specs.Levels.{leaf_of, leaves_step, leaves_of}
use Rattle.pdn_level.specs.Cutting.{at, same_value, mean_at}
use Rattle.pdn_level.proofs.Lists.{filter-agree}
use Rattle.pdn_level.proofs.Soundness.{followed_leaves, cut_leaf}
use Rattle.pdn_level.proofs.Tracks.{survey_track}
use Rattle.pdn_site.specs.Narrowing.{constant, has_value, Narrowing, narrowing_step, narrowing, narrowed, scans}

-- ---- the condition that a column has a value
either_way : (x y : Value) → is_eq (value_cmp x y) ≡ is_eq (value_cmp y x)
either_way x y = ⊎_elim (λ e. same (value_cmp-ties x y (is_eq-tie _ e))) (λ e. ⊎_elim (λ f. same (sym (value_cmp-ties y x (is_eq-tie _ f)))) (λ f. e ∙ sym f) (cases_Bool (is_eq (value_cmp y x)))) (cases_Bool (is_eq (value_cmp x y)))
  where
    same : x ≡ y → is_eq (value_cmp x y) ≡ is_eq (value_cmp y x)
    same e = subst (λ (z : Value). is_eq (value_cmp x z) ≡ is_eq (value_cmp z x)) e refl

is_constant : (v : Value) (row : List Value) → operand_value (constant v) row ≡ v
is_constant (value.Int n) row = refl
is_constant (value.Code c) row = refl

meets_one : (b : Bool) (v : Value) (column : ℕ) (row : List Value) → is_eq (value_cmp (cell row column) (operand_value (constant v) row)) ≡ b → meets (has_value column v) row ≡ b
meets_one true v column row e = rw e refl
meets_one false v column row e = rw e refl

meets_value : (column : ℕ) (v : Value) (row : List Value) → meets (has_value column v) row ≡ same_value v (cell row column)
meets_value column v row = meets_one (same_value v (cell row column)) v column row (ap (λ w. is_eq (value_cmp (cell row column) w)) (is_constant v row) ∙ either_way (cell row column) v)

-- ---- each node
-- what a node means, by its children
pub mean_of : (tables : ℕ → Rows) (n : Node) (layer : Node-F Node) → roll-Node layer ≡ n → mean tables n ≡ mean_step tables (map-Node Node Rows (mean tables) layer)
mean_of tables n layer is = ap (mean tables) (sym is) ∙ fold-roll-Node Rows (mean_step tables) layer

module _ (schema : SchemaModel) (tables : ℕ → Rows) (v : Value) where
  -- what leaves, a narrowing and rows have to do with each other, which one column is followed to
  pub record Agree (l : Followed (List Leaf)) (g : Narrowing) (m : Followed Rows) : Type 0 where
    pub same : l.slices ≡ m.slices
    pub count : (c : ℕ) → length (l.at c) ≡ g.scans
    pub means : (c : ℕ) (rest : List Leaf) → mean tables (g.tree (l.at c ++ rest)) ≡ m.at c

  abbrev leaves_step_of : Node-F (Followed (List Leaf)) → Followed (List Leaf)
  leaves_step_of = followed_step schema leaf_of leaves_step

  abbrev rows_step_of : Node-F (Followed Rows) → Followed Rows
  rows_step_of = followed_step schema (cut_leaf tables v) (mean_step tables)

  pub scan_means : (table c : ℕ) → mean tables (node.Filter (node.Scan table) (has_value c v)) ≡ at c v (tables table)
  scan_means table c = mean_of tables _ (Node-F.Filter (node.Scan table) (has_value c v)) (rolls-Filter (node.Scan table) (has_value c v)) ∙ ap (filter_rows (has_value c v)) (mean_of tables _ (Node-F.Scan table) (rolls-Scan table)) ∙ filter-agree (meets (has_value c v)) (λ row. same_value v (cell row c)) (meets_value c v) (tables table)

  join_means : (ll lr : Followed (List Leaf)) (gl gr : Narrowing) (ml mr : Followed Rows) (on : List (List Cmp)) → Agree ll gl ml → Agree lr gr mr
      → (c : ℕ) (rest : List Leaf) → mean tables ((narrowing_step v (Node-F.Join gl gr on)).tree ((leaves_step_of (Node-F.Join ll lr on)).at c ++ rest)) ≡ (rows_step_of (Node-F.Join ml mr on)).at c
  join_means ll lr gl gr ml mr on left right c rest =
      let k = link_at ll.slices lr.slices on c in
      let la : List Leaf = ll.at k.left in
      let lb : List Leaf = lr.at k.right in
      let link : k ≡ link_at ml.slices mr.slices on c = ap₂ (λ p q. link_at p q on c) left.same right.same in
      let first : mean tables (gl.tree ((la ++ lb) ++ rest)) ≡ ml.at (link_at ml.slices mr.slices on c).left =
      ap (λ (ls : List Leaf). mean tables (gl.tree ls)) (append_assoc la lb rest) ∙ left.means k.left (lb ++ rest) ∙ ap (λ j. ml.at j.left) link in
      let past : drop gl.scans ((la ++ lb) ++ rest) ≡ lb ++ rest = ap (drop gl.scans) (append_assoc la lb rest) ∙ drop_at la (lb ++ rest) gl.scans (left.count k.left) in
      let second : mean tables (gr.tree (drop gl.scans ((la ++ lb) ++ rest))) ≡ mr.at (link_at ml.slices mr.slices on c).right =
      ap (λ (ls : List Leaf). mean tables (gr.tree ls)) past ∙ right.means k.right rest ∙ ap (λ j. mr.at j.right) link in
      mean_of tables _ (Node-F.Join (gl.tree ((la ++ lb) ++ rest)) (gr.tree (drop gl.scans ((la ++ lb) ++ rest))) on) (rolls-Join _ _ on) ∙ ap₂ (join_rows on) first second

  abbrev Narrows : Node → Type 0
  Narrows n = Agree (followed_leaves schema n) (narrowing v n) (followed schema (cut_leaf tables v) (mean_step tables) n)

  layer : (y : Node-F ((n : Node) × Narrows n)) → Agree
      (leaves_step_of (map-Node Node (Followed (List Leaf)) (followed_leaves schema) (map-Node ((n : Node) × Narrows n) Node (λ e. e.0) y)))
      (narrowing_step v (map-Node Node Narrowing (narrowing v) (map-Node ((n : Node) × Narrows n) Node (λ e. e.0) y)))
      (rows_step_of (map-Node Node (Followed Rows) (followed schema (cut_leaf tables v) (mean_step tables)) (map-Node ((n : Node) × Narrows n) Node (λ e. e.0) y)))
  layer (Node-F.Scan table) = record {
    same = refl;
    count = λ c. refl;
    means = λ c rest. scan_means table c;
  }
  layer (Node-F.Filter child cond) = record {
    same = child.1.same;
    count = child.1.count;
    means = λ c rest. mean_of tables _ (Node-F.Filter _ cond) (rolls-Filter _ cond) ∙ ap (filter_rows cond) (child.1.means c rest);
  }
  layer (Node-F.Project child columns) = record {
    same = ap (λ (bs : List Bool). slice_step schema (Node-F.Project bs columns)) child.1.same;
    count = λ c. child.1.count (get_or columns c 0);
    means = λ c rest. mean_of tables _ (Node-F.Project _ columns) (rolls-Project _ columns) ∙ ap (project_rows columns) (child.1.means (get_or columns c 0) rest);
  }
  layer (Node-F.Join left right on) = record {
    same = ap₂ (λ (bs cs : List Bool). slice_step schema (Node-F.Join bs cs on)) left.1.same right.1.same;
    count = λ c. length-append _ _ ∙ ap₂ (λ a b. a + b) (left.1.count _) (right.1.count _);
    means = join_means _ _ _ _ _ _ on left.1 right.1;
  }
  layer (Node-F.Group child keys having) = record {
    same = ap (λ (bs : List Bool). slice_step schema (Node-F.Group bs keys having)) child.1.same;
    count = λ c. child.1.count (get_or keys c 0);
    means = λ c rest. mean_of tables _ (Node-F.Group _ keys having) (rolls-Group _ keys having) ∙ ap (group_rows keys having) (child.1.means (get_or keys c 0) rest);
  }
  layer (Node-F.Count child) = record {
    same = refl;
    count = child.1.count;
    means = λ c rest. mean_of tables _ (Node-F.Count _) (rolls-Count _) ∙ ap count_rows (child.1.means c rest);
  }
  layer (Node-F.Distinct child) = record {
    same = child.1.same;
    count = child.1.count;
    means = λ c rest. mean_of tables _ (Node-F.Distinct _) (rolls-Distinct _) ∙ ap distinct_rows (child.1.means c rest);
  }
  layer (Node-F.Number child partition order) = record {
    same = ap (λ (bs : List Bool). slice_step schema (Node-F.Number bs partition order)) child.1.same;
    count = child.1.count;
    means = λ c rest. mean_of tables _ (Node-F.Number _ partition order) (rolls-Number _ partition order) ∙ ap (number_rows partition order) (child.1.means c rest);
  }
  layer (Node-F.Top child order limit) = record {
    same = ap (λ (bs : List Bool). slice_step schema (Node-F.Top bs order limit)) child.1.same;
    count = child.1.count;
    means = λ c rest. mean_of tables _ (Node-F.Top _ order limit) (rolls-Top _ order limit) ∙ ap (top_rows order limit) (child.1.means c rest);
  }

  pub narrows : (n : Node) → Narrows n
  narrows = ind-Node Narrows (λ x y is.
      rw (fold-roll-Node (Followed (List Leaf)) (followed_step schema leaf_of leaves_step) x, fold-roll-Node Narrowing (narrowing_step v) x, fold-roll-Node (Followed Rows) (followed_step schema (cut_leaf tables v) (mean_step tables)) x)
      (subst (λ (z : Node-F Node). Agree
      (leaves_step_of (map-Node Node (Followed (List Leaf)) (followed_leaves schema) z))
      (narrowing_step v (map-Node Node Narrowing (narrowing v) z))
      (rows_step_of (map-Node Node (Followed Rows) (followed schema (cut_leaf tables v) (mean_step tables)) z))) is (layer y)))

-- ---- through the leaves to which its slice column is traced, a tree means what it means at the value
pub narrowed_means : (schema : SchemaModel) (tables : ℕ → Rows) (v : Value) (n : Node) (column : ℕ) (leaves rest : List Leaf) → leaves ≡ leaves_of schema n column ++ rest → mean tables (narrowed v n leaves) ≡ mean_at schema tables v n column
narrowed_means schema tables v n column leaves rest e =
    ap (λ (ls : List Leaf). mean tables (narrowed v n ls)) (e ∙ ap (λ (t : Followed (List Leaf)). t.at column ++ rest) (survey_track schema n)) ∙ (narrows schema tables v n).means column rest

pub counted_leaves : (schema : SchemaModel) (v : Value) (n : Node) (column : ℕ) → length (leaves_of schema n column) ≡ scans v n
counted_leaves schema v n column = ap (λ (t : Followed (List Leaf)). length (t.at column)) (survey_track schema n) ∙ (narrows schema (λ t. []) v n).count column
