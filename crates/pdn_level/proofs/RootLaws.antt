-- No list in the root is longer than its padded length.
use Rattle.std.proofs.Common.{◌≡◌, ℕ, zero, suc, ◌*◌, ◌≤◌, Bool, List, [], ◌∷◌, ◌++◌, filter, length, take, get_or, sym, refl, ap, ap₂, ◌∙◌, subst, arith, Option, Some, None, length-append, append_assoc, append-nil, mul-le-mul}
use Rattle.std.proofs.lemmas.List.{length-map}
use Rattle.pdn_base.specs.declared.value.Value.{Value}
use Rattle.pdn_base.specs.declared.order.Key.{Key}
use Rattle.pdn_base.specs.declared.cond.Cmp.{Cmp}
use Rattle.pdn_base.specs.Values.{cut, same_row}
use Rattle.pdn_base.specs.Conditions.{meets}
use Rattle.pdn_base.specs.Bags.{pairs, times}
use Rattle.pdn_base.specs.Operators.{project_rows, join_rows, joined, group_rows, distinct_rows, top_rows, listed, limited, counted, allows}
use Rattle.pdn_base.proofs.Perms.{Perm-length}
use Rattle.pdn_base.proofs.Listing.{listed-rows}
use Rattle.pdn_schema.specs.Models.{SchemaModel}
use Rattle.pdn_schema.specs.Rows.{AreValid, union}
use Rattle.pdn_tree.specs.declared.node.Node.{Node, Node-F, fold-roll-Node, out-Node, roll-Node, out-roll-Node}
use Rattle.pdn_tree.specs.declared.node.Node.TheFolds.{ind-Node, map-Node}
use Rattle.pdn_tree.specs.Meaning.{Rows, mean, mean_step}
use Rattle.pdn_level.specs.declared.staged.Level.{Level}
use Rattle.pdn_level.specs.declared.staged.Level.TheVariants as level
use Rattle.pdn_level.specs.Levels.{Survey, survey, survey_step, level_of_node}
use Rattle.pdn_level.specs.Cutting.{child_of}
use Rattle.pdn_level.specs.Padding.{rows_of, Rooted, room_at, rooted_over, room_below, rooted_step, rooted, root_room, SegmentsFit}
use Rattle.pdn_level.proofs.PaddingLaws.{few_filter, few_distinct, few_pairs, number_length}
use Rattle.pdn_level.proofs.TableBounds.{site_rows}

-- how long an operator's rows may be
few_group : (keys : List ℕ) (having : Option ℕ) (rows : Rows) → length (group_rows keys having rows) ≤ length rows
few_group keys having rows =
    let all : Rows = project_rows keys rows in
    let often : List Value → Bool = λ key. allows having (times same_row key all) in
    omega (arith, length-map (filter often (distinct_rows all)) (counted all), few_filter often (distinct_rows all), few_distinct all, length-map rows (cut keys))

few_take : (n : ℕ) (rows : Rows) → length (take n rows) ≤ length rows
few_take zero rows = omega arith
few_take (suc n) [] = omega arith
few_take (suc n) (x ∷ xs) = omega (arith, few_take n xs)

few_limited : (limit : Option ℕ) (rows : Rows) → length (limited limit rows) ≤ length rows
few_limited None rows = omega arith
few_limited (Some n) rows = few_take n rows

few_top : (order : List Key) (limit : Option ℕ) (rows : Rows) → length (top_rows order limit rows) ≤ length rows
few_top order limit rows = omega (arith, few_limited limit (listed order rows), Perm-length (listed-rows order rows))

few_join : (on : List (List Cmp)) (xs ys : Rows) (m n : ℕ) → length xs ≤ m → length ys ≤ n → length (join_rows on xs ys) ≤ m * n
few_join on xs ys m n h k = omega (arith, few_filter (meets on) (pairs joined xs ys), few_pairs xs ys, mul-le-mul h k)

module _ (schema : SchemaModel) (a b : List Rows) (units : List ℕ → ℕ) (va : AreValid schema a) (vb : AreValid schema b) where
  abbrev Means : Node → Rows
  Means = mean (union a b)

  abbrev Fit : List ℕ → Node → Type 0
  Fit path n = SegmentsFit schema (union a b) units path n

  -- a tree's survey, and that its list has room
  abbrev Root : Node → Type 0
  Root n = ((rooted schema units n).survey ≡ survey schema n) × ((path : List ℕ) → Fit path n → length (Means n) ≤ (rooted schema units n).room path)

  by_level : (n : Node) (path : List ℕ) (other : ℕ) → Fit path n → length (Means n) ≤ other → (l : Level) → level_of_node schema n ≡ l → length (Means n) ≤ room_at l (units path) other
  by_level n path other fit h level.Local e = h
  by_level n path other fit h level.Sliced e = subst (λ (p : List ℕ). length (Means n) ≤ units p) (append-nil path) (fit [] n refl e)
  by_level n path other fit h level.Secure e = h

  over : (n : Node) (s : Survey) (room : List ℕ → ℕ) → rooted schema units n ≡ rooted_over units s room → s ≡ survey schema n → ((path : List ℕ) → Fit path n → length (Means n) ≤ room path) → Root n
  over n s room e same h = (
    ap (λ (r : Rooted). r.survey) e ∙ same,
    λ path fit. subst (λ (r : Rooted). length (Means n) ≤ r.room path) (sym e)
        (subst (λ (u : Survey). length (Means n) ≤ room_at u.level (units path) (room path)) (sym same)
        (by_level n path (room path) fit (h path fit) (survey schema n).level refl)),
  )

  -- the segments below
  further : (n child : Node) (k : ℕ) → child_of k (out-Node n) ≡ Some child → (path : List ℕ) → Fit path n → Fit (path ++ k ∷ []) child
  further n child k is path fit way top there sliced = subst (λ (p : List ℕ). length (Means top) ≤ units p) (sym (append_assoc path (k ∷ []) way)) (fit (k ∷ way) top (child, is, there) sliced)

  -- a node that reads one list, and has no more rows than it reads
  one : (n child : Node) → child_of 0 (out-Node n) ≡ Some child → Root child → length (Means n) ≤ length (Means child) → (path : List ℕ) → Fit path n → length (Means n) ≤ room_below 0 (rooted schema units child) path
  one n child is root few path fit = omega (arith, few, root.1 (path ++ 0 ∷ []) (further n child 0 is path fit))

  layer : (y : Node-F ((n : Node) × Root n)) (n : Node) → out-Node n ≡ map-Node ((n : Node) × Root n) Node (λ e. e.0) y
      → Means n ≡ mean_step (union a b) (map-Node Node Rows Means (map-Node ((n : Node) × Root n) Node (λ e. e.0) y))
      → survey schema n ≡ survey_step schema (map-Node Node Survey (survey schema) (map-Node ((n : Node) × Root n) Node (λ e. e.0) y))
      → rooted schema units n ≡ rooted_step schema units (map-Node Node Rooted (rooted schema units) (map-Node ((n : Node) × Root n) Node (λ e. e.0) y)) → Root n
  layer (Node-F.Scan table) n o m s r = over n (survey_step schema (Node-F.Scan table)) (λ path. 2 * rows_of schema table) r (sym s)
      (λ path fit. omega (arith, ap (λ (rows : Rows). length rows) m, length-append (get_or a table []) (get_or b table []), site_rows schema a table va, site_rows schema b table vb))
  layer (Node-F.Filter child condition) n o m s r = over n (survey_step schema (Node-F.Filter (rooted schema units child.0).survey condition)) (room_below 0 (rooted schema units child.0)) r (ap (λ (t : Survey). survey_step schema (Node-F.Filter t condition)) child.1.0 ∙ sym s)
      (one n child.0 (ap (child_of 0) o) child.1 (omega (arith, ap (λ (rows : Rows). length rows) m, few_filter (meets condition) (Means child.0))))
  layer (Node-F.Project child columns) n o m s r = over n (survey_step schema (Node-F.Project (rooted schema units child.0).survey columns)) (room_below 0 (rooted schema units child.0)) r (ap (λ (t : Survey). survey_step schema (Node-F.Project t columns)) child.1.0 ∙ sym s)
      (one n child.0 (ap (child_of 0) o) child.1 (omega (arith, ap (λ (rows : Rows). length rows) m, length-map (Means child.0) (cut columns))))
  layer (Node-F.Join left right on) n o m s r = over n (survey_step schema (Node-F.Join (rooted schema units left.0).survey (rooted schema units right.0).survey on)) (λ path. room_below 0 (rooted schema units left.0) path * room_below 1 (rooted schema units right.0) path) r
      (ap₂ (λ (t u : Survey). survey_step schema (Node-F.Join t u on)) left.1.0 right.1.0 ∙ sym s)
      (λ path fit. omega (arith, ap (λ (rows : Rows). length rows) m, few_join on (Means left.0) (Means right.0) _ _ (left.1.1 (path ++ 0 ∷ []) (further n left.0 0 (ap (child_of 0) o) path fit)) (right.1.1 (path ++ 1 ∷ []) (further n right.0 1 (ap (child_of 1) o) path fit))))
  layer (Node-F.Group child keys having) n o m s r = over n (survey_step schema (Node-F.Group (rooted schema units child.0).survey keys having)) (room_below 0 (rooted schema units child.0)) r (ap (λ (t : Survey). survey_step schema (Node-F.Group t keys having)) child.1.0 ∙ sym s)
      (one n child.0 (ap (child_of 0) o) child.1 (omega (arith, ap (λ (rows : Rows). length rows) m, few_group keys having (Means child.0))))
  layer (Node-F.Count child) n o m s r = over n (survey_step schema (Node-F.Count (rooted schema units child.0).survey)) (λ path. 1) r (ap (λ (t : Survey). survey_step schema (Node-F.Count t)) child.1.0 ∙ sym s)
      (λ path fit. omega (arith, ap (λ (rows : Rows). length rows) m))
  layer (Node-F.Distinct child) n o m s r = over n (survey_step schema (Node-F.Distinct (rooted schema units child.0).survey)) (room_below 0 (rooted schema units child.0)) r (ap (λ (t : Survey). survey_step schema (Node-F.Distinct t)) child.1.0 ∙ sym s)
      (one n child.0 (ap (child_of 0) o) child.1 (omega (arith, ap (λ (rows : Rows). length rows) m, few_distinct (Means child.0))))
  layer (Node-F.Number child partition order) n o m s r = over n (survey_step schema (Node-F.Number (rooted schema units child.0).survey partition order)) (room_below 0 (rooted schema units child.0)) r (ap (λ (t : Survey). survey_step schema (Node-F.Number t partition order)) child.1.0 ∙ sym s)
      (one n child.0 (ap (child_of 0) o) child.1 (omega (arith, ap (λ (rows : Rows). length rows) m, number_length partition order (Means child.0) [] (Means child.0))))
  layer (Node-F.Top child order limit) n o m s r = over n (survey_step schema (Node-F.Top (rooted schema units child.0).survey order limit)) (room_below 0 (rooted schema units child.0)) r (ap (λ (t : Survey). survey_step schema (Node-F.Top t order limit)) child.1.0 ∙ sym s)
      (one n child.0 (ap (child_of 0) o) child.1 (omega (arith, ap (λ (rows : Rows). length rows) m, few_top order limit (Means child.0))))

  root_is : (n : Node) → Root n
  root_is = ind-Node Root (λ x y is.
      layer y (roll-Node x) (out-roll-Node x ∙ sym is)
      (fold-roll-Node Rows (mean_step (union a b)) x ∙ ap (λ (z : Node-F Node). mean_step (union a b) (map-Node Node Rows Means z)) (sym is))
      (fold-roll-Node Survey (survey_step schema) x ∙ ap (λ (z : Node-F Node). survey_step schema (map-Node Node Survey (survey schema) z)) (sym is))
      (fold-roll-Node Rooted (rooted_step schema units) x ∙ ap (λ (z : Node-F Node). rooted_step schema units (map-Node Node Rooted (rooted schema units) z)) (sym is)))

  pub within_root : (n : Node) → SegmentsFit schema (union a b) units [] n → length (mean (union a b) n) ≤ root_room schema units n
  within_root n fit = (root_is n).1 [] fit
