-- A plain unit: the other site has no row of its value, and its rows are of the segment's kinds.
use Rattle.std.proofs.Common.{◌≡◌, ℕ, Bool, true, false, ◌||◌, cond, List, [], ◌∷◌, ◌++◌, get_or, map, refl, sym, ap, ap₂, ◌∙◌, subst, true≢false, append-nil}
use Rattle.std.specs.List.{AllByRecursion}
use Rattle.std.proofs.lemmas.List.Elements.{filter-append}
use Rattle.pdn_base.specs.declared.value.Value.{Value}
use Rattle.pdn_base.specs.Values.{cell}
use Rattle.pdn_base.specs.Operators.{Rows}
use Rattle.pdn_schema.specs.Models.{SchemaModel}
use Rattle.pdn_schema.specs.Rows.{union}
use Rattle.pdn_tree.specs.declared.node.Node.{Node, Node-F, fold-roll-Node}
use Rattle.pdn_tree.specs.declared.node.Node.TheFolds.{ind-Node, map-Node}
use Rattle.pdn_tree.specs.Meaning.{mean_step}
use Rattle.pdn_tree.specs.Meaning.{table_of as rows_of}
use Rattle.pdn_level.specs.declared.staged.Leaf.{Leaf}
use Rattle.pdn_level.specs.Links.{link_at}
use Rattle.pdn_level.specs.Slices.{Followed, followed, followed_step}
use Rattle.pdn_level.specs.Levels.{leaf_of, leaves_step, leaves_of}
use Rattle.pdn_level.specs.Cutting.{same_value, at, mean_at}
use Rattle.pdn_level.proofs.Tracks.{survey_track}
use Rattle.pdn_site.specs.Directories.{traced_by, traced, stands_in}
use Rattle.pdn_site.proofs.Ascending.{stands_left, stands_right}
use Rattle.pdn_site.proofs.Following.{followed_at}

-- ---- no row of a value that stands in no traced column
none_at : (c : ℕ) (v : Value) (rows : Rows) → stands_in (map (λ row. cell row c) rows) v ≡ false → at c v rows ≡ []
none_at c v [] h = refl
none_at c v (row ∷ rows) h = by (none_at c v rows) (same_value v (cell row c)) h
  where
    by : (stands_in (map (λ r. cell r c) rows) v ≡ false → at c v rows ≡ []) → (b : Bool) → (b || stands_in (map (λ r. cell r c) rows) v) ≡ false → cond b (row ∷ at c v rows) (at c v rows) ≡ []
    by rest true k = absurd (true≢false k)
    by rest false k = rest k

not_true : (b : Bool) → (b ≡ true → ⊥) → b ≡ false
not_true true h = absurd (h refl)
not_true false h = refl

-- the rows of the union with the value are those of one site
abbrev pub Alone : (ℕ → Rows) → (ℕ → Rows) → Value → Leaf → Type 0
Alone all own v leaf = at leaf.column v (all leaf.table) ≡ at leaf.column v (own leaf.table)

pub alone_a : (a b : List Rows) (v : Value) (leaves : List Leaf) → stands_in (traced b leaves) v ≡ false → AllByRecursion (Alone (union a b) (rows_of a) v) leaves
alone_a a b v [] h = tt
alone_a a b v (leaf ∷ leaves) h =
    let own : List Value = traced_by b leaf in
    let more : List Value = traced b leaves in
    let here : stands_in own v ≡ false = not_true (stands_in own v) (λ e. true≢false (sym (stands_left v own more e) ∙ h)) in
    let rest : stands_in more v ≡ false = not_true (stands_in more v) (λ e. true≢false (sym (stands_right v own more e) ∙ h)) in (
      filter-append (λ row. same_value v (cell row leaf.column)) (rows_of a leaf.table) (rows_of b leaf.table)
          ∙ ap (λ (rows : Rows). at leaf.column v (rows_of a leaf.table) ++ rows) (none_at leaf.column v (rows_of b leaf.table) here) ∙ append-nil (at leaf.column v (rows_of a leaf.table)),
      alone_a a b v leaves rest,
    )

pub alone_b : (a b : List Rows) (v : Value) (leaves : List Leaf) → stands_in (traced a leaves) v ≡ false → AllByRecursion (Alone (union a b) (rows_of b) v) leaves
alone_b a b v [] h = tt
alone_b a b v (leaf ∷ leaves) h =
    let own : List Value = traced_by a leaf in
    let more : List Value = traced a leaves in
    let here : stands_in own v ≡ false = not_true (stands_in own v) (λ e. true≢false (sym (stands_left v own more e) ∙ h)) in
    let rest : stands_in more v ≡ false = not_true (stands_in more v) (λ e. true≢false (sym (stands_right v own more e) ∙ h)) in (
      filter-append (λ row. same_value v (cell row leaf.column)) (rows_of a leaf.table) (rows_of b leaf.table)
          ∙ ap (λ (rows : Rows). rows ++ at leaf.column v (rows_of b leaf.table)) (none_at leaf.column v (rows_of a leaf.table) here),
      alone_b a b v leaves rest,
    )

-- ---- equal leaves, equal meaning
record Twice : Type 0 where
  x : Rows
  y : Rows
  leaves : List Leaf

module _ (schema : SchemaModel) (all own : ℕ → Rows) (v : Value) where
  abbrev twice_leaf : ℕ → ℕ → Twice
  twice_leaf table s = record { x = at s v (all table); y = at s v (own table); leaves = leaf_of table s }

  abbrev twice_step : Node-F Twice → Twice
  twice_step z = record { x = mean_step all (map-Node Twice Rows (λ (t : Twice). t.x) z); y = mean_step own (map-Node Twice Rows (λ (t : Twice). t.y) z); leaves = leaves_step (map-Node Twice (List Leaf) (λ (t : Twice). t.leaves) z) }

  abbrev twice : Node → Followed Twice
  twice = followed schema twice_leaf twice_step

  abbrev Same : Twice → Type 0
  Same t = AllByRecursion (Alone all own v) t.leaves → t.x ≡ t.y

  abbrev Sames : Followed Twice → Type 0
  Sames f = (s : ℕ) → Same (f.at s)

  split_left : (xs ys : List Leaf) → AllByRecursion (Alone all own v) (xs ++ ys) → AllByRecursion (Alone all own v) xs
  split_left [] ys h = tt
  split_left (x ∷ xs) ys h = (h.0, split_left xs ys h.1)

  split_right : (xs ys : List Leaf) → AllByRecursion (Alone all own v) (xs ++ ys) → AllByRecursion (Alone all own v) ys
  split_right [] ys h = h
  split_right (x ∷ xs) ys h = split_right xs ys h.1

  layer : (y : Node-F ((n : Node) × Sames (twice n))) → Sames (followed_step schema twice_leaf twice_step (map-Node Node (Followed Twice) twice (map-Node ((n : Node) × Sames (twice n)) Node (λ e. e.0) y)))
  layer (Node-F.Scan table) s h = h.0
  layer (Node-F.Filter child condition) s h = ap (λ (r : Rows). mean_step own (Node-F.Filter r condition)) (child.1 s h)
  layer (Node-F.Project child columns) s h = ap (λ (r : Rows). mean_step own (Node-F.Project r columns)) (child.1 (get_or columns s 0) h)
  layer (Node-F.Join left right on) s h =
      let k = link_at (twice left.0).slices (twice right.0).slices on s in
      let l : Twice = (twice left.0).at k.left in
      let r : Twice = (twice right.0).at k.right in
      ap₂ (λ (p q : Rows). mean_step own (Node-F.Join p q on)) (left.1 k.left (split_left l.leaves r.leaves h)) (right.1 k.right (split_right l.leaves r.leaves h))
  layer (Node-F.Group child keys having) s h = ap (λ (r : Rows). mean_step own (Node-F.Group r keys having)) (child.1 (get_or keys s 0) h)
  layer (Node-F.Count child) s h = ap (λ (r : Rows). mean_step own (Node-F.Count r)) (child.1 s h)
  layer (Node-F.Distinct child) s h = ap (λ (r : Rows). mean_step own (Node-F.Distinct r)) (child.1 s h)
  layer (Node-F.Number child partition order) s h = ap (λ (r : Rows). mean_step own (Node-F.Number r partition order)) (child.1 s h)
  layer (Node-F.Top child order limit) s h = ap (λ (r : Rows). mean_step own (Node-F.Top r order limit)) (child.1 s h)

  sames : (n : Node) → Sames (twice n)
  sames = ind-Node (λ n. Sames (twice n)) (λ x y is.
      subst (λ (f : Followed Twice). Sames f) (sym (fold-roll-Node (Followed Twice) (followed_step schema twice_leaf twice_step) x))
      (subst (λ (z : Node-F Node). Sames (followed_step schema twice_leaf twice_step (map-Node Node (Followed Twice) twice z))) is (layer y)))

  pub same_meaning : (n : Node) (c : ℕ) → AllByRecursion (Alone all own v) (leaves_of schema n c) → mean_at schema all v n c ≡ mean_at schema own v n c
  same_meaning n c h =
      let rows : ((twice n).at c).x ≡ mean_at schema all v n c = followed_at schema twice_leaf twice_step (λ t s. at s v (all t)) (mean_step all) (λ (t : Twice). t.x) (λ t s. refl) (λ z. refl) n c in
      let rows' : ((twice n).at c).y ≡ mean_at schema own v n c = followed_at schema twice_leaf twice_step (λ t s. at s v (own t)) (mean_step own) (λ (t : Twice). t.y) (λ t s. refl) (λ z. refl) n c in
      let leaves : ((twice n).at c).leaves ≡ (followed schema leaf_of leaves_step n).at c = followed_at schema twice_leaf twice_step leaf_of leaves_step (λ (t : Twice). t.leaves) (λ t s. refl) (λ z. refl) n c in
      let tracked : leaves_of schema n c ≡ (followed schema leaf_of leaves_step n).at c = ap (λ (f : Followed (List Leaf)). f.at c) (survey_track schema n) in
      sym rows ∙ sames n c (subst (λ (ls : List Leaf). AllByRecursion (Alone all own v) ls) (tracked ∙ sym leaves) h) ∙ rows'
