-- A site's words in a secure unit, node by node.
use Rattle.std.proofs.Common.{◌≡◌, ℕ, Bool, true, false, cond, List, [], ◌++◌, drop, refl, sym, ap, ap₂, ◌∙◌, subst, None}
use Rattle.pdn_base.specs.declared.marks.Kind.{Kind}
use Rattle.pdn_base.specs.declared.value.Value.{Value}
use Rattle.pdn_base.specs.Operators.{Rows, SameRows}
use Rattle.pdn_base.proofs.Listing.{top_bag}
use Rattle.pdn_schema.specs.Models.{SchemaModel}
use Rattle.pdn_tree.specs.declared.node.Node.{Node, Node-F, fold-roll-Node, roll-Node}
use Rattle.pdn_tree.specs.declared.node.Node.TheFolds.{ind-Node, map-Node}
use Rattle.pdn_tree.specs.declared.node.Node.TheVariants as node
use Rattle.pdn_tree.specs.declared.node.Node.TheVariants.{rolls-Filter, rolls-Project, rolls-Join}
use Rattle.pdn_tree.specs.Meaning.{mean, table_of}
use Rattle.pdn_tree.specs.Shapes.{kinds}
use Rattle.pdn_base.specs.declared.cond.Cmp.{Cmp}
use Rattle.pdn_level.specs.declared.staged.Leaf.{Leaf}
use Rattle.pdn_obl_rows.specs.Encoding.{encoded}
use Rattle.pdn_site.specs.SiteRows.{entered}
use Rattle.pdn_site.specs.Narrowing.{Narrowing, narrowing_step, narrowing, narrowed, scans}
use Rattle.pdn_site.specs.Entering.{Entering, local_step, is_local, entering_step, entering, narrowing_of, leaf_words, first_per}

-- rows that are the same as a bag enter in the same way
pub entered_bag : (xs ys : Rows) (kinds : List Kind) (len : ℕ) → SameRows xs ys → entered xs kinds len ≡ entered ys kinds len
entered_bag xs ys kinds len h = ap (λ (rows : Rows). encoded rows kinds len) (top_bag [] None xs ys h)

module _ (schema : SchemaModel) (tables : List Rows) (v : Value) where
  abbrev enter : Node → Entering
  enter = entering schema tables v

  abbrev step : Node-F Entering → Entering
  step = entering_step schema tables v

  -- what is narrowed, and what is Local
  pub record Is (e : Entering) (g : Narrowing) (b : Bool) : Type 0 where
    pub narrows : narrowing_of schema tables v e ≡ g
    pub local : e.is_local ≡ b

  abbrev AllIs : Node → Type 0
  AllIs n = Is (enter n) (narrowing v n) (is_local n)

  layer : (y : Node-F ((n : Node) × AllIs n)) → Is
      (step (map-Node Node Entering enter (map-Node ((n : Node) × AllIs n) Node (λ e. e.0) y)))
      (narrowing_step v (map-Node Node Narrowing (narrowing v) (map-Node ((n : Node) × AllIs n) Node (λ e. e.0) y)))
      (local_step (map-Node Node Bool is_local (map-Node ((n : Node) × AllIs n) Node (λ e. e.0) y)))
  layer (Node-F.Scan table) = record { narrows = refl; local = refl }
  layer (Node-F.Filter child condition) = record { narrows = ap (λ (g : Narrowing). narrowing_step v (Node-F.Filter g condition)) child.1.narrows; local = child.1.local }
  layer (Node-F.Project child columns) = record { narrows = ap (λ (g : Narrowing). narrowing_step v (Node-F.Project g columns)) child.1.narrows; local = child.1.local }
  layer (Node-F.Join left right on) = record { narrows = ap₂ (λ (g h : Narrowing). narrowing_step v (Node-F.Join g h on)) left.1.narrows right.1.narrows; local = refl }
  layer (Node-F.Group child keys having) = record { narrows = ap (λ (g : Narrowing). narrowing_step v (Node-F.Group g keys having)) child.1.narrows; local = refl }
  layer (Node-F.Count child) = record { narrows = ap (λ (g : Narrowing). narrowing_step v (Node-F.Count g)) child.1.narrows; local = refl }
  layer (Node-F.Distinct child) = record { narrows = ap (λ (g : Narrowing). narrowing_step v (Node-F.Distinct g)) child.1.narrows; local = refl }
  layer (Node-F.Number child partition order) = record { narrows = ap (λ (g : Narrowing). narrowing_step v (Node-F.Number g partition order)) child.1.narrows; local = refl }
  layer (Node-F.Top child order limit) = record { narrows = ap (λ (g : Narrowing). narrowing_step v (Node-F.Top g order limit)) child.1.narrows; local = refl }

  pub entering_is : (n : Node) → AllIs n
  entering_is = ind-Node AllIs (λ x y is.
      rw (fold-roll-Node Entering step x, fold-roll-Node Narrowing (narrowing_step v) x, fold-roll-Node Bool local_step x)
      (subst (λ (z : Node-F Node). Is
      (step (map-Node Node Entering enter z))
      (narrowing_step v (map-Node Node Narrowing (narrowing v) z))
      (local_step (map-Node Node Bool is_local z))) is (layer y)))

  -- the words below a node that is not Local
  abbrev pub below : Node-F Node → List Leaf → List ℕ
  below (Node-F.Scan table) leaves = []
  below (Node-F.Filter child condition) leaves = (enter child).words leaves
  below (Node-F.Project child columns) leaves = (enter child).words leaves
  below (Node-F.Join left right on) leaves = (enter left).words leaves ++ (enter right).words (drop (scans v left) leaves)
  below (Node-F.Group child keys having) leaves = (enter child).words leaves
  below (Node-F.Count child) leaves = (enter child).words leaves
  below (Node-F.Distinct child) leaves = (enter child).words leaves
  below (Node-F.Number child partition order) leaves = (enter child).words leaves
  below (Node-F.Top child order limit) leaves = (enter child).words leaves

  abbrev leaf_of_tree : Entering → List Leaf → List ℕ
  leaf_of_tree e leaves = leaf_words schema tables (e.tree leaves) leaves

  step_words : (y : Node-F Node) (leaves : List Leaf) → (step (map-Node Node Entering enter y)).words leaves ≡ cond (step (map-Node Node Entering enter y)).is_local (leaf_of_tree (step (map-Node Node Entering enter y)) leaves) (below y leaves)
  step_words (Node-F.Scan table) leaves = refl
  step_words (Node-F.Filter child condition) leaves = refl
  step_words (Node-F.Project child columns) leaves = refl
  step_words (Node-F.Join left right on) leaves = ap (λ n. (enter left).words leaves ++ (enter right).words (drop n leaves)) (ap (λ (g : Narrowing). g.scans) (entering_is left).narrows)
  step_words (Node-F.Group child keys having) leaves = refl
  step_words (Node-F.Count child) leaves = refl
  step_words (Node-F.Distinct child) leaves = refl
  step_words (Node-F.Number child partition order) leaves = refl
  step_words (Node-F.Top child order limit) leaves = refl

  words_of : (y : Node-F Node) (leaves : List Leaf) → (enter (roll-Node y)).words leaves ≡ cond (is_local (roll-Node y)) (leaf_words schema tables (narrowed v (roll-Node y) leaves) leaves) (below y leaves)
  words_of y leaves =
      let e = entering_is (roll-Node y) in
      let opened = fold-roll-Node Entering step y in
      ap (λ (x : Entering). x.words leaves) opened ∙ step_words y leaves
      ∙ ap (λ (x : Entering). cond x.is_local (leaf_of_tree x leaves) (below y leaves)) (sym opened)
      ∙ ap₂ (λ (b : Bool) (g : Narrowing). cond b (leaf_words schema tables (g.tree leaves) leaves) (below y leaves)) e.local e.narrows

  pub local_words : (n : Node) (leaves : List Leaf) → is_local n ≡ true → (enter n).words leaves ≡ leaf_words schema tables (narrowed v n leaves) leaves
  local_words = ind-Node (λ n. (leaves : List Leaf) → is_local n ≡ true → (enter n).words leaves ≡ leaf_words schema tables (narrowed v n leaves) leaves)
      (λ x y is leaves h. words_of x leaves ∙ ap (λ b. cond b (leaf_words schema tables (narrowed v (roll-Node x) leaves) leaves) (below x leaves)) h)

  pub other_words : (n : Node) (y : Node-F Node) (leaves : List Leaf) → roll-Node y ≡ n → is_local n ≡ false → (enter n).words leaves ≡ below y leaves
  other_words n y leaves is h =
      subst (λ (m : Node). is_local m ≡ false → (enter m).words leaves ≡ below y leaves) is
      (λ k. words_of y leaves ∙ ap (λ b. cond b (leaf_words schema tables (narrowed v (roll-Node y) leaves) leaves) (below y leaves)) k) h

  pub filter_words : (n child : Node) (condition : List (List Cmp)) (leaves : List Leaf) → n ≡ node.Filter child condition → is_local n ≡ false → (enter n).words leaves ≡ (enter child).words leaves
  filter_words n child condition leaves is h = other_words n (Node-F.Filter child condition) leaves (rolls-Filter child condition ∙ sym is) h

  pub project_words : (n child : Node) (columns : List ℕ) (leaves : List Leaf) → n ≡ node.Project child columns → is_local n ≡ false → (enter n).words leaves ≡ (enter child).words leaves
  project_words n child columns leaves is h = other_words n (Node-F.Project child columns) leaves (rolls-Project child columns ∙ sym is) h

  pub join_words : (n left right : Node) (on : List (List Cmp)) (leaves : List Leaf) → n ≡ node.Join left right on → is_local n ≡ false → (enter n).words leaves ≡ (enter left).words leaves ++ (enter right).words (drop (scans v left) leaves)
  join_words n left right on leaves is h = other_words n (Node-F.Join left right on) leaves (rolls-Join left right on ∙ sym is) h

  pub leaf_by : (tree : Node) (leaves : List Leaf) (rows : Rows) (columns : List Kind) (len : ℕ) → SameRows rows (mean (table_of tables) tree) → columns ≡ kinds schema tree → len ≡ first_per schema leaves → entered rows columns len ≡ leaf_words schema tables tree leaves
  leaf_by tree leaves rows columns len same e f = ap₂ (λ (ks : List Kind) n. entered rows ks n) e f ∙ entered_bag rows (mean (table_of tables) tree) (kinds schema tree) (first_per schema leaves) same
