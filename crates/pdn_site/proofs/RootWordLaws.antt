-- A site's words in the root, node by node.
use Rattle.std.proofs.Common.{◌≡◌, ℕ, ◌+◌, Bool, true, false, cond, List, [], ◌∷◌, get_or, refl, sym, ap, ap₂, ◌∙◌, subst}
use Rattle.std.specs.List.{flat_map}
use Rattle.std.proofs.lemmas.Bool.{false≢true}
use Rattle.pdn_base.specs.declared.marks.Kind.{Kind}
use Rattle.pdn_base.specs.declared.site.Site.{Site}
use Rattle.pdn_base.specs.Operators.{Rows, SameRows}
use Rattle.pdn_schema.specs.Models.{SchemaModel}
use Rattle.pdn_tree.specs.declared.node.Node.{Node, Node-F, fold-Node, fold-roll-Node, roll-Node, out-roll-Node}
use Rattle.pdn_tree.specs.declared.node.Node.TheFolds.{ind-Node, map-Node}
use Rattle.pdn_tree.specs.declared.node.Node.TheVariants as node
use Rattle.pdn_tree.specs.declared.node.Node.TheVariants.{rolls-Scan, rolls-Filter, rolls-Project, rolls-Join, rolls-Group, rolls-Count, rolls-Distinct, rolls-Number, rolls-Top}
use Rattle.pdn_tree.specs.Walks.{children, below}
use Rattle.pdn_tree.specs.Meaning.{mean, mean_step}
use Rattle.pdn_tree.specs.Meaning.{table_of as rows_of}
use Rattle.pdn_tree.specs.Shapes.{kinds}
use Rattle.pdn_level.specs.declared.staged.Level.{Level}
use Rattle.pdn_level.specs.declared.staged.Level.TheVariants as level
use Rattle.pdn_level.specs.Levels.{Survey, survey, survey_step, level_of_node, kept_level, sliced_if, is_secure, leaf_of, leaves_step}
use Rattle.pdn_level.specs.Slices.{followed_step}
use Rattle.pdn_site.specs.SiteRows.{entered, slice_words, Slice, OwnRoot, RootRows, root_by, root_words_step, no_words, words_of_both}
use Rattle.pdn_site.specs.RootLengths.{leaf_rows_step, leaf_rows}
use Rattle.pdn_site.specs.RootWords.{tree_words}
use Rattle.pdn_site.proofs.EnteringLaws.{entered_bag}

-- ---- levels

abbrev is_leaf : Level → Bool
is_leaf level.Local = true
is_leaf level.Sliced = false
is_leaf level.Secure = false

no_leaf : (c : Bool) → is_leaf (cond c level.Sliced level.Secure) ≡ false
no_leaf true = refl
no_leaf false = refl

-- a Filter or a Project is Local only over what is Local
kept_leaf : (slices : List Bool) (l : Level) → kept_level slices l ≡ level.Local → l ≡ level.Local
kept_leaf slices level.Local h = refl
kept_leaf slices level.Sliced h = absurd (false≢true (sym (no_leaf _) ∙ ap is_leaf h))
kept_leaf slices level.Secure h = absurd (false≢true (sym (no_leaf _) ∙ ap is_leaf h))

other_leaf : (c : Bool) → cond c level.Sliced level.Secure ≡ level.Local → false ≡ true
other_leaf c h = sym (no_leaf c) ∙ ap is_leaf h

never : (slices : List Bool) (b : Bool) → sliced_if slices b ≡ level.Local → false ≡ true
never slices b h = other_leaf _ h

module _ (site : Site) (schema : SchemaModel) (tables : List Rows) (slices : List (List Slice)) where
  abbrev own : Node → RootRows
  own = fold-Node RootRows (root_words_step site schema tables slices)

  abbrev step : Node-F RootRows → RootRows
  step = root_words_step site schema tables slices

  abbrev means : Node → Rows
  means = mean (rows_of tables)

  -- what is carried beside the words: the tree, a Local one's rows, and for how many of them there is room
  pub record Carried (o : RootRows) (n : Node) (meant : Rows) (room : ℕ) (l : Level) : Type 0 where
    pub tree : o.tree ≡ n
    pub rows : l ≡ level.Local → o.rows ≡ meant
    pub len : o.len ≡ room

  abbrev AllCarried : Node → Type 0
  AllCarried n = Carried (own n) n (means n) (leaf_rows schema n) (level_of_node schema n)

  abbrev Pair : Type 0
  Pair = (n : Node) × AllCarried n

  abbrev nodes : Node-F Pair → Node-F Node
  nodes y = map-Node Pair Node (λ e. e.0) y

  layer : (y : Node-F Pair) → Carried
      (step (map-Node Node RootRows own (nodes y)))
      (roll-Node (nodes y))
      (mean_step (rows_of tables) (map-Node Node Rows means (nodes y)))
      (leaf_rows_step schema (map-Node Node ℕ (leaf_rows schema) (nodes y)))
      (survey_step schema (map-Node Node Survey (survey schema) (nodes y))).level
  layer (Node-F.Scan table) = record { tree = sym (rolls-Scan table); rows = λ h. refl; len = refl }
  layer (Node-F.Filter child condition) = record {
    tree = ap (λ (n : Node). node.Filter n condition) child.1.tree ∙ sym (rolls-Filter child.0 condition);
    rows = λ h. ap (λ (rs : Rows). mean_step (rows_of tables) (Node-F.Filter rs condition)) (child.1.rows (kept_leaf (followed_step schema leaf_of leaves_step (Node-F.Filter (survey schema child.0).track condition)).slices (level_of_node schema child.0) h));
    len = child.1.len;
  }
  layer (Node-F.Project child columns) = record {
    tree = ap (λ (n : Node). node.Project n columns) child.1.tree ∙ sym (rolls-Project child.0 columns);
    rows = λ h. ap (λ (rs : Rows). mean_step (rows_of tables) (Node-F.Project rs columns)) (child.1.rows (kept_leaf (followed_step schema leaf_of leaves_step (Node-F.Project (survey schema child.0).track columns)).slices (level_of_node schema child.0) h));
    len = child.1.len;
  }
  layer (Node-F.Join left right on) = record {
    tree = ap₂ (λ (n m : Node). node.Join n m on) left.1.tree right.1.tree ∙ sym (rolls-Join left.0 right.0 on);
    rows = λ h. absurd (false≢true (other_leaf _ h));
    len = refl;
  }
  layer (Node-F.Group child keys having) = record {
    tree = ap (λ (n : Node). node.Group n keys having) child.1.tree ∙ sym (rolls-Group child.0 keys having);
    rows = λ h. absurd (false≢true (other_leaf _ h));
    len = refl;
  }
  layer (Node-F.Count child) = record {
    tree = ap (λ (n : Node). node.Count n) child.1.tree ∙ sym (rolls-Count child.0);
    rows = λ h. absurd (false≢true (never (followed_step schema leaf_of leaves_step (Node-F.Count (survey schema child.0).track)).slices (is_secure (level_of_node schema child.0)) h));
    len = refl;
  }
  layer (Node-F.Distinct child) = record {
    tree = ap (λ (n : Node). node.Distinct n) child.1.tree ∙ sym (rolls-Distinct child.0);
    rows = λ h. absurd (false≢true (other_leaf _ h));
    len = refl;
  }
  layer (Node-F.Number child partition order) = record {
    tree = ap (λ (n : Node). node.Number n partition order) child.1.tree ∙ sym (rolls-Number child.0 partition order);
    rows = λ h. absurd (false≢true (other_leaf _ h));
    len = refl;
  }
  layer (Node-F.Top child order limit) = record {
    tree = ap (λ (n : Node). node.Top n order limit) child.1.tree ∙ sym (rolls-Top child.0 order limit);
    rows = λ h. absurd (false≢true (other_leaf _ h));
    len = refl;
  }

  pub carried : (n : Node) → AllCarried n
  carried = ind-Node AllCarried (λ x y is.
      subst (λ (g : Survey). Carried (own (roll-Node x)) (roll-Node x) (means (roll-Node x)) (leaf_rows schema (roll-Node x)) g.level) (sym (fold-roll-Node Survey (survey_step schema) x))
      (rw (fold-roll-Node RootRows step x, fold-roll-Node Rows (mean_step (rows_of tables)) x, fold-roll-Node ℕ (leaf_rows_step schema) x)
      (subst (λ (z : Node-F Node). Carried
      (step (map-Node Node RootRows own z))
      (roll-Node z)
      (mean_step (rows_of tables) (map-Node Node Rows means z))
      (leaf_rows_step schema (map-Node Node ℕ (leaf_rows schema) z))
      (survey_step schema (map-Node Node Survey (survey schema) z)).level) is (layer y))))

  -- the words of trees that a node reads, left to right, where it is neither a leaf nor a segment
  abbrev pub over : List Node → ℕ → OwnRoot
  over [] = no_words
  over (child ∷ []) = (own child).words
  over (left ∷ right ∷ rest) = words_of_both (own left).words (own right).words

  abbrev by_parts : Node-F Node → Node → Rows → ℕ → ℕ → OwnRoot
  by_parts y n rows len i = root_by (level_of_node schema n) site schema tables slices n rows len (over (children y)) i

  abbrev made : Node-F Node → RootRows
  made y = step (map-Node Node RootRows own y)

  step_words : (y : Node-F Node) (i : ℕ) → (made y).words i ≡ by_parts y (made y).tree (made y).rows (made y).len i
  step_words (Node-F.Scan table) i = refl
  step_words (Node-F.Filter child condition) i = refl
  step_words (Node-F.Project child columns) i = refl
  step_words (Node-F.Join left right on) i = refl
  step_words (Node-F.Group child keys having) i = refl
  step_words (Node-F.Count child) i = refl
  step_words (Node-F.Distinct child) i = refl
  step_words (Node-F.Number child partition order) i = refl
  step_words (Node-F.Top child order limit) i = refl

  words_of : (y : Node-F Node) (i : ℕ) → (own (roll-Node y)).words i ≡ by_parts y (roll-Node y) (own (roll-Node y)).rows (own (roll-Node y)).len i
  words_of y i =
      let opened = fold-roll-Node RootRows step y in
      ap (λ (x : RootRows). x.words i) opened ∙ step_words y i
      ∙ ap (λ (x : RootRows). by_parts y x.tree x.rows x.len i) (sym opened)
      ∙ ap (λ (t : Node). by_parts y t (own (roll-Node y)).rows (own (roll-Node y)).len i) (carried (roll-Node y)).tree

  abbrev leveled : Node-F Node → Node → Level → ℕ → OwnRoot
  leveled y n l i = root_by l site schema tables slices n (own n).rows (own n).len (over (children y)) i

  words_at : (l : Level) (y : Node-F Node) (n : Node) (i : ℕ) → roll-Node y ≡ n → level_of_node schema n ≡ l → (own n).words i ≡ leveled y n l i
  words_at l y n i is h =
      subst (λ (m : Node). level_of_node schema m ≡ l → (own m).words i ≡ leveled y m l i) is
      (λ k. words_of y i ∙ ap (λ (g : Level). leveled y (roll-Node y) g i) k) h

  -- a leaf of the root
  pub local_words : (n : Node) (i : ℕ) → level_of_node schema n ≡ level.Local → (own n).words i ≡ record { words = entered (own n).rows (kinds schema n) (own n).len; segments = i }
  local_words = ind-Node (λ n. (i : ℕ) → level_of_node schema n ≡ level.Local → (own n).words i ≡ record { words = entered (own n).rows (kinds schema n) (own n).len; segments = i })
      (λ x y is i h. words_at level.Local x (roll-Node x) i refl h)

  -- a segment
  pub sliced_words : (n : Node) (i : ℕ) → level_of_node schema n ≡ level.Sliced → (own n).words i ≡ record { words = flat_map (slice_words site schema tables n) (get_or slices i []); segments = i + 1 }
  sliced_words = ind-Node (λ n. (i : ℕ) → level_of_node schema n ≡ level.Sliced → (own n).words i ≡ record { words = flat_map (slice_words site schema tables n) (get_or slices i []); segments = i + 1 })
      (λ x y is i h. words_at level.Sliced x (roll-Node x) i refl h)

  -- an operator
  pub secure_words : (n : Node) (i : ℕ) → level_of_node schema n ≡ level.Secure → (own n).words i ≡ over (below n) i
  secure_words = ind-Node (λ n. (i : ℕ) → level_of_node schema n ≡ level.Secure → (own n).words i ≡ over (below n) i)
      (λ x y is i h. words_at level.Secure x (roll-Node x) i refl h ∙ ap (λ (z : Node-F Node). over (children z) i) (sym (out-roll-Node x)))

  abbrev leaf : Node → Rows → List Kind → ℕ → ℕ → OwnRoot
  leaf n rows columns len i = record { words = entered rows columns len; segments = i }

  -- a leaf's words, by the rows that it means
  pub leaf_is : (n : Node) (i : ℕ) → level_of_node schema n ≡ level.Local → record { words = entered (means n) (kinds schema n) (leaf_rows schema n); segments = i } ≡ tree_words site schema tables slices n i
  leaf_is n i h = sym (local_words n i h ∙ ap₂ (λ (rs : Rows) k. leaf n rs (kinds schema n) k i) ((carried n).rows h) (carried n).len)

-- rows enter in the same way in whatever order they come
pub means_by : (schema : SchemaModel) (tables : List Rows) (n : Node) (rows : Rows) (columns : List Kind) (len : ℕ) → SameRows rows (mean (rows_of tables) n) → columns ≡ kinds schema n → len ≡ leaf_rows schema n
    → entered rows columns len ≡ entered (mean (rows_of tables) n) (kinds schema n) (leaf_rows schema n)
means_by schema tables n rows columns len same e f = ap₂ (λ (ks : List Kind) k. entered rows ks k) e f ∙ entered_bag rows (mean (rows_of tables) n) (kinds schema n) (leaf_rows schema n) same
