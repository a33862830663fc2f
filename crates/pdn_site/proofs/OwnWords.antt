-- What enters a secure unit leaf by leaf is what its definition follows down the slice column.
use Rattle.std.proofs.Common.{◌≡◌, ℕ, ◌+◌, Bool, true, false, cond, List, [], ◌∷◌, ◌++◌, drop, length, map, get_or, refl, sym, ap, ap₂, ◌∙◌, subst, append_assoc, length-append, drop_at, append-nil}
use Rattle.std.proofs.lemmas.Bool.{false≢true}
use Rattle.pdn_base.specs.declared.marks.Kind.{Kind}
use Rattle.pdn_base.specs.declared.marks.Kind.TheVariants as kind
use Rattle.pdn_base.specs.declared.value.Value.{Value}
use Rattle.pdn_base.specs.declared.cond.Cmp.{Cmp}
use Rattle.pdn_base.specs.Operators.{Rows, filter_rows, project_rows, join_rows, group_rows, count_rows, distinct_rows, number_rows, top_rows}
use Rattle.pdn_schema.specs.Models.{SchemaModel}
use Rattle.pdn_tree.specs.declared.node.Node.{Node, Node-F, fold-roll-Node, roll-Node}
use Rattle.pdn_tree.specs.declared.node.Node.TheFolds.{ind-Node, map-Node}
use Rattle.pdn_tree.specs.declared.node.Node.TheVariants as node
use Rattle.pdn_tree.specs.declared.node.Node.TheVariants.{rolls-Scan, rolls-Filter, rolls-Project, rolls-Join, rolls-Group, rolls-Count, rolls-Distinct, rolls-Number, rolls-Top}
use Rattle.pdn_tree.specs.Meaning.{mean}
use Rattle.pdn_tree.specs.Meaning.{table_of as rows_of}
use Rattle.pdn_tree.specs.Shapes.{Shape, shape, shape_step, kinds, kind_at}
use Rattle.pdn_level.specs.declared.staged.Leaf.{Leaf}
use Rattle.pdn_level.specs.Links.{link_at}
use Rattle.pdn_level.specs.Slices.{Followed, followed, followed_step, slice_step}
use Rattle.pdn_level.specs.Levels.{leaf_of, leaves_step, leaves_of}
use Rattle.pdn_level.proofs.Soundness.{followed_leaves}
use Rattle.pdn_level.proofs.Tracks.{survey_track}
use Rattle.pdn_site.specs.Circuits.{table_kinds, counted_kinds}
use Rattle.pdn_site.specs.Narrowing.{has_value}
use Rattle.pdn_site.specs.SiteRows.{Own, own_leaf, own_step, words_below, entered}
use Rattle.pdn_site.specs.Entering.{Entering, entering_step, entering, entered_words, leaf_words, first_per, is_local}
use Rattle.pdn_site.proofs.EnteringLaws.{entering_is}
use Rattle.pdn_site.proofs.Narrows.{mean_of, scan_means}

-- the kinds of a node, by its children's
kinds_are : (schema : SchemaModel) (n : Node) (y : Node-F Node) → roll-Node y ≡ n → kinds schema n ≡ (shape_step schema (map-Node Node Shape (shape schema) y)).kinds
kinds_are schema n y is = ap (λ (s : Shape). s.kinds) (ap (shape schema) (sym is) ∙ fold-roll-Node Shape (shape_step schema) y)

either : (b c : Bool) (xs us ys vs : List ℕ) → b ≡ c → (b ≡ true → xs ≡ us) → (b ≡ false → ys ≡ vs) → cond b xs ys ≡ cond c us vs
either true true xs us ys vs e f g = f refl
either false false xs us ys vs e f g = g refl
either true false xs us ys vs e f g = absurd (false≢true (sym e))
either false true xs us ys vs e f g = absurd (false≢true e)

pub on_false : (b : Bool) (xs ys : List ℕ) → b ≡ false → cond b xs ys ≡ ys
on_false b xs ys e = ap (λ c. cond c xs ys) e

module _ (schema : SchemaModel) (tables : List Rows) (v : Value) where
  abbrev means : Node → Rows
  means = mean (rows_of tables)

  abbrev kinds_at : Node → List Kind
  kinds_at = kinds schema

  pub record Owns (l : Followed (List Leaf)) (e : Entering) (o : Followed Own) : Type 0 where
    pub same : l.slices ≡ o.slices
    pub count : (c : ℕ) → length (l.at c) ≡ e.scans
    pub local : (c : ℕ) → (o.at c).is_local ≡ e.is_local
    pub kinds : (c : ℕ) (rest : List Leaf) → (o.at c).kinds ≡ kinds_at (e.tree (l.at c ++ rest))
    pub rows : (c : ℕ) (rest : List Leaf) → (o.at c).rows ≡ means (e.tree (l.at c ++ rest))
    pub len : (c : ℕ) (rest : List Leaf) → (o.at c).is_local ≡ true → (o.at c).len ≡ first_per schema (l.at c ++ rest)
    pub words : (c : ℕ) (rest : List Leaf) → words_below (o.at c) ≡ e.words (l.at c ++ rest)

  abbrev enter : Node → Entering
  enter = entering schema tables v

  abbrev own : Node → Followed Own
  own = followed schema (own_leaf schema tables v) own_step

  abbrev leaves_at : Node-F (Followed (List Leaf)) → Followed (List Leaf)
  leaves_at = followed_step schema leaf_of leaves_step

  abbrev own_at : Node-F (Followed Own) → Followed Own
  own_at = followed_step schema (own_leaf schema tables v) own_step

  abbrev AllOwn : Node → Type 0
  AllOwn n = Owns (followed_leaves schema n) (enter n) (own n)

  -- a leaf's words, where its rows, kinds and room are the same
  leaf_same : (rows : Rows) (columns : List Kind) (len : ℕ) (tree : Node) (leaves : List Leaf) → columns ≡ kinds_at tree → rows ≡ means tree → len ≡ first_per schema leaves → entered rows columns len ≡ leaf_words schema tables tree leaves
  leaf_same rows columns len tree leaves e f g = ap₂ (λ (rs : Rows) (ks : List Kind). entered rs ks len) f e ∙ ap (λ n. entered (means tree) (kinds_at tree) n) g

  scan_kinds : (table : ℕ) (c : ℕ) → kinds_at (node.Filter (node.Scan table) (has_value c v)) ≡ table_kinds schema table
  scan_kinds table c = kinds_are schema _ (Node-F.Filter (node.Scan table) (has_value c v)) (rolls-Filter _ _) ∙ kinds_are schema _ (Node-F.Scan table) (rolls-Scan table)

  -- a Filter or a Project
  part_words : (lo le : Bool) (rows : Rows) (columns : List Kind) (len : ℕ) (tree : Node) (leaves : List Leaf) (mine its below_own below : List ℕ) → lo ≡ le → columns ≡ kinds_at tree → rows ≡ means tree → (lo ≡ true → len ≡ first_per schema leaves)
      → cond lo mine below_own ≡ its → below ≡ its → cond lo (entered rows columns len) below_own ≡ cond le (leaf_words schema tables tree leaves) below
  part_words lo le rows columns len tree leaves mine its below_own below e f g h w b =
      either lo le (entered rows columns len) (leaf_words schema tables tree leaves) below_own below e
      (λ t. leaf_same rows columns len tree leaves f g (h t))
      (λ n. sym (on_false lo mine below_own n) ∙ w ∙ sym b)

  join_owns : (ll lr : Followed (List Leaf)) (el er : Entering) (ol or : Followed Own) (on : List (List Cmp)) → Owns ll el ol → Owns lr er or
      → Owns (leaves_at (Node-F.Join ll lr on)) (entering_step schema tables v (Node-F.Join el er on)) (own_at (Node-F.Join ol or on))
  join_owns ll lr el er ol or on left right = record {
    same = ap₂ (λ (bs cs : List Bool). slice_step schema (Node-F.Join bs cs on)) left.same right.same;
    count = λ c. length-append _ _ ∙ ap₂ (λ a b. a + b) (left.count _) (right.count _);
    local = λ c. refl;
    kinds = λ c rest. ap₂ (λ (ks ms : List Kind). ks ++ ms) (first_kinds c rest) (second_kinds c rest) ∙ sym (kinds_are schema _ (Node-F.Join _ _ on) (rolls-Join _ _ on));
    rows = λ c rest. ap₂ (join_rows on) (first_rows c rest) (second_rows c rest) ∙ sym (mean_of (rows_of tables) _ (Node-F.Join _ _ on) (rolls-Join _ _ on));
    len = λ c rest h. absurd (false≢true h);
    words = λ c rest. ap₂ (λ (ws us : List ℕ). ws ++ us) (first_words c rest) (second_words c rest);
  }
    where
      there : ℕ → List Leaf
      there c = ll.at (link_at ll.slices lr.slices on c).left ++ lr.at (link_at ll.slices lr.slices on c).right

      link : (c : ℕ) → link_at ol.slices or.slices on c ≡ link_at ll.slices lr.slices on c
      link c = ap₂ (λ p q. link_at p q on c) (sym left.same) (sym right.same)

      own_left : {X : Type 0} (f : Own → X) (c : ℕ) → f (ol.at (link_at ol.slices or.slices on c).left) ≡ f (ol.at (link_at ll.slices lr.slices on c).left)
      own_left f c = ap (λ k. f (ol.at k.left)) (link c)

      own_right : {X : Type 0} (f : Own → X) (c : ℕ) → f (or.at (link_at ol.slices or.slices on c).right) ≡ f (or.at (link_at ll.slices lr.slices on c).right)
      own_right f c = ap (λ k. f (or.at k.right)) (link c)

      front : (c : ℕ) (rest : List Leaf) → ll.at (link_at ll.slices lr.slices on c).left ++ (lr.at (link_at ll.slices lr.slices on c).right ++ rest) ≡ there c ++ rest
      front c rest = sym (append_assoc (ll.at (link_at ll.slices lr.slices on c).left) (lr.at (link_at ll.slices lr.slices on c).right) rest)

      past : (c : ℕ) (rest : List Leaf) → lr.at (link_at ll.slices lr.slices on c).right ++ rest ≡ drop el.scans (there c ++ rest)
      past c rest = sym (drop_at (ll.at (link_at ll.slices lr.slices on c).left) (lr.at (link_at ll.slices lr.slices on c).right ++ rest) el.scans (left.count (link_at ll.slices lr.slices on c).left)) ∙ ap (drop el.scans) (front c rest)

      first_kinds : (c : ℕ) (rest : List Leaf) → (ol.at (link_at ol.slices or.slices on c).left).kinds ≡ kinds_at (el.tree (there c ++ rest))
      first_kinds c rest = own_left (λ o. o.kinds) c ∙ left.kinds (link_at ll.slices lr.slices on c).left (lr.at (link_at ll.slices lr.slices on c).right ++ rest) ∙ ap (λ (ls : List Leaf). kinds_at (el.tree ls)) (front c rest)

      second_kinds : (c : ℕ) (rest : List Leaf) → (or.at (link_at ol.slices or.slices on c).right).kinds ≡ kinds_at (er.tree (drop el.scans (there c ++ rest)))
      second_kinds c rest = own_right (λ o. o.kinds) c ∙ right.kinds (link_at ll.slices lr.slices on c).right rest ∙ ap (λ (ls : List Leaf). kinds_at (er.tree ls)) (past c rest)

      first_rows : (c : ℕ) (rest : List Leaf) → (ol.at (link_at ol.slices or.slices on c).left).rows ≡ means (el.tree (there c ++ rest))
      first_rows c rest = own_left (λ o. o.rows) c ∙ left.rows (link_at ll.slices lr.slices on c).left (lr.at (link_at ll.slices lr.slices on c).right ++ rest) ∙ ap (λ (ls : List Leaf). means (el.tree ls)) (front c rest)

      second_rows : (c : ℕ) (rest : List Leaf) → (or.at (link_at ol.slices or.slices on c).right).rows ≡ means (er.tree (drop el.scans (there c ++ rest)))
      second_rows c rest = own_right (λ o. o.rows) c ∙ right.rows (link_at ll.slices lr.slices on c).right rest ∙ ap (λ (ls : List Leaf). means (er.tree ls)) (past c rest)

      first_words : (c : ℕ) (rest : List Leaf) → words_below (ol.at (link_at ol.slices or.slices on c).left) ≡ el.words (there c ++ rest)
      first_words c rest = own_left (λ o. words_below o) c ∙ left.words (link_at ll.slices lr.slices on c).left (lr.at (link_at ll.slices lr.slices on c).right ++ rest) ∙ ap el.words (front c rest)

      second_words : (c : ℕ) (rest : List Leaf) → words_below (or.at (link_at ol.slices or.slices on c).right) ≡ er.words (drop el.scans (there c ++ rest))
      second_words c rest = own_right (λ o. words_below o) c ∙ right.words (link_at ll.slices lr.slices on c).right rest ∙ ap er.words (past c rest)

  layer : (y : Node-F ((n : Node) × AllOwn n)) → Owns
      (leaves_at (map-Node Node (Followed (List Leaf)) (followed_leaves schema) (map-Node ((n : Node) × AllOwn n) Node (λ e. e.0) y)))
      (entering_step schema tables v (map-Node Node Entering enter (map-Node ((n : Node) × AllOwn n) Node (λ e. e.0) y)))
      (own_at (map-Node Node (Followed Own) own (map-Node ((n : Node) × AllOwn n) Node (λ e. e.0) y)))
  layer (Node-F.Scan table) = record {
    same = refl;
    count = λ c. refl;
    local = λ c. refl;
    kinds = λ c rest. sym (scan_kinds table c);
    rows = λ c rest. sym (scan_means schema (rows_of tables) v table c);
    len = λ c rest h. refl;
    words = λ c rest. leaf_same _ _ _ (node.Filter (node.Scan table) (has_value c v)) (record { table = table; column = c } ∷ rest) (sym (scan_kinds table c)) (sym (scan_means schema (rows_of tables) v table c)) refl;
  }
  layer (Node-F.Filter child condition) = record {
    same = child.1.same;
    count = λ c. child.1.count c;
    local = λ c. child.1.local c;
    kinds = λ c rest. kinds_filter c rest;
    rows = λ c rest. rows_filter c rest;
    len = λ c rest h. child.1.len c rest h;
    words = λ c rest. part_words _ _ _ _ _ _ _ _ _ _ _ (child.1.local c) (kinds_filter c rest) (rows_filter c rest) (child.1.len c rest) (child.1.words c rest) refl;
  }
    where
      kinds_filter : (c : ℕ) (rest : List Leaf) → ((own child.0).at c).kinds ≡ kinds_at (node.Filter ((enter child.0).tree ((followed_leaves schema child.0).at c ++ rest)) condition)
      kinds_filter c rest = child.1.kinds c rest ∙ sym (kinds_are schema _ (Node-F.Filter _ condition) (rolls-Filter _ condition))

      rows_filter : (c : ℕ) (rest : List Leaf) → filter_rows condition ((own child.0).at c).rows ≡ means (node.Filter ((enter child.0).tree ((followed_leaves schema child.0).at c ++ rest)) condition)
      rows_filter c rest = ap (filter_rows condition) (child.1.rows c rest) ∙ sym (mean_of (rows_of tables) _ (Node-F.Filter _ condition) (rolls-Filter _ condition))
  layer (Node-F.Project child columns) = record {
    same = ap (λ (bs : List Bool). slice_step schema (Node-F.Project bs columns)) child.1.same;
    count = λ c. child.1.count (get_or columns c 0);
    local = λ c. child.1.local (get_or columns c 0);
    kinds = λ c rest. kinds_project c rest;
    rows = λ c rest. rows_project c rest;
    len = λ c rest h. child.1.len (get_or columns c 0) rest h;
    words = λ c rest. part_words _ _ _ _ _ _ _ _ _ _ _ (child.1.local (get_or columns c 0)) (kinds_project c rest) (rows_project c rest) (child.1.len (get_or columns c 0) rest) (child.1.words (get_or columns c 0) rest) refl;
  }
    where
      kinds_project : (c : ℕ) (rest : List Leaf) → map (kind_at ((own child.0).at (get_or columns c 0)).kinds) columns ≡ kinds_at (node.Project ((enter child.0).tree ((followed_leaves schema child.0).at (get_or columns c 0) ++ rest)) columns)
      kinds_project c rest = ap (λ (ks : List Kind). map (kind_at ks) columns) (child.1.kinds (get_or columns c 0) rest) ∙ sym (kinds_are schema _ (Node-F.Project _ columns) (rolls-Project _ columns))

      rows_project : (c : ℕ) (rest : List Leaf) → project_rows columns ((own child.0).at (get_or columns c 0)).rows ≡ means (node.Project ((enter child.0).tree ((followed_leaves schema child.0).at (get_or columns c 0) ++ rest)) columns)
      rows_project c rest = ap (project_rows columns) (child.1.rows (get_or columns c 0) rest) ∙ sym (mean_of (rows_of tables) _ (Node-F.Project _ columns) (rolls-Project _ columns))
  layer (Node-F.Join left right on) = join_owns _ _ _ _ _ _ on left.1 right.1
  layer (Node-F.Group child keys having) = record {
    same = ap (λ (bs : List Bool). slice_step schema (Node-F.Group bs keys having)) child.1.same;
    count = λ c. child.1.count (get_or keys c 0);
    local = λ c. refl;
    kinds = λ c rest. ap (λ (ks : List Kind). counted_kinds ks keys) (child.1.kinds (get_or keys c 0) rest) ∙ sym (kinds_are schema _ (Node-F.Group _ keys having) (rolls-Group _ keys having));
    rows = λ c rest. ap (group_rows keys having) (child.1.rows (get_or keys c 0) rest) ∙ sym (mean_of (rows_of tables) _ (Node-F.Group _ keys having) (rolls-Group _ keys having));
    len = λ c rest h. absurd (false≢true h);
    words = λ c rest. child.1.words (get_or keys c 0) rest;
  }
  layer (Node-F.Count child) = record {
    same = refl;
    count = λ c. child.1.count c;
    local = λ c. refl;
    kinds = λ c rest. sym (kinds_are schema _ (Node-F.Count _) (rolls-Count _));
    rows = λ c rest. ap count_rows (child.1.rows c rest) ∙ sym (mean_of (rows_of tables) _ (Node-F.Count _) (rolls-Count _));
    len = λ c rest h. absurd (false≢true h);
    words = λ c rest. child.1.words c rest;
  }
  layer (Node-F.Distinct child) = record {
    same = child.1.same;
    count = λ c. child.1.count c;
    local = λ c. refl;
    kinds = λ c rest. child.1.kinds c rest ∙ sym (kinds_are schema _ (Node-F.Distinct _) (rolls-Distinct _));
    rows = λ c rest. ap distinct_rows (child.1.rows c rest) ∙ sym (mean_of (rows_of tables) _ (Node-F.Distinct _) (rolls-Distinct _));
    len = λ c rest h. absurd (false≢true h);
    words = λ c rest. child.1.words c rest;
  }
  layer (Node-F.Number child partition order) = record {
    same = ap (λ (bs : List Bool). slice_step schema (Node-F.Number bs partition order)) child.1.same;
    count = λ c. child.1.count c;
    local = λ c. refl;
    kinds = λ c rest. ap (λ (ks : List Kind). ks ++ kind.Int ∷ []) (child.1.kinds c rest) ∙ sym (kinds_are schema _ (Node-F.Number _ partition order) (rolls-Number _ partition order));
    rows = λ c rest. ap (number_rows partition order) (child.1.rows c rest) ∙ sym (mean_of (rows_of tables) _ (Node-F.Number _ partition order) (rolls-Number _ partition order));
    len = λ c rest h. absurd (false≢true h);
    words = λ c rest. child.1.words c rest;
  }
  layer (Node-F.Top child order limit) = record {
    same = ap (λ (bs : List Bool). slice_step schema (Node-F.Top bs order limit)) child.1.same;
    count = λ c. child.1.count c;
    local = λ c. refl;
    kinds = λ c rest. child.1.kinds c rest ∙ sym (kinds_are schema _ (Node-F.Top _ order limit) (rolls-Top _ order limit));
    rows = λ c rest. ap (top_rows order limit) (child.1.rows c rest) ∙ sym (mean_of (rows_of tables) _ (Node-F.Top _ order limit) (rolls-Top _ order limit));
    len = λ c rest h. absurd (false≢true h);
    words = λ c rest. child.1.words c rest;
  }

  pub all_own : (n : Node) → AllOwn n
  all_own = ind-Node AllOwn (λ x y is.
      rw (fold-roll-Node (Followed (List Leaf)) (followed_step schema leaf_of leaves_step) x, fold-roll-Node Entering (entering_step schema tables v) x, fold-roll-Node (Followed Own) (followed_step schema (own_leaf schema tables v) own_step) x)
      (subst (λ (z : Node-F Node). Owns
      (leaves_at (map-Node Node (Followed (List Leaf)) (followed_leaves schema) z))
      (entering_step schema tables v (map-Node Node Entering enter z))
      (own_at (map-Node Node (Followed Own) own z))) is (layer y)))

-- the words of a tree's leaves, through the leaves to which its slice column is traced
pub entered_own : (schema : SchemaModel) (tables : List Rows) (v : Value) (n : Node) (column : ℕ) (leaves : List Leaf) → leaves ≡ leaves_of schema n column
    → entered_words schema tables v n leaves ≡ words_below ((followed schema (own_leaf schema tables v) own_step n).at column)
entered_own schema tables v n column leaves e =
    ap (λ (ls : List Leaf). entered_words schema tables v n ls) (e ∙ ap (λ (t : Followed (List Leaf)). t.at column) (survey_track schema n) ∙ sym (append-nil ((followed_leaves schema n).at column)))
    ∙ sym ((all_own schema tables v n).words column [])

-- a tree of Scans, Filters and Projects alone is Local
pub local_of_own : (schema : SchemaModel) (tables : List Rows) (v : Value) (n : Node) (column : ℕ) → ((followed schema (own_leaf schema tables v) own_step n).at column).is_local ≡ is_local n
local_of_own schema tables v n column = (all_own schema tables v n).local column ∙ (entering_is schema tables v n).local
