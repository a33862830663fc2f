-- A node of the root, by its level: a leaf, a segment, or an operator.
use Rattle.std.proofs.Common.{◌≡◌, ℕ, ◌+◌, ◌*◌, Bool, get_or, List, [], ◌∷◌, refl, sym, ◌∙◌, subst}
use Rattle.std.specs.List.{flat_map}
use Rattle.pdn_base.specs.declared.marks.Kind.{Kind}
use Rattle.pdn_base.specs.declared.site.Site.TheVariants.{A, B}
use Rattle.pdn_base.specs.declared.value.Value.{Value}
use Rattle.pdn_base.specs.Operators.{Rows}
use Rattle.pdn_schema.specs.Models.{SchemaModel}
use Rattle.pdn_schema.specs.Rows.{union}
use Rattle.pdn_tree.specs.declared.node.Node.{Node, Node-F}
use Rattle.pdn_tree.specs.declared.node.Node.TheFolds.{map-Node}
use Rattle.pdn_tree.specs.Meaning.{mean, mean_step}
use Rattle.pdn_tree.specs.Shapes.{Shape, shape_step, kinds}
use Rattle.pdn_circuit.specs.Gates.{InputWords}
use Rattle.pdn_circuit.specs.Plain.{Ends}
use Rattle.pdn_obl_rows.specs.Lists.{PaddedList}
use Rattle.pdn_level.specs.declared.staged.Level.{Level}
use Rattle.pdn_level.specs.declared.staged.Level.TheVariants as level
use Rattle.pdn_level.specs.Levels.{Survey, survey_step, level_of_node}
use Rattle.pdn_site.specs.Laying.{Laying}
use Rattle.pdn_site.specs.Circuits.{Rooted, rooted, root_step, by_level, leaf_list, segment_list}
use Rattle.pdn_site.specs.Compiling.{alone, sum_lens, RootSized, RootLists, root_sized, sized_by, root_sizes_step}
use Rattle.pdn_site.specs.SiteRows.{entered, slice_words, Slice, OwnRoot, RootRows, root_own, root_by, root_words_step}
use Rattle.pdn_site.specs.Meaning.{numbers_step}
use Rattle.pdn_site.specs.RootMeaning.{Topped, topped, topped_step, tops_by, parts_of_slices}
use Rattle.pdn_site.proofs.RootPieces.{Piece, IsPiece, IsRootLeaf, leaf_is, segment_is}

pub record RootParts : Type 0 where
  pub laid : Rooted
  pub a : RootRows
  pub b : RootRows
  pub sized : RootLists
  pub topped : Topped
  pub rows : Rows
  pub fit : Shape
  pub number : Bool
  pub survey : Survey

module _ (schema : SchemaModel) (ta tb : List Rows) (slices : List (List Slice)) where
  abbrev pub root_parts_step : Node-F RootParts → RootParts
  root_parts_step y = record {
    laid = root_step schema (parts_of_slices slices) (map-Node RootParts Rooted (λ (p : RootParts). p.laid) y);
    a = root_words_step A schema ta slices (map-Node RootParts RootRows (λ (p : RootParts). p.a) y);
    b = root_words_step B schema tb slices (map-Node RootParts RootRows (λ (p : RootParts). p.b) y);
    sized = root_sizes_step schema (parts_of_slices slices) (map-Node RootParts RootLists (λ (p : RootParts). p.sized) y);
    topped = topped_step schema (map-Node RootParts Topped (λ (p : RootParts). p.topped) y);
    rows = mean_step (union ta tb) (map-Node RootParts Rows (λ (p : RootParts). p.rows) y);
    fit = shape_step schema (map-Node RootParts Shape (λ (p : RootParts). p.fit) y);
    number = numbers_step (map-Node RootParts Bool (λ (p : RootParts). p.number) y);
    survey = survey_step schema (map-Node RootParts Survey (λ (p : RootParts). p.survey) y);
  }

abbrev pub piece_of : RootParts → Piece
piece_of p = record { list = p.laid.list; a = p.a.words; b = p.b.words; sizes = p.sized.lists; tops = p.topped.tops; columns = p.fit.kinds; rows = p.rows }

-- each part was made of this tree
pub record Trees (n : Node) (p : RootParts) : Type 0 where
  pub laid : p.laid.tree ≡ n
  pub a : p.a.tree ≡ n
  pub b : p.b.tree ≡ n
  pub sized : p.sized.tree ≡ n
  pub topped : p.topped.tree ≡ n

-- of a Local tree, what each site has of it
pub record HasLeaf (p : RootParts) : Type 0 where
  pub leaf : IsRootLeaf p.fit.kinds p.laid.rows p.rows p.a.rows p.b.rows
  pub len_a : p.a.len ≡ p.laid.rows
  pub len_b : p.b.len ≡ p.laid.rows
  pub sized : p.sized.rows ≡ p.laid.rows

module _ (inputs : InputWords) (words : List ℕ) (ends : Ends words) (schema : SchemaModel) (ta tb : List Rows) (slices : List (List Slice)) (outputs : ℕ → Value → List ℕ) where
  abbrev Pieced : Piece → Type 0
  Pieced q = IsPiece inputs words ends schema ta tb slices outputs q

  pub record RootGood (n : Node) (p : RootParts) : Type 0 where
    pub trees : Trees n p
    pub kinds : p.laid.kinds ≡ p.fit.kinds
    pub leaf : p.survey.level ≡ level.Local → HasLeaf p
    pub piece : Pieced (piece_of p)

  -- what is known of a node's tree
  pub record Known (n : Node) (p : RootParts) : Type 0 where
    pub level : level_of_node schema n ≡ p.survey.level
    pub kinds : kinds schema n ≡ p.fit.kinds
    pub rows : mean (union ta tb) n ≡ p.rows

  abbrev pub node_of : Node → Node → Node → Node → Node → List Kind → ℕ → Laying PaddedList → Rows → ℕ → (ℕ → OwnRoot) → Rows → ℕ → (ℕ → OwnRoot) → ℕ → (ℕ → RootSized) → List Node → Rows → Shape → Bool → Survey → RootParts
  node_of tl ta' tb' ts tt' ks count above rows_a len_a below_a rows_b len_b below_b count' sizes tops rows fit number s = record {
    laid = rooted schema (parts_of_slices slices) tl ks count above;
    a = root_own A schema ta slices ta' rows_a len_a below_a;
    b = root_own B schema tb slices tb' rows_b len_b below_b;
    sized = root_sized schema (parts_of_slices slices) ts count' sizes;
    topped = topped schema tt' tops;
    rows = rows;
    fit = fit;
    number = number;
    survey = s;
  }

  module _ (n : Node) (ks : List Kind) (count : ℕ) (above : Laying PaddedList) (rows_a : Rows) (len_a : ℕ) (below_a : ℕ → OwnRoot) (rows_b : Rows) (len_b : ℕ) (below_b : ℕ → OwnRoot) (count' : ℕ) (sizes : ℕ → RootSized) (tops : List Node) (rows : Rows) (fit : Shape) (number : Bool) (s : Survey) where
    -- the node, where its parts were made of these trees
    abbrev made : Node → Node → Node → Node → Node → RootParts
    made tl ta' tb' ts tt' = node_of tl ta' tb' ts tt' ks count above rows_a len_a below_a rows_b len_b below_b count' sizes tops rows fit number s

    -- its piece, where its level is this one
    abbrev leveled : Level → Piece
    leveled l = record {
      list = by_level l (leaf_list ks count) (segment_list (parts_of_slices slices) ks) above;
      a = root_by l A schema ta slices n rows_a len_a below_a;
      b = root_by l B schema tb slices n rows_b len_b below_b;
      sizes = sized_by l (parts_of_slices slices) count' sizes;
      tops = tops_by l n tops;
      columns = fit.kinds;
      rows = rows;
    }

    leaf_leveled : ks ≡ fit.kinds → kinds schema n ≡ fit.kinds → HasLeaf (made n n n n n) → Pieced (leveled level.Local)
    leaf_leveled ek en has =
        subst (λ (k : List Kind). Pieced (form k (kinds schema n) len_a len_b count')) (sym ek)
        (subst (λ (k : List Kind). Pieced (form fit.kinds k len_a len_b count')) (sym en)
        (subst (λ (k : ℕ). Pieced (form fit.kinds fit.kinds k len_b count')) (sym has.len_a)
        (subst (λ (k : ℕ). Pieced (form fit.kinds fit.kinds count k count')) (sym has.len_b)
        (subst (λ (k : ℕ). Pieced (form fit.kinds fit.kinds count count k)) (sym has.sized)
        (leaf_is inputs words ends schema ta tb slices outputs fit.kinds count rows rows_a rows_b has.leaf)))))
      where
        form : List Kind → List Kind → ℕ → ℕ → ℕ → Piece
        form own entered_by la lb lc = record {
          list = leaf_list own count;
          a = λ i. record { words = entered rows_a entered_by la; segments = i };
          b = λ i. record { words = entered rows_b entered_by lb; segments = i };
          sizes = alone (2 * lc);
          tops = [];
          columns = fit.kinds;
          rows = rows;
        }

    segment_leveled : ks ≡ fit.kinds → kinds schema n ≡ fit.kinds → mean (union ta tb) n ≡ rows → Pieced (leveled level.Sliced)
    segment_leveled ek en em =
        subst (λ (k : List Kind). Pieced (form k fit.kinds rows)) (en ∙ sym ek)
        (subst (λ (k : List Kind). Pieced (form (kinds schema n) k rows)) en
        (subst (λ (m : Rows). Pieced (form (kinds schema n) (kinds schema n) m)) em
        (segment_is inputs words ends schema ta tb slices outputs n)))
      where
        form : List Kind → List Kind → Rows → Piece
        form own columns meant = record {
          list = segment_list (parts_of_slices slices) own;
          a = λ i. record { words = flat_map (slice_words A schema ta n) (get_or slices i []); segments = i + 1 };
          b = λ i. record { words = flat_map (slice_words B schema tb n) (get_or slices i []); segments = i + 1 };
          sizes = λ i. alone (sum_lens (get_or (parts_of_slices slices) i [])) (i + 1);
          tops = n ∷ [];
          columns = columns;
          rows = meant;
        }

    abbrev above_piece : Piece
    above_piece = record { list = above; a = below_a; b = below_b; sizes = sizes; tops = tops; columns = fit.kinds; rows = rows }

    leveled_is : ks ≡ fit.kinds → kinds schema n ≡ fit.kinds → mean (union ta tb) n ≡ rows → (l : Level) → (l ≡ level.Local → HasLeaf (made n n n n n)) → (l ≡ level.Secure → Pieced above_piece) → Pieced (leveled l)
    leveled_is ek en em level.Local leaf over = leaf_leveled ek en (leaf refl)
    leveled_is ek en em level.Sliced leaf over = segment_leveled ek en em
    leveled_is ek en em level.Secure leaf over = over refl

    pub node_good : (tl ta' tb' ts tt' : Node) → tl ≡ n → ta' ≡ n → tb' ≡ n → ts ≡ n → tt' ≡ n → ks ≡ fit.kinds → Known n (made tl ta' tb' ts tt') → (s.level ≡ level.Local → HasLeaf (made tl ta' tb' ts tt')) → (s.level ≡ level.Secure → Pieced above_piece)
        → RootGood n (made tl ta' tb' ts tt')
    node_good tl ta' tb' ts tt' el ea eb es et ek known leaf over =
        let at_level : Pieced (leveled (level_of_node schema n))
        = subst (λ (l : Level). Pieced (leveled l)) (sym known.level) (leveled_is ek known.kinds known.rows s.level (λ e. has_same (leaf e)) over) in
        record {
          trees = record { laid = el; a = ea; b = eb; sized = es; topped = et };
          kinds = ek;
          leaf = leaf;
          piece = subst (λ (t : Node). Pieced (piece_of (made t ta' tb' ts tt'))) (sym el)
              (subst (λ (t : Node). Pieced (piece_of (made n t tb' ts tt'))) (sym ea)
              (subst (λ (t : Node). Pieced (piece_of (made n n t ts tt'))) (sym eb)
              (subst (λ (t : Node). Pieced (piece_of (made n n n t tt'))) (sym es)
              (subst (λ (t : Node). Pieced (piece_of (made n n n n t))) (sym et) at_level))));
        }
      where
        has_same : HasLeaf (made tl ta' tb' ts tt') → HasLeaf (made n n n n n)
        has_same h = record { leaf = h.leaf; len_a = h.len_a; len_b = h.len_b; sized = h.sized }
