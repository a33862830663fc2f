-- The root: what is laid of a tree, what each site enters, and what is meant, side by side.
use Rattle.std.proofs.Common.{◌≡◌, ℕ, suc, ◌+◌, ◌*◌, ◌≤◌, List, [], ◌∷◌, ◌++◌, length, get_or, refl, sym, ap, ap₂, ◌∙◌, subst, arith, length-append, append-nil, append_assoc}
use Rattle.std.specs.List.{AllByRecursion, flat_map}
use Rattle.pdn_base.specs.declared.marks.Kind.{Kind}
use Rattle.pdn_base.specs.declared.site.Site.TheVariants.{A, B}
use Rattle.pdn_base.specs.declared.value.Value.{Value}
use Rattle.pdn_base.specs.declared.cond.Cmp.{Cmp}
use Rattle.pdn_base.specs.Operators.{Rows, listed, join_rows}
use Rattle.pdn_schema.specs.Models.{SchemaModel}
use Rattle.pdn_schema.specs.Rows.{union}
use Rattle.pdn_tree.specs.declared.node.Node.{Node}
use Rattle.pdn_tree.specs.Meaning.{mean}
use Rattle.pdn_tree.specs.Shapes.{kinds}
use Rattle.pdn_circuit.specs.Gates.{InputWords}
use Rattle.pdn_circuit.specs.Blocks.{Making}
use Rattle.pdn_circuit.specs.Plain.{Yields, Ends}
use Rattle.pdn_obl_rows.specs.Lists.{PaddedList}
use Rattle.pdn_obl_rows.specs.Encoding.{RowIsOf, Stand}
use Rattle.pdn_obl_rows.specs.Operators.{join_gates}
use Rattle.pdn_obl_rows.proofs.EncodingLaws.{length-encoded, stand_first, stand_rest}
use Rattle.pdn_site.specs.Laying.{Taken, Laying, making, next}
use Rattle.pdn_site.specs.Circuits.{leaf_list, then_gates, segment_list}
use Rattle.pdn_site.specs.Compiling.{RootSized, alone, sum_lens, over_len, over_both}
use Rattle.pdn_site.specs.SiteRows.{Slice, OwnRoot, entered, slice_words, words_of_both}
use Rattle.pdn_site.specs.Meaning.{Holds}
use Rattle.pdn_site.specs.RootMeaning.{SegmentsGive, segment_given, given_from, parts_of_slices}
use Rattle.pdn_site.proofs.RowLists.{of_all}
use Rattle.pdn_site.proofs.LayingLaws.{laid-then, laid-making}
use Rattle.pdn_site.proofs.LeafLaws.{leaf_means}
use Rattle.pdn_site.proofs.PartLaws.{segment_taken}

-- of a tree: its list, the sites' words and the lengths, from a segment on, its segments' tops, its columns and its rows
pub record Piece : Type 0 where
  pub list : Laying PaddedList
  pub a : ℕ → OwnRoot
  pub b : ℕ → OwnRoot
  pub sizes : ℕ → RootSized
  pub tops : List Node
  pub columns : List Kind
  pub rows : Rows

abbrev pub onward : ℕ → ℕ → ℕ → ℕ → Taken → Taken
onward a b given segments taken = record { a = taken.a + a; b = taken.b + b; given = taken.given + given; segments = taken.segments + segments }

abbrev pub laid_at : ℕ → ℕ → ℕ → ℕ → Taken
laid_at a b given segments = record { a = a; b = b; given = given; segments = segments }

-- a leaf of both sites: what each has of it
pub record IsRootLeaf (columns : List Kind) (count : ℕ) (rows rows_a rows_b : Rows) : Type 0 where
  pub both : rows ≡ rows_a ++ rows_b
  pub of_a : AllByRecursion (RowIsOf columns) rows_a
  pub of_b : AllByRecursion (RowIsOf columns) rows_b
  pub few_a : length rows_a ≤ count
  pub few_b : length rows_b ≤ count

same_taken : (a a' b b' g g' s s' : ℕ) → a ≡ a' → b ≡ b' → g ≡ g' → s ≡ s' → laid_at a b g s ≡ laid_at a' b' g' s'
same_taken a a' b b' g g' s s' e f h k = ap₂ (λ i j. laid_at i j g s) e f ∙ ap₂ (λ i j. laid_at a' b' i j) h k

module _ (inputs : InputWords) (words : List ℕ) (ends : Ends words) (schema : SchemaModel) (ta tb : List Rows) (slices : List (List Slice)) (outputs : ℕ → Value → List ℕ) where
  abbrev given_at : ℕ → List Node → List ℕ
  given_at i tops = given_from slices outputs i tops

  abbrev pub PieceMeant : Piece → Type 0
  PieceMeant q = (taken after : Taken) (list : PaddedList) → (q.sizes taken.segments).longest ≤ 4096 → SegmentsGive schema ta tb slices outputs taken.segments q.tops
      → Stand inputs.a taken.a (q.a taken.segments).words → Stand inputs.b taken.b (q.b taken.segments).words → Stand inputs.given taken.given (given_at taken.segments q.tops) → Yields inputs words (q.list taken) (list, after)
      → Holds words list q.columns (q.sizes taken.segments).len q.rows
      × (after ≡ onward (length (q.a taken.segments).words) (length (q.b taken.segments).words) (length (given_at taken.segments q.tops)) (length q.tops) taken)

  pub record IsPiece (q : Piece) : Type 0 where
    pub meant : PieceMeant q
    pub next_a : (i : ℕ) → (q.a i).segments ≡ i + length q.tops
    pub next_b : (i : ℕ) → (q.b i).segments ≡ i + length q.tops
    pub next_s : (i : ℕ) → (q.sizes i).segments ≡ i + length q.tops
    pub room : (i : ℕ) → (q.sizes i).len ≤ (q.sizes i).longest

  -- ---- several segments
  give_left : (i : ℕ) (xs ys : List Node) → SegmentsGive schema ta tb slices outputs i (xs ++ ys) → SegmentsGive schema ta tb slices outputs i xs
  give_left i [] ys h = tt
  give_left i (x ∷ xs) ys h = (h.0, give_left (i + 1) xs ys h.1)

  give_right : (i : ℕ) (xs ys : List Node) → SegmentsGive schema ta tb slices outputs i (xs ++ ys) → SegmentsGive schema ta tb slices outputs (i + length xs) ys
  give_right i [] ys h = subst (λ (n : ℕ). SegmentsGive schema ta tb slices outputs n ys) (let e : i ≡ i + 0 = omega arith in e) h
  give_right i (x ∷ xs) ys h = subst (λ (n : ℕ). SegmentsGive schema ta tb slices outputs n ys) (let e : i + 1 + length xs ≡ i + suc (length xs) = omega arith in e) (give_right (i + 1) xs ys h.1)

  given_both : (i : ℕ) (xs ys : List Node) → given_at i (xs ++ ys) ≡ given_at i xs ++ given_at (i + length xs) ys
  given_both i [] ys = ap (λ n. given_at n ys) (let e : i ≡ i + 0 = omega arith in e)
  given_both i (x ∷ xs) ys =
      ap (λ (ws : List ℕ). segment_given slices outputs i ++ ws) (given_both (i + 1) xs ys ∙ ap (λ n. given_at (i + 1) xs ++ given_at n ys) (let e : i + 1 + length xs ≡ i + suc (length xs) = omega arith in e))
      ∙ sym (append_assoc (segment_given slices outputs i) (given_at (i + 1) xs) (given_at (i + suc (length xs)) ys))

  -- ---- an operator over a list
  abbrev pub over_piece : Piece → List Kind → Rows → (PaddedList → Making PaddedList) → (ℕ → ℕ) → Piece
  over_piece q columns rows gates len = record { list = then_gates q.list gates; a = q.a; b = q.b; sizes = over_len len q.sizes; tops = q.tops; columns = columns; rows = rows }

  pub over_is : (q : Piece) (columns : List Kind) (rows : Rows) (gates : PaddedList → Making PaddedList) (len : ℕ → ℕ) → IsPiece q
      → ((count : ℕ) → count ≤ 4096 → (list out : PaddedList) → Holds words list q.columns count q.rows → Yields inputs words (gates list) out → Holds words out columns (len count) rows) → IsPiece (over_piece q columns rows gates len)
  over_is q columns rows gates len is op = record {
    meant = λ taken after list few give sa sb sg y.
        let i : ℕ = taken.segments in
        let first = laid-then q.list (λ l. making (gates l)) taken y in
        let below = is.meant taken first.between first.x (omega (arith, few)) give sa sb sg first.first in
        let last = laid-making (gates first.x) first.between first.rest in
        (op (q.sizes i).len (omega (arith, few, is.room i)) first.x list below.0 last.0, last.1 ∙ below.1);
    next_a = is.next_a;
    next_b = is.next_b;
    next_s = is.next_s;
    room = λ i. omega arith;
  }

  -- ---- a join
  abbrev pub join_piece : Piece → Piece → List (List Cmp) → Piece
  join_piece p q on = record {
    list = next p.list (λ l. next q.list (λ r. making (join_gates l r on)));
    a = words_of_both p.a q.a;
    b = words_of_both p.b q.b;
    sizes = over_both p.sizes q.sizes;
    tops = p.tops ++ q.tops;
    columns = p.columns ++ q.columns;
    rows = join_rows on p.rows q.rows;
  }

  pub join_is : (p q : Piece) (on : List (List Cmp)) → IsPiece p → IsPiece q
      → ((m n : ℕ) (left right out : PaddedList) → Holds words left p.columns m p.rows → Holds words right q.columns n q.rows → Yields inputs words (join_gates left right on) out → Holds words out (p.columns ++ q.columns) (m * n) (join_rows on p.rows q.rows))
      → IsPiece (join_piece p q on)
  join_is p q on ip iq op = record {
    meant = meant;
    next_a = λ i. iq.next_a (p.a i).segments ∙ ap (λ n. n + length q.tops) (ip.next_a i) ∙ far i;
    next_b = λ i. iq.next_b (p.b i).segments ∙ ap (λ n. n + length q.tops) (ip.next_b i) ∙ far i;
    next_s = λ i. iq.next_s (p.sizes i).segments ∙ ap (λ n. n + length q.tops) (ip.next_s i) ∙ far i;
    room = λ i. omega arith;
  }
    where
      far : (i : ℕ) → i + length p.tops + length q.tops ≡ i + length (p.tops ++ q.tops)
      far i = omega (arith, length-append p.tops q.tops)

      meant : PieceMeant (join_piece p q on)
      meant taken after list few give sa sb sg y =
          let i : ℕ = taken.segments in
          let j : ℕ = i + length p.tops in
          let wa : List ℕ = (p.a i).words in
          let wb : List ℕ = (p.b i).words in
          let wg : List ℕ = given_at i p.tops in
          let va : List ℕ = (q.a j).words in
          let vb : List ℕ = (q.b j).words in
          let vg : List ℕ = given_at j q.tops in
          let all_a : (join_piece p q on).a i ≡ record { words = wa ++ va; segments = (q.a j).segments } = ap (λ k. record { words = wa ++ (q.a k).words; segments = (q.a k).segments }) (ip.next_a i) in
          let all_b : (join_piece p q on).b i ≡ record { words = wb ++ vb; segments = (q.b j).segments } = ap (λ k. record { words = wb ++ (q.b k).words; segments = (q.b k).segments }) (ip.next_b i) in
          let all_s : (q.sizes (p.sizes i).segments) ≡ q.sizes j = ap q.sizes (ip.next_s i) in
          let ta' : Stand inputs.a taken.a (wa ++ va) = subst (λ (o : OwnRoot). Stand inputs.a taken.a o.words) all_a sa in
          let tb' : Stand inputs.b taken.b (wb ++ vb) = subst (λ (o : OwnRoot). Stand inputs.b taken.b o.words) all_b sb in
          let tg' : Stand inputs.given taken.given (wg ++ vg) = subst (λ (ws : List ℕ). Stand inputs.given taken.given ws) (given_both i p.tops q.tops) sg in
          let first = laid-then p.list _ taken y in
          let left = ip.meant taken first.between first.x (omega (arith, few)) (give_left i p.tops q.tops give) (stand_first inputs.a taken.a wa va ta') (stand_first inputs.b taken.b wb vb tb') (stand_first inputs.given taken.given wg vg tg') first.first in
          let mid : Taken = onward (length wa) (length wb) (length wg) (length p.tops) taken in
          let at_mid : first.between ≡ mid = left.1 in
          let second = laid-then q.list _ first.between first.rest in
          let few_right : (q.sizes j).longest ≤ 4096 = omega (arith, few, ap (λ (z : RootSized). z.longest) all_s) in
          let right = iq.meant mid second.between second.x few_right (give_right i p.tops q.tops give) (stand_rest inputs.a taken.a wa va ta') (stand_rest inputs.b taken.b wb vb tb') (stand_rest inputs.given taken.given wg vg tg')
          (subst (λ (t : Taken). Yields inputs words (q.list t) (second.x, second.between)) at_mid second.first) in
          let last = laid-making (join_gates first.x second.x on) second.between second.rest in
          let held : Holds words list (p.columns ++ q.columns) ((p.sizes i).len * (q.sizes j).len) (join_rows on p.rows q.rows) = op (p.sizes i).len (q.sizes j).len first.x second.x list left.0 right.0 last.0 in (
            subst (λ (z : RootSized). Holds words list (p.columns ++ q.columns) ((p.sizes i).len * z.len) (join_rows on p.rows q.rows)) (sym all_s) held,
            last.1 ∙ right.1
                ∙ same_taken _ _ _ _ _ _ _ _ (omega (arith, length-append wa va, ap (λ (o : OwnRoot). length o.words) all_a)) (omega (arith, length-append wb vb, ap (λ (o : OwnRoot). length o.words) all_b))
                (omega (arith, length-append wg vg, ap (λ (ws : List ℕ). length ws) (given_both i p.tops q.tops))) (far i),
          )

  -- ---- a leaf
  abbrev pub leaf_piece : List Kind → ℕ → Rows → Rows → Rows → Piece
  leaf_piece columns count rows rows_a rows_b = record {
    list = leaf_list columns count;
    a = λ i. record { words = entered rows_a columns count; segments = i };
    b = λ i. record { words = entered rows_b columns count; segments = i };
    sizes = alone (2 * count);
    tops = [];
    columns = columns;
    rows = rows;
  }

  pub leaf_is : (columns : List Kind) (count : ℕ) (rows rows_a rows_b : Rows) → IsRootLeaf columns count rows rows_a rows_b → IsPiece (leaf_piece columns count rows rows_a rows_b)
  leaf_is columns count rows rows_a rows_b is = record { meant = meant; next_a = none; next_b = none; next_s = none; room = λ i. omega arith }
    where
      none : (i : ℕ) → i ≡ i + 0
      none i = omega arith

      meant : PieceMeant (leaf_piece columns count rows rows_a rows_b)
      meant taken after list few give sa sb sg y =
          let law = leaf_means inputs words columns count rows_a rows_b (of_all columns rows_a is.of_a) (of_all columns rows_b is.of_b) is.few_a is.few_b taken after sa sb list y in (
            subst (λ (rs : Rows). Holds words list columns (2 * count) rs) (sym is.both) law.0,
            law.1 ∙ same_taken _ _ _ _ _ _ _ _ (omega (arith, length-encoded (listed [] rows_a) columns count)) (omega (arith, length-encoded (listed [] rows_b) columns count)) (omega arith) (omega arith),
          )

  -- ---- a segment
  abbrev pub segment_piece : Node → Piece
  segment_piece top = record {
    list = segment_list (parts_of_slices slices) (kinds schema top);
    a = λ i. record { words = flat_map (slice_words A schema ta top) (get_or slices i []); segments = i + 1 };
    b = λ i. record { words = flat_map (slice_words B schema tb top) (get_or slices i []); segments = i + 1 };
    sizes = λ i. alone (sum_lens (get_or (parts_of_slices slices) i [])) (i + 1);
    tops = top ∷ [];
    columns = kinds schema top;
    rows = mean (union ta tb) top;
  }

  pub segment_is : (top : Node) → IsPiece (segment_piece top)
  segment_is top = record { meant = meant; next_a = λ i. refl; next_b = λ i. refl; next_s = λ i. refl; room = λ i. omega arith }
    where
      meant : PieceMeant (segment_piece top)
      meant taken after list few give sa sb sg y =
          let own : List ℕ = segment_given slices outputs taken.segments in
          let alone_given : own ++ [] ≡ own = append-nil own in
          let law = segment_taken inputs words schema ta tb top slices outputs taken (list, after) give.0 sa sb (subst (λ (ws : List ℕ). Stand inputs.given taken.given ws) alone_given sg) y in (
            law.0,
            law.1 ∙ same_taken _ _ _ _ _ _ _ _ refl refl (omega (arith, ap (λ (ws : List ℕ). length ws) alone_given)) refl,
          )
