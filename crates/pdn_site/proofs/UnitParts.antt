-- A secure unit: what is laid, what each site enters, and what is meant, side by side.
use Rattle.std.proofs.Common.{length-append, ◌≡◌, ℕ, ◌+◌, ◌*◌, ◌≤◌, max, Bool, true, false, true≢false, cond, List, [], ◌++◌, length, refl, sym, ap, ap₂, ◌∙◌, subst, arith}
use Rattle.pdn_base.specs.declared.marks.Kind.{Kind}
use Rattle.pdn_base.specs.declared.value.Value.{Value}
use Rattle.pdn_base.specs.declared.cond.Cmp.{Cmp}
use Rattle.pdn_base.specs.Operators.{Rows, listed, join_rows}
use Rattle.pdn_base.proofs.BagLaws.{Perm-from_bag, SameBag-sym}
use Rattle.pdn_base.proofs.RowLaws.{same_row-tests}
use Rattle.pdn_schema.specs.Models.{SchemaModel}
use Rattle.pdn_schema.specs.Rows.{union}
use Rattle.pdn_tree.specs.declared.node.Node.{Node-F}
use Rattle.pdn_tree.specs.declared.node.Node.TheFolds.{map-Node}
use Rattle.pdn_tree.specs.Meaning.{mean_step}
use Rattle.pdn_circuit.specs.Gates.{InputWords}
use Rattle.pdn_circuit.specs.Blocks.{Making}
use Rattle.pdn_circuit.specs.Plain.{Yields, Ends}
use Rattle.pdn_obl_rows.specs.Lists.{PaddedList, valid_rows}
use Rattle.pdn_obl_rows.specs.Encoding.{Stand}
use Rattle.pdn_obl_rows.specs.Conditions.{CondFits}
use Rattle.pdn_obl_rows.specs.Operators.{join_gates}
use Rattle.pdn_obl_rows.proofs.EncodingLaws.{length-encoded, stand_first, stand_rest}
use Rattle.pdn_level.specs.Cutting.{at}
use Rattle.pdn_level.specs.Padding.{Padding, padding_step}
use Rattle.pdn_site.specs.Laying.{Taken, Laying, making, next, list_words}
use Rattle.pdn_site.specs.Lists.{Sized, sized_leaf, sized_step, grown}
use Rattle.pdn_site.specs.Circuits.{Laid, laid_leaf, laid_part, laid_over, laid_step, leaf_list, then_gates}
use Rattle.pdn_site.specs.SiteRows.{entered, Own, own_leaf, own_part, own_over, own_step, words_below}
use Rattle.pdn_site.specs.Meaning.{Holds, past}
use Rattle.pdn_site.proofs.RowLists.{all_perm, all_append}
use Rattle.pdn_site.proofs.LayingLaws.{laid-then, laid-making}
use Rattle.pdn_site.proofs.LeafLaws.{leaf_means}
use Rattle.pdn_site.proofs.Fitting.{IsFit, AreFit}
use Rattle.pdn_site.proofs.Stages.{Staged, are_of_fit, join_staged}

pub record Parts : Type 0 where
  pub laid : Laid
  pub a : Own
  pub b : Own
  pub rows : Rows
  pub sized : Sized

abbrev pub parts_leaf : SchemaModel → List Rows → List Rows → Value → ℕ → ℕ → Parts
parts_leaf schema a b v table s = record { laid = laid_leaf schema table s; a = own_leaf schema a v table s; b = own_leaf schema b v table s; rows = at s v (union a b table); sized = sized_leaf schema 2 table s }

abbrev pub parts_step : List Rows → List Rows → Value → Node-F Parts → Parts
parts_step a b v y = record {
  laid = laid_step v (map-Node Parts Laid (λ (p : Parts). p.laid) y);
  a = own_step (map-Node Parts Own (λ (p : Parts). p.a) y);
  b = own_step (map-Node Parts Own (λ (p : Parts). p.b) y);
  rows = mean_step (union a b) (map-Node Parts Rows (λ (p : Parts). p.rows) y);
  sized = sized_step (map-Node Parts Sized (λ (p : Parts). p.sized) y);
}

-- a leaf of both sites: what each has of it
pub record IsLeaf (v : Value) (p : Parts) (columns : List Kind) : Type 0 where
  pub list : p.laid.list ≡ leaf_list columns p.laid.rows
  pub rows : p.rows ≡ p.a.rows ++ p.b.rows
  pub fit_a : AreFit columns p.laid.padding.pinned v p.a.rows
  pub fit_b : AreFit columns p.laid.padding.pinned v p.b.rows
  pub few_a : length p.a.rows ≤ p.laid.rows
  pub few_b : length p.b.rows ≤ p.laid.rows
  pub len_a : p.a.len ≡ p.laid.rows
  pub len_b : p.b.len ≡ p.laid.rows
  pub room : p.laid.padding.room ≡ 2 * p.laid.rows

abbrev pub Meant : InputWords → List ℕ → Value → Parts → List Kind → Type 0
Meant inputs words v p columns = p.sized.longest ≤ 4096 → (taken after : Taken) (list : PaddedList) → Stand inputs.a taken.a (words_below p.a) → Stand inputs.b taken.b (words_below p.b) → Yields inputs words (p.laid.list taken) (list, after)
    → Staged words list columns p.laid.padding.room p.laid.padding.pinned v p.rows × (after ≡ past (length (words_below p.a)) (length (words_below p.b)) taken)

pub record Good (inputs : InputWords) (words : List ℕ) (v : Value) (p : Parts) (columns : List Kind) : Type 0 where
  pub kinds : p.laid.kinds ≡ columns
  pub kinds_a : p.a.kinds ≡ columns
  pub kinds_b : p.b.kinds ≡ columns
  pub local_a : p.a.is_local ≡ p.laid.is_local
  pub local_b : p.b.is_local ≡ p.laid.is_local
  pub padding : p.laid.padding ≡ p.sized.padding
  pub room : p.sized.padding.room ≤ p.sized.longest
  pub wide : length p.laid.padding.pinned ≡ length columns
  pub leaf : p.laid.is_local ≡ true → IsLeaf v p columns
  pub means : Meant inputs words v p columns

-- ---- a leaf
own_words : (own : Own) (columns : List Kind) (rows : ℕ) → own.is_local ≡ true → own.kinds ≡ columns → own.len ≡ rows → words_below own ≡ entered own.rows columns rows
own_words own columns rows e k l = ap (λ b. cond b (entered own.rows own.kinds own.len) own.words) e ∙ ap₂ (λ (ks : List Kind) n. entered own.rows ks n) k l

leaf_count : (own : Own) (columns : List Kind) (rows : ℕ) → words_below own ≡ entered own.rows columns rows → list_words columns rows ≡ length (words_below own)
leaf_count own columns rows e = sym (ap length e ∙ length-encoded (listed [] own.rows) columns rows)

pub leaf_meant : (inputs : InputWords) (words : List ℕ) (v : Value) (p : Parts) (columns : List Kind) → p.a.kinds ≡ columns → p.b.kinds ≡ columns → p.a.is_local ≡ true → p.b.is_local ≡ true → length p.laid.padding.pinned ≡ length columns
    → IsLeaf v p columns → Meant inputs words v p columns
leaf_meant inputs words v p columns ka kb la lb wide is few taken after list sa sb y =
    let pinned : List Bool = p.laid.padding.pinned in
    let n : ℕ = p.laid.rows in
    let both : Rows = p.a.rows ++ p.b.rows in
    let wa = own_words p.a columns n la ka is.len_a in
    let wb = own_words p.b columns n lb kb is.len_b in
    let law = leaf_means inputs words columns n p.a.rows p.b.rows (are_of_fit columns pinned v p.a.rows is.fit_a) (are_of_fit columns pinned v p.b.rows is.fit_b) is.few_a is.few_b taken after
    (subst (λ (ws : List ℕ). Stand inputs.a taken.a ws) wa sa) (subst (λ (ws : List ℕ). Stand inputs.b taken.b ws) wb sb) list (subst (λ (l : Laying PaddedList). Yields inputs words (l taken) (list, after)) is.list y) in
    let held : Holds words list columns (2 * n) both = law.0 in
    let fit : AreFit columns pinned v (valid_rows words list)
    = all_perm (IsFit columns pinned v) (Perm-from_bag same_row-tests (SameBag-sym held.rows)) (all_append (IsFit columns pinned v) p.a.rows p.b.rows is.fit_a is.fit_b) in
    let stage : Staged words list columns (2 * n) pinned v both = record { holds = held; fit = fit; wide = wide } in (
      subst (λ (rows : Rows). Staged words list columns p.laid.padding.room pinned v rows) (sym is.rows) (subst (λ (k : ℕ). Staged words list columns k pinned v both) (sym is.room) stage),
      law.1 ∙ ap₂ (λ i j. past i j taken) (leaf_count p.a columns n wa) (leaf_count p.b columns n wb),
    )

-- ---- an operator over a list
pub over_meant : (inputs : InputWords) (words : List ℕ) (v : Value) (p q : Parts) (columns columns' : List Kind) (gates : PaddedList → Making PaddedList) → q.laid.list ≡ then_gates p.laid.list gates
    → words_below q.a ≡ words_below p.a → words_below q.b ≡ words_below p.b → p.sized.longest ≤ q.sized.longest
    → (q.sized.longest ≤ 4096 → (list out : PaddedList) → Staged words list columns p.laid.padding.room p.laid.padding.pinned v p.rows → Yields inputs words (gates list) out → Staged words out columns' q.laid.padding.room q.laid.padding.pinned v q.rows)
    → Meant inputs words v p columns → Meant inputs words v q columns'
over_meant inputs words v p q columns columns' gates e wa wb longer op means few taken after list sa sb y =
    let first = laid-then p.laid.list (λ l. making (gates l)) taken (subst (λ (l : Laying PaddedList). Yields inputs words (l taken) (list, after)) e y) in
    let below = means (omega (arith, longer, few)) taken first.between first.x (subst (λ (ws : List ℕ). Stand inputs.a taken.a ws) wa sa) (subst (λ (ws : List ℕ). Stand inputs.b taken.b ws) wb sb) first.first in
    let last = laid-making (gates first.x) first.between first.rest in (
      op few first.x list below.0 last.0,
      last.1 ∙ below.1 ∙ ap₂ (λ i j. past i j taken) (ap length (sym wa)) (ap length (sym wb)),
    )

-- a Filter or a Project
abbrev pub part_of : Parts → List Kind → List Kind → List Kind → Padding → Padding → (Rows → Rows) → (PaddedList → Making PaddedList) → Parts
part_of p kinds kinds_a kinds_b padding other f gates = record {
  laid = laid_part p.laid kinds padding gates;
  a = own_part p.a kinds_a (f p.a.rows);
  b = own_part p.b kinds_b (f p.b.rows);
  rows = f p.rows;
  sized = grown p.sized.longest other;
}

words_kept : (own : Own) (kinds : List Kind) (rows : Rows) → own.is_local ≡ false → words_below (own_part own kinds rows) ≡ words_below own
words_kept own kinds rows e = ap (λ b. cond b (entered rows kinds own.len) own.words) e ∙ sym (ap (λ b. cond b (entered own.rows own.kinds own.len) own.words) e)

-- what a Filter or a Project does to rows
pub record ByRow (columns columns' : List Kind) (pinned pinned' : List Bool) (v : Value) (f : Rows → Rows) : Type 0 where
  pub append : (xs ys : Rows) → f (xs ++ ys) ≡ f xs ++ f ys
  pub few : (xs : Rows) → length (f xs) ≤ length xs
  pub fit : (xs : Rows) → AreFit columns pinned v xs → AreFit columns' pinned' v (f xs)

module _ (inputs : InputWords) (words : List ℕ) (v : Value) where
  pub part_good : (p : Parts) (columns columns' kinds kinds_a kinds_b : List Kind) (padding other : Padding) (f : Rows → Rows) (gates : PaddedList → Making PaddedList) → Good inputs words v p columns
      → kinds ≡ columns' → kinds_a ≡ columns' → kinds_b ≡ columns' → padding ≡ other → padding.room ≡ p.laid.padding.room → length padding.pinned ≡ length columns' → ByRow columns columns' p.laid.padding.pinned padding.pinned v f
      → ((list out : PaddedList) → Staged words list columns p.laid.padding.room p.laid.padding.pinned v p.rows → Yields inputs words (gates list) out → Staged words out columns' padding.room padding.pinned v (f p.rows))
      → Good inputs words v (part_of p kinds kinds_a kinds_b padding other f gates) columns'
  part_good p columns columns' kinds kinds_a kinds_b padding other f gates good k ka kb same room wide row op = record {
    kinds = k;
    kinds_a = ka;
    kinds_b = kb;
    local_a = good.local_a;
    local_b = good.local_b;
    padding = same;
    room = omega arith;
    wide = wide;
    leaf = leaf;
    means = by p.laid.is_local refl;
  }
    where
      leaf : p.laid.is_local ≡ true → IsLeaf v (part_of p kinds kinds_a kinds_b padding other f gates) columns'
      leaf e =
          let is = good.leaf e in
          record {
            list = ap (λ b. cond b (leaf_list kinds p.laid.rows) (then_gates p.laid.list gates)) e ∙ ap (λ (ks : List Kind). leaf_list ks p.laid.rows) k;
            rows = ap f is.rows ∙ row.append p.a.rows p.b.rows;
            fit_a = row.fit p.a.rows is.fit_a;
            fit_b = row.fit p.b.rows is.fit_b;
            few_a = omega (arith, is.few_a, row.few p.a.rows);
            few_b = omega (arith, is.few_b, row.few p.b.rows);
            len_a = is.len_a;
            len_b = is.len_b;
            room = room ∙ is.room;
          }

      by : (b : Bool) → p.laid.is_local ≡ b → Meant inputs words v (part_of p kinds kinds_a kinds_b padding other f gates) columns'
      by true e = leaf_meant inputs words v (part_of p kinds kinds_a kinds_b padding other f gates) columns' ka kb (good.local_a ∙ e) (good.local_b ∙ e) wide (leaf e)
      by false e = over_meant inputs words v p (part_of p kinds kinds_a kinds_b padding other f gates) columns columns' gates (ap (λ b. cond b (leaf_list kinds p.laid.rows) (then_gates p.laid.list gates)) e)
          (words_kept p.a kinds_a (f p.a.rows) (good.local_a ∙ e)) (words_kept p.b kinds_b (f p.b.rows) (good.local_b ∙ e)) (omega arith) (λ few. op) good.means

  -- an operator that needs both sites' rows
  abbrev pub over_of : Parts → List Kind → List Kind → List Kind → Padding → Padding → Rows → Rows → Rows → (PaddedList → Making PaddedList) → Parts
  over_of p kinds kinds_a kinds_b padding other rows rows_a rows_b gates = record {
    laid = laid_over p.laid kinds padding gates;
    a = own_over (words_below p.a) kinds_a rows_a;
    b = own_over (words_below p.b) kinds_b rows_b;
    rows = rows;
    sized = grown p.sized.longest other;
  }

  pub over_good : (p : Parts) (columns columns' kinds kinds_a kinds_b : List Kind) (padding other : Padding) (rows rows_a rows_b : Rows) (gates : PaddedList → Making PaddedList) → Good inputs words v p columns
      → kinds ≡ columns' → kinds_a ≡ columns' → kinds_b ≡ columns' → padding ≡ other → length padding.pinned ≡ length columns'
      → (p.laid.padding.room ≤ 4096 → (list out : PaddedList) → Staged words list columns p.laid.padding.room p.laid.padding.pinned v p.rows → Yields inputs words (gates list) out → Staged words out columns' padding.room padding.pinned v rows)
      → Good inputs words v (over_of p kinds kinds_a kinds_b padding other rows rows_a rows_b gates) columns'
  over_good p columns columns' kinds kinds_a kinds_b padding other rows rows_a rows_b gates good k ka kb same wide op = record {
    kinds = k;
    kinds_a = ka;
    kinds_b = kb;
    local_a = refl;
    local_b = refl;
    padding = same;
    room = omega arith;
    wide = wide;
    leaf = λ e. absurd (true≢false (sym e));
    means = over_meant inputs words v p (over_of p kinds kinds_a kinds_b padding other rows rows_a rows_b gates) columns columns' gates refl refl refl (omega arith)
        (λ few. op (omega (arith, few, good.room, ap (λ (k : Padding). k.room) good.padding))) good.means;
  }

  -- a join
  abbrev pub join_of : Parts → Parts → List (List Cmp) → Padding → Padding → Rows → Rows → Parts
  join_of p r on padding other rows_a rows_b = record {
    laid = record { is_local = false; kinds = p.laid.kinds ++ r.laid.kinds; rows = 0; padding = padding; list = next p.laid.list (λ l. next r.laid.list (λ m. making (join_gates l m on))) };
    a = own_over (words_below p.a ++ words_below r.a) (p.a.kinds ++ r.a.kinds) rows_a;
    b = own_over (words_below p.b ++ words_below r.b) (p.b.kinds ++ r.b.kinds) rows_b;
    rows = join_rows on p.rows r.rows;
    sized = grown (max p.sized.longest r.sized.longest) other;
  }

  pub join_meant : Ends words → (p r : Parts) (columns columns' : List Kind) (on : List (List Cmp)) (other : Padding) (rows_a rows_b : Rows) → CondFits (columns ++ columns') on → Meant inputs words v p columns → Meant inputs words v r columns'
      → Meant inputs words v (join_of p r on (padding_step (Node-F.Join p.laid.padding r.laid.padding on)) other rows_a rows_b) (columns ++ columns')
  join_meant ends p r columns columns' on other rows_a rows_b fits mp mr few taken after list sa sb y =
      let ap_words : List ℕ = words_below p.a in
      let bp_words : List ℕ = words_below p.b in
      let ar_words : List ℕ = words_below r.a in
      let br_words : List ℕ = words_below r.b in
      let first = laid-then p.laid.list _ taken y in
      let left = mp (omega (arith, few)) taken first.between first.x (stand_first inputs.a taken.a ap_words ar_words sa) (stand_first inputs.b taken.b bp_words br_words sb) first.first in
      let second = laid-then r.laid.list _ first.between first.rest in
      let right = mr (omega (arith, few)) first.between second.between second.x
      (subst (λ (n : ℕ). Stand inputs.a n ar_words) (sym (ap (λ (t : Taken). t.a) left.1)) (stand_rest inputs.a taken.a ap_words ar_words sa))
      (subst (λ (n : ℕ). Stand inputs.b n br_words) (sym (ap (λ (t : Taken). t.b) left.1)) (stand_rest inputs.b taken.b bp_words br_words sb)) second.first in
      let last = laid-making (join_gates first.x second.x on) second.between second.rest in
      let more_a : taken.a + length ap_words + length ar_words ≡ taken.a + length (ap_words ++ ar_words) = omega (arith, length-append ap_words ar_words) in
      let more_b : taken.b + length bp_words + length br_words ≡ taken.b + length (bp_words ++ br_words) = omega (arith, length-append bp_words br_words) in (
        join_staged inputs words ends first.x columns p.laid.padding.room p.laid.padding.pinned v p.rows left.0 second.x columns' r.laid.padding.room r.laid.padding.pinned r.rows right.0 on fits list last.0,
        last.1 ∙ right.1 ∙ ap (past (length ar_words) (length br_words)) left.1 ∙ ap₂ (λ i j. both i j) more_a more_b,
      )
    where
      both : ℕ → ℕ → Taken
      both i j = record { a = i; b = j; given = taken.given; segments = taken.segments }

  pub join_good : Ends words → (p r : Parts) (columns columns' : List Kind) (on : List (List Cmp)) (rows_a rows_b : Rows) → CondFits (columns ++ columns') on → Good inputs words v p columns → Good inputs words v r columns'
      → Good inputs words v (join_of p r on (padding_step (Node-F.Join p.laid.padding r.laid.padding on)) (padding_step (Node-F.Join p.sized.padding r.sized.padding on)) rows_a rows_b) (columns ++ columns')
  join_good ends p r columns columns' on rows_a rows_b fits gp gr = record {
    kinds = ap₂ (λ (xs ys : List Kind). xs ++ ys) gp.kinds gr.kinds;
    kinds_a = ap₂ (λ (xs ys : List Kind). xs ++ ys) gp.kinds_a gr.kinds_a;
    kinds_b = ap₂ (λ (xs ys : List Kind). xs ++ ys) gp.kinds_b gr.kinds_b;
    local_a = refl;
    local_b = refl;
    padding = ap₂ (λ (x y : Padding). padding_step (Node-F.Join x y on)) gp.padding gr.padding;
    room = omega arith;
    wide = omega (arith, length-append p.laid.padding.pinned r.laid.padding.pinned, length-append columns columns', gp.wide, gr.wide);
    leaf = λ e. absurd (true≢false (sym e));
    means = join_meant ends p r columns columns' on (padding_step (Node-F.Join p.sized.padding r.sized.padding on)) rows_a rows_b fits gp.means gr.means;
  }
