-- What a laying takes, counted gate by gate.
use Rattle.std.proofs.Common.{◌≡◌, ℕ, zero, suc, ◌+◌, Bool, true, false, cond, List, [], ◌∷◌, ◌++◌, length, map, get_or, refl, sym, ap, ap₂, ◌∙◌, subst, arith, append-nil, length-append, Option}
use Rattle.std.specs.List.{range_with_len, count_by}
use Rattle.std.proofs.lemmas.List.Sums.{sum_by-append, sum_by-cons}
use Rattle.pdn_base.specs.declared.marks.Kind.{Kind}
use Rattle.pdn_base.specs.declared.marks.Kind.TheVariants as kind
use Rattle.pdn_base.specs.declared.site.Site.TheVariants.{A, B}
use Rattle.pdn_base.specs.declared.value.Value.{Value}
use Rattle.pdn_base.specs.Operators.{Rows, listed}
use Rattle.pdn_schema.specs.Models.{SchemaModel}
use Rattle.pdn_tree.specs.declared.node.Node.{Node, Node-F, fold-roll-Node}
use Rattle.pdn_tree.specs.declared.node.Node.TheFolds.{ind-Node, map-Node}
use Rattle.pdn_tree.specs.Shapes.{kind_at}
use Rattle.pdn_circuit.specs.declared.gate.Gate.{Gate}
use Rattle.pdn_circuit.specs.declared.gate.Gate.TheVariants.{Input, Given}
use Rattle.pdn_circuit.specs.Gates.{is_input_of, is_given, input_count, given_count, InputWords, HasCounts}
use Rattle.pdn_circuit.specs.Blocks.{Block, Making, gives, ◌>>=◌}
use Rattle.pdn_circuit.specs.Building.{constants}
use Rattle.pdn_obl_rows.specs.Lists.{PaddedList}
use Rattle.pdn_obl_rows.specs.Operators.{append_gates, filter_gates, projected, join_gates}
use Rattle.pdn_obl_rows.proofs.EncodingLaws.{length-encoded}
use Rattle.pdn_obl_group.specs.Operators.{count_gates}
use Rattle.pdn_obl_rank.specs.Numbers.{number_gates}
use Rattle.pdn_obl_rank.specs.Tops.{top_gates}
use Rattle.pdn_level.specs.Links.{link_at, slice_at}
use Rattle.pdn_level.specs.Slices.{Followed, followed_step, followed}
use Rattle.pdn_level.specs.Cutting.{slice_column}
use Rattle.pdn_level.specs.Padding.{Padding}
use Rattle.pdn_site.specs.Laying.{Taken, Laying, nothing, making, next, list_words, input_list, given_list}
use Rattle.pdn_site.specs.Circuits.{leaf_list, Laid, laid_leaf, laid_step, laid_part, laid_over, then_gates, cut_by, all_pinned, counted_kinds, unit_list, net_of}
use Rattle.pdn_site.specs.SiteRows.{entered, Own, own_leaf, own_step, own_part, own_over, words_below}
use Rattle.pdn_site.specs.NetMeaning.{unit_net, unit_inputs}
use Rattle.pdn_site.specs.Taking.{UnitTakes}
use Rattle.pdn_site.proofs.Quiet.{Quiet, quiet_gives, quiet_filter, quiet_append, quiet_join, quiet_once, quiet_grouped, quiet_count, quiet_number, quiet_top}
use Rattle.pdn_site.proofs.Following.{followed_at}
use Rattle.pdn_site.proofs.UnitParts.{Parts, parts_leaf, parts_step}

-- The gates take so many words of A, of B and given ones, and so many segments are taken.
pub record Takes {X : Type 0} (taken : Taken) (block : Block (X × Taken)) (a b given segments : ℕ) : Type 0 where
  pub of_a : input_count A block.gates ≡ a
  pub of_b : input_count B block.gates ≡ b
  pub of_given : given_count block.gates ≡ given
  pub after : block.result.1.segments ≡ taken.segments + segments

pub takes_as : {X : Type 0} {taken : Taken} {block : Block (X × Taken)} {a b g s a' b' g' s' : ℕ} → Takes taken block a b g s → a ≡ a' → b ≡ b' → g ≡ g' → s ≡ s' → Takes taken block a' b' g' s'
takes_as {X} {taken} h ea eb eg es = record { of_a = h.of_a ∙ ea; of_b = h.of_b ∙ eb; of_given = h.of_given ∙ eg; after = h.after ∙ ap (λ n. taken.segments + n) es }

-- ---- counts
counted : (p : Gate → Bool) (xs ys : List Gate) → count_by p (xs ++ ys) ≡ count_by p xs + count_by p ys
counted p xs ys = sum_by-append (λ (g : Gate). cond (p g) 1 0) xs ys

abbrev one_if : Bool → ℕ
one_if b = cond b 1 0

each_counts : (p : Gate → Bool) (gate : ℕ → Gate) → ((i : ℕ) → p (gate i) ≡ true) → (from k : ℕ) → count_by p (map gate (range_with_len from k)) ≡ k
each_counts p gate h from zero = refl
each_counts p gate h from (suc k) = omega (arith, sum_by-cons (λ (g : Gate). one_if (p g)) (gate from) (map gate (range_with_len (from + 1) k)), ap one_if (h from), each_counts p gate h (from + 1) k)

none_counts : (p : Gate → Bool) (gate : ℕ → Gate) → ((i : ℕ) → p (gate i) ≡ false) → (from k : ℕ) → count_by p (map gate (range_with_len from k)) ≡ 0
none_counts p gate h from zero = refl
none_counts p gate h from (suc k) = omega (arith, sum_by-cons (λ (g : Gate). one_if (p g)) (gate from) (map gate (range_with_len (from + 1) k)), ap one_if (h from), none_counts p gate h (from + 1) k)

-- ---- layings
pub takes_making : {X : Type 0} (gates : Making X) → Quiet gates → (taken : Taken) (n : ℕ) → Takes taken (making gates taken n) 0 0 0 0
unfolding ◌>>=◌ gives
takes_making gates q taken n =
    let none = q.at n in
    let whole : (gates n).gates ++ [] ≡ (gates n).gates = append-nil (gates n).gates in
    record { of_a = ap (input_count A) whole ∙ none.a; of_b = ap (input_count B) whole ∙ none.b; of_given = ap given_count whole ∙ none.given; after = omega arith }

pub takes_next : {X Y : Type 0} (first : Laying X) (rest : X → Laying Y) (taken : Taken) (n : ℕ) {a b g s a' b' g' s' : ℕ} → Takes taken (first taken n) a b g s
    → Takes (first taken n).result.1 (rest (first taken n).result.0 (first taken n).result.1 (n + length (first taken n).gates)) a' b' g' s' → Takes taken (next first rest taken n) (a + a') (b + b') (g + g') (s + s')
unfolding ◌>>=◌
takes_next first rest taken n h k =
    let xs : List Gate = (first taken n).gates in
    let ys : List Gate = (rest (first taken n).result.0 (first taken n).result.1 (n + length (first taken n).gates)).gates in
    record {
      of_a = counted (is_input_of A) xs ys ∙ ap₂ (λ i j. i + j) h.of_a k.of_a;
      of_b = counted (is_input_of B) xs ys ∙ ap₂ (λ i j. i + j) h.of_b k.of_b;
      of_given = counted is_given xs ys ∙ ap₂ (λ i j. i + j) h.of_given k.of_given;
      after = omega (arith, k.after, h.after);
    }

pub takes_a : (columns : List Kind) (len : ℕ) (taken : Taken) (n : ℕ) → Takes taken (input_list A columns len taken n) (list_words columns len) 0 0 0
unfolding ◌>>=◌ gives
takes_a columns len taken n =
    let own : List Gate = map (Input A) (range_with_len taken.a (list_words columns len)) in
    let whole : own ++ [] ≡ own = append-nil own in
    record {
      of_a = ap (input_count A) whole ∙ each_counts (is_input_of A) (Input A) (λ i. refl) taken.a (list_words columns len);
      of_b = ap (input_count B) whole ∙ none_counts (is_input_of B) (Input A) (λ i. refl) taken.a (list_words columns len);
      of_given = ap given_count whole ∙ none_counts is_given (Input A) (λ i. refl) taken.a (list_words columns len);
      after = omega arith;
    }

pub takes_b : (columns : List Kind) (len : ℕ) (taken : Taken) (n : ℕ) → Takes taken (input_list B columns len taken n) 0 (list_words columns len) 0 0
unfolding ◌>>=◌ gives
takes_b columns len taken n =
    let own : List Gate = map (Input B) (range_with_len taken.b (list_words columns len)) in
    let whole : own ++ [] ≡ own = append-nil own in
    record {
      of_a = ap (input_count A) whole ∙ none_counts (is_input_of A) (Input B) (λ i. refl) taken.b (list_words columns len);
      of_b = ap (input_count B) whole ∙ each_counts (is_input_of B) (Input B) (λ i. refl) taken.b (list_words columns len);
      of_given = ap given_count whole ∙ none_counts is_given (Input B) (λ i. refl) taken.b (list_words columns len);
      after = omega arith;
    }

pub takes_given : (columns : List Kind) (len : ℕ) (taken : Taken) (n : ℕ) → Takes taken (given_list columns len taken n) 0 0 (list_words columns len) 0
unfolding ◌>>=◌ gives
takes_given columns len taken n =
    let own : List Gate = map Given (range_with_len taken.given (list_words columns len)) in
    let whole : own ++ [] ≡ own = append-nil own in
    record {
      of_a = ap (input_count A) whole ∙ none_counts (is_input_of A) Given (λ i. refl) taken.given (list_words columns len);
      of_b = ap (input_count B) whole ∙ none_counts (is_input_of B) Given (λ i. refl) taken.given (list_words columns len);
      of_given = ap given_count whole ∙ each_counts is_given Given (λ i. refl) taken.given (list_words columns len);
      after = omega arith;
    }

-- an operator takes what its list took
pub takes_then : (list : Laying PaddedList) (gates : PaddedList → Making PaddedList) → ((l : PaddedList) → Quiet (gates l)) → (taken : Taken) (n : ℕ) {a b g s : ℕ} → Takes taken (list taken n) a b g s → Takes taken (then_gates list gates taken n) a b g s
takes_then list gates q taken n h =
    takes_as (takes_next list (λ l. making (gates l)) taken n h (takes_making (gates (list taken n).result.0) (q (list taken n).result.0) (list taken n).result.1 (n + length (list taken n).gates)))
    (omega arith) (omega arith) (omega arith) (omega arith)

pub takes_join : (left right : Laying PaddedList) (gates : PaddedList → PaddedList → Making PaddedList) → ((l r : PaddedList) → Quiet (gates l r)) → (taken : Taken) (n : ℕ) {a b g s a' b' g' s' : ℕ} → Takes taken (left taken n) a b g s
    → Takes (left taken n).result.1 (right (left taken n).result.1 (n + length (left taken n).gates)) a' b' g' s' → Takes taken (next left (λ l. next right (λ r. making (gates l r))) taken n) (a + a') (b + b') (g + g') (s + s')
takes_join left right gates q taken n h k =
    takes_next left (λ l. next right (λ r. making (gates l r))) taken n h
    (takes_then right (gates (left taken n).result.0) (q (left taken n).result.0) (left taken n).result.1 (n + length (left taken n).gates) k)

-- the lists of both sites, and then the two as one
pub takes_leaf : (columns : List Kind) (rows : ℕ) (taken : Taken) (n : ℕ) → Takes taken (leaf_list columns rows taken n) (list_words columns rows) (list_words columns rows) 0 0
takes_leaf columns rows taken n =
    takes_as (takes_join (input_list A columns rows) (input_list B columns rows) (λ a b. append_gates (a ∷ b ∷ [])) (λ a b. quiet_append (a ∷ b ∷ [])) taken n (takes_a columns rows taken n) (takes_b columns rows _ _))
    (omega arith) (omega arith) refl refl

-- a circuit takes what its laying does
after_constants : (p : Gate → Bool) (own : List Gate) → count_by p constants ≡ 0 → count_by p (constants ++ own) ≡ count_by p own
after_constants p own h = omega (arith, h, counted p constants own)

pub net_takes : (released : Bool) (laying : Laying PaddedList) (inputs : InputWords) {a b g s : ℕ} → Takes nothing (laying nothing 2) a b g s → length inputs.a ≡ a → length inputs.b ≡ b → length inputs.given ≡ g → HasCounts (net_of released laying) inputs
net_takes released laying inputs h ea eb eg =
    let own : List Gate = (laying nothing 2).gates in
    record {
      a = ea ∙ sym (after_constants (is_input_of A) own refl ∙ h.of_a);
      b = eb ∙ sym (after_constants (is_input_of B) own refl ∙ h.of_b);
      given = eg ∙ sym (after_constants is_given own refl ∙ h.of_given);
    }

-- ---- a secure unit: what is laid, and what a site has of it
record Same (l : Laid) (o : Own) : Type 0 where
  local : o.is_local ≡ l.is_local
  kinds : o.kinds ≡ l.kinds
  len : o.len ≡ l.rows

record Fed (l : Laid) (a b : Own) : Type 0 where
  of_a : Same l a
  of_b : Same l b
  takes : (taken : Taken) (n : ℕ) → Takes taken (l.list taken n) (length (words_below a)) (length (words_below b)) 0 0

leaf_long : (l : Laid) (o : Own) → Same l o → l.is_local ≡ true → list_words l.kinds l.rows ≡ length (words_below o)
leaf_long l o s e =
    sym (ap (λ flag. length (cond flag (entered o.rows o.kinds o.len) o.words)) (s.local ∙ e)
    ∙ length-encoded (listed [] o.rows) o.kinds o.len ∙ ap₂ (λ (ks : List Kind) m. list_words ks m) s.kinds s.len)

words_kept : (own : Own) (columns : List Kind) (rows : Rows) → own.is_local ≡ false → length (words_below own) ≡ length (words_below (own_part own columns rows))
words_kept own columns rows e =
    ap (λ flag. length (cond flag (entered own.rows own.kinds own.len) own.words)) e ∙ sym (ap (λ flag. length (cond flag (entered rows columns own.len) own.words)) e)

leaf_fed : (l : Laid) (a b : Own) → Same l a → Same l b → l.is_local ≡ true → l.list ≡ leaf_list l.kinds l.rows → Fed l a b
leaf_fed l a b sa sb local is = record {
  of_a = sa;
  of_b = sb;
  takes = λ taken n. subst (λ (list : Laying PaddedList). Takes taken (list taken n) (length (words_below a)) (length (words_below b)) 0 0) (sym is)
      (takes_as (takes_leaf l.kinds l.rows taken n) (leaf_long l a sa local) (leaf_long l b sb local) refl refl);
}

-- a Filter or a Project
part_fed : (l : Laid) (a b : Own) (columns columns_a columns_b : List Kind) (padding : Padding) (gates : PaddedList → Making PaddedList) (rows_a rows_b : Rows) → ((list : PaddedList) → Quiet (gates list))
    → columns_a ≡ columns → columns_b ≡ columns → Fed l a b → Fed (laid_part l columns padding gates) (own_part a columns_a rows_a) (own_part b columns_b rows_b)
part_fed l a b columns columns_a columns_b padding gates rows_a rows_b q ka kb fed = by l.is_local refl
  where
    by : (flag : Bool) → l.is_local ≡ flag → Fed (laid_part l columns padding gates) (own_part a columns_a rows_a) (own_part b columns_b rows_b)
    by true e = leaf_fed (laid_part l columns padding gates) (own_part a columns_a rows_a) (own_part b columns_b rows_b)
        (record { local = fed.of_a.local; kinds = ka; len = fed.of_a.len }) (record { local = fed.of_b.local; kinds = kb; len = fed.of_b.len }) e
        (ap (λ flag. cond flag (leaf_list columns l.rows) (then_gates l.list gates)) e)
    by false e = record {
      of_a = record { local = fed.of_a.local; kinds = ka; len = fed.of_a.len };
      of_b = record { local = fed.of_b.local; kinds = kb; len = fed.of_b.len };
      takes = λ taken n.
          subst (λ (list : Laying PaddedList). Takes taken (list taken n) (length (words_below (own_part a columns_a rows_a))) (length (words_below (own_part b columns_b rows_b))) 0 0)
          (sym (ap (λ flag. cond flag (leaf_list columns l.rows) (then_gates l.list gates)) e))
          (takes_as (takes_then l.list gates q taken n (fed.takes taken n)) (words_kept a columns_a rows_a (fed.of_a.local ∙ e)) (words_kept b columns_b rows_b (fed.of_b.local ∙ e)) refl refl);
    }

-- an operator that needs both sites' rows
over_fed : (l : Laid) (a b : Own) (columns columns_a columns_b : List Kind) (padding : Padding) (gates : PaddedList → Making PaddedList) (rows_a rows_b : Rows) → ((list : PaddedList) → Quiet (gates list))
    → columns_a ≡ columns → columns_b ≡ columns → Fed l a b → Fed (laid_over l columns padding gates) (own_over (words_below a) columns_a rows_a) (own_over (words_below b) columns_b rows_b)
over_fed l a b columns columns_a columns_b padding gates rows_a rows_b q ka kb fed = record {
  of_a = record { local = refl; kinds = ka; len = refl };
  of_b = record { local = refl; kinds = kb; len = refl };
  takes = λ taken n. takes_then l.list gates q taken n (fed.takes taken n);
}

-- ---- what is made along a slice column, by induction on the tree
module _ {X : Type 0} (schema : SchemaModel) (leaf : ℕ → ℕ → X) (step : Node-F X → X) (P : X → Type 0) (at_leaf : (table s : ℕ) → P (leaf table s)) (at_step : (y : Node-F ((x : X) × P x)) → P (step (map-Node ((x : X) × P x) X (λ e. e.0) y))) where
  abbrev All : Followed X → Type 0
  All f = (s : ℕ) → P (f.at s)

  abbrev along : Node → Followed X
  along = followed schema leaf step

  abbrev Pair : Type 0
  Pair = (n : Node) × All (along n)

  layer : (y : Node-F Pair) → All (followed_step schema leaf step (map-Node Node (Followed X) along (map-Node Pair Node (λ e. e.0) y)))
  layer (Node-F.Scan table) s = at_leaf table s
  layer (Node-F.Filter child condition) s = at_step (Node-F.Filter ((along child.0).at s, child.1 s) condition)
  layer (Node-F.Project child columns) s = at_step (Node-F.Project ((along child.0).at (get_or columns s 0), child.1 (get_or columns s 0)) columns)
  layer (Node-F.Join left right on) s =
      let link = link_at (along left.0).slices (along right.0).slices on s in
      at_step (Node-F.Join ((along left.0).at link.left, left.1 link.left) ((along right.0).at link.right, right.1 link.right) on)
  layer (Node-F.Group child keys having) s = at_step (Node-F.Group ((along child.0).at (get_or keys s 0), child.1 (get_or keys s 0)) keys having)
  layer (Node-F.Count child) s = at_step (Node-F.Count ((along child.0).at s, child.1 s))
  layer (Node-F.Distinct child) s = at_step (Node-F.Distinct ((along child.0).at s, child.1 s))
  layer (Node-F.Number child partition order) s = at_step (Node-F.Number ((along child.0).at s, child.1 s) partition order)
  layer (Node-F.Top child order limit) s = at_step (Node-F.Top ((along child.0).at s, child.1 s) order limit)

  pub followed_all : (n : Node) (s : ℕ) → P ((along n).at s)
  followed_all = ind-Node (λ n. All (along n)) (λ x y is.
      subst (λ (f : Followed X). All f) (sym (fold-roll-Node (Followed X) (followed_step schema leaf step) x))
      (subst (λ (z : Node-F Node). All (followed_step schema leaf step (map-Node Node (Followed X) along z))) is (layer y)))

-- ---- the circuit of a secure unit
module _ (schema : SchemaModel) (ta tb : List Rows) (v : Value) where
  abbrev IsFed : Parts → Type 0
  IsFed p = Fed p.laid p.a p.b

  abbrev FedPart : Type 0
  FedPart = (p : Parts) × IsFed p

  table_fed : (table s : ℕ) → IsFed (parts_leaf schema ta tb v table s)
  table_fed table s = leaf_fed (laid_leaf schema table s) (own_leaf schema ta v table s) (own_leaf schema tb v table s) (record { local = refl; kinds = refl; len = refl }) (record { local = refl; kinds = refl; len = refl }) refl refl

  step_fed : (y : Node-F FedPart) → IsFed (parts_step ta tb v (map-Node FedPart Parts (λ e. e.0) y))
  step_fed (Node-F.Scan table) = record { of_a = record { local = refl; kinds = refl; len = refl }; of_b = record { local = refl; kinds = refl; len = refl }; takes = λ taken n. takes_making _ (quiet_gives _) taken n }
  step_fed (Node-F.Filter child condition) = part_fed child.0.laid child.0.a child.0.b child.0.laid.kinds child.0.a.kinds child.0.b.kinds _ (λ l. filter_gates l condition) _ _ (λ l. quiet_filter l condition) child.1.of_a.kinds child.1.of_b.kinds child.1
  step_fed (Node-F.Project child columns) =
      part_fed child.0.laid child.0.a child.0.b (map (kind_at child.0.laid.kinds) columns) (map (kind_at child.0.a.kinds) columns) (map (kind_at child.0.b.kinds) columns) _ (λ l. gives (projected l columns)) _ _ (λ l. quiet_gives (projected l columns))
      (ap (λ (ks : List Kind). map (kind_at ks) columns) child.1.of_a.kinds) (ap (λ (ks : List Kind). map (kind_at ks) columns) child.1.of_b.kinds) child.1
  step_fed (Node-F.Join left right on) = record {
    of_a = record { local = refl; kinds = ap₂ (λ (xs ys : List Kind). xs ++ ys) left.1.of_a.kinds right.1.of_a.kinds; len = refl };
    of_b = record { local = refl; kinds = ap₂ (λ (xs ys : List Kind). xs ++ ys) left.1.of_b.kinds right.1.of_b.kinds; len = refl };
    takes = λ taken n.
        takes_as (takes_join left.0.laid.list right.0.laid.list (λ l r. join_gates l r on) (λ l r. quiet_join l r on) taken n (left.1.takes taken n) (right.1.takes _ _))
        (sym (length-append (words_below left.0.a) (words_below right.0.a))) (sym (length-append (words_below left.0.b) (words_below right.0.b))) refl refl;
  }
  step_fed (Node-F.Group child keys having) =
      over_fed child.0.laid child.0.a child.0.b (counted_kinds child.0.laid.kinds keys) (counted_kinds child.0.a.kinds keys) (counted_kinds child.0.b.kinds keys) _ _ _ _
      (quiet_grouped (cut_by (all_pinned (map (slice_at child.0.laid.padding.pinned) keys)) v) keys having)
      (ap (λ (ks : List Kind). counted_kinds ks keys) child.1.of_a.kinds) (ap (λ (ks : List Kind). counted_kinds ks keys) child.1.of_b.kinds) child.1
  step_fed (Node-F.Count child) = over_fed child.0.laid child.0.a child.0.b _ _ _ _ count_gates _ _ quiet_count refl refl child.1
  step_fed (Node-F.Distinct child) = over_fed child.0.laid child.0.a child.0.b child.0.laid.kinds child.0.a.kinds child.0.b.kinds _ _ _ _ (quiet_once (cut_by (all_pinned child.0.laid.padding.pinned) v)) child.1.of_a.kinds child.1.of_b.kinds child.1
  step_fed (Node-F.Number child partition order) =
      over_fed child.0.laid child.0.a child.0.b (child.0.laid.kinds ++ kind.Int ∷ []) (child.0.a.kinds ++ kind.Int ∷ []) (child.0.b.kinds ++ kind.Int ∷ []) _ (λ l. number_gates l partition order) _ _ (λ l. quiet_number l partition order)
      (ap (λ (ks : List Kind). ks ++ kind.Int ∷ []) child.1.of_a.kinds) (ap (λ (ks : List Kind). ks ++ kind.Int ∷ []) child.1.of_b.kinds) child.1
  step_fed (Node-F.Top child order limit) = over_fed child.0.laid child.0.a child.0.b child.0.laid.kinds child.0.a.kinds child.0.b.kinds _ (λ l. top_gates l order limit) _ _ (λ l. quiet_top l order limit) child.1.of_a.kinds child.1.of_b.kinds child.1

  abbrev parts : Node → Followed Parts
  parts = followed schema (parts_leaf schema ta tb v) (parts_step ta tb v)

  seen : {Y : Type 0} (leaf : ℕ → ℕ → Y) (step : Node-F Y → Y) (f : Parts → Y) → ((table s : ℕ) → f (parts_leaf schema ta tb v table s) ≡ leaf table s) → ((y : Node-F Parts) → f (parts_step ta tb v y) ≡ step (map-Node Parts Y f y))
      → (n : Node) (s : ℕ) → f ((parts n).at s) ≡ (followed schema leaf step n).at s
  seen leaf step f at_leaf at_step n s = followed_at schema (parts_leaf schema ta tb v) (parts_step ta tb v) leaf step f at_leaf at_step n s

  pub unit_counts : (top : Node) → HasCounts (unit_net schema top v) (unit_inputs schema ta tb top v)
  unit_counts top =
      let column : ℕ = slice_column schema top in
      let p : Parts = (parts top).at column in
      let fed : IsFed p = followed_all schema (parts_leaf schema ta tb v) (parts_step ta tb v) IsFed table_fed step_fed top column in
      let laid : p.laid ≡ (followed schema (laid_leaf schema) (laid_step v) top).at column = seen (laid_leaf schema) (laid_step v) (λ (q : Parts). q.laid) (λ t s. refl) (λ z. refl) top column in
      let own_a : p.a ≡ (followed schema (own_leaf schema ta v) own_step top).at column = seen (own_leaf schema ta v) own_step (λ (q : Parts). q.a) (λ t s. refl) (λ z. refl) top column in
      let own_b : p.b ≡ (followed schema (own_leaf schema tb v) own_step top).at column = seen (own_leaf schema tb v) own_step (λ (q : Parts). q.b) (λ t s. refl) (λ z. refl) top column in
      let takes : Takes nothing (unit_list schema v top column nothing 2) (length (words_below p.a)) (length (words_below p.b)) 0 0
      = subst (λ (l : Laid). Takes nothing (l.list nothing 2) (length (words_below p.a)) (length (words_below p.b)) 0 0) laid (fed.takes nothing 2) in
      net_takes false (unit_list schema v top column) (unit_inputs schema ta tb top v) takes (sym (ap (λ (o : Own). length (words_below o)) own_a)) (sym (ap (λ (o : Own). length (words_below o)) own_b)) refl

pub unit_takes : UnitTakes
unit_takes schema a b top v = unit_counts schema a b v top
