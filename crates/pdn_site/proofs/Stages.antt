-- What a list holds after each operator.
use Rattle.std.proofs.Common.{◌≡◌, ℕ, zero, suc, ◌*◌, ◌^◌, ◌<◌, ◌≤◌, Bool, true, false, List, [], ◌∷◌, ◌++◌, length, map, refl, sym, ap, ap₂, ◌∙◌, subst, arith, length-append, Option}
use Rattle.std.specs.List.{AllByRecursion}
use Rattle.std.proofs.lemmas.List.{length-map}
use Rattle.pdn_base.specs.declared.marks.Kind.{Kind}
use Rattle.pdn_base.specs.declared.marks.Kind.TheVariants as kind
use Rattle.pdn_base.specs.declared.value.Value.{Value}
use Rattle.pdn_base.specs.declared.order.Key.{Key}
use Rattle.pdn_base.specs.declared.cond.Cmp.{Cmp}
use Rattle.pdn_base.specs.Values.{same_row}
use Rattle.pdn_base.specs.Operators.{Rows, SameRows, filter_rows, project_rows, join_rows, group_rows, count_rows, distinct_rows, number_rows, top_rows}
use Rattle.pdn_base.proofs.BagLaws.{SameBag-refl, Perm-from_bag, SameBag-sym}
use Rattle.pdn_base.proofs.RowLaws.{same_row-tests}
use Rattle.pdn_base.proofs.OperatorLaws.{filter_bag, project_bag, join_bag, group_bag, count_bag, distinct_bag, number_bag}
use Rattle.pdn_base.proofs.Listing.{top_bag}
use Rattle.pdn_circuit.specs.Gates.{InputWords}
use Rattle.pdn_circuit.specs.Plain.{Yields, Ends}
use Rattle.pdn_obl_rows.specs.Lists.{PaddedList, kind_at, valid_rows}
use Rattle.pdn_obl_rows.specs.Encoding.{RowIsOf, RowsAreOf}
use Rattle.pdn_obl_rows.specs.Conditions.{CondFits}
use Rattle.pdn_obl_rows.specs.Operators.{filter_gates, projected, join_gates}
use Rattle.pdn_obl_rows.proofs.OperatorLaws.{filter_means, project_means}
use Rattle.pdn_obl_rows.proofs.JoinLaws.{join_means}
use Rattle.pdn_obl_rows.proofs.ShapeLaws.{projected_shaped}
use Rattle.pdn_obl_group.specs.Means.{HavingFits, HoldOnly}
use Rattle.pdn_obl_group.specs.Operators.{distinct_gates, group_gates, count_gates, cut_distinct_gates, cut_group_gates}
use Rattle.pdn_obl_group.proofs.DistinctLaws.{distinct_is}
use Rattle.pdn_obl_group.proofs.GroupLaws.{group_is}
use Rattle.pdn_obl_group.proofs.TallyLaws.{count_law}
use Rattle.pdn_obl_group.proofs.CutLaws.{cut_distinct_is, cut_group_is}
use Rattle.pdn_obl_rank.specs.Keys.{KeysFit}
use Rattle.pdn_obl_rank.specs.Means.{LimitFits}
use Rattle.pdn_obl_rank.specs.Numbers.{number_gates}
use Rattle.pdn_obl_rank.specs.Tops.{top_gates}
use Rattle.pdn_obl_rank.proofs.PlaceLaws.{number_means}
use Rattle.pdn_obl_rank.proofs.TopLaws.{top_means}
use Rattle.pdn_level.specs.Links.{slice_at}
use Rattle.pdn_site.specs.Circuits.{all_pinned}
use Rattle.pdn_site.specs.Meaning.{Holds}
use Rattle.pdn_site.proofs.RowLists.{all_perm, of_all, to_all}
use Rattle.pdn_site.proofs.OperatorShapes.{HasShape, filter_shape, join_shape, distinct_shape, group_shape, count_shape, cut_distinct_shape, cut_group_shape, number_shape, top_shape}
use Rattle.pdn_site.proofs.Fitting.{IsFit, AreFit, fit_filter, fit_project, fit_distinct, fit_pairs, fit_number_from, fit_top, fit_count, fit_group, only_value, few_valid}

-- A list that holds rows, in which each pinned column holds v.
pub record Staged (words : List ℕ) (list : PaddedList) (columns : List Kind) (count : ℕ) (pinned : List Bool) (v : Value) (meant : Rows) : Type 0 where
  pub holds : Holds words list columns count meant
  pub fit : AreFit columns pinned v (valid_rows words list)
  pub wide : length pinned ≡ length columns

pub are_of_fit : (columns : List Kind) (pinned : List Bool) (v : Value) (rows : Rows) → AreFit columns pinned v rows → RowsAreOf columns rows
are_of_fit columns pinned v rows h = of_all columns rows (each_of rows h)
  where
    each_of : (rows : Rows) → AreFit columns pinned v rows → AllByRecursion (RowIsOf columns) rows
    each_of [] h = tt
    each_of (r ∷ rs) h = (h.0.of, each_of rs h.1)

staged : (words : List ℕ) (out : PaddedList) (columns : List Kind) (count : ℕ) (pinned : List Bool) (v : Value) (meant : Rows) → HasShape out columns count → SameRows (valid_rows words out) meant
    → AreFit columns pinned v (valid_rows words out) → length pinned ≡ length columns → Staged words out columns count pinned v meant
staged words out columns count pinned v meant shape same fit wide =
    let are = are_of_fit columns pinned v (valid_rows words out) fit in
    record { holds = record { shaped = shape.shaped; kinds = shape.kinds; len = shape.len; rows = same; are = are }; fit = fit; wide = wide }

-- no column is pinned
pub unpinned : List Kind → List Bool
unpinned columns = map (λ k. false) columns

pub never_pinned : (columns : List Kind) (c : ℕ) → slice_at (unpinned columns) c ≡ true → ⊥
unfolding unpinned
never_pinned [] c e = absurd cc
never_pinned (k ∷ ks) zero e = absurd cc
never_pinned (k ∷ ks) (suc c) e = never_pinned ks c e

pub unpinned_wide : (columns : List Kind) → length (unpinned columns) ≡ length columns
unfolding unpinned
unpinned_wide columns = length-map columns (λ k. false)

-- whatever was pinned
pub loosened : (columns : List Kind) (pinned : List Bool) (v : Value) (rows : Rows) → AreFit columns pinned v rows → AreFit columns (unpinned columns) v rows
loosened columns pinned v [] h = tt
loosened columns pinned v (r ∷ rs) h = (record { of = h.0.of; pins = λ c e. absurd (never_pinned columns c e) }, loosened columns pinned v rs h.1)

pub loose_rows : (columns : List Kind) (v : Value) (rows : Rows) → AllByRecursion (RowIsOf columns) rows → AreFit columns (unpinned columns) v rows
loose_rows columns v [] h = tt
loose_rows columns v (r ∷ rs) h = (record { of = h.0; pins = λ c e. absurd (never_pinned columns c e) }, loose_rows columns v rs h.1)

pub free : (words : List ℕ) (list : PaddedList) (columns : List Kind) (count : ℕ) (v : Value) (meant : Rows) → Holds words list columns count meant → Staged words list columns count (unpinned columns) v meant
unfolding unpinned
free words list columns count v meant h = record { holds = h; fit = each_of (valid_rows words list) (to_all columns (valid_rows words list) h.are); wide = length-map columns (λ k. false) }
  where
    each_of : (rows : Rows) → AllByRecursion (RowIsOf columns) rows → AreFit columns (unpinned columns) v rows
    each_of [] a = tt
    each_of (r ∷ rs) a = (record { of = a.0; pins = λ c e. absurd (never_pinned columns c e) }, each_of rs a.1)

module _ (inputs : InputWords) (words : List ℕ) (ends : Ends words) (list : PaddedList) (columns : List Kind) (count : ℕ) (pinned : List Bool) (v : Value) (meant : Rows) (stage : Staged words list columns count pinned v meant) where
  abbrev held : Holds words list columns count meant
  held = stage.holds

  abbrev rows : Rows
  rows = valid_rows words list

  few_rows : count ≤ 4096 → length rows ≤ 4096
  few_rows few = omega (arith, few_valid words list, held.len, few)

  few_list : count ≤ 4096 → list.len < 2 ^ 32
  few_list few = omega (arith, held.len, few)

  own_there : (chosen : List ℕ) → AllByRecursion (λ c. c < length columns) chosen → AllByRecursion (λ c. c < length list.kinds) chosen
  own_there chosen h = subst (λ (ks : List Kind). AllByRecursion (λ c. c < length ks) chosen) (sym held.kinds) h

  -- a result whose valid rows are an operator's rows over the list's
  result : (out : PaddedList) (own columns' : List Kind) (length' count' : ℕ) (pinned' : List Bool) (meant' : Rows) (xs : Rows) → HasShape out own length' → own ≡ columns' → length' ≡ count' → valid_rows words out ≡ xs → SameRows xs meant'
      → AreFit columns' pinned' v xs → length pinned' ≡ length columns' → Staged words out columns' count' pinned' v meant'
  result out own columns' length' count' pinned' meant' xs shape ks n e same fit wide =
      staged words out columns' count' pinned' v meant' (record { shaped = shape.shaped; kinds = shape.kinds ∙ ks; len = shape.len ∙ n })
      (subst (λ (zs : Rows). SameRows zs meant') (sym e) same) (subst (λ (zs : Rows). AreFit columns' pinned' v zs) (sym e) fit) wide

  pub filter_staged : (clauses : List (List Cmp)) → CondFits columns clauses → (out : PaddedList) → Yields inputs words (filter_gates list clauses) out → Staged words out columns count pinned v (filter_rows clauses meant)
  filter_staged clauses fits out y =
      result out list.kinds columns list.len count pinned (filter_rows clauses meant) (filter_rows clauses rows) (filter_shape list clauses held.shaped y) held.kinds held.len
      (filter_means inputs words ends list held.shaped clauses (subst (λ (ks : List Kind). CondFits ks clauses) (sym held.kinds) fits) y)
      (filter_bag clauses rows meant held.rows) (fit_filter columns pinned v clauses rows stage.fit) stage.wide

  pub project_staged : (chosen : List ℕ) → AllByRecursion (λ c. c < length columns) chosen → Staged words (projected list chosen) (map (kind_at columns) chosen) count (map (slice_at pinned) chosen) v (project_rows chosen meant)
  project_staged chosen there =
      result (projected list chosen) (map (kind_at list.kinds) chosen) (map (kind_at columns) chosen) list.len count (map (slice_at pinned) chosen) (project_rows chosen meant) (project_rows chosen rows)
      (record { shaped = projected_shaped list chosen held.shaped (own_there chosen there); kinds = refl; len = refl }) (ap (λ (ks : List Kind). map (kind_at ks) chosen) held.kinds) held.len
      (project_means words list held.shaped chosen (own_there chosen there))
      (project_bag chosen rows meant held.rows) (fit_project columns pinned v chosen rows there stage.fit) (length-map chosen (slice_at pinned) ∙ sym (length-map chosen (kind_at columns)))

  pub distinct_staged : (out : PaddedList) → Yields inputs words (distinct_gates list) out → Staged words out columns count pinned v (distinct_rows meant)
  distinct_staged out y =
      result out list.kinds columns list.len count pinned (distinct_rows meant) (distinct_rows rows) (distinct_shape list held.shaped y) held.kinds held.len
      (distinct_is ends list held.shaped y) (distinct_bag rows meant held.rows) (fit_distinct columns pinned v rows stage.fit) stage.wide

  own_are : RowsAreOf list.kinds rows
  own_are = subst (λ (ks : List Kind). RowsAreOf ks rows) (sym held.kinds) held.are

  pub cut_distinct_staged : all_pinned pinned ≡ true → (out : PaddedList) → Yields inputs words (cut_distinct_gates list v) out → Staged words out columns 1 pinned v (distinct_rows meant)
  cut_distinct_staged all out y =
      result out list.kinds columns 1 1 pinned (distinct_rows meant) (distinct_rows rows) (cut_distinct_shape list v y) held.kinds refl
      (cut_distinct_is ends list v own_are (subst (λ (ks : List Kind). HoldOnly v ks rows) (sym held.kinds) (only_value columns pinned v rows stage.wide all stage.fit)) y)
      (distinct_bag rows meant held.rows) (fit_distinct columns pinned v rows stage.fit) stage.wide

  group_columns : (keys : List ℕ) → map (kind_at list.kinds) keys ++ kind.Int ∷ [] ≡ map (kind_at columns) keys ++ kind.Int ∷ []
  group_columns keys = ap (λ (ks : List Kind). map (kind_at ks) keys ++ kind.Int ∷ []) held.kinds

  group_wide : (keys : List ℕ) → length (map (slice_at pinned) keys ++ false ∷ []) ≡ length (map (kind_at columns) keys ++ kind.Int ∷ [])
  group_wide keys = omega (arith, length-append (map (slice_at pinned) keys) (false ∷ []), length-append (map (kind_at columns) keys) (kind.Int ∷ []), length-map keys (slice_at pinned), length-map keys (kind_at columns))

  pub group_staged : (keys : List ℕ) (having : Option ℕ) → count ≤ 4096 → AllByRecursion (λ c. c < length columns) keys → HavingFits having → (out : PaddedList) → Yields inputs words (group_gates list keys having) out
      → Staged words out (map (kind_at columns) keys ++ kind.Int ∷ []) count (map (slice_at pinned) keys ++ false ∷ []) v (group_rows keys having meant)
  group_staged keys having few there fits out y =
      result out (map (kind_at list.kinds) keys ++ kind.Int ∷ []) (map (kind_at columns) keys ++ kind.Int ∷ []) list.len count (map (slice_at pinned) keys ++ false ∷ []) (group_rows keys having meant) (group_rows keys having rows)
      (group_shape list keys having held.shaped (own_there keys there) y) (group_columns keys) held.len
      (group_is ends list held.shaped keys (own_there keys there) (few_list few) having fits y)
      (group_bag keys having rows meant held.rows) (fit_group columns pinned v keys having rows there (omega (arith, few_rows few)) stage.fit) (group_wide keys)

  pub cut_group_staged : (keys : List ℕ) (having : Option ℕ) → count ≤ 4096 → AllByRecursion (λ c. c < length columns) keys → HavingFits having → all_pinned (map (slice_at pinned) keys) ≡ true → (out : PaddedList) → Yields inputs words (cut_group_gates list keys v having) out
      → Staged words out (map (kind_at columns) keys ++ kind.Int ∷ []) 1 (map (slice_at pinned) keys ++ false ∷ []) v (group_rows keys having meant)
  cut_group_staged keys having few there fits all out y =
      let cut_fit = fit_project columns pinned v keys rows there stage.fit in
      let same : length (map (slice_at pinned) keys) ≡ length (map (kind_at columns) keys) = length-map keys (slice_at pinned) ∙ sym (length-map keys (kind_at columns)) in
      let only : HoldOnly v (map (kind_at list.kinds) keys) (project_rows keys rows)
      = subst (λ (ks : List Kind). HoldOnly v (map (kind_at ks) keys) (project_rows keys rows)) (sym held.kinds) (only_value (map (kind_at columns) keys) (map (slice_at pinned) keys) v (project_rows keys rows) same all cut_fit) in
      result out (map (kind_at list.kinds) keys ++ kind.Int ∷ []) (map (kind_at columns) keys ++ kind.Int ∷ []) 1 1 (map (slice_at pinned) keys ++ false ∷ []) (group_rows keys having meant) (group_rows keys having rows)
      (cut_group_shape list keys v having (few_list few) y) (group_columns keys) refl
      (cut_group_is ends list held.shaped (few_list few) keys (own_there keys there) v having fits own_are only y)
      (group_bag keys having rows meant held.rows) (fit_group columns pinned v keys having rows there (omega (arith, few_rows few)) stage.fit) (group_wide keys)

  pub count_staged : count ≤ 4096 → (out : PaddedList) → Yields inputs words (count_gates list) out → Staged words out (kind.Int ∷ []) 1 (false ∷ []) v (count_rows meant)
  count_staged few out y =
      result out (kind.Int ∷ []) (kind.Int ∷ []) 1 1 (false ∷ []) (count_rows meant) (count_rows rows) (count_shape list (few_list few) y) refl refl
      (count_law ends list (few_list few) y) (subst (λ (zs : Rows). SameRows (count_rows rows) zs) (count_bag rows meant held.rows) (SameBag-refl same_row (count_rows rows)))
      (fit_count v (length rows) (omega (arith, few_rows few))) refl

  pub number_staged : (partition : List ℕ) (order : List Key) → count ≤ 4096 → KeysFit (length columns) partition order → (out : PaddedList) → Yields inputs words (number_gates list partition order) out
      → Staged words out (columns ++ kind.Int ∷ []) count (pinned ++ false ∷ []) v (number_rows partition order meant)
  number_staged partition order few fits out y =
      result out (list.kinds ++ kind.Int ∷ []) (columns ++ kind.Int ∷ []) list.len count (pinned ++ false ∷ []) (number_rows partition order meant) (number_rows partition order rows)
      (number_shape list partition order held.shaped y) (ap (λ (ks : List Kind). ks ++ kind.Int ∷ []) held.kinds) held.len
      (number_means inputs words ends list held.shaped (few_list few) partition order (subst (λ (ks : List Kind). KeysFit (length ks) partition order) (sym held.kinds) fits) out y)
      (number_bag partition order rows meant held.rows) (fit_number_from columns pinned v partition order rows [] rows stage.wide (few_rows few) (omega (arith, few_rows few)) stage.fit)
      (omega (arith, length-append pinned (false ∷ []), length-append columns (kind.Int ∷ []), stage.wide))

  pub top_staged : (order : List Key) (limit : Option ℕ) → count ≤ 4096 → KeysFit (length columns) [] order → LimitFits limit → (out : PaddedList) → Yields inputs words (top_gates list order limit) out → Staged words out columns count pinned v (top_rows order limit meant)
  top_staged order limit few fits least out y =
      let is = top_means inputs words ends list held.shaped (few_list few) order (subst (λ (ks : List Kind). KeysFit (length ks) [] order) (sym held.kinds) fits) limit least out y in
      let shape = top_shape list order limit held.shaped y in
      staged words out columns count pinned v (top_rows order limit meant) (record { shaped = shape.shaped; kinds = shape.kinds ∙ held.kinds; len = shape.len ∙ held.len })
      (subst (λ (zs : Rows). SameRows (valid_rows words out) zs) (top_bag order limit rows meant held.rows) is.rows)
      (all_perm (IsFit columns pinned v) (Perm-from_bag same_row-tests (SameBag-sym is.rows)) (fit_top columns pinned v order limit rows stage.fit)) stage.wide

  pub join_staged : (other : PaddedList) (columns' : List Kind) (count' : ℕ) (pinned' : List Bool) (meant' : Rows) → Staged words other columns' count' pinned' v meant' → (on : List (List Cmp)) → CondFits (columns ++ columns') on → (out : PaddedList)
      → Yields inputs words (join_gates list other on) out → Staged words out (columns ++ columns') (count * count') (pinned ++ pinned') v (join_rows on meant meant')
  join_staged other columns' count' pinned' meant' also on fits out y =
      let more : Holds words other columns' count' meant' = also.holds in
      let both : list.kinds ++ other.kinds ≡ columns ++ columns' = ap₂ (λ (xs ys : List Kind). xs ++ ys) held.kinds more.kinds in
      result out (list.kinds ++ other.kinds) (columns ++ columns') (list.len * other.len) (count * count') (pinned ++ pinned') (join_rows on meant meant') (join_rows on rows (valid_rows words other))
      (join_shape list other on held.shaped more.shaped y) both (ap₂ (λ m n. m * n) held.len more.len)
      (join_means inputs words ends list other held.shaped more.shaped on (subst (λ (ks : List Kind). CondFits ks on) (sym both) fits) out y)
      (join_bag on rows meant (valid_rows words other) meant' held.rows more.rows)
      (fit_pairs columns pinned v columns' pinned' on rows (valid_rows words other) stage.wide stage.fit also.fit)
      (omega (arith, length-append pinned pinned', length-append columns columns', stage.wide, also.wide))
