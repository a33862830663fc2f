-- What binding lets pass of a block makes a sound tree, which gives the kinds of the block's items.
use Rattle.std.proofs.Common.{◌≡◌, ℕ, ◌+◌, ◌<◌, Bool, true, false, ◌||◌, nat_lt, nat_le, List, [], ◌∷◌, ◌++◌, map, length, sym, refl, ap, ap₂, ◌∙◌, subst, Option, None, arith, length-append, append-nil, ltb-false, le-leb}
use Rattle.std.specs.List.{AllByRecursion, list_any}
use Rattle.std.proofs.lemmas.List.{map-append, length-map}
use Rattle.pdn_base.specs.declared.marks.Kind.{Kind}
use Rattle.pdn_base.specs.declared.marks.Kind.TheVariants as kind
use Rattle.pdn_base.specs.declared.order.Key.{Key}
use Rattle.pdn_schema.specs.Models.{SchemaModel}
use Rattle.pdn_schema.specs.Schemas.{IsSchema}
use Rattle.pdn_sql.specs.declared.query.Col.{Col}
use Rattle.pdn_sql.specs.declared.query.What.{What}
use Rattle.pdn_sql.specs.declared.query.What.TheVariants as what
use Rattle.pdn_sql.specs.declared.query.Item.{Item}
use Rattle.pdn_sql.specs.declared.query.Block.{Block}
use Rattle.pdn_tree.specs.declared.node.Node.{Node}
use Rattle.pdn_tree.specs.Columns.{has, Has, Below, place_in}
use Rattle.pdn_plan.specs.Names.{place, scope_kinds}
use Rattle.pdn_plan.specs.Steps.{firsts, is_number, counts, key_at, window_key, number_or, window_step, count_or, group_or, step_of, what_columns, items_columns, what_at, items_at, output_name}
use Rattle.pdn_plan.specs.declared.steps.Step.{Step}
use Rattle.pdn_plan.specs.declared.steps.Step.TheVariants.{Grouped, Counted, Numbered, Unchanged}
use Rattle.pdn_plan.specs.Planning.{scope_of, bounds, kept, chosen_node, step_node, step_columns, step_width, block_items, block_node, block_relation, cut_to, what_kind}
use Rattle.pdn_plan.specs.Binding.{sources_refusal, is_loose, is_some_of, is_grouped, loose_refusal, is_counted, joins_below, is_wide, after_sources, block_refusal}
use Rattle.pdn_tree.specs.Shapes.{has_join, kind_at, all_within, key_columns}
use Rattle.pdn_plan.specs.Answer.{StartsPlain}
use Rattle.pdn_plan.proofs.Pushing.{map-map}
use Rattle.pdn_plan.proofs.Stepping.{AllColumns, IsColumn, shows-columns}
use Rattle.pdn_plan.proofs.Looking.{or_none, cols-within, items-within}
use Rattle.pdn_plan.proofs.OneBlock.{all-parts, keys-known, not-grouped, or_right, not-both}
use Rattle.pdn_plan.proofs.Mentions.{has-firsts, not-loose}
use Rattle.pdn_plan.proofs.Central.{Passed, passed, named-in, in-kept}
use Rattle.pdn_tree.proofs.ShapeLaws.{Gives, gives-Group, gives-Count, gives-Number}
use Rattle.pdn_plan.proofs.KindLaws.{kinds_of, kind-left, kind-right, all-within, kept-below, kept-kind, kept-kinds, kept-within}
use Rattle.pdn_plan.proofs.CondFits.{no-cause, both_false, not_false}
use Rattle.pdn_plan.proofs.TreeFits.{gives-cut, gives-distinct}
use Rattle.pdn_plan.proofs.SourceFits.{RelationFits, EarlierFit, SourcesFit, sources-fit, chosen-gives, chosen-single}
use Rattle.pdn_plan.specs.declared.scope.Bound.{Bound}
use Rattle.pdn_plan.specs.declared.scope.Seen.{Seen}
use Rattle.pdn_plan.specs.declared.scope.Earlier.{Earlier}

-- ---- the step

-- the kinds of the columns that a step adds
abbrev pub new_kinds : Step → List Kind
new_kinds (Grouped keys having) = kind.Int ∷ []
new_kinds Counted = kind.Int ∷ []
new_kinds (Numbered partition order) = kind.Int ∷ []
new_kinds Unchanged = []

-- the kinds of all columns that it gives
abbrev pub step_kinds : List Kind → List ℕ → Step → List Kind
step_kinds ks kept st = kinds_of ks (step_columns kept st) ++ new_kinds st

-- what it needs of the columns that are kept, and whether a Join may be below
abbrev pub StepNeeds : List ℕ → Bool → Step → Type 0
StepNeeds kept joins (Grouped keys having) = AllByRecursion (Has kept) keys × (joins ≡ false)
StepNeeds kept joins Counted = joins ≡ false
StepNeeds kept joins (Numbered partition order) = AllByRecursion (Has kept) (partition ++ key_columns order) × (joins ≡ false)
StepNeeds kept joins Unchanged = Unit {0}

one-longer : (ks : List Kind) (n : ℕ) → length ks ≡ n → length (ks ++ kind.Int ∷ []) ≡ n + 1
one-longer ks n e = omega (arith, length-append ks (kind.Int ∷ []), e)

step-long : (ks : List Kind) (kept : List ℕ) (st : Step) → length (step_kinds ks kept st) ≡ step_width kept st
step-long ks kept (Grouped keys having) = one-longer (kinds_of ks keys) (length keys) (length-map keys (kind_at ks))
step-long ks kept Counted = refl
step-long ks kept (Numbered partition order) = one-longer (kinds_of ks kept) (length kept) (length-map kept (kind_at ks))
step-long ks kept Unchanged = ap length (append-nil (kinds_of ks kept)) ∙ length-map kept (kind_at ks)

moved-keys : (f : ℕ → ℕ) (partition : List ℕ) (order : List Key) → map f partition ++ key_columns (map (key_at f) order) ≡ map f (partition ++ key_columns order)
moved-keys f partition order = ap (λ cs. map f partition ++ cs) (map-map (λ k. k.column) (key_at f) order ∙ sym (map-map f (λ k. k.column) order)) ∙ sym (map-append f partition (key_columns order))

within-kept : (ks : List Kind) (kept cs : List ℕ) → AllByRecursion (Has kept) cs → all_within (kinds_of ks kept) (map (place_in kept) cs) ≡ true
within-kept ks kept cs h = all-within (kinds_of ks kept) (map (place_in kept) cs) (subst (λ (n : ℕ). Below n (map (place_in kept) cs)) (sym (length-map kept (kind_at ks))) (kept-within kept cs h))

step-gives : (schema : SchemaModel) (ks : List Kind) (kept : List ℕ) (n : Node) (st : Step) → Gives schema n (kinds_of ks kept) → StepNeeds kept (has_join n) st → nat_le (step_width kept st) 16 ≡ true
    → Gives schema (step_node kept st n) (step_kinds ks kept st)
step-gives schema ks kept n (Grouped keys having) h needs few =
    let same : kinds_of (kinds_of ks kept) (map (place_in kept) keys) ≡ kinds_of ks keys = kept-kinds ks kept keys needs.0 in
    subst (λ (ms : List Kind). Gives schema (step_node kept (Grouped keys having) n) (ms ++ kind.Int ∷ [])) same
    (gives-Group schema n (kinds_of ks kept) (map (place_in kept) keys) having h (within-kept ks kept keys needs.0) needs.1
    (ap (λ ms. nat_le (length (ms ++ kind.Int ∷ [])) 16) same ∙ ap (λ w. nat_le w 16) (step-long ks kept (Grouped keys having)) ∙ few))
step-gives schema ks kept n Counted h needs few = gives-Count schema n (kinds_of ks kept) h needs
step-gives schema ks kept n (Numbered partition order) h needs few =
    gives-Number schema n (kinds_of ks kept) (map (place_in kept) partition) (map (key_at (place_in kept)) order) h
    (ap (all_within (kinds_of ks kept)) (moved-keys (place_in kept) partition order) ∙ within-kept ks kept (partition ++ key_columns order) needs.0) needs.1
    (ap (λ w. nat_le w 16) (step-long ks kept (Numbered partition order)) ∙ few)
step-gives schema ks kept n Unchanged h needs few = subst (λ (ms : List Kind). Gives schema n ms) (sym (append-nil (kinds_of ks kept))) h

-- ---- the items

-- an item is one of the columns that the step gives first, or the new one
abbrev pub ItemFits : List ℕ → (Col → ℕ) → List Kind → What → Type 0
ItemFits columns place new (what.Column col) = Has columns (place col)
ItemFits columns place new what.Count = new ≡ kind.Int ∷ []
ItemFits columns place new (what.Number partition order) = new ≡ kind.Int ∷ []

abbrev pub ItemsFit : List ℕ → (Col → ℕ) → List Kind → List Item → Type 0
ItemsFit columns place new items = AllByRecursion (λ i. ItemFits columns place new i.what) items

new-kind : (ks : List Kind) (columns : List ℕ) (new : List Kind) → new ≡ kind.Int ∷ [] → kind_at (kinds_of ks columns ++ new) (length columns) ≡ kind.Int
new-kind ks columns new e =
    ap (kind_at (kinds_of ks columns ++ new)) (omega (arith, length-map columns (kind_at ks))) ∙ kind-right (kinds_of ks columns) new 0 ∙ ap (λ ms. kind_at ms 0) e

what-kind : (scope : List Seen) (columns : List ℕ) (new : List Kind) (w : What) → ItemFits columns (place scope) new w
    → kind_at (kinds_of (scope_kinds scope) columns ++ new) (what_at (λ c. place_in columns (place scope c)) (length columns) w) ≡ what_kind scope w
what-kind scope columns new (what.Column col) h =
    kind-left (kinds_of (scope_kinds scope) columns) new (place_in columns (place scope col)) (subst (λ (n : ℕ). place_in columns (place scope col) < n) (sym (length-map columns (kind_at (scope_kinds scope)))) (kept-below columns (place scope col) h))
    ∙ kept-kind (scope_kinds scope) columns (place scope col) h
what-kind scope columns new what.Count h = new-kind (scope_kinds scope) columns new h
what-kind scope columns new (what.Number partition order) h = new-kind (scope_kinds scope) columns new h

items-kinds : (scope : List Seen) (columns : List ℕ) (new : List Kind) (items : List Item) → ItemsFit columns (place scope) new items
    → kinds_of (kinds_of (scope_kinds scope) columns ++ new) (items_at (λ c. place_in columns (place scope c)) (length columns) items) ≡ map (λ i. what_kind scope i.what) items
items-kinds scope columns new [] h = refl
items-kinds scope columns new (i ∷ is) h = ap₂ (λ k more. k ∷ more) (what-kind scope columns new i.what h.0) (items-kinds scope columns new is h.1)

new-below : (columns : List ℕ) (new : List Kind) → new ≡ kind.Int ∷ [] → length columns < length columns + length new
new-below columns new e = subst (λ (ms : List Kind). length columns < length columns + length ms) (sym e) (omega arith)

what-below : (place : Col → ℕ) (columns : List ℕ) (new : List Kind) (w : What) → ItemFits columns place new w → what_at (λ c. place_in columns (place c)) (length columns) w < length columns + length new
what-below place columns new (what.Column col) h = let lt : place_in columns (place col) < length columns = kept-below columns (place col) h in omega (arith, lt)
what-below place columns new what.Count h = new-below columns new h
what-below place columns new (what.Number partition order) h = new-below columns new h

items-below : (place : Col → ℕ) (columns : List ℕ) (new : List Kind) (items : List Item) → ItemsFit columns place new items → Below (length columns + length new) (items_at (λ c. place_in columns (place c)) (length columns) items)
items-below place columns new [] h = tt
items-below place columns new (i ∷ is) h = (what-below place columns new i.what h.0, items-below place columns new is h.1)

-- ---- what the block's step is

-- where a block groups
grouped-by : (place : Col → ℕ) (group : List Col) (having : Option ℕ) (next : Step) (keys : List ℕ) (least : Option ℕ) → ((js : List ℕ) (l : Option ℕ) → next ≡ Grouped js l → ⊥)
    → group_or (map place group) having next ≡ Grouped keys least → (firsts (λ c. c) [] (map place group) ≡ keys) × (is_some_of group ≡ true)
grouped-by place [] having next keys least bar e = absurd (bar keys least e)
grouped-by place (c ∷ cs) having next keys least bar e = (cc, refl)

window-counts : (place : Col → ℕ) (items : List Item) → window_step place items ≡ Counted → ⊥
window-counts place [] e = cc
window-counts place (i ∷ is) e = one i.what e (window-counts place is)
  where
    one : (w : What) → number_or place w (window_step place is) ≡ Counted → (window_step place is ≡ Counted → ⊥) → ⊥
    one (what.Column col) f next = next f
    one what.Count f next = next f
    one (what.Number partition order) f next = cc

-- where it counts
counted-by : (place : Col → ℕ) (group : List Col) (items : List Item) (having : Option ℕ) (b : Bool) → group_or (map place group) having (count_or b (window_step place items)) ≡ Counted → (group ≡ []) × (b ≡ true)
counted-by place [] items having true e = (refl, refl)
counted-by place [] items having false e = absurd (window-counts place items e)
counted-by place (c ∷ cs) items having b e = absurd cc

-- where it numbers
numbered-by : (place : Col → ℕ) (group : List Col) (items : List Item) (having : Option ℕ) (b : Bool) (p : List ℕ) (o : List Key) → group_or (map place group) having (count_or b (window_step place items)) ≡ Numbered p o → window_step place items ≡ Numbered p o
numbered-by place [] items having true p o e = absurd cc
numbered-by place [] items having false p o e = e
numbered-by place (c ∷ cs) items having b p o e = absurd cc

window-columns : (place : Col → ℕ) (Q : ℕ → Type 0) (items : List Item) (p : List ℕ) (o : List Key) → window_step place items ≡ Numbered p o → AllByRecursion Q (items_columns place items)
    → AllByRecursion Q (p ++ key_columns o) × (list_any (λ i. is_number i.what) items ≡ true)
window-columns place Q [] p o e h = absurd cc
window-columns place Q (i ∷ is) p o e h = one i.what e h (window-columns place Q is p o)
  where
    one : (w : What) → number_or place w (window_step place is) ≡ Numbered p o → AllByRecursion Q (what_columns place w ++ items_columns place is)
        → (window_step place is ≡ Numbered p o → AllByRecursion Q (items_columns place is) → AllByRecursion Q (p ++ key_columns o) × (list_any (λ i. is_number i.what) is ≡ true))
        → AllByRecursion Q (p ++ key_columns o) × ((is_number w || list_any (λ i. is_number i.what) is) ≡ true)
    one (what.Column col) f k next = next f k.1
    one what.Count f k next = next f k
    one (what.Number partition order) f k next =
        let ps : map place partition ≡ p = cc in
        let os : map (window_key place) order ≡ o = cc in (
          subst (λ (cs : List ℕ). AllByRecursion Q cs)
              (ap (λ cs. map place partition ++ cs) (sym (map-map (λ k. k.column) (window_key place) order)) ∙ ap₂ (λ xs ys. xs ++ key_columns ys) ps os)
              (all-parts Q (map place partition ++ map (λ o. place o.col) order) (items_columns place is) k).0,
          refl,
        )

-- a column that an item shows
abbrev pub Shown : (ℕ → Type 0) → (Col → ℕ) → What → Type 0
Shown Q place (what.Column col) = Q (place col)
Shown Q place what.Count = Unit {0}
Shown Q place (what.Number partition order) = Unit {0}

columns-shown : (place : Col → ℕ) (Q : ℕ → Type 0) (items : List Item) → AllByRecursion Q (items_columns place items) → AllByRecursion (λ i. Shown Q place i.what) items
columns-shown place Q [] h = tt
columns-shown place Q (i ∷ is) h =
    let two = all-parts Q (what_columns place i.what) (items_columns place is) h in
    (one i.what two.0, columns-shown place Q is two.1)
  where
    one : (w : What) → AllByRecursion Q (what_columns place w) → Shown Q place w
    one (what.Column col) k = k.0
    one what.Count k = tt
    one (what.Number partition order) k = tt

-- ---- the items that each step can show

grouped-fit : (scope : List Seen) (group : List Col) (keys : List ℕ) (items : List Item) → ((c : ℕ) → Has (map (place scope) group) c → Has keys c) → AllByRecursion (λ i. is_loose scope group i.what ≡ false) items
    → ItemsFit keys (place scope) (kind.Int ∷ []) items
grouped-fit scope group keys [] w h = tt
grouped-fit scope group keys (i ∷ is) w h = (one i.what h.0, grouped-fit scope group keys is w h.1)
  where
    one : (x : What) → is_loose scope group x ≡ false → ItemFits keys (place scope) (kind.Int ∷ []) x
    one (what.Column col) e = w (place scope col) (not_false (has (map (place scope) group) (place scope col)) e)
    one what.Count e = refl
    one (what.Number partition order) e = refl

numbered-fit : (kept : List ℕ) (place : Col → ℕ) (items : List Item) → AllByRecursion (λ i. Shown (Has kept) place i.what) items → ItemsFit kept place (kind.Int ∷ []) items
numbered-fit kept place [] h = tt
numbered-fit kept place (i ∷ is) h = (one i.what h.0, numbered-fit kept place is h.1)
  where
    one : (x : What) → Shown (Has kept) place x → ItemFits kept place (kind.Int ∷ []) x
    one (what.Column col) k = k
    one what.Count k = refl
    one (what.Number partition order) k = refl

unchanged-fit : (kept : List ℕ) (place : Col → ℕ) (items : List Item) → AllColumns (λ c. Has kept (place c)) items → ItemsFit kept place [] items
unchanged-fit kept place [] h = tt
unchanged-fit kept place (i ∷ is) h = (one i.what h.0, unchanged-fit kept place is h.1)
  where
    one : (x : What) → IsColumn (λ c. Has kept (place c)) x → ItemFits kept place [] x
    one (what.Column col) k = k
    one what.Count k = absurd k
    one (what.Number partition order) k = absurd k

-- ---- a block that passes

few-of : (n : ℕ) → nat_lt 16 n ≡ false → nat_le n 16 ≡ true
few-of n e = le-leb n 16 (ltb-false 16 n e)

-- no node has more than 16 columns
pub record Few (scope : List Seen) (bs : List Bound) (b : Block) : Type 0 where
  pub kept_few : nat_le (length (kept scope bs b)) 16 ≡ true
  pub step_few : nat_le (step_width (kept scope bs b) (step_of (place scope) b)) 16 ≡ true
  pub items_few : nat_le (length b.items) 16 ≡ true

few-known : (scope : List Seen) (bs : List Bound) (b : Block) → is_wide scope bs b ≡ false → Few scope bs b
few-known scope bs b e =
    let one = both_false (nat_lt 16 (length (kept scope bs b))) (nat_lt 16 (step_width (kept scope bs b) (step_of (place scope) b)) || nat_lt 16 (length b.items)) e in
    let two = both_false (nat_lt 16 (step_width (kept scope bs b) (step_of (place scope) b))) (nat_lt 16 (length b.items)) one.1 in
    record { kept_few = few-of (length (kept scope bs b)) one.0; step_few = few-of (step_width (kept scope bs b) (step_of (place scope) b)) two.0; items_few = few-of (length b.items) two.1 }

-- no Join is below a step that counts
single : (schema : SchemaModel) (es : List Earlier) (b : Block) → let scope = scope_of schema es b.sources in let bs = bounds schema es [] b.sources in
    StartsPlain b.sources → Passed scope bs b → is_counted b ≡ true → has_join (chosen_node scope bs b) ≡ false
single schema es b plain ok counted =
    let bs : List Bound = bounds schema es [] b.sources in
    chosen-single schema es b plain (not-both (is_counted b) (joins_below bs) 5 [] counted ok.joins)

step-needs : (schema : SchemaModel) (es : List Earlier) (b : Block) → let scope = scope_of schema es b.sources in let bs = bounds schema es [] b.sources in
    StartsPlain b.sources → Passed scope bs b → (st : Step) → step_of (place scope) b ≡ st → StepNeeds (kept scope bs b) (has_join (chosen_node scope bs b)) st
step-needs schema es b plain ok (Grouped keys having) e =
    let scope : List Seen = scope_of schema es b.sources in
    let bs : List Bound = bounds schema es [] b.sources in
    let bar = not-grouped (place scope) b.items (counts b.items) in (
      keys-known (Has (kept scope bs b)) (map (place scope) b.group) b.having _ keys having bar (in-kept scope bs b (map (place scope) b.group) (named-in scope bs b).group (cols-within scope b.group ok.keys)) e,
      single schema es b plain ok (ap (λ x. (x || counts b.items) || list_any (λ i. is_number i.what) b.items) (grouped-by (place scope) b.group b.having _ keys having bar e).1),
    )
step-needs schema es b plain ok Counted e =
    let scope : List Seen = scope_of schema es b.sources in
    single schema es b plain ok (ap (λ x. x || list_any (λ i. is_number i.what) b.items) (or_right (is_some_of b.group) (counts b.items) (counted-by (place scope) b.group b.items b.having (counts b.items) e).1))
step-needs schema es b plain ok (Numbered partition order) e =
    let scope : List Seen = scope_of schema es b.sources in
    let bs : List Bound = bounds schema es [] b.sources in
    let facts = window-columns (place scope) (Has (kept scope bs b)) b.items partition order (numbered-by (place scope) b.group b.items b.having (counts b.items) partition order e)
    (in-kept scope bs b (items_columns (place scope) b.items) (named-in scope bs b).items (items-within scope b.items ok.shows)) in
    (facts.0, single schema es b plain ok (or_right (is_grouped b) (list_any (λ i. is_number i.what) b.items) facts.1))
step-needs schema es b plain ok Unchanged e = tt

items-fit : (schema : SchemaModel) (es : List Earlier) (b : Block) → let scope = scope_of schema es b.sources in let bs = bounds schema es [] b.sources in
    Passed scope bs b → (st : Step) → step_of (place scope) b ≡ st → ItemsFit (step_columns (kept scope bs b) st) (place scope) (new_kinds st) b.items
items-fit schema es b ok (Grouped keys having) e =
    let scope : List Seen = scope_of schema es b.sources in
    let by = grouped-by (place scope) b.group b.having _ keys having (not-grouped (place scope) b.items (counts b.items)) e in
    let grouped : is_grouped b ≡ true = ap (λ x. x || counts b.items) by.1 in
    grouped-fit scope b.group keys b.items
    (λ c h. subst (λ (js : List ℕ). Has js c) by.0 (has-firsts [] (map (place scope) b.group) c h))
    (not-loose scope b.group b.items (ap (λ x. loose_refusal x scope b) (sym grouped) ∙ ok.alone))
items-fit schema es b ok Counted e =
    let scope : List Seen = scope_of schema es b.sources in
    let by = counted-by (place scope) b.group b.items b.having (counts b.items) e in
    let grouped : is_grouped b ≡ true = or_right (is_some_of b.group) (counts b.items) by.1 in
    grouped-fit scope b.group [] b.items
    (λ c h. subst (λ (g : List Col). Has (map (place scope) g) c) by.0 h)
    (not-loose scope b.group b.items (ap (λ x. loose_refusal x scope b) (sym grouped) ∙ ok.alone))
items-fit schema es b ok (Numbered partition order) e =
    let scope : List Seen = scope_of schema es b.sources in
    let bs : List Bound = bounds schema es [] b.sources in
    numbered-fit (kept scope bs b) (place scope) b.items (columns-shown (place scope) (Has (kept scope bs b)) b.items
    (in-kept scope bs b (items_columns (place scope) b.items) (named-in scope bs b).items (items-within scope b.items ok.shows)))
items-fit schema es b ok Unchanged e =
    let scope : List Seen = scope_of schema es b.sources in
    let bs : List Bound = bounds schema es [] b.sources in
    unchanged-fit (kept scope bs b) (place scope) b.items (shows-columns (place scope) (Has (kept scope bs b)) b e
    (in-kept scope bs b (items_columns (place scope) b.items) (named-in scope bs b).items (items-within scope b.items ok.shows)))

columns-long : (kept : List ℕ) (st : Step) → length (step_columns kept st) + length (new_kinds st) ≡ step_width kept st
columns-long kept (Grouped keys having) = refl
columns-long kept Counted = refl
columns-long kept (Numbered partition order) = refl
columns-long kept Unchanged = omega arith

block-gives : (schema : SchemaModel) (es : List Earlier) (b : Block) → let scope = scope_of schema es b.sources in let bs = bounds schema es [] b.sources in
    StartsPlain b.sources → SourcesFit schema es [] b.sources → Passed scope bs b → Gives schema (block_node scope bs b) (map (λ i. what_kind scope i.what) b.items)
unfolding block_node
block-gives schema es b plain fit ok =
    let scope : List Seen = scope_of schema es b.sources in
    let bs : List Bound = bounds schema es [] b.sources in
    let ks : List Kind = scope_kinds scope in
    let st : Step = step_of (place scope) b in
    let some : List ℕ = kept scope bs b in
    let few : Few scope bs b = few-known scope bs b (no-cause (is_wide scope bs b) 9 [] ok.few) in
    let items : ItemsFit (step_columns some st) (place scope) (new_kinds st) b.items = items-fit schema es b ok st refl in
    let chosen : Gives schema (chosen_node scope bs b) (kinds_of ks some) = chosen-gives schema es b plain fit ok.asks few.kept_few in
    let step : Gives schema (step_node some st (chosen_node scope bs b)) (step_kinds ks some st) = step-gives schema ks some (chosen_node scope bs b) st chosen (step-needs schema es b plain ok st refl) few.step_few in
    let below : Below (step_width some st) (block_items scope bs b) = subst (λ (n : ℕ). Below n (block_items scope bs b)) (columns-long some st) (items-below (place scope) (step_columns some st) (new_kinds st) b.items items) in
    gives-distinct schema b.distinct _ _
    (subst (λ (ms : List Kind). Gives schema (cut_to (step_width some st) (block_items scope bs b) (step_node some st (chosen_node scope bs b))) ms)
    (items-kinds scope (step_columns some st) (new_kinds st) b.items items)
    (gives-cut schema (step_node some st (chosen_node scope bs b)) (step_kinds ks some st) (step_width some st) (block_items scope bs b) step (step-long ks some st) below
    (ap (λ n. nat_le n 16) (length-map b.items _) ∙ few.items_few)))

-- a block that is not refused
pub block-fits : (schema : SchemaModel) (es : List Earlier) (b : Block) → IsSchema schema → EarlierFit schema es → StartsPlain b.sources → block_refusal schema es b ≡ None → RelationFits schema (block_relation schema es b)
block-fits schema es b valid all plain e =
    let scope : List Seen = scope_of schema es b.sources in
    let bs : List Bound = bounds schema es [] b.sources in
    let two = or_none (sources_refusal schema es [] [] b.sources) (after_sources scope bs b) e in
    subst (λ (ks : List Kind). Gives schema (block_node scope bs b) ks) (sym (map-map (λ g. g.kind) (λ i. record { name = output_name i; kind = what_kind scope i.what }) b.items))
    (block-gives schema es b plain (sources-fit schema es valid all [] [] b.sources two.0) (passed scope bs b two.1))
