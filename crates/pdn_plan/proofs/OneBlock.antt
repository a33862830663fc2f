-- A block that is not refused: its tree means what it says.
use Rattle.std.proofs.Common.{◌≡◌, ℕ, ◌+◌, ◌<◌, ◌==◌, Bool, true, false, not, ◌&&◌, ◌||◌, cond, List, [], ◌∷◌, ◌++◌, map, filter, length, sym, refl, ap, ap₂, ◌∙◌, subst, Option, None, arith, length-append, eq-eqb}
use Rattle.std.specs.List.{AllByRecursion, list_any}
use Rattle.std.proofs.lemmas.List.{length-map}
use Rattle.std.proofs.lemmas.Bool.{true≢false, lt-ltb, le-leb}
use Rattle.pdn_base.specs.declared.cond.Cmp.{Cmp}
use Rattle.pdn_base.specs.declared.cond.Operand.{Operand}
use Rattle.pdn_base.specs.declared.cond.Operand.TheVariants as operand
use Rattle.pdn_base.specs.declared.order.Key.{Key}
use Rattle.pdn_base.specs.Operators.{project_rows, group_rows, count_rows, number_rows}
use Rattle.pdn_schema.specs.Models.{SchemaModel}
use Rattle.pdn_sql.specs.declared.query.Col.{Col}
use Rattle.pdn_sql.specs.declared.query.What.{What}
use Rattle.pdn_sql.specs.declared.query.What.TheVariants as what
use Rattle.pdn_sql.specs.declared.query.Item.{Item}
use Rattle.pdn_sql.specs.declared.query.Source.{Source}
use Rattle.pdn_sql.specs.declared.query.Block.{Block}
use Rattle.pdn_tree.specs.declared.node.Node.{Node}
use Rattle.pdn_tree.specs.Meaning.{Rows, mean}
use Rattle.pdn_tree.specs.Columns.{Clauses, Names, CmpNames, OperandNames, Wide, has, Has, place_in}
use Rattle.pdn_plan.specs.Splitting.{ons, left_by, left_over, clauses_columns, clause_passes, operand_passes, is_of}
use Rattle.pdn_plan.specs.Names.{refuse_if, placed, place}
use Rattle.pdn_plan.specs.Steps.{key_at, items_at, is_number, counts, firsts, group_or, count_or, window_step, number_or}
use Rattle.pdn_plan.specs.declared.steps.Step.{Step}
use Rattle.pdn_plan.specs.declared.steps.Step.TheVariants.{Grouped, Counted, Numbered, Unchanged}
use Rattle.pdn_plan.specs.Planning.{seen_by, scope_of, bounds, kept, step_node, step_columns, step_width, cut_to}
use Rattle.pdn_plan.specs.Binding.{joins_below}
use Rattle.pdn_plan.specs.Answer.{once_if, StartsPlain}
use Rattle.pdn_plan.proofs.Stepped.{numbered_columns, stepped}
use Rattle.pdn_tree.proofs.ColumnLaws.{names-weaker}
use Rattle.pdn_tree.proofs.NodeLaws.{mean-Group, mean-Count, mean-Number}
use Rattle.pdn_plan.proofs.WidthLaws.{wide-project, wide-group, wide-number, wide-distinct}
use Rattle.pdn_plan.proofs.Chosen.{cut-means}
use Rattle.pdn_plan.proofs.Stepping.{AllColumns, group-cut, count-cut, items-project}
use Rattle.pdn_plan.specs.declared.scope.Earlier.{Earlier}

-- ---- lists of places

pub all-has : (xs : List ℕ) → AllByRecursion (Has xs) xs
all-has [] = tt
all-has (x ∷ xs) = (ap (λ b. b || list_any (λ k. k == x) xs) (eq-eqb x x refl), weaker xs (all-has xs))
  where
    or_right : (a b : Bool) → b ≡ true → (a || b) ≡ true
    or_right true b e = refl
    or_right false b e = e

    weaker : (cs : List ℕ) → AllByRecursion (Has xs) cs → AllByRecursion (Has (x ∷ xs)) cs
    weaker [] h = tt
    weaker (c ∷ cs) h = (or_right (x == c) (has xs c) h.0, weaker cs h.1)

pub all-parts : (P : ℕ → Type 0) (xs ys : List ℕ) → AllByRecursion P (xs ++ ys) → AllByRecursion P xs × AllByRecursion P ys
all-parts P [] ys h = (tt, h)
all-parts P (x ∷ xs) ys h = let next = all-parts P xs ys h.1 in ((h.0, next.0), next.1)

pub all-both : (P Q : ℕ → Type 0) (xs : List ℕ) → AllByRecursion P xs → AllByRecursion Q xs → AllByRecursion (λ c. P c × Q c) xs
all-both P Q [] h k = tt
all-both P Q (x ∷ xs) h k = ((h.0, k.0), all-both P Q xs h.1 k.1)

pub all-weaker : (P Q : ℕ → Type 0) → ((c : ℕ) → P c → Q c) → (xs : List ℕ) → AllByRecursion P xs → AllByRecursion Q xs
all-weaker P Q w [] h = tt
all-weaker P Q w (x ∷ xs) h = (w x h.0, all-weaker P Q w xs h.1)

pub all-firsts : (P : ℕ → Type 0) (before xs : List ℕ) → AllByRecursion P xs → AllByRecursion P (firsts (λ c. c) before xs)
all-firsts P before [] h = tt
all-firsts P before (x ∷ xs) h = one (has before x) (all-firsts P before xs h.1) (all-firsts P (before ++ x ∷ []) xs h.1)
  where
    one : (b : Bool) → AllByRecursion P (firsts (λ c. c) before xs) → AllByRecursion P (firsts (λ c. c) (before ++ x ∷ []) xs) → AllByRecursion P (cond b (firsts (λ c. c) before xs) (x ∷ firsts (λ c. c) (before ++ x ∷ []) xs))
    one true k l = k
    one false k l = (h.0, l)

-- ---- what the step needs of the columns that are kept

abbrev pub StepFits : List ℕ → (Col → ℕ) → ℕ → List Item → Step → Type 0
StepFits kept place width items (Grouped keys having) = AllByRecursion (Has kept) keys
StepFits kept place width items Counted = Unit {0}
StepFits kept place width items (Numbered partition order) = kept ≡ numbered_columns place width items
StepFits kept place width items Unchanged = AllColumns (λ c. Has kept (place c)) items

-- the rows that the step and the items make of the cut rows are those that they make of the whole ones
pub items-mean : (tables : ℕ → Rows) (kept : List ℕ) (place : Col → ℕ) (width : ℕ) (items : List Item) (n : Node) (rows : Rows) (st : Step) → mean tables n ≡ project_rows kept rows → StepFits kept place width items st
    → mean tables (cut_to (step_width kept st) (items_at (λ c. place_in (step_columns kept st) (place c)) (length (step_columns kept st)) items) (step_node kept st n)) ≡ stepped place width items st rows
items-mean tables kept place width items n rows (Grouped keys having) e h =
    let means : mean tables (step_node kept (Grouped keys having) n) ≡ group_rows keys having rows = mean-Group tables n (map (place_in kept) keys) having ∙ ap (group_rows (map (place_in kept) keys) having) e ∙ group-cut kept keys having rows h in
    cut-means tables (length keys + 1) _ (step_node kept (Grouped keys having) n) (subst (λ (xs : Rows). Wide (length keys + 1) xs) (sym means) (wide-group keys having rows))
    ∙ ap (project_rows (items_at (λ c. place_in keys (place c)) (length keys) items)) means
items-mean tables kept place width items n rows Counted e h =
    let means : mean tables (step_node kept Counted n) ≡ count_rows rows = mean-Count tables n ∙ ap count_rows e ∙ count-cut kept rows in
    cut-means tables 1 _ (step_node kept Counted n) (subst (λ (xs : Rows). Wide 1 xs) (sym means) (refl, tt))
    ∙ ap (project_rows (items_at (λ c. 0) 0 items)) means
items-mean tables kept place width items n rows (Numbered partition order) e h =
    let means : mean tables (step_node kept (Numbered partition order) n) ≡ number_rows (map (place_in kept) partition) (map (key_at (place_in kept)) order) (project_rows kept rows) =
    mean-Number tables n (map (place_in kept) partition) (map (key_at (place_in kept)) order) ∙ ap (number_rows (map (place_in kept) partition) (map (key_at (place_in kept)) order)) e in
    cut-means tables (length kept + 1) _ (step_node kept (Numbered partition order) n) (subst (λ (xs : Rows). Wide (length kept + 1) xs) (sym means) (wide-number (length kept) (map (place_in kept) partition) (map (key_at (place_in kept)) order) (project_rows kept rows) (wide-project kept rows)))
    ∙ ap (project_rows (items_at (λ c. place_in kept (place c)) (length kept) items)) means
    ∙ ap (λ cut. project_rows (items_at (λ c. place_in cut (place c)) (length cut) items) (number_rows (map (place_in cut) partition) (map (key_at (place_in cut)) order) (project_rows cut rows))) h
items-mean tables kept place width items n rows Unchanged e h =
    cut-means tables (length kept) _ n (subst (λ (xs : Rows). Wide (length kept) xs) (sym e) (wide-project kept rows))
    ∙ ap (project_rows (items_at (λ c. place_in kept (place c)) (length kept) items)) e
    ∙ items-project kept place rows items h

-- how wide a block's rows are
pub stepped-wide : (place : Col → ℕ) (width : ℕ) (items : List Item) (st : Step) (rows : Rows) → Wide (length items) (stepped place width items st rows)
stepped-wide place width items (Grouped keys having) rows = subst (λ (n : ℕ). Wide n (stepped place width items (Grouped keys having) rows)) (length-map items _) (wide-project (items_at (λ c. place_in keys (place c)) (length keys) items) (group_rows keys having rows))
stepped-wide place width items Counted rows = subst (λ (n : ℕ). Wide n (stepped place width items Counted rows)) (length-map items _) (wide-project (items_at (λ c. 0) 0 items) (count_rows rows))
stepped-wide place width items (Numbered partition order) rows = subst (λ (n : ℕ). Wide n (stepped place width items (Numbered partition order) rows)) (length-map items _) (wide-project _ _)
stepped-wide place width items Unchanged rows = subst (λ (n : ℕ). Wide n (stepped place width items Unchanged rows)) (length-map items _) (wide-project (items_at place 0 items) rows)

pub once-wide : (w : ℕ) (b : Bool) (rows : Rows) → Wide w rows → Wide w (once_if b rows)
once-wide w true rows h = wide-distinct w rows h
once-wide w false rows h = h

-- ---- a block that numbers has one source

-- what the steps before the items are, by the names of the block
pub keys-known : (P : ℕ → Type 0) (ks : List ℕ) (having : Option ℕ) (next : Step) (keys : List ℕ) (least : Option ℕ) → ((js : List ℕ) (l : Option ℕ) → next ≡ Grouped js l → ⊥) → AllByRecursion P ks → group_or ks having next ≡ Grouped keys least → AllByRecursion P keys
keys-known P [] having next keys least bar h e = absurd (bar keys least e)
keys-known P (k ∷ ks) having next keys least bar h e = subst (λ (js : List ℕ). AllByRecursion P js) (keys-same _ e) (all-firsts P [] (k ∷ ks) h)
  where
    keys-same : (bound : Option ℕ) → Grouped (firsts (λ c. c) [] (k ∷ ks)) bound ≡ Grouped keys least → firsts (λ c. c) [] (k ∷ ks) ≡ keys
    keys-same bound e = cc

window-numbers : (place : Col → ℕ) (items : List Item) (js : List ℕ) (l : Option ℕ) → window_step place items ≡ Grouped js l → ⊥
window-numbers place [] js l e = cc
window-numbers place (i ∷ is) js l e = one i.what e (window-numbers place is js l)
  where
    one : (w : What) → number_or place w (window_step place is) ≡ Grouped js l → (window_step place is ≡ Grouped js l → ⊥) → ⊥
    one (what.Column col) f next = next f
    one what.Count f next = next f
    one (what.Number partition order) f next = cc

pub not-grouped : (place : Col → ℕ) (items : List Item) (b : Bool) (js : List ℕ) (l : Option ℕ) → count_or b (window_step place items) ≡ Grouped js l → ⊥
not-grouped place items true js l e = cc
not-grouped place items false js l e = window-numbers place items js l e

number-shown : (place : Col → ℕ) (items : List Item) (p : List ℕ) (o : List Key) → window_step place items ≡ Numbered p o → list_any (λ i. is_number i.what) items ≡ true
number-shown place [] p o e = absurd cc
number-shown place (i ∷ is) p o e = one i.what e (number-shown place is p o)
  where
    one : (w : What) → number_or place w (window_step place is) ≡ Numbered p o → (window_step place is ≡ Numbered p o → list_any (λ i. is_number i.what) is ≡ true) → (is_number w || list_any (λ i. is_number i.what) is) ≡ true
    one (what.Column col) f next = next f
    one what.Count f next = next f
    one (what.Number partition order) f next = refl

counted-number : (place : Col → ℕ) (items : List Item) (b : Bool) (p : List ℕ) (o : List Key) → count_or b (window_step place items) ≡ Numbered p o → list_any (λ i. is_number i.what) items ≡ true
counted-number place items true p o e = absurd cc
counted-number place items false p o e = number-shown place items p o e

-- where a block numbers, it has no keys and shows a number
pub record Numbers (place : Col → ℕ) (b : Block) : Type 0 where
  pub no_keys : map place b.group ≡ []
  pub shows : list_any (λ i. is_number i.what) b.items ≡ true

pub numbers-known : (place : Col → ℕ) (b : Block) (ks : List ℕ) → map place b.group ≡ ks → (p : List ℕ) (o : List Key) → group_or ks b.having (count_or (counts b.items) (window_step place b.items)) ≡ Numbered p o → Numbers place b
numbers-known place b [] k p o e = record { no_keys = k; shows = counted-number place b.items (counts b.items) p o e }
numbers-known place b (x ∷ xs) k p o e = absurd cc

pub or_right : (a b : Bool) → b ≡ true → (a || b) ≡ true
or_right true b e = refl
or_right false b e = e

pub or_none_of : (a b : Bool) → (a || b) ≡ false → a ≡ false
or_none_of true b e = absurd (true≢false e)
or_none_of false b e = refl

pub not-both : (a b : Bool) (kind : ℕ) (name : List ℕ) → a ≡ true → refuse_if (a && b) kind name ≡ None → b ≡ false
not-both true true kind name h e = absurd cc
not-both true false kind name h e = refl
not-both false b kind name h e = absurd (true≢false (sym h))

-- WHERE clauses whose columns are all there go to the only source
passes : (w c : ℕ) → c < w → is_of 0 w c ≡ true
passes w c h = ap₂ (λ a b. a && b) (le-leb 0 c (omega arith)) (lt-ltb c (0 + w) (omega (arith, h)))

clause-goes : (w : ℕ) (cs : List Cmp) → AllByRecursion (CmpNames (λ c. c < w)) cs → clause_passes (is_of 0 w) cs ≡ true
clause-goes w [] h = refl
clause-goes w (c ∷ cs) h = ap₂ (λ a b. a && b) (ap₂ (λ a b. a && b) (passes w c.left.column h.0.0) (right c.right h.0.1)) (clause-goes w cs h.1)
  where
    right : (o : Operand) → OperandNames (λ c. c < w) o → operand_passes (is_of 0 w) o ≡ true
    right (operand.Term t) k = passes w t.column k
    right (operand.Int n) k = refl
    right (operand.Code c) k = refl

all-go : (w : ℕ) (cs : Clauses) → Names (λ c. c < w) cs → left_by 0 w cs ≡ []
all-go w [] h = refl
all-go w (c ∷ cs) h = ap (λ b. cond (not b) (c ∷ left_by 0 w cs) (left_by 0 w cs)) (clause-goes w c h.0) ∙ all-go w cs h.1

-- with one source, what is named is what the items name
pub one-source : (schema : SchemaModel) (es : List Earlier) (ss : List Source) (asked : Clauses) → StartsPlain ss → joins_below (bounds schema es [] ss) ≡ false → Names (λ c. c < length (scope_of schema es ss)) asked
    → clauses_columns (ons (bounds schema es [] ss)) ++ clauses_columns (left_over 0 asked (bounds schema es [] ss)) ≡ []
one-source schema es [] asked plain single names = absurd plain
one-source schema es (s ∷ []) asked plain single names =
    ap₂ (λ xs ys. xs ++ ys)
    (ap (λ on. clauses_columns (placed (seen_by schema es s) on ++ [])) plain)
    (ap clauses_columns (all-go (length (seen_by schema es s)) asked (names-weaker _ _ (λ c h. omega (arith, h, length-append (seen_by schema es s) [])) asked names)))
one-source schema es (s ∷ t ∷ ss) asked plain single names = absurd (true≢false (sym (lt-ltb 1 (length (bounds schema es [] (s ∷ t ∷ ss))) (omega arith)) ∙ or_none_of _ _ single))

pub names-filter : (P : ℕ → Type 0) (p : List Cmp → Bool) (cs : Clauses) → Names P cs → Names P (filter p cs)
names-filter P p [] h = tt
names-filter P p (c ∷ cs) h = one (p c) (names-filter P p cs h.1)
  where
    one : (b : Bool) → Names P (filter p cs) → Names P (cond b (c ∷ filter p cs) (filter p cs))
    one true k = (h.0, k)
    one false k = k
