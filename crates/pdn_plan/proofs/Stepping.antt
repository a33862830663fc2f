-- Group, count, number and the items read the cut rows as they read the whole ones.
use Rattle.std.proofs.Common.{◌≡◌, ℕ, Bool, true, false, ◌||◌, List, [], ◌∷◌, ◌++◌, map, filter, length, refl, ap, ap₂, ◌∙◌, Option}
use Rattle.std.proofs.lemmas.List.{length-map}
use Rattle.std.specs.List.{AllByRecursion}
use Rattle.pdn_base.specs.declared.value.Value.{Value}
use Rattle.pdn_base.specs.declared.value.Value.TheVariants as value
use Rattle.pdn_base.specs.Values.{cut, cell}
use Rattle.pdn_base.specs.Operators.{project_rows, group_rows, count_rows}
use Rattle.pdn_sql.specs.declared.query.Col.{Col}
use Rattle.pdn_sql.specs.declared.query.What.{What}
use Rattle.pdn_sql.specs.declared.query.What.TheVariants as what
use Rattle.pdn_sql.specs.declared.query.Item.{Item}
use Rattle.pdn_sql.specs.declared.query.Block.{Block}
use Rattle.std.proofs.lemmas.Bool.{true≢false}
use Rattle.pdn_base.specs.Values.{same_row}
use Rattle.pdn_base.specs.Bags.{times, distinct}
use Rattle.pdn_base.specs.Operators.{counted, allows}
use Rattle.pdn_tree.specs.declared.node.Node.{Node}
use Rattle.pdn_tree.specs.Meaning.{Rows, mean}
use Rattle.pdn_tree.specs.Columns.{place_in, Has}
use Rattle.pdn_plan.specs.Steps.{what_at, items_at, items_columns, what_columns, is_count, counts, count_or, window_step, number_or, step_of, group_or}
use Rattle.pdn_plan.specs.declared.steps.Step.{Step}
use Rattle.pdn_plan.specs.declared.steps.Step.TheVariants.{Grouped, Unchanged}
use Rattle.pdn_plan.specs.Planning.{step_node, distinct_if}
use Rattle.pdn_plan.specs.Answer.{once_if}
use Rattle.pdn_tree.proofs.ColumnLaws.{cell-cut, cut-cut}
use Rattle.pdn_plan.proofs.Pushing.{map-map, map-agree}
use Rattle.pdn_tree.proofs.NodeLaws.{mean-Group, mean-Distinct}

-- rows cut twice
pub project-project : (kept columns : List ℕ) (rows : Rows) → AllByRecursion (Has kept) columns → project_rows (map (place_in kept) columns) (project_rows kept rows) ≡ project_rows columns rows
project-project kept columns rows h = map-map (cut (map (place_in kept) columns)) (cut kept) rows ∙ map-agree _ _ (λ row. cut-cut kept columns row h) rows

pub group-cut : (kept keys : List ℕ) (having : Option ℕ) (rows : Rows) → AllByRecursion (Has kept) keys → group_rows (map (place_in kept) keys) having (project_rows kept rows) ≡ group_rows keys having rows
group-cut kept keys having rows h = ap (λ all. map (counted all) (filter (λ key. allows having (times same_row key all)) (distinct same_row all))) (project-project kept keys rows h)

pub count-cut : (kept : List ℕ) (rows : Rows) → count_rows (project_rows kept rows) ≡ count_rows rows
count-cut kept rows = ap (λ n. (value.Int n ∷ []) ∷ []) (length-map rows (cut kept))

-- an item that is a column that is there
abbrev pub IsColumn : (Col → Type 0) → What → Type 0
IsColumn P (what.Column col) = P col
IsColumn P what.Count = ⊥
IsColumn P (what.Number partition order) = ⊥

abbrev pub AllColumns : (Col → Type 0) → List Item → Type 0
AllColumns P items = AllByRecursion (λ i. IsColumn P i.what) items

item-cut : (kept : List ℕ) (place : Col → ℕ) (row : List Value) (w : What) → IsColumn (λ c. Has kept (place c)) w
    → cell (cut kept row) (what_at (λ c. place_in kept (place c)) (length kept) w) ≡ cell row (what_at place 0 w)
item-cut kept place row (what.Column col) h = cell-cut kept row (place col) h
item-cut kept place row what.Count h = absurd h
item-cut kept place row (what.Number partition order) h = absurd h

items-cut : (kept : List ℕ) (place : Col → ℕ) (row : List Value) (items : List Item) → AllColumns (λ c. Has kept (place c)) items
    → cut (items_at (λ c. place_in kept (place c)) (length kept) items) (cut kept row) ≡ cut (items_at place 0 items) row
items-cut kept place row [] h = refl
items-cut kept place row (i ∷ is) h = ap₂ (λ x xs. x ∷ xs) (item-cut kept place row i.what h.0) (items-cut kept place row is h.1)

pub items-project : (kept : List ℕ) (place : Col → ℕ) (rows : Rows) (items : List Item) → AllColumns (λ c. Has kept (place c)) items
    → project_rows (items_at (λ c. place_in kept (place c)) (length kept) items) (project_rows kept rows) ≡ project_rows (items_at place 0 items) rows
items-project kept place rows items h = map-map (cut (items_at (λ c. place_in kept (place c)) (length kept) items)) (cut kept) rows ∙ map-agree _ _ (λ row. items-cut kept place row items h) rows

-- what the step's tree means, and how wide its rows are
pub step-means : (tables : ℕ → Rows) (kept keys : List ℕ) (having : Option ℕ) (n : Node) (rows : Rows) → mean tables n ≡ project_rows kept rows → AllByRecursion (Has kept) keys
    → mean tables (step_node kept (Grouped keys having) n) ≡ group_rows keys having rows
step-means tables kept keys having n rows e h = mean-Group tables n (map (place_in kept) keys) having ∙ ap (group_rows (map (place_in kept) keys) having) e ∙ group-cut kept keys having rows h

-- DISTINCT
pub distinct-means : (tables : ℕ → Rows) (b : Bool) (n : Node) → mean tables (distinct_if b n) ≡ once_if b (mean tables n)
distinct-means tables true n = mean-Distinct tables n
distinct-means tables false n = refl

-- a block that neither groups, counts nor numbers shows columns alone
pub columns-alone : (place : Col → ℕ) (Q : ℕ → Type 0) (items : List Item) → window_step place items ≡ Unchanged → counts items ≡ false
    → AllByRecursion Q (items_columns place items) → AllColumns (λ c. Q (place c)) items
columns-alone place Q [] w c h = tt
columns-alone place Q (i ∷ is) w c h = one i.what w c h (columns-alone place Q is)
  where
    one : (x : What) → number_or place x (window_step place is) ≡ Unchanged → (is_count x || counts is) ≡ false → AllByRecursion Q (what_columns place x ++ items_columns place is)
        → (window_step place is ≡ Unchanged → counts is ≡ false → AllByRecursion Q (items_columns place is) → AllColumns (λ c. Q (place c)) is)
        → IsColumn (λ c. Q (place c)) x × AllColumns (λ c. Q (place c)) is
    one (what.Column col) e f k next = (k.0, next e f k.1)
    one what.Count e f k next = absurd (true≢false f)
    one (what.Number partition order) e f k next = absurd cc

not-counted : (place : Col → ℕ) (items : List Item) → (b : Bool) → counts items ≡ b → count_or b (window_step place items) ≡ Unchanged → (counts items ≡ false) × (window_step place items ≡ Unchanged)
not-counted place items true e h = absurd cc
not-counted place items false e h = (e, h)

group-none : (ks : List ℕ) (having : Option ℕ) (next : Step) → group_or ks having next ≡ Unchanged → next ≡ Unchanged
group-none [] having next h = h
group-none (k ∷ ks) having next h = absurd cc

pub shows-columns : (place : Col → ℕ) (Q : ℕ → Type 0) (b : Block) → step_of place b ≡ Unchanged → AllByRecursion Q (items_columns place b.items) → AllColumns (λ c. Q (place c)) b.items
shows-columns place Q b e h =
    let facts = not-counted place b.items (counts b.items) refl (group-none (map place b.group) b.having (count_or (counts b.items) (window_step place b.items)) e) in
    columns-alone place Q b.items facts.1 facts.0 h
