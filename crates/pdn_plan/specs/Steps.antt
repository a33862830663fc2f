-- What a block does with the rows that it chose, with each name replaced by a place.
use Rattle.std.specs.Prelude.{codes, ℕ, suc, Bool, true, false, cond, List, [], ◌∷◌, ◌++◌, map, Option, Some, None}
use Rattle.std.specs.List.{list_any, flat_map}
use Rattle.std.specs.Str.{bytes_eq}
use Rattle.pdn_base.specs.declared.order.Key.{Key}
use Rattle.pdn_sql.specs.declared.query.Name.{Name}
use Rattle.pdn_sql.specs.declared.query.Col.{Col}
use Rattle.pdn_sql.specs.declared.query.OrderCol.{OrderCol}
use Rattle.pdn_sql.specs.declared.query.OrderName.{OrderName}
use Rattle.pdn_sql.specs.declared.query.What.{What}
use Rattle.pdn_sql.specs.declared.query.What.TheVariants as what
use Rattle.pdn_sql.specs.declared.query.Item.{Item}
use Rattle.pdn_sql.specs.declared.query.Block.{Block}
use Rattle.pdn_tree.specs.Columns.{has}
use Rattle.pdn_plan.specs.declared.steps.Step.{Step}
use Rattle.pdn_plan.specs.declared.steps.Step.TheVariants.{Grouped, Counted, Numbered, Unchanged}

-- the name of an item in what the block gives: its alias, else what it shows
abbrev pub what_name : What → List ℕ
what_name (what.Column col) = col.name.text
what_name what.Count = codes "count"
what_name (what.Number partition order) = codes "row_number"

abbrev pub alias_or : Option Name → List ℕ → List ℕ
alias_or None name = name
alias_or (Some n) name = n.text

abbrev pub output_name : Item → List ℕ
output_name item = alias_or item.alias (what_name item.what)

-- elements whose number was not there before
abbrev pub firsts : {X : Type 0} → (X → ℕ) → List ℕ → List X → List X
firsts number before [] = []
firsts number before (x ∷ xs) = cond (has before (number x)) (firsts number before xs) (x ∷ firsts number (before ++ number x ∷ []) xs)

-- ---- one step between the rows chosen and the items

abbrev pub is_count : What → Bool
is_count (what.Column col) = false
is_count what.Count = true
is_count (what.Number partition order) = false

abbrev pub is_number : What → Bool
is_number (what.Column col) = false
is_number what.Count = false
is_number (what.Number partition order) = true

abbrev pub key_at : (ℕ → ℕ) → Key → Key
key_at f k = record { column = f k.column; down = k.down }

abbrev pub window_key : (Col → ℕ) → OrderCol → Key
window_key place o = record { column = place o.col; down = o.down }

abbrev pub number_or : (Col → ℕ) → What → Step → Step
number_or place (what.Column col) next = next
number_or place what.Count next = next
number_or place (what.Number partition order) next = Numbered (map place partition) (map (window_key place) order)

-- by the first ROW_NUMBER, where there is one
abbrev pub window_step : (Col → ℕ) → List Item → Step
window_step place [] = Unchanged
window_step place (i ∷ is) = number_or place i.what (window_step place is)

abbrev pub count_or : Bool → Step → Step
count_or true next = Counted
count_or false next = next

-- each key once, at its first mention
abbrev pub group_or : List ℕ → Option ℕ → Step → Step
group_or [] having next = next
group_or (k ∷ ks) having next = Grouped (firsts (λ c. c) [] (k ∷ ks)) having

abbrev pub counts : List Item → Bool
counts items = list_any (λ i. is_count i.what) items

abbrev pub step_of : (Col → ℕ) → Block → Step
step_of place b = group_or (map place b.group) b.having (count_or (counts b.items) (window_step place b.items))

-- ---- items

-- the places that items name
abbrev pub what_columns : (Col → ℕ) → What → List ℕ
what_columns place (what.Column col) = place col ∷ []
what_columns place what.Count = []
what_columns place (what.Number partition order) = map place partition ++ map (λ o. place o.col) order

abbrev pub items_columns : (Col → ℕ) → List Item → List ℕ
items_columns place items = flat_map (λ i. what_columns place i.what) items

-- where an item stands in what the step gives: a column by its name, a count or a number at the new column
abbrev pub what_at : (Col → ℕ) → ℕ → What → ℕ
what_at at new (what.Column col) = at col
what_at at new what.Count = new
what_at at new (what.Number partition order) = new

abbrev pub items_at : (Col → ℕ) → ℕ → List Item → List ℕ
items_at at new items = map (λ i. what_at at new i.what) items

-- ---- the order of an answer

-- the place of an output name
abbrev pub name_place : List (List ℕ) → List ℕ → ℕ
name_place [] name = 0
name_place (n ∷ ns) name = cond (bytes_eq name n) 0 (suc (name_place ns name))

abbrev pub order_key : List (List ℕ) → OrderName → Key
order_key outputs o = record { column = name_place outputs o.name.text; down = o.down }

-- the columns by which an answer is ordered, each at its first mention
abbrev pub order_keys : List (List ℕ) → List OrderName → List Key
order_keys outputs order = firsts (λ k. k.column) [] (map (order_key outputs) order)
