-- What a step and the items make of whole rows, by places: the form in which the meaning of a block's tree is proved.
use Rattle.std.proofs.Common.{ℕ, List, map, filter, length}
use Rattle.std.specs.List.{range_with_len}
use Rattle.pdn_base.specs.Operators.{project_rows, group_rows, count_rows, number_rows}
use Rattle.pdn_sql.specs.declared.query.Col.{Col}
use Rattle.pdn_sql.specs.declared.query.Item.{Item}
use Rattle.pdn_tree.specs.Meaning.{Rows}
use Rattle.pdn_tree.specs.Columns.{has, place_in}
use Rattle.pdn_plan.specs.Steps.{key_at, items_at, items_columns}
use Rattle.pdn_plan.specs.declared.steps.Step.{Step}
use Rattle.pdn_plan.specs.declared.steps.Step.TheVariants.{Grouped, Counted, Numbered, Unchanged}

-- the columns that items, partition and order name
abbrev pub numbered_columns : (Col → ℕ) → ℕ → List Item → List ℕ
numbered_columns place width items = filter (has (items_columns place items)) (range_with_len 0 width)

-- group, count or number the rows chosen, then cut to the items
abbrev pub stepped : (Col → ℕ) → ℕ → List Item → Step → Rows → Rows
stepped place width items (Grouped keys having) rows = project_rows (items_at (λ c. place_in keys (place c)) (length keys) items) (group_rows keys having rows)
stepped place width items Counted rows = project_rows (items_at (λ c. 0) 0 items) (count_rows rows)
stepped place width items (Numbered partition order) rows =
    let cut : List ℕ = numbered_columns place width items in
    project_rows (items_at (λ c. place_in cut (place c)) (length cut) items)
    (number_rows (map (place_in cut) partition) (map (key_at (place_in cut)) order) (project_rows cut rows))
stepped place width items Unchanged rows = project_rows (items_at place 0 items) rows
