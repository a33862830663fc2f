-- A block's sources, as written and as planned, on lists of rows; `m` gives the rows of a plan.
use Rattle.std.specs.Prelude.{ℕ, ◌+◌, List, [], ◌∷◌, ◌++◌}
use Rattle.pdn_base.specs.Bags.{pairs}
use Rattle.pdn_base.specs.Operators.{filter_rows, project_rows, join_rows, joined}
use Rattle.pdn_tree.specs.declared.node.Node.{Node}
use Rattle.pdn_tree.specs.Meaning.{Rows}
use Rattle.pdn_tree.specs.Columns.{Clauses, clauses_at, place_in, shifted}
use Rattle.pdn_plan.specs.Splitting.{Part}

-- all sources, side by side
abbrev pub product : (Node → Rows) → Rows → List Part → Rows
product m rows [] = rows
product m rows (s ∷ ss) = product m (pairs joined rows (m s.plan)) ss

-- the clauses that hold of the product so far, by places in it
abbrev pub clauses_so_far : ℕ → Clauses → List Part → Clauses
clauses_so_far width cs [] = cs
clauses_so_far width cs (s ∷ ss) = clauses_so_far (width + s.width) (cs ++ (clauses_at (λ c. width + c) s.local ++ s.on)) ss

-- the columns of the product that are kept
abbrev pub kept_so_far : ℕ → List ℕ → List Part → List ℕ
kept_so_far width kept [] = kept
kept_so_far width kept (s ∷ ss) = kept_so_far (width + s.width) (kept ++ shifted width s.keep) ss

-- the plan: each source filtered by its own clauses and cut, and then joined, with columns named by their place in what is kept
abbrev pub planned : (Node → Rows) → Part → Rows
planned m s = project_rows s.keep (filter_rows s.local (m s.plan))

abbrev pub joins : (Node → Rows) → ℕ → List ℕ → Rows → List Part → Rows
joins m width kept rows [] = rows
joins m width kept rows (s ∷ ss) =
    joins m (width + s.width) (kept ++ shifted width s.keep) (join_rows (clauses_at (place_in (kept ++ shifted width s.keep)) s.on) rows (planned m s)) ss
