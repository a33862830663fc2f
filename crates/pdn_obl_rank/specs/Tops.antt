-- The gates that keep the rows within a limit, and clear the others.
use Rattle.std.specs.Prelude.{ℕ, nat_lt, Bool, true, false, List, [], ◌∷◌, length, slice_index, Option, Some, None}
use Rattle.std.specs.List.{range_with_len}
use Rattle.pdn_base.specs.declared.order.Key.{Key}
use Rattle.pdn_base.specs.declared.cond.Cmp.{Cmp}
use Rattle.pdn_base.specs.declared.cond.Op.TheVariants as op
use Rattle.pdn_base.specs.declared.cond.Operand.TheVariants as operand
use Rattle.pdn_circuit.specs.Blocks.{Making, gives, ◌>>=◌, each}
use Rattle.pdn_obl_rows.specs.Lists.{PaddedList}
use Rattle.pdn_obl_rows.specs.Conditions.{and_gates}
use Rattle.pdn_obl_rows.specs.Operators.{filter_gates}
use Rattle.pdn_obl_rank.specs.Numbers.{number_gates}

-- the number in this column is at most the limit
abbrev pub within : ℕ → ℕ → List (List Cmp)
within column limit = (record { left = record { column = column; plus = None }; op = op.Le; right = operand.Int limit } ∷ []) ∷ []

-- the valid plane, once only the first rows in the order are kept
abbrev pub first_gates : PaddedList → List Key → ℕ → Making (List ℕ)
first_gates list order limit = do
  numbered ← number_gates list [] order
  kept ← filter_gates numbered (within (length list.kinds) limit)
  gives kept.valid

abbrev pub limit_gates : Bool → PaddedList → List Key → ℕ → Making (List ℕ)
limit_gates true list order limit = first_gates list order limit
limit_gates false list order limit = gives list.valid

-- a limit that is no less than the length keeps all
abbrev pub kept_gates : PaddedList → List Key → Option ℕ → Making (List ℕ)
kept_gates list order None = gives list.valid
kept_gates list order (Some limit) = limit_gates (nat_lt limit list.len) list order limit

-- a plane with no lane where no row is valid
abbrev pub cleared_gates : List ℕ → List ℕ → Making (List ℕ)
cleared_gates valid plane = each (λ w. and_gates (slice_index valid w) (slice_index plane w)) (range_with_len 0 (length plane))

abbrev pub top_gates : PaddedList → List Key → Option ℕ → Making PaddedList
top_gates list order limit = do
  valid ← kept_gates list order limit
  planes ← each (cleared_gates valid) list.planes
  gives (record { len = list.len; valid = valid; kinds = list.kinds; planes = planes })
