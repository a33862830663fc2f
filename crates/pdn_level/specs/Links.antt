-- Which columns a join's condition makes equal.
use Rattle.std.specs.Prelude.{ℕ, ◌-◌, ◌==◌, nat_le, not, ◌&&◌, ◌||◌, Bool, true, false, cond, List, [], ◌∷◌, length, get_or, Option, Some, None, is_some, find, unwrap_or, filter_map}
use Rattle.pdn_base.specs.declared.cond.Op.{Op}
use Rattle.pdn_base.specs.declared.cond.Op.TheVariants as op
use Rattle.pdn_base.specs.declared.cond.Operand.{Operand}
use Rattle.pdn_base.specs.declared.cond.Operand.TheVariants as operand
use Rattle.pdn_base.specs.declared.cond.Cmp.{Cmp}
use Rattle.pdn_level.specs.declared.links.Link.{Link}

-- whether a column is a slice column; no column that isn't there is one
abbrev pub slice_at : List Bool → ℕ → Bool
slice_at slices column = get_or slices column false

abbrev pub is_equal : Op → Bool
is_equal op.Eq = true
is_equal op.Ne = false
is_equal op.Lt = false
is_equal op.Le = false
is_equal op.Gt = false
is_equal op.Ge = false

-- a column to which nothing is added, beside another
abbrev pub pair_with : ℕ → Operand → Option (ℕ × ℕ)
pair_with l (operand.Term t) = cond (is_some t.plus) None (Some (l, t.column))
pair_with l (operand.Int n) = None
pair_with l (operand.Code c) = None

-- the two columns of a comparison `l = r` of plain columns
abbrev pub plain_pair : Cmp → Option (ℕ × ℕ)
plain_pair c = cond (is_equal c.op && not (is_some c.left.plus)) (pair_with c.left.column c.right) None

-- the two columns of a clause that is one such comparison
abbrev pub plain_clause : List Cmp → Option (ℕ × ℕ)
plain_clause [] = None
plain_clause (c ∷ []) = plain_pair c
plain_clause (c ∷ d ∷ cs) = None

-- of the joined row, l is a slice column of the left side and r one of the right side
abbrev pub crosses : List Bool → List Bool → ℕ → ℕ → Bool
crosses left right l r = slice_at left l && (nat_le (length left) r && slice_at right (r - length left))

-- a slice column of the left side and one of the right, each by its own place, that two equal columns of the joined row are
abbrev pub link_of : List Bool → List Bool → Option (ℕ × ℕ) → Option Link
link_of left right None = None
link_of left right (Some p) =
    cond (crosses left right p.0 p.1) (Some (record { left = p.0; right = p.1 - length left }))
    (cond (crosses left right p.1 p.0) (Some (record { left = p.1; right = p.0 - length left })) None)

-- the links of a condition, clause by clause
abbrev pub links : List Bool → List Bool → List (List Cmp) → List Link
links left right on = filter_map (λ clause. link_of left right (plain_clause clause)) on

-- column s of the joined row is one of the two
abbrev pub names_column : ℕ → ℕ → Link → Bool
names_column width s link = (link.left == s) || (nat_le width s && (link.right == s - width))

-- the first link that names a column of the joined row
abbrev pub link_at : List Bool → List Bool → List (List Cmp) → ℕ → Link
link_at left right on s = unwrap_or (find (names_column (length left) s) (links left right on)) (record { left = 0; right = 0 })
