-- Rows that are in order are their own listing; so what a Top means is told from its rows as a bag.
use Rattle.std.proofs.Common.{◌≡◌, ℕ, zero, suc, Bool, true, false, cond, List, [], ◌∷◌, take, refl, sym, ap, ◌∙◌, subst, true≢false, Option, Some, None, Ordering, Less, Equal, Greater}
use Rattle.std.specs.Ordering.{is_gt, ordering_reverse}
use Rattle.pdn_base.specs.declared.value.Value.{Value}
use Rattle.pdn_base.specs.declared.order.Key.{Key}
use Rattle.pdn_base.specs.Values.{row_cmp}
use Rattle.pdn_base.specs.Totals.{row_cmp-total}
use Rattle.pdn_base.specs.Operators.{Rows, SameRows, placed, listed, limited, top_rows}
use Rattle.pdn_base.proofs.BagLaws.{Perm-from_bag}
use Rattle.pdn_base.proofs.RowLaws.{same_row-tests}
use Rattle.pdn_base.proofs.Listing.{listed-perm}
use Rattle.pdn_tree.specs.declared.node.Node.{Node, out-Node, fold-roll-Node, out-roll-Node}
use Rattle.pdn_tree.specs.declared.node.Node.TheOpen.{Node-F}
use Rattle.pdn_tree.specs.declared.node.Node.TheFolds.{ind-Node, map-Node}
use Rattle.pdn_tree.specs.Meaning.{mean, mean_step}
use Rattle.pdn_tree.specs.Shapes.{is_top, is_top_layer}
use Rattle.pdn_broker.specs.Answering.{order_of, top_order}

module _ (order : List Key) where
  -- not after the first of these
  abbrev Before : List Value → Rows → Type 0
  Before x [] = Unit {0}
  Before x (y ∷ ys) = is_gt (row_cmp order x y) ≡ false

  -- each row not after the next
  abbrev Ordered : Rows → Type 0
  Ordered [] = Unit {0}
  Ordered (x ∷ xs) = Before x xs × Ordered xs

  gt_back : (o p : Ordering) → o ≡ ordering_reverse p → is_gt o ≡ true → is_gt p ≡ false
  gt_back o Less e h = refl
  gt_back o Equal e h = refl
  gt_back o Greater e h = absurd (true≢false (sym h ∙ ap is_gt e))

  other_way : (x y : List Value) → is_gt (row_cmp order x y) ≡ true → is_gt (row_cmp order y x) ≡ false
  other_way x y h = gt_back (row_cmp order x y) (row_cmp order y x) ((row_cmp-total order).antisymm x y) h

  before_by : (y x z : List Value) (zs : Rows) (g : Bool) → is_gt (row_cmp order y x) ≡ false → is_gt (row_cmp order y z) ≡ false → Before y (cond g (z ∷ placed order x zs) (x ∷ z ∷ zs))
  before_by y x z zs true f h = h
  before_by y x z zs false f h = f

  before_placed : (y x : List Value) (ys : Rows) → is_gt (row_cmp order y x) ≡ false → Before y ys → Before y (placed order x ys)
  before_placed y x [] f h = f
  before_placed y x (z ∷ zs) f h = before_by y x z zs (is_gt (row_cmp order x z)) f h

  placed_by : (x y : List Value) (ys : Rows) (g : Bool) → is_gt (row_cmp order x y) ≡ g → Before y ys → Ordered ys → Ordered (placed order x ys) → Ordered (cond g (y ∷ placed order x ys) (x ∷ y ∷ ys))
  placed_by x y ys true e h o rest = (before_placed y x ys (other_way x y e) h, rest)
  placed_by x y ys false e h o rest = (e, (h, o))

  placed_ordered : (x : List Value) (ys : Rows) → Ordered ys → Ordered (placed order x ys)
  placed_ordered x [] o = (tt, tt)
  placed_ordered x (y ∷ ys) o = placed_by x y ys (is_gt (row_cmp order x y)) refl o.0 o.1 (placed_ordered x ys o.1)

  listed_ordered : (xs : Rows) → Ordered (listed order xs)
  listed_ordered [] = tt
  listed_ordered (x ∷ xs) = placed_ordered x (listed order xs) (listed_ordered xs)

  before_take : (n : ℕ) (x : List Value) (xs : Rows) → Before x xs → Before x (take n xs)
  before_take zero x xs h = tt
  before_take (suc n) x [] h = tt
  before_take (suc n) x (y ∷ ys) h = h

  take_ordered : (n : ℕ) (xs : Rows) → Ordered xs → Ordered (take n xs)
  take_ordered zero xs o = tt
  take_ordered (suc n) [] o = tt
  take_ordered (suc n) (x ∷ xs) o = (before_take n x xs o.0, take_ordered n xs o.1)

  limited_ordered : (limit : Option ℕ) (xs : Rows) → Ordered xs → Ordered (limited limit xs)
  limited_ordered None xs o = o
  limited_ordered (Some n) xs o = take_ordered n xs o

  placed_first : (x : List Value) (xs : Rows) → Before x xs → placed order x xs ≡ x ∷ xs
  placed_first x [] h = refl
  placed_first x (y ∷ ys) h = ap (λ g. cond g (y ∷ placed order x ys) (x ∷ y ∷ ys)) h

  listed_self : (xs : Rows) → Ordered xs → listed order xs ≡ xs
  listed_self [] o = refl
  listed_self (x ∷ xs) o = ap (placed order x) (listed_self xs o.1) ∙ placed_first x xs o.0

  -- rows that are a Top's as a bag are, in its order, its list
  top_listed : (limit : Option ℕ) (rows below : Rows) → SameRows rows (top_rows order limit below) → listed order rows ≡ top_rows order limit below
  top_listed limit rows below b =
      listed-perm order (Perm-from_bag same_row-tests b) ∙ listed_self (top_rows order limit below) (limited_ordered limit (listed order below) (listed_ordered below))

-- by the layer of the root
layer_listed : (tables : ℕ → Rows) (layer : Node-F Node) (rows : Rows) → is_top_layer layer ≡ true → SameRows rows (mean_step tables (map-Node Node Rows (mean tables) layer)) → listed (order_of layer) rows ≡ mean_step tables (map-Node Node Rows (mean tables) layer)
layer_listed tables (Node-F.Scan table) rows t b = absurd (true≢false (sym t))
layer_listed tables (Node-F.Filter child cond) rows t b = absurd (true≢false (sym t))
layer_listed tables (Node-F.Project child columns) rows t b = absurd (true≢false (sym t))
layer_listed tables (Node-F.Join left right on) rows t b = absurd (true≢false (sym t))
layer_listed tables (Node-F.Group child keys having) rows t b = absurd (true≢false (sym t))
layer_listed tables (Node-F.Count child) rows t b = absurd (true≢false (sym t))
layer_listed tables (Node-F.Distinct child) rows t b = absurd (true≢false (sym t))
layer_listed tables (Node-F.Number child partition order) rows t b = absurd (true≢false (sym t))
layer_listed tables (Node-F.Top child order limit) rows t b = top_listed order limit rows (mean tables child) b

opened : (tables : ℕ → Rows) (n : Node) → mean tables n ≡ mean_step tables (map-Node Node Rows (mean tables) (out-Node n))
opened tables = ind-Node (λ n. mean tables n ≡ mean_step tables (map-Node Node Rows (mean tables) (out-Node n)))
    (λ x y is. fold-roll-Node Rows (mean_step tables) x ∙ ap (λ (z : Node-F Node). mean_step tables (map-Node Node Rows (mean tables) z)) (sym (out-roll-Node x)))

pub mean_listed : (tables : ℕ → Rows) (root : Node) (rows : Rows) → is_top root ≡ true → SameRows rows (mean tables root) → listed (top_order root) rows ≡ mean tables root
mean_listed tables root rows t b = layer_listed tables (out-Node root) rows t (subst (SameRows rows) (opened tables root) b) ∙ sym (opened tables root)
