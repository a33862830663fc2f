-- How many nodes a tree has: more than each tree that it reads.
use Rattle.std.proofs.Common.{◌≡◌, ℕ, ◌+◌, ◌<◌, List, [], ◌∷◌, map, refl, sym, ap, ◌∙◌, arith}
use Rattle.pdn_tree.specs.declared.node.Node.{Node, Node-F, fold-Node, fold-roll-Node, out-roll-Node}
use Rattle.pdn_tree.specs.declared.node.Node.TheFolds.{ind-Node, map-Node}
use Rattle.pdn_tree.specs.Walks.{children, below}

abbrev pub total : List ℕ → ℕ
total [] = 0
total (n ∷ ns) = n + total ns

abbrev pub size_step : Node-F ℕ → ℕ
size_step y = total (children y) + 1

abbrev pub size_of : Node → ℕ
size_of = fold-Node ℕ size_step

-- what is read, seen through a function
pub children_map : {A B : Type 0} (f : A → B) (y : Node-F A) → children (map-Node A B f y) ≡ map f (children y)
children_map f (Node-F.Scan table) = refl
children_map f (Node-F.Filter child cond) = refl
children_map f (Node-F.Project child columns) = refl
children_map f (Node-F.Join left right on) = refl
children_map f (Node-F.Group child keys having) = refl
children_map f (Node-F.Count child) = refl
children_map f (Node-F.Distinct child) = refl
children_map f (Node-F.Number child partition order) = refl
children_map f (Node-F.Top child order limit) = refl

size_below : (n : Node) → size_of n ≡ total (map size_of (below n)) + 1
size_below = ind-Node (λ n. size_of n ≡ total (map size_of (below n)) + 1) (λ x y is.
    fold-roll-Node ℕ size_step x
    ∙ ap (λ (ks : List ℕ). total ks + 1) (children_map size_of x)
    ∙ ap (λ (z : Node-F Node). total (map size_of (children z)) + 1) (sym (out-roll-Node x)))

pub one_smaller : (n child : Node) → child ∷ [] ≡ below n → size_of child < size_of n
one_smaller n child reads =
    let e : size_of n ≡ size_of child + 0 + 1 = size_below n ∙ ap (λ (ns : List Node). total (map size_of ns) + 1) (sym reads) in
    omega (arith, e)

pub left_smaller : (n left right : Node) → left ∷ right ∷ [] ≡ below n → size_of left < size_of n
left_smaller n left right reads =
    let e : size_of n ≡ size_of left + (size_of right + 0) + 1 = size_below n ∙ ap (λ (ns : List Node). total (map size_of ns) + 1) (sym reads) in
    omega (arith, e)

pub right_smaller : (n left right : Node) → left ∷ right ∷ [] ≡ below n → size_of right < size_of n
right_smaller n left right reads =
    let e : size_of n ≡ size_of left + (size_of right + 0) + 1 = size_below n ∙ ap (λ (ns : List Node). total (map size_of ns) + 1) (sym reads) in
    omega (arith, e)
