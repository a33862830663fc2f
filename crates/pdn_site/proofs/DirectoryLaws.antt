-- Values in ascending order: a value at its place, and lists taken value by value.
use Rattle.std.proofs.Common.{◌≡◌, ℕ, suc, ◌+◌, ◌<◌, List, [], ◌∷◌, ◌++◌, get_or, take, drop, length, refl, ap, ◌∙◌}
use Rattle.pdn_base.specs.declared.value.Value.{Value}
use Rattle.pdn_base.specs.Operators.{Rows}
use Rattle.pdn_level.specs.declared.staged.Leaf.{Leaf}
use Rattle.pdn_site.specs.Directories.{placed, placed_by, ascending, traced_by, traced}
use Rattle.std.proofs.Common.{Ordering, Less, Equal, Greater, drop-cons, append_assoc, append-nil, add-one}
use Rattle.std.proofs.lemmas.List.Concat.{flat_map-append}
use Rattle.std.proofs.lemmas.List.{take_more}
use Rattle.pdn_base.specs.Values.{value_cmp}

-- where a value comes to stand among ascending ones, at each outcome of comparing it with the next of them
pub place_less : (v : Value) (ws : List Value) (i : ℕ) (d : Value) → i < length ws → value_cmp v (get_or ws i d) ≡ Less → placed v (drop i ws) ≡ v ∷ drop i ws
place_less v ws i d h e = rw (drop-cons ws i d h) (ap (λ (o : Ordering). placed_by o v (get_or ws i d) (drop (suc i) ws) (placed v (drop (suc i) ws))) e)

pub place_same : (v : Value) (ws : List Value) (i : ℕ) (d : Value) → i < length ws → value_cmp v (get_or ws i d) ≡ Equal → placed v (drop i ws) ≡ drop i ws
place_same v ws i d h e = rw (drop-cons ws i d h) (ap (λ (o : Ordering). placed_by o v (get_or ws i d) (drop (suc i) ws) (placed v (drop (suc i) ws))) e)

pub place_more : (v : Value) (ws : List Value) (i : ℕ) (d : Value) → i < length ws → value_cmp v (get_or ws i d) ≡ Greater → placed v (drop i ws) ≡ get_or ws i d ∷ placed v (drop (i + 1) ws)
place_more v ws i d h e = rw (drop-cons ws i d h, add-one i) (ap (λ (o : Ordering). placed_by o v (get_or ws i d) (drop (suc i) ws) (placed v (drop (suc i) ws))) e)

pub place_next : (v : Value) (ws : List Value) (i : ℕ) (d : Value) → i < length ws → value_cmp v (get_or ws i d) ≡ Greater → placed v ws ≡ take i ws ++ placed v (drop i ws) → placed v ws ≡ take (i + 1) ws ++ placed v (drop (i + 1) ws)
place_next v ws i d h e so_far = so_far ∙ rw (place_more v ws i d h e, take_more ws i d h, append_assoc (take i ws) (get_or ws i d ∷ []) (placed v (drop (i + 1) ws))) refl

-- one value more, from the last on
pub ascending_next : (vs : List Value) (i : ℕ) (d : Value) → i < length vs → ascending (drop i vs) ≡ placed (get_or vs i d) (ascending (drop (i + 1) vs))
ascending_next vs i d h = rw (add-one i) (ap ascending (drop-cons vs i d h))

-- one leaf more
pub traced_next : (tables : List Rows) (leaves : List Leaf) (i : ℕ) (d : Leaf) → i < length leaves → traced tables (take (i + 1) leaves) ≡ traced tables (take i leaves) ++ traced_by tables (get_or leaves i d)
traced_next tables leaves i d h = ap (traced tables) (take_more leaves i d h) ∙ flat_map-append (traced_by tables) (take i leaves) (get_or leaves i d ∷ []) ∙ ap (λ vs. traced tables (take i leaves) ++ vs) (append-nil (traced_by tables (get_or leaves i d)))
