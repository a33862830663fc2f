-- The values that occur, in ascending order: each stands before all that follow.
use Rattle.std.proofs.Common.{◌≡◌, List, [], ◌∷◌, refl, ap, ◌∙◌, Ordering, Less, Equal, Greater}
use Rattle.std.specs.List.{AllByRecursion}
use Rattle.std.specs.Ordering.{ordering_reverse}
use Rattle.pdn_base.specs.declared.value.Value.{Value}
use Rattle.pdn_base.specs.Totals.{value_cmp-total}
use Rattle.pdn_base.specs.Values.{value_cmp}
use Rattle.pdn_site.specs.Directories.{placed_by, placed, ascending}

abbrev pub Below : Value → List Value → Type 0
Below x ws = AllByRecursion (λ w. value_cmp x w ≡ Less) ws

abbrev pub Ascends : List Value → Type 0
Ascends [] = Unit {0}
Ascends (w ∷ ws) = Below w ws × Ascends ws

pub below_trans : (v w : Value) (ws : List Value) → value_cmp v w ≡ Less → Below w ws → Below v ws
below_trans v w [] e h = tt
below_trans v w (u ∷ us) e h = (value_cmp-total.trans v w u e h.0, below_trans v w us e h.1)

below_placed : (u v : Value) (ws : List Value) → value_cmp u v ≡ Less → Below u ws → Below u (placed v ws)
below_placed u v [] e h = (e, tt)
below_placed u v (w ∷ ws) e h = by (value_cmp v w) (below_placed u v ws e h.1)
  where
    by : (o : Ordering) → Below u (placed v ws) → Below u (placed_by o v w ws (placed v ws))
    by Less k = (e, h)
    by Equal k = h
    by Greater k = (h.0, k)

placed_by_ascends : (v w : Value) (ws : List Value) → Ascends (w ∷ ws) → Ascends (placed v ws) → (o : Ordering) → value_cmp v w ≡ o → Ascends (placed_by o v w ws (placed v ws))
placed_by_ascends v w ws h k Less e = ((e, below_trans v w ws e h.0), h)
placed_by_ascends v w ws h k Equal e = h
placed_by_ascends v w ws h k Greater e = (below_placed w v ws (value_cmp-total.antisymm w v ∙ ap ordering_reverse e) h.0, k)

placed_ascends : (v : Value) (ws : List Value) → Ascends ws → Ascends (placed v ws)
placed_ascends v [] h = (tt, tt)
placed_ascends v (w ∷ ws) h = placed_by_ascends v w ws h (placed_ascends v ws h.1) (value_cmp v w) refl

pub ascending_ascends : (vs : List Value) → Ascends (ascending vs)
ascending_ascends [] = tt
ascending_ascends (v ∷ vs) = placed_ascends v (ascending vs) (ascending_ascends vs)
