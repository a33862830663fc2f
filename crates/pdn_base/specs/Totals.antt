-- The orders of values and of rows are total.
use Rattle.std.proofs.Common.{Bool, true, false, List, [], ◌∷◌, refl, Equal}
use Rattle.std.specs.Cmp.{IsTotalOrder}
use Rattle.std.proofs.lemmas.Cmp.{nat_cmp_total, on_total, then_total, back_total, lists_total}
use Rattle.pdn_base.specs.declared.value.Value.{Value}
use Rattle.pdn_base.specs.declared.order.Key.{Key}
use Rattle.pdn_base.specs.Values.{kind_of, number_of, value_cmp, cells_cmp, cell, directed, keys_cmp, row_cmp}

pub value_cmp-total : IsTotalOrder value_cmp
value_cmp-total = then_total (on_total kind_of nat_cmp_total) (on_total number_of nat_cmp_total)

pub cells_cmp-total : IsTotalOrder cells_cmp
cells_cmp-total = lists_total value_cmp-total

directed-total : (down : Bool) → IsTotalOrder (directed down value_cmp)
directed-total true = back_total value_cmp-total
directed-total false = value_cmp-total

all_tie : IsTotalOrder (λ (x y : List Value). Equal)
all_tie = record { antisymm = λ x y. refl; trans = λ x y z h k. h; congr = λ x y z h. refl }

keys_cmp-total : (keys : List Key) → IsTotalOrder (keys_cmp keys)
keys_cmp-total [] = all_tie
keys_cmp-total (k ∷ ks) = then_total (on_total (λ row. cell row k.column) (directed-total k.down)) (keys_cmp-total ks)

pub row_cmp-total : (keys : List Key) → IsTotalOrder (row_cmp keys)
row_cmp-total keys = then_total (keys_cmp-total keys) cells_cmp-total
