use Rattle.std.proofs.Common.{◌≡◌, drop}
use Rattle.pdn_base.specs.Values.{keys_cmp}
use Rattle.pdn_base.proofs.order.keys_order.Given as goal

abbrev pub invariant-loop-key : goal.invariant-loop-key
invariant-loop-key l = keys_cmp (drop l.key-index l.keys) l.a l.b ≡ keys_cmp l.keys l.a l.b
