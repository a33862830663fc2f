use Rattle.std.proofs.Common.{◌≡◌, List, length, ap, arith}
use Rattle.pdn_base.specs.declared.value.Value.{Value}
use Rattle.pdn_keeper.specs.Batches.{kept_rows}
use Rattle.pdn_keeper.proofs.BatchLaws.{short_push}
use Rattle.pdn_keeper.proofs.mem_site.MemSite.append.Goals as goal

pub invariant_of-self-2 : goal.invariant_of-self-2
invariant_of-self-2 c =
    let name = c.as_str-name.result.now in
    let kept : c.in_ok-kept.kept.items ≡ kept_rows name c.self.inside.batches.items = rw c.deref.ensures.value at c.in_ok-kept.ensures in
    let kept_long = ap (λ (rows : List (List Value)). length rows) kept in
    let rows_long = ap (λ (rows : List (List Value)). length rows) c.as_slice.ensures in
    let few = c.in_ok-fit.ensures.taken.0 in
    rw (c.in_ok-push.ensures.items, c.in_ok-batch.ensures) (
      short_push c.self.inside.batches.items name c.args.number c.args.rows.now c.self.invariant.0 (omega (arith, few, kept_long, rows_long, c.requires.rows_few)),
      c.self.invariant.1,
    )
