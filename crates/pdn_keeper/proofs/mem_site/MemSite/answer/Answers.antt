use Rattle.std.proofs.Common.{◌≡◌, List, length, Some, ap, sym, ◌∙◌, arith}
use Rattle.pdn_base.specs.declared.value.Value.{Value}
use Rattle.pdn_keeper.specs.Batches.{BatchHeld, kept_batch}
use Rattle.pdn_keeper.proofs.BatchLaws.{found_within}
use Rattle.pdn_keeper.proofs.mem_site.MemSite.answer.Goals as goal

pub compared-requires : goal.compared-requires
compared-requires c =
    let name = c.as_str.result.now in
    let batches = c.self.inside.batches.items in
    let found : kept_batch name c.args.number batches ≡ Some c.in-Some.kept.now = rw (← c.deref.ensures.value) (sym c.in-Some.ensures) in
    let within = found_within name c.args.number batches c.in-Some.kept.now found in
    let short = c.self.invariant.0 name in
    let long = ap (λ (rows : List (List Value)). length rows) c.as_slice.ensures ∙ ap (λ (batch : BatchHeld). length batch.rows) c.kept.view_is in
    omega (arith, within, short, long)
