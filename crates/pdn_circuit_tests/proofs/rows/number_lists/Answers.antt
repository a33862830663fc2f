use Rattle.std.proofs.Common.{◌≡◌, ◌+◌, ◌∷◌, ◌∙◌, [], arith, ap, ap₂, sym, length, length-append, ℕ}
use Rattle.std.specs.Prelude.{sum}
use Rattle.std.proofs.lemmas.List.Sums.{sum_by_more}
use Rattle.pdn_base.specs.declared.marks.Kind.TheVariants as kind
use Rattle.pdn_obl_rows.proofs.NumberRows.{lists_none, lists_more}
use Rattle.pdn_circuit_tests.proofs.rows.number_lists.Goals as goal

pub loop-k-init : goal.loop-k-init
loop-k-init c =
    let none = lists_none (kind.Int ∷ []) c.args.b.now _ c.new-lists.ensures.items in
    record { longer = omega arith; same = none.0; there = none.1; count = omega (arith, ap length c.new-lists.ensures.items); rows = none.2 }

pub loop-k-preserved : goal.loop-k-preserved
loop-k-preserved c =
    let more = lists_more (kind.Int ∷ []) _ _ c.loop-k.lists.items c.push.new.self.items c.in_ok-list.list c.loop-k.invariant.same c.loop-k.invariant.there c.numbers_list.ensures.longer c.in_ok-list.ensures.kinds c.in_ok-list.ensures.shaped
    c.in_ok-list.ensures.there c.in_ok-push.ensures.items in
    record {
      longer = omega (arith, c.loop-k.invariant.longer, c.numbers_list.ensures.longer);
      same = more.0;
      there = more.1;
      count = omega (arith, ap length c.in_ok-push.ensures.items, length-append c.loop-k.lists.items (c.in_ok-list.list ∷ []), c.loop-k.invariant.count);
      rows = more.2 ∙ ap₂ (λ a b. a + b) c.loop-k.invariant.rows c.in_ok-list.ensures.len ∙ sym (sum_by_more (λ (n : ℕ). n) c.args.lens.now c.loop-k.k 0 c.loop-k-test.true);
    }
