use Rattle.std.proofs.Common.{◌≡◌, ◌∙◌, ◌+◌, ◌*◌, ◌++◌, ap, sym, subst, arith, length, drop, List, ℕ}
use Rattle.pdn_base.specs.declared.marks.Kind.{Kind}
use Rattle.pdn_base.specs.declared.value.Value.{Value}
use Rattle.pdn_obl_rows.specs.Lists.{kind_at, width_of, widths, value_of, number_at, cells_at}
use Rattle.pdn_obl_rows.specs.Encoding.{IsOf, RowIsOf, planes_from}
use Rattle.pdn_obl_rows.proofs.DecodingLaws.{planes_few, planes_left, row_next, row_of}
use Rattle.pdn_obl_rows.proofs.decoding.row_at.Goals as goal

pub value-requires : goal.value-requires
value-requires c =
    let words = c.args.words.now in
    let kd = kind_at c.args.kinds.now c.loop-k.k in
    let plane = c.loop-k.plane in
    let step = c.args.step in
    let are = row_of words c.args.row step plane c.loop-k.k c.args.kinds.now c.loop-k-test.true c.loop-k.invariant.kinds in
    let wide : c.width.result ≡ width_of kd = c.width.ensures ∙ ap width_of c.kind_at-kind.ensures in
    let number : c.number-number.result ≡ number_at words (planes_from (plane * step) step (width_of kd)) c.args.row = c.number-number.ensures ∙ ap (λ n. number_at words (planes_from (plane * step) step n) c.args.row) wide in
    subst (λ (k : Kind). IsOf k (value_of k c.number-number.result)) (sym c.kind_at-kind.ensures) (subst (λ (n : ℕ). IsOf kd (value_of kd n)) (sym number) are.0)

pub overflow_add-plane : goal.overflow_add-plane
overflow_add-plane c =
    let kinds = c.args.kinds.now in
    let wide : c.width-in-loop-k.result ≡ width_of (kind_at kinds c.loop-k.k) = c.width-in-loop-k.ensures ∙ ap width_of c.kind_at-kind.ensures in
    omega (arith, planes_few (widths kinds + 1) c.args.step (length c.args.words.now) (omega arith) c.requires.count, planes_left c.loop-k.plane c.loop-k.k kinds (widths kinds + 1) c.loop-k-test.true c.loop-k.invariant.planes, wide)

pub loop-k-preserved : goal.loop-k-preserved
loop-k-preserved c =
    let words = c.args.words.now in
    let kinds = c.args.kinds.now in
    let kd = kind_at kinds c.loop-k.k in
    let plane = c.loop-k.plane in
    let step = c.args.step in
    let row = c.args.row in
    let rest = drop (c.loop-k.k + 1) kinds in
    let whole = cells_at words row kinds (planes_from step step (widths kinds)) in
    let are = row_of words row step plane c.loop-k.k kinds c.loop-k-test.true c.loop-k.invariant.kinds in
    let wide : c.width.result ≡ width_of kd = c.width.ensures ∙ ap width_of c.kind_at-kind.ensures in
    let more : c.width-in-loop-k.result ≡ width_of kd = c.width-in-loop-k.ensures ∙ ap width_of c.kind_at-kind.ensures in
    let number : c.number-number.result ≡ number_at words (planes_from (plane * step) step (width_of kd)) row = c.number-number.ensures ∙ ap (λ n. number_at words (planes_from (plane * step) step n) row) wide in
    let value : c.value.result ≡ value_of kd (number_at words (planes_from (plane * step) step (width_of kd)) row) = c.value.ensures ∙ ap (λ (k : Kind). value_of k c.number-number.result) c.kind_at-kind.ensures ∙ ap (value_of kd) number in
    record {
      cells = subst (λ n. c.push.new.self.items ++ cells_at words row rest (planes_from ((plane + n) * step) step (widths rest)) ≡ whole) (sym more)
          (row_next words row step plane c.loop-k.k kinds c.loop-k.values.items c.push.new.self.items whole c.value.result c.loop-k-test.true c.loop-k.invariant.cells c.in_ok-push.ensures.items value);
      kinds = subst (λ n. RowIsOf rest (cells_at words row rest (planes_from ((plane + n) * step) step (widths rest)))) (sym more) are.1;
      planes = subst (λ n. plane + n + widths rest ≡ widths kinds + 1) (sym more) (planes_left plane c.loop-k.k kinds (widths kinds + 1) c.loop-k-test.true c.loop-k.invariant.planes);
    }
