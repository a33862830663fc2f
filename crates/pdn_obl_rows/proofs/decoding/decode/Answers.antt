use Rattle.std.proofs.Common.{◌≡◌, ◌∙◌, ◌+◌, ◌*◌, ◌/◌, ◌%◌, Bool, true, false, ap, sym, subst, arith, List, ℕ, Vec, Global}
use Rattle.std.specs.Prelude.{nat_eq}
use Rattle.std.proofs.lemmas.Bool.{eq-eqb, ne_eqb}
use Rattle.pdn_base.specs.declared.value.Value.{Value}
use Rattle.pdn_circuit.specs.Plain.{lane_of}
use Rattle.pdn_obl_rows.specs.Lists.{is_valid, words_for}
use Rattle.pdn_obl_rows.specs.Encoding.{RowIsOf, list_from}
use Rattle.pdn_obl_rows.proofs.DecodingLaws.{valid_is, valid_row_of, row_same, rows_valid, rows_invalid}
use Rattle.pdn_obl_rows.proofs.OperatorLaws.{row_word}
use Rattle.pdn_obl_rows.proofs.decoding.decode.Goals as goal
use Rattle.pdn_obl_rows.proofs.decoding.decode.Goals.{then-bit-eq1+in_ok-row_at+in_ok-push, else-bit-eq1}

pub bit-requires-clause-row : goal.bit-requires-clause-row
bit-requires-clause-row c = omega (arith, row_word c.args.len c.loop-row.row c.loop-row-test.true, c.words_for-step.ensures)

pub row_at-requires-clause-row : goal.row_at-requires-clause-row
row_at-requires-clause-row c = omega (arith, row_word c.args.len c.loop-row.row c.loop-row-test.true, c.words_for-step.ensures)

pub row_at-requires-clause-kinds : goal.row_at-requires-clause-kinds
row_at-requires-clause-kinds c =
    let words = c.args.words.now in
    let kinds = c.args.kinds.now in
    let row = c.loop-row.row in
    let within = row_word c.args.len row c.loop-row-test.true in
    let lane : c.bit.result ≡ lane_of words (row % 64) (0 * words_for c.args.len + row / 64) = c.bit.ensures.bit ∙ ap (λ n. lane_of words (row % 64) (0 * n + row / 64)) c.words_for-step.ensures in
    let valid : is_valid words (list_from 0 kinds c.args.len) row ≡ true = valid_is words kinds c.args.len row c.bit.result within lane ∙ eq-eqb c.bit.result 1 c.if-bit-eq1.true in
    subst (λ (vs : List Value). RowIsOf kinds vs) (sym (row_same words kinds c.args.len row _ c.words_for-step.ensures)) (valid_row_of words (list_from 0 kinds c.args.len) row c.requires.kinds c.loop-row-test.true valid)

pub loop-row-preserved : goal.loop-row-preserved
loop-row-preserved c =
    let words = c.args.words.now in
    let kinds = c.args.kinds.now in
    let row = c.loop-row.row in
    let list = list_from 0 kinds c.args.len in
    let within = row_word c.args.len row c.loop-row-test.true in
    let lane : c.bit.result ≡ lane_of words (row % 64) (0 * words_for c.args.len + row / 64) = c.bit.ensures.bit ∙ ap (λ n. lane_of words (row % 64) (0 * n + row / 64)) c.words_for-step.ensures in
    let tested : is_valid words list row ≡ nat_eq c.bit.result 1 = valid_is words kinds c.args.len row c.bit.result within lane in
    elim c.if-bit-eq1.branch [
      | then-bit-eq1+in_ok-row_at+in_ok-push w ↦ ap (λ (v : Vec (List Value) Global). v.items) w.rows-is
          ∙ rows_valid words list row c.loop-row.rows.items w.push.new.self.items _ (tested ∙ eq-eqb c.bit.result 1 w.if-bit-eq1.true) c.loop-row.invariant w.in_ok-push.ensures.items
          (w.in_ok-row_at.ensures ∙ row_same words kinds c.args.len row _ c.words_for-step.ensures)
      | else-bit-eq1 w ↦ ap (λ (v : Vec (List Value) Global). v.items) w.rows-is ∙ rows_invalid words list row c.loop-row.rows.items (tested ∙ ne_eqb c.bit.result 1 w.if-bit-eq1.false) c.loop-row.invariant
    ]
