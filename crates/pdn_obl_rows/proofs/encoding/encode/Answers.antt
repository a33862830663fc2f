use Rattle.std.proofs.Common.{arith, ◌∙◌, ap, refl, List, ◌++◌, ℕ, take, slice_index_or, ◌≡◌, sym, subst, ◌+◌, length}
use Rattle.std.proofs.lemmas.List.{take_all}
use Rattle.pdn_base.specs.declared.marks.Kind.{Kind}
use Rattle.pdn_obl_rows.specs.Lists.{width_of, valid_rows}
use Rattle.pdn_obl_rows.specs.Encoding.{plane_words, valid_lane, columns_words, column_words, encoded, list_from, Stand}
use Rattle.pdn_obl_rows.proofs.EncodingSteps.{columns_more}
use Rattle.pdn_obl_rows.proofs.EncodingLaws.{encoded_back, length-encoded}
use Rattle.pdn_obl_rows.proofs.encoding.encode.Goals as goal

pub loop-column-preserved : goal.loop-column-preserved
loop-column-preserved c =
    columns_more c.args.rows.now c.args.len c.loop-column.column c.args.kinds.now (plane_words (valid_lane c.args.rows.now) c.args.len) c.loop-column.words.items c.push_column.new.words.items
    c.loop-column-test.true c.loop-column.invariant
    (c.in_ok-push_column.ensures ∙ ap (λ w. c.loop-column.words.items ++ column_words c.args.rows.now c.args.len c.loop-column.column w) c.width_at.ensures.width)

pub returns-clause-back : goal.returns-clause-back
returns-clause-back c =
    encoded_back c.loop-column.words.items c.args.rows.now c.args.kinds.now c.args.len c.requires.kinds c.requires.few
    (c.loop-column.invariant ∙ ap (λ (ks : List Kind). plane_words (valid_lane c.args.rows.now) c.args.len ++ columns_words c.args.rows.now c.args.len 0 ks) (take_all c.loop-column.column c.args.kinds.now c.loop-column-test.false))

pub returns-clause-count : goal.returns-clause-count
returns-clause-count c =
    ap length (c.loop-column.invariant ∙ ap (λ (ks : List Kind). plane_words (valid_lane c.args.rows.now) c.args.len ++ columns_words c.args.rows.now c.args.len 0 ks) (take_all c.loop-column.column c.args.kinds.now c.loop-column-test.false))
    ∙ length-encoded c.args.rows.now c.args.kinds.now c.args.len
