use Rattle.std.proofs.Common.{sym, ◌∙◌}
use Rattle.std.proofs.lemmas.Bool.{false≢true}
use Rattle.pdn_agree.specs.Columns.{column_values}
use Rattle.pdn_agree.proofs.SpotLaws.{same_sets, same_left, same_right}
use Rattle.pdn_agree.proofs.spot.same_values.Goals as goal

pub returns-then-all_stand : goal.returns-then-all_stand
returns-then-all_stand c = (
  λ e. same_sets (column_values c.args.first.now c.args.column) (column_values c.args.second.now c.args.column) (sym c.all_stand.ensures ∙ c.if-all_stand.true) (sym c.all_stand-then-all_stand.ensures ∙ e),
  λ same. c.all_stand-then-all_stand.ensures ∙ same_right (column_values c.args.first.now c.args.column) (column_values c.args.second.now c.args.column) same,
)

pub returns-else-all_stand : goal.returns-else-all_stand
returns-else-all_stand c = (
  λ e. absurd (false≢true (sym c.if-all_stand.false ∙ e)),
  λ same. c.all_stand.ensures ∙ same_left (column_values c.args.first.now c.args.column) (column_values c.args.second.now c.args.column) same,
)
