use Rattle.std.proofs.Common.{◌≡◌, ◌-◌, ℕ, refl, sym, arith, subst}
use Rattle.pdn_circuit.specs.declared.gate.Gate.TheVariants.{Move}
use Rattle.pdn_circuit.specs.Blocks.{Making, one, ◌>>=◌}
use Rattle.pdn_circuit.specs.Compare.{or_gates}
use Rattle.pdn_circuit.proofs.Making.{exit_tries, builds_tries}
use Rattle.pdn_obl_rows.proofs.Walks.{first_refused, second_tries}
use Rattle.pdn_obl_group.specs.Loops.{first_past, mark_later}
use Rattle.pdn_obl_group.proofs.rows.mark_later.Goals as goal

abbrev moved_by : ℕ → ℕ → Making ℕ
moved_by hit from = one (Move hit from (64 - from) from)

opened : (word row hit dup from : ℕ) → from ≡ first_past word row → mark_later word row hit dup ≡ (moved_by hit from >>= or_gates dup)
opened word row hit dup from e = subst (λ (n : ℕ). mark_later word row hit dup ≡ (moved_by hit n >>= or_gates dup)) (sym e) refl

pub returns-in_err-later-clause-made : goal.returns-in_err-later-clause-made
returns-in_err-later-clause-made c =
    let from : ℕ = c.saturating_sub-from.result in
    let same : from ≡ first_past c.args.word c.args.row = omega (arith, c.saturating_sub-from.ensures, c.from.ensures, c.requires.past, c.requires.few) in
    exit_tries _ _ (mark_later c.args.word c.args.row c.args.hit c.args.dup) _ _ c.from_residual.ensures.1
    (first_refused _ _ (moved_by c.args.hit from) (or_gates c.args.dup) (opened c.args.word c.args.row c.args.hit c.args.dup from same) _ _ c.in_err-later.ensures.made)

pub returns-clause-made : goal.returns-clause-made
returns-clause-made c =
    let from : ℕ = c.saturating_sub-from.result in
    let same : from ≡ first_past c.args.word c.args.row = omega (arith, c.saturating_sub-from.ensures, c.from.ensures, c.requires.past, c.requires.few) in
    second_tries _ _ (moved_by c.args.hit from) (or_gates c.args.dup) (opened c.args.word c.args.row c.args.hit c.args.dup from same) _ _ _ _ c.in_ok-later.ensures.made
    (builds_tries _ _ (or_gates c.args.dup c.in_ok-later.later) _ c.or.ensures.made)
