use Rattle.std.proofs.Common.{◌<◌, ◌∙◌, ◌/◌, ℕ, List, length, ap, refl, arith, subst}
use Rattle.std.proofs.lemmas.List.Elements.{All-same}
use Rattle.pdn_circuit.specs.Blocks.{gives, each, ◌>>=◌}
use Rattle.pdn_circuit.specs.Building.{Makes, Refuses, Stops}
use Rattle.pdn_circuit.proofs.Making.{exit_tries, along_end, makes_longer}
use Rattle.pdn_obl_rows.proofs.OperatorLaws.{row_word}
use Rattle.pdn_obl_rows.proofs.ThereLaws.{word_within}
use Rattle.pdn_obl_rows.proofs.Walks.{first_refused, second_stops, second_made}
use Rattle.pdn_obl_group.specs.Loops.{spread_gates, row_gates}
use Rattle.pdn_obl_group.proofs.rows.spread_row.Goals as goal

pub spread_lane-requires-clause-row : goal.spread_lane-requires-clause-row
spread_lane-requires-clause-row c = let shaped = c.valid.ensures.shaped in omega (arith, ap length c.valid.ensures.valid, shaped.valid, row_word c.args.list.now.len c.args.row c.requires.row)

pub returns-in_err-valid-clause-made : goal.returns-in_err-valid-clause-made
returns-in_err-valid-clause-made c =
    let list = c.args.list.now in
    let refused = subst (λ (plane : List ℕ). Refuses {A = ℕ} c.args.b.now c.spread_lane.new.b (spread_gates c.args.row plane (length c.args.b.now.gates)) c.in_err-valid.field-0.0) c.valid.ensures.valid c.in_err-valid.ensures.made in
    exit_tries _ _ (row_gates list c.args.row) _ _ c.from_residual.ensures.1
    (first_refused _ _ (spread_gates c.args.row list.valid) (λ valid. each (spread_gates c.args.row) list.planes >>= λ planes. gives (record { valid = valid; planes = planes })) refl _ _ refused)

pub spread_planes-requires-clause-row : goal.spread_planes-requires-clause-row
spread_planes-requires-clause-row c =
    let list = c.args.list.now in
    All-same (λ plane. c.args.row / 64 < length plane) _ _ c.planes.ensures.planes (word_within list (c.args.row / 64) c.planes.ensures.shaped (row_word list.len c.args.row c.requires.row))

pub returns-in_err-planes-clause-made : goal.returns-in_err-planes-clause-made
returns-in_err-planes-clause-made c =
    let list = c.args.list.now in
    let made = subst (λ (plane : List ℕ). Makes {A = ℕ} c.args.b.now c.spread_lane.new.b (spread_gates c.args.row plane (length c.args.b.now.gates)) c.in_ok-valid.valid) c.valid.ensures.valid c.in_ok-valid.ensures.made in
    let stopped = subst (λ (planes : List (List ℕ)). Stops c.spread_lane.new.b c.spread_planes.new.b (each (spread_gates c.args.row) planes (length c.spread_lane.new.b.gates)) c.in_err-planes.field-0.0) c.planes.ensures.planes c.in_err-planes.ensures.made in
    exit_tries _ _ (row_gates list c.args.row) _ _ c.from_residual-in_err-planes.ensures.1
    (second_stops _ _ (spread_gates c.args.row list.valid) (λ valid. each (spread_gates c.args.row) list.planes) (λ valid planes. gives (record { valid = valid; planes = planes })) refl _ _ _ _ made stopped)

pub returns-clause-made : goal.returns-clause-made
returns-clause-made c =
    let list = c.args.list.now in
    let made = subst (λ (plane : List ℕ). Makes {A = ℕ} c.args.b.now c.spread_lane.new.b (spread_gates c.args.row plane (length c.args.b.now.gates)) c.in_ok-valid.valid) c.valid.ensures.valid c.in_ok-valid.ensures.made in
    let rest = subst (λ (planes : List (List ℕ)). Makes c.spread_lane.new.b c.spread_planes.new.b (each (spread_gates c.args.row) planes (length c.spread_lane.new.b.gates)) c.in_ok-planes.planes.items) c.planes.ensures.planes c.in_ok-planes.ensures.made in
    along_end _ _ (row_gates list c.args.row) (record { valid = c.in_ok-valid.valid; planes = c.in_ok-planes.planes.items })
    (second_made _ _ (spread_gates c.args.row list.valid) (λ valid. each (spread_gates c.args.row) list.planes) (λ valid planes. gives (record { valid = valid; planes = planes })) refl _ _ _ _ made rest)

pub returns-clause-there : goal.returns-clause-there
returns-clause-there c = record {
  valid = omega (arith, c.in_ok-valid.ensures.there, makes_longer _ _ _ _ c.in_ok-planes.ensures.made);
  planes = c.in_ok-planes.ensures.there;
  count = c.in_ok-planes.ensures.count ∙ ap length c.planes.ensures.planes;
}
