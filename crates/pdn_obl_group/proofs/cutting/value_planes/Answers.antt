use Rattle.std.proofs.Common.{◌≡◌, ◌∙◌, ◌+◌, ◌<◌, ◌++◌, ℕ, List, ap, arith, subst, length, drop, length-append}
use Rattle.std.specs.List.{All}
use Rattle.std.proofs.lemmas.List.{drop_more, drop_all}
use Rattle.std.proofs.lemmas.List.Elements.{All-same, All-append}
use Rattle.pdn_base.specs.declared.marks.Kind.TheVariants as kind
use Rattle.pdn_circuit.specs.declared.tally.BuildErr.{BuildErr}
use Rattle.pdn_circuit.specs.Blocks.{Block}
use Rattle.pdn_circuit.specs.Building.{Made, Makes, Stops}
use Rattle.pdn_circuit.proofs.Making.{makes_longer}
use Rattle.pdn_obl_rows.specs.Lists.{kind_at}
use Rattle.pdn_obl_rows.proofs.ShapeLaws.{before_more}
use Rattle.pdn_obl_rows.proofs.ThereLaws.{later}
use Rattle.pdn_obl_group.specs.Operators.{value_gates}
use Rattle.pdn_obl_group.proofs.Steps.{exit_vec, none_there}
use Rattle.pdn_obl_group.proofs.ValueSteps.{column_gates, value_begin, value_stops, value_next, value_end}
use Rattle.pdn_obl_group.proofs.cutting.value_planes.Goals as goal

pub loop-k-init : goal.loop-k-init
loop-k-init c = record {
  along = value_begin c.args.b.now c.args.value.now c.args.kinds.now _ c.new-planes.ensures.items;
  there = none_there _ _ c.new-planes.ensures.items;
  count = ap length c.new-planes.ensures.items;
}

-- a column's planes, by the value's number and the kind's width
as_made : (old now : Made) (number n width w : ℕ) (ps : List ℕ) → number ≡ n → width ≡ w → Makes old now (column_gates number width (length old.gates)) ps → Makes old now (column_gates n w (length old.gates)) ps
as_made old now number n width w ps e f m =
    subst (λ (k : ℕ). Makes old now (column_gates n k (length old.gates)) ps) f (subst (λ (k : ℕ). Makes old now (column_gates k width (length old.gates)) ps) e m)

as_stopped : (old now : Made) (number n width w : ℕ) (err : BuildErr) → number ≡ n → width ≡ w → Stops old now (column_gates number width (length old.gates)) err → Stops old now (column_gates n w (length old.gates)) err
as_stopped old now number n width w err e f m =
    subst (λ (k : ℕ). Stops old now (column_gates n k (length old.gates)) err) f (subst (λ (k : ℕ). Stops old now (column_gates k width (length old.gates)) err) e m)

both_there : (old now : Made) (front ps more : List ℕ) (block : Block (List ℕ)) → more ≡ front ++ ps → Makes old now block ps → All (λ g. g < length old.gates) front → All (λ g. g < length now.gates) ps → All (λ g. g < length now.gates) more
both_there old now front ps more block e m a b =
    All-same (λ g. g < length now.gates) more (front ++ ps) e
    (All-append (λ g. g < length now.gates) front ps (later (length old.gates) (length now.gates) front (omega (arith, makes_longer old now block ps m)) a) b)

pub returns-in_err-column-clause-made : goal.returns-in_err-column-clause-made
returns-in_err-column-clause-made c =
    let kinds = c.args.kinds.now in
    let k = c.loop-k.k in
    exit_vec _ _ (value_gates c.args.value.now kinds) _ _ c.from_residual.ensures.1
    (value_stops _ _ _ c.args.value.now (kind_at kinds k) (drop (k + 1) kinds) (drop k kinds) _ (drop_more kinds k kind.Int c.loop-k-test.true) c.loop-k.invariant.along _ _
    (as_stopped _ _ _ _ _ _ _ c.number.ensures c.width.ensures c.in_err-column.ensures.made))

pub loop-k-preserved : goal.loop-k-preserved
loop-k-preserved c =
    let kinds = c.args.kinds.now in
    let k = c.loop-k.k in
    let made = as_made _ _ _ _ _ _ _ c.number.ensures c.width.ensures c.in_ok-column.ensures.made in
    let items = c.in_ok-extend_from_slice.ensures.items ∙ ap (λ (ps : List ℕ). c.loop-k.planes.items ++ ps) c.deref.ensures.value in
    record {
      along = value_next _ _ _ c.args.value.now (kind_at kinds k) (drop (k + 1) kinds) (drop k kinds) _ (drop_more kinds k kind.Int c.loop-k-test.true) c.loop-k.invariant.along _ _ _ made items;
      there = both_there _ _ c.loop-k.planes.items _ _ _ items made c.loop-k.invariant.there c.in_ok-column.ensures.there;
      count = ap length items ∙ length-append c.loop-k.planes.items c.in_ok-column.column.items
          ∙ before_more kinds k (length c.loop-k.planes.items) (length c.in_ok-column.column.items) c.loop-k-test.true c.loop-k.invariant.count (c.in_ok-column.ensures.count ∙ c.width.ensures);
    }

pub returns-clause-made : goal.returns-clause-made
returns-clause-made c = value_end _ _ _ c.args.value.now (drop c.loop-k.k c.args.kinds.now) _ (drop_all c.loop-k.k c.args.kinds.now c.loop-k-test.false) c.loop-k.invariant.along
