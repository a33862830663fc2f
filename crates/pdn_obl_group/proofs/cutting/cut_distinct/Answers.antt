use Rattle.std.proofs.Common.{◌≡◌, ◌∙◌, ℕ, List, [], ◌∷◌, Result, ap, sym, refl, subst, arith, length}
use Rattle.std.specs.Prelude.{IfOk}
use Rattle.pdn_base.specs.declared.marks.Kind.{Kind}
use Rattle.pdn_circuit.specs.declared.tally.BuildErr.{BuildErr}
use Rattle.pdn_circuit.specs.Blocks.{Making, gives, ◌>>=◌}
use Rattle.pdn_circuit.specs.Building.{Makes, Stops}
use Rattle.pdn_circuit.proofs.Making.{exit_tries, makes_longer}
use Rattle.pdn_obl_rows.specs.Lists.{PaddedList, widths}
use Rattle.pdn_obl_rows.proofs.Walks.{first_stops, second_stops, second_made}
use Rattle.pdn_obl_group.specs.Loops.{in_turn}
use Rattle.pdn_obl_group.specs.Operators.{any_row, value_gates, one_row, cut_distinct_gates}
use Rattle.pdn_obl_group.proofs.Steps.{given_tries, given_list, single_there}
use Rattle.pdn_obl_group.proofs.cutting.cut_distinct.Goals as goal

abbrev any_of : PaddedList → Making ℕ
any_of list = in_turn (any_row list) 0 list.len 0

abbrev row_of : ℕ → List Kind → List ℕ → PaddedList
row_of any kinds planes = record { len = 1; valid = any ∷ []; kinds = kinds; planes = one_row planes }

row_is : (result : Result PaddedList BuildErr) (any : ℕ) (kinds ks : List Kind) (planes gates : List ℕ) → kinds ≡ ks → planes ≡ gates → IfOk result (λ out. out ≡ row_of any kinds planes) → IfOk result (λ out. out ≡ row_of any ks gates)
row_is result any kinds ks planes gates d e o =
    subst (λ (gs : List ℕ). IfOk result (λ out. out ≡ row_of any ks gs)) e (subst (λ (js : List Kind). IfOk result (λ out. out ≡ row_of any js planes)) d o)

pub returns-in_err-any-clause-made : goal.returns-in_err-any-clause-made
returns-in_err-any-clause-made c =
    let list = c.args.list.now in
    let v = c.args.value.now in
    exit_tries _ _ (cut_distinct_gates list v) _ _ c.from_residual.ensures.1 (first_stops _ _ (any_of list) (λ any. value_gates v list.kinds >>= λ planes. gives (row_of any list.kinds planes)) refl _ _ c.in_err-any.ensures.made)

pub returns-in_err-planes-clause-made : goal.returns-in_err-planes-clause-made
returns-in_err-planes-clause-made c =
    let list = c.args.list.now in
    let v = c.args.value.now in
    exit_tries _ _ (cut_distinct_gates list v) _ _ c.from_residual-in_err-planes.ensures.1
    (second_stops _ _ (any_of list) (λ any. value_gates v list.kinds) (λ any planes. gives (row_of any list.kinds planes)) refl _ _ _ _ c.in_ok-any.ensures.made
    (subst (λ (ks : List Kind). Stops c.any_valid.new.b c.value_planes.new.b (value_gates v ks (length c.any_valid.new.b.gates)) c.in_err-planes.field-0.0) c.kinds.ensures c.in_err-planes.ensures.made))

pub one_row_list-requires : goal.one_row_list-requires
one_row_list-requires c = ap length c.deref.ensures.value ∙ c.in_ok-planes.ensures.count ∙ ap widths c.kinds.ensures ∙ sym (ap widths c.kinds-2.ensures)

pub returns-clause-made : goal.returns-clause-made
returns-clause-made c =
    let list = c.args.list.now in
    let v = c.args.value.now in
    given_tries _ _ (cut_distinct_gates list v) (row_of c.in_ok-any.any list.kinds c.in_ok-planes.planes.items) _
    (second_made _ _ (any_of list) (λ any. value_gates v list.kinds) (λ any planes. gives (row_of any list.kinds planes)) refl _ _ _ _ c.in_ok-any.ensures.made
    (subst (λ (ks : List Kind). Makes c.any_valid.new.b c.value_planes.new.b (value_gates v ks (length c.any_valid.new.b.gates)) c.in_ok-planes.planes.items) c.kinds.ensures c.in_ok-planes.ensures.made))
    (row_is _ _ _ _ _ _ c.kinds-2.ensures c.deref.ensures.value c.one_row_list.ensures.list) c.one_row_list.ensures.memory

pub returns-clause-there : goal.returns-clause-there
returns-clause-there c =
    let now = c.value_planes.new.b in
    let longer = makes_longer _ _ _ _ c.in_ok-planes.ensures.made in
    given_list now _ _ (single_there now c.in_ok-any.any c.args.list.now.kinds c.in_ok-planes.planes.items (omega (arith, longer, c.in_ok-any.ensures.there)) c.in_ok-planes.ensures.there)
    (row_is _ _ _ _ _ _ c.kinds-2.ensures c.deref.ensures.value c.one_row_list.ensures.list)
