use Rattle.std.proofs.Common.{◌≡◌, ◌∙◌, ◌<◌, ℕ, List, Option, Some, Ok, ap, sym, subst, length, refl}
use Rattle.std.proofs.lemmas.List.Elements.{All-same}
use Rattle.pdn_obl_rows.specs.Lists.{kind_at}
use Rattle.pdn_obl_rows.specs.Conditions.{column_word, added_gates, PlusFits}
use Rattle.pdn_obl_rows.proofs.ThereLaws.{column_there, length-column_word, sum_wide}
use Rattle.pdn_obl_rows.proofs.Walks.{known_tries}
use Rattle.pdn_obl_rows.proofs.conditions.term_planes.Goals as goal

pub plus-requires-clause-planes : goal.plus-requires-clause-planes
plus-requires-clause-planes c =
    let list = c.args.list.now in
    let column = c.args.term.now.column in
    ap length (c.deref.ensures.value ∙ c.in_ok-planes.ensures) ∙ length-column_word list c.args.word column c.planes-shaped.ensures.shaped c.requires.fits.there
    ∙ sum_wide (kind_at list.kinds column) c.in-Some.n (subst (λ (p : Option ℕ). PlusFits (kind_at list.kinds column) p) c.in-Some.is c.requires.fits.plus)

pub plus-requires-clause-there : goal.plus-requires-clause-there
plus-requires-clause-there c =
    All-same (λ g. g < length c.args.b.now.gates) _ _ (c.deref.ensures.value ∙ c.in_ok-planes.ensures) (column_there c.args.b.now c.args.list.now c.requires.there c.planes-shaped.ensures.shaped c.args.word c.requires.word c.args.term.now.column)

pub returns-in-None-clause-made : goal.returns-in-None-clause-made
returns-in-None-clause-made c =
    let planes = column_word c.args.list.now c.args.word c.args.term.now.column in
    known_tries c.args.b.now _ planes (Ok c.in_ok-planes.planes) (ap (λ (p : Option ℕ). added_gates p planes) c.in-None.is) c.in_ok-planes.ensures tt

pub returns-in-None-clause-there : goal.returns-in-None-clause-there
returns-in-None-clause-there c =
    All-same (λ g. g < length c.args.b.now.gates) _ _ c.in_ok-planes.ensures (column_there c.args.b.now c.args.list.now c.requires.there c.planes-shaped.ensures.shaped c.args.word c.requires.word c.args.term.now.column)
