use Rattle.std.proofs.Common.{sym, ap, ◌∙◌, ◌∷◌, [], List, ℕ, subst, arith}
use Rattle.pdn_base.specs.declared.marks.Kind.{Kind}
use Rattle.pdn_base.specs.declared.site.Site.TheVariants.{A, B}
use Rattle.pdn_obl_rows.specs.Lists.{PaddedList}
use Rattle.pdn_obl_rows.specs.Operators.{append_gates, AllOf, kinds_of, length_of}
use Rattle.pdn_obl_rows.proofs.ThereLaws.{there_later}
use Rattle.pdn_obl_rank.proofs.Looping.{makes_rises}
use Rattle.pdn_site.specs.Laying.{making, next, input_list}
use Rattle.pdn_site.specs.Circuits.{leaf_list}
use Rattle.pdn_site.specs.Built.{taken_by}
use Rattle.pdn_site.proofs.LeafLaws.{two_of}
use Rattle.pdn_site.proofs.Quiet.{quiet_append}
use Rattle.pdn_site.proofs.BuiltLaws.{lays_exit, lays_memory, lays_next, lays_making, next_stops, then_stops, made_extends, two_listed, two_long, append_same, there_same}
use Rattle.pdn_site.proofs.laying.leaf_list.Goals as goal

pub returns-in_err-own-clause-made : goal.returns-in_err-own-clause-made
returns-in_err-own-clause-made c = λ s.
    let kinds : List Kind = c.args.kinds.now in
    let len : ℕ = c.args.len in
    lays_exit _ _ s s (leaf_list kinds len) _ _ c.from_residual.ensures.1
    (next_stops c.args.b.now s (input_list A kinds len) (λ a. next (input_list B kinds len) (λ b. making (append_gates (a ∷ b ∷ [])))) _ _ (c.in_err-own.ensures.made s))

pub returns-in_err-other-clause-made : goal.returns-in_err-other-clause-made
returns-in_err-other-clause-made c = λ s.
    let kinds : List Kind = c.args.kinds.now in
    let len : ℕ = c.args.len in
    let own : PaddedList = c.in_ok-own.own in
    lays_exit _ _ s s (leaf_list kinds len) _ _ c.from_residual-in_err-other.ensures.1
    (then_stops c.args.b.now s (input_list A kinds len) (λ a. next (input_list B kinds len) (λ b. making (append_gates (a ∷ b ∷ [])))) _ _ own s _ (c.in_ok-own.ensures.made s)
    (next_stops _ s (input_list B kinds len) (λ b. making (append_gates (own ∷ b ∷ []))) _ _ (c.in_err-other.ensures.made s)))

pub returns-in_err-lists-clause-made : goal.returns-in_err-lists-clause-made
returns-in_err-lists-clause-made c = λ s.
    let kinds : List Kind = c.args.kinds.now in
    let len : ℕ = c.args.len in
    lays_memory _ _ _ s s (leaf_list kinds len) _ c.from_residual-in_err-lists.ensures.1
    (made_extends _ _ (input_list A kinds len (taken_by c.args.b.now.gates s)) _ (c.in_ok-own.ensures.made s))
    (made_extends _ _ (input_list B kinds len (taken_by c.input_list.new.b.gates s)) _ (c.in_ok-other.ensures.made s))

pub append-requires-clause-same : goal.append-requires-clause-same
append-requires-clause-same c =
    let own : PaddedList = c.in_ok-own.own in
    let other : PaddedList = c.in_ok-other.other in
    let x = c.in_ok-own.ensures.is in
    let y = c.in_ok-other.ensures.is in
    let is = c.as_slice.ensures.value ∙ c.in_ok-lists.ensures.items in
    subst (λ (ls : List PaddedList). AllOf (kinds_of ls) ls) (sym is)
    (subst (λ (ks : List Kind). AllOf ks (own ∷ other ∷ [])) (sym x.kinds) (two_of c.args.kinds.now own other x.kinds y.kinds x.shaped y.shaped))

pub append-requires-clause-there : goal.append-requires-clause-there
append-requires-clause-there c =
    let own : PaddedList = c.in_ok-own.own in
    let other : PaddedList = c.in_ok-other.other in
    let rises = makes_rises _ _ _ _ (c.in_ok-other.ensures.made 0) in
    let is = c.as_slice.ensures.value ∙ c.in_ok-lists.ensures.items in
    there_same _ (own ∷ other ∷ []) _ is
    (two_listed _ own other (there_later _ _ own rises c.in_ok-own.ensures.there) c.in_ok-other.ensures.there)

pub append-requires-clause-rows : goal.append-requires-clause-rows
append-requires-clause-rows c =
    let is = c.as_slice.ensures.value ∙ c.in_ok-lists.ensures.items in
    omega (arith, c.requires, ap length_of is, two_long c.in_ok-own.own c.in_ok-other.other, c.in_ok-own.ensures.is.len, c.in_ok-other.ensures.is.len)

pub returns-clause-made : goal.returns-clause-made
returns-clause-made c = λ s.
    let kinds : List Kind = c.args.kinds.now in
    let len : ℕ = c.args.len in
    let own : PaddedList = c.in_ok-own.own in
    let other : PaddedList = c.in_ok-other.other in
    let is = c.as_slice.ensures.value ∙ c.in_ok-lists.ensures.items in
    lays_next _ _ _ s s s (input_list A kinds len) (λ a. next (input_list B kinds len) (λ b. making (append_gates (a ∷ b ∷ [])))) own _ (c.in_ok-own.ensures.made s)
    (lays_next _ _ _ s s s (input_list B kinds len) (λ b. making (append_gates (own ∷ b ∷ []))) other _ (c.in_ok-other.ensures.made s)
    (lays_making _ _ s (append_gates (own ∷ other ∷ [])) _ (quiet_append (own ∷ other ∷ [])) (append_same _ _ _ (own ∷ other ∷ []) _ is c.append.ensures.made)))
