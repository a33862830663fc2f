use Rattle.std.proofs.Common.{◌≡◌, ◌<◌, true, length, sym, ap, ◌∙◌, subst}
use Rattle.pdn_broker.specs.Prepared.{PreparedModel}
use Rattle.pdn_broker.specs.Units.{is_secure}
use Rattle.pdn_broker.specs.Running.{unit_at, engines_own}
use Rattle.pdn_broker.proofs.PreparedLaws.{both_are, placed_a, placed_b, secure_kind}
use Rattle.pdn_broker.proofs.prepared.Prepared.secure_words.Goals as goal

pub secure_inputs-requires-clause-in_range : goal.secure_inputs-requires-clause-in_range
secure_inputs-requires-clause-in_range c = subst (λ (p : PreparedModel). c.args.unit < length p.units) (sym c.self.view_is) c.requires.in_range

pub secure_inputs-requires-clause-of_segment : goal.secure_inputs-requires-clause-of_segment
secure_inputs-requires-clause-of_segment c =
    placed_a _ c.self.invariant c.args.unit (subst (λ (p : PreparedModel). c.args.unit < length p.units) (sym c.self.view_is) c.requires.in_range)
    (secure_kind _ (subst (λ (p : PreparedModel). is_secure (unit_at p c.args.unit).kind ≡ true) (sym c.self.view_is) c.requires.secure))

pub secure_inputs-requires-2-clause-in_range : goal.secure_inputs-requires-2-clause-in_range
secure_inputs-requires-2-clause-in_range c = subst (λ (p : PreparedModel). c.args.unit < length p.units) (sym c.self.view_is) c.requires.in_range

pub secure_inputs-requires-2-clause-of_segment : goal.secure_inputs-requires-2-clause-of_segment
secure_inputs-requires-2-clause-of_segment c =
    placed_b _ c.self.invariant c.args.unit (subst (λ (p : PreparedModel). c.args.unit < length p.units) (sym c.self.view_is) c.requires.in_range)
    (secure_kind _ (subst (λ (p : PreparedModel). is_secure (unit_at p c.args.unit).kind ≡ true) (sym c.self.view_is) c.requires.secure))

pub returns : goal.returns
returns c = both_are c.in_ok-secure_inputs.ensures c.in_ok-secure_inputs-2.ensures ∙ ap (λ (p : PreparedModel). engines_own p.a p.b (unit_at p c.args.unit)) c.self.view_is
