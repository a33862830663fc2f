use Rattle.std.proofs.Common.{◌≡◌, ◌∙◌, ap, sym, subst, Ok, List, ◌∷◌, []}
use Rattle.pdn_tree.specs.Plans.{PlanModel}
use Rattle.pdn_tree.specs.declared.node.Node.{Node}
use Rattle.pdn_level.specs.Levels.{segments_of}
use Rattle.pdn_site.specs.Models.{UnitModel}
use Rattle.pdn_site.specs.Compiling.{compiled, IsTooLarge, root_shape}
use Rattle.pdn_site.specs.Budget.{Below, IsBelow, Step, Reaches, first_left, shapes_along}
use Rattle.pdn_site.proofs.CompilingLaws.{exit_large, below_large, root_large, all_made}
use Rattle.pdn_site.proofs.compiling.compile.Goals as goal

pub returns-in_err-below-clause-large : goal.returns-in_err-below-clause-large
returns-in_err-below-clause-large c =
    let schema = c.args.schema.now in
    let root : c.plan.inside.root ≡ c.args.plan.now.root = ap (λ (p : PlanModel). p.root) c.plan.view_is in
    let staged : c.args.staged.now ≡ segments_of schema c.plan.inside.root [] = c.requires.staged ∙ ap (λ (n : Node). segments_of schema n []) (sym root) in
    exit_large (IsTooLarge schema c.args.plan.now.root c.args.staged.now c.args.view.now) _ _ c.from_residual.ensures.1
    (subst (λ (n : Node). IsTooLarge schema n c.args.staged.now c.args.view.now c.in_err-below.field-0.0) root (below_large schema c.plan.inside.root c.args.staged.now c.args.view.now staged _ c.in_err-below.ensures))

pub returns-in_err-step-clause-large : goal.returns-in_err-step-clause-large
returns-in_err-step-clause-large c =
    let schema = c.args.schema.now in
    let root : c.plan.inside.root ≡ c.args.plan.now.root = ap (λ (p : PlanModel). p.root) c.plan.view_is in
    let staged : c.args.staged.now ≡ segments_of schema c.plan.inside.root [] = c.requires.staged ∙ ap (λ (n : Node). segments_of schema n []) (sym root) in
    let below : IsBelow first_left (shapes_along schema c.plan.inside.root 0 c.args.staged.now c.args.view.now) (record { units = c.below.inside.units.items; parts = c.below.inside.parts.items; left = c.below.inside.left })
    = subst (λ (b : Below). IsBelow first_left (shapes_along schema c.plan.inside.root 0 c.args.staged.now c.args.view.now) b) (sym c.below.view_is) c.in_ok-below.ensures in
    exit_large (IsTooLarge schema c.args.plan.now.root c.args.staged.now c.args.view.now) _ _ c.from_residual-in_err-step.ensures.1
    (subst (λ (n : Node). IsTooLarge schema n c.args.staged.now c.args.view.now c.in_err-step.field-0.0) root
    (root_large schema c.plan.inside.root c.args.staged.now c.args.view.now staged c.below.inside.left c.below.inside.units.items c.as_slice.result.now below.units (c.as_slice.ensures.value ∙ below.parts) _ c.in_err-step.ensures))

pub returns-clause-units : goal.returns-clause-units
returns-clause-units c =
    let schema = c.args.schema.now in
    let root : c.plan.inside.root ≡ c.args.plan.now.root = ap (λ (p : PlanModel). p.root) c.plan.view_is in
    let staged : c.args.staged.now ≡ segments_of schema c.plan.inside.root [] = c.requires.staged ∙ ap (λ (n : Node). segments_of schema n []) (sym root) in
    let below : IsBelow first_left (shapes_along schema c.plan.inside.root 0 c.args.staged.now c.args.view.now) (record { units = c.below.inside.units.items; parts = c.below.inside.parts.items; left = c.below.inside.left })
    = subst (λ (b : Below). IsBelow first_left (shapes_along schema c.plan.inside.root 0 c.args.staged.now c.args.view.now) b) (sym c.below.view_is) c.in_ok-below.ensures in
    let last : Reaches c.below.inside.left (root_shape schema c.as_slice.result.now c.plan.inside.root ∷ []) c.step.inside.left (c.step.inside.unit ∷ []) []
    = subst (λ (s : Step). Reaches c.below.inside.left (root_shape schema c.as_slice.result.now c.plan.inside.root ∷ []) s.left (s.unit ∷ []) []) (sym c.step.view_is) c.in_ok-step.ensures in
    ap (λ (n : Node). compiled schema n c.args.staged.now c.args.view.now) (sym root)
    ∙ all_made schema c.plan.inside.root c.args.staged.now c.args.view.now staged c.below.inside.left c.below.inside.units.items c.as_slice.result.now below.units (c.as_slice.ensures.value ∙ below.parts) c.step.inside.left c.step.inside.unit last
    ∙ ap (λ (us : List UnitModel). Ok us) (sym c.in_ok-push.ensures.items)
