use Rattle.std.proofs.Common.{◌≡◌, ◌∙◌, List, ℕ, ap, sym, subst, map}
use Rattle.std.specs.List.{flat_map}
use Rattle.pdn_base.specs.declared.marks.Kind.{Kind}
use Rattle.pdn_obl_rows.specs.Lists.{PaddedList, IsShaped, kind_at, column_planes, valid_rows}
use Rattle.pdn_obl_rows.specs.Operators.{projected}
use Rattle.pdn_obl_rows.proofs.OperatorLaws.{project_means}
use Rattle.pdn_obl_rows.proofs.ShapeLaws.{projected_shaped, list_is}
use Rattle.pdn_obl_rows.proofs.projecting.project.Goals as goal

pub of-requires : goal.of-requires
of-requires c =
    let list : PaddedList = c.args.list.now in
    subst (λ (l : PaddedList). IsShaped l) (sym (list_is _ (projected list c.args.columns.now) (ap (λ (l : PaddedList). l.len) c.list.view_is) (c.in_ok-valid.ensures.items ∙ c.valid.ensures.valid)
    (c.in_ok-kinds.ensures ∙ ap (λ (ks : List Kind). map (kind_at ks) c.args.columns.now) c.kinds.ensures) c.in_ok-planes.ensures))
    (projected_shaped list c.args.columns.now (subst (λ (l : PaddedList). IsShaped l) c.list.view_is c.list.invariant) c.requires)

pub returns-clause-means : goal.returns-clause-means
returns-clause-means c = λ words.
    let list : PaddedList = c.args.list.now in
    ap (valid_rows words) (c.of.ensures ∙ list_is _ (projected list c.args.columns.now) (ap (λ (l : PaddedList). l.len) c.list.view_is) (c.in_ok-valid.ensures.items ∙ c.valid.ensures.valid)
    (c.in_ok-kinds.ensures ∙ ap (λ (ks : List Kind). map (kind_at ks) c.args.columns.now) c.kinds.ensures) c.in_ok-planes.ensures)
    ∙ project_means words list (subst (λ (l : PaddedList). IsShaped l) c.list.view_is c.list.invariant) c.args.columns.now c.requires
