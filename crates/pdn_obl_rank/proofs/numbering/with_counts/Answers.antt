use Rattle.std.proofs.Common.{ap, sym, subst, ◌∙◌, ◌++◌, ◌∷◌, [], List, ℕ}
use Rattle.pdn_base.specs.declared.marks.Kind.{Kind}
use Rattle.pdn_base.specs.declared.marks.Kind.TheVariants as kind
use Rattle.pdn_obl_rows.specs.Lists.{PaddedList, IsShaped}
use Rattle.pdn_obl_rank.proofs.TopLaws.{counts_shaped}
use Rattle.pdn_obl_rank.proofs.ColumnLaws.{counted_list}
use Rattle.pdn_obl_rank.proofs.numbering.with_counts.Goals as goal

pub of-requires : goal.of-requires
of-requires c =
    let list : PaddedList = c.args.list.now in
    subst (λ (l : PaddedList). IsShaped l)
    (sym (counted_list list (record { len = c.list.inside.len; valid = c.in_ok-valid.valid.items; kinds = c.in_ok-kinds.kinds.items; planes = c.in_ok-planes.planes.items }) c.args.counters.now c.as_slice.result.now c.as_slice-2.result.now
    (ap (λ (l : PaddedList). l.len) c.list.view_is) (c.in_ok-valid.ensures.items ∙ c.valid.ensures.valid) (c.in_ok-kinds.ensures.gives ∙ ap (λ (ks : List Kind). ks ++ kind.Int ∷ []) c.kinds.ensures)
    (c.as_slice.ensures.value ∙ c.in_ok-ints.ensures.gives) (c.as_slice-2.ensures.value ∙ c.in_ok-column.ensures.gives) (c.in_ok-planes.ensures.gives ∙ ap (λ (ps : List (List ℕ)). ps ++ c.as_slice-2.result.now) c.planes.ensures.planes)))
    (counts_shaped list c.args.counters.now c.planes.ensures.shaped c.requires)

pub returns-clause-gives : goal.returns-clause-gives
returns-clause-gives c =
    let list : PaddedList = c.args.list.now in
    c.of.ensures ∙ counted_list list (record { len = c.list.inside.len; valid = c.in_ok-valid.valid.items; kinds = c.in_ok-kinds.kinds.items; planes = c.in_ok-planes.planes.items }) c.args.counters.now c.as_slice.result.now c.as_slice-2.result.now
    (ap (λ (l : PaddedList). l.len) c.list.view_is) (c.in_ok-valid.ensures.items ∙ c.valid.ensures.valid) (c.in_ok-kinds.ensures.gives ∙ ap (λ (ks : List Kind). ks ++ kind.Int ∷ []) c.kinds.ensures)
    (c.as_slice.ensures.value ∙ c.in_ok-ints.ensures.gives) (c.as_slice-2.ensures.value ∙ c.in_ok-column.ensures.gives) (c.in_ok-planes.ensures.gives ∙ ap (λ (ps : List (List ℕ)). ps ++ c.as_slice-2.result.now) c.planes.ensures.planes)
