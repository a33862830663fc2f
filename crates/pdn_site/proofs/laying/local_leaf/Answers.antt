use Rattle.std.proofs.Common.{◌∙◌, List, subst}
use Rattle.pdn_base.specs.declared.marks.Kind.{Kind}
use Rattle.pdn_site.specs.Built.{Lays}
use Rattle.pdn_site.specs.Circuits.{leaf_list}
use Rattle.pdn_site.proofs.laying.local_leaf.Goals as goal

pub returns-clause-made : goal.returns-clause-made
returns-clause-made c = λ s.
    subst (λ (columns : List Kind). Lays c.args.b.now c.leaf_list.new.b s s (leaf_list columns c.args.rows) c.leaf_list.result) (c.as_slice.ensures.value ∙ c.in_ok-kinds.ensures.kinds) (c.leaf_list.ensures.made s)
