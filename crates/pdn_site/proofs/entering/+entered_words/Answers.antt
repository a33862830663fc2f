use Rattle.std.proofs.Common.{rules, ◌≡◌, ◌∙◌, ◌++◌, sym, ap, ap₂, drop, List, ℕ}
use Rattle.std.proofs.lemmas.Result.{IfOk-weaker}
use Rattle.pdn_tree.specs.declared.node.Node.{Node}
use Rattle.pdn_level.specs.declared.staged.Leaf.{Leaf}
use Rattle.pdn_site.specs.Narrowing.{scans}
use Rattle.pdn_site.specs.Entering.{leaf_words, entered_words}
use Rattle.pdn_site.proofs.EnteringLaws.{local_words, filter_words, project_words, join_words}
use Rattle.pdn_site.proofs.entering.+entered_words.Goals as goal

pub returns-then-is_local : goal.returns-then-is_local
returns-then-is_local t c = IfOk-weaker c.leaf_words.result _ _ (λ words e.
    e ∙ ap (λ (tree : Node). leaf_words c.args.schema.now c.args.tables.now tree c.args.leaves.now) c.in_ok-tree.ensures
    ∙ sym (local_words c.args.schema.now c.args.tables.now c.args.value.now c.args.node.now c.args.leaves.now (sym c.is_local.ensures ∙ c.if-is_local.true))) c.leaf_words.ensures

pub returns-in-Filter : goal.returns-in-Filter
returns-in-Filter t c = IfOk-weaker c.entered_words.result _ _ (λ words e.
    e ∙ sym (filter_words c.args.schema.now c.args.tables.now c.args.value.now c.args.node.now c.get.result.now c.in-Filter.cond c.args.leaves.now (search rules) (sym c.is_local.ensures ∙ c.if-is_local.false))) c.entered_words.ensures

pub returns-in-Project : goal.returns-in-Project
returns-in-Project t c = IfOk-weaker c.entered_words-in-Project.result _ _ (λ words e.
    e ∙ sym (project_words c.args.schema.now c.args.tables.now c.args.value.now c.args.node.now c.get-in-Project.result.now c.in-Project.columns c.args.leaves.now (search rules) (sym c.is_local.ensures ∙ c.if-is_local.false))) c.entered_words-in-Project.ensures

pub returns-in_ok-append-in-Join : goal.returns-in_ok-append-in-Join
returns-in_ok-append-in-Join t c =
    let left : Node = c.get-in-Join.result.now in
    let right : Node = c.get-in-Join-3.result.now in
    let counted : c.in_ok-scans-in-Join.field-0 ≡ scans c.args.value.now left = search rules in
    let rest : c.after-rest.result.now ≡ drop (scans c.args.value.now left) c.args.leaves.now = c.after-rest.ensures ∙ ap (λ (n : ℕ). drop n c.args.leaves.now) counted in
    c.in_ok-append-in-Join.ensures.items
    ∙ ap₂ (λ (ws us : List ℕ). ws ++ us) c.in_ok-words-in-Join.ensures (c.in_ok-more-in-Join.ensures ∙ ap (λ (ls : List Leaf). entered_words c.args.schema.now c.args.tables.now c.args.value.now right ls) rest)
    ∙ sym (join_words c.args.schema.now c.args.tables.now c.args.value.now c.args.node.now left right c.in-Join.on c.args.leaves.now (search rules) (sym c.is_local.ensures ∙ c.if-is_local.false))
