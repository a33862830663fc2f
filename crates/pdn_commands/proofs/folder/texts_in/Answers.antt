use Rattle.std.proofs.Common.{◌<◌, length, rules, refl, ◌∙◌}
use Rattle.std.proofs.lemmas.Result.{err_from_is_err_and}
use Rattle.pdn_schema.specs.Models.{no_table}
use Rattle.pdn_query.proofs.Steps.{Stepped-begin, Stepped-next, Stepped-stopped, Stepped-halted, Stepped-all}
use Rattle.pdn_commands.proofs.folder.texts_in.Goals as goal

pub loop-at-init : goal.loop-at-init
loop-at-init g c = record { stepped = Stepped-begin c.new-texts.result.items (search rules); count = search rules; same = refl }

pub returns-in_err-text-clause-came : goal.returns-in_err-text-clause-came
returns-in_err-text-clause-came g c =
    let p = err_from_is_err_and c.from_residual.result c.from_residual.ensures.1 in
    let within : c.loop-at.at < length c.args.schema.now.tables = search rules in
    rw (p.1, p.2) (λ next. Stepped-stopped c.loop-at.invariant.stepped no_table _ next within (rw (c.table.ensures.is) at c.in_err-text.ensures.came))

pub returns-in_err-push-clause-came : goal.returns-in_err-push-clause-came
returns-in_err-push-clause-came g c =
    let p = err_from_is_err_and c.from_residual-in_err-push.result c.from_residual-in_err-push.ensures.1 in
    let within : c.loop-at.at < length c.args.schema.now.tables = search rules in
    rw (p.1, p.2) (λ next. Stepped-halted (Stepped-next c.loop-at.invariant.stepped no_table c.in_ok-text.text within (rw (c.table.ensures.is) at c.in_ok-text.ensures.came)) _ next refl)

pub loop-at-preserved : goal.loop-at-preserved
loop-at-preserved g c =
    let within : c.loop-at.at < length c.args.schema.now.tables = search rules in
    record {
      stepped = rw (c.in_ok-push.ensures.items) (Stepped-next c.loop-at.invariant.stepped no_table c.in_ok-text.text within (rw (c.table.ensures.is) at c.in_ok-text.ensures.came));
      count = search rules;
      same = c.in_ok-text.ensures.same ∙ c.loop-at.invariant.same;
    }

pub returns-clause-came : goal.returns-clause-came
returns-clause-came g c = λ next. Stepped-all c.loop-at.invariant.stepped next (search rules)
