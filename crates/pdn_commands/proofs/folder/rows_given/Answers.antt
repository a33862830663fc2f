use Rattle.std.proofs.Common.{◌<◌, length, rules, refl, Option}
use Rattle.std.specs.Prelude.{IfSome}
use Rattle.std.proofs.lemmas.List.Elements.{All-push}
use Rattle.std.proofs.lemmas.Result.{err_from_is_err_and}
use Rattle.pdn_base.specs.Bounds.{IsShort}
use Rattle.pdn_base.specs.Operators.{Rows}
use Rattle.pdn_query.proofs.Steps.{Stepped-begin, Stepped-halted}
use Rattle.pdn_commands.proofs.Files.{file_next, file_stopped, all_files}
use Rattle.pdn_commands.proofs.folder.rows_given.Goals as goal

pub loop-at-init : goal.loop-at-init
loop-at-init c = record { stepped = λ w. Stepped-begin c.new-given.result.items (search rules); count = search rules; short = search rules }

pub returns-in_err-rows-clause-came : goal.returns-in_err-rows-clause-came
returns-in_err-rows-clause-came c =
    let p = err_from_is_err_and c.from_residual.result c.from_residual.ensures.1 in
    let within : c.loop-at.at < length c.args.schema.now.tables = search rules in
    rw (p.1, p.2) (λ w next. file_stopped c.args.schema.now.tables c.args.texts.now c.requires within (c.loop-at.invariant.stepped w) c.index-texts-at.result _ c.index-texts-at.is _ next (λ after. c.in_err-rows.ensures.came w after))

pub returns-in_err-push-clause-came : goal.returns-in_err-push-clause-came
returns-in_err-push-clause-came c =
    let p = err_from_is_err_and c.from_residual-in_err-push.result c.from_residual-in_err-push.ensures.1 in
    let within : c.loop-at.at < length c.args.schema.now.tables = search rules in
    rw (p.1, p.2) (λ w next. Stepped-halted (c.loop-at.invariant.stepped w) _ next refl)

pub loop-at-preserved : goal.loop-at-preserved
loop-at-preserved c =
    let within : c.loop-at.at < length c.args.schema.now.tables = search rules in
    record {
      stepped = λ w. rw (c.in_ok-push.ensures.items) (file_next c.args.schema.now.tables c.args.texts.now c.requires within (c.loop-at.invariant.stepped w) c.index-texts-at.result _ c.index-texts-at.is c.in_ok-rows.rows (λ after. c.in_ok-rows.ensures.came w after));
      count = search rules;
      short = rw (c.in_ok-push.ensures.items) (All-push (λ (rows : Option Rows). IfSome rows IsShort) c.loop-at.given.items c.in_ok-rows.rows c.loop-at.invariant.short c.in_ok-rows.ensures.short);
    }

pub returns-clause-came : goal.returns-clause-came
returns-clause-came c = λ w next. all_files c.args.schema.now.tables c.args.texts.now c.requires (c.loop-at.invariant.stepped w) next (search rules)
