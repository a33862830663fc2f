use Rattle.std.proofs.Common.{map, [], None, Some}
use Rattle.pdn_base.specs.declared.status.Status.TheVariants as status
use Rattle.std.specs.String.{string_bytes}
use Rattle.pdn_commands.specs.Commands.{Run, Check, Twin, Load, Generate}
use Rattle.pdn_query.proofs.Walks.{refused}
use Rattle.pdn_commands.proofs.Tasks.{asked}
use Rattle.pdn_commands.proofs.Tasks.{kept_a, kept_b, run_takes, twin_takes, generate_takes, load_takes_none}
use Rattle.pdn_commands.proofs.top.follow.Goals as goal

pub returns-in-Some-Run-clause-goes : goal.returns-in-Some-Run-clause-goes
returns-in-Some-Run-clause-goes g c = λ views keeps. asked views (g.D.Deal.tape c.args.deal.now) (map string_bytes c.args.words.now) (Some (Run c.in-Some-Run.file.now _ _)) (rw (c.in-Some-Run.field-0-is) at c.in-Some-Run.ensures) c.run.ensures.goes

pub returns-in-Some-Check-clause-goes : goal.returns-in-Some-Check-clause-goes
returns-in-Some-Check-clause-goes g c = λ views keeps. asked views (g.D.Deal.tape c.args.deal.now) (map string_bytes c.args.words.now) (Some (Check c.in-Some-Check.file.now)) (rw (c.in-Some-Check.field-0-is) at c.in-Some-Check.ensures) c.check.ensures.goes

pub returns-in-Some-Twin-clause-goes : goal.returns-in-Some-Twin-clause-goes
returns-in-Some-Twin-clause-goes g c = λ views keeps. asked views (g.D.Deal.tape c.args.deal.now) (map string_bytes c.args.words.now) (Some (Twin c.in-Some-Twin.site c.in-Some-Twin.file.now c.in-Some-Twin.folder.now _))
    (rw (c.in-Some-Twin.field-0-is) at c.in-Some-Twin.ensures) (c.twin.ensures.goes views keeps)

pub returns-in-Some-Twin-clause-desk : goal.returns-in-Some-Twin-clause-desk
returns-in-Some-Twin-clause-desk g c = twin_takes c.in-Some-Twin.site c.in-Some-Twin.file.now c.in-Some-Twin.folder.now _ _ (rw (c.in-Some-Twin.field-0-is) at c.in-Some-Twin.ensures)

pub returns-in-Some-Load-clause-goes : goal.returns-in-Some-Load-clause-goes
returns-in-Some-Load-clause-goes g c = λ views keeps. asked views (g.D.Deal.tape c.args.deal.now) (map string_bytes c.args.words.now) (Some (Load c.in-Some-Load.site c.in-Some-Load.batch.table.now c.in-Some-Load.batch.number c.in-Some-Load.batch.file.now))
    (rw (c.in-Some-Load.field-0-is) at c.in-Some-Load.ensures) c.load.ensures.goes

pub returns-in-Some-Load-clause-kept_a : goal.returns-in-Some-Load-clause-kept_a
returns-in-Some-Load-clause-kept_a g c = kept_a c.in-Some-Load.batch.table.now c.in-Some-Load.batch.number c.in-Some-Load.batch.file.now _ _ _ c.in-Some-Load.site (rw (c.in-Some-Load.field-0-is) at c.in-Some-Load.ensures) c.load.ensures.only

pub returns-in-Some-Load-clause-kept_b : goal.returns-in-Some-Load-clause-kept_b
returns-in-Some-Load-clause-kept_b g c = kept_b c.in-Some-Load.batch.table.now c.in-Some-Load.batch.number c.in-Some-Load.batch.file.now _ _ _ c.in-Some-Load.site (rw (c.in-Some-Load.field-0-is) at c.in-Some-Load.ensures) c.load.ensures.only

pub returns-in-Some-Run-clause-desk : goal.returns-in-Some-Run-clause-desk
returns-in-Some-Run-clause-desk g c = run_takes c.in-Some-Run.file.now _ _ _ (rw (c.in-Some-Run.field-0-is) at c.in-Some-Run.ensures)

pub returns-in-Some-Load-clause-desk : goal.returns-in-Some-Load-clause-desk
returns-in-Some-Load-clause-desk g c = λ off. load_takes_none c.in-Some-Load.site _ _ c.load.ensures.only

pub returns-in-Some-Generate-clause-goes : goal.returns-in-Some-Generate-clause-goes
returns-in-Some-Generate-clause-goes g c = λ views keeps. asked views (g.D.Deal.tape c.args.deal.now) (map string_bytes c.args.words.now) (Some (Generate c.in-Some-Generate.size.seed c.in-Some-Generate.size.patients _))
    (rw (c.in-Some-Generate.field-0-is) at c.in-Some-Generate.ensures) c.generate.ensures.goes

pub returns-in-Some-Generate-clause-desk : goal.returns-in-Some-Generate-clause-desk
returns-in-Some-Generate-clause-desk g c = generate_takes c.in-Some-Generate.size.seed c.in-Some-Generate.size.patients _ _ (rw (c.in-Some-Generate.field-0-is) at c.in-Some-Generate.ensures)

pub returns-in-None-clause-goes : goal.returns-in-None-clause-goes
returns-in-None-clause-goes g c = λ views keeps. asked views (g.D.Deal.tape c.args.deal.now) (map string_bytes c.args.words.now) None c.in-None.ensures (refused _ [] [] status.Words _ c.refused.ensures)
