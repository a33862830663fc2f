use Rattle.std.proofs.Common.{None, Some}
use Rattle.pdn_base.proofs.FileMaps.{content_found}
use Rattle.pdn_base.proofs.mem_files.content.Goals as goal

pub returns-in-Some-clause-held : goal.returns-in-Some-clause-held
returns-in-Some-clause-held c = rw (c.deref.ensures.value) (content_found _ _ c.args.name.now c.args.files.now (Some c.in-Some.file.now) c.in-Some.ensures.first)

pub returns-in-None-clause-held : goal.returns-in-None-clause-held
returns-in-None-clause-held c = content_found _ _ c.args.name.now c.args.files.now None c.in-None.ensures.first
