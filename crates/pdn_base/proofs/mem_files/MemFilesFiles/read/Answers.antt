use Rattle.std.proofs.Common.{◌≡◌, Some, sym}
use Rattle.pdn_base.specs.Outside.{content_of}
use Rattle.pdn_base.proofs.FileMaps.{copied}
use Rattle.pdn_base.proofs.mem_files.MemFilesFiles.read.Goals as goal
use Rattle.pdn_base.proofs.mem_files.MemFilesFiles.read.Goals.{in-Some, in-None}

pub returns-clause-found : goal.returns-clause-found
returns-clause-found c = elim c.match-content.branch [
  | in-Some w ↦
      let held : content_of c.args.self.now.files c.args.name.now ≡ Some w.in-Some.bytes.now = rw (← c.self.view_is, ← c.deref.ensures.value) (sym w.in-Some.ensures.held) in
      rw (w.result-is) (copied (λ made. made.items) w.copy.result _ _ _ held w.copy.ensures)
  | in-None w ↦ rw (w.result-is) tt
]
