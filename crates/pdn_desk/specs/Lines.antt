-- The line that tells how a connection ended.
use Rattle.std.specs.Prelude.{ℕ, List, ◌++◌, Result, Ok, Err, codes, decimal}
use Rattle.pdn_base.specs.Texts.{line}
use Rattle.pdn_base.specs.declared.memory.Memory.{Memory}
use Rattle.pdn_desk.specs.declared.desk_end.DeskEnd.{DeskEnd}
use Rattle.pdn_desk.specs.declared.desk_end.DeskEnd.TheVariants as ends

abbrev pub line_of : Result DeskEnd Memory → List ℕ
line_of (Ok ends.Silent) = line (codes "silent")
line_of (Ok ends.Unread) = line (codes "unread")
line_of (Ok (ends.Replied status)) = line (codes "replied " ++ decimal status)
line_of (Ok (ends.Lost status)) = line (codes "lost " ++ decimal status)
line_of (Err short) = line (codes "memory")
