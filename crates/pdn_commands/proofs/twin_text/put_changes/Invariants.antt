use Rattle.std.proofs.Common.{◌≡◌, ◌++◌, take}
use Rattle.std.specs.List.{flat_map}
use Rattle.pdn_commands.specs.Twinning.{changed_line}
use Rattle.pdn_commands.proofs.twin_text.put_changes.Given as goal

abbrev pub invariant-loop-change : goal.invariant-loop-change
invariant-loop-change l = l.out.items ≡ l.fn.out.items ++ flat_map changed_line (take l.change-index l.changes)
