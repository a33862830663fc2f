use Rattle.std.proofs.Common.{◌≤◌, length, All}
use Rattle.pdn_cases.proofs.folder.files_in.Given as goal

abbrev pub invariant-loop-name : goal.invariant-loop-name
invariant-loop-name g l = All (λ f. length f.1.items ≤ 536870912) l.files.items
