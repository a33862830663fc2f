-- How a command ends: the number of each status.
use Rattle.std.specs.Prelude.{ℕ}
use Rattle.pdn_base.specs.declared.status.Status.{Status}
use Rattle.pdn_base.specs.declared.status.Status.TheVariants.{Done, Words, Schema, Sql, Plan, Forbidden, TooLarge, BadRows, NoFile, Unavailable, TicketsSpent, Memory, Csv, BatchDiffers, OverBound, Disagree}

abbrev pub code_of : Status → ℕ
code_of Done = 0
code_of Words = 2
code_of (Schema line cause) = 3
code_of (Sql place kind) = 4
code_of (Plan kind name) = 5
code_of (Forbidden column label) = 6
code_of (TooLarge limit unit) = 7
code_of (BadRows site table cause) = 8
code_of (NoFile name) = 9
code_of (Unavailable who) = 10
code_of TicketsSpent = 11
code_of Memory = 12
code_of (Csv entry cause) = 13
code_of (BatchDiffers row) = 14
code_of (OverBound column) = 15
code_of (Disagree table column) = 16
