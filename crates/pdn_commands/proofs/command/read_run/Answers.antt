use Rattle.std.proofs.Common.{◌≤◌, ◌<◌, length, rules}
use Rattle.std.specs.String.{string_bytes}
use Rattle.pdn_commands.proofs.Tasks.{run_of_less, run_of_three, run_of_more}
use Rattle.pdn_commands.proofs.command.read_run.Goals.{in_default-via-then-words-lt2, in_default-via-else-words-lt2+else-words-lt3+then-words-lt4, in_default-via-else-words-lt2+else-words-lt3+else-words-lt4+else-words-lt5}
use Rattle.pdn_commands.proofs.command.read_run.Goals as goal

pub returns-in_default : goal.returns-in_default
returns-in_default c = elim c.in_default.branch [
  | in_default-via-then-words-lt2 w ↦ let less : length c.args.words.now < 2 = search rules in run_of_less string_bytes c.args.words.now less
  | in_default-via-else-words-lt2+else-words-lt3+then-words-lt4 w ↦ let most : length c.args.words.now < 4 = search rules in let least : 3 ≤ length c.args.words.now = search rules in run_of_three string_bytes c.args.words.now least most
  | in_default-via-else-words-lt2+else-words-lt3+else-words-lt4+else-words-lt5 w ↦ let least : 5 ≤ length c.args.words.now = search rules in run_of_more string_bytes c.args.words.now least
]
