use Rattle.std.proofs.Common.{◌≤◌, ◌<◌, length, rules}
use Rattle.std.specs.String.{string_bytes}
use Rattle.pdn_commands.proofs.Tasks.{generate_of_less, generate_of_more}
use Rattle.pdn_commands.proofs.command.read_generate.Goals.{in_default-via-then-words-lt3, in_default-via-else-words-lt3+else-words-lt4}
use Rattle.pdn_commands.proofs.command.read_generate.Goals as goal

pub returns-in_default : goal.returns-in_default
returns-in_default c = elim c.in_default.branch [
  | in_default-via-then-words-lt3 w ↦ let less : length c.args.words.now < 3 = search rules in generate_of_less string_bytes c.args.words.now less
  | in_default-via-else-words-lt3+else-words-lt4 w ↦ let least : 4 ≤ length c.args.words.now = search rules in generate_of_more string_bytes c.args.words.now least
]
