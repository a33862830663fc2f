use Rattle.std.proofs.Common.{rules}
use Rattle.pdn_base.proofs.CodeLaws.{is_code-length, code_number-IsCodeNumber}
use Rattle.pdn_base.proofs.code.Code.read.Goals as goal

pub big_endian-requires : goal.big_endian-requires
big_endian-requires c = is_code-length c.args.bytes.now (search rules)

pub invariant_of-result : goal.invariant_of-result
invariant_of-result c = rw (c.big_endian.ensures) (code_number-IsCodeNumber c.args.bytes.now (search rules))
