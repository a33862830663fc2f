use Rattle.std.proofs.Common.{◌≡◌, drop}
use Rattle.pdn_schema.specs.Names.{all_name_bytes}
use Rattle.pdn_schema.proofs.form.all_name_bytes.Given as goal

abbrev pub invariant-loop-b : goal.invariant-loop-b
invariant-loop-b l = all_name_bytes (drop l.b-index l.bytes) ≡ all_name_bytes l.bytes
