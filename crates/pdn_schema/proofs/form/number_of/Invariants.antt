use Rattle.std.proofs.Common.{◌≡◌, ◌<◌, ◌^◌, drop}
use Rattle.std.specs.Str.{all_ascii_digits}
use Rattle.pdn_schema.specs.Forms.{value_from}
use Rattle.pdn_schema.proofs.form.number_of.Given as goal

abbrev pub invariant-loop-b : goal.invariant-loop-b
invariant-loop-b l = record {
  small : l.n < 10 ^ l.b-index;
  digits : all_ascii_digits l.bytes ≡ all_ascii_digits (drop l.b-index l.bytes);
  rest : value_from l.n (drop l.b-index l.bytes) ≡ value_from 0 l.bytes;
}
