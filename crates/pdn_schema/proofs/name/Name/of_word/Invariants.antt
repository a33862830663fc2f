use Rattle.std.proofs.Common.{◌≡◌, true, take, drop}
use Rattle.std.specs.String.{string_bytes}
use Rattle.pdn_schema.specs.Names.{all_name_bytes}
use Rattle.pdn_schema.proofs.name.Name.of_word.Given as goal

abbrev pub invariant-loop-b : goal.invariant-loop-b
invariant-loop-b l = record {
  so_far : string_bytes l.text ≡ take l.b-index l.word;
  rest : all_name_bytes (drop l.b-index l.word) ≡ true;
}
