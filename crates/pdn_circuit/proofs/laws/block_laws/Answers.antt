use Rattle.pdn_circuit.proofs.CompareLaws.{or_is, less_is, equal_is, plus_is}
use Rattle.pdn_circuit.proofs.laws.block_laws.Goals as goal

pub returns : goal.returns
returns c = record {
  or_means = λ inputs words lane x y g m. or_is lane x y m;
  less_means = λ inputs words lane init xs ys g l m. less_is lane init xs ys l m;
  equal_means = λ inputs words lane xs ys g low ends l m. equal_is lane low ends xs ys l m;
  plus_means = λ inputs words lane xs number zs low ends b m. plus_is lane low ends xs number b m;
}
