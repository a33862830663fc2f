use Rattle.std.proofs.Common.{◌≡◌, map}
use Rattle.pdn_base.specs.declared.site.Site.TheVariants.{A, B}
use Rattle.pdn_dealer.specs.Sections.{triple_of, fives_of}
use Rattle.pdn_dealer.proofs.sections.triples.Given as goal

abbrev pub invariant-loop-k : goal.invariant-loop-k
invariant-loop-k l = record {
  a : l.a.items ≡ map (triple_of A) (fives_of l.k l.words);
  b : l.b.items ≡ map (triple_of B) (fives_of l.k l.words);
}
