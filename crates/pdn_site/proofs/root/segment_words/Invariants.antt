use Rattle.std.proofs.Common.{◌≡◌, take}
use Rattle.std.specs.List.{flat_map}
use Rattle.pdn_site.specs.RootWords.{words_in}
use Rattle.pdn_site.proofs.root.segment_words.Given as goal

abbrev pub invariant-loop-unit : goal.invariant-loop-unit
invariant-loop-unit l = l.words.items ≡ flat_map (words_in l.side.site l.side.schema.now l.side.tables.now l.top l.segment) (take l.unit-index l.side.units.now)
