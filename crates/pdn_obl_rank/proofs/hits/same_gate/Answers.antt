use Rattle.std.proofs.Common.{◌∙◌, sym}
use Rattle.pdn_obl_rank.proofs.ThereLaws.{part_there, part_wide}
use Rattle.pdn_obl_rank.proofs.hits.same_gate.Goals as goal

pub equal-requires-clause-y_there : goal.equal-requires-clause-y_there
equal-requires-clause-y_there c = part_there _ c.args.word c.args.compared.now c.requires.there c.requires.word _ (c.as_slice.ensures.value ∙ c.in_ok-planes.ensures)

pub equal-requires-clause-widths : goal.equal-requires-clause-widths
equal-requires-clause-widths c = c.requires.wide ∙ sym (part_wide _ c.args.word c.args.compared.now c.requires.there c.requires.word _ (c.as_slice.ensures.value ∙ c.in_ok-planes.ensures))

pub word_part-requires-clause-word : goal.word_part-requires-clause-word
word_part-requires-clause-word c = let t = c.requires.there in t.words c.args.word c.requires.word
