use Rattle.std.proofs.Common.{◌∙◌, sym}
use Rattle.pdn_obl_rank.proofs.ThereLaws.{key_there, key_wide}
use Rattle.pdn_obl_rank.proofs.hits.before_gate.Goals as goal

pub less-requires-clause-y_there : goal.less-requires-clause-y_there
less-requires-clause-y_there c = key_there _ c.args.word c.args.compared.now c.requires.there c.requires.word _ (c.as_slice.ensures.value ∙ c.in_ok-planes.ensures)

pub less-requires-clause-widths : goal.less-requires-clause-widths
less-requires-clause-widths c = c.requires.wide ∙ sym (key_wide _ c.args.word c.args.compared.now c.requires.there c.requires.word _ (c.as_slice.ensures.value ∙ c.in_ok-planes.ensures))

pub word_key-requires-clause-word : goal.word_key-requires-clause-word
word_key-requires-clause-word c = let t = c.requires.there in t.words c.args.word c.requires.word
