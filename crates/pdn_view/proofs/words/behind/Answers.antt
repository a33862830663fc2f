use Rattle.pdn_view.specs.Guesses.{words}
use Rattle.pdn_view.specs.Cuts.{words_left}
use Rattle.pdn_view.proofs.Cutting.{next_drop}
use Rattle.pdn_view.proofs.words.behind.Goals as goal

pub loop-preserved : goal.loop-preserved
loop-preserved c = next_drop (words c.args.line.now) c.loop.counter (words_left c.loop.left) (words_left c.behind_one-left.result) c.loop.invariant c.behind_one-left.ensures
