use Rattle.std.proofs.Common.{rules}
use Rattle.pdn_broker.proofs.RunLaws.{xor_step}
use Rattle.pdn_broker.proofs.opening.xor_words.Goals as goal

pub loop-k-preserved : goal.loop-k-preserved
loop-k-preserved c =
    xor_step c.args.a.now c.args.b.now c.loop-k.words.items c.push.new.self.items c.loop-k.k c.index-a-k.result c.index-b-k.result (search rules) (search rules) (search rules) (search rules) (search rules) (search rules)
