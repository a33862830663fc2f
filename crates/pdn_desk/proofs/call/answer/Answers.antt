use Rattle.std.proofs.Common.{ℕ, List}
use Rattle.pdn_desk.specs.Courses.{Course, Keep}
use Rattle.pdn_desk.specs.Ways.{end_of}
use Rattle.pdn_desk.proofs.Queries.{still_free}
use Rattle.pdn_desk.proofs.call.answer.Goals as goal

pub keep-requires-clause-free : goal.keep-requires-clause-free
keep-requires-clause-free g c = still_free c.args.asked.call.caller c.args.asked.call.number (g.W.Outside.state c.args.world.now).told.desk (g.W.Outside.state c.answered_text.new.world).told.desk
    c.in-Ok.ensures.asked c.requires.free

pub returns-in-Ok : goal.returns-in-Ok
returns-in-Ok g c = c.in-Ok.ensures.came (λ body. Keep c.args.asked.call (record { text = c.args.asked.text.now; body = body })) (g.W.Outside.state c.keep.new.world) (end_of c.keep.result) c.keep.ensures

pub returns-in-Err : goal.returns-in-Err
returns-in-Err g c = c.in-Err.ensures.came (λ body. Keep c.args.asked.call (record { text = c.args.asked.text.now; body = body })) (end_of c.refused.result) c.refused.ensures
