use Rattle.std.proofs.Common.{◌≡◌, ℕ, List, sym, subst, ap, ◌∙◌}
use Rattle.pdn_desk_keeper.specs.Desks.{KeptText}
use Rattle.pdn_desk.specs.Courses.{Keep}
use Rattle.pdn_desk.specs.Replies.{ReplyBytes, reply}
use Rattle.pdn_desk.specs.Ways.{Came, Replied}
use Rattle.pdn_desk.proofs.Coming.{kept}
use Rattle.pdn_desk.proofs.call.keep.Goals as goal

pub returns-in-Ok : goal.returns-in-Ok
returns-in-Ok g c =
    let old = g.W.Outside.state c.args.world.now in
    let new = g.W.Outside.state c.keep.new.self in
    let body_is : c.deref.result.now ≡ c.args.body.items = c.deref.ensures.value ∙ ap (λ (k : KeptText). k.body) (c.kept.view_is ∙ c.in_ok-kept.ensures.is) in
    let made_is : c.in_ok-answer.answer ≡ reply 200 c.args.body.items = rw (body_is) at c.in_ok-answer.ensures in
    subst (λ (m : ReplyBytes). Came old new (Keep c.args.asked.call (record { text = c.args.asked.text.now; body = c.args.body.items })) (Replied m)) (sym made_is)
    (subst (λ (k : KeptText). Came old new (Keep c.args.asked.call k) (Replied (reply 200 k.body))) c.in_ok-kept.ensures.is (kept c.args.asked.call c.in_ok-kept.kept c.in-Ok.ensures.kept))
