use Rattle.std.proofs.lemmas.List.{take_rest}
use Rattle.std.proofs.lemmas.Result.{err_from_is_err_and}
use Rattle.pdn_http.proofs.OutcomeLaws.{refused, got, posted, bodyless}
use Rattle.pdn_http.proofs.request.finished.Goals as goal

pub returns-in-Refused-clause-finished : goal.returns-in-Refused-clause-finished
returns-in-Refused-clause-finished g c = λ callers first came. refused callers first (g.L.Link.left c.args.link.now) c.args.heard c.in-Refused.refusal came c.in-Refused.is

pub returns-in-Get-clause-finished : goal.returns-in-Get-clause-finished
returns-in-Get-clause-finished g c = λ callers first came. got callers first (g.L.Link.left c.args.link.now) c.args.heard c.in-Get.call came c.in-Get.is

pub returns-in_err-body-in-Post-clause-finished : goal.returns-in_err-body-in-Post-clause-finished
returns-in_err-body-in-Post-clause-finished g c = λ callers first came.
    let p = err_from_is_err_and c.from_residual.result c.from_residual.ensures.1 in
    let rest = take_rest c.args.heard.bytes.items c.args.heard.len in
    rw (p.1, p.2) (bodyless callers first (g.L.Link.left c.args.link.now) (g.L.Link.left c.read_body.new.link) c.args.heard c.in-Post.call c.in-Post.size
    c.in_err-body-in-Post.field-0.0 came c.in-Post.is (rw (c.deref.ensures.value, rest) at c.in_err-body-in-Post.ensures.came))

pub returns-clause-finished : goal.returns-clause-finished
returns-clause-finished g c = λ callers first came.
    let rest = take_rest c.args.heard.bytes.items c.args.heard.len in
    posted callers first (g.L.Link.left c.args.link.now) (g.L.Link.left c.read_body.new.link) c.args.heard c.in-Post.call c.in-Post.size
    c.in_ok-body-in-Post.body.items came c.in-Post.is (rw (c.deref.ensures.value, rest) at c.in_ok-body-in-Post.ensures.came)
