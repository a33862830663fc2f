use Rattle.std.proofs.Common.{◌≡◌, true, refl, subst, arith}
use Rattle.pdn_http.specs.Heads.{NeverHasHead}
use Rattle.pdn_http.proofs.OutcomeLaws.{no_head_never}
use Rattle.pdn_http.proofs.TurnLaws.{consumes_turn, longer}
use Rattle.pdn_http.proofs.read_head.read_head.Goals as goal

pub returns-in-Never-clause-came : goal.returns-in-Never-clause-came
returns-in-Never-clause-came g c =
    let turn = c.in_ok-receive.ensures.received in
    let some : c.in_ok-receive.field-0 ≡ true = c.if-not-branch.false in
    let grown = longer turn some in (
      refl,
      no_head_never (g.L.Link.left c.args.link.now) (g.L.Link.left c.receive.new.link) c.receive.new.bytes.items
          (consumes_turn (g.L.Link.left c.args.link.now) (g.L.Link.left c.loop-bytes.link) (g.L.Link.left c.receive.new.link)
          c.loop-bytes.bytes.items c.receive.new.bytes.items _ c.in_ok-receive.field-0 c.loop-bytes.invariant.taken turn)
          (omega (arith, grown.0)) (subst NeverHasHead c.deref-in-loop-bytes.ensures.value c.in-Never.ensures),
    )
