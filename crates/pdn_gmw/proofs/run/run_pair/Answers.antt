use Rattle.std.proofs.Common.{◌≡◌, length, ap, ◌∙◌, arith}
use Rattle.pdn_base.specs.Words.{xor_lists}
use Rattle.pdn_gmw.specs.declared.stage.Stage.TheVariants.{Sent}
use Rattle.pdn_gmw.specs.Steps.{HalfState, FinishedHalf, frame_count, next_frame, after_next, after_take}
use Rattle.pdn_gmw.specs.Pairs.{run_of}
use Rattle.pdn_gmw.proofs.Running.{state_a, state_b, begins_a, begins_b, next_a, next_b, ended_a, ended_b, shares_open, frame_few}
use Rattle.pdn_gmw.proofs.run.run_pair.Goals as goal

pub loop-init : goal.loop-init
loop-init c = record { end = c.frames-end.ensures.count; a = begins_a c.args.a c.args.b c.requires; b = begins_b c.args.a c.args.b c.requires }

pub loop-preserved : goal.loop-preserved
loop-preserved c =
    let inv = c.loop.invariant in
    record {
      end = inv.end;
      a = c.receive.ensures
          ∙ ap (λ (s : HalfState). after_take s c.as_slice.result.now) (c.in_ok-send.ensures.half ∙ ap (λ (s : HalfState). record s { stage = Sent }) inv.a)
          ∙ next_a c.args.a c.args.b c.loop.counter c.as_slice.result.now (c.as_slice.ensures.value ∙ c.in_ok-send-2.ensures.frame ∙ ap next_frame inv.b);
      b = c.receive-in-loop.ensures
          ∙ ap (λ (s : HalfState). after_take s c.as_slice-in-loop.result.now) (c.in_ok-send-2.ensures.half ∙ ap (λ (s : HalfState). record s { stage = Sent }) inv.b)
          ∙ next_b c.args.a c.args.b c.loop.counter c.as_slice-in-loop.result.now (c.as_slice-in-loop.ensures.value ∙ c.in_ok-send.ensures.frame ∙ ap next_frame inv.a);
    }

pub returns-clause-shares : goal.returns-clause-shares
returns-clause-shares c =
    let inv = c.loop.invariant in
    let n : c.loop.counter ≡ frame_count c.args.a.net = omega (arith, inv.end, c.loop-test.false, c.loop.auto.counter-end) in
    let a = c.finish.ensures ∙ ended_a c.args.a c.args.b c.loop.counter c.next-done.follows.lender-at-none c.requires c.frames-end.ensures.fits c.frames-end.ensures.circuit n (c.next-done.follows.holds-at-none ∙ ap after_next inv.a) in
    let b = c.finish-2.ensures ∙ ended_b c.args.a c.args.b c.loop.counter c.next-done-2.follows.lender-at-none c.requires c.frames-end.ensures.fits c.frames-end.ensures.circuit n (c.next-done-2.follows.holds-at-none ∙ ap after_next inv.b) in
    let run = run_of c.args.a c.args.b in
    ap (λ (f : FinishedHalf). record { a = f; b = c.finish-2.result }) a ∙ ap (λ (f : FinishedHalf). record { a = run.a; b = f }) b

pub returns-clause-opens : goal.returns-clause-opens
returns-clause-opens c =
    let inv = c.loop.invariant in
    let n : c.loop.counter ≡ frame_count c.args.a.net = omega (arith, inv.end, c.loop-test.false, c.loop.auto.counter-end) in
    let a = c.finish.ensures ∙ ended_a c.args.a c.args.b c.loop.counter c.next-done.follows.lender-at-none c.requires c.frames-end.ensures.fits c.frames-end.ensures.circuit n (c.next-done.follows.holds-at-none ∙ ap after_next inv.a) in
    let b = c.finish-2.ensures ∙ ended_b c.args.a c.args.b c.loop.counter c.next-done-2.follows.lender-at-none c.requires c.frames-end.ensures.fits c.frames-end.ensures.circuit n (c.next-done-2.follows.holds-at-none ∙ ap after_next inv.b) in
    let run = run_of c.args.a c.args.b in
    ap (λ (f : FinishedHalf). xor_lists f.outputs c.finish-2.result.outputs) a
    ∙ ap (λ (f : FinishedHalf). xor_lists run.a.outputs f.outputs) b
    ∙ shares_open c.args.a c.args.b c.requires c.frames-end.ensures.fits c.frames-end.ensures.circuit

pub receive-requires-clause-few : goal.receive-requires-clause-few
receive-requires-clause-few c =
    let words = c.as_slice.ensures.value ∙ c.in_ok-send-2.ensures.frame ∙ ap next_frame c.loop.invariant.b in
    omega (arith, ap length words, frame_few (state_b c.args.a c.args.b c.loop.counter) c.frames-end.ensures.circuit)

pub receive-requires-in-loop-clause-few : goal.receive-requires-in-loop-clause-few
receive-requires-in-loop-clause-few c =
    let words = c.as_slice-in-loop.ensures.value ∙ c.in_ok-send.ensures.frame ∙ ap next_frame c.loop.invariant.a in
    omega (arith, ap length words, frame_few (state_a c.args.a c.args.b c.loop.counter) c.frames-end.ensures.circuit)
