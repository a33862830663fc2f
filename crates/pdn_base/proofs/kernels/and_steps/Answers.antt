use Rattle.std.proofs.Common.{rules, ◌≡◌, length, take, drop, arith, ap, sym, ◌∙◌, length-set, get_or}
use Rattle.std.proofs.lemmas.Simd.{length-put_chunk, length-chunk}
use Rattle.pdn_base.specs.Lanes.{lanes_step}
use Rattle.pdn_base.proofs.LaneLists.{next_chunk, next_place, take_all}
use Rattle.pdn_base.proofs.StepLaws.{and_steps-is, length-lanes_step, chunk-lanes_step, at-lanes_step}
use Rattle.pdn_base.proofs.kernels.and_steps.Goals as goal

pub loop-i-preserved : goal.loop-i-preserved
loop-i-preserved c =
    let site = c.args.site in
    let z = c.args.c.now in
    let a = c.args.masks.0.now in
    let b = c.args.masks.1.now in
    let d = c.args.opened.0.now in
    let e = c.args.opened.1.now in
    let n = length c.args.out.now in
    let q = c.requires in
    let inv = c.loop-i.invariant in
    let t = c.loop-i-test.true in
    let i = c.loop-i.i in
    let as_lanes = and_steps-is site z a b d e in
    let chunk = chunk-lanes_step z a b d e n q.c q.a q.b q.d q.e site i in
    let lanes : c.lanes_step-lanes.result ≡ take 4 (drop i (lanes_step site z a b d e)) =
    c.lanes_step-lanes.ensures
    ∙ rw (c.load.ensures, c.load-in-loop-i.ensures, c.load-in-loop-i-2.ensures, c.load-in-loop-i-3.ensures, c.load-in-loop-i-4.ensures) (sym chunk) in
    let stored = c.store.ensures in
    let long : length c.store.new.out ≡ length c.loop-i.out = rw stored (length-put_chunk i c.loop-i.out _) in
    let done = next_chunk i c.loop-i.out c.lanes_step-lanes.result (lanes_step site z a b d e) (omega arith)
    (ap (λ l. length l) lanes ∙ length-chunk i 4 (lanes_step site z a b d e) (omega (arith, t, inv.long, length-lanes_step z a b d e n q.c q.a q.b q.d q.e site)))
    (rw as_lanes at inv.done) lanes in
    record { long = omega arith; within = omega arith; done = rw (stored, as_lanes) done }

pub loop-i-2-preserved : goal.loop-i-2-preserved
loop-i-2-preserved c =
    let site = c.args.site in
    let z = c.args.c.now in
    let a = c.args.masks.0.now in
    let b = c.args.masks.1.now in
    let d = c.args.opened.0.now in
    let e = c.args.opened.1.now in
    let n = length c.args.out.now in
    let q = c.requires in
    let inv = c.loop-i-2.invariant in
    let t = c.loop-i-2-test.true in
    let i = c.loop-i-2.i in
    let as_lanes = and_steps-is site z a b d e in
    let m = length-lanes_step z a b d e n q.c q.a q.b q.d q.e site in
    let long = length-set c.loop-i-2.out i c.and_step.result in
    let at = at-lanes_step z a b d e n q.c q.a q.b q.d q.e i (omega (arith, inv.long, t))
    c.index-c-i.result c.index-a-i.result c.index-b-i.result c.index-d-i.result c.index-e-i.result site in
    let is : get_or (lanes_step site z a b d e) i 0 ≡ c.and_step.result =
    at ∙ sym (c.and_step.ensures ∙ search rules) in
    record {
      long = omega arith;
      within = omega arith;
      done = rw as_lanes (next_place c.loop-i-2.out i c.and_step.result 0 (lanes_step site z a b d e) t (omega (arith, m, inv.long))
          (rw as_lanes at inv.done) is);
    }

pub returns : goal.returns
returns c =
    let site = c.args.site in
    let z = c.args.c.now in
    let a = c.args.masks.0.now in
    let b = c.args.masks.1.now in
    let d = c.args.opened.0.now in
    let e = c.args.opened.1.now in
    let q = c.requires in
    let inv = c.loop-i-2.invariant in
    let t = c.loop-i-2-test.false in
    let as_lanes = and_steps-is site z a b d e in
    let m = length-lanes_step z a b d e (length c.args.out.now) q.c q.a q.b q.d q.e site in
    rw as_lanes (sym (take_all c.loop-i-2.out c.loop-i-2.i (omega arith)) ∙ (rw as_lanes at inv.done)
    ∙ take_all (lanes_step site z a b d e) c.loop-i-2.i (omega (arith, m, inv.long, t)))
