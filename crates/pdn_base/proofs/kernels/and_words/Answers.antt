use Rattle.std.proofs.Common.{rules, ◌≡◌, length, arith, length-set, refl}
use Rattle.std.proofs.lemmas.Simd.{length-put_chunk}
use Rattle.pdn_base.specs.Words.{◌⊗◌}
use Rattle.pdn_base.proofs.LaneLists.{chunk_stands, place_stands, all_stand, and_lists-is}
use Rattle.pdn_base.proofs.kernels.and_words.Goals as goal

pub loop-i-preserved : goal.loop-i-preserved
loop-i-preserved c =
    let a = c.args.a.now in
    let b = c.args.b.now in
    let inv = c.loop-i.invariant in
    let t = c.loop-i-test.true in
    let q = c.requires in
    let as_zip = and_lists-is a b in
    let stored = c.store.ensures in
    let long : length c.store.new.out ≡ length c.loop-i.out = rw stored (length-put_chunk c.loop-i.i c.loop-i.out _) in
    let done = chunk_stands ◌⊗◌ c.loop-i.out a b c.loop-i.i (omega arith) (omega arith) _ (omega arith)
    (rw (c.load.ensures, c.load-in-loop-i.ensures) refl) (rw as_zip at inv.done) in
    record { long = omega arith; within = omega arith; done = rw (stored, as_zip) done }

pub loop-i-2-preserved : goal.loop-i-2-preserved
loop-i-2-preserved c =
    let a = c.args.a.now in
    let b = c.args.b.now in
    let inv = c.loop-i-2.invariant in
    let t = c.loop-i-2-test.true in
    let q = c.requires in
    let as_zip = and_lists-is a b in
    let long = length-set c.loop-i-2.out c.loop-i-2.i c.and.result in
    record {
      long = omega arith;
      within = omega arith;
      done = rw as_zip (place_stands ◌⊗◌ c.loop-i-2.out a b c.loop-i-2.i (omega arith) (omega arith) _ c.index-a-i.result c.index-b-i.result 0 (omega arith)
          (search rules) (rw as_zip at inv.done));
    }

pub returns : goal.returns
returns c =
    let a = c.args.a.now in
    let b = c.args.b.now in
    let inv = c.loop-i-2.invariant in
    let t = c.loop-i-2-test.false in
    let q = c.requires in
    let as_zip = and_lists-is a b in
    rw as_zip (all_stand ◌⊗◌ c.loop-i-2.out a b c.loop-i-2.i (omega arith) (omega arith) (omega arith) (rw as_zip at inv.done))
