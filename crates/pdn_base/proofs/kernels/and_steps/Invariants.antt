use Rattle.std.proofs.Common.{length, ◌+◌, ◌-◌, ◌≡◌, ◌≤◌, take}
use Rattle.pdn_base.specs.Words.{and_steps}
use Rattle.pdn_base.proofs.kernels.and_steps.Given as goal

abbrev pub invariant-loop-i : goal.invariant-loop-i
invariant-loop-i l = record {
  long : length l.out ≡ length l.fn.out;
  within : l.i ≤ length l.out;
  done : take l.i l.out ≡ take l.i (and_steps l.site l.c l.a l.b l.d l.e);
}

abbrev pub decreases-loop-i : goal.decreases-loop-i
decreases-loop-i l = length l.initial.out + 1 - l.i

abbrev pub invariant-loop-i-2 : goal.invariant-loop-i-2
invariant-loop-i-2 l = record {
  long : length l.out ≡ length l.fn.out;
  within : l.i ≤ length l.out;
  done : take l.i l.out ≡ take l.i (and_steps l.site l.c l.a l.b l.d l.e);
}

abbrev pub decreases-loop-i-2 : goal.decreases-loop-i-2
decreases-loop-i-2 l = length l.initial.out - l.i
