use Rattle.std.proofs.Common.{◌≡◌, drop}
use Rattle.pdn_explain.specs.Forms.{meaning}
use Rattle.pdn_explain.proofs.lines.meaning.Given as goal

-- no form before this one fits
abbrev pub invariant-loop-told : goal.invariant-loop-told
invariant-loop-told l = record { rest : meaning (drop l.told-index l.lines) l.line ≡ meaning l.lines l.line }
