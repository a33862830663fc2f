use Rattle.std.proofs.Common.{◌≡◌, length, ◌∷◌, []}
use Rattle.pdn_sql.specs.Part.{many, with_front}
use Rattle.pdn_sql.specs.Grammar.{join}
use Rattle.pdn_sql.proofs.reader.Reader.more_sources.Given as goal

abbrev pub invariant-loop-alloc : goal.invariant-loop-alloc
invariant-loop-alloc l = with_front l.sources ((many join).read l.self) ≡ with_front (l.fn.first ∷ []) ((many join).read l.fn.self)

abbrev pub decreases-loop-alloc : goal.decreases-loop-alloc
decreases-loop-alloc l = length l.self
