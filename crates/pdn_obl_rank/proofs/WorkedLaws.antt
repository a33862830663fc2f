-- Circuits worked out, by computing.
use Rattle.std.proofs.Common.{refl}
use Rattle.pdn_base.specs.Words.{spread, moved}
use Rattle.pdn_circuit.specs.Blocks.{gives, one, ◌>>=◌}
use Rattle.pdn_obl_rows.specs.Lists.{words_for}
use Rattle.pdn_obl_rows.specs.Encoding.{word_of}
use Rattle.pdn_obl_rank.specs.Worked.{WorkedCounts, WorkedRuns}

pub worked_counts : WorkedCounts
unfolding gives one ◌>>=◌ words_for word_of
worked_counts = record { number = refl; top = refl; top_limit = refl }

pub worked_runs : WorkedRuns
unfolding gives one ◌>>=◌ words_for word_of spread moved
worked_runs = record { top = refl; top_places = refl; top_down = refl; number_invalid = refl; top_invalid = refl; number_partition = refl; top_two = refl }
