-- The rows of a site that keeps one batch.
use Rattle.std.proofs.Common.{ℕ, Bool, true, false, List, [], ◌∷◌, ◌++◌, sym, subst, arith}
use Rattle.std.proofs.lemmas.List.{append-nil}
use Rattle.std.specs.Prelude.{if◌then◌else◌}
use Rattle.std.specs.Str.{bytes_eq}
use Rattle.pdn_base.specs.declared.value.Value.{Value}
use Rattle.pdn_base.specs.Bounds.{IsShort}
use Rattle.pdn_keeper.specs.Batches.{BatchHeld, kept_rows}

short_if : (b : Bool) (rows : List (List Value)) → IsShort rows → IsShort (if b then rows ++ [] else [])
short_if true rows few = subst (λ (all : List (List Value)). IsShort all) (sym (append-nil rows)) few
short_if false rows few = omega arith

pub one_short : (batch : BatchHeld) → IsShort batch.rows → (name : List ℕ) → IsShort (kept_rows name (batch ∷ []))
one_short batch few name = short_if (bytes_eq batch.table name) batch.rows few
