-- What a command should do: what it asks, what it makes of each reply, what it says.
use Rattle.std.specs.Prelude.{ℕ, List, []}
use Rattle.pdn_base.specs.Texts.{refusal}
use Rattle.pdn_base.specs.declared.status.Status.{Status}

pub data Script (Question : Type 0) (Reply : Question → Type 0) : Type 0 where
  Finish : Script Question Reply
  Refuse : Status → List ℕ → Script Question Reply  -- ends with this status and this line
  Say : List ℕ → Script Question Reply → Script Question Reply  -- a text is put, in one put
  Ask : (question : Question) → (Reply question → Script Question Reply) → Script Question Reply  -- goes on with the reply

-- a refusal that speaks of no table
abbrev pub refuse : {Question : Type 0} → {Reply : Question → Type 0} → Status → Script Question Reply
refuse status = Refuse status (refusal [] [] status)
