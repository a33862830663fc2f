-- What a command may ask, and what becomes of it.
use Rattle.std.specs.Prelude.{Option}
use Rattle.pdn_base.specs.declared.status.Who.{Who}

-- The five definitions of a type of question. Told is what the objects outside hold, each where it tells that.
pub record Rules (Question : Type 0) (Told : Type 0) : Type 1 where
  -- what may be replied
  pub Reply : Question → Type 0
  -- which object is asked; none, where the reply is true by definitions alone
  pub asked_of : Question → Option Who
  -- the reply is true, as far as the objects tell
  pub Gives : Told → (question : Question) → Reply question → Type 0
  -- what the objects hold after a reply
  pub after : Told → (question : Question) → Reply question → Told
  -- what they may hold where the object that was asked failed
  pub AfterFault : Told → Question → Told → Type 0
