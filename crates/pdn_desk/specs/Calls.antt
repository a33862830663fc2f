-- A call of the desk's keeper, among the objects outside.
use Rattle.std.specs.Prelude.{ℕ, ◌-◌, ◌^◌, nat_lt, Bool, List, length}
use Rattle.pdn_base.specs.declared.status.Who.TheVariants.{Desk}
use Rattle.pdn_http.specs.declared.call.Call.{Call}
use Rattle.pdn_desk_keeper.specs.Desks.{KeptText, Step, IsAnswer, Stands, kept_call, with_call}
use Rattle.pdn_query.specs.Questions.{Told, OnlyDesk, with_desk}
use Rattle.pdn_query.specs.World.{WorldModel, RoseIn, Beside}

-- Its answer is true, what the keeper holds stands so, and no other object changed. Where it failed, the keeper's count rose.
pub record Called (old new : WorldModel) (step : Step) (failed : Type 0) : Type 0 where
  pub answer : IsAnswer old.told.desk step
  pub stands : Stands old.told.desk new.told.desk step
  pub only : OnlyDesk old.told new.told
  pub beside : Beside old new
  pub cause : failed → RoseIn old.counts new.counts Desk

-- the length of a list is a number of 32 bits
abbrev pub is_short : List ℕ → Bool
is_short bytes = nat_lt (length bytes) (2 ^ 32 - 1)

-- this is kept for the call
abbrev pub with_kept : Told → Call → KeptText → Told
with_kept told call kept = with_desk told (with_call (kept_call call.caller call.number kept) told.desk)
