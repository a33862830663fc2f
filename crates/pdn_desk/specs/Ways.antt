-- How the desk may go along the course of a request.
use Rattle.std.specs.Prelude.{◌≡◌, ◌⊎◌, ℕ, List, [], ◌∷◌, Option, Result, Ok, Err, MatchResult}
use Rattle.pdn_base.specs.declared.status.Status.{Status}
use Rattle.pdn_base.specs.declared.status.Status.TheVariants as status
use Rattle.pdn_base.specs.declared.status.Who.{Who}
use Rattle.pdn_base.specs.declared.status.Who.TheVariants.{Desk}
use Rattle.pdn_base.specs.declared.memory.Memory.{Memory}
use Rattle.pdn_sql.specs.declared.query.Query.{Query}
use Rattle.pdn_sql.specs.Reading.{IsFault}
use Rattle.pdn_sql.specs.Reading.{Says as SaysQueries}
use Rattle.pdn_keeper.specs.declared.site_keeper.KeepErr.{KeepErr}
use Rattle.pdn_keeper.specs.declared.site_keeper.KeepErr.TheVariants as unkept
use Rattle.pdn_desk_keeper.specs.Desks as desks
use Rattle.pdn_desk_keeper.specs.Desks.{KeptText, IsAnswer}
use Rattle.pdn_query.specs.Questions.{Told, OnlyDesk}
use Rattle.pdn_script.specs.Stops.{stop_of, IsRefusal}
use Rattle.pdn_script.specs.declared.stop.Stop.{Stop}
use Rattle.pdn_query.specs.Script.{Script, Finish, Refuse}
use Rattle.pdn_query.specs.Walk.{Goes, End as Stopped, Refused, NoMemory as OutOfMemory}
use Rattle.pdn_query.specs.World.{WorldModel, RoseIn, NotFallen}
use Rattle.pdn_desk.specs.Calls.{with_kept}
use Rattle.pdn_desk.specs.Courses.{Course, Reply, Find, Count, Read, Answer, Keep}
use Rattle.pdn_desk.specs.Replies.{ReplyBytes, reply, desk_failure, refusing, unsaid}

-- how a course comes to its end
pub data End : Type 0 where
  Replied : ReplyBytes → End
  NoMemory : End

-- a reply is made, unless memory runs out
abbrev pub Makes : ReplyBytes → End → Type 0
Makes made end = (end ≡ Replied made) ⊎ (end ≡ NoMemory)

-- ---- a query's script, which goes on with what is said of the query

-- gone to what is said: the script is made to end with it
abbrev pub Says : (Who → Type 0) → Told → ((List ℕ → Script) → Script) → List ℕ → Told → Type 0
Says rose told script body now = (out : List ℕ) × Goes rose told (script (λ said. Refuse status.Done said)) out (Refused status.Done body) now

-- gone to a refusal of the query
abbrev pub IsRefused : (Who → Type 0) → Told → ((List ℕ → Script) → Script) → Status → List ℕ → Told → Type 0
IsRefused rose told script refused line now = (out : List ℕ) × Goes rose told (script (λ said. Finish)) out (Refused refused line) now

-- memory ran out on the way
abbrev pub StopsShort : (Who → Type 0) → Told → ((List ℕ → Script) → Script) → Told → Type 0
StopsShort rose told script now = (out : List ℕ) × Goes rose told (script (λ said. Finish)) out OutOfMemory now

-- ---- a course

-- Gone along a course to this end, where the objects hold this. Memory may run out anywhere before a call was kept: the reply to a
-- call that is kept, and to one that isn't since the keeper failed, is made before.
abbrev pub Comes : (Who → Type 0) → Told → Course → End → Told → Type 0
Comes rose told (Reply status body) end now = (now ≡ told) × Makes (reply status body) end
Comes rose told (Find call next) end now = ((now ≡ told) × (end ≡ NoMemory)) ⊎ ((now ≡ told) × rose Desk × Makes desk_failure end)
    ⊎ ((found : Option KeptText) × IsAnswer told.desk (desks.Find call.caller call.number (Ok found)) × Comes rose told (next found) end now)
Comes rose told (Count caller next) end now = ((now ≡ told) × (end ≡ NoMemory)) ⊎ ((now ≡ told) × rose Desk × Makes desk_failure end)
    ⊎ ((count : ℕ) × IsAnswer told.desk (desks.Count caller (Ok count)) × Comes rose told (next count) end now)
Comes rose told (Read text next) end now = ((now ≡ told) × (end ≡ NoMemory)) ⊎ ((place : ℕ) × (kind : ℕ) × (now ≡ told) × IsFault 1 text place kind × Makes (unsaid place kind) end)
    ⊎ ((query : Query) × SaysQueries 1 text (query ∷ []) × Comes rose told (next query) end now)
Comes rose told (Answer script next) end now = (StopsShort rose told script now × (end ≡ NoMemory))
    ⊎ ((refused : Status) × (line : List ℕ) × IsRefused rose told script refused line now × Makes (refusing refused line) end)
    ⊎ ((body : List ℕ) × (mid : Told) × Says rose told script body mid × Comes rose mid (next body) end now)
Comes rose told (Keep call kept) end now = ((now ≡ told) × (end ≡ NoMemory))
    ⊎ (((now ≡ told) ⊎ (now ≡ with_kept told call kept)) × rose Desk × (end ≡ Replied desk_failure))
    ⊎ ((now ≡ with_kept told call kept) × (end ≡ Replied (reply 200 kept.body)))

-- the same from a world to a later one
pub record Came (old new : WorldModel) (course : Course) (end : End) : Type 0 where
  pub comes : Comes (RoseIn old.counts new.counts) old.told course end new.told
  pub only : OnlyDesk old.told new.told
  pub later : NotFallen old.counts new.counts

-- ---- what the code's results stand for

abbrev pub end_of : Result ReplyBytes Memory → End
end_of (Ok made) = Replied made
end_of (Err short) = NoMemory

-- an error of the desk's keeper comes to this
abbrev pub Fails : KeepErr → End → Type 0
Fails unkept.Failed end = Makes desk_failure end
Fails unkept.Memory end = end ≡ NoMemory

-- The stop of a query comes to this. Of a query no text is put.
abbrev pub StopMakes : Stopped → End → Type 0
StopMakes (Refused refused line) end = Makes (refusing refused line) end
StopMakes other end = end ≡ NoMemory

-- a text says no query, or memory ran out
abbrev pub IsUnsaid : List ℕ → Stop → Type 0
IsUnsaid text stop = ((place : ℕ) × (kind : ℕ) × IsFault 1 text place kind × IsRefusal [] [] (status.Sql place kind) stop) ⊎ (stop_of stop ≡ OutOfMemory)

-- what goes on along the rest of a course, from the later world, goes along the whole
abbrev pub On : WorldModel → WorldModel → Course → Course → Type 0
On old mid whole rest = (new : WorldModel) (end : End) → Came mid new rest end → Came old new whole end

-- gone to what is left after a result, or to the end that the code's stop makes
abbrev pub CameBy : {T : Type 0} → WorldModel → WorldModel → Course → (T → Course) → Result T Stop → Type 0
CameBy old new whole rest result =
    MatchResult result (λ value. On old new whole (rest value)) (λ stop. (end : End) → StopMakes (stop_of stop) end → Came old new whole end)
