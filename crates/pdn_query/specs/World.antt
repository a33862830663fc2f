-- The objects outside a command as one value: what they tell, what the sink has taken, how often each has failed; and what a call of one leaves.
use Rattle.std.specs.Prelude.{◌≡◌, ◌≤◌, ℕ, List, Option, None, Some}
use Rattle.std.specs.Io.KnownBytes.{Appends}
use Rattle.pdn_base.specs.Outside.{Rose, AppendsFront}
use Rattle.pdn_base.specs.declared.files.FileErr.{FileErr}
use Rattle.pdn_base.specs.declared.files.FileErr.TheVariants as unread
use Rattle.pdn_base.specs.declared.site.Site.{Site}
use Rattle.pdn_base.specs.declared.status.Who.{Who}
use Rattle.pdn_base.specs.declared.status.Who.TheVariants.{Files, SiteA, SiteB, Desk, Sink}
use Rattle.pdn_base.specs.declared.value.Value.{Value}
use Rattle.pdn_schema.specs.Models.{TableModel}
use Rattle.pdn_keeper.specs.declared.site_keeper.KeepErr.{KeepErr}
use Rattle.pdn_keeper.specs.declared.site_keeper.KeepErr.TheVariants as unkept
use Rattle.pdn_keeper.specs.declared.site_keeper.Added.{Added}
use Rattle.pdn_keeper.specs.declared.site_keeper.Added.TheVariants as added
use Rattle.pdn_keeper.specs.declared.site_keeper.AddErr.{AddErr}
use Rattle.pdn_keeper.specs.declared.site_keeper.AddErr.TheVariants as unadded
use Rattle.pdn_query.specs.Questions.{Question, File, Kept, Batch, Ticket, Reply, Answer, New, Again, Differs, OverRows, OverPer, Told, asked_of, Gives, after, AfterFault}

-- how often each object has failed
pub record Counts : Type 0 where
  pub files : ℕ
  pub a : ℕ
  pub b : ℕ
  pub desk : ℕ
  pub sink : ℕ

-- the objects whose count rose between
abbrev pub RoseIn : Counts → Counts → Who → Type 0
RoseIn before now Files = Rose before.files now.files
RoseIn before now Sink = Rose before.sink now.sink
RoseIn before now SiteA = Rose before.a now.a
RoseIn before now SiteB = Rose before.b now.b
RoseIn before now Desk = Rose before.desk now.desk

-- no count fell between
pub record NotFallen (before now : Counts) : Type 0 where
  pub files : before.files ≤ now.files
  pub a : before.a ≤ now.a
  pub b : before.b ≤ now.b
  pub desk : before.desk ≤ now.desk
  pub sink : before.sink ≤ now.sink

pub record WorldModel : Type 0 where
  pub told : Told
  pub written : Option (List ℕ)
  pub counts : Counts

-- ---- what a call leaves

-- the sink has taken nothing, and no count fell
pub record Beside (old new : WorldModel) : Type 0 where
  pub written : new.written ≡ old.written
  pub later : NotFallen old.counts new.counts

-- the object that was asked gave this true reply
pub record Replied (old new : WorldModel) (question : Question) (reply : Reply question) : Type 0 where
  pub gives : Gives old.told question reply
  pub left : new.told ≡ after old.told question reply
  pub beside : Beside old new

-- it failed
pub record Faulted (old new : WorldModel) (question : Question) : Type 0 where
  pub rise : (who : Who) → asked_of question ≡ Some who → RoseIn old.counts new.counts who
  pub left : AfterFault old.told question new.told
  pub beside : Beside old new

-- memory ran out
pub record Short (old new : WorldModel) : Type 0 where
  pub left : new.told ≡ old.told
  pub beside : Beside old new

abbrev pub NotRead : WorldModel → WorldModel → List ℕ → FileErr → Type 0
NotRead old new name unread.Absent = Replied old new (File name) None
NotRead old new name unread.Failed = Faulted old new (File name)
NotRead old new name unread.Memory = Short old new

abbrev pub NotKept : WorldModel → WorldModel → Site → List ℕ → KeepErr → Type 0
NotKept old new site name unkept.Failed = Faulted old new (Kept site name)
NotKept old new site name unkept.Memory = Short old new

abbrev pub NotGiven : WorldModel → WorldModel → KeepErr → Type 0
NotGiven old new unkept.Failed = Faulted old new Ticket
NotGiven old new unkept.Memory = Short old new

abbrev pub answer_of : Added → Answer
answer_of added.New = New
answer_of added.Again = Again

abbrev pub NotAdded : WorldModel → WorldModel → Site → TableModel → ℕ → List (List Value) → AddErr → Type 0
NotAdded old new site t number rows (unadded.Differs at kept) = Replied old new (Batch site t number rows) (Differs at)
NotAdded old new site t number rows (unadded.OverRows kept) = Replied old new (Batch site t number rows) OverRows
NotAdded old new site t number rows (unadded.OverPer column v kept) = Replied old new (Batch site t number rows) (OverPer column)
NotAdded old new site t number rows unadded.Failed = Faulted old new (Batch site t number rows)
NotAdded old new site t number rows unadded.Memory = Short old new

-- the sink took these bytes, or failed and took a front of them
pub record Put (old new : WorldModel) (bytes : List ℕ) : Type 0 where
  pub appends : Appends old.written new.written bytes
  pub told : new.told ≡ old.told
  pub later : NotFallen old.counts new.counts

pub record Cut (old new : WorldModel) (bytes : List ℕ) : Type 0 where
  pub front : AppendsFront old.written new.written bytes
  pub rise : RoseIn old.counts new.counts Sink
  pub told : new.told ≡ old.told
  pub later : NotFallen old.counts new.counts
