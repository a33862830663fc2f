-- Going along a script from world to world.
use Rattle.std.proofs.Common.{◌≡◌, ℕ, ◌++◌, List, [], refl, sym, subst, Some, Result, Ok, Err, inl, inr, ◌∙◌, arith, take, append_assoc}
use Rattle.std.specs.Io.KnownBytes.{Appends}
use Rattle.pdn_base.specs.Texts.{refusal}
use Rattle.pdn_base.specs.declared.status.Status.{Status}
use Rattle.pdn_base.specs.declared.status.Status.TheVariants as status
use Rattle.pdn_base.specs.declared.status.Who.{Who}
use Rattle.pdn_base.specs.declared.status.Who.TheVariants.{Files, SiteA, SiteB, Desk, Sink}
use Rattle.pdn_script.specs.Stops.{IsRefusal, stop_of, end_of}
use Rattle.pdn_script.specs.declared.stop.Stop.{Stop}
use Rattle.pdn_script.proofs.Going.{refused_by, appends_nothing, appends_both, goes_within, out_of_memory, concluded}
use Rattle.pdn_query.specs.Questions.{Question, Reply, Told, Gives, after, asked_of, OnlyDesk, questions}
use Rattle.pdn_query.specs.Script.{Script, Finish, Refuse, Say, Ask}
use Rattle.pdn_query.specs.Walk.{Goes, End, Finished, NoMemory, PutFailed, fault, Closes, Wrote, Along, Leads, Came, Answered}
use Rattle.pdn_query.specs.World.{WorldModel, Counts, RoseIn, NotFallen, Beside, Replied, Faulted, Short, Put, Cut}

-- ---- counts

pub steady : (counts : Counts) → NotFallen counts counts
steady counts = record { files = omega arith; a = omega arith; b = omega arith; desk = omega arith; sink = omega arith }

pub not_fallen : (before mid now : Counts) → NotFallen before mid → NotFallen mid now → NotFallen before now
not_fallen before mid now f s = record { files = omega (arith, f.files, s.files); a = omega (arith, f.a, s.a); b = omega (arith, f.b, s.b); desk = omega (arith, f.desk, s.desk); sink = omega (arith, f.sink, s.sink) }

-- a count that rose within rose in the whole
pub rose_within : (before from to now : Counts) (who : Who) → NotFallen before from → NotFallen to now → RoseIn from to who → RoseIn before now who
rose_within before from to now Files f s r = omega (arith, f.files, s.files, r)
rose_within before from to now Sink f s r = omega (arith, f.sink, s.sink, r)
rose_within before from to now SiteA f s r = omega (arith, f.a, s.a, r)
rose_within before from to now SiteB f s r = omega (arith, f.b, s.b, r)
rose_within before from to now Desk f s r = omega (arith, f.desk, s.desk, r)

-- ---- one way after the other

module _ {a b c : WorldModel} {whole mid : Script} where
  pub leads_on : {rest : Script} → Leads a b whole mid → Leads b c mid rest → Leads a c whole rest
  leads_on {rest} l m = record {
    front = l.front ++ m.front;
    put = appends_both a.written b.written c.written l.front m.front l.put m.put;
    later = not_fallen a.counts b.counts c.counts l.later m.later;
    on = λ before now out end last w. rw (append_assoc l.front m.front out) (l.on before now (m.front ++ out) end last (m.on before now out end last w));
  }

  pub leads_along : {end : End} → Leads a b whole mid → Along b c mid end → Along a c whole end
  leads_along {end} l w = record {
    out = l.front ++ w.out;
    put = appends_both a.written b.written c.written l.front w.out l.put w.put;
    later = not_fallen a.counts b.counts c.counts l.later w.later;
    goes = l.on a.counts c.counts w.out end c.told (goes_within questions (RoseIn b.counts c.counts) (RoseIn a.counts c.counts)
        (λ who r. rose_within a.counts b.counts c.counts c.counts who l.later (steady c.counts) r) b.told mid w.out end c.told w.goes);
  }

pub begun : (a : WorldModel) (script : Script) → Leads a a script script
begun a script = record { front = []; put = appends_nothing a.written; later = steady a.counts; on = λ before now out end last w. w }

-- all of a script is done
pub finished : {a b : WorldModel} {whole : Script} → Leads a b whole Finish → Along a b whole Finished
finished {a} {b} {whole} l = leads_along l (record { out = []; put = appends_nothing b.written; later = steady b.counts; goes = (refl, refl, inl refl) })

module _ {T : Type 0} {a b : WorldModel} {whole : Script} where
  pub came_on : {mid : Script} (c : WorldModel) (rest : T → Script) (result : Result T Stop) → Leads a b whole mid → Came b c mid rest result → Came a c whole rest result
  came_on c rest (Ok value) l came = leads_on l came
  came_on c rest (Err stop) l came = leads_along l came

  -- what follows of a value is what follows of its equal
  pub leads_same : (next : T → Script) (value means : T) → value ≡ means → Leads a b whole (next means) → Leads a b whole (next value)
  leads_same next value means e l = subst (λ (v : T). Leads a b whole (next v)) (sym e) l

  -- the last text of a script is put
  pub came_end : (text : List ℕ) (result : Result T Stop) → Came a b (Say text Finish) (λ _. Finish) result → whole ≡ Say text Finish → Along a b whole (end_of result)
  came_end text (Ok value) came is = rw (is) (finished came)
  came_end text (Err stop) came is = rw (is) came

-- an end, and what was put behind it
pub answered : (a b c : WorldModel) (script : Script) (end : End) (result : Status) → Along a b script end → c.told ≡ b.told → NotFallen b.counts c.counts →
    Wrote b.written c.written (λ text. Closes (λ _. RoseIn b.counts c.counts Sink) end text result) → Answered a c script result
answered a b c script end result w same later closes = rw (same) (concluded questions (RoseIn a.counts b.counts) (λ _. RoseIn b.counts c.counts Sink) (RoseIn a.counts c.counts) a.told script a.written b.written c.written end result b.told
    (λ who r. rose_within a.counts a.counts b.counts c.counts who (steady a.counts) later r)
    (λ r. rose_within a.counts b.counts c.counts c.counts Sink w.later (steady c.counts) r) (w.out, w.put, w.goes) closes)

-- ---- one step

quiet : {old new : WorldModel} → Beside old new → Appends old.written new.written []
quiet {old} {new} b = rw (b.written) (appends_nothing old.written)

module _ {old new : WorldModel} where
  -- memory ran out
  pub spent : (script : Script) (end : End) → end ≡ NoMemory → Short old new → Along old new script end
  spent script end is s = record {
    out = [];
    put = quiet s.beside;
    later = s.beside.later;
    goes = rw (is, s.left) (out_of_memory questions (RoseIn old.counts new.counts) old.told script);
  }

  module _ {question : Question} (next : Reply question → Script) where
    pub replied : {reply : Reply question} → Replied old new question reply → Leads old new (Ask question next) (next reply)
    replied {reply} r = record {
      front = [];
      put = quiet r.beside;
      later = r.beside.later;
      on = λ before now out end last w. inr (inr (reply, r.gives, subst (λ (told : Told). Goes (RoseIn before now) told (next reply) out end last) r.left w));
    }

    -- the object that was asked failed
    pub faulted : (who : Who) (end : End) → asked_of question ≡ Some who → end ≡ fault who → Faulted old new question → Along old new (Ask question next) end
    faulted who end asked is f = record {
      out = [];
      put = quiet f.beside;
      later = f.beside.later;
      goes = inr (inl (refl, f.left, record { who = who; asked = asked; rise = f.rise who asked; ends = is }));
    }

    -- the same, where the refusal was made afterwards
    pub faulted_by : (who : Who) (stop : Stop) → asked_of question ≡ Some who → new.told ≡ old.told → IsRefusal [] [] (status.Unavailable who) stop → Faulted old new question →
        Along old new (Ask question next) (stop_of stop)
    faulted_by who stop asked same (inl is) f = faulted who (stop_of stop) asked is f
    faulted_by who stop asked same (inr short) f = spent (Ask question next) (stop_of stop) short (record { left = same; beside = f.beside })

  -- a text is put
  module _ {text : List ℕ} (rest : Script) where
    pub said : Put old new text → Leads old new (Say text rest) rest
    said p = record {
      front = text;
      put = p.appends;
      later = p.later;
      on = λ before now out end last w. inr (inr (out, refl, subst (λ (told : Told). Goes (RoseIn before now) told rest out end last) p.told w));
    }

    pub cut : Cut old new text → Along old new (Say text rest) PutFailed
    cut p = record { out = take p.front.0 text; put = p.front.1; later = p.later; goes = inr (inl (p.front.0, refl, p.told, p.rise, refl)) }

-- ---- where no object is asked

module _ (w : WorldModel) where
  idle : Beside w w
  idle = record { written = refl; later = steady w.counts }

  pub halted : (script : Script) (end : End) → end ≡ NoMemory → Along w w script end
  halted script end is = spent script end is (record { left = refl; beside = idle })

  pub known : (question : Question) (next : Reply question → Script) (reply : Reply question) → w.told ≡ after w.told question reply → Gives w.told question reply → Leads w w (Ask question next) (next reply)
  known question next reply left gives = replied next (record { gives = gives; left = left; beside = idle })

  pub refused : (table column : List ℕ) (status : Status) (stop : Stop) → IsRefusal table column status stop → Along w w (Refuse status (refusal table column status)) (stop_of stop)
  refused table column status stop is = record {
    out = [];
    put = appends_nothing w.written;
    later = steady w.counts;
    goes = refused_by questions (RoseIn w.counts w.counts) w.told table column status _ stop is refl;
  }

-- ---- what may have changed

-- only the desk, over two steps
pub only_both : (old mid new : Told) → OnlyDesk old mid → OnlyDesk mid new → OnlyDesk old new
only_both old mid new (files, a, b) (files_on, a_on, b_on) = (files_on ∙ files, a_on ∙ a, b_on ∙ b)

-- nothing, and so only the desk
pub only_same : (old new : Told) → new ≡ old → OnlyDesk old new
only_same old new e = rw (e) (refl, refl, refl)
