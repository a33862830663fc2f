-- What the whole text of a script comes to.
use Rattle.std.proofs.Common.{◌≡◌, ℕ, ◌+◌, ◌<◌, ◌^◌, ◌++◌, List, [], ◌∷◌, length, None, Some, Option, Result, Ok, Err, refl, sym, subst}
use Rattle.std.specs.Prelude.{Bool, true, false, codes, nat_lt, if◌then◌else◌}
use Rattle.std.proofs.lemmas.Bool.{ltb-true}
use Rattle.pdn_base.specs.declared.rows_err.RowsErr.{RowsErr}
use Rattle.pdn_base.specs.declared.site.Site.{Site}
use Rattle.pdn_base.specs.declared.status.Status.{Status}
use Rattle.pdn_base.specs.declared.status.Status.TheVariants as status
use Rattle.pdn_base.specs.Operators.{Rows}
use Rattle.pdn_schema.specs.Models.{SchemaModel, TableModel}
use Rattle.pdn_schema.specs.Rows.{IsValid}
use Rattle.pdn_sql.specs.declared.query.Query.{Query}
use Rattle.pdn_tree.specs.declared.node.Node.{Node}
use Rattle.pdn_tree.specs.Plans.{PlanModel}
use Rattle.pdn_level.specs.declared.staged.Leaf.{Leaf}
use Rattle.pdn_site.specs.Models.{UnitModel}
use Rattle.pdn_site.specs.Compiling.{Compiled}
use Rattle.pdn_agree.specs.Spots.{IsSpot}
use Rattle.pdn_desk_keeper.specs.Desks.{DeskHeld}
use Rattle.pdn_query.specs.Answering.{scans, asking_if, asking, or_wrong, judging, or_large, ticketing, KeepsIf, KeepsAll, AllValid}
use Rattle.pdn_query.specs.Comparing.{or_differ}
use Rattle.pdn_query.specs.Each.{each, EachWith}
use Rattle.pdn_query.specs.Questions.{Told, Unbound, Broken, Hidden, IsBound, Holds, IsWrong, kept_at, IsSchemaIn, IsNext, AreRowsIn, after, with_desk, with_taken}
use Rattle.pdn_query.specs.Script.{Script, Finish, Refuse, Say, Ask, refuse, or_fault, or_unbound}
use Rattle.pdn_query.specs.Walk.{Texts}
use Rattle.pdn_commands.specs.Causes.{Inputs}
use Rattle.pdn_commands.specs.Running.{numbered, with_given, AreTexts}
use Rattle.pdn_commands.specs.Script.{found, with_inputs}
use Rattle.pdn_commands.specs.Twinning.{importing_file}
use Rattle.pdn_commands.specs.TwinCauses.{FileGives}
use Rattle.pdn_commands.proofs.Refusing.{given_next, is_given, plus_none, plus_one, none_given, none_before}

pub text_there : (told : Told) (Q : List ℕ → Told → Type 0) (next : ℕ → Script) (ticket : ℕ) (b : Bool) → nat_lt ticket (2 ^ 40) ≡ b → (ticket < 2 ^ 40 → Texts told Q (next ticket)) →
    Texts told Q (if b then next ticket else refuse status.TicketsSpent)
text_there told Q next ticket true e more = more (ltb-true ticket (2 ^ 40) e)
text_there told Q next ticket false e more = tt

module _ (told : Told) where
  pub text_found : (Q : List ℕ → Told → Type 0) (name : List ℕ) (next : List ℕ → Script) (content : Option (List ℕ)) → Holds told.files name content →
      ((bytes : List ℕ) → Holds told.files name (Some bytes) → Texts told Q (next bytes)) → Texts told Q (found name next content)
  text_found Q name next None h more = tt
  text_found Q name next (Some bytes) h more = more bytes h

  pub text_read : {X : Type 0} (Q : List ℕ → Told → Type 0) (fault : ℕ → ℕ → Status) (next : X → Script) (is : Result X (ℕ × ℕ) → Type 0) (read : Result X (ℕ × ℕ)) → is read →
      ((x : X) → is (Ok x) → Texts told Q (next x)) → Texts told Q (or_fault fault next read)
  text_read Q fault next is (Ok x) h more = more x h
  text_read Q fault next is (Err at) h more = tt

  pub text_inputs : (Q : List ℕ → Told → Type 0) (name : List ℕ) (next : SchemaModel → List ℕ → Script) → ((s : SchemaModel) (text : List ℕ) → Inputs told.files name s text → Texts told Q (next s text)) →
      Texts told Q (with_inputs name next)
  text_inputs Q name next more = λ n hn. text_found Q (codes "net.schema") _ n hn (λ net held_net.
      λ x hx. text_found Q name _ x hx (λ text held_text.
      λ read is. text_read Q status.Schema (λ s. next s text) (IsSchemaIn net) read is (λ s says. more s text (record { net = net; net_held = held_net; text_held = held_text; says = says }))))

  pub text_asked_if : (Q : List ℕ → Told → Type 0) (site : Site) (b : Bool) (t : TableModel) (next : Rows → Script) → ((rows : Rows) → KeepsIf b (kept_at told site) t.name rows → Texts told Q (next rows)) → Texts told Q (asking_if b site t next)
  text_asked_if Q site true t next more = more
  text_asked_if Q site false t next more = more [] refl

  pub text_asked : (Q : List ℕ → Told → Type 0) (site : Site) (root : Node) (at : ℕ) (ts : List TableModel) (next : List Rows → Script) → ((tables : List Rows) → KeepsAll (kept_at told site) root at ts tables → Texts told Q (next tables)) →
      Texts told Q (asking site root at ts next)
  text_asked Q site root at [] next more = more [] refl
  text_asked Q site root at (t ∷ ts) next more = text_asked_if Q site (scans at root) t _ (λ rows h. text_asked Q site root (at + 1) ts (λ later. next (rows ∷ later)) (λ later hs. more (rows ∷ later) (h, hs)))

  pub text_right : (Q : List ℕ → Told → Type 0) (site : Site) (at : ℕ) (t : TableModel) (rows : Rows) (next : Script) (wrong : Option RowsErr) → IsWrong t rows wrong →
      (IsValid t rows → Texts told Q next) → Texts told Q (or_wrong site at t next wrong)
  text_right Q site at t rows next None valid more = more valid
  text_right Q site at t rows next (Some wrong) is more = tt

  pub text_judged : (Q : List ℕ → Told → Type 0) (site : Site) (at : ℕ) (ts : List TableModel) (tables : List Rows) (next : Script) → (AllValid ts tables → Texts told Q next) → Texts told Q (judging site at ts tables next)
  text_judged Q site at [] tables next more = more tt
  text_judged Q site at (t ∷ ts) [] next more = more tt
  text_judged Q site at (t ∷ ts) (rows ∷ tables) next more = λ wrong is. text_right Q site at t rows _ wrong is (λ valid. text_judged Q site (at + 1) ts tables next (λ later. more (valid, later)))

  pub text_large : (Q : List ℕ → Told → Type 0) (next : List UnitModel → Script) (compiled : Compiled) → ((units : List UnitModel) → compiled ≡ Ok units → Texts told Q (next units)) → Texts told Q (or_large next compiled)
  text_large Q next (Ok units) more = more units refl
  text_large Q next (Err passed) more = tt

  pub text_given : (Q : List ℕ → Told → Type 0) (next : ℕ → Script) → ((ticket : ℕ) → ticket < 2 ^ 40 → IsNext told.desk ticket → Texts (with_taken told) Q (next ticket)) → Texts told Q (ticketing next)
  text_given Q next more = λ ticket is. text_there (with_taken told) Q next ticket (nat_lt ticket (2 ^ 40)) refl (λ few. more ticket few is)

  pub bound_text : (Q : List ℕ → Told → Type 0) (s : SchemaModel) (query : Query) (next : PlanModel → Script) → ((bound : PlanModel) → IsBound s query (Ok bound) → Texts told Q (next bound)) →
      (reply : Result PlanModel Unbound) → IsBound s query reply → Texts told Q (or_unbound next reply)
  bound_text Q s query next more (Ok bound) binds = more bound binds
  bound_text Q s query next more (Err (Broken kind name)) is = tt
  bound_text Q s query next more (Err (Hidden column label)) is = tt

  -- ---- a step for each
  pub text_each : {X Y : Type 0} (step : X → (Y → Script) → Script) (Is : X → Y → Type 0) (Q : List ℕ → Told → Type 0) →
      ((x : X) (next : Y → Script) → ((y : Y) → Is x y → Texts told Q (next y)) → Texts told Q (step x next)) →
      (xs : List X) (next : List Y → Script) → ((ys : List Y) → EachWith Is xs ys → Texts told Q (next ys)) → Texts told Q (each step xs next)
  text_each step Is Q one [] next more = more [] refl
  text_each {X} {Y} step Is Q one (x ∷ xs) next more = one x (λ y. each step xs (λ ys. next (y ∷ ys))) (λ y is. text_each step Is Q one xs (λ ys. next (y ∷ ys)) (λ ys are. more (y ∷ ys) (is, are)))

  pub text_file : (Q : List ℕ → Told → Type 0) (file : TableModel × Option (List ℕ)) (next : Option Rows → Script) → ((given : Option Rows) → FileGives file given → Texts told Q (next given)) →
      Texts told Q (importing_file file next)
  text_file Q (t, None) next more = more None tt
  text_file Q (t, Some csv) next more = λ read is. text_read Q status.Csv _ (AreRowsIn t csv) read is (λ rows are. more (Some rows) are)

  pub text_compared : (Q : List ℕ → Told → Type 0) (s : SchemaModel) (first second : List Rows) (next : Script) (spot : Option Leaf) → IsSpot s first second spot →
      (IsSpot s first second None → Texts told Q next) → Texts told Q (or_differ s next spot)
  text_compared Q s first second next None is more = more is
  text_compared Q s first second next (Some at) is more = tt

-- what a text that is one thing is besides
pub texts_map : (P Q : List ℕ → Told → Type 0) → ((text : List ℕ) (now : Told) → P text now → Q text now) → (told : Told) (script : Script) → Texts told P script → Texts told Q script
texts_map P Q f told Finish t = f [] told t
texts_map P Q f told (Refuse refused line) t = tt
texts_map P Q f told (Say text rest) t = texts_map (λ more now. P (text ++ more) now) (λ more now. Q (text ++ more) now) (λ more now is. f (text ++ more) now is) told rest t
texts_map P Q f told (Ask question next) t = λ reply gives. texts_map P Q f (after told question reply) (next reply) (t reply gives)

-- ---- queries, one after the other
module _ (told : Told) (Is : ℕ → ℕ → Query → List ℕ → Type 0) (step : ℕ → Query → Script → Script) where
  -- what the text of one query is
  abbrev pub OneSaid : Type 1
  OneSaid = (desk : Option DeskHeld) (Q : List ℕ → Told → Type 0) (number : ℕ) (query : Query) (next : Script) →
      ((ticket : ℕ) (text : List ℕ) → ticket < 2 ^ 40 → IsNext desk ticket → Is number ticket query text → Texts (with_taken (with_desk told desk)) (λ more now. Q (text ++ more) now) next) →
      Texts (with_desk told desk) Q (step number query next)

  numbered_after : OneSaid → (Q : List ℕ → Told → Type 0) (number before : ℕ) (queries : List Query) →
      ((text : List ℕ) → AreTexts Is told.desk number before queries text → Q text (with_desk told (with_given (before + length queries) told.desk))) →
      Texts (with_desk told (with_given before told.desk)) Q (numbered step number queries)
  numbered_after one Q number before [] done = subst (λ (count : ℕ). Q [] (with_desk told (with_given count told.desk))) (plus_none before) (done [] refl)
  numbered_after one Q number before (query ∷ queries) done = one (with_given before told.desk) Q number query (numbered step (number + 1) queries) (λ ticket text few next is.
      subst (λ (desk : Option DeskHeld). Texts (with_desk told desk) (λ more after. Q (text ++ more) after) (numbered step (number + 1) queries)) (sym (given_next told.desk before ticket few next))
      (numbered_after one (λ more after. Q (text ++ more) after) (number + 1) (before + 1) queries (λ more are.
      subst (λ (count : ℕ). Q (text ++ more) (with_desk told (with_given count told.desk))) (sym (plus_one before (length queries)))
      (done (text ++ more) (ticket, text, more, refl, is_given told.desk before ticket few next, is, are)))))

  pub numbered_text : OneSaid → (Q : List ℕ → Told → Type 0) (queries : List Query) →
      ((text : List ℕ) → AreTexts Is told.desk 1 0 queries text → Q text (with_desk told (with_given (length queries) told.desk))) → Texts told Q (numbered step 1 queries)
  numbered_text one Q queries done = subst (λ (desk : Option DeskHeld). Texts (with_desk told desk) Q (numbered step 1 queries)) (none_given told.desk)
      (numbered_after one Q 1 0 queries (λ text are. subst (λ (count : ℕ). Q text (with_desk told (with_given count told.desk))) (none_before (length queries)) (done text are)))
