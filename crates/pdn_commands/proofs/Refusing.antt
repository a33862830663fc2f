-- What holds of each refusal of a script.
use Rattle.std.proofs.Common.{◌≡◌, ℕ, suc, ◌+◌, ◌<◌, ◌≤◌, ◌^◌, ◌++◌, List, [], ◌∷◌, length, take, get_or, arith, None, Some, Option, Result, Ok, Err, inl, inr, ◌⊎◌, refl, sym, subst, ◌∙◌, append_assoc}
use Rattle.std.specs.Prelude.{Bool, true, false, codes, IfSome, nat_lt, if◌then◌else◌}
use Rattle.std.proofs.lemmas.Bool.{ltb-true, ltb-false, lt-ltb}
use Rattle.std.proofs.lemmas.List.{length-append}
use Rattle.std.specs.List.{AllByRecursion}
use Rattle.pdn_base.specs.declared.rows_err.RowsErr.{RowsErr}
use Rattle.pdn_base.specs.declared.site.Site.{Site}
use Rattle.pdn_base.specs.declared.status.Status.{Status}
use Rattle.pdn_base.specs.declared.status.Status.TheVariants as status
use Rattle.pdn_base.specs.Operators.{Rows}
use Rattle.pdn_schema.specs.Models.{SchemaModel, TableModel, no_table}
use Rattle.pdn_schema.specs.Rows.{IsValid, IsRefused}
use Rattle.pdn_sql.specs.declared.query.Query.{Query}
use Rattle.pdn_tree.specs.declared.node.Node.{Node}
use Rattle.pdn_level.specs.declared.staged.Leaf.{Leaf}
use Rattle.pdn_site.specs.Models.{UnitModel}
use Rattle.pdn_site.specs.Compiling.{Compiled}
use Rattle.pdn_agree.specs.Spots.{IsSpot}
use Rattle.pdn_desk_keeper.specs.Desks.{DeskHeld, with_ticket}
use Rattle.pdn_query.specs.Answering.{scans, asking_if, asking, or_wrong, judging, or_large, ticketing, KeepsIf, KeepsAll, AllValid}
use Rattle.pdn_query.specs.Comparing.{or_differ}
use Rattle.pdn_query.specs.Each.{each, EachWith}
use Rattle.pdn_query.specs.Questions.{Told, Holds, IsWrong, kept_at, IsSchemaIn, IsNext, AreRowsIn, after, with_desk, with_taken}
use Rattle.pdn_query.specs.Script.{Script, Finish, Refuse, Say, Ask, refuse, or_fault}
use Rattle.pdn_query.specs.Walk.{Refusals}
use Rattle.pdn_commands.specs.Causes.{Inputs}
use Rattle.pdn_commands.specs.Running.{numbered, with_given, AreLeft, IsGiven}
use Rattle.pdn_commands.specs.Script.{found, with_inputs}
use Rattle.pdn_commands.specs.Twinning.{importing_file}
use Rattle.pdn_commands.specs.TwinCauses.{FileGives, IsBadFile}

-- ---- what holds of each refusal of a command's inputs
module _ (told : Told) (P : Status → Type 0) where
  pub in_found : (name : List ℕ) (next : List ℕ → Script) (content : Option (List ℕ)) → Holds told.files name content → (Holds told.files name None → P (status.NoFile name)) →
      ((bytes : List ℕ) → Holds told.files name (Some bytes) → Refusals told P (next bytes)) → Refusals told P (found name next content)
  in_found name next None h absent more = absent h
  in_found name next (Some bytes) h absent more = more bytes h

  pub in_read : {X : Type 0} (fault : ℕ → ℕ → Status) (next : X → Script) (is : Result X (ℕ × ℕ) → Type 0) (read : Result X (ℕ × ℕ)) → is read → ((at cause : ℕ) → is (Err (at, cause)) → P (fault at cause)) →
      ((x : X) → is (Ok x) → Refusals told P (next x)) → Refusals told P (or_fault fault next read)
  in_read fault next is (Ok x) h faults more = more x h
  in_read fault next is (Err at) h faults more = faults at.0 at.1 h

  pub in_inputs : (name : List ℕ) (next : SchemaModel → List ℕ → Script) → ((file : List ℕ) → (file ≡ codes "net.schema") ⊎ (file ≡ name) → Holds told.files file None → P (status.NoFile file)) →
      ((net text : List ℕ) → Holds told.files (codes "net.schema") (Some net) → Holds told.files name (Some text) → (line cause : ℕ) → IsSchemaIn net (Err (line, cause)) → P (status.Schema line cause)) →
      ((s : SchemaModel) (text : List ℕ) → Inputs told.files name s text → Refusals told P (next s text)) → Refusals told P (with_inputs name next)
  in_inputs name next absent faults more = λ n hn. in_found (codes "net.schema") _ n hn (absent _ (inl refl)) (λ net held_net.
      λ x hx. in_found name _ x hx (absent _ (inr refl)) (λ text held_text.
      λ read is. in_read status.Schema (λ s. next s text) (IsSchemaIn net) read is (faults net text held_net held_text)
      (λ s says. more s text (record { net = net; net_held = held_net; text_held = held_text; says = says }))))

-- ---- the rows of a query's tables
module _ (told : Told) (P : Status → Type 0) where
  pub in_asked_if : (site : Site) (b : Bool) (t : TableModel) (next : Rows → Script) → ((rows : Rows) → KeepsIf b (kept_at told site) t.name rows → Refusals told P (next rows)) → Refusals told P (asking_if b site t next)
  in_asked_if site true t next more = more
  in_asked_if site false t next more = more [] refl

  pub in_asked : (site : Site) (root : Node) (at : ℕ) (ts : List TableModel) (next : List Rows → Script) → ((tables : List Rows) → KeepsAll (kept_at told site) root at ts tables → Refusals told P (next tables)) →
      Refusals told P (asking site root at ts next)
  in_asked site root at [] next more = more [] refl
  in_asked site root at (t ∷ ts) next more = in_asked_if site (scans at root) t _ (λ rows h. in_asked site root (at + 1) ts (λ later. next (rows ∷ later)) (λ later hs. more (rows ∷ later) (h, hs)))

  -- what holds where this is the first table whose rows are wrong, the k-th of these
  abbrev pub WrongAfter : Site → ℕ → List TableModel → List Rows → Type 0
  WrongAfter site at ts tables = (k place : ℕ) (wrong : RowsErr) → place ≡ at + k → AllValid (take k ts) tables → k < length ts → IsRefused (get_or ts k no_table) (get_or tables k []) wrong → P (status.BadRows site place wrong)

  pub in_wrong : (site : Site) (at : ℕ) (t : TableModel) (rows : Rows) (next : Script) (wrong : Option RowsErr) → IsWrong t rows wrong → ((e : RowsErr) → IsRefused t rows e → P (status.BadRows site at e)) →
      (IsValid t rows → Refusals told P next) → Refusals told P (or_wrong site at t next wrong)
  in_wrong site at t rows next None valid faults more = more valid
  in_wrong site at t rows next (Some e) is faults more = faults e is

  pub in_judged : (site : Site) (at : ℕ) (ts : List TableModel) (tables : List Rows) (next : Script) → WrongAfter site at ts tables → (AllValid ts tables → Refusals told P next) → Refusals told P (judging site at ts tables next)
  in_judged site at [] tables next faults more = more tt
  in_judged site at (t ∷ ts) [] next faults more = more tt
  in_judged site at (t ∷ ts) (rows ∷ tables) next faults more = λ wrong is. in_wrong site at t rows _ wrong is (λ e refused. faults 0 at e (omega arith) tt (omega arith) refused)
      (λ valid. in_judged site (at + 1) ts tables next (λ k place e same before l refused. faults (suc k) place e (omega (arith, same)) (valid, before) (omega (arith, l)) refused) (λ later. more (valid, later)))

  pub in_large : (next : List UnitModel → Script) (compiled : Compiled) → ((limit unit : ℕ) → compiled ≡ Err (limit, unit) → P (status.TooLarge limit unit)) → ((units : List UnitModel) → compiled ≡ Ok units → Refusals told P (next units)) →
      Refusals told P (or_large next compiled)
  in_large next (Ok units) faults more = more units refl
  in_large next (Err passed) faults more = faults passed.0 passed.1 refl

  pub in_there : (next : ℕ → Script) (ticket : ℕ) (b : Bool) → nat_lt ticket (2 ^ 40) ≡ b → (2 ^ 40 ≤ ticket → P status.TicketsSpent) → (ticket < 2 ^ 40 → Refusals told P (next ticket)) →
      Refusals told P (if b then next ticket else refuse status.TicketsSpent)
  in_there next ticket true e spent more = more (ltb-true ticket (2 ^ 40) e)
  in_there next ticket false e spent more = spent (ltb-false ticket (2 ^ 40) e)

-- ---- a ticket, and a step for each
module _ (told : Told) (P : Status → Type 0) where
  pub in_given : (next : ℕ → Script) → ((ticket : ℕ) → 2 ^ 40 ≤ ticket → IsNext told.desk ticket → P status.TicketsSpent) →
      ((ticket : ℕ) → ticket < 2 ^ 40 → IsNext told.desk ticket → Refusals (with_taken told) P (next ticket)) → Refusals told P (ticketing next)
  in_given next spent more = λ ticket is. in_there (with_taken told) P next ticket (nat_lt ticket (2 ^ 40)) refl (λ most. spent ticket most is) (λ few. more ticket few is)

  pub in_each : {X Y : Type 0} (step : X → (Y → Script) → Script) (Is : X → Y → Type 0) →
      ((x : X) (next : Y → Script) → ((y : Y) → Is x y → Refusals told P (next y)) → Refusals told P (step x next)) →
      (xs : List X) (next : List Y → Script) → ((ys : List Y) → EachWith Is xs ys → Refusals told P (next ys)) → Refusals told P (each step xs next)
  in_each step Is one [] next more = more [] refl
  in_each {X} {Y} step Is one (x ∷ xs) next more = one x (λ y. each step xs (λ ys. next (y ∷ ys))) (λ y is. in_each step Is one xs (λ ys. next (y ∷ ys)) (λ ys are. more (y ∷ ys) (is, are)))

  abbrev IsGood : TableModel × Option (List ℕ) → Type 0
  IsGood file = (given : Option Rows) × FileGives file given

  good_more : (before : List (TableModel × Option (List ℕ))) (file : TableModel × Option (List ℕ)) → AllByRecursion IsGood before → IsGood file → AllByRecursion IsGood (before ++ file ∷ [])
  good_more [] file good is = (is, tt)
  good_more (f ∷ before) file good is = (good.0, good_more before file good.1 is)

  -- the rows of files, of which the first bad one is told
  in_imported : (all : List (TableModel × Option (List ℕ))) → ((entry cause : ℕ) → IsBadFile all entry cause → P (status.Csv entry cause)) → (before files : List (TableModel × Option (List ℕ))) →
      all ≡ before ++ files → AllByRecursion IsGood before → (next : List (Option Rows) → Script) → ((given : List (Option Rows)) → EachWith FileGives files given → Refusals told P (next given)) →
      Refusals told P (each importing_file files next)
  in_imported all bad before [] e good next more = more [] refl
  in_imported all bad before ((t, None) ∷ files) e good next more = in_imported all bad (before ++ (t, None) ∷ []) files (e ∙ sym (append_assoc before ((t, None) ∷ []) files)) (good_more before (t, None) good (None, tt))
      (λ given. next (None ∷ given)) (λ given are. more (None ∷ given) (tt, are))
  in_imported all bad before ((t, Some csv) ∷ files) e good next more = λ read is. in_read told P status.Csv _ (AreRowsIn t csv) read is
      (λ entry cause wrong. bad entry cause (record { before = before; table = t; csv = csv; later = files; stands = e; good = good; bad = wrong }))
      (λ rows are. in_imported all bad (before ++ (t, Some csv) ∷ []) files (e ∙ sym (append_assoc before ((t, Some csv) ∷ []) files)) (good_more before (t, Some csv) good (Some rows, are))
      (λ given. next (Some rows ∷ given)) (λ given gives. more (Some rows ∷ given) (are, gives)))

  pub in_files : (files : List (TableModel × Option (List ℕ))) (next : List (Option Rows) → Script) → ((entry cause : ℕ) → IsBadFile files entry cause → P (status.Csv entry cause)) →
      ((given : List (Option Rows)) → EachWith FileGives files given → Refusals told P (next given)) → Refusals told P (each importing_file files next)
  in_files files next bad more = in_imported files bad [] files refl tt next more

  pub in_compared : (s : SchemaModel) (first second : List Rows) (next : Script) (spot : Option Leaf) → IsSpot s first second spot → ((at : Leaf) → IsSpot s first second (Some at) → P (status.Disagree at.table at.column)) →
      (IsSpot s first second None → Refusals told P next) → Refusals told P (or_differ s next spot)
  in_compared s first second next None is differs more = more is
  in_compared s first second next (Some at) is differs more = differs at is

pub from_first : (k place : ℕ) → place ≡ 0 + k → k ≡ place
from_first k place e = omega (arith, e)

pub refusals_map : (P Q : Status → Type 0) → ((refused : Status) → P refused → Q refused) → (told : Told) (script : Script) → Refusals told P script → Refusals told Q script
refusals_map P Q f told Finish r = tt
refusals_map P Q f told (Refuse refused line) r = f refused r
refusals_map P Q f told (Say text rest) r = refusals_map P Q f told rest r
refusals_map P Q f told (Ask question next) r = λ reply gives. refusals_map P Q f (after told question reply) (next reply) (r reply gives)

-- ---- tickets that were given

pub length_more : (before : List Query) (query : Query) → length (before ++ query ∷ []) ≡ length before + 1
length_more before query = length-append before (query ∷ [])

-- a ticket more
pub given_next : (desk : Option DeskHeld) (count ticket : ℕ) → ticket < 2 ^ 40 → IsNext (with_given count desk) ticket → with_ticket (with_given count desk) ≡ with_given (count + 1) desk
given_next None count ticket few next = refl
given_next (Some held) count ticket few next =
    let here : held.next + count < 2 ^ 40 = omega (arith, few, next.1) in
    let more : held.next + count + 1 ≡ held.next + (count + 1) = omega arith in
    rw (lt-ltb (held.next + count) (2 ^ 40) here, more) refl

pub given_more : (desk : Option DeskHeld) (before : List Query) (query : Query) (ticket : ℕ) → ticket < 2 ^ 40 → IsNext (with_given (length before) desk) ticket →
    with_ticket (with_given (length before) desk) ≡ with_given (length (before ++ query ∷ [])) desk
given_more desk before query ticket few next = rw (length_more before query) (given_next desk (length before) ticket few next)

pub left_next : (desk : Option DeskHeld) (count ticket : ℕ) → ticket < 2 ^ 40 → IsNext (with_given count desk) ticket → AreLeft desk (count + 1)
left_next None count ticket few next = tt
left_next (Some held) count ticket few next = λ k l. omega (arith, few, next.1, l)

pub none_wanted : (desk : Option DeskHeld) → AreLeft desk 0
none_wanted None = tt
none_wanted (Some held) = λ k l. omega (arith, l)

pub left_more : (desk : Option DeskHeld) (before : List Query) (query : Query) (ticket : ℕ) → ticket < 2 ^ 40 → IsNext (with_given (length before) desk) ticket → AreLeft desk (length (before ++ query ∷ []))
left_more desk before query ticket few next = rw (length_more before query) (left_next desk (length before) ticket few next)

-- none is left
pub all_given : (desk : Option DeskHeld) (count ticket : ℕ) → 2 ^ 40 ≤ ticket → IsNext (with_given count desk) ticket → IfSome desk (λ held. held.next + count ≡ 2 ^ 40)
all_given None count ticket most next = tt
all_given (Some held) count ticket most next = omega (arith, most, next.0, next.1)

pub is_given : (desk : Option DeskHeld) (count ticket : ℕ) → ticket < 2 ^ 40 → IsNext (with_given count desk) ticket → IsGiven desk count ticket
is_given None count ticket few next = (few, tt)
is_given (Some held) count ticket few next = (few, next.1)

pub none_before : (count : ℕ) → count ≡ 0 + count
none_before count = omega arith

pub plus_none : (before : ℕ) → before + 0 ≡ before
plus_none before = omega arith

pub plus_one : (before count : ℕ) → before + 1 + count ≡ before + suc count
plus_one before count = omega arith

pub none_given : (desk : Option DeskHeld) → with_given 0 desk ≡ desk
none_given None = refl
none_given (Some held) = let same : held.next + 0 ≡ held.next = omega arith in rw (same) refl

pub all_more : (P : Query → Type 0) (before : List Query) (query : Query) → AllByRecursion P before → P query → AllByRecursion P (before ++ query ∷ [])
all_more P [] query taken is = (is, tt)
all_more P (q ∷ before) query taken is = (taken.0, all_more P before query taken.1 is)

-- ---- queries, one after the other
module _ (told : Told) (P : Status → Type 0) (Taken : Query → Type 0) (all : List Query) (step : ℕ → Query → Script → Script) where
  -- with this desk
  abbrev pub RefusalsAt : Option DeskHeld → Script → Type 0
  RefusalsAt desk script = Refusals (with_desk told desk) P script

  -- what holds of the refusals of one query, where each before it had a ticket
  abbrev pub OneRefused : Type 0
  OneRefused = (number : ℕ) (before later : List Query) (query : Query) (next : Script) → all ≡ before ++ query ∷ later → AllByRecursion Taken before → AreLeft told.desk (length before) →
      (Taken query → (ticket : ℕ) → ticket < 2 ^ 40 → IsNext (with_given (length before) told.desk) ticket → RefusalsAt (with_ticket (with_given (length before) told.desk)) next) →
      RefusalsAt (with_given (length before) told.desk) (step number query next)

  in_numbered_after : OneRefused → (number : ℕ) (before queries : List Query) → all ≡ before ++ queries → AllByRecursion Taken before → AreLeft told.desk (length before) →
      RefusalsAt (with_given (length before) told.desk) (numbered step number queries)
  in_numbered_after one number before [] e taken left = tt
  in_numbered_after one number before (query ∷ queries) e taken left = one number before queries query (numbered step (number + 1) queries) e taken left (λ is ticket few next.
      subst (λ (desk : Option DeskHeld). RefusalsAt desk (numbered step (number + 1) queries)) (sym (given_more told.desk before query ticket few next))
      (in_numbered_after one (number + 1) (before ++ query ∷ []) queries (e ∙ sym (append_assoc before (query ∷ []) queries)) (all_more Taken before query taken is) (left_more told.desk before query ticket few next)))

  pub in_numbered : OneRefused → Refusals told P (numbered step 1 all)
  in_numbered one = subst (λ (desk : Option DeskHeld). RefusalsAt desk (numbered step 1 all)) (none_given told.desk) (in_numbered_after one 1 [] all refl tt (none_wanted told.desk))
