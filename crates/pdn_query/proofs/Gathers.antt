-- Going along the script of queries.
use Rattle.std.proofs.Common.{◌≡◌, ℕ, suc, zero, ◌+◌, ◌≤◌, ◌<◌, ◌++◌, List, [], ◌∷◌, length, drop, get_or, refl, sym, subst, ap, ◌∙◌, None, Some, Ok, inl, inr, arith, append-nil, append_assoc}
use Rattle.std.proofs.lemmas.List.{drop_more, drop_all}
use Rattle.std.specs.Prelude.{Bool, true, false, Result, Err, MatchResult}
use Rattle.pdn_base.specs.Operators.{Rows}
use Rattle.pdn_base.specs.declared.site.Site.{Site}
use Rattle.pdn_base.specs.declared.site.Site.TheVariants.{A, B}
use Rattle.pdn_base.specs.declared.status.Status.TheVariants as status
use Rattle.pdn_schema.specs.Models.{SchemaModel, TableModel, no_table}
use Rattle.pdn_schema.specs.Rows.{IsValid, AreValid, union}
use Rattle.pdn_sql.specs.declared.query.Query.{Query}
use Rattle.pdn_plan.specs.Answer.{answer}
use Rattle.pdn_tree.specs.declared.node.Node.{Node}
use Rattle.pdn_tree.specs.Plans.{PlanModel}
use Rattle.pdn_site.specs.Models.{UnitModel}
use Rattle.pdn_site.specs.Compiling.{Compiled}
use Rattle.pdn_broker.specs.Prepared.{PreparedModel, prepared_of}
use Rattle.pdn_broker.specs.Runs.{Tape}
use Rattle.pdn_script.specs.Stops.{IsRefusal, stop_of}
use Rattle.pdn_script.specs.declared.stop.Stop.{Stop}
use Rattle.pdn_query.specs.Answering.{scans, asking_if, asking, wrong_column, or_wrong, judging, units_over, or_large, judging_both, ticketing, gathering, answering, querying, AllValid}
use Rattle.pdn_query.specs.Gathering.{WrongRows, WrongTable, LargeUnit, NotReady, AreReady}
use Rattle.pdn_query.specs.Questions.{Valid}
use Rattle.pdn_query.specs.Script.{Script, binding}
use Rattle.pdn_query.specs.Showing.{ThreeViews, views_on}
use Rattle.pdn_query.specs.Walk.{End, NoMemory, Along, Leads, Came}
use Rattle.pdn_query.specs.World.{WorldModel}
use Rattle.pdn_query.proofs.Walks.{leads_on, leads_along, begun, halted, known, refused}

-- ---- the rows that a site gives

-- a table that isn't scanned has none
pub unasked : (w : WorldModel) (site : Site) (scanned : Bool) (t : TableModel) (rows : Rows) (next : Rows → Script) → scanned ≡ false → rows ≡ [] → Leads w w (asking_if scanned site t next) (next rows)
unasked w site true t rows next e none = cc
unasked w site false t rows next e none = rw (none) (begun w (next []))

-- So far a site gave the rows of the first tables, and those of the tables from this one on are still to be asked for.
pub record Gathering (old now : WorldModel) (site : Site) (root : Node) (ts : List TableModel) (at : ℕ) (lists : List Rows) : Type 0 where
  pub glue : List Rows → List Rows
  pub glues : (more : List Rows) → glue more ≡ lists ++ more
  pub leads : (next : List Rows → Script) → Leads old now (asking site root 0 ts next) (asking site root at (drop at ts) (λ more. next (glue more)))

module _ {old : WorldModel} {site : Site} {root : Node} {ts : List TableModel} where
  pub Gathering-begin : (lists : List Rows) → lists ≡ [] → Gathering old old site root ts 0 lists
  Gathering-begin lists none = record { glue = λ more. more; glues = λ more. rw (none) refl; leads = λ next. begun old (asking site root 0 ts next) }

  module _ {mid : WorldModel} {at : ℕ} {lists : List Rows} (g : Gathering old mid site root ts at lists) where
    -- the next table is to be asked for
    here : (next : List Rows → Script) → at < length ts →
        Leads old mid (asking site root 0 ts next) (asking_if (scans at root) site (get_or ts at no_table) (λ rows. asking site root (at + 1) (drop (at + 1) ts) (λ more. next (g.glue (rows ∷ more)))))
    here next l = subst (λ (xs : List TableModel). Leads old mid (asking site root 0 ts next) (asking site root at xs (λ more. next (g.glue more)))) (drop_more ts at no_table l) (g.leads next)

    pub Gathering-next : {now : WorldModel} (rows : Rows) → at < length ts → ((next : Rows → Script) → Leads mid now (asking_if (scans at root) site (get_or ts at no_table) next) (next rows)) →
        Gathering old now site root ts (at + 1) (lists ++ rows ∷ [])
    Gathering-next rows l step = record {
      glue = λ more. g.glue (rows ∷ more);
      glues = λ more. g.glues (rows ∷ more) ∙ sym (append_assoc lists (rows ∷ []) more);
      leads = λ next. leads_on (here next l) (step (λ rows. asking site root (at + 1) (drop (at + 1) ts) (λ more. next (g.glue (rows ∷ more)))));
    }

    pub Gathering-stopped : {now : WorldModel} (end : End) (next : List Rows → Script) → at < length ts → ((next : Rows → Script) → Along mid now (asking_if (scans at root) site (get_or ts at no_table) next) end) →
        Along old now (asking site root 0 ts next) end
    Gathering-stopped end next l stops = leads_along (here next l) (stops (λ rows. asking site root (at + 1) (drop (at + 1) ts) (λ more. next (g.glue (rows ∷ more)))))

    pub Gathering-halted : (end : End) (next : List Rows → Script) → end ≡ NoMemory → Along old mid (asking site root 0 ts next) end
    Gathering-halted end next is = leads_along (g.leads next) (halted mid (asking site root at (drop at ts) (λ more. next (g.glue more))) end is)

    -- all tables were asked for
    pub Gathering-all : (next : List Rows → Script) → length ts ≤ at → Leads old mid (asking site root 0 ts next) (next lists)
    Gathering-all next l =
        let some : Leads old mid (asking site root 0 ts next) (next (g.glue [])) =
        subst (λ (xs : List TableModel). Leads old mid (asking site root 0 ts next) (asking site root at xs (λ more. next (g.glue more)))) (drop_all at ts l) (g.leads next) in
        subst (λ (rows : List Rows). Leads old mid (asking site root 0 ts next) (next rows)) (g.glues [] ∙ append-nil lists) some

-- ---- rows that are judged

-- valid tables, one after the other
all_valid : (ts : List TableModel) (tables : List Rows) → ((t : ℕ) → t < length ts → IsValid (get_or ts t no_table) (get_or tables t [])) → AllValid ts tables
all_valid [] tables each = tt
all_valid (t ∷ ts) [] each = tt
all_valid (t ∷ ts) (rows ∷ tables) each = (each 0 (omega arith), all_valid ts tables (λ k l. each (suc k) (omega (arith, l))))

module _ (w : WorldModel) where
  judged : (site : Site) (at : ℕ) (ts : List TableModel) (tables : List Rows) (next : Script) → AllValid ts tables → Leads w w (judging site at ts tables next) next
  judged site at [] tables next v = begun w next
  judged site at (t ∷ ts) [] next v = begun w next
  judged site at (t ∷ ts) (rows ∷ tables) next v = leads_on (known w (Valid t rows) (or_wrong site at t (judging site (at + 1) ts tables next)) None refl v.0) (judged site (at + 1) ts tables next v.1)

  -- the rows of the table k places after the first are refused
  wrong_after : (site : Site) (at : ℕ) (ts : List TableModel) (tables : List Rows) (next : Script) (k place : ℕ) (stop : Stop) → place ≡ at + k → length tables ≡ length ts → k < length ts →
      ((t : ℕ) → t < k → IsValid (get_or ts t no_table) (get_or tables t [])) → WrongRows site place (get_or ts k no_table) (get_or tables k []) stop →
      Along w w (judging site at ts tables next) (stop_of stop)
  wrong_after site at [] tables next k place stop same e l before r = absurd (omega (arith, l))
  wrong_after site at (t ∷ ts) [] next k place stop same e l before r = absurd (omega (arith, e))
  wrong_after site at (t ∷ ts) (rows ∷ tables) next zero place stop same e l before r =
      let here : place ≡ at = omega (arith, same) in
      leads_along (known w (Valid t rows) (or_wrong site at t (judging site (at + 1) ts tables next)) (Some r.wrong) refl r.is)
      (refused w t.name (wrong_column t r.wrong) (status.BadRows site at r.wrong) stop (subst (λ (n : ℕ). IsRefusal t.name (wrong_column t r.wrong) (status.BadRows site n r.wrong) stop) here r.refused))
  wrong_after site at (t ∷ ts) (rows ∷ tables) next (suc k) place stop same e l before r =
      leads_along (known w (Valid t rows) (or_wrong site at t (judging site (at + 1) ts tables next)) None refl (before 0 (omega arith)))
      (wrong_after site (at + 1) ts tables next k place stop (omega (arith, same)) (omega (arith, e)) (omega (arith, l)) (λ j m. before (suc j) (omega (arith, m))) r)

  pub wrong_table : (s : SchemaModel) (site : Site) (tables : List Rows) (next : Script) (stop : Stop) → length tables ≡ length s.tables → WrongTable s site tables stop →
      Along w w (judging site 0 s.tables tables next) (stop_of stop)
  wrong_table s site tables next stop e t = let here : t.at ≡ 0 + t.at = omega arith in wrong_after site 0 s.tables tables next t.at t.at stop here e t.within t.before t.here

  pub all_judged : (s : SchemaModel) (site : Site) (tables : List Rows) (next : Script) → AreValid s tables → Leads w w (judging site 0 s.tables tables next) next
  all_judged s site tables next v = judged site 0 s.tables tables next (all_valid s.tables tables v.each)

  units_on : (next : List UnitModel → Script) (units : List UnitModel) (compiled : Compiled) → compiled ≡ Ok units → Leads w w (or_large next compiled) (next units)
  units_on next units compiled e = subst (λ (c : Compiled). Leads w w (or_large next c) (next units)) (sym e) (begun w (next units))

  large : (next : List UnitModel → Script) (s : SchemaModel) (root : Node) (a b : List Rows) (stop : Stop) → LargeUnit s root a b stop → Along w w (or_large next (units_over s root a b)) (stop_of stop)
  large next s root a b stop u = subst (λ (c : Compiled). Along w w (or_large next c) (stop_of stop)) (sym u.passes) (refused w [] [] (status.TooLarge u.limit u.unit) stop u.refused)

  module _ (s : SchemaModel) (root : Node) (a b : List Rows) where
    -- what is ready
    ready_on : (next : List UnitModel → Script) (p : PreparedModel) (m : AreReady s root a b p) → Leads w w (judging_both s root a b next) (next m.units)
    ready_on next p m = leads_on (all_judged s A a _ m.valid_a) (leads_on (all_judged s B b _ m.valid_b) (units_on next m.units (units_over s root a b) m.fits))

    -- what isn't
    unready : (next : List UnitModel → Script) (stop : Stop) → length a ≡ length s.tables → length b ≡ length s.tables → NotReady s root a b stop → Along w w (judging_both s root a b next) (stop_of stop)
    unready next stop ea eb (inl t) = wrong_table s A a _ stop ea t
    unready next stop ea eb (inr (inl (va, t))) = leads_along (all_judged s A a _ va) (wrong_table s B b _ stop eb t)
    unready next stop ea eb (inr (inr (inl (va, vb, u)))) = leads_along (all_judged s A a _ va) (leads_along (all_judged s B b _ vb) (large next s root a b stop u))
    unready next stop ea eb (inr (inr (inr short))) = halted w (judging_both s root a b next) (stop_of stop) short

    -- made ready, or refused
    pub gathered : (next : List Rows → List Rows → List UnitModel → Script) (result : Result PreparedModel Stop) → length a ≡ length s.tables → length b ≡ length s.tables →
        MatchResult result (AreReady s root a b) (NotReady s root a b) → Came w w (judging_both s root a b (next a b)) (λ p. next p.a.tables p.b.tables p.units) result
    gathered next (Ok p) ea eb ready = subst (λ (q : PreparedModel). Leads w w (judging_both s root a b (next a b)) (next q.a.tables q.b.tables q.units)) (sym ready.made) (ready_on (next a b) p ready)
    gathered next (Err stop) ea eb not = unready (next a b) stop ea eb not

-- ---- a query that is answered

module _ (tape : Tape) (s : SchemaModel) (query : Query) where
  -- a ticket is taken, and these rows and views are those of the query with it
  given : (w now : WorldModel) (next : ℕ → Rows → ThreeViews → Script) (ticket : ℕ) (made p : PreparedModel) (means rows : Rows) (views : ThreeViews) → p ≡ made → rows ≡ means → views ≡ views_on p tape ticket →
      ((after : ℕ → Script) → Leads w now (ticketing after) (after ticket)) → Leads w now (ticketing (λ t. next t means (views_on made tape t))) (next ticket rows views)
  given w now next ticket made p means rows views form is sees takes =
      let whole : Script = ticketing (λ t. next t means (views_on made tape t)) in
      subst (λ (vs : ThreeViews). Leads w now whole (next ticket rows vs)) (sym (sees ∙ ap (λ (q : PreparedModel). views_on q tape ticket) form))
      (subst (λ (rs : Rows). Leads w now whole (next ticket rs (views_on made tape ticket))) (sym is) (takes (λ t. next t means (views_on made tape t))))

  -- bound, made ready, given a ticket and answered
  pub queried : (old mid now : WorldModel) (plan : PlanModel) (p : PreparedModel) (ticket : ℕ) (rows : Rows) (views : ThreeViews) →
      ((w : WorldModel) (next : PlanModel → Script) → Leads w w (binding s query next) (next plan)) →
      ((next : List Rows → List Rows → List UnitModel → Script) → Leads old mid (gathering s plan next) (next p.a.tables p.b.tables p.units)) →
      ((next : ℕ → Script) → Leads mid now (ticketing next) (next ticket)) →
      p ≡ prepared_of s plan.root p.a.tables p.b.tables p.units → rows ≡ answer s (union p.a.tables p.b.tables) query → views ≡ views_on p tape ticket →
      (next : PlanModel → ℕ → Rows → ThreeViews → Script) → Leads old now (querying tape s query next) (next plan ticket rows views)
  queried old mid now plan p ticket rows views binds gathers takes form is sees next =
      leads_on (binds old (λ q. answering s query q (λ t r rs. next q t rs (views_on r tape t))))
      (leads_on (gathers (λ a b units. ticketing (λ t. next plan t (answer s (union a b) query) (views_on (prepared_of s plan.root a b units) tape t))))
      (given mid now (next plan) ticket (prepared_of s plan.root p.a.tables p.b.tables p.units) p (answer s (union p.a.tables p.b.tables) query) rows views form is sees takes))
