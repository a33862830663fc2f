-- Two worlds that agree, and a query that is made ready in both.
use Rattle.std.proofs.Common.{◌≡◌, ℕ, ◌+◌, ◌<◌, ◌-◌, ◌^◌, List, [], ◌∷◌, length, drop, get_or, arith, refl, sym, subst, ap, ◌∙◌, None, Option, Result, Ok, Err, inl, inr, ◌⊎◌}
use Rattle.std.specs.Prelude.{true, IfOk}
use Rattle.std.specs.List.{All, slice_get}
use Rattle.std.proofs.lemmas.List.{drop_more}
use Rattle.std.proofs.lemmas.List.Elements.{All-get_or, All-from_get_or}
use Rattle.pdn_base.specs.declared.marks.Kind.{Kind}
use Rattle.pdn_base.specs.declared.rows_err.RowsErr.{RowsErr}
use Rattle.pdn_base.specs.declared.rows_err.RowsErr.TheVariants.{TooMany, PerValue, WrongType}
use Rattle.pdn_base.specs.declared.site.Site.{Site}
use Rattle.pdn_base.specs.declared.site.Site.TheVariants.{A, B}
use Rattle.pdn_base.specs.declared.status.Status.TheVariants as status
use Rattle.pdn_base.specs.Operators.{Rows}
use Rattle.pdn_schema.specs.Models.{SchemaModel, TableModel, no_table, table_of}
use Rattle.pdn_schema.specs.Schemas.{IsSchema, IsTable}
use Rattle.pdn_schema.specs.Rows.{HasKinds, IsValid, AreValid, IsRefused}
use Rattle.pdn_tree.specs.declared.node.Node.{Node}
use Rattle.pdn_tree.specs.Shapes.{shape}
use Rattle.pdn_site.specs.Models.{UnitModel}
use Rattle.pdn_site.specs.Compiling.{Compiled}
use Rattle.pdn_site.specs.Meaning.{numbers_fit}
use Rattle.pdn_agree.specs.Agreement.{Union, Agree, SamePublic, other_tables}
use Rattle.pdn_agree.specs.EqualShapes.{ShapesLaw, SameShapes}
use Rattle.pdn_agree.specs.Spots.{IsSpot}
use Rattle.pdn_site.proofs.SliceLaws.{all_at}
use Rattle.pdn_broker.specs.Prepared.{PreparedModel, IsPrepared}
use Rattle.pdn_broker.specs.Runs.{Tape}
use Rattle.pdn_worlds.specs.TwoWorlds.{AreWorlds, SecondWorldLaw, TranscriptLaw, union_of}
use Rattle.pdn_view.specs.Views.{ViewWords}
use Rattle.pdn_twin.specs.Twins.{TwinWords, IsTwin}
use Rattle.pdn_twin.specs.declared.twins.Worlds.{Worlds}
use Rattle.pdn_script.specs.declared.stop.Stop.{Stop}
use Rattle.pdn_script.specs.Stops.{stop_of}
use Rattle.pdn_query.specs.Answering.{units_over, or_large}
use Rattle.pdn_query.specs.Gathering.{WrongTable, LargeUnit, NotReady, AreReady}
use Rattle.pdn_query.specs.Script.{Script, Say}
use Rattle.pdn_query.specs.Walk.{NoMemory, Along, Leads, Came}
use Rattle.pdn_query.specs.World.{WorldModel}
use Rattle.pdn_query.proofs.Walks.{begun, halted, refused}
use Rattle.pdn_commands.specs.HandedOn.{AreTablesOf, AreReadyWorlds}
use Rattle.pdn_commands.specs.Twinning.{TwoWorlds, given_or, given_tables, second_world, first_ready, second_ready, of_each, of_first, HasEqualViews, KeepsEqual, twin_of, twin_words, twin_text, EqualViewsLaw}

-- ---- the second world's tables

-- of one table more
pub given_more : (given : List (Option Rows)) (kept : List Rows) (i : ℕ) (rows : Rows) (g : Option Rows) (k : Rows) → i < length given → length given ≡ length kept → rows ≡ given_or (get_or given i g) (get_or kept i k) →
    given_tables (drop i given) (drop i kept) ≡ rows ∷ given_tables (drop (i + 1) given) (drop (i + 1) kept)
given_more given kept i rows g k l same is = let there : i < length kept = omega (arith, l, same) in rw (drop_more given i g l, drop_more kept i k there, is) refl

pub other_are : (s : SchemaModel) (site : Site) (u : Union) → AreTablesOf s u.a → AreTablesOf s u.b → AreTablesOf s (other_tables site u)
other_are s A u a b = b
other_are s B u a b = a

-- worlds of valid rows that have the same in public
pub agree_of : (s : SchemaModel) (site : Site) (first : Union) (tables : List Rows) → AreValid s first.a → AreValid s first.b → AreValid s tables → SamePublic s (other_tables site first) tables →
    Agree site s first (second_world site first tables)
agree_of s A first tables a b c same = record { valid_first = record { a = a; b = b }; valid_second = record { a = a; b = c }; own = refl; other = same }
agree_of s B first tables a b c same = record { valid_first = record { a = a; b = b }; valid_second = record { a = c; b = b }; own = refl; other = same }

-- the same, of the result of a comparison
pub agree_where : (s : SchemaModel) (site : Site) (first : Union) (tables : List Rows) {X E : Type 0} (result : Result X E) → AreValid s first.a → AreValid s first.b → AreValid s tables →
    IfOk result (λ x. IsSpot s (other_tables site first) tables None) → IfOk result (λ x. Agree site s first (second_world site first tables))
agree_where s site first tables (Ok x) a b c same = agree_of s site first tables a b c same
agree_where s site first tables (Err e) a b c same = tt

-- valid tables have few rows
pub few_tables : (s : SchemaModel) → IsSchema s → (tables : List Rows) → AreValid s tables → All (λ (rows : Rows). length rows < 2 ^ 32 - 1) tables
few_tables s kept tables valid = All-from_get_or (λ (rows : Rows). length rows < 4294967295) tables [] (λ i l.
    let count = valid.count in
    let within : i < length s.tables = omega (arith, l, count) in
    let rows = (valid.each i within).few in
    let most = (all_at IsTable s.tables i no_table within kept.tables.each).head.most in
    omega (arith, rows, most))

-- ---- valid rows are not refused

valid_not_refused : (t : TableModel) (rows : Rows) (cause : RowsErr) → IsValid t rows → IsRefused t rows cause → ⊥
valid_not_refused t rows (WrongType row column) valid refused =
    refused.here.here (ap (λ (ks : List Kind). slice_get ks column) (All-get_or (HasKinds t.columns) rows row [] refused.within valid.kinds))
valid_not_refused t rows TooMany valid refused = omega (arith, refused.1, valid.few)
valid_not_refused t rows (PerValue column) valid refused =
    let over = refused.2 in
    omega (arith, over.over, valid.per column over.column over.is over.public over.number)

not_wrong : (s : SchemaModel) (site : Site) (tables : List Rows) (stop : Stop) → AreValid s tables → WrongTable s site tables stop → ⊥
not_wrong s site tables stop valid wrong = valid_not_refused (table_of s wrong.at) _ wrong.here.wrong (valid.each wrong.at wrong.within) wrong.here.is

-- over valid tables only a limit is refused, or memory ran out
unready_by : (s : SchemaModel) (root : Node) (a b : List Rows) (stop : Stop) → AreValid s a → AreValid s b → NotReady s root a b stop → LargeUnit s root a b stop ⊎ (stop_of stop ≡ NoMemory)
unready_by s root a b stop va vb (inl t) = absurd (not_wrong s A a stop va t)
unready_by s root a b stop va vb (inr (inl (v, t))) = absurd (not_wrong s B b stop vb t)
unready_by s root a b stop va vb (inr (inr (inl (v, x, u)))) = inl u
unready_by s root a b stop va vb (inr (inr (inr short))) = inr short

-- ---- a query in both worlds

large : (world : WorldModel) (next : List UnitModel → Script) (s : SchemaModel) (root : Node) (a b : List Rows) (stop : Stop) → LargeUnit s root a b stop ⊎ (stop_of stop ≡ NoMemory) →
    Along world world (or_large next (units_over s root a b)) (stop_of stop)
large world next s root a b stop (inl u) = subst (λ (c : Compiled). Along world world (or_large next c) (stop_of stop)) (sym u.passes) (refused world [] [] (status.TooLarge u.limit u.unit) stop u.refused)
large world next s root a b stop (inr short) = halted world (or_large next (units_over s root a b)) (stop_of stop) short

made_units : (s : SchemaModel) (root : Node) (a b : List Rows) (p : PreparedModel) → (ready : AreReady s root a b p) → ready.units ≡ p.units
made_units s root a b p ready = sym (ap (λ (q : PreparedModel). q.units) ready.made)

ok_same : {X E : Type 0} (c : Result X E) (x y : X) → c ≡ Ok x → c ≡ Ok y → x ≡ y
ok_same c x y e f = cc

module _ (w : TwoWorlds) (root : Node) (agree : Agree w.site w.schema w.first w.second) (p : PreparedModel) (first : AreReady w.schema root w.first.a w.first.b p) where
  of_root : p.a.root ≡ root
  of_root = ap (λ (q : PreparedModel). q.a.root) first.made

  pub first_units : units_over w.schema root w.first.a w.first.b ≡ Ok p.units
  first_units = first.fits ∙ ap (λ (units : List UnitModel). Ok units) (made_units w.schema root w.first.a w.first.b p first)

  module _ (law : ShapesLaw) (sound : (shape w.schema root).sound ≡ true) (kept : IsPrepared p) where
    same_shapes : SameShapes w.schema root w.first w.second
    same_shapes = law w.site w.schema root w.first w.second sound (subst (λ (top : Node). numbers_fit top ≡ true) of_root kept.numbers) agree

    second_units : units_over w.schema root w.second.a w.second.b ≡ Ok p.units
    second_units = same_shapes.units ∙ first_units

    -- the second world adds no refusal
    pub second_stopped : (world : WorldModel) (next : List UnitModel → Script) (stop : Stop) → NotReady w.schema root w.second.a w.second.b stop → Along world world (or_large next (units_over w.schema root w.first.a w.first.b)) (stop_of stop)
    second_stopped world next stop not = subst (λ (c : Compiled). Along world world (or_large next c) (stop_of stop)) same_shapes.units
        (large world next w.schema root w.second.a w.second.b stop (unready_by w.schema root w.second.a w.second.b stop agree.valid_second.a agree.valid_second.b not))

    module _ (q : PreparedModel) (second : AreReady w.schema root w.second.a w.second.b q) (also : IsPrepared q) where
      same_units : second.units ≡ p.units
      same_units = ok_same (units_over w.schema root w.second.a w.second.b) second.units p.units second.fits second_units

      is_first : p ≡ first_ready w root p.units
      is_first = first.made ∙ ap (λ (units : List UnitModel). first_ready w root units) (made_units w.schema root w.first.a w.first.b p first)

      is_second : q ≡ second_ready w root p.units
      is_second = second.made ∙ ap (λ (units : List UnitModel). second_ready w root units) same_units

      first_union : union_of p ≡ w.first
      first_union = ap union_of is_first

      second_union : union_of q ≡ w.second
      second_union = ap union_of is_second

      first_schema : p.a.schema ≡ w.schema
      first_schema = ap (λ (r : PreparedModel). r.a.schema) is_first

      are_worlds : AreWorlds w.site p q
      are_worlds = record {
        first = kept;
        second = also;
        schema = ap (λ (r : PreparedModel). r.a.schema) is_second ∙ sym first_schema;
        root = ap (λ (r : PreparedModel). r.a.root) is_second ∙ sym (ap (λ (r : PreparedModel). r.a.root) is_first);
        agree = subst (λ (s : SchemaModel). Agree w.site s (union_of p) (union_of q)) (sym first_schema)
            (subst (λ (u : Union). Agree w.site w.schema u (union_of q)) (sym first_union) (subst (λ (v : Union). Agree w.site w.schema w.first v) (sym second_union) agree));
      }

      pub ready_worlds : AreReadyWorlds w root (record { site = w.site; first = p; second = q })
      ready_worlds = record { site = refl; first = is_first; second = is_second; alike = are_worlds }

pub first_stopped : (w : TwoWorlds) (root : Node) → Agree w.site w.schema w.first w.second → (world : WorldModel) (next : List UnitModel → Script) (stop : Stop) → NotReady w.schema root w.first.a w.first.b stop →
    Along world world (or_large next (units_over w.schema root w.first.a w.first.b)) (stop_of stop)
first_stopped w root agree world next stop not = large world next w.schema root w.first.a w.first.b stop (unready_by w.schema root w.first.a w.first.b stop agree.valid_first.a agree.valid_first.b not)

pub units_on : (world : WorldModel) (next : List UnitModel → Script) (units : List UnitModel) (compiled : Compiled) → compiled ≡ Ok units → Leads world world (or_large next compiled) (next units)
units_on world next units compiled e = subst (λ (c : Compiled). Leads world world (or_large next c) (next units)) (sym e) (begun world (next units))

-- ---- what is put

-- a twin's words are those of these worlds, and its views are equal
module _ (site : Site) (p q : PreparedModel) (tape : Tape) (ticket : ℕ) (twin : TwinWords) (is : IsTwin site p q tape ticket twin) where
  pub twin_is : twin ≡ twin_of site p q tape ticket
  unfolding twin_of
  twin_is = λ i. record { first = is.first i; second = is.second i; changed = is.changed i }

  pub twin_alike : HasEqualViews (twin_of site p q tape ticket)
  twin_alike = subst HasEqualViews twin_is is.equal

pub each_keeps : KeepsEqual of_each
each_keeps twin equal = refl

pub first_keeps : KeepsEqual of_first
first_keeps twin equal = ap (λ (second : ViewWords). record { first = twin.first; second = second; changed = twin.changed }) (sym equal)

-- the twin's text with any views that keep equal ones, by what the worlds are
module _ (views : TwinWords → TwinWords) (keeps : KeepsEqual views) where
  pub twin_printed : (w : TwoWorlds) (root : Node) (both : Worlds) → AreReadyWorlds w root both → (tape : Tape) (number ticket : ℕ) → HasEqualViews (twin_of both.site both.first both.second tape ticket) →
      twin_text both.site number ticket (twin_of both.site both.first both.second tape ticket) ≡ twin_text w.site number ticket (views (twin_words tape w root both.first.units ticket))
  twin_printed w root both ready tape number ticket equal =
      let same : twin_of both.site both.first both.second tape ticket ≡ twin_words tape w root both.first.units ticket = λ i. twin_of (ready.site i) (ready.first i) (ready.second i) tape ticket in
      (λ i. twin_text (ready.site i) number ticket (same i)) ∙ ap (twin_text w.site number ticket) (sym (keeps (twin_words tape w root both.first.units ticket) (subst HasEqualViews same equal)))

pub came_same : {T : Type 0} (a b : WorldModel) (text other : List ℕ) (rest : Script) (result : Result T Stop) → text ≡ other → Came a b (Say text rest) (λ _. rest) result → Came a b (Say other rest) (λ _. rest) result
came_same a b text other rest result is came = subst (λ (said : List ℕ). Came a b (Say said rest) (λ _. rest) result) is came

-- ---- what the site sees in both

pub equal_views : SecondWorldLaw → TranscriptLaw → EqualViewsLaw
unfolding twin_of
equal_views worlds same tape w root units ticket ready agree a b =
    same w.site (first_ready w root units) (second_ready w root units) (worlds w.site (first_ready w root units) w.second ready agree a b) tape ticket
