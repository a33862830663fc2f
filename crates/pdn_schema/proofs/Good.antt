-- What the lines so far keep.
use Rattle.std.proofs.Common.{◌≡◌, ℕ, ◌≤◌, Bool, true, false, eqb, List, [], ◌∷◌, ◌++◌, length, map, Option, Some, None, refl, sym, ap, ◌∙◌, length-append, arith}
use Rattle.std.specs.Prelude.{not, ◌||◌, nat_le, nat_lt, ◌==◌}
use Rattle.std.specs.Str.{bytes_eq}
use Rattle.std.specs.List.{AllByRecursion, IsDistinct}
use Rattle.std.proofs.lemmas.Bool.{false≢true, eqb-true, eqb-false, leb-false, ltb-false}
use Rattle.std.proofs.lemmas.Cmp.{nat_list_eq_equiv}
use Rattle.std.proofs.lemmas.Map.Keys.{IsDistinct-push}
use Rattle.pdn_base.specs.declared.marks.Kind.{Kind}
use Rattle.pdn_base.specs.declared.marks.Label.{Label}
use Rattle.pdn_base.specs.declared.marks.Label.TheVariants as labels
use Rattle.pdn_schema.specs.declared.form.Form.{Form}
use Rattle.pdn_schema.specs.declared.form.Form.TheVariants as forms
use Rattle.pdn_schema.specs.declared.schema.Caller.{Caller}
use Rattle.pdn_schema.specs.declared.schema.Column.{Column}
use Rattle.pdn_schema.specs.Models.{TableModel, Part}
use Rattle.pdn_schema.specs.Names.{is_name, is_among}
use Rattle.pdn_schema.specs.Schemas.{column_names, table_names, IsCaller, PerFits, IsColumn, IsOpenTable, IsTable, IsCallers, IsFloor}
use Rattle.pdn_schema.specs.Causes.{start, is_none, in_open, is_within, per_wrong, cause_of, closed, with_column, after}
use Rattle.pdn_schema.proofs.CauseLaws.{not_false, or_false, within_bounds, no_cause}

-- ---- lists that grow

pub all_push : {X : Type 0} (P : X → Type 0) (xs : List X) (x : X) → AllByRecursion P xs → P x → AllByRecursion P (xs ++ x ∷ [])
all_push P [] x all here = (here, tt)
all_push P (y ∷ xs) x all here = (all.0, all_push P xs x all.1 here)

pub map_push : {X Y : Type 0} (f : X → Y) (xs : List X) (x : X) → map f (xs ++ x ∷ []) ≡ map f xs ++ f x ∷ []
map_push f [] x = refl
map_push f (y ∷ xs) x = ap (λ (zs : List _). f y ∷ zs) (map_push f xs x)

-- one more name, which is none of those before it
pub distinct_push : {X : Type 0} (name_of : X → List ℕ) (xs : List X) (x : X) → IsDistinct bytes_eq (map name_of xs) → is_among (map name_of xs) (name_of x) ≡ false → IsDistinct bytes_eq (map name_of (xs ++ x ∷ []))
distinct_push name_of xs x before new = rw (map_push name_of xs x) (IsDistinct-push nat_list_eq_equiv (map name_of xs) (name_of x) before new)

distinct_none : {X : Type 0} (name_of : X → List ℕ) → IsDistinct bytes_eq (map name_of [])
unfolding IsDistinct
distinct_none name_of = tt

-- ---- what a part keeps

pub data InOpen (P : TableModel → Type 0) : Option TableModel → Type 0 where
  nothing : InOpen P None
  here : {t : TableModel} → P t → InOpen P (Some t)

pub record Good (p : Part) : Type 0 where
  pub unbegun : p.begun ≡ false → is_none p.floor ≡ true
  pub unfloored : is_none p.floor ≡ true → (p.callers ≡ []) × (p.done ≡ []) × (p.current ≡ None) × (p.ended ≡ false)
  pub bare : is_none p.current ≡ true → p.ended ≡ false → p.done ≡ []
  pub over : p.ended ≡ true → (p.current ≡ None) × (is_none p.floor ≡ false) × (1 ≤ length p.done)
  pub floor : (n : ℕ) → p.floor ≡ Some n → IsFloor n
  pub callers : IsCallers p.callers
  pub each : AllByRecursion IsTable p.done
  pub few : length (closed p.done p.current) ≤ 8
  pub distinct : IsDistinct bytes_eq (table_names (closed p.done p.current))
  pub current : InOpen IsOpenTable p.current

pub good_start : Good start
good_start = record {
  unbegun = λ _. refl;
  unfloored = λ _. (refl, refl, refl, refl);
  bare = λ _ _. refl;
  over = λ e. absurd (false≢true e);
  floor = λ n e. absurd cc;
  callers = record { few = omega arith; each = tt; distinct = distinct_none {X = Caller} (λ c. c.name) };
  each = tt;
  few = omega arith;
  distinct = distinct_none {X = TableModel} (λ t. t.name);
  current = nothing;
}

-- the names of a form are names
abbrev pub Named : Form → Type 0
Named (forms.Caller name calls) = is_name name ≡ true
Named (forms.Table name rows) = is_name name ≡ true
Named (forms.Column name kind mark per) = is_name name ≡ true
Named f = Unit {0}

not_both : (b : Bool) {A : Type 0} → b ≡ true → b ≡ false → A
not_both b h k = absurd (false≢true (sym k ∙ h))

pub good_version : (p : Part) (n : ℕ) → Good p → cause_of p (forms.Version n) ≡ None → Good (after p (forms.Version n))
good_version p n good e = record {
  unbegun = λ k. absurd (false≢true (sym k));
  unfloored = good.unfloored;
  bare = good.bare;
  over = good.over;
  floor = good.floor;
  callers = good.callers;
  each = good.each;
  few = good.few;
  distinct = good.distinct;
  current = good.current;
}

pub good_floor : (p : Part) (n : ℕ) → Good p → cause_of p (forms.Floor n) ≡ None → Good (after p (forms.Floor n))
good_floor p n good e =
    let h = no_cause p (forms.Floor n) e in
    let place = or_false (not p.begun) (not (is_none p.floor)) h.1.0 in
    let begun = not_false p.begun place.0 in
    let none = not_false (is_none p.floor) place.1 in
    let bounds = within_bounds 64 n h.1.1.1.0 in
    let rest = good.unfloored none in
    record {
      unbegun = λ k. not_both p.begun begun k;
      unfloored = λ k. absurd (false≢true k);
      bare = good.bare;
      over = λ k. not_both p.ended k rest.3;
      floor = λ m k. let is : n ≡ m = cc in rw (← is) (record { least = bounds.0; most = bounds.1 });
      callers = good.callers;
      each = good.each;
      few = good.few;
      distinct = good.distinct;
      current = good.current;
    }

pub good_caller : (p : Part) (name : List ℕ) (calls : ℕ) → Good p → is_name name ≡ true → cause_of p (forms.Caller name calls) ≡ None → Good (after p (forms.Caller name calls))
good_caller p name calls good named e =
    let new : Caller = record { name = name; calls = calls } in
    let h = no_cause p (forms.Caller name calls) e in
    let place = or_false (is_none p.floor || not (is_none p.current)) p.ended h.1.0 in
    let before = or_false (is_none p.floor) (not (is_none p.current)) place.0 in
    let bounds = within_bounds 65536 calls h.1.1.1.0 in
    let more = length-append p.callers (new ∷ []) in
    let room = leb-false 8 (length p.callers) h.1.1.1.1.1.1.1.0 in
    record {
      unbegun = good.unbegun;
      unfloored = λ k. not_both (is_none p.floor) k before.0;
      bare = good.bare;
      over = good.over;
      floor = good.floor;
      callers = record {
        few = omega (arith, more, room);
        each = all_push IsCaller p.callers new good.callers.each (record { name = named; least = bounds.0; most = bounds.1 });
        distinct = distinct_push (λ (c : Caller). c.name) p.callers new good.callers.distinct h.1.1.1.1.1.1.0;
      };
      each = good.each;
      few = good.few;
      distinct = good.distinct;
      current = good.current;
    }

-- ---- tables

not_empty : (n : ℕ) → n == 0 ≡ false → 1 ≤ n
not_empty n e = grind (arith, eqb-false n 0 e)

-- the open table has a column, and so all are tables
closed_all : (done : List TableModel) (current : Option TableModel) → AllByRecursion IsTable done → InOpen IsOpenTable current → in_open (λ t. length t.columns == 0) current ≡ false → AllByRecursion IsTable (closed done current)
closed_all done None all is e = all
closed_all done (Some t) all (here head) e = all_push IsTable done t all (record { head = head; some = not_empty (length t.columns) e })

pub good_table : (p : Part) (name : List ℕ) (rows : ℕ) → Good p → is_name name ≡ true → cause_of p (forms.Table name rows) ≡ None → Good (after p (forms.Table name rows))
good_table p name rows good named e =
    let new : TableModel = record { name = name; rows = rows; columns = [] } in
    let all = closed p.done p.current in
    let h = no_cause p (forms.Table name rows) e in
    let place = or_false (is_none p.floor) p.ended h.1.0 in
    let bounds = within_bounds 256 rows h.1.1.1.1.0 in
    let more = length-append all (new ∷ []) in
    let room = leb-false 8 (length all) h.1.1.1.1.1.1.1.0 in
    record {
      unbegun = good.unbegun;
      unfloored = λ k. not_both (is_none p.floor) k place.0;
      bare = λ k. absurd (false≢true k);
      over = λ k. not_both p.ended k place.1;
      floor = good.floor;
      callers = good.callers;
      each = closed_all p.done p.current good.each good.current h.1.1.1.1.1.1.1.1.0;
      few = omega (arith, more, room);
      distinct = distinct_push (λ (t : TableModel). t.name) all new good.distinct h.1.1.1.1.1.1.0;
      current = here (record { name = named; least = bounds.0; most = bounds.1; few = omega arith; each = tt; distinct = distinct_none {X = Column} (λ c. c.name) });
    }

-- ---- columns

per_fits : (mark : Label) (per : ℕ) (t : TableModel) → per_wrong mark per (Some t) ≡ false → PerFits mark t.rows per
per_fits labels.Public per t e =
    let h = or_false (not (is_within 64 per)) (nat_lt t.rows per) e in
    let bounds = within_bounds 64 per h.0 in
    (bounds.0, bounds.1, ltb-false t.rows per h.1)
per_fits labels.Protected per t e = eqb-true per 0 (not_false (eqb per 0) e)
per_fits labels.Private per t e = eqb-true per 0 (not_false (eqb per 0) e)

open_more : (t : TableModel) (c : Column) → IsOpenTable t → is_name c.name ≡ true → PerFits c.mark t.rows c.per → is_among (column_names t.columns) c.name ≡ false → nat_le 8 (length t.columns) ≡ false
    → IsOpenTable (record { name = t.name; rows = t.rows; columns = t.columns ++ c ∷ [] })
open_more t c is named per new room =
    let more = length-append t.columns (c ∷ []) in
    let left = leb-false 8 (length t.columns) room in
    record {
      name = is.name;
      least = is.least;
      most = is.most;
      few = omega (arith, more, left);
      each = all_push (IsColumn t.rows) t.columns c is.each (record { name = named; per = per });
      distinct = distinct_push (λ (d : Column). d.name) t.columns c is.distinct new;
    }

-- a column changes no table's name
names_same : (done : List TableModel) (t u : TableModel) → t.name ≡ u.name → table_names (done ++ t ∷ []) ≡ table_names (done ++ u ∷ [])
names_same done t u is = map_push (λ (v : TableModel). v.name) done t ∙ ap (λ (n : List ℕ). table_names done ++ n ∷ []) is ∙ sym (map_push (λ (v : TableModel). v.name) done u)

some_none : {X : Type 0} {x : X} → Some x ≡ None → ⊥
some_none e = absurd cc

opened : (current : Option TableModel) (t : TableModel) → current ≡ Some t → InOpen IsOpenTable current → IsOpenTable t
opened None t e is = absurd cc
opened (Some u) t e (here is) = let same : u ≡ t = cc in rw (← same) is

good_column_at : (p : Part) (t : TableModel) (name : List ℕ) (kind : Kind) (mark : Label) (per : ℕ) → p.current ≡ Some t → Good p → is_name name ≡ true → cause_of p (forms.Column name kind mark per) ≡ None → Good (after p (forms.Column name kind mark per))
good_column_at p t name kind mark per is good named e =
    let new : Column = record { name = name; kind = kind; mark = mark; per = per } in
    let wide : TableModel = record { name = t.name; rows = t.rows; columns = t.columns ++ new ∷ [] } in
    let h = no_cause p (forms.Column name kind mark per) e in
    let current : with_column p.current new ≡ Some wide = rw is refl in
    let longer : length (closed p.done (with_column p.current new)) ≡ length (closed p.done p.current) = rw (current, is) (length-append p.done (wide ∷ []) ∙ sym (length-append p.done (t ∷ []))) in
    let named_so : table_names (closed p.done (with_column p.current new)) ≡ table_names (closed p.done p.current) = rw (current, is) (names_same p.done wide t refl) in
    record {
      unbegun = good.unbegun;
      unfloored = λ k. absurd (some_none (sym is ∙ (good.unfloored k).2));
      bare = λ k. absurd (false≢true (sym (ap is_none current) ∙ k));
      over = λ k. absurd (some_none (sym is ∙ (good.over k).0));
      floor = good.floor;
      callers = good.callers;
      each = good.each;
      few = omega (arith, longer, good.few);
      distinct = rw named_so good.distinct;
      current = rw current (here (open_more t new (opened p.current t is good.current) named (per_fits mark per t (rw is at h.1.1.1.1.1.0)) (rw is at h.1.1.1.1.1.1.0) (rw is at h.1.1.1.1.1.1.1.0)));
    }

pub some_is : {X : Type 0} (o : Option X) → is_none o ≡ false → (x : X) × (o ≡ Some x)
some_is None e = absurd (false≢true (sym e))
some_is (Some x) e = (x, refl)

pub good_column : (p : Part) (name : List ℕ) (kind : Kind) (mark : Label) (per : ℕ) → Good p → is_name name ≡ true → cause_of p (forms.Column name kind mark per) ≡ None → Good (after p (forms.Column name kind mark per))
good_column p name kind mark per good named e =
    let t = some_is p.current (no_cause p (forms.Column name kind mark per) e).1.0 in
    good_column_at p t.0 name kind mark per t.1 good named e

-- ---- the end

closed_some : (done : List TableModel) (current : Option TableModel) → is_none current ≡ false → 1 ≤ length (closed done current)
closed_some done None e = absurd (false≢true (sym e))
closed_some done (Some t) e = omega (arith, length-append done (t ∷ []))

pub good_end : (p : Part) → Good p → cause_of p forms.End ≡ None → Good (after p forms.End)
good_end p good e =
    let h = no_cause p forms.End e in
    let place = or_false (is_none p.floor) p.ended h.1.0 in
    let whole = or_false (is_none p.current) (in_open (λ t. length t.columns == 0) p.current) h.1.1.1.1.1.1.1.1.0 in
    record {
      unbegun = good.unbegun;
      unfloored = λ k. not_both (is_none p.floor) k place.0;
      bare = λ _ k. absurd (false≢true (sym k));
      over = λ _. (refl, place.0, closed_some p.done p.current whole.0);
      floor = good.floor;
      callers = good.callers;
      each = closed_all p.done p.current good.each good.current whole.1;
      few = good.few;
      distinct = good.distinct;
      current = nothing;
    }
