-- The tree of a block means what the block says.
use Rattle.std.proofs.Common.{◌≡◌, ℕ, suc, Bool, true, false, cond, List, [], ◌∷◌, map, find, length, sym, refl, ap, ◌∙◌, subst, Option, Some, None, is_none}
use Rattle.std.specs.Str.{bytes_eq}
use Rattle.std.proofs.lemmas.List.{length-map}
use Rattle.pdn_schema.specs.declared.schema.Column.{Column}
use Rattle.pdn_schema.specs.Models.{TableModel, SchemaModel}
use Rattle.pdn_sql.specs.declared.query.Name.{Name}
use Rattle.pdn_sql.specs.declared.query.Source.{Source}
use Rattle.pdn_tree.specs.declared.node.Node.TheVariants as node
use Rattle.pdn_tree.specs.Meaning.{Rows, mean}
use Rattle.pdn_tree.specs.Columns.{Wide}
use Rattle.pdn_plan.specs.Names.{refuse_if}
use Rattle.pdn_plan.specs.Steps.{alias_or}
use Rattle.pdn_plan.specs.Planning.{table_from, given_column, earlier_or, relation, columns_of, plan_of, source_name, seen_as, seen_by}
use Rattle.pdn_plan.specs.Answer.{NamedRows, Known, table_rows, known_or, stands_for, titled, known_as, standing, TablesFit}
use Rattle.pdn_plan.proofs.Pushing.{map-map}
use Rattle.pdn_tree.proofs.NodeLaws.{mean-Scan}
use Rattle.pdn_plan.proofs.Looking.{title_of}
use Rattle.pdn_plan.specs.declared.scope.Given.{Given}
use Rattle.pdn_plan.specs.declared.scope.Relation.{Relation}
use Rattle.pdn_plan.specs.declared.scope.Earlier.{Earlier}

some-same : {X : Type 0} (x y : X) → Some x ≡ Some y → x ≡ y
some-same x y e = cc

-- what a name stands for when it is bound, and when it is answered
pub record Matches (tables : ℕ → Rows) (r : Relation) (n : NamedRows) : Type 0 where
  pub names : map (λ g. g.name) r.columns ≡ n.columns
  pub rows : mean tables r.plan ≡ n.rows
  pub wide : Wide (length r.columns) (mean tables r.plan)

abbrev pub AllMatch : (ℕ → Rows) → List Earlier → List Known → Type 0
AllMatch tables [] [] = Unit {0}
AllMatch tables (e ∷ es) (k ∷ ks) = (e.name ≡ k.name) × Matches tables e.gives k.gives × AllMatch tables es ks
AllMatch tables es ks = ⊥

given-names : (columns : List Column) → map (λ g. g.name) (map given_column columns) ≡ map (λ c. c.name) columns
given-names columns = map-map (λ g. g.name) given_column columns

table-matches : (tables : ℕ → Rows) (at : ℕ) (t : TableModel) → Wide (length t.columns) (tables at)
    → Matches tables (record { columns = map given_column t.columns; plan = node.Scan at }) (record { columns = map (λ c. c.name) t.columns; rows = tables at })
table-matches tables at t wide = record {
  names = given-names t.columns;
  rows = mean-Scan tables at;
  wide = subst (λ (n : ℕ). Wide n (mean tables (node.Scan at))) (sym (length-map t.columns given_column)) (subst (λ (rows : Rows). Wide (length t.columns) rows) (sym (mean-Scan tables at)) wide);
}

tables-match : (tables : ℕ → Rows) (at : ℕ) (ts : List TableModel) (name : List ℕ) (r : Relation) → TablesFit tables at ts → table_from at ts name ≡ Some r → Matches tables r (table_rows tables at ts name)
tables-match tables at [] name r fit e = absurd cc
tables-match tables at (t ∷ ts) name r fit e = one (bytes_eq name t.name) e (tables-match tables (suc at) ts name r fit.1)
  where
    one : (b : Bool) → cond b (Some (record { columns = map given_column t.columns; plan = node.Scan at })) (table_from (suc at) ts name) ≡ Some r
        → (table_from (suc at) ts name ≡ Some r → Matches tables r (table_rows tables (suc at) ts name))
        → Matches tables r (cond b (record { columns = map (λ c. c.name) t.columns; rows = tables at }) (table_rows tables (suc at) ts name))
    one true f next = subst (λ (x : Relation). Matches tables x (record { columns = map (λ c. c.name) t.columns; rows = tables at })) (some-same _ r f) (table-matches tables at t fit.0)
    one false f next = next f

known-match : (tables : ℕ → Rows) (es : List Earlier) (ks : List Known) (name : List ℕ) (next : Option Relation) (last : NamedRows) (r : Relation) → AllMatch tables es ks
    → (next ≡ Some r → Matches tables r last) → earlier_or (find (λ e. bytes_eq name e.name) es) next ≡ Some r → Matches tables r (known_or (find (λ k. bytes_eq name k.name) ks) last)
known-match tables [] [] name next last r all h e = h e
known-match tables [] (k ∷ ks) name next last r all h e = absurd all
known-match tables (x ∷ es) [] name next last r all h e = absurd all
known-match tables (x ∷ es) (k ∷ ks) name next last r all h e =
    subst (λ (n : List ℕ). Matches tables r (known_or (cond (bytes_eq name n) (Some k) (find (λ k. bytes_eq name k.name) ks)) last)) all.0
    (one (bytes_eq name x.name) e (known-match tables es ks name next last r all.2 h))
  where
    one : (b : Bool) → earlier_or (cond b (Some x) (find (λ e. bytes_eq name e.name) es)) next ≡ Some r
        → (earlier_or (find (λ e. bytes_eq name e.name) es) next ≡ Some r → Matches tables r (known_or (find (λ k. bytes_eq name k.name) ks) last))
        → Matches tables r (known_or (cond b (Some k) (find (λ k. bytes_eq name k.name) ks)) last)
    one true f go = subst (λ (y : Relation). Matches tables y k.gives) (some-same _ r f) all.1
    one false f go = go f

-- what a source's name stands for
pub looked-up : (schema : SchemaModel) (tables : ℕ → Rows) (es : List Earlier) (ks : List Known) (name : List ℕ) (r : Relation) → TablesFit tables 0 schema.tables → AllMatch tables es ks
    → relation schema es name ≡ Some r → Matches tables r (stands_for schema tables ks name)
looked-up schema tables es ks name r fit all e =
    known-match tables es ks name (table_from 0 schema.tables name) (table_rows tables 0 schema.tables name) r all (tables-match tables 0 schema.tables name r fit) e

-- ---- one source after the other

-- what is known of a source that is found
pub record Stands (schema : SchemaModel) (tables : ℕ → Rows) (es : List Earlier) (ks : List Known) (s : Source) : Type 0 where
  pub titles : (standing schema tables ks s).titles ≡ map title_of (seen_by schema es s)
  pub rows : mean tables (plan_of (relation schema es s.name.text)) ≡ (standing schema tables ks s).rows
  pub wide : Wide (length (seen_by schema es s)) (mean tables (plan_of (relation schema es s.name.text)))

titles-same : (alias : List ℕ) (columns : List Given) (names : List (List ℕ)) → map (λ g. g.name) columns ≡ names → titled alias names ≡ map title_of (seen_as alias columns)
titles-same alias columns names e = ap (titled alias) (sym e) ∙ map-map _ _ columns ∙ sym (map-map title_of _ columns)

known-as : (alias : Option Name) (name : Name) → known_as alias name ≡ alias_or alias name.text
known-as None name = refl
known-as (Some alias) name = refl

pub stands : (schema : SchemaModel) (tables : ℕ → Rows) (es : List Earlier) (ks : List Known) (s : Source) → TablesFit tables 0 schema.tables → AllMatch tables es ks
    → refuse_if (is_none (relation schema es s.name.text)) 1 s.name.text ≡ None → Stands schema tables es ks s
stands schema tables es ks s fit all h = one (relation schema es s.name.text) refl h
  where
    found : (r : Relation) → relation schema es s.name.text ≡ Some r → Matches tables r (stands_for schema tables ks s.name.text)
    found r e = looked-up schema tables es ks s.name.text r fit all e

    one : (o : Option Relation) → relation schema es s.name.text ≡ o → refuse_if (is_none o) 1 s.name.text ≡ None → Stands schema tables es ks s
    one None e k = absurd cc
    one (Some r) e k = record {
      titles = ap (λ alias. titled alias (stands_for schema tables ks s.name.text).columns) (known-as s.alias s.name) ∙ titles-same (alias_or s.alias s.name.text) r.columns _ (found r e).names ∙ ap (λ o. map title_of (seen_as (source_name s) (columns_of o))) (sym e);
      rows = ap (λ o. mean tables (plan_of o)) e ∙ (found r e).rows;
      wide = subst (λ (o : Option Relation). Wide (length (seen_as (source_name s) (columns_of o))) (mean tables (plan_of o))) (sym e)
          (subst (λ (n : ℕ). Wide n (mean tables r.plan)) (sym (length-map r.columns _)) (found r e).wide);
    }
