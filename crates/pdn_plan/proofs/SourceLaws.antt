-- The sources of a block, as bound and as written.
use Rattle.std.proofs.Common.{◌≡◌, ℕ, ◌+◌, ◌<◌, Bool, true, ◌&&◌, List, [], ◌∷◌, ◌++◌, map, length, sym, refl, ap, ap₂, ◌∙◌, subst, Option, None, arith, length-append, append_assoc, is_none}
use Rattle.std.specs.List.{AllByRecursion, flat_map}
use Rattle.std.proofs.lemmas.List.{map-append}
use Rattle.pdn_base.specs.declared.value.Value.{Value}
use Rattle.pdn_base.specs.declared.cond.Cmp.{Cmp}
use Rattle.pdn_base.specs.declared.cond.Operand.{Operand}
use Rattle.pdn_base.specs.declared.cond.Operand.TheVariants as operand
use Rattle.pdn_base.specs.Conditions.{meets}
use Rattle.pdn_base.specs.Bags.{pairs}
use Rattle.pdn_base.specs.Operators.{joined}
use Rattle.pdn_schema.specs.Models.{SchemaModel}
use Rattle.pdn_schema.specs.Names.{is_among}
use Rattle.pdn_sql.specs.declared.query.Source.{Source}
use Rattle.pdn_tree.specs.Meaning.{Rows, mean}
use Rattle.pdn_tree.specs.Columns.{Clauses, Names, OperandNames, CmpNames}
use Rattle.pdn_plan.specs.Splitting.{split, ons, left_by, clauses_columns, operand_columns, cmp_columns}
use Rattle.pdn_plan.specs.Names.{or_else, refuse_if, cond_refusal, placed}
use Rattle.pdn_plan.specs.Planning.{relation, plan_of, source_name, seen_by, scope_of, bounds}
use Rattle.pdn_plan.specs.Binding.{sources_refusal}
use Rattle.pdn_plan.specs.Answer.{Title, Known, Standing, standing, all_titles, ons_true, TablesFit, StartsPlain}
use Rattle.pdn_plan.specs.Answer as answer
use Rattle.pdn_plan.proofs.Blocks as plans
use Rattle.pdn_tree.proofs.ColumnLaws.{meets-append, names-weaker}
use Rattle.pdn_plan.proofs.KeepLaws.{AllSound}
use Rattle.pdn_plan.proofs.Chosen.{NoFirstOn, width_of}
use Rattle.pdn_plan.proofs.Looking.{or_none, title_of, placed-true, cond-within}
use Rattle.pdn_plan.proofs.BlockLaws.{AllMatch, Stands, stands}
use Rattle.pdn_plan.specs.declared.scope.Refusal.{Refusal}
use Rattle.pdn_plan.specs.declared.scope.Seen.{Seen}
use Rattle.pdn_plan.specs.declared.scope.Earlier.{Earlier}

-- what is known of all sources
abbrev pub AllStand : (schema : SchemaModel) (tables : ℕ → Rows) (es : List Earlier) (ks : List Known) → List Seen → List Source → Type 0
AllStand schema tables es ks scope [] = Unit {0}
AllStand schema tables es ks scope (s ∷ ss) =
    Stands schema tables es ks s
    × Names (λ c. c < length (scope ++ seen_by schema es s)) (placed (scope ++ seen_by schema es s) s.on)
    × AllStand schema tables es ks (scope ++ seen_by schema es s) ss

pub all-stand : (schema : SchemaModel) (tables : ℕ → Rows) (es : List Earlier) (ks : List Known) → TablesFit tables 0 schema.tables → AllMatch tables es ks
    → (before : List (List ℕ)) (scope : List Seen) (ss : List Source) → sources_refusal schema es before scope ss ≡ None → AllStand schema tables es ks scope ss
all-stand schema tables es ks fit all before scope [] e = tt
all-stand schema tables es ks fit all before scope (s ∷ ss) e =
    let more : List Seen = scope ++ seen_by schema es s in
    let rest : Option Refusal = sources_refusal schema es (before ++ source_name s ∷ []) more ss in
    let here = or_none (refuse_if (is_none (relation schema es s.name.text)) 1 s.name.text) (or_else (refuse_if (is_among before (source_name s)) 3 (source_name s)) (or_else (cond_refusal more s.on) (or_else rest None))) e in
    let alias = or_none (refuse_if (is_among before (source_name s)) 3 (source_name s)) (or_else (cond_refusal more s.on) (or_else rest None)) here.1 in
    let on = or_none (cond_refusal more s.on) (or_else rest None) alias.1 in
    let last = or_none rest None on.1 in
    (stands schema tables es ks s fit all here.0, cond-within more s.on on.0, all-stand schema tables es ks fit all (before ++ source_name s ∷ []) more ss last.0)

pub titles-are : (schema : SchemaModel) (tables : ℕ → Rows) (es : List Earlier) (ks : List Known) (scope : List Seen) (ss : List Source) → AllStand schema tables es ks scope ss
    → all_titles (map (standing schema tables ks) ss) ≡ map title_of (scope_of schema es ss)
titles-are schema tables es ks scope [] h = refl
titles-are schema tables es ks scope (s ∷ ss) h =
    ap₂ (λ xs ys. xs ++ ys) h.0.titles (titles-are schema tables es ks (scope ++ seen_by schema es s) ss h.2)
    ∙ sym (map-append title_of (seen_by schema es s) (scope_of schema es ss))

pub ons-are : (schema : SchemaModel) (tables : ℕ → Rows) (es : List Earlier) (ks : List Known) (scope : List Seen) (ss : List Source) (row : List Value) → AllStand schema tables es ks scope ss
    → meets (ons (bounds schema es scope ss)) row ≡ ons_true (map title_of scope) row (map (standing schema tables ks) ss)
ons-are schema tables es ks scope [] row h = refl
ons-are schema tables es ks scope (s ∷ ss) row h =
    let more : List Seen = scope ++ seen_by schema es s in
    let titles : map title_of more ≡ map title_of scope ++ (standing schema tables ks s).titles = map-append title_of scope (seen_by schema es s) ∙ ap (λ ts. map title_of scope ++ ts) (sym h.0.titles) in
    meets-append (placed more s.on) (ons (bounds schema es more ss)) row
    ∙ ap₂ (λ a b. a && b) (placed-true more row s.on) (ons-are schema tables es ks more ss row h.2)
    ∙ ap (λ ts. answer.all_true ts row s.on && ons_true ts row (map (standing schema tables ks) ss)) titles

pub product-is : (schema : SchemaModel) (tables : ℕ → Rows) (es : List Earlier) (ks : List Known) (needed : ℕ → Bool) (scope : List Seen) (ss : List Source) (from : ℕ) (asked : Clauses) (rows : Rows) → AllStand schema tables es ks scope ss
    → plans.product (mean tables) rows (split needed from asked (bounds schema es scope ss)) ≡ answer.product rows (map (standing schema tables ks) ss)
product-is schema tables es ks needed scope [] from asked rows h = refl
product-is schema tables es ks needed scope (s ∷ ss) from asked rows h =
    let width : ℕ = length (seen_by schema es s) in
    product-is schema tables es ks needed (scope ++ seen_by schema es s) ss (from + width) (left_by from width asked) (pairs joined rows (mean tables (plan_of (relation schema es s.name.text)))) h.2
    ∙ ap (λ more. answer.product (pairs joined rows more) (map (standing schema tables ks) ss)) h.0.rows

pub width-is : (schema : SchemaModel) (es : List Earlier) (scope : List Seen) (ss : List Source) → width_of (length scope) (bounds schema es scope ss) ≡ length (scope ++ scope_of schema es ss)
width-is schema es scope [] = omega (arith, length-append scope [])
width-is schema es scope (s ∷ ss) =
    ap (λ n. width_of n (bounds schema es (scope ++ seen_by schema es s) ss)) (sym (length-append scope (seen_by schema es s)))
    ∙ width-is schema es (scope ++ seen_by schema es s) ss
    ∙ ap length (append_assoc scope (seen_by schema es s) (scope_of schema es ss))

-- ---- columns that are named

pub names-from : (P : ℕ → Type 0) (cs : Clauses) → AllByRecursion P (clauses_columns cs) → Names P cs
names-from P cs h = clauses cs h
  where
    parts : (xs ys : List ℕ) → AllByRecursion P (xs ++ ys) → AllByRecursion P xs × AllByRecursion P ys
    parts [] ys h = (tt, h)
    parts (x ∷ xs) ys h = let next = parts xs ys h.1 in ((h.0, next.0), next.1)

    operand' : (o : Operand) → AllByRecursion P (operand_columns o) → OperandNames P o
    operand' (operand.Term t) h = h.0
    operand' (operand.Int n) h = tt
    operand' (operand.Code c) h = tt

    cmps : (cs : List Cmp) → AllByRecursion P (flat_map cmp_columns cs) → AllByRecursion (CmpNames P) cs
    cmps [] h = tt
    cmps (c ∷ cs) h = let here = parts (cmp_columns c) (flat_map cmp_columns cs) h in ((here.0.0, operand' c.right here.0.1), cmps cs here.1)

    clauses : (cs : Clauses) → AllByRecursion P (clauses_columns cs) → Names P cs
    clauses [] h = tt
    clauses (c ∷ cs) h = let here = parts (flat_map cmp_columns c) (clauses_columns cs) h in (cmps c here.0, clauses cs here.1)

pub names-both : (P Q : ℕ → Type 0) (cs : Clauses) → Names P cs → Names Q cs → Names (λ c. P c × Q c) cs
names-both P Q cs h k = clauses cs h k
  where
    operand' : (o : Operand) → OperandNames P o → OperandNames Q o → OperandNames (λ c. P c × Q c) o
    operand' (operand.Term t) h k = (h, k)
    operand' (operand.Int n) h k = tt
    operand' (operand.Code c) h k = tt

    cmps : (cs : List Cmp) → AllByRecursion (CmpNames P) cs → AllByRecursion (CmpNames Q) cs → AllByRecursion (CmpNames (λ c. P c × Q c)) cs
    cmps [] h k = tt
    cmps (c ∷ cs) h k = (((h.0.0, k.0.0), operand' c.right h.0.1 k.0.1), cmps cs h.1 k.1)

    clauses : (cs : Clauses) → Names P cs → Names Q cs → Names (λ c. P c × Q c) cs
    clauses [] h k = tt
    clauses (c ∷ cs) h k = (cmps c h.0 k.0, clauses cs h.1 k.1)

pub names-parts : (P : ℕ → Type 0) (cs ds : Clauses) → Names P (cs ++ ds) → Names P cs × Names P ds
names-parts P [] ds h = (tt, h)
names-parts P (c ∷ cs) ds h = let next = names-parts P cs ds h.1 in ((h.0, next.0), next.1)

pub all-sound : (schema : SchemaModel) (tables : ℕ → Rows) (es : List Earlier) (ks : List Known) (needed : ℕ → Bool) (scope : List Seen) (ss : List Source) → AllStand schema tables es ks scope ss
    → Names (λ c. needed c ≡ true) (ons (bounds schema es scope ss)) → AllSound (mean tables) needed (length scope) (bounds schema es scope ss)
all-sound schema tables es ks needed scope [] h n = tt
all-sound schema tables es ks needed scope (s ∷ ss) h n =
    let more : List Seen = scope ++ seen_by schema es s in
    let two = names-parts (λ c. needed c ≡ true) (placed more s.on) (ons (bounds schema es more ss)) n in (
      record {
        wide = h.0.wide;
        on_needed = names-both _ _ (placed more s.on) two.0 (names-weaker _ _ (λ c k. omega (arith, k, length-append scope (seen_by schema es s))) (placed more s.on) h.1);
      },
      subst (λ (from : ℕ). AllSound (mean tables) needed from (bounds schema es more ss)) (length-append scope (seen_by schema es s)) (all-sound schema tables es ks needed more ss h.2 two.1),
    )

pub first-plain : (schema : SchemaModel) (es : List Earlier) (ss : List Source) → StartsPlain ss → NoFirstOn (bounds schema es [] ss)
first-plain schema es [] h = h
first-plain schema es (s ∷ ss) h = ap (placed (seen_by schema es s)) h
