-- What binding refuses, step by step.
use Rattle.std.proofs.Common.{◌≡◌, ℕ, List, [], ◌∷◌, ◌++◌, Option, Some, None, is_none, is_some, length, ap, ap₂, ◌∙◌, sym, refl, subst, Bool, true, false}
use Rattle.pdn_schema.specs.Models.{SchemaModel}
use Rattle.pdn_schema.specs.Names.{is_among}
use Rattle.pdn_sql.specs.declared.query.Source.{Source}
use Rattle.pdn_sql.specs.declared.query.Block.{Block}
use Rattle.pdn_sql.specs.declared.query.Named.{Named}
use Rattle.pdn_plan.specs.declared.scope.Bound.{Bound}
use Rattle.pdn_plan.specs.declared.scope.Refusal.{Refusal}
use Rattle.pdn_plan.specs.declared.scope.Relation.{Relation}
use Rattle.pdn_plan.specs.declared.scope.Seen.{Seen}
use Rattle.pdn_plan.specs.declared.scope.Earlier.{Earlier}
use Rattle.pdn_tree.specs.declared.node.Node.{Node}
use Rattle.pdn_plan.specs.declared.steps.Step.{Step}
use Rattle.pdn_tree.specs.Columns.{place_in}
use Rattle.pdn_plan.specs.Steps.{step_of, items_at}
use Rattle.pdn_plan.specs.Names.{or_else, refuse_if, cond_refusal, place}
use Rattle.pdn_plan.specs.Planning.{relation, columns_of, source_name, seen_as, scope_of, bounds, bound_with, kept, step_node, step_columns, step_width, block_items, cut_to, chosen_node, distinct_if, block_node}
use Rattle.pdn_plan.specs.Binding.{sources_refusal, joins_below, after_given, after_sources, block_refusal, with_refusal}
use Rattle.pdn_plan.specs.Keeping.{AreKept, all_kept, kept_as, with_refusals}
use Rattle.pdn_plan.proofs.KeepingLaws.{as_earlier, with-alike, refusals-alike, kept-once, kept-next}

or-none : (r : Option Refusal) → or_else r None ≡ r
or-none None = refl
or-none (Some r) = refl

first-is : (a b : Option Refusal) → is_some a ≡ true → or_else a b ≡ a
first-is None b e = absurd cc
first-is (Some r) b e = refl

none-is : (a b : Option Refusal) → is_some a ≡ false → or_else a b ≡ b
none-is None b e = refl
none-is (Some r) b e = absurd cc

three : (a b c d : Option Refusal) → or_else a (or_else b (or_else c (or_else d None))) ≡ or_else (or_else a (or_else b c)) d
three None None None d = or-none d
three None None (Some r) d = refl
three None (Some r) c d = refl
three (Some r) b c d = refl

instead : (a b c : Option Refusal) → a ≡ b → or_else a c ≡ or_else b c
instead a b c e = ap (λ r. or_else r c) e

-- what one source is refused for
abbrev one_source : List (List ℕ) → Source → Bool → List Seen → Option Refusal
one_source before s unknown scope = or_else (refuse_if unknown 1 s.name.text) (or_else (refuse_if (is_among before (source_name s)) 3 (source_name s)) (cond_refusal scope s.on))

sources-split : (schema : SchemaModel) (es : List Earlier) (before : List (List ℕ)) (scope : List Seen) (s : Source) (ss : List Source) (found : Option Relation) (more : List Seen)
    → found ≡ relation schema es s.name.text → more ≡ scope ++ seen_as (source_name s) (columns_of found)
    → sources_refusal schema es before scope (s ∷ ss) ≡ or_else (one_source before s (is_none found) more) (sources_refusal schema es (before ++ source_name s ∷ []) more ss)
sources-split schema es before scope s ss found more f m =
    three (refuse_if (is_none (relation schema es s.name.text)) 1 s.name.text) (refuse_if (is_among before (source_name s)) 3 (source_name s)) _ _
    ∙ ap₂ (λ (unknown : Bool) (xs : List Seen). or_else (one_source before s unknown xs) (sources_refusal schema es (before ++ source_name s ∷ []) xs ss))
    (ap is_none (sym f)) (ap (λ r. scope ++ seen_as (source_name s) (columns_of r)) (sym f) ∙ sym m)

pub refused_here : (schema : SchemaModel) (es : List Earlier) (before : List (List ℕ)) (scope : List Seen) (all : List Source) (s : Source) (ss : List Source) (found : Option Relation) (more : List Seen) (here : Option Refusal)
    → all ≡ s ∷ ss → found ≡ relation schema es s.name.text → more ≡ scope ++ seen_as (source_name s) (columns_of found)
    → here ≡ one_source before s (is_none found) more → is_some here ≡ true → here ≡ sources_refusal schema es before scope all
refused_here schema es before scope all s ss found more here a f m h e =
    sym (ap (sources_refusal schema es before scope) a ∙ sources-split schema es before scope s ss found more f m ∙ instead _ _ _ (sym h) ∙ first-is here _ e)

pub refused_later : (schema : SchemaModel) (es : List Earlier) (before : List (List ℕ)) (scope : List Seen) (all : List Source) (s : Source) (ss : List Source) (found : Option Relation) (more : List Seen) (here : Option Refusal) (names : List (List ℕ)) (later : Option Refusal)
    → all ≡ s ∷ ss → found ≡ relation schema es s.name.text → more ≡ scope ++ seen_as (source_name s) (columns_of found)
    → here ≡ one_source before s (is_none found) more → is_some here ≡ false → names ≡ before ++ source_name s ∷ [] → later ≡ sources_refusal schema es names more ss
    → later ≡ sources_refusal schema es before scope all
refused_later schema es before scope all s ss found more here names later a f m h e n l =
    sym (ap (sources_refusal schema es before scope) a ∙ sources-split schema es before scope s ss found more f m ∙ instead _ _ _ (sym h) ∙ none-is here _ e
    ∙ ap (λ ns. sources_refusal schema es ns more ss) (sym n) ∙ sym l)

pub block_later : (schema : SchemaModel) (es : List Earlier) (b : Block) (here later : Option Refusal) (scope : List Seen) (bs : List Bound) (joins : Bool)
    → here ≡ sources_refusal schema es [] [] b.sources → is_some here ≡ false → scope ≡ scope_of schema es b.sources → bs ≡ bounds schema es [] b.sources → joins ≡ joins_below bs
    → later ≡ after_given joins scope bs b → later ≡ block_refusal schema es b
unfolding after_sources
block_later schema es b here later scope bs joins h e s k j l =
    l ∙ ap (λ x. after_given x scope bs b) j ∙ ap₂ (λ (xs : List Seen) (cs : List Bound). after_given (joins_below cs) xs cs b) s k
    ∙ sym (instead _ _ _ (sym h) ∙ none-is here _ e)

-- ---- the blocks of WITH

pub kept_more : (schema : SchemaModel) (es : List Earlier) (n : Named) (block : Earlier) (more : List Earlier) → AreKept es → block ≡ kept_as (as_earlier schema es n) → more ≡ es ++ block ∷ [] → AreKept more
kept_more schema es n block more h b m = subst AreKept (sym (m ∙ ap (λ x. es ++ x ∷ []) b)) (kept-once schema es n h)

next-kept : (schema : SchemaModel) (es : List Earlier) (n : Named) (block : Earlier) (more : List Earlier) → AreKept es → block ≡ kept_as (as_earlier schema es n) → more ≡ es ++ block ∷ [] → all_kept more ≡ all_kept (es ++ as_earlier schema es n ∷ [])
next-kept schema es n block more h b m = ap all_kept (m ∙ ap (λ x. es ++ x ∷ []) b) ∙ kept-next schema es n h

pub refusals_on : (schema : SchemaModel) (es : List Earlier) (all : List Named) (n : Named) (ns : List Named) (block : Earlier) (more : List Earlier) → AreKept es → all ≡ n ∷ ns → with_refusal schema es n ≡ None → block ≡ kept_as (as_earlier schema es n) → more ≡ es ++ block ∷ []
    → with_refusals schema more ns ≡ with_refusals schema es all
refusals_on schema es all n ns block more h a none b m =
    refusals-alike schema ns more (es ++ as_earlier schema es n ∷ []) (next-kept schema es n block more h b m)
    ∙ sym (ap (with_refusals schema es) a ∙ instead _ _ _ none)

pub bound_on : (schema : SchemaModel) (es : List Earlier) (all : List Named) (n : Named) (ns : List Named) (block : Earlier) (more : List Earlier) → AreKept es → all ≡ n ∷ ns → block ≡ kept_as (as_earlier schema es n) → more ≡ es ++ block ∷ []
    → all_kept (bound_with schema more ns) ≡ all_kept (bound_with schema es all)
bound_on schema es all n ns block more h a b m =
    with-alike schema ns more (es ++ as_earlier schema es n ∷ []) (next-kept schema es n block more h b m)
    ∙ sym (ap (λ xs. all_kept (bound_with schema es xs)) a)

-- ---- the tree of a block

pub block_node_is : (scope : List Seen) (bs : List Bound) (b : Block) (ks : List ℕ) (step : Step) (chosen tree cut out : Node) (items : List ℕ) (width : ℕ)
    → ks ≡ kept scope bs b → step ≡ step_of (place scope) b → chosen ≡ chosen_node scope bs b → tree ≡ step_node ks step chosen
    → items ≡ items_at (λ c. place_in (step_columns ks step) (place scope c)) (length (step_columns ks step)) b.items → width ≡ step_width ks step
    → cut ≡ cut_to width items tree → out ≡ distinct_if b.distinct cut → out ≡ block_node scope bs b
unfolding block_node
block_node_is scope bs b ks step chosen tree cut out items width k s c t i w u o =
    o ∙ ap (distinct_if b.distinct) (u
    ∙ ap₂ (λ (n : ℕ) (xs : List ℕ). cut_to n xs tree) (w ∙ ap₂ step_width k s)
    (i ∙ ap₂ (λ (xs : List ℕ) (st : Step). items_at (λ c. place_in (step_columns xs st) (place scope c)) (length (step_columns xs st)) b.items) k s)
    ∙ ap (cut_to (step_width (kept scope bs b) (step_of (place scope) b)) (block_items scope bs b))
    (t ∙ ap₂ (λ (xs : List ℕ) (st : Step). step_node xs st chosen) k s ∙ ap (step_node (kept scope bs b) (step_of (place scope) b)) c))
