-- Queries that a text says begin each block with a source that has no ON.
use Rattle.std.proofs.Common.{◌≡◌, ℕ, List, [], ◌∷◌, Option, Some, None, sym, ap, subst}
use Rattle.std.specs.List.{AllByRecursion}
use Rattle.pdn_sql.specs.declared.token.Placed.{Placed}
use Rattle.pdn_sql.specs.declared.query.Source.{Source}
use Rattle.pdn_sql.specs.declared.query.SqlClause.{SqlClause}
use Rattle.pdn_sql.specs.declared.query.Col.{Col}
use Rattle.pdn_sql.specs.declared.query.OrderName.{OrderName}
use Rattle.pdn_sql.specs.declared.query.Block.{Block}
use Rattle.pdn_sql.specs.declared.query.Named.{Named}
use Rattle.pdn_sql.specs.declared.query.Query.{Query}
use Rattle.pdn_sql.specs.Part.{Part, both, after, before, says_all}
use Rattle.pdn_sql.specs.declared.token.Keyword.TheVariants as words
use Rattle.pdn_sql.specs.declared.token.Symbol.TheVariants as marks
use Rattle.pdn_sql.specs.Grammar.{word_part, mark_part, parens, distinct, items, source, sources, filter, group, order, limit, block, named, next_named, nameds, withs, query, file, row}
use Rattle.pdn_sql.specs.Reading.{Says}
use Rattle.pdn_plan.specs.Answer.{StartsPlain, IsWritten}

-- ---- what a part that stands behind or before others says
pub record Some_says {A : Type 0} (a : Part A) (x : A) : Type 0 where
  pub tokens : List Placed
  pub says : a.says x tokens

of_after : {A B : Type 0} (a : Part A) (b : Part B) (y : B) (ts : List Placed) → (after a b).says y ts → Some_says b y
of_after a b y ts (x, to, (front, back, parts, first, second)) = record { tokens = back; says = subst (λ z. b.says z back) to second }

of_before : {A B : Type 0} (a : Part A) (b : Part B) (y : A) (ts : List Placed) → (before a b).says y ts → Some_says a y
of_before a b y ts (x, to, (front, back, parts, first, second)) = record { tokens = front; says = subst (λ z. a.says z front) to first }

-- what holds of each value of a part holds of each of a list of them
all_said : {A : Type 0} (P : A → Type 0) (a : Part A) → ((x : A) (ts : List Placed) → a.says x ts → P x) → (xs : List A) (ts : List Placed) → says_all a xs ts → AllByRecursion P xs
all_said P a each [] ts h = tt
all_said P a each (x ∷ xs) ts (front, back, parts, first, rest) = (each x front first, all_said P a each xs back rest)

row_said : {A : Type 0} (P : A → Type 0) (a more : Part A) → ((x : A) (ts : List Placed) → a.says x ts → P x) → ((x : A) (ts : List Placed) → more.says x ts → P x)
    → (xs : List A) (ts : List Placed) → (row a more).says xs ts → AllByRecursion P xs
row_said P a more one next xs ts (l, to, (front, back, parts, first, rest)) = subst (λ ys. AllByRecursion P ys) to (one l.0 front first, all_said P more next l.1 back rest)

-- ---- from a source to a file
source_plain : (s : Source) (ts : List Placed) → source.says s ts → s.on ≡ []
unfolding source
source_plain s ts (x, to, rest) = ap (λ (t : Source). t.on) (sym to)

sources_plain : (ss : List Source) (ts : List Placed) → sources.says ss ts → StartsPlain ss
unfolding sources
sources_plain ss ts (l, to, (front, back, parts, first, rest)) = subst StartsPlain to (source_plain l.0 front first)

-- a block from its FROM on
abbrev from_on : Part (List Source × (List SqlClause × ((List Col × Option ℕ) × (List OrderName × Option ℕ))))
from_on = both sources (both filter (both group (both order limit)))

block_plain : (b : Block) (ts : List Placed) → block.says b ts → StartsPlain b.sources
unfolding block
block_plain b ts (x, to, h) =
    let behind = of_after (word_part words.Select) (both distinct (both items (after (word_part words.From) from_on))) x ts h in
    let (chosen, others, parts, first, rest) = behind.says in
    let (listed, from, parts', first', rest') = rest in
    let behind' = of_after (word_part words.From) from_on x.1.1 from rest' in
    let (front, back, parts'', said, others') = behind'.says in
    subst (λ (c : Block). StartsPlain c.sources) to (sources_plain x.1.1.0 front said)

named_plain : (n : Named) (ts : List Placed) → named.says n ts → StartsPlain n.block.sources
unfolding named
named_plain n ts (x, to, (front, back, parts, first, rest)) =
    let behind = of_after (word_part words.As) (parens block) x.1 back rest in
    let inside = of_after (mark_part marks.Open) (before block (mark_part marks.Close)) x.1 behind.tokens behind.says in
    let body = of_before block (mark_part marks.Close) x.1 inside.tokens inside.says in
    subst (λ (m : Named). StartsPlain m.block.sources) to (block_plain x.1 body.tokens body.says)

next_named_plain : (n : Named) (ts : List Placed) → next_named.says n ts → StartsPlain n.block.sources
unfolding next_named
next_named_plain n ts h = let behind = of_after (mark_part marks.Comma) named n ts h in named_plain n behind.tokens behind.says

nameds_plain : (ns : List Named) (ts : List Placed) → nameds.says ns ts → AllByRecursion (λ n. StartsPlain n.block.sources) ns
unfolding nameds
nameds_plain ns ts h = row_said (λ n. StartsPlain n.block.sources) named next_named named_plain next_named_plain ns ts h

withs_plain : (ns : List Named) (ts : List Placed) → withs.says ns ts → AllByRecursion (λ n. StartsPlain n.block.sources) ns
unfolding withs
withs_plain ns ts (None, to, h) = subst (λ ms. AllByRecursion (λ n. StartsPlain n.block.sources) ms) to tt
withs_plain ns ts (Some ms, to, h) =
    let behind = of_after (word_part words.With) nameds ms ts h in
    subst (λ ms. AllByRecursion (λ n. StartsPlain n.block.sources) ms) to (nameds_plain ms behind.tokens behind.says)

query_written : (q : Query) (ts : List Placed) → query.says q ts → IsWritten q
unfolding query
query_written q ts (x, to, (front, back, parts, first, rest)) =
    let main = of_before block (mark_part marks.Semicolon) x.1 back rest in
    subst IsWritten to (withs_plain x.0 front first, block_plain x.1 main.tokens main.says)

pub said_written : (most : ℕ) (bytes : List ℕ) (queries : List Query) → Says most bytes queries → AllByRecursion IsWritten queries
unfolding file
said_written most bytes queries h = row_said IsWritten query query query_written query_written queries _ h
