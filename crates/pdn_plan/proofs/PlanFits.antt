-- The plan of a query that is not refused fits the schema.
use Rattle.std.proofs.Common.{◌≡◌, ℕ, suc, ◌+◌, ◌<◌, Bool, true, false, ◌&&◌, nat_lt, cond, List, [], ◌∷◌, ◌++◌, map, count_by, length, sym, ap, ap₂, ◌∙◌, subst, None, arith, ltb-false, le-leb}
use Rattle.std.specs.List.{AllByRecursion}
use Rattle.std.specs.Str.{bytes_eq}
use Rattle.std.proofs.lemmas.List.{length-map}
use Rattle.std.proofs.lemmas.List.Sums.{sum_by-cons}
use Rattle.pdn_base.specs.declared.marks.Kind.{Kind}
use Rattle.pdn_base.specs.declared.order.Key.{Key}
use Rattle.pdn_schema.specs.Models.{SchemaModel}
use Rattle.pdn_schema.specs.Schemas.{IsSchema}
use Rattle.pdn_sql.specs.declared.query.OrderName.{OrderName}
use Rattle.pdn_sql.specs.declared.query.Block.{Block}
use Rattle.pdn_sql.specs.declared.query.Named.{Named}
use Rattle.pdn_sql.specs.declared.query.Query.{Query}
use Rattle.pdn_tree.specs.Columns.{has, Below}
use Rattle.pdn_plan.specs.Names.{first_of, refuse_if}
use Rattle.pdn_plan.specs.Steps.{firsts, name_place, order_key, order_keys, output_name}
use Rattle.pdn_plan.specs.Planning.{block_relation, bound_with, main_relation, root}
use Rattle.pdn_plan.specs.Binding.{block_refusal, with_refusal, order_refusal, main_refusal, blocks_refusal, refusal}
use Rattle.pdn_tree.specs.Shapes.{Shape, key_columns, nodes, fits}
use Rattle.pdn_plan.specs.Answer.{StartsPlain, IsWritten}
use Rattle.pdn_plan.proofs.Looking.{or_none, once, all-append}
use Rattle.pdn_tree.proofs.ShapeLaws.{Gives, gives-Top}
use Rattle.pdn_plan.proofs.KindLaws.{all-within}
use Rattle.pdn_plan.proofs.CondFits.{no-cause}
use Rattle.pdn_plan.proofs.SourceFits.{RelationFits, EarlierFit}
use Rattle.pdn_plan.proofs.BlockFits.{block-fits}
use Rattle.pdn_plan.specs.declared.scope.Earlier.{Earlier}
use Rattle.pdn_plan.specs.declared.scope.Relation.{Relation}

-- ---- the order of the answer

name-below : (outputs : List (List ℕ)) (name : List ℕ) (n : ℕ) → count_by (bytes_eq name) outputs ≡ suc n → name_place outputs name < length outputs
name-below [] name n e = absurd cc
name-below (x ∷ xs) name n e = one (bytes_eq name x) (sym (sum_by-cons (λ y. cond (bytes_eq name y) 1 0) x xs) ∙ e) (name-below xs name)
  where
    one : (b : Bool) → cond b 1 0 + count_by (bytes_eq name) xs ≡ suc n → ((m : ℕ) → count_by (bytes_eq name) xs ≡ suc m → name_place xs name < length xs) → cond b 0 (suc (name_place xs name)) < suc (length xs)
    one true h next = omega arith
    one false h next = let lt : name_place xs name < length xs = next n (omega (arith, h)) in omega (arith, lt)

keys-below : (outputs : List (List ℕ)) (order : List OrderName) → first_of (order_refusal outputs) order ≡ None → AllByRecursion (λ k. k.column < length outputs) (map (order_key outputs) order)
keys-below outputs [] e = tt
keys-below outputs (o ∷ os) e =
    let two = or_none (order_refusal outputs o) (first_of (order_refusal outputs) os) e in
    (name-below outputs o.name.text 0 (once (count_by (bytes_eq o.name.text) outputs) o.name.text two.0), keys-below outputs os two.1)

firsts-keep : (P : Key → Type 0) (before : List ℕ) (ks : List Key) → AllByRecursion P ks → AllByRecursion P (firsts (λ k. k.column) before ks)
firsts-keep P before [] h = tt
firsts-keep P before (k ∷ ks) h = one (has before k.column) (firsts-keep P before ks h.1) (firsts-keep P (before ++ k.column ∷ []) ks h.1)
  where
    one : (b : Bool) → AllByRecursion P (firsts (λ k. k.column) before ks) → AllByRecursion P (firsts (λ k. k.column) (before ++ k.column ∷ []) ks)
        → AllByRecursion P (cond b (firsts (λ k. k.column) before ks) (k ∷ firsts (λ k. k.column) (before ++ k.column ∷ []) ks))
    one true there first = there
    one false there first = (h.0, first)

columns-below : (n : ℕ) (ks : List Key) → AllByRecursion (λ k. k.column < n) ks → Below n (key_columns ks)
columns-below n [] h = tt
columns-below n (k ∷ ks) h = (h.0, columns-below n ks h.1)

-- ---- the blocks of a query

blocks-fit : (schema : SchemaModel) (main : Block) → IsSchema schema → (ns : List Named) (es : List Earlier) → EarlierFit schema es → AllByRecursion (λ n. StartsPlain n.block.sources) ns → blocks_refusal schema es ns main ≡ None
    → EarlierFit schema (bound_with schema es ns) × (main_refusal schema (bound_with schema es ns) main ≡ None)
blocks-fit schema main valid [] es all plain e = (all, e)
blocks-fit schema main valid (n ∷ ns) es all plain e =
    let earlier : Earlier = record { name = n.name.text; gives = block_relation schema es n.block } in
    let two = or_none (with_refusal schema es n) (blocks_refusal schema (es ++ earlier ∷ []) ns main) e in
    let here = or_none (block_refusal schema es n.block) _ two.0 in
    blocks-fit schema main valid ns (es ++ earlier ∷ []) (all-append (λ e. RelationFits schema e.gives) es (earlier ∷ []) all (block-fits schema es n.block valid all plain.0 here.0, tt)) plain.1 two.1

-- The plan of a query that is not refused fits the schema.
pub plan-fits : (schema : SchemaModel) (q : Query) → IsSchema schema → IsWritten q → refusal schema q ≡ None → fits schema (root schema q) ≡ true
unfolding refusal
plan-fits schema q valid written e =
    let es : List Earlier = bound_with schema [] q.with in
    let main : Relation = main_relation schema q in
    let parts = or_none (blocks_refusal schema [] q.with q.main) (refuse_if (nat_lt 32 (nodes (root schema q))) 8 []) e in
    let blocks = blocks-fit schema q.main valid q.with [] tt written.0 parts.0 in
    let ends = or_none (block_refusal schema es q.main) (first_of (order_refusal (map output_name q.main.items)) q.main.order) blocks.1 in
    let plan : RelationFits schema main = block-fits schema es q.main valid blocks.0 written.1 ends.0 in
    let outputs : List (List ℕ) = map output_name q.main.items in
    let ks : List Kind = map (λ g. g.kind) main.columns in
    let wide : length outputs ≡ length ks = length-map q.main.items output_name ∙ sym (length-map main.columns (λ g. g.kind) ∙ length-map q.main.items _) in
    let order : Below (length ks) (key_columns (order_keys outputs q.main.order)) = subst (λ (n : ℕ). Below n (key_columns (order_keys outputs q.main.order))) wide
    (columns-below (length outputs) (order_keys outputs q.main.order) (firsts-keep (λ k. k.column < length outputs) [] (map (order_key outputs) q.main.order) (keys-below outputs q.main.order ends.1))) in
    let top : Gives schema (root schema q) ks = gives-Top schema main.plan ks (order_keys outputs q.main.order) q.main.limit plan (all-within ks _ order) in
    ap₂ (λ a b. a && b) (ap (λ (s : Shape). s.sound) top.shape_is)
    (le-leb (nodes (root schema q)) 32 (ltb-false 32 (nodes (root schema q)) (no-cause (nat_lt 32 (nodes (root schema q))) 8 [] parts.1)))
