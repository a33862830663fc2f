-- The answer's order, named as written, is the order that the plan has, with each column at its first mention.
use Rattle.std.proofs.Common.{◌≡◌, ℕ, suc, Bool, true, false, ◌||◌, ◌==◌, cond, List, [], ◌∷◌, ◌++◌, map, sym, refl, ap, ap₂, ◌∙◌, subst, Option, Some, None, eqb-true, Ordering, Less, Equal, Greater}
use Rattle.std.specs.Str.{bytes_eq}
use Rattle.std.specs.Ordering.{ordering_then, is_gt}
use Rattle.std.proofs.lemmas.Bool.{true≢false}
use Rattle.std.proofs.lemmas.Cmp.{tied_itself}
use Rattle.pdn_base.specs.declared.value.Value.{Value}
use Rattle.pdn_base.specs.declared.order.Key.{Key}
use Rattle.pdn_base.specs.Values.{value_cmp, cells_cmp, cell, directed, key_cmp, keys_cmp, row_cmp}
use Rattle.pdn_base.specs.Totals.{value_cmp-total}
use Rattle.pdn_base.specs.Operators.{placed, listed, limited, top_rows}
use Rattle.pdn_base.proofs.RowLaws.{value_cmp-ties}
use Rattle.pdn_sql.specs.declared.query.Name.{Name}
use Rattle.pdn_sql.specs.declared.query.OrderName.{OrderName}
use Rattle.pdn_sql.specs.declared.query.What.{What}
use Rattle.pdn_sql.specs.declared.query.What.TheVariants as what
use Rattle.pdn_sql.specs.declared.query.Item.{Item}
use Rattle.pdn_tree.specs.Meaning.{Rows}
use Rattle.pdn_tree.specs.Columns.{has}
use Rattle.pdn_plan.specs.Steps.{alias_or, what_name, output_name, firsts, name_place, order_key, order_keys}
use Rattle.pdn_plan.specs.Answer.{item_name, output_place, ordered_by}
use Rattle.pdn_plan.proofs.Pushing.{map-agree}
use Rattle.pdn_plan.proofs.Mentions.{has-push}

-- ---- names

named-as : (alias : Option Name) (w : What) → alias_or alias (what_name w) ≡ item_name alias w
named-as None (what.Column col) = refl
named-as None what.Count = refl
named-as None (what.Number partition order) = refl
named-as (Some name) w = refl

pub names-are : (items : List Item) → map output_name items ≡ map (λ i. item_name i.alias i.what) items
names-are items = map-agree output_name (λ i. item_name i.alias i.what) (λ i. named-as i.alias i.what) items

place-is : (outputs : List (List ℕ)) (name : Name) → name_place outputs name.text ≡ output_place outputs name
place-is [] name = refl
place-is (n ∷ ns) name = ap (λ p. cond (bytes_eq name.text n) 0 (suc p)) (place-is ns name)

keys-are : (outputs : List (List ℕ)) (order : List OrderName) → map (order_key outputs) order ≡ ordered_by outputs order
keys-are outputs order = map-agree (order_key outputs) _ (λ o. ap (λ p. record { column = p; down = o.down }) (place-is outputs o.name)) order

-- ---- a column that was there before ties

directed-itself : (down : Bool) (v : Value) → directed down value_cmp v v ≡ Equal
directed-itself true v = tied_itself value_cmp-total v
directed-itself false v = tied_itself value_cmp-total v

directed-ties : (down : Bool) (u v : Value) → directed down value_cmp u v ≡ Equal → u ≡ v
directed-ties true u v e = sym (value_cmp-ties v u e)
directed-ties false u v e = value_cmp-ties u v e

-- x and y are equal in these columns
pub record Tie (x y : List Value) (columns : List ℕ) : Type 0 where
  pub tied : (c : ℕ) → has columns c ≡ true → cell x c ≡ cell y c

or_cases : {A : Type 0} (a b : Bool) → (a || b) ≡ true → (a ≡ true → A) → (b ≡ true → A) → A
or_cases true b e f g = f refl
or_cases false b e f g = g e

has-end : (before : List ℕ) (k c : ℕ) → has (before ++ k ∷ []) c ≡ true → (has before c || ((k == c) || false)) ≡ true
has-end before k c h = sym (has-push before k c false) ∙ ap (λ b. b || false) h

or_nothing : (b : Bool) → (b || false) ≡ true → b ≡ true
or_nothing true e = refl
or_nothing false e = absurd (true≢false (sym e))

tie-more : (x y : List Value) (before : List ℕ) (k : ℕ) → Tie x y before → cell x k ≡ cell y k → Tie x y (before ++ k ∷ [])
tie-more x y before k t e = record {
  tied = λ c h. or_cases (has before c) ((k == c) || false) (has-end before k c h) (t.tied c) (λ f. subst (λ (j : ℕ). cell x j ≡ cell y j) (eqb-true k c (or_nothing (k == c) f)) e);
}

keys-first : (x y : List Value) (before : List ℕ) (ks : List Key) → Tie x y before → keys_cmp (firsts (λ k. k.column) before ks) x y ≡ keys_cmp ks x y
keys-first x y before [] t = refl
keys-first x y before (k ∷ ks) t =
    one (has before k.column) refl (keys-first x y before ks t)
    (λ e. keys-first x y (before ++ k.column ∷ []) ks (tie-more x y before k.column t (directed-ties k.down (cell x k.column) (cell y k.column) e)))
  where
    first : (o : Ordering) → key_cmp k x y ≡ o → (key_cmp k x y ≡ Equal → keys_cmp (firsts (λ k. k.column) (before ++ k.column ∷ []) ks) x y ≡ keys_cmp ks x y)
        → ordering_then o (keys_cmp (firsts (λ k. k.column) (before ++ k.column ∷ []) ks) x y) ≡ ordering_then o (keys_cmp ks x y)
    first Less e next = refl
    first Equal e next = next e
    first Greater e next = refl

    again : cell x k.column ≡ cell y k.column → key_cmp k x y ≡ Equal
    again e = ap (directed k.down value_cmp (cell x k.column)) (sym e) ∙ directed-itself k.down (cell x k.column)

    one : (b : Bool) → has before k.column ≡ b → keys_cmp (firsts (λ k. k.column) before ks) x y ≡ keys_cmp ks x y
        → (key_cmp k x y ≡ Equal → keys_cmp (firsts (λ k. k.column) (before ++ k.column ∷ []) ks) x y ≡ keys_cmp ks x y)
        → keys_cmp (cond b (firsts (λ k. k.column) before ks) (k ∷ firsts (λ k. k.column) (before ++ k.column ∷ []) ks)) x y ≡ ordering_then (key_cmp k x y) (keys_cmp ks x y)
    one true e there next = there ∙ ap (λ o. ordering_then o (keys_cmp ks x y)) (sym (again (t.tied k.column e)))
    one false e there next = first (key_cmp k x y) refl next

-- ---- rows in their order

placed-agree : (ks js : List Key) → ((x y : List Value) → row_cmp ks x y ≡ row_cmp js x y) → (x : List Value) (rows : Rows) → placed ks x rows ≡ placed js x rows
placed-agree ks js h x [] = refl
placed-agree ks js h x (y ∷ ys) = ap₂ (λ (o : Ordering) (zs : Rows). cond (is_gt o) (y ∷ zs) (x ∷ y ∷ ys)) (h x y) (placed-agree ks js h x ys)

listed-agree : (ks js : List Key) → ((x y : List Value) → row_cmp ks x y ≡ row_cmp js x y) → (rows : Rows) → listed ks rows ≡ listed js rows
listed-agree ks js h [] = refl
listed-agree ks js h (x ∷ xs) = ap (placed ks x) (listed-agree ks js h xs) ∙ placed-agree ks js h x (listed js xs)

-- a column that is named twice counts at its first mention
top-first : (ks : List Key) (limit : Option ℕ) (rows : Rows) → top_rows (firsts (λ k. k.column) [] ks) limit rows ≡ top_rows ks limit rows
top-first ks limit rows = ap (limited limit) (listed-agree (firsts (λ k. k.column) [] ks) ks (λ x y. ap (λ o. ordering_then o (cells_cmp x y)) (keys-first x y [] ks (record { tied = λ c h. absurd (true≢false (sym h)) }))) rows)

pub top-is : (outputs : List (List ℕ)) (order : List OrderName) (limit : Option ℕ) (rows : Rows) → top_rows (order_keys outputs order) limit rows ≡ top_rows (ordered_by outputs order) limit rows
top-is outputs order limit rows = top-first (map (order_key outputs) order) limit rows ∙ ap (λ ks. top_rows ks limit rows) (keys-are outputs order)
