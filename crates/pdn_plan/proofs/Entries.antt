-- What a block shows by its own definition is what its step and items make of the rows chosen.
use Rattle.std.proofs.Common.{◌≡◌, ℕ, ◌+◌, ◌<◌, Bool, true, false, not, ◌&&◌, ◌||◌, ◌==◌, cond, List, [], ◌∷◌, ◌++◌, map, filter, length, count_by, sym, refl, ap, ap₂, ◌∙◌, subst, Option, Some, None, arith, Ordering}
use Rattle.std.proofs.Math.Path.{fun_ext}
use Rattle.std.proofs.Math.Seq.{get_or-append_seam}
use Rattle.std.specs.List.{AllByRecursion, list_any, range_with_len}
use Rattle.std.specs.Ordering.{is_lt, ordering_then}
use Rattle.std.proofs.lemmas.List.{length-map, map-append}
use Rattle.std.proofs.lemmas.List.Folds.{list_any-append}
use Rattle.std.proofs.lemmas.List.Sums.{sum_by-cons}
use Rattle.pdn_base.specs.declared.value.Value.{Value}
use Rattle.pdn_base.specs.declared.value.Value.TheVariants as value
use Rattle.pdn_base.specs.declared.order.Key.{Key}
use Rattle.pdn_base.specs.Values.{value_cmp, cells_cmp, same_row, cell, cut, directed, keys_cmp}
use Rattle.pdn_base.specs.Bags.{times, distinct}
use Rattle.pdn_base.specs.Operators.{project_rows, group_rows, counted, allows, number_from, before_in}
use Rattle.pdn_sql.specs.declared.query.Col.{Col}
use Rattle.pdn_sql.specs.declared.query.OrderCol.{OrderCol}
use Rattle.pdn_sql.specs.declared.query.What.{What}
use Rattle.pdn_sql.specs.declared.query.What.TheVariants as what
use Rattle.pdn_sql.specs.declared.query.Item.{Item}
use Rattle.pdn_sql.specs.declared.query.Block.{Block}
use Rattle.pdn_tree.specs.Meaning.{Rows}
use Rattle.pdn_tree.specs.Columns.{has, Has, place_in}
use Rattle.pdn_tree.proofs.ColumnLaws.{cell-left, cell-cut, cut-cut}
use Rattle.pdn_plan.specs.Names.{place}
use Rattle.pdn_plan.specs.Steps.{firsts, is_count, counts, key_at, window_key, number_or, window_step, count_or, group_or, step_of, what_columns, items_columns, what_at, items_at}
use Rattle.pdn_plan.specs.declared.steps.Step.{Step}
use Rattle.pdn_plan.specs.declared.steps.Step.TheVariants.{Numbered, Unchanged}
use Rattle.pdn_plan.specs.Binding.{is_loose, is_some_of}
use Rattle.pdn_plan.specs.Answer.{Entry, agree, grouped, Window, window_cmp, stands_before, numbered, cols_in, named_places, shows_count, window_or, window_in, windowed, ungrouped, entries, shown, shown_rows}
use Rattle.pdn_plan.proofs.Pushing.{filter-map, filter-agree, map-agree, map-map}
use Rattle.pdn_plan.proofs.KeepLaws.{has_needed}
use Rattle.pdn_plan.proofs.KindLaws.{kept-below}
use Rattle.pdn_plan.proofs.CondFits.{not_false}
use Rattle.pdn_plan.proofs.Stepping.{IsColumn, AllColumns, columns-alone}
use Rattle.pdn_plan.proofs.Stepped.{numbered_columns, stepped}
use Rattle.pdn_plan.proofs.OneBlock.{all-has, all-both, all-weaker, all-parts}
use Rattle.pdn_plan.proofs.Mentions.{has-firsts, same-firsts}
use Rattle.pdn_plan.specs.declared.scope.Seen.{Seen}

-- ---- lists under a map

distinct-map : {X Y : Type 0} (same : Y → Y → Bool) (f : X → Y) (xs : List X) → distinct same (map f xs) ≡ map f (distinct (λ x y. same (f x) (f y)) xs)
distinct-map same f [] = refl
distinct-map same f (x ∷ xs) = ap (λ ys. f x ∷ ys)
    (ap (filter (λ y. not (same (f x) y))) (distinct-map same f xs) ∙ filter-map (λ y. not (same (f x) y)) f (distinct (λ x y. same (f x) (f y)) xs))

count-map : {X Y : Type 0} (p : Y → Bool) (f : X → Y) (xs : List X) → count_by p (map f xs) ≡ count_by (λ x. p (f x)) xs
count-map p f [] = refl
count-map p f (x ∷ xs) = sum_by-cons (λ y. cond (p y) 1 0) (f x) (map f xs) ∙ ap (λ n. cond (p (f x)) 1 0 + n) (count-map p f xs) ∙ sym (sum_by-cons (λ x. cond (p (f x)) 1 0) x xs)

count-agree : {X : Type 0} (p q : X → Bool) → ((x : X) → p x ≡ q x) → (xs : List X) → count_by p xs ≡ count_by q xs
count-agree p q h xs = ap (λ r. count_by r xs) (fun_ext h)

-- ---- items

all-items : (P Q : What → Type 0) → ((w : What) → P w → Q w) → (items : List Item) → AllByRecursion (λ i. P i.what) items → AllByRecursion (λ i. Q i.what) items
all-items P Q w [] h = tt
all-items P Q w (i ∷ is) h = (w i.what h.0, all-items P Q w is h.1)

-- the items of an entry are cells of a row, where each of them is
items-show : (place at : Col → ℕ) (new : ℕ) (e : Entry) (row : List Value) (items : List Item) → AllByRecursion (λ i. shown place e i.what ≡ cell row (what_at at new i.what)) items
    → map (λ i. shown place e i.what) items ≡ cut (items_at at new items) row
items-show place at new e row [] h = refl
items-show place at new e row (i ∷ is) h = ap₂ (λ v vs. v ∷ vs) h.0 (items-show place at new e row is h.1)

-- a row cut to columns, and a number after them
abbrev with_number : List ℕ → Entry → List Value
with_number columns e = cut columns e.row ++ value.Int e.number ∷ []

number-cell : (columns : List ℕ) (e : Entry) → value.Int e.number ≡ cell (with_number columns e) (length columns)
number-cell columns e = subst (λ (n : ℕ). value.Int e.number ≡ cell (with_number columns e) n) (length-map columns (cell e.row)) (sym (get_or-append_seam (cut columns e.row) (value.Int e.number) [] (value.Int 0)))

column-cell : (columns : List ℕ) (e : Entry) (c : ℕ) → Has columns c → cell e.row c ≡ cell (with_number columns e) (place_in columns c)
column-cell columns e c h = sym (cell-left (length columns) (cut columns e.row) (value.Int e.number ∷ []) (length-map columns (cell e.row)) (place_in columns c) (kept-below columns c h) ∙ cell-cut columns e.row c h)

-- the columns that items show are there
abbrev Showing : List ℕ → (Col → ℕ) → What → Type 0
Showing columns place (what.Column col) = Has columns (place col)
Showing columns place what.Count = Unit {0}
Showing columns place (what.Number partition order) = Unit {0}

item-cell : (columns : List ℕ) (place : Col → ℕ) (e : Entry) (w : What) → Showing columns place w → shown place e w ≡ cell (with_number columns e) (what_at (λ c. place_in columns (place c)) (length columns) w)
item-cell columns place e (what.Column col) h = column-cell columns e (place col) h
item-cell columns place e what.Count h = number-cell columns e
item-cell columns place e (what.Number partition order) h = number-cell columns e

-- the items of entries are those of the rows cut to columns that they show, each with its number
entries-show : (columns : List ℕ) (place : Col → ℕ) (items : List Item) (es : List Entry) → AllByRecursion (λ i. Showing columns place i.what) items
    → shown_rows place items es ≡ project_rows (items_at (λ c. place_in columns (place c)) (length columns) items) (map (with_number columns) es)
entries-show columns place items es h =
    map-agree _ _ (λ e. items-show place (λ c. place_in columns (place c)) (length columns) e (with_number columns e) items (all-items (Showing columns place) _ (item-cell columns place e) items h)) es
    ∙ sym (map-map (cut (items_at (λ c. place_in columns (place c)) (length columns) items)) (with_number columns) es)

-- ---- GROUP BY

grouped-cut : (keys : List ℕ) (having : Option ℕ) (rows : Rows) → map (with_number keys) (grouped (λ x y. same_row (cut keys x) (cut keys y)) having rows) ≡ group_rows keys having rows
grouped-cut keys having rows =
    let same : List Value → List Value → Bool = λ x y. same_row (cut keys x) (cut keys y) in
    let all : Rows = map (cut keys) rows in
    let size : List Value → ℕ = λ x. count_by (same x) rows in
    let sizes : size ≡ (λ x. times same_row (cut keys x) all) = fun_ext (λ x. sym (count-map (same_row (cut keys x)) (cut keys) rows)) in
    map-map (with_number keys) (λ x. record { row = x; number = size x }) (filter (λ x. allows having (size x)) (distinct same rows))
    ∙ ap (λ (n : List Value → ℕ). map (λ x. cut keys x ++ value.Int (n x) ∷ []) (filter (λ x. allows having (n x)) (distinct same rows))) sizes
    ∙ sym (map-map (counted all) (cut keys) (filter (λ x. allows having (times same_row (cut keys x) all)) (distinct same rows)))
    ∙ ap (map (counted all)) (sym (filter-map (λ key. allows having (times same_row key all)) (cut keys) (distinct same rows)))
    ∙ ap (λ (ks : Rows). map (counted all) (filter (λ key. allows having (times same_row key all)) ks)) (sym (distinct-map same_row (cut keys) rows))

grouped-is : (place : Col → ℕ) (group : List Col) (having : Option ℕ) (rows : Rows)
    → map (with_number (firsts (λ c. c) [] (map place group))) (grouped (agree place group) having rows) ≡ group_rows (firsts (λ c. c) [] (map place group)) having rows
grouped-is place group having rows =
    let keys : List ℕ = firsts (λ c. c) [] (map place group) in
    ap (λ (s : List Value → List Value → Bool). map (with_number keys) (grouped s having rows)) (fun_ext (λ x. fun_ext (λ y. same-firsts (map place group) x y)))
    ∙ grouped-cut keys having rows

-- ---- ROW_NUMBER

-- the columns that a window names are there
pub record WindowHas (named : List ℕ) (place : Col → ℕ) (w : Window) : Type 0 where
  pub parts : AllByRecursion (Has named) (map place w.partition)
  pub keys : AllByRecursion (Has named) (map (λ o. place o.col) w.order)

window-order : (named : List ℕ) (place : Col → ℕ) (order : List OrderCol) (x y : List Value) → AllByRecursion (Has named) (map (λ o. place o.col) order)
    → keys_cmp (map (key_at (place_in named)) (map (window_key place) order)) (cut named x) (cut named y) ≡ window_cmp place order x y
window-order named place [] x y h = refl
window-order named place (o ∷ os) x y h = ap₂ ordering_then
    (ap₂ (directed o.down value_cmp) (cell-cut named x (place o.col) h.0) (cell-cut named y (place o.col) h.0))
    (window-order named place os x y h.1)

before-is : (named : List ℕ) (place : Col → ℕ) (w : Window) (x y : List Value) → WindowHas named place w
    → before_in (map (place_in named) (map place w.partition)) (map (key_at (place_in named)) (map (window_key place) w.order)) (cut named x) (cut named y)
    ≡ (agree place w.partition x y && stands_before place w.order named y x)
before-is named place w x y h = ap₂ (λ a b. a && b)
    (ap₂ same_row (cut-cut named (map place w.partition) x h.parts) (cut-cut named (map place w.partition) y h.parts))
    (ap (λ (o : Ordering). is_lt (ordering_then o (cells_cmp (cut named y) (cut named x)))) (window-order named place w.order y x h.keys))

numbers-are : (named : List ℕ) (place : Col → ℕ) (w : Window) (all earlier rest : Rows) → WindowHas named place w
    → map (with_number named) (numbered place w named all earlier rest)
    ≡ number_from (map (place_in named) (map place w.partition)) (map (key_at (place_in named)) (map (window_key place) w.order)) (map (cut named) all) (map (cut named) earlier) (map (cut named) rest)
numbers-are named place w all earlier [] h = refl
numbers-are named place w all earlier (x ∷ rest) h =
    let parts : List ℕ = map (place_in named) (map place w.partition) in
    let keys : List Key = map (key_at (place_in named)) (map (window_key place) w.order) in
    let came : count_by (λ y. agree place w.partition x y && stands_before place w.order named y x) all ≡ count_by (before_in parts keys (cut named x)) (map (cut named) all) =
    sym (count-map (before_in parts keys (cut named x)) (cut named) all ∙ count-agree _ _ (λ y. before-is named place w x y h) all) in
    let like : count_by (λ y. same_row (cut named x) (cut named y)) earlier ≡ times same_row (cut named x) (map (cut named) earlier) =
    sym (count-map (same_row (cut named x)) (cut named) earlier) in
    ap₂ (λ (row : List Value) (rows : Rows). row ∷ rows)
    (ap₂ (λ (m n : ℕ). cut named x ++ value.Int (1 + (m + n)) ∷ []) came like)
    (numbers-are named place w all (earlier ++ x ∷ []) rest h
    ∙ ap (λ (es : Rows). number_from parts keys (map (cut named) all) es (map (cut named) rest)) (map-append (cut named) earlier (x ∷ [])))

-- ---- the columns that items name

any-map : {X : Type 0} (f : X → ℕ) (c : ℕ) (xs : List X) → list_any (λ x. f x == c) xs ≡ has (map f xs) c
any-map f c [] = refl
any-map f c (x ∷ xs) = ap (λ b. (f x == c) || b) (any-map f c xs)

named-what : (place : Col → ℕ) (c : ℕ) (w : What) → list_any (λ col. place col == c) (cols_in w) ≡ has (what_columns place w) c
named-what place c (what.Column col) = refl
named-what place c what.Count = refl
named-what place c (what.Number partition order) =
    any-map place c (partition ++ map (λ o. o.col) order)
    ∙ ap (λ (cs : List ℕ). has cs c) (map-append place partition (map (λ o. o.col) order) ∙ ap (λ (cs : List ℕ). map place partition ++ cs) (map-map place (λ o. o.col) order))

named-items : (place : Col → ℕ) (c : ℕ) (items : List Item) → list_any (λ i. list_any (λ col. place col == c) (cols_in i.what)) items ≡ has (items_columns place items) c
named-items place c [] = refl
named-items place c (i ∷ is) =
    ap₂ (λ a b. a || b) (named-what place c i.what) (named-items place c is)
    ∙ sym (list_any-append (λ k. k == c) (what_columns place i.what) (items_columns place is))

named-are : (place : Col → ℕ) (width : ℕ) (items : List Item) → named_places place width items ≡ numbered_columns place width items
named-are place width items = filter-agree _ _ (λ c. named-items place c items) (range_with_len 0 width)

-- ---- which step

counts-are : (items : List Item) → list_any (λ i. shows_count i.what) items ≡ counts items
counts-are [] = refl
counts-are (i ∷ is) = ap₂ (λ a b. a || b) (one i.what) (counts-are is)
  where
    one : (w : What) → shows_count w ≡ is_count w
    one (what.Column col) = refl
    one what.Count = refl
    one (what.Number partition order) = refl

abbrev step_by : (Col → ℕ) → Option Window → Step
step_by place None = Unchanged
step_by place (Some w) = Numbered (map place w.partition) (map (window_key place) w.order)

window-is : (place : Col → ℕ) (items : List Item) → window_step place items ≡ step_by place (window_in items)
window-is place [] = refl
window-is place (i ∷ is) = one i.what (window-is place is)
  where
    one : (w : What) → window_step place is ≡ step_by place (window_in is) → number_or place w (window_step place is) ≡ step_by place (window_or w (window_in is))
    one (what.Column col) e = e
    one what.Count e = e
    one (what.Number partition order) e = refl

same-window : (v w : Window) → Some v ≡ Some w → v ≡ w
same-window v w e = cc

window-known : (named : List ℕ) (place : Col → ℕ) (items : List Item) (w : Window) → AllByRecursion (Has named) (items_columns place items) → window_in items ≡ Some w → WindowHas named place w
window-known named place [] w h e = absurd cc
window-known named place (i ∷ is) w h e =
    let two = all-parts (Has named) (what_columns place i.what) (items_columns place is) h in
    one i.what two.0 e (window-known named place is w two.1)
  where
    one : (x : What) → AllByRecursion (Has named) (what_columns place x) → window_or x (window_in is) ≡ Some w → (window_in is ≡ Some w → WindowHas named place w) → WindowHas named place w
    one (what.Column col) k f next = next f
    one what.Count k f next = next f
    one (what.Number partition order) k f next =
        let two = all-parts (Has named) (map place partition) (map (λ o. place o.col) order) k in
        subst (λ (v : Window). WindowHas named place v) (same-window (record { partition = partition; order = order }) w f) (record { parts = two.0; keys = two.1 })

-- ---- a block

items-named : (named : List ℕ) (place : Col → ℕ) (items : List Item) → AllByRecursion (Has named) (items_columns place items) → AllByRecursion (λ i. Showing named place i.what) items
items-named named place [] h = tt
items-named named place (i ∷ is) h =
    let two = all-parts (Has named) (what_columns place i.what) (items_columns place is) h in
    (one i.what two.0, items-named named place is two.1)
  where
    one : (w : What) → AllByRecursion (Has named) (what_columns place w) → Showing named place w
    one (what.Column col) k = k.0
    one what.Count k = tt
    one (what.Number partition order) k = tt

plain-cell : (place : Col → ℕ) (row : List Value) (w : What) → IsColumn (λ c. place c ≡ place c) w → shown place (record { row = row; number = 0 }) w ≡ cell row (what_at place 0 w)
plain-cell place row (what.Column col) h = refl
plain-cell place row what.Count h = absurd h
plain-cell place row (what.Number partition order) h = absurd h

all-same : (cs : List ℕ) → AllByRecursion (λ c. c ≡ c) cs
all-same [] = tt
all-same (c ∷ cs) = (refl, all-same cs)

named-there : (place : Col → ℕ) (width : ℕ) (items : List Item) → AllByRecursion (λ c. c < width) (items_columns place items) → AllByRecursion (Has (numbered_columns place width items)) (items_columns place items)
named-there place width items within =
    let cs : List ℕ = items_columns place items in
    all-weaker _ _ (λ c f. has_needed (has cs) c 0 width f.0 (omega arith) (omega (arith, f.1))) cs (all-both (Has cs) (λ c. c < width) cs (all-has cs) within)

window-shows : (place : Col → ℕ) (width : ℕ) (items : List Item) (rows : Rows) (o : Option Window) → window_in items ≡ o → counts items ≡ false → AllByRecursion (λ c. c < width) (items_columns place items)
    → shown_rows place items (windowed place width items o rows) ≡ stepped place width items (step_by place o) rows
window-shows place width items rows None e alone within =
    let plain : AllColumns (λ c. place c ≡ place c) items = columns-alone place (λ c. c ≡ c) items (window-is place items ∙ ap (step_by place) e) alone (all-same (items_columns place items)) in
    map-map (λ e. map (λ i. shown place e i.what) items) (λ row. record { row = row; number = 0 }) rows
    ∙ map-agree _ _ (λ row. items-show place place 0 (record { row = row; number = 0 }) row items (all-items (IsColumn (λ c. place c ≡ place c)) _ (plain-cell place row) items plain)) rows
window-shows place width items rows (Some w) e alone within =
    let named : List ℕ = numbered_columns place width items in
    let there : AllByRecursion (Has named) (items_columns place items) = named-there place width items within in
    ap (λ (ns : List ℕ). shown_rows place items (numbered place w ns rows [] rows)) (named-are place width items)
    ∙ entries-show named place items (numbered place w named rows [] rows) (items-named named place items there)
    ∙ ap (project_rows (items_at (λ c. place_in named (place c)) (length named) items)) (numbers-are named place w rows [] rows (window-known named place items w there e))

-- what may stand beside a count is shown from the keys
loose-shows : (scope : List Seen) (group : List Col) (keys : List ℕ) → ((c : ℕ) → Has (map (place scope) group) c → Has keys c) → (w : What) → is_loose scope group w ≡ false → Showing keys (place scope) w
loose-shows scope group keys h (what.Column col) e = h (place scope col) (not_false (has (map (place scope) group) (place scope col)) e)
loose-shows scope group keys h what.Count e = tt
loose-shows scope group keys h (what.Number partition order) e = tt

count-shows : (scope : List Seen) (width : ℕ) (items : List Item) (rows : Rows) (b : Bool) → counts items ≡ b → AllByRecursion (λ c. c < width) (items_columns (place scope) items)
    → (b ≡ true → AllByRecursion (λ i. is_loose scope [] i.what ≡ false) items)
    → shown_rows (place scope) items (ungrouped (place scope) width items b rows) ≡ stepped (place scope) width items (count_or b (window_step (place scope) items)) rows
count-shows scope width items rows true e within alone =
    entries-show [] (place scope) items (record { row = []; number = length rows } ∷ []) (all-items (λ w. is_loose scope [] w ≡ false) (Showing [] (place scope)) (loose-shows scope [] [] (λ c h. h)) items (alone refl))
count-shows scope width items rows false e within alone =
    window-shows (place scope) width items rows (window_in items) refl e within
    ∙ ap (λ (st : Step). stepped (place scope) width items st rows) (sym (window-is (place scope) items))

group-shows : (scope : List Seen) (width : ℕ) (items : List Item) (group : List Col) (having : Option ℕ) (rows : Rows) → AllByRecursion (λ c. c < width) (items_columns (place scope) items)
    → ((is_some_of group || counts items) ≡ true → AllByRecursion (λ i. is_loose scope group i.what ≡ false) items)
    → shown_rows (place scope) items (entries (place scope) width items group having rows)
    ≡ stepped (place scope) width items (group_or (map (place scope) group) having (count_or (counts items) (window_step (place scope) items))) rows
group-shows scope width items [] having rows within alone =
    ap (λ (b : Bool). shown_rows (place scope) items (ungrouped (place scope) width items b rows)) (counts-are items)
    ∙ count-shows scope width items rows (counts items) refl within alone
group-shows scope width items (col ∷ cols) having rows within alone =
    let keys : List ℕ = firsts (λ c. c) [] (map (place scope) (col ∷ cols)) in
    entries-show keys (place scope) items (grouped (agree (place scope) (col ∷ cols)) having rows)
    (all-items (λ w. is_loose scope (col ∷ cols) w ≡ false) (Showing keys (place scope)) (loose-shows scope (col ∷ cols) keys (λ c h. has-firsts [] (map (place scope) (col ∷ cols)) c h)) items (alone refl))
    ∙ ap (project_rows (items_at (λ c. place_in keys (place scope c)) (length keys) items)) (grouped-is (place scope) (col ∷ cols) having rows)

-- What a block shows of the rows chosen, by its own definition and by its step, where what stands beside a count may stand there.
pub block-shows : (scope : List Seen) (width : ℕ) (b : Block) (rows : Rows) → AllByRecursion (λ c. c < width) (items_columns (place scope) b.items)
    → ((is_some_of b.group || counts b.items) ≡ true → AllByRecursion (λ i. is_loose scope b.group i.what ≡ false) b.items)
    → shown_rows (place scope) b.items (entries (place scope) width b.items b.group b.having rows) ≡ stepped (place scope) width b.items (step_of (place scope) b) rows
block-shows scope width b rows within alone = group-shows scope width b.items b.group b.having rows within alone
