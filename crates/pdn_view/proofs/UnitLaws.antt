-- The units of a segment, merged from two ascending directories, are those of the values in either.
use Rattle.std.proofs.Common.{◌≡◌, ℕ, Bool, true, false, cond, eqb, List, [], ◌∷◌, ◌++◌, map, Ordering, Less, Equal, Greater, refl, sym, ap, subst, ◌∙◌, arith}
use Rattle.std.specs.Prelude.{◌&&◌, ◌||◌, nat_lt}
use Rattle.std.specs.List.{AllByRecursion}
use Rattle.std.specs.Ordering.{nat_cmp, is_eq, ordering_reverse, ordering_then}
use Rattle.std.proofs.lemmas.Bool.{eqb-true, eq-eqb, le-ltb}
use Rattle.pdn_base.specs.declared.value.Value.{Value}
use Rattle.pdn_base.specs.declared.site.Site.TheVariants.{A, B}
use Rattle.pdn_base.specs.Values.{kind_of, number_of, value_cmp}
use Rattle.pdn_base.specs.Totals.{value_cmp-total}
use Rattle.pdn_base.proofs.RowLaws.{value_cmp-ties}
use Rattle.pdn_level.specs.Cutting.{same_value}
use Rattle.pdn_site.specs.declared.unit.UnitKind.TheVariants as kinds
use Rattle.pdn_site.specs.Models.{Dirs}
use Rattle.pdn_site.specs.Directories.{placed_by, placed, ascending, stands_in, unit_values}
use Rattle.pdn_view.specs.declared.due.Due.{Due}
use Rattle.pdn_view.specs.declared.due.Due.TheVariants.{Plain, Secure}
use Rattle.pdn_view.specs.Views.{next_slice, slices, ascends_from, ascends, AreDirs}
use Rattle.pdn_view.specs.Units.{due_by, unit_due}
use Rattle.pdn_view.proofs.Checks.{and_true}

-- ---- the order

abbrev Lt : Value → Value → Type 0
Lt v w = value_cmp v w ≡ Less

self_tie : (n : ℕ) → nat_cmp n n ≡ Equal
self_tie n = rw (le-ltb n n (omega arith), eq-eqb n n refl) refl

then_is : (o p r : Ordering) → o ≡ Equal → p ≡ r → ordering_then o p ≡ r
then_is o p r e h = ap (λ (q : Ordering). ordering_then q p) e ∙ h

below : (v w : Value) → eqb (kind_of v) (kind_of w) && nat_lt (number_of v) (number_of w) ≡ true → Lt v w
below v w e =
    let h = and_true (eqb (kind_of v) (kind_of w)) (nat_lt (number_of v) (number_of w)) e in
    let kind : nat_cmp (kind_of v) (kind_of w) ≡ Equal = ap (nat_cmp (kind_of v)) (sym (eqb-true (kind_of v) (kind_of w) h.0)) ∙ self_tie (kind_of v) in
    let number : nat_cmp (number_of v) (number_of w) ≡ Less = ap (λ (b : Bool). cond b Less (cond (eqb (number_of v) (number_of w)) Equal Greater)) h.1 in
    then_is (nat_cmp (kind_of v) (kind_of w)) (nat_cmp (number_of v) (number_of w)) Less kind number

abbrev Above : Value → List Value → Type 0
Above v ws = AllByRecursion (Lt v) ws

abbrev Asc : List Value → Type 0
Asc [] = Unit {0}
Asc (v ∷ vs) = Above v vs × Asc vs

above_more : (v w : Value) (ws : List Value) → Lt v w → Above w ws → Above v ws
above_more v w [] h k = tt
above_more v w (x ∷ xs) h k = (value_cmp-total.trans v w x h k.0, above_more v w xs h k.1)

asc_from : (v : Value) (ws : List Value) → ascends_from v ws ≡ true → Asc (v ∷ ws)
asc_from v [] e = (tt, tt)
asc_from v (w ∷ ws) e =
    let h = and_true (eqb (kind_of v) (kind_of w) && nat_lt (number_of v) (number_of w)) (ascends_from w ws) e in
    let one = below v w h.0 in
    let rest = asc_from w ws h.1 in
    ((one, above_more v w ws one rest.0), rest)

asc : (vs : List Value) → ascends vs ≡ true → Asc vs
asc [] e = tt
asc (v ∷ vs) e = asc_from v vs e

flip : (v w : Value) → Lt v w → value_cmp w v ≡ Greater
flip v w h = value_cmp-total.antisymm w v ∙ ap ordering_reverse h

-- ---- the values of the units

abbrev next_value : Ordering → Value → Value → List Value → List Value → List Value → List Value
next_value Less a b first both second = a ∷ first
next_value Equal a b first both second = a ∷ both
next_value Greater a b first both second = b ∷ second

abbrev merged_from : Value → (List Value → List Value) → List Value → List Value
merged_from a after [] = a ∷ after []
merged_from a after (b ∷ bs) = next_value (value_cmp a b) a b (after (b ∷ bs)) (after bs) (merged_from a after bs)

abbrev merged : List Value → List Value → List Value
merged [] bs = bs
merged (a ∷ xs) bs = merged_from a (merged xs) bs

merged_none : (xs : List Value) → merged xs [] ≡ xs
merged_none [] = refl
merged_none (x ∷ xs) = ap (λ (vs : List Value). x ∷ vs) (merged_none xs)

-- what is above both lists is above the merged one
above_next : (o : Ordering) (v a b : Value) (first both second : List Value) → Lt v a → Lt v b → Above v first → Above v both → Above v second → Above v (next_value o a b first both second)
above_next Less v a b first both second h k x y z = (h, x)
above_next Equal v a b first both second h k x y z = (h, y)
above_next Greater v a b first both second h k x y z = (k, z)

above_from : (v a : Value) (after : List Value → List Value) (bs : List Value) → Lt v a → ((cs : List Value) → Above v cs → Above v (after cs)) → Above v bs → Above v (merged_from a after bs)
above_from v a after [] h ih k = (h, ih [] tt)
above_from v a after (b ∷ bs) h ih k = above_next (value_cmp a b) v a b (after (b ∷ bs)) (after bs) (merged_from a after bs) h k.0 (ih (b ∷ bs) k) (ih bs k.1) (above_from v a after bs h ih k.1)

above_merged : (v : Value) (xs bs : List Value) → Above v xs → Above v bs → Above v (merged xs bs)
above_merged v [] bs h k = k
above_merged v (a ∷ xs) bs h k = above_from v a (merged xs) bs h.0 (λ cs m. above_merged v xs cs h.1 m) k

-- a value below those of the first list comes first
merged_second : (y : Value) (xs ys : List Value) → Above y xs → merged xs (y ∷ ys) ≡ y ∷ merged xs ys
merged_second y [] ys h = refl
merged_second y (z ∷ zs) ys h = ap (λ (o : Ordering). next_value o z y (merged zs (y ∷ ys)) (merged zs ys) (merged (z ∷ zs) ys)) (flip y z h.0)

placed_first : (v : Value) (ws : List Value) → Above v ws → placed v ws ≡ v ∷ ws
placed_first v [] h = refl
placed_first v (w ∷ ws) h = ap (λ (o : Ordering). placed_by o v w ws (placed v ws)) h.0

-- where the merged list begins
merged_at : (x y : Value) (xs ys : List Value) (o : Ordering) → value_cmp x y ≡ o → next_value o x y (merged xs (y ∷ ys)) (merged xs ys) (merged (x ∷ xs) ys) ≡ merged (x ∷ xs) (y ∷ ys)
merged_at x y xs ys o e = ap (λ (p : Ordering). next_value p x y (merged xs (y ∷ ys)) (merged xs ys) (merged (x ∷ xs) ys)) (sym e)

placed_in : (x y : Value) (vs : List Value) (o : Ordering) → value_cmp x y ≡ o → placed x (y ∷ vs) ≡ placed_by o x y vs (placed x vs)
placed_in x y vs o e = ap (λ (p : Ordering). placed_by p x y vs (placed x vs)) e

placed_at : (x y : Value) (xs ys : List Value) (o : Ordering) → value_cmp x y ≡ o → Above x xs → Asc (y ∷ ys) → placed x (merged xs ys) ≡ merged (x ∷ xs) ys → placed x (merged xs (y ∷ ys)) ≡ merged (x ∷ xs) (y ∷ ys)
placed_at x y xs ys Less e h k ih =
    let all : Above x (merged xs (y ∷ ys)) = above_merged x xs (y ∷ ys) h (e, above_more x y ys e k.0) in
    placed_first x (merged xs (y ∷ ys)) all ∙ merged_at x y xs ys Less e
placed_at x y xs ys Equal e h k ih =
    let same : x ≡ y = value_cmp-ties x y e in
    let above : Above y xs = subst (λ (v : Value). Above v xs) same h in
    ap (placed x) (merged_second y xs ys above) ∙ placed_in x y (merged xs ys) Equal e ∙ ap (λ (v : Value). v ∷ merged xs ys) (sym same) ∙ merged_at x y xs ys Equal e
placed_at x y xs ys Greater e h k ih =
    let less : Lt y x = value_cmp-total.antisymm y x ∙ ap ordering_reverse e in
    ap (placed x) (merged_second y xs ys (above_more y x xs less h)) ∙ placed_in x y (merged xs ys) Greater e ∙ ap (λ (vs : List Value). y ∷ vs) ih ∙ merged_at x y xs ys Greater e

placed_merged : (x : Value) (xs ys : List Value) → Above x xs → Asc ys → placed x (merged xs ys) ≡ merged (x ∷ xs) ys
placed_merged x xs [] h k = ap (placed x) (merged_none xs) ∙ placed_first x xs h ∙ ap (λ (vs : List Value). x ∷ vs) (sym (merged_none xs))
placed_merged x xs (y ∷ ys) h k = placed_at x y xs ys (value_cmp x y) refl h k (placed_merged x xs ys h k.1)

ascending_same : (ys : List Value) → Asc ys → ascending ys ≡ ys
ascending_same [] h = refl
ascending_same (y ∷ ys) h = ap (placed y) (ascending_same ys h.1) ∙ placed_first y ys h.0

ascending_merged : (xs ys : List Value) → Asc xs → Asc ys → ascending (xs ++ ys) ≡ merged xs ys
ascending_merged [] ys h k = ascending_same ys k
ascending_merged (x ∷ xs) ys h k = ap (placed x) (ascending_merged xs ys h.1 k) ∙ placed_merged x xs ys h.0 k

-- ---- the kinds of the units

-- a unit by two tests, whether its value stands in A's directory and whether in B's
abbrev due_at : (Value → Bool) → (Value → Bool) → Value → Due
due_at p q v = due_by (cond (p v) (cond (q v) kinds.Secure (kinds.Plain A)) (kinds.Plain B)) v

-- the tests tell it of the values of these lists
abbrev Tells : (Value → Bool) → (Value → Bool) → List Value → List Value → List Value → Type 0
Tells p q xs ys vs = AllByRecursion (λ v. (p v ≡ stands_in xs v) × (q v ≡ stands_in ys v)) vs

apart : (x v : Value) → Lt x v → same_value v x ≡ false
apart x v h = ap is_eq (flip x v h)

itself : (x : Value) → same_value x x ≡ true
itself x = ap is_eq (then_is (nat_cmp (kind_of x) (kind_of x)) (nat_cmp (number_of x) (number_of x)) Equal (self_tie (kind_of x)) (self_tie (number_of x)))

-- a value in front is in neither list behind it
left_out : (x : Value) (xs : List Value) (v : Value) → Lt x v → stands_in (x ∷ xs) v ≡ stands_in xs v
left_out x xs v h = ap (λ (b : Bool). b || stands_in xs v) (apart x v h)

missing : (v : Value) (xs : List Value) → Above v xs → stands_in xs v ≡ false
missing v [] h = refl
missing v (x ∷ xs) h = ap (λ (b : Bool). b || stands_in xs v) (ap is_eq h.0) ∙ missing v xs h.1

tells_less : (p q : Value → Bool) (x : Value) (xs ys vs : List Value) → Above x vs → Tells p q (x ∷ xs) ys vs → Tells p q xs ys vs
tells_less p q x xs ys [] h k = tt
tells_less p q x xs ys (v ∷ vs) h k = ((k.0.0 ∙ left_out x xs v h.0, k.0.1), tells_less p q x xs ys vs h.1 k.1)

tells_more : (p q : Value → Bool) (y : Value) (xs ys vs : List Value) → Above y vs → Tells p q xs (y ∷ ys) vs → Tells p q xs ys vs
tells_more p q y xs ys [] h k = tt
tells_more p q y xs ys (v ∷ vs) h k = ((k.0.0, k.0.1 ∙ left_out y ys v h.0), tells_more p q y xs ys vs h.1 k.1)

plain_second : (p q : Value → Bool) (ys vs : List Value) → Tells p q [] ys vs → map (Plain B) vs ≡ map (due_at p q) vs
plain_second p q ys [] h = refl
plain_second p q ys (v ∷ vs) h = ap (λ (ds : List Due). Plain B v ∷ ds) (plain_second p q ys vs h.1) ∙ ap (λ (b : Bool). due_by (cond b (cond (q v) kinds.Secure (kinds.Plain A)) (kinds.Plain B)) v ∷ map (due_at p q) vs) (sym h.0.0)

due_is : (p q : Value → Bool) (v : Value) (a b : Bool) → p v ≡ a → q v ≡ b → due_at p q v ≡ due_by (cond a (cond b kinds.Secure (kinds.Plain A)) (kinds.Plain B)) v
due_is p q v a b h k =
    ap (λ (c : Bool). due_by (cond c (cond (q v) kinds.Secure (kinds.Plain A)) (kinds.Plain B)) v) h
    ∙ ap (λ (c : Bool). due_by (cond a (cond c kinds.Secure (kinds.Plain A)) (kinds.Plain B)) v) k

stands_first : (x : Value) (xs : List Value) → stands_in (x ∷ xs) x ≡ true
stands_first x xs = ap (λ (b : Bool). b || stands_in xs x) (itself x)

-- one unit more
slice_more : (p q : Value → Bool) (v : Value) (d : Due) (ds : List Due) (vs : List Value) → due_at p q v ≡ d → ds ≡ map (due_at p q) vs → d ∷ ds ≡ map (due_at p q) (v ∷ vs)
slice_more p q v d ds vs e h = ap (λ (x : Due). x ∷ ds) (sym e) ∙ ap (λ (xs : List Due). due_at p q v ∷ xs) h

slices_none : (p q : Value → Bool) (xs : List Value) → Asc xs → Tells p q xs [] (merged xs []) → slices xs [] ≡ map (due_at p q) (merged xs [])
slices_none p q [] h k = refl
slices_none p q (x ∷ xs) h k =
    let above : Above x (merged xs []) = above_merged x xs [] h.0 tt in
    slice_more p q x (Plain A x) (slices xs []) (merged xs []) (due_is p q x true false (k.0.0 ∙ stands_first x xs) k.0.1)
    (slices_none p q xs h.1 (tells_less p q x xs [] (merged xs []) above k.1))

slices_at : (p q : Value → Bool) (x y : Value) (xs ys : List Value) (o : Ordering) → value_cmp x y ≡ o → Asc (x ∷ xs) → Asc (y ∷ ys)
    → ((bs : List Value) → Asc bs → Tells p q xs bs (merged xs bs) → slices xs bs ≡ map (due_at p q) (merged xs bs))
    → (Tells p q (x ∷ xs) ys (merged (x ∷ xs) ys) → slices (x ∷ xs) ys ≡ map (due_at p q) (merged (x ∷ xs) ys))
    → Tells p q (x ∷ xs) (y ∷ ys) (next_value o x y (merged xs (y ∷ ys)) (merged xs ys) (merged (x ∷ xs) ys))
    → next_slice o x y (slices xs (y ∷ ys)) (slices xs ys) (slices (x ∷ xs) ys) ≡ map (due_at p q) (next_value o x y (merged xs (y ∷ ys)) (merged xs ys) (merged (x ∷ xs) ys))
slices_at p q x y xs ys Less e h k first second t =
    let all : Above x (y ∷ ys) = (e, above_more x y ys e k.0) in
    let above : Above x (merged xs (y ∷ ys)) = above_merged x xs (y ∷ ys) h.0 all in
    slice_more p q x (Plain A x) (slices xs (y ∷ ys)) (merged xs (y ∷ ys)) (due_is p q x true false (t.0.0 ∙ stands_first x xs) (t.0.1 ∙ missing x (y ∷ ys) all))
    (first (y ∷ ys) k (tells_less p q x xs (y ∷ ys) (merged xs (y ∷ ys)) above t.1))
slices_at p q x y xs ys Equal e h k first second t =
    let same : x ≡ y = value_cmp-ties x y e in
    let behind : Above x ys = subst (λ (v : Value). Above v ys) (sym same) k.0 in
    let above : Above x (merged xs ys) = above_merged x xs ys h.0 behind in
    let there : stands_in (y ∷ ys) x ≡ true = ap (λ (v : Value). stands_in (v ∷ ys) x) (sym same) ∙ stands_first x ys in
    let fewer : Tells p q xs (y ∷ ys) (merged xs ys) = tells_less p q x xs (y ∷ ys) (merged xs ys) above t.1 in
    slice_more p q x (Secure x) (slices xs ys) (merged xs ys) (due_is p q x true true (t.0.0 ∙ stands_first x xs) (t.0.1 ∙ there))
    (first ys k.1 (tells_more p q y xs ys (merged xs ys) (subst (λ (v : Value). Above v (merged xs ys)) same above) fewer))
slices_at p q x y xs ys Greater e h k first second t =
    let less : Lt y x = value_cmp-total.antisymm y x ∙ ap ordering_reverse e in
    let all : Above y (x ∷ xs) = (less, above_more y x xs less h.0) in
    let above : Above y (merged (x ∷ xs) ys) = above_merged y (x ∷ xs) ys all k.0 in
    slice_more p q y (Plain B y) (slices (x ∷ xs) ys) (merged (x ∷ xs) ys) (due_is p q y false true (t.0.0 ∙ missing y (x ∷ xs) all) (t.0.1 ∙ stands_first y ys))
    (second (tells_more p q y (x ∷ xs) ys (merged (x ∷ xs) ys) above t.1))

slices_from_are : (p q : Value → Bool) (x : Value) (xs ys : List Value) → Asc (x ∷ xs) → Asc ys
    → ((bs : List Value) → Asc bs → Tells p q xs bs (merged xs bs) → slices xs bs ≡ map (due_at p q) (merged xs bs))
    → Tells p q (x ∷ xs) ys (merged (x ∷ xs) ys) → slices (x ∷ xs) ys ≡ map (due_at p q) (merged (x ∷ xs) ys)
slices_from_are p q x xs [] h k first t = slices_none p q (x ∷ xs) h t
slices_from_are p q x xs (y ∷ ys) h k first t = slices_at p q x y xs ys (value_cmp x y) refl h k first (slices_from_are p q x xs ys h k.1 first) t

slices_tell : (p q : Value → Bool) (xs ys : List Value) → Asc xs → Asc ys → Tells p q xs ys (merged xs ys) → slices xs ys ≡ map (due_at p q) (merged xs ys)
slices_tell p q [] ys h k t = plain_second p q ys ys t
slices_tell p q (x ∷ xs) ys h k t = slices_from_are p q x xs ys h k (λ bs m u. slices_tell p q xs bs h.1 m u) t

tells_itself : (xs ys vs : List Value) → Tells (stands_in xs) (stands_in ys) xs ys vs
tells_itself xs ys [] = tt
tells_itself xs ys (v ∷ vs) = ((refl, refl), tells_itself xs ys vs)

pub slices_are : (d : Dirs) → AreDirs d → slices d.a d.b ≡ map (unit_due d) (unit_values d)
slices_are d h =
    let a : Asc d.a = asc d.a h.a.order in
    let b : Asc d.b = asc d.b h.b.order in
    slices_tell (stands_in d.a) (stands_in d.b) d.a d.b a b (tells_itself d.a d.b (merged d.a d.b)) ∙ ap (map (unit_due d)) (sym (ascending_merged d.a d.b a b))
