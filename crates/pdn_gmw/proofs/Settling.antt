-- The shares of one depth come of those below it.
use Rattle.std.proofs.Common.{◌≡◌, ◌⊎◌, inl, inr, ℕ, zero, suc, ◌+◌, ◌<◌, ◌≤◌, Bool, true, false, eqb, ◌&&◌, List, [], ◌∷◌, length, get_or, set, map, take, refl, sym, ap, ◌∙◌, subst, ⊎_elim, arith, get_or-set_same, get_or-set_other}
use Rattle.std.specs.Prelude.{slice_index}
use Rattle.std.specs.List.{fold, filter, range_with_len, count_by}
use Rattle.std.proofs.lemmas.Bool.{false≢true, cases_Bool, cases_eq, cond-true, cond-false, eqb-true}
use Rattle.std.proofs.lemmas.Bool.Decides.{eqb_tells}
use Rattle.std.proofs.lemmas.List.{length-set}
use Rattle.std.proofs.lemmas.List.Folds.{fold-map}
use Rattle.std.proofs.lemmas.List.FromFn.{get_or-map-range_with_len}
use Rattle.pdn_base.specs.declared.site.Site.{Site}
use Rattle.pdn_base.specs.Words.{◌⊕◌}
use Rattle.pdn_circuit.specs.declared.gate.Gate.{Gate}
use Rattle.pdn_circuit.specs.declared.gate.Gate.TheVariants.{Input, Given, Const, Xor, And, Spread, Move}
use Rattle.pdn_circuit.specs.Gates.{InOrder, NamesBelow, is_input}
use Rattle.pdn_circuit.specs.Depths.{IsAfter, gate_depth, and_rounds, depths_of}
use Rattle.pdn_circuit.proofs.DepthLaws.{depths_in_rounds}
use Rattle.pdn_circuit.proofs.DepthMeaning.{depth_here}
use Rattle.pdn_dealer.specs.declared.parts.Triple.{Triple}
use Rattle.pdn_circuit.specs.Gates.{is_and}
use Rattle.pdn_gmw.specs.Shares.{Masked, GateView}
use Rattle.pdn_gmw.specs.Halves.{HalfWords, triple_at, heard_at, half_product, share_from, half_walk}
use Rattle.pdn_gmw.specs.Layers.{is_linear, first_of, second_of, gate_at, number_of_and, and_of, is_layer_and, is_layer_rest, layer_of}
use Rattle.pdn_gmw.specs.Known.{HeldWords, held, no_view, view_at, own_triple, received, leaf_share, leaf_at, and_share, and_put, linear_share, linear_settled, KnownTo}
use Rattle.pdn_gmw.proofs.Progress.{share_at}
use Rattle.pdn_gmw.proofs.RoundLaws.{upto, shares_settled}

-- ---- words that are written one after the other, each from those before it
abbrev pub written : (List ℕ → ℕ → ℕ) → List ℕ → ℕ → List ℕ
written value s k = set s k (value s k)

-- the words are right where R holds, and where p does before place a
abbrev pub Good : ℕ → (ℕ → Type 0) → (ℕ → Bool) → List ℕ → ℕ → List ℕ → Type 0
Good len R p whole a s = (j : ℕ) → j < len → R j ⊎ ((p j ≡ true) × (j < a)) → get_or s j 0 ≡ get_or whole j 0

le_apart : (j k : ℕ) → j < k + 1 → (j ≡ k → ⊥) → j < k
le_apart j k b x = omega arith

narrowed : (R : ℕ → Type 0) (p : ℕ → Bool) (a j : ℕ) → (j ≡ a → ⊥) → R j ⊎ ((p j ≡ true) × (j < a + 1)) → R j ⊎ ((p j ≡ true) × (j < a))
narrowed R p a j x (inl r) = inl r
narrowed R p a j x (inr q) = inr (q.0, le_apart j a q.1 x)

passed : (R : ℕ → Type 0) (p : ℕ → Bool) (a j : ℕ) → p a ≡ false → R j ⊎ ((p j ≡ true) × (j < a + 1)) → R j ⊎ ((p j ≡ true) × (j < a))
passed R p a j t (inl r) = inl r
passed R p a j t (inr q) = inr (q.0, le_apart j a q.1 (λ e. absurd (false≢true (sym t ∙ sym (ap p e) ∙ q.0))))

pub all_written : (len : ℕ) (R : ℕ → Type 0) (p : ℕ → Bool) (whole : List ℕ) (value : List ℕ → ℕ → ℕ)
    → ((a : ℕ) (s : List ℕ) → a < len → p a ≡ true → Good len R p whole a s → value s a ≡ get_or whole a 0)
    → (n a b : ℕ) (s : List ℕ) → a + n ≡ b → b ≤ len → length s ≡ len → Good len R p whole a s → Good len R p whole b (fold (written value) s (filter p (range_with_len a n)))
all_written len R p whole value right zero a b s e m l g = subst (λ (i : ℕ). Good len R p whole i s) (omega arith) g
all_written len R p whole value right (suc n) a b s e m l g =
    let rest : List ℕ = filter p (range_with_len (a + 1) n) in
    ⊎_elim
    (λ t.
    let now : List ℕ = set s a (value s a) in
    let same : get_or now a 0 ≡ get_or whole a 0 = get_or-set_same s a (value s a) 0 (omega arith) ∙ right a s (omega arith) t g in
    let next : Good len R p whole (a + 1) now
    = λ j i q. ⊎_elim (λ x. subst (λ (k : ℕ). get_or now k 0 ≡ get_or whole k 0) (sym x) same)
    (λ x. get_or-set_other s a j (value s a) 0 x ∙ g j i (narrowed R p a j x q)) (cases_eq j a) in
    subst (λ (ks : List ℕ). Good len R p whole b (fold (written value) s ks)) (sym (cond-true (p a) (a ∷ rest) rest t))
    (all_written len R p whole value right n (a + 1) b now (omega arith) m (length-set s a (value s a) ∙ l) next))
    (λ t.
    let next : Good len R p whole (a + 1) s = λ j i q. g j i (passed R p a j t q) in
    subst (λ (ks : List ℕ). Good len R p whole b (fold (written value) s ks)) (sym (cond-false (p a) (a ∷ rest) rest t))
    (all_written len R p whole value right n (a + 1) b s (omega arith) m l next))
    (cases_Bool (p a))

-- ---- what a layer's test tells
both_true : (b c : Bool) → (b && c) ≡ true → (b ≡ true) × (c ≡ true)
both_true true true t = (refl, refl)
both_true true false t = absurd (false≢true t)
both_true false true t = absurd (false≢true t)
both_true false false t = absurd (false≢true t)

two_true : (b c : Bool) → b ≡ true → c ≡ true → (b && c) ≡ true
two_true b c e f = rw (e, f) refl

is_equal : (m n : ℕ) → m ≡ n → eqb m n ≡ true
is_equal m n e = ⊎_elim (λ t. t.0) (λ t. absurd (t.1 e)) (eqb_tells m n)

pub layer_and : (gates : List Gate) (d k : ℕ) → is_layer_and gates d k ≡ true → (is_and (gate_at gates k) ≡ true) × (slice_index (depths_of gates) k ≡ d)
layer_and gates d k t = let b = both_true (is_and (gate_at gates k)) (eqb (slice_index (depths_of gates) k) d) t in (b.0, eqb-true (slice_index (depths_of gates) k) d b.1)

layer_rest : (gates : List Gate) (d k : ℕ) → is_layer_rest gates d k ≡ true → (is_linear (gate_at gates k) ≡ true) × (slice_index (depths_of gates) k ≡ d)
layer_rest gates d k t = let b = both_true (is_linear (gate_at gates k)) (eqb (slice_index (depths_of gates) k) d) t in (b.0, eqb-true (slice_index (depths_of gates) k) d b.1)

pub and_gate : (g : Gate) → is_and g ≡ true → g ≡ And (first_of g) (second_of g)
and_gate (And x y) t = refl
and_gate (Input site index) t = absurd (false≢true t)
and_gate (Given index) t = absurd (false≢true t)
and_gate (Const word) t = absurd (false≢true t)
and_gate (Xor x y) t = absurd (false≢true t)
and_gate (Spread x lane) t = absurd (false≢true t)
and_gate (Move x from count to) t = absurd (false≢true t)

-- ---- And gates
pub map_at : {X Y : Type 0} (f : X → Y) (xs : List X) (k : ℕ) (d : X) → get_or (map f xs) k (f d) ≡ f (get_or xs k d)
map_at f [] k d = refl
map_at f (x ∷ xs) zero d = refl
map_at f (x ∷ xs) (suc k) d = map_at f xs k d

same_share : (site : Site) (t u : Triple) (v w : Masked) (x y x' y' : ℕ) → t ≡ u → v ≡ w → x ≡ x' → y ≡ y' → half_product site t ((x ⊕ t.a) ⊕ v.d) ((y ⊕ t.b) ⊕ v.e) ≡ half_product site u ((x' ⊕ u.a) ⊕ w.d) ((y' ⊕ u.b) ⊕ w.e)
same_share site t u v w x y x' y' e f g h = rw (e, f, g, h) refl

and_right : (hw : HeldWords) (views : List GateView) (gates : List Gate) (s : List ℕ) (a x y : ℕ) (inputs n : ℕ) (whole : List ℕ)
    → get_or s x 0 ≡ get_or whole x 0 → get_or s y 0 ≡ get_or whole y 0
    → and_share hw.site views s (record { gate = a; number = n; x = x; y = y }) ≡ share_from (held hw views) (map received views) whole inputs n (And x y)
and_right hw views gates s a x y inputs n whole ex ey =
    same_share hw.site (own_triple (view_at views n)) (triple_at (held hw views) n) (received (view_at views n)) (heard_at (map received views) n) (get_or s x 0) (get_or s y 0) (get_or whole x 0) (get_or whole y 0)
    (sym (map_at own_triple views n no_view)) (sym (map_at received views n no_view)) ex ey

pub after_and : (gates : List Gate) → InOrder gates → (a t : ℕ) → a < length gates → is_layer_and gates (t + 1) a ≡ true
    → let g = gate_at gates a in (first_of g < a) × (second_of g < a) × (slice_index (depths_of gates) (first_of g) ≤ t) × (slice_index (depths_of gates) (second_of g) ≤ t)
after_and gates o a t l p =
    let g : Gate = gate_at gates a in
    let is = layer_and gates (t + 1) a p in
    let e : g ≡ And (first_of g) (second_of g) = and_gate g is.0 in
    let below : (first_of g < a) × (second_of g < a) = subst (NamesBelow a) e (o.at a (Const 0) l) in
    let after : (slice_index (depths_of gates) (first_of g) < slice_index (depths_of gates) a) × (slice_index (depths_of gates) (second_of g) < slice_index (depths_of gates) a)
    = subst (IsAfter (slice_index (depths_of gates)) (slice_index (depths_of gates) a)) e ((depths_in_rounds gates o).at a (Const 0) l) in
    let d = is.1 in let p0 = after.0 in let p1 = after.1 in
    (below.0, below.1, omega arith, omega arith)

-- the And gates of depth t + 1, where the shares up to depth t are there
pub ands_settled : (hw : HeldWords) (views : List GateView) (gates : List Gate) (t : ℕ) (s : List ℕ) → InOrder gates → length s ≡ length gates → KnownTo (held hw views) (map received views) gates t s
    → Good (length gates) (λ j. slice_index (depths_of gates) j ≤ t) (is_layer_and gates (t + 1)) (half_walk (held hw views) (map received views) gates).shares (length gates) (fold (and_put hw.site views s) s (layer_of gates (t + 1)).ands)
ands_settled hw views gates t s o l known =
    let R : ℕ → Type 0 = λ j. slice_index (depths_of gates) j ≤ t in
    let p : ℕ → Bool = is_layer_and gates (t + 1) in
    let whole : List ℕ = (half_walk (held hw views) (map received views) gates).shares in
    let value : List ℕ → ℕ → ℕ = λ u k. and_share hw.site views s (and_of gates k) in
    let right : (a : ℕ) (u : List ℕ) → a < length gates → p a ≡ true → Good (length gates) R p whole a u → value u a ≡ get_or whole a 0
    = λ a u m q good.
    let g : Gate = gate_at gates a in
    let is = layer_and gates (t + 1) a q in
    let after = after_and gates o a t m q in
    and_right hw views gates s a (first_of g) (second_of g) (count_by is_input (take a gates)) (number_of_and gates a) whole
    (known (first_of g) (omega (arith, after.0)) after.2) (known (second_of g) (omega (arith, after.1)) after.3)
    ∙ ap (share_from (held hw views) (map received views) whole (count_by is_input (take a gates)) (number_of_and gates a)) (sym (and_gate g is.0))
    ∙ sym (share_at (held hw views) (map received views) gates a (Const 0) o m) in
    let begun : Good (length gates) R p whole 0 s = λ j m q. ⊎_elim (λ r. known j m r) (λ n. absurd (omega (arith, n.1))) q in
    subst (Good (length gates) R p whole (length gates)) (sym (fold-map (and_put hw.site views s) (and_of gates) s (filter p (range_with_len 0 (length gates)))))
    (all_written (length gates) R p whole value right (length gates) 0 (length gates) s (omega arith) (omega arith) l begun)

-- ---- the other gates
linear_right : (h : HalfWords) (heard : List Masked) (round : ℕ → ℕ) (n a inputs k : ℕ) (s whole : List ℕ) (g : Gate) → is_linear g ≡ true → NamesBelow a g → IsAfter round n g
    → ((x : ℕ) → x < a → round x ≤ n → get_or s x 0 ≡ get_or whole x 0) → linear_share s g ≡ share_from h heard whole inputs k g
linear_right h heard round n a inputs k s whole (Xor x y) t b i e = rw (e x b.0 i.0, e y b.1 i.1) refl
linear_right h heard round n a inputs k s whole (Spread x lane) t b i e = rw (e x b i) refl
linear_right h heard round n a inputs k s whole (Move x from count to) t b i e = rw (e x b i) refl
linear_right h heard round n a inputs k s whole (And x y) t b i e = absurd (false≢true t)
linear_right h heard round n a inputs k s whole (Input site index) t b i e = absurd (false≢true t)
linear_right h heard round n a inputs k s whole (Given index) t b i e = absurd (false≢true t)
linear_right h heard round n a inputs k s whole (Const word) t b i e = absurd (false≢true t)

-- gates that are there before the linear ones of depth n
abbrev pub Before : List Gate → ℕ → ℕ → Type 0
Before gates n j = (slice_index (depths_of gates) j < n) ⊎ ((slice_index (depths_of gates) j ≡ n) × (is_linear (gate_at gates j) ≡ false))

lt_or_same : (m n : ℕ) → m ≤ n → (m < n) ⊎ (m ≡ n)
lt_or_same m n l = ⊎_elim (λ e. inr e) (λ x. inl (omega arith)) (cases_eq m n)

placed : (gates : List Gate) (n a j : ℕ) → j < a → slice_index (depths_of gates) j ≤ n → Before gates n j ⊎ ((is_layer_rest gates n j ≡ true) × (j < a))
placed gates n a j b l =
    ⊎_elim (λ x. inl (inl x))
    (λ e. ⊎_elim (λ t. inr (two_true (is_linear (gate_at gates j)) (eqb (slice_index (depths_of gates) j) n) t (is_equal (slice_index (depths_of gates) j) n e), b)) (λ t. inl (inr (e, t))) (cases_Bool (is_linear (gate_at gates j))))
    (lt_or_same (slice_index (depths_of gates) j) n l)

pub rest_settled : (h : HalfWords) (heard : List Masked) (gates : List Gate) (n : ℕ) (s : List ℕ) → InOrder gates → length s ≡ length gates
    → ((j : ℕ) → j < length gates → Before gates n j → get_or s j 0 ≡ get_or (half_walk h heard gates).shares j 0)
    → KnownTo h heard gates n (fold (linear_settled gates) s (layer_of gates n).rest)
rest_settled h heard gates n s o l before =
    let R : ℕ → Type 0 = Before gates n in
    let p : ℕ → Bool = is_layer_rest gates n in
    let whole : List ℕ = (half_walk h heard gates).shares in
    let right : (a : ℕ) (u : List ℕ) → a < length gates → p a ≡ true → Good (length gates) R p whole a u → linear_share u (gate_at gates a) ≡ get_or whole a 0
    = λ a u m q good.
    let is = layer_rest gates n a q in
    linear_right h heard (slice_index (depths_of gates)) n a (count_by is_input (take a gates)) (number_of_and gates a) u whole (gate_at gates a) is.0 (o.at a (Const 0) m)
    (subst (λ (i : ℕ). IsAfter (slice_index (depths_of gates)) i (gate_at gates a)) is.1 ((depths_in_rounds gates o).at a (Const 0) m))
    (λ x b d. good x (omega arith) (placed gates n a x b d))
    ∙ sym (share_at h heard gates a (Const 0) o m) in
    let begun : Good (length gates) R p whole 0 s = λ j m q. ⊎_elim (λ r. before j m r) (λ x. absurd (omega (arith, x.1))) q in
    let done : Good (length gates) R p whole (length gates) (fold (linear_settled gates) s (layer_of gates n).rest)
    = all_written (length gates) R p whole (λ u k. linear_share u (gate_at gates k)) right (length gates) 0 (length gates) s (omega arith) (omega arith) l begun in
    λ j m d. done j m (placed gates n (length gates) j m d)

-- ---- a depth more
deep_not_linear : (ds : List ℕ) (g : Gate) → is_linear g ≡ false → 0 < gate_depth ds g → is_and g ≡ true
deep_not_linear ds (And x y) t d = refl
deep_not_linear ds (Input site index) t d = absurd (omega arith)
deep_not_linear ds (Given index) t d = absurd (omega arith)
deep_not_linear ds (Const word) t d = absurd (omega arith)
deep_not_linear ds (Xor x y) t d = absurd (false≢true (sym t))
deep_not_linear ds (Spread x lane) t d = absurd (false≢true (sym t))
deep_not_linear ds (Move x from count to) t d = absurd (false≢true (sym t))

pub known_later : (h : HalfWords) (heard next : List Masked) (gates : List Gate) (t : ℕ) (s : List ℕ) → InOrder gates → upto t (and_rounds gates (depths_of gates)) heard ≡ upto t (and_rounds gates (depths_of gates)) next
    → KnownTo h heard gates t s → KnownTo h next gates t s
known_later h heard next gates t s o u known = λ j l d. known j l d ∙ shares_settled t h gates (depths_of gates) heard next (depths_in_rounds gates o) u j d

pub known_more : (hw : HeldWords) (views : List GateView) (gates : List Gate) (t : ℕ) (s : List ℕ) → InOrder gates → length s ≡ length gates → length (fold (and_put hw.site views s) s (layer_of gates (t + 1)).ands) ≡ length gates
    → KnownTo (held hw views) (map received views) gates t s
    → KnownTo (held hw views) (map received views) gates (t + 1) (fold (linear_settled gates) (fold (and_put hw.site views s) s (layer_of gates (t + 1)).ands) (layer_of gates (t + 1)).rest)
known_more hw views gates t s o l long known =
    let good = ands_settled hw views gates t s o l known in
    rest_settled (held hw views) (map received views) gates (t + 1) (fold (and_put hw.site views s) s (layer_of gates (t + 1)).ands) o long
    (λ j m b. ⊎_elim
    (λ x. good j m (inl (omega arith)))
    (λ e.
    let own = depth_here gates o j (Const 0) m in
    let d = e.0 in
    good j m (inr (two_true (is_and (gate_at gates j)) (eqb (slice_index (depths_of gates) j) (t + 1)) (deep_not_linear (depths_of gates) (gate_at gates j) e.1 (omega arith)) (is_equal (slice_index (depths_of gates) j) (t + 1) e.0), m)))
    b)

-- ---- the gates of depth 0
leaf_right : (hw : HeldWords) (views : List GateView) (heard : List Masked) (ds whole : List ℕ) (inputs k : ℕ) (g : Gate) → is_linear g ≡ false → gate_depth ds g ≡ 0
    → leaf_share hw inputs g ≡ share_from (held hw views) heard whole inputs k g
leaf_right hw views heard ds whole inputs k (Input site index) t d = refl
leaf_right hw views heard ds whole inputs k (Given index) t d = refl
leaf_right hw views heard ds whole inputs k (Const word) t d = refl
leaf_right hw views heard ds whole inputs k (And x y) t d = absurd (omega arith)
leaf_right hw views heard ds whole inputs k (Xor x y) t d = absurd (false≢true (sym t))
leaf_right hw views heard ds whole inputs k (Spread x lane) t d = absurd (false≢true (sym t))
leaf_right hw views heard ds whole inputs k (Move x from count to) t d = absurd (false≢true (sym t))

pub known_first : (hw : HeldWords) (views : List GateView) (heard : List Masked) (gates : List Gate) (s : List ℕ) → InOrder gates → s ≡ map (leaf_at hw gates) (range_with_len 0 (length gates)) → length s ≡ length gates
    → KnownTo (held hw views) heard gates 0 (fold (linear_settled gates) s (layer_of gates 0).rest)
known_first hw views heard gates s o e l =
    let whole : List ℕ = (half_walk (held hw views) heard gates).shares in
    rest_settled (held hw views) heard gates 0 s o l
    (λ j m b. ⊎_elim
    (λ x. absurd (omega arith))
    (λ q.
    let own = depth_here gates o j (Const 0) m in
    let d = q.0 in
    ap (λ (xs : List ℕ). get_or xs j 0) e
    ∙ get_or-map-range_with_len (leaf_at hw gates) 0 (length gates) j j 0 m (omega arith)
    ∙ leaf_right hw views heard (depths_of gates) whole (count_by is_input (take j gates)) (number_of_and gates j) (gate_at gates j) q.1 (omega arith)
    ∙ sym (share_at (held hw views) heard gates j (Const 0) o m))
    b)
