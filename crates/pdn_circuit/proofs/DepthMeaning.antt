-- Depths mean what they are said to.
use Rattle.std.proofs.Common.{◌≡◌, inl, inr, ◌⊎◌, ℕ, zero, suc, ◌+◌, ◌<◌, ◌≤◌, max, List, [], ◌∷◌, ◌++◌, length, get_or, take, refl, sym, ap, ◌∙◌, subst, ⊎_elim, arith, length-append}
use Rattle.std.specs.Prelude.{slice_index, slice_index_or}
use Rattle.std.specs.List.{fold}
use Rattle.std.proofs.lemmas.List.{get_or_at, take_more}
use Rattle.std.proofs.lemmas.List.Sums.{fold-append}
use Rattle.std.proofs.lemmas.Bool.Decides.{leb_tells}
use Rattle.pdn_circuit.specs.declared.gate.Gate.{Gate}
use Rattle.pdn_circuit.specs.declared.gate.Gate.TheVariants.{Input, Given, Const, Xor, And, Spread, Move}
use Rattle.pdn_circuit.specs.Gates.{NamesBelow, InOrder}
use Rattle.pdn_circuit.specs.Depths.{IsAfter, IsAnd, AndAt, Names, IsRead, IsPath, Below, IsDepth, gate_depth, next_depths, depths_of}
use Rattle.pdn_circuit.proofs.DepthLaws.{depths_stand, depths_in_rounds}

le_total : (m n : ℕ) → (m ≤ n) ⊎ (n ≤ m)
le_total m n = ⊎_elim (λ t. inl t.1) (λ t. let u = t.1 in inr (omega arith)) (leb_tells m n)

-- ---- each gate's depth from those of all gates
depth_same : (ds whole : List ℕ) (g : Gate) → ((k : ℕ) → k < length ds → get_or whole k 0 ≡ get_or ds k 0) → NamesBelow (length ds) g → gate_depth whole g ≡ gate_depth ds g
depth_same ds whole (Input site index) h n = refl
depth_same ds whole (Given index) h n = refl
depth_same ds whole (Const word) h n = refl
depth_same ds whole (Xor a b) h n = rw (h a n.0, h b n.1) refl
depth_same ds whole (And a b) h n = rw (h a n.0, h b n.1) refl
depth_same ds whole (Spread a lane) h n = h a n
depth_same ds whole (Move a from count to) h n = h a n

depth_along : (gates : List Gate) (ds whole : List ℕ) → whole ≡ fold next_depths ds gates
    → ((k : ℕ) (other : Gate) → k < length gates → NamesBelow (length ds + k) (slice_index_or gates k other))
    → (k : ℕ) (other : Gate) → k < length gates → slice_index whole (length ds + k) ≡ gate_depth whole (slice_index_or gates k other)
depth_along [] ds whole e h k other l = absurd (omega arith)
depth_along (g ∷ gs) ds whole e h zero other l =
    let new : List ℕ = gate_depth ds g ∷ [] in
    let stand : (k : ℕ) → k < length ds → get_or whole k 0 ≡ get_or ds k 0 = λ k b. ap (λ (xs : List ℕ). get_or xs k 0) e ∙ depths_stand (g ∷ gs) ds k b in
    let here : NamesBelow (length ds) g = subst (λ (n : ℕ). NamesBelow n g) (omega arith) (h 0 g (omega arith)) in
    ap (λ (xs : List ℕ). get_or xs (length ds + 0) 0) e ∙ depths_stand gs (ds ++ new) (length ds + 0) (omega (arith, length-append ds new))
    ∙ get_or_at ds (gate_depth ds g) [] 0 (length ds + 0) (omega arith) ∙ sym (depth_same ds whole g stand here)
depth_along (g ∷ gs) ds whole e h (suc k) other l =
    let new : List ℕ = gate_depth ds g ∷ [] in
    let place : length (ds ++ new) + k ≡ length ds + suc k = omega (arith, length-append ds new) in
    let rest = depth_along gs (ds ++ new) whole e (λ i o b. subst (λ (n : ℕ). NamesBelow n (slice_index_or gs i o)) (omega (arith, length-append ds new)) (h (suc i) o (omega arith))) k other (omega arith) in
    ap (slice_index whole) (sym place) ∙ rest

pub depth_here : (gates : List Gate) → InOrder gates → (k : ℕ) (other : Gate) → k < length gates → slice_index (depths_of gates) k ≡ gate_depth (depths_of gates) (slice_index_or gates k other)
depth_here gates o k other l =
    let z : 0 + k ≡ k = omega arith in
    ap (slice_index (depths_of gates)) (sym z)
    ∙ depth_along gates [] (depths_of gates) refl (λ i p b. subst (λ (n : ℕ). NamesBelow n (slice_index_or gates i p)) (omega arith) (o.at i p b)) k other l

-- ---- above
reads_after : (round : ℕ → ℕ) (own i : ℕ) (g : Gate) → IsAfter round own g → Names i g → round i ≤ own
reads_after round own i (Input site index) a n = absurd n
reads_after round own i (Given index) a n = absurd n
reads_after round own i (Const word) a n = absurd n
reads_after round own i (Xor x y) a (inl e) = subst (λ (j : ℕ). round j ≤ own) (sym e) a.0
reads_after round own i (Xor x y) a (inr e) = subst (λ (j : ℕ). round j ≤ own) (sym e) a.1
reads_after round own i (And x y) a (inl e) = let p = a.0 in subst (λ (j : ℕ). round j ≤ own) (sym e) (omega arith)
reads_after round own i (And x y) a (inr e) = let p = a.1 in subst (λ (j : ℕ). round j ≤ own) (sym e) (omega arith)
reads_after round own i (Spread x lane) a n = subst (λ (j : ℕ). round j ≤ own) (sym n) a
reads_after round own i (Move x from count to) a n = subst (λ (j : ℕ). round j ≤ own) (sym n) a

and_after : (round : ℕ → ℕ) (own i : ℕ) (g : Gate) → IsAfter round own g → IsAnd g → Names i g → round i < own
and_after round own i (Input site index) a t n = absurd n
and_after round own i (Given index) a t n = absurd n
and_after round own i (Const word) a t n = absurd n
and_after round own i (Xor x y) a t n = absurd t
and_after round own i (And x y) a t (inl e) = subst (λ (j : ℕ). round j < own) (sym e) a.0
and_after round own i (And x y) a t (inr e) = subst (λ (j : ℕ). round j < own) (sym e) a.1
and_after round own i (Spread x lane) a t n = absurd t
and_after round own i (Move x from count to) a t n = absurd t

path_above : (gates : List Gate) → InOrder gates → (i : ℕ) (path : List ℕ) (k : ℕ) → IsPath gates i path k → AndAt gates k → slice_index (depths_of gates) i < slice_index (depths_of gates) k
path_above gates o i [] k p a =
    and_after (slice_index (depths_of gates)) (slice_index (depths_of gates) k) i (slice_index_or gates k (Const 0)) ((depths_in_rounds gates o).at k (Const 0) p.0) (a.1 (Const 0)) (p.1 (Const 0))
path_above gates o i (m ∷ ms) k p a =
    let up = path_above gates o m ms k p.1 a in
    let here = reads_after (slice_index (depths_of gates)) (slice_index (depths_of gates) m) i (slice_index_or gates m (Const 0)) ((depths_in_rounds gates o).at m (Const 0) p.0.0) (p.0.1 (Const 0)) in
    omega arith

-- ---- tight
path_on : (gates : List Gate) (i : ℕ) (path : List ℕ) (x j : ℕ) → IsPath gates i path x → IsRead gates x j → IsPath gates i (path ++ x ∷ []) j
path_on gates i [] x j p r = (p, r)
path_on gates i (m ∷ ms) x j p r = (p.0, path_on gates m ms x j p.1 r)

-- an And gate of the same depth, which is the gate itself or below it
abbrev pub Deep : List Gate → ℕ → Type 0
Deep gates j = (i : ℕ) × AndAt gates i × ((i ≡ j) ⊎ Below gates i j) × (slice_index (depths_of gates) i ≡ slice_index (depths_of gates) j)

below_on : (gates : List Gate) (i x j : ℕ) → (i ≡ x) ⊎ Below gates i x → IsRead gates x j → Below gates i j
below_on gates i x j (inl e) r = ([], subst (λ (n : ℕ). IsRead gates n j) (sym e) r)
below_on gates i x j (inr b) r = (b.0 ++ x ∷ [], path_on gates i b.0 x j b.1 r)

deep_on : (gates : List Gate) (x j : ℕ) → Deep gates x → IsRead gates x j → slice_index (depths_of gates) x ≡ slice_index (depths_of gates) j → Deep gates j
deep_on gates x j d r e = (d.0, d.1, inr (below_on gates d.0 x j d.2 r), d.3 ∙ e)

deep_of_two : (gates : List Gate) (x y j : ℕ) → slice_index (depths_of gates) j ≡ max (slice_index (depths_of gates) x) (slice_index (depths_of gates) y)
    → (slice_index (depths_of gates) x ≡ slice_index (depths_of gates) j) ⊎ (slice_index (depths_of gates) y ≡ slice_index (depths_of gates) j)
deep_of_two gates x y j e = ⊎_elim (λ l. inr (omega arith)) (λ l. inl (omega arith)) (le_total (slice_index (depths_of gates) x) (slice_index (depths_of gates) y))

deep_gate : (gates : List Gate) (n j : ℕ) (g : Gate) → ((x : ℕ) → x < j → x < length gates → 0 < slice_index (depths_of gates) x → Deep gates x)
    → ((other : Gate) → slice_index_or gates j other ≡ g) → j < length gates → NamesBelow j g → slice_index (depths_of gates) j ≡ gate_depth (depths_of gates) g → 0 < slice_index (depths_of gates) j → Deep gates j
deep_gate gates n j (Input site index) rec eg l b e p = absurd (omega arith)
deep_gate gates n j (Given index) rec eg l b e p = absurd (omega arith)
deep_gate gates n j (Const word) rec eg l b e p = absurd (omega arith)
deep_gate gates n j (Xor x y) rec eg l b e p =
    let bx = b.0 in let by = b.1 in
    ⊎_elim
    (λ q. deep_on gates x j (rec x bx (omega arith) (omega arith)) (l, λ other. subst (Names x) (sym (eg other)) (inl refl)) q)
    (λ q. deep_on gates y j (rec y by (omega arith) (omega arith)) (l, λ other. subst (Names y) (sym (eg other)) (inr refl)) q)
    (deep_of_two gates x y j e)
deep_gate gates n j (And x y) rec eg l b e p = (j, (l, λ other. subst IsAnd (sym (eg other)) tt), inl refl, refl)
deep_gate gates n j (Spread x lane) rec eg l b e p = deep_on gates x j (rec x b (omega arith) (omega arith)) (l, λ other. subst (Names x) (sym (eg other)) refl) (sym e)
deep_gate gates n j (Move x from count to) rec eg l b e p = deep_on gates x j (rec x b (omega arith) (omega arith)) (l, λ other. subst (Names x) (sym (eg other)) refl) (sym e)

gate_at : (gates : List Gate) (j : ℕ) (d other : Gate) → j < length gates → slice_index_or gates j other ≡ slice_index_or gates j d
gate_at [] j d other l = absurd (omega arith)
gate_at (g ∷ gs) zero d other l = refl
gate_at (g ∷ gs) (suc j) d other l = gate_at gs j d other (omega arith)

deep : (gates : List Gate) → InOrder gates → (n j : ℕ) → j < n → j < length gates → 0 < slice_index (depths_of gates) j → Deep gates j
deep gates o zero j b l p = absurd (omega arith)
deep gates o (suc n) j b l p =
    deep_gate gates n j (slice_index_or gates j (Const 0)) (λ x c m q. deep gates o n x (omega arith) m q) (λ other. gate_at gates j (Const 0) other l) l
    (o.at j (Const 0) l) (depth_here gates o j (Const 0) l) p

-- what an And gate has below it, from one of its operands
tight_by : (gates : List Gate) → InOrder gates → (x k : ℕ) → IsRead gates x k → x < k → k < length gates → slice_index (depths_of gates) k ≡ slice_index (depths_of gates) x + 1 → 0 < slice_index (depths_of gates) x
    → (i : ℕ) × AndAt gates i × Below gates i k × (slice_index (depths_of gates) k ≡ slice_index (depths_of gates) i + 1)
tight_by gates o x k r b l e p =
    let d = deep gates o k x b (omega arith) p in
    let same = d.3 in
    (d.0, d.1, below_on gates d.0 x k d.2 r, omega arith)

one_of : (m n k : ℕ) → k ≡ 1 + max m n → (k ≡ 1) ⊎ ((0 < m) × (k ≡ m + 1)) ⊎ ((0 < n) × (k ≡ n + 1))
one_of m n k e = ⊎_elim
    (λ l. elim n as (λ n. m ≤ n → k ≡ 1 + max m n → (k ≡ 1) ⊎ ((0 < m) × (k ≡ m + 1)) ⊎ ((0 < n) × (k ≡ n + 1))) [ zero ↦ λ l e. inl (omega arith) | suc i ↦ λ l e. inr (inr (omega arith, omega arith)) ] l e)
    (λ l. elim m as (λ m. n ≤ m → k ≡ 1 + max m n → (k ≡ 1) ⊎ ((0 < m) × (k ≡ m + 1)) ⊎ ((0 < n) × (k ≡ n + 1))) [ zero ↦ λ l e. inl (omega arith) | suc i ↦ λ l e. inr (inl (omega arith, omega arith)) ] l e)
    (le_total m n)

tight_gate : (gates : List Gate) → InOrder gates → (k : ℕ) (g : Gate) → ((other : Gate) → slice_index_or gates k other ≡ g) → k < length gates → NamesBelow k g → IsAnd g → slice_index (depths_of gates) k ≡ gate_depth (depths_of gates) g
    → (slice_index (depths_of gates) k ≡ 1) ⊎ ((i : ℕ) × AndAt gates i × Below gates i k × (slice_index (depths_of gates) k ≡ slice_index (depths_of gates) i + 1))
tight_gate gates o k (Input site index) eg l b a e = absurd a
tight_gate gates o k (Given index) eg l b a e = absurd a
tight_gate gates o k (Const word) eg l b a e = absurd a
tight_gate gates o k (Xor x y) eg l b a e = absurd a
tight_gate gates o k (Spread x lane) eg l b a e = absurd a
tight_gate gates o k (Move x from count to) eg l b a e = absurd a
tight_gate gates o k (And x y) eg l b a e =
    ⊎_elim (λ one. inl one)
    (λ two. inr (⊎_elim
    (λ p. tight_by gates o x k (l, λ other. subst (Names x) (sym (eg other)) (inl refl)) b.0 l p.1 p.0)
    (λ p. tight_by gates o y k (l, λ other. subst (Names y) (sym (eg other)) (inr refl)) b.1 l p.1 p.0) two))
    (one_of (slice_index (depths_of gates) x) (slice_index (depths_of gates) y) (slice_index (depths_of gates) k) e)

pub depths_mean : (gates : List Gate) → InOrder gates → IsDepth gates (slice_index (depths_of gates))
depths_mean gates o = record {
  above = λ i k ai ak b. path_above gates o i b.0 k b.1 ak;
  tight = λ k a. tight_gate gates o k (slice_index_or gates k (Const 0)) (λ other. gate_at gates k (Const 0) other a.0) a.0 (o.at k (Const 0) a.0) (a.1 (Const 0)) (depth_here gates o k (Const 0) a.0);
}

-- ---- as they are computed, one gate after the other
pub depths_more : (gates : List Gate) (k : ℕ) (d : Gate) → k < length gates → depths_of (take (k + 1) gates) ≡ depths_of (take k gates) ++ gate_depth (depths_of (take k gates)) (get_or gates k d) ∷ []
depths_more gates k d l = ap depths_of (take_more gates k d l) ∙ fold-append next_depths [] (take k gates) (get_or gates k d ∷ [])
