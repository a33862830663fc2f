-- The walk of a half, gate by gate.
use Rattle.std.proofs.Common.{◌≡◌, ℕ, suc, ◌+◌, ◌<◌, ◌≤◌, List, [], ◌∷◌, length, get_or, take, drop, cond, Bool, true, refl, sym, ap, ◌∙◌, subst, arith, length-append, length-take-le}
use Rattle.std.specs.List.{fold, count_by}
use Rattle.std.proofs.Math.Seq.{drop-cons}
use Rattle.std.proofs.lemmas.List.{length-map, get_or_append_left, get_or_at, take-append-drop, take_more}
use Rattle.std.proofs.lemmas.List.Sums.{fold-append, sum_by-cons}
use Rattle.pdn_base.specs.declared.site.Site.{Site}
use Rattle.pdn_base.specs.declared.site.Site.TheVariants.{A, B}
use Rattle.pdn_circuit.specs.declared.gate.Gate.{Gate}
use Rattle.pdn_circuit.specs.declared.gate.Gate.TheVariants.{Input, Given, Const, Xor, And, Spread, Move}
use Rattle.pdn_circuit.specs.Gates.{Net, InOrder, operands_of, ands, is_input, is_input_of, is_given, input_count, NamesBelow, TakesNext, IsCircuit}
use Rattle.pdn_circuit.proofs.Reading.{counts_on}
use Rattle.pdn_gmw.specs.Shares.{Masked, blank, inputs_after}
use Rattle.pdn_gmw.specs.Halves.{HalfWords, HalfWalk, half_start, share_from, masked_from, half_share, half_sends, half_masked, half_step, half_walk, IsOwn}
use Rattle.pdn_gmw.specs.Known.{HeldWords, HasLeaves, CanLeaf}
use Rattle.pdn_gmw.proofs.TwoHalves.{sent_here}

-- ---- the walk over the first gates
length_along : (h : HalfWords) (heard : List Masked) (gates : List Gate) (w : HalfWalk) → length (fold (half_step h heard) w gates).shares ≡ length w.shares + length gates
length_along h heard [] w = omega arith
length_along h heard (g ∷ gs) w = let r = length_along h heard gs (half_step h heard w g) in omega (arith, length-append w.shares (half_share h heard w g ∷ []))

sent_along : (h : HalfWords) (heard : List Masked) (gates : List Gate) (w : HalfWalk) → length (fold (half_step h heard) w gates).sent ≡ length w.sent + length (ands gates)
sent_along h heard [] w = omega arith
sent_along h heard (g ∷ gs) w =
    let r = sent_along h heard gs (half_step h heard w g) in
    omega (arith, length-append w.sent (half_sends h w g), length-map (operands_of g) (λ p. half_masked h w p.x p.y), length-append (operands_of g) (ands gs))

pub one_more : (g : Gate) (n : ℕ) → inputs_after n g ≡ n + cond (is_input g) 1 0
one_more (Input site index) n = refl
one_more (Given index) n = omega arith
one_more (Const word) n = omega arith
one_more (Xor a b) n = omega arith
one_more (And a b) n = omega arith
one_more (Spread a lane) n = omega arith
one_more (Move a from count to) n = omega arith

inputs_along : (h : HalfWords) (heard : List Masked) (gates : List Gate) (w : HalfWalk) → (fold (half_step h heard) w gates).inputs ≡ w.inputs + count_by is_input gates
inputs_along h heard [] w = omega arith
inputs_along h heard (g ∷ gs) w =
    let r = inputs_along h heard gs (half_step h heard w g) in
    omega (arith, one_more g w.inputs, sum_by-cons (λ (x : Gate). cond (is_input x) 1 0) g gs)

pub length-shares : (h : HalfWords) (heard : List Masked) (gates : List Gate) → length (half_walk h heard gates).shares ≡ length gates
length-shares h heard gates = length_along h heard gates half_start ∙ omega arith

pub length-sent_words : (h : HalfWords) (heard : List Masked) (gates : List Gate) → length (half_walk h heard gates).sent ≡ length (ands gates)
length-sent_words h heard gates = sent_along h heard gates half_start ∙ omega arith

pub inputs_walked : (h : HalfWords) (heard : List Masked) (gates : List Gate) → (half_walk h heard gates).inputs ≡ count_by is_input gates
inputs_walked h heard gates = inputs_along h heard gates half_start ∙ omega arith

pub walk_more : (h : HalfWords) (heard : List Masked) (gates : List Gate) (k : ℕ) (d : Gate) → k < length gates → half_walk h heard (take (k + 1) gates) ≡ half_step h heard (half_walk h heard (take k gates)) (get_or gates k d)
walk_more h heard gates k d l = ap (half_walk h heard) (take_more gates k d l) ∙ fold-append (half_step h heard) half_start (take k gates) (get_or gates k d ∷ [])

-- ---- what is read at a gate is there
reads_own : (site from : Site) (index own : ℕ) (before gates : List Gate) → own ≡ input_count site gates → index ≡ input_count from before → input_count from before < input_count from gates → IsOwn site from index own
reads_own A A index own before gates e f l = omega arith
reads_own A B index own before gates e f l = tt
reads_own B A index own before gates e f l = tt
reads_own B B index own before gates e f l = omega arith

leaf_reads : (net : Net) (h : HeldWords) (before : List Gate) (inputs : ℕ) (g : Gate) → HasLeaves net h
    → ((p : Gate → Bool) → p g ≡ true → count_by p before < count_by p net.gates) → inputs ≡ count_by is_input before → TakesNext before g → CanLeaf h inputs g
leaf_reads net h before inputs (Input A index) f c i t = let r = f.r in let x = c is_input refl in (reads_own h.site A index (length h.own) before net.gates f.own t (c (is_input_of A) refl), omega arith)
leaf_reads net h before inputs (Input B index) f c i t = let r = f.r in let x = c is_input refl in (reads_own h.site B index (length h.own) before net.gates f.own t (c (is_input_of B) refl), omega arith)
leaf_reads net h before inputs (Given index) f c i t = let r = f.given in let x = c is_given refl in omega arith
leaf_reads net h before inputs (Const word) f c i t = tt
leaf_reads net h before inputs (Xor x y) f c i t = tt
leaf_reads net h before inputs (And x y) f c i t = tt
leaf_reads net h before inputs (Spread x lane) f c i t = tt
leaf_reads net h before inputs (Move x from count to) f c i t = tt

pub can_leaf : (net : Net) (h : HeldWords) (k inputs : ℕ) (d : Gate) → IsCircuit net → HasLeaves net h → k < length net.gates → inputs ≡ count_by is_input (take k net.gates) → CanLeaf h inputs (get_or net.gates k d)
can_leaf net h k inputs d is f l e = leaf_reads net h (take k net.gates) inputs (get_or net.gates k d) f (λ p t. counts_on p net.gates k d l t) e (is.gates.numbers.at k d l)

-- ---- one gate more
pub share_agrees : (h : HalfWords) (heard : List Masked) (xs ys : List ℕ) (inputs ands k : ℕ) (g : Gate)
    → ((j : ℕ) → j < k → get_or xs j 0 ≡ get_or ys j 0) → NamesBelow k g → share_from h heard xs inputs ands g ≡ share_from h heard ys inputs ands g
share_agrees h heard xs ys inputs ands k (Input from index) e n = refl
share_agrees h heard xs ys inputs ands k (Given index) e n = refl
share_agrees h heard xs ys inputs ands k (Const word) e n = refl
share_agrees h heard xs ys inputs ands k (Xor x y) e n = rw (e x n.0, e y n.1) refl
share_agrees h heard xs ys inputs ands k (And x y) e n = rw (e x n.0, e y n.1) refl
share_agrees h heard xs ys inputs ands k (Spread x lane) e n = rw (e x n) refl
share_agrees h heard xs ys inputs ands k (Move x from count to) e n = rw (e x n) refl

-- the walk over the first k gates has their shares
shares_stand : (h : HalfWords) (heard : List Masked) (gates : List Gate) (w : HalfWalk) (k : ℕ) → k < length w.shares → get_or (fold (half_step h heard) w gates).shares k 0 ≡ get_or w.shares k 0
shares_stand h heard [] w k l = refl
shares_stand h heard (g ∷ gs) w k l =
    let new : List ℕ = half_share h heard w g ∷ [] in
    shares_stand h heard gs (half_step h heard w g) k (omega (arith, length-append w.shares new)) ∙ get_or_append_left w.shares new 0 k l

pub front_stands : (h : HalfWords) (heard : List Masked) (gates : List Gate) (k j : ℕ) → k ≤ length gates → j < k → get_or (half_walk h heard gates).shares j 0 ≡ get_or (half_walk h heard (take k gates)).shares j 0
front_stands h heard gates k j l b =
    let w : HalfWalk = half_walk h heard (take k gates) in
    ap (λ (gs : List Gate). get_or (half_walk h heard gs).shares j 0) (sym (take-append-drop k gates))
    ∙ ap (λ (v : HalfWalk). get_or v.shares j 0) (fold-append (half_step h heard) half_start (take k gates) (drop k gates))
    ∙ shares_stand h heard (drop k gates) w j (omega (arith, length-shares h heard (take k gates), length-take-le k gates l))

-- each gate's share, from the shares of all gates
pub share_at : (h : HalfWords) (heard : List Masked) (gates : List Gate) (k : ℕ) (d : Gate) → InOrder gates → k < length gates
    → get_or (half_walk h heard gates).shares k 0 ≡ share_from h heard (half_walk h heard gates).shares (count_by is_input (take k gates)) (length (ands (take k gates))) (get_or gates k d)
share_at h heard gates k d o l =
    let w : HalfWalk = half_walk h heard (take k gates) in
    let g : Gate = get_or gates k d in
    front_stands h heard gates (k + 1) k (omega arith) (omega arith)
    ∙ ap (λ (v : HalfWalk). get_or v.shares k 0) (walk_more h heard gates k d l)
    ∙ get_or_at w.shares (half_share h heard w g) [] 0 k (length-shares h heard (take k gates) ∙ omega (arith, length-take-le k gates (omega arith)))
    ∙ ap (λ (i : ℕ). share_from h heard w.shares i (length w.sent) g) (inputs_walked h heard (take k gates))
    ∙ ap (λ (n : ℕ). share_from h heard w.shares (count_by is_input (take k gates)) n g) (length-sent_words h heard (take k gates))
    ∙ share_agrees h heard w.shares (half_walk h heard gates).shares (count_by is_input (take k gates)) (length (ands (take k gates))) k g
    (λ j b. sym (front_stands h heard gates k j (omega arith) b)) (o.at k d l)

-- what is sent for an And gate, from the shares of all gates
pub sent_at : (h : HalfWords) (heard : List Masked) (gates : List Gate) (k x y : ℕ) (d : Gate) → InOrder gates → k < length gates → get_or gates k d ≡ And x y
    → get_or (half_walk h heard gates).sent (length (ands (take k gates))) blank ≡ masked_from h (half_walk h heard gates).shares (length (ands (take k gates))) x y
sent_at h heard gates k x y d o l e =
    let w : HalfWalk = half_walk h heard (take k gates) in
    let n : ℕ = length (ands (take k gates)) in
    let count : length w.sent ≡ n = length-sent_words h heard (take k gates) in
    let rest : drop k gates ≡ And x y ∷ drop (suc k) gates = drop-cons gates k d l ∙ ap (λ (g : Gate). g ∷ drop (suc k) gates) e in
    let whole : half_walk h heard gates ≡ fold (half_step h heard) w (And x y ∷ drop (suc k) gates)
    = ap (half_walk h heard) (sym (take-append-drop k gates)) ∙ fold-append (half_step h heard) half_start (take k gates) (drop k gates) ∙ ap (fold (half_step h heard) w) rest in
    let below : (x < k) × (y < k) = subst (NamesBelow k) e (o.at k d l) in
    ap (λ (v : HalfWalk). get_or v.sent n blank) whole
    ∙ ap (λ (m : ℕ). get_or (fold (half_step h heard) w (And x y ∷ drop (suc k) gates)).sent m blank) (sym count)
    ∙ sent_here h heard (drop (suc k) gates) w x y
    ∙ ap (λ (m : ℕ). masked_from h w.shares m x y) count
    ∙ rw (front_stands h heard gates k x (omega arith) below.0, front_stands h heard gates k y (omega arith) below.1) refl
