-- The layers, gate by gate.
use Rattle.std.proofs.Common.{◌≡◌, ℕ, zero, suc, ◌+◌, ◌<◌, ◌≤◌, max, Bool, true, false, cond, eqb, ◌&&◌, List, [], ◌∷◌, ◌++◌, length, get_or, set, map, take, replicate, refl, sym, ap, ◌∙◌, ⊎_elim, arith, length-append, append-nil, get_or-set_same, get_or-set_other}
use Rattle.std.specs.Prelude.{slice_index, slice_index_or, slice_set}
use Rattle.std.specs.List.{fold, filter, range_with_len}
use Rattle.std.proofs.lemmas.Bool.Decides.{eqb_tells}
use Rattle.std.proofs.lemmas.List.{map-append, take_more}
use Rattle.std.proofs.lemmas.List.Elements.{filter-append}
use Rattle.pdn_circuit.specs.declared.gate.Gate.{Gate}
use Rattle.pdn_circuit.specs.Gates.{Net, ands, operands_of}
use Rattle.pdn_circuit.specs.declared.gate.Gate.TheVariants.{Input, Given, Const, Xor, And, Spread, Move}
use Rattle.pdn_circuit.proofs.ValueLaws.{ands_more}
use Rattle.pdn_circuit.specs.Depths.{gate_depth, next_depths, depths_of}
use Rattle.pdn_circuit.specs.Gates.{is_and}
use Rattle.pdn_gmw.specs.Steps.{frame_count}
use Rattle.pdn_gmw.specs.Layers.{LayerAnd, is_linear, gate_at, number_of_and, and_of, is_layer_and, is_layer_rest, LayerWords, no_layer, layer_to, layer_more}

-- ---- depths
depths_long : (gates : List Gate) (ds : List ℕ) → length (fold next_depths ds gates) ≡ length ds + length gates
depths_long [] ds = omega arith
depths_long (g ∷ gs) ds = depths_long gs (ds ++ gate_depth ds g ∷ []) ∙ omega (arith, length-append ds (gate_depth ds g ∷ []))

pub length-depths : (gates : List Gate) → length (depths_of gates) ≡ length gates
length-depths gates = depths_long gates [] ∙ omega arith

max_from : (xs : List ℕ) (a : ℕ) → a ≤ fold max a xs
max_from [] a = omega arith
max_from (x ∷ xs) a = let h = max_from xs (max a x) in omega arith

pub max_over : (xs : List ℕ) (a k : ℕ) → get_or xs k 0 ≤ fold max a xs
max_over [] a k = omega arith
max_over (x ∷ xs) a zero = let h = max_from xs (max a x) in omega arith
max_over (x ∷ xs) a (suc k) = max_over xs (max a x) k

pub no_deeper : (net : Net) (k : ℕ) → slice_index (depths_of net.gates) k ≤ frame_count net
no_deeper net k = max_over (depths_of net.gates) 0 k

-- ---- one gate more
pub range_more : (a n : ℕ) → range_with_len a (n + 1) ≡ range_with_len a n ++ (a + n) ∷ []
range_more a zero = let e : a ≡ a + 0 = omega arith in ap (λ (k : ℕ). k ∷ []) e
range_more a (suc n) =
    let e : a + 1 + n ≡ a + suc n = omega arith in
    let s : suc n + 1 ≡ suc (n + 1) = omega arith in
    ap (range_with_len a) s ∙ ap (λ (xs : List ℕ). a ∷ xs) (range_more (a + 1) n) ∙ ap (λ (k : ℕ). a ∷ (range_with_len (a + 1) n ++ k ∷ [])) e

and_yes : (b : Bool) → (b && true) ≡ b
and_yes true = refl
and_yes false = refl

and_no : (b : Bool) → (b && false) ≡ false
and_no true = refl
and_no false = refl

map_one : {X : Type 0} (f : ℕ → X) (k : ℕ) (b : Bool) → map f (cond b (k ∷ []) []) ≡ cond b (f k ∷ []) []
map_one f k true = refl
map_one f k false = refl

one_at : (p : ℕ → Bool) (k : ℕ) → filter p (k ∷ []) ≡ cond (p k) (k ∷ []) []
one_at p k = refl

filtered_more : (p : ℕ → Bool) (n : ℕ) → filter p (range_with_len 0 (n + 1)) ≡ filter p (range_with_len 0 n) ++ cond (p n) (n ∷ []) []
filtered_more p n =
    let z : 0 + n ≡ n = omega arith in
    ap (filter p) (range_more 0 n) ∙ filter-append p (range_with_len 0 n) ((0 + n) ∷ []) ∙ ap (λ (k : ℕ). filter p (range_with_len 0 n) ++ filter p (k ∷ [])) z

pub mapped_more : {X : Type 0} (f : ℕ → X) (p : ℕ → Bool) (n : ℕ) → map f (filter p (range_with_len 0 (n + 1))) ≡ map f (filter p (range_with_len 0 n)) ++ cond (p n) (f n ∷ []) []
mapped_more f p n =
    ap (map f) (filtered_more p n) ∙ map-append f (filter p (range_with_len 0 n)) (cond (p n) (n ∷ []) [])
    ∙ ap (λ xs. map f (filter p (range_with_len 0 n)) ++ xs) (map_one f n (p n))

same_layer : (a b : List LayerAnd) (r s : List ℕ) → a ≡ b → r ≡ s → ◌≡◌ {A = LayerWords} (record { ands = a; rest = r }) (record { ands = b; rest = s })
same_layer a b r s e f = rw (e, f) refl

more_here : (gates : List Gate) (k d : ℕ) → eqb (slice_index (depths_of gates) k) d ≡ true → layer_to gates (k + 1) d ≡ layer_more (layer_to gates k d) k (number_of_and gates k) (gate_at gates k)
more_here gates k d t =
    let g : Gate = gate_at gates k in
    let yes : is_layer_and gates d k ≡ is_and g = ap (λ b. is_and g && b) t ∙ and_yes (is_and g) in
    let rest : is_layer_rest gates d k ≡ is_linear g = ap (λ b. is_linear g && b) t ∙ and_yes (is_linear g) in
    same_layer _ _ _ _
    (mapped_more (and_of gates) (is_layer_and gates d) k ∙ ap (λ b. map (and_of gates) (filter (is_layer_and gates d) (range_with_len 0 k)) ++ cond b (and_of gates k ∷ []) []) yes)
    (filtered_more (is_layer_rest gates d) k ∙ ap (λ b. filter (is_layer_rest gates d) (range_with_len 0 k) ++ cond b (k ∷ []) []) rest)

more_other : (gates : List Gate) (k d : ℕ) → eqb (slice_index (depths_of gates) k) d ≡ false → layer_to gates (k + 1) d ≡ layer_to gates k d
more_other gates k d t =
    let g : Gate = gate_at gates k in
    let no : is_layer_and gates d k ≡ false = ap (λ b. is_and g && b) t ∙ and_no (is_and g) in
    let rest : is_layer_rest gates d k ≡ false = ap (λ b. is_linear g && b) t ∙ and_no (is_linear g) in
    same_layer _ _ _ _
    (mapped_more (and_of gates) (is_layer_and gates d) k ∙ ap (λ b. map (and_of gates) (filter (is_layer_and gates d) (range_with_len 0 k)) ++ cond b (and_of gates k ∷ []) []) no ∙ append-nil _)
    (filtered_more (is_layer_rest gates d) k ∙ ap (λ b. filter (is_layer_rest gates d) (range_with_len 0 k) ++ cond b (k ∷ []) []) rest ∙ append-nil _)

pub layers_more : (net : Net) (layers : List LayerWords) (k depth ands : ℕ) (gate : Gate) (next : LayerWords) → gate ≡ gate_at net.gates k → depth ≡ slice_index (depths_of net.gates) k → ands ≡ number_of_and net.gates k
    → length layers ≡ frame_count net + 1 → ((d : ℕ) → d ≤ frame_count net → slice_index_or layers d no_layer ≡ layer_to net.gates k d)
    → next ≡ layer_more (slice_index_or layers depth no_layer) k ands gate
    → (d : ℕ) → d ≤ frame_count net → slice_index_or (slice_set layers depth next) d no_layer ≡ layer_to net.gates (k + 1) d
layers_more net layers k depth ands gate next eg ed ea long at en d b =
    ⊎_elim
    (λ t.
    let here : depth ≡ d = ed ∙ t.1 in
    let new : next ≡ layer_more (layer_to net.gates k d) k (number_of_and net.gates k) (gate_at net.gates k)
    = en ∙ ap (λ l. layer_more l k ands gate) (ap (λ (n : ℕ). slice_index_or layers n no_layer) here ∙ at d b) ∙ ap (λ n. layer_more (layer_to net.gates k d) k n gate) ea ∙ ap (layer_more (layer_to net.gates k d) k (number_of_and net.gates k)) eg in
    ap (λ (n : ℕ). get_or (set layers n next) d no_layer) here ∙ get_or-set_same layers d next no_layer (omega arith) ∙ new ∙ sym (more_here net.gates k d t.0))
    (λ t. get_or-set_other layers depth d next no_layer (λ x. absurd (t.1 (sym ed ∙ sym x))) ∙ at d b ∙ sym (more_other net.gates k d t.0))
    (eqb_tells (slice_index (depths_of net.gates) k) d)

none_at : (n d : ℕ) → get_or (replicate n no_layer) d no_layer ≡ no_layer
none_at zero d = refl
none_at (suc n) zero = refl
none_at (suc n) (suc d) = none_at n d

pub layers_begun : (net : Net) (layers : List LayerWords) (n d : ℕ) → layers ≡ replicate n no_layer → slice_index_or layers d no_layer ≡ layer_to net.gates 0 d
layers_begun net layers n d e = ap (λ (ls : List LayerWords). get_or ls d no_layer) e ∙ none_at n d

pub number_more : (gates : List Gate) (k ands : ℕ) (g : Gate) → k < length gates → g ≡ slice_index_or gates k g → ands ≡ number_of_and gates k → ands + length (operands_of g) ≡ number_of_and gates (k + 1)
number_more gates k count g l e n =
    ap (λ (m : ℕ). m + length (operands_of g)) n
    ∙ ap (λ (x : Gate). length (ands (take k gates)) + length (operands_of x)) e
    ∙ sym (ap (λ (gs : List Gate). length (ands gs)) (take_more gates k g l) ∙ ap length (ands_more (take k gates) (get_or gates k g)) ∙ length-append (ands (take k gates)) (operands_of (get_or gates k g)))

pub one_and : (g : Gate) → length (operands_of g) ≤ 1
one_and (Input site index) = omega arith
one_and (Given index) = omega arith
one_and (Const word) = omega arith
one_and (Xor x y) = omega arith
one_and (And x y) = omega arith
one_and (Spread x lane) = omega arith
one_and (Move x from count to) = omega arith
