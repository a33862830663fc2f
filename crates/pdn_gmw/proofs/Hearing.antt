-- What came in, put into the views of its And gates.
use Rattle.std.proofs.Common.{◌≡◌, Bool, true, false, cond, ℕ, zero, suc, ◌+◌, ◌*◌, ◌<◌, ◌≤◌, List, [], ◌∷◌, ◌++◌, length, get_or, set, take, refl, sym, ap, ◌∙◌, arith, append-nil, append_assoc}
use Rattle.std.specs.List.{count_by}
use Rattle.std.proofs.lemmas.List.{get_or_default, take_more}
use Rattle.std.proofs.lemmas.List.Sums.{sum_by-cons}
use Rattle.pdn_base.specs.declared.site.Site.{Site}
use Rattle.pdn_circuit.specs.declared.gate.Gate.{Gate}
use Rattle.pdn_circuit.specs.Gates.{is_input}
use Rattle.pdn_gmw.specs.Shares.{GateView, inputs_after, r_here, r_words}
use Rattle.pdn_gmw.specs.Layers.{LayerAnd}
use Rattle.pdn_gmw.specs.Known.{no_view, view_at, heard_by}
use Rattle.pdn_gmw.proofs.Progress.{one_more}

at_most_one : (b : Bool) → cond b 1 0 ≤ 1
at_most_one true = omega arith
at_most_one false = omega arith

abbrev pub hears : GateView → ℕ → ℕ → GateView
hears v d e = record { a = v.a; b = v.b; c = v.c; d = d; e = e }

heard_next : (ss : List LayerAnd) (frame : List ℕ) (views : List GateView) (k : ℕ) (o : LayerAnd) → k < length ss → 2 * k + 1 < length frame
    → heard_by (take (suc k) ss) frame views
    ≡ set (heard_by (take k ss) frame views) (get_or ss k o).number (hears (view_at (heard_by (take k ss) frame views) (get_or ss k o).number) (get_or frame (2 * k) 0) (get_or frame (2 * k + 1) 0))
heard_next [] frame views k o l b = absurd (omega arith)
heard_next (s ∷ ss) [] views k o l b = absurd (omega arith)
heard_next (s ∷ ss) (d ∷ []) views k o l b = absurd (omega arith)
heard_next (s ∷ ss) (d ∷ e ∷ frame) views zero o l b = refl
heard_next (s ∷ ss) (d ∷ e ∷ frame) views (suc k) o l b =
    let two : 2 * suc k ≡ suc (suc (2 * k)) = omega arith in
    let three : 2 * suc k + 1 ≡ suc (suc (2 * k + 1)) = omega arith in
    let vs : List GateView = set views s.number (hears (view_at views s.number) d e) in
    heard_next ss frame vs k o (omega arith) (omega arith)
    ∙ ap (λ (i : ℕ). set (heard_by (take k ss) frame vs) (get_or ss k o).number (hears (view_at (heard_by (take k ss) frame vs) (get_or ss k o).number) (get_or (d ∷ e ∷ frame) i 0) (get_or frame (2 * k + 1) 0))) (sym two)
    ∙ ap (λ (i : ℕ). set (heard_by (take k ss) frame vs) (get_or ss k o).number (hears (view_at (heard_by (take k ss) frame vs) (get_or ss k o).number) (get_or (d ∷ e ∷ frame) (2 * suc k) 0) (get_or (d ∷ e ∷ frame) i 0))) (sym three)

-- in code: the view as it was read, and the two words of the frame
pub heard_more : (ss : List LayerAnd) (frame : List ℕ) (views now : List GateView) (k d e : ℕ) (o : LayerAnd) (v : GateView) → k < length ss → length frame ≡ 2 * length ss → now ≡ heard_by (take k ss) frame views
    → (get_or ss k o).number < length now → v ≡ get_or now (get_or ss k o).number v → d ≡ get_or frame (2 * k) d → e ≡ get_or frame (2 * k + 1) e
    → set now (get_or ss k o).number (hears v d e) ≡ heard_by (take (k + 1) ss) frame views
heard_more ss frame views now k d e o v l long same there rv rd re =
    let n : ℕ = (get_or ss k o).number in
    let one : suc k ≡ k + 1 = omega arith in
    let read : v ≡ view_at now n = rv ∙ get_or_default now n v no_view there in
    let first : d ≡ get_or frame (2 * k) 0 = rd ∙ get_or_default frame (2 * k) d 0 (omega arith) in
    let second : e ≡ get_or frame (2 * k + 1) 0 = re ∙ get_or_default frame (2 * k + 1) e 0 (omega arith) in
    ap (λ (w : GateView). set now n (hears w d e)) read
    ∙ ap (λ (i : ℕ). set now n (hears (view_at now n) i e)) first
    ∙ ap (λ (i : ℕ). set now n (hears (view_at now n) (get_or frame (2 * k) 0) i)) second
    ∙ ap (λ (vs : List GateView). set vs n (hears (view_at vs n) (get_or frame (2 * k) 0) (get_or frame (2 * k + 1) 0))) same
    ∙ sym (heard_next ss frame views k o l (omega arith))
    ∙ ap (λ (i : ℕ). heard_by (take i ss) frame views) one

-- ---- the words r of a site, one gate more
r_on : (site : Site) (r : List ℕ) (gs : List Gate) (g : Gate) (count : ℕ) → r_words site r count (gs ++ g ∷ []) ≡ r_words site r count gs ++ r_here site g (get_or r (count + count_by is_input gs) 0)
r_on site r [] g count =
    let z : count ≡ count + count_by is_input [] = omega arith in
    append-nil (r_here site g (get_or r count 0)) ∙ ap (λ (i : ℕ). r_here site g (get_or r i 0)) z
r_on site r (x ∷ gs) g count =
    let z : inputs_after count x + count_by is_input gs ≡ count + count_by is_input (x ∷ gs) = omega (arith, one_more x count, sum_by-cons (λ (y : Gate). cond (is_input y) 1 0) x gs) in
    ap (λ (ws : List ℕ). r_here site x (get_or r count 0) ++ ws) (r_on site r gs g (inputs_after count x))
    ∙ sym (append_assoc (r_here site x (get_or r count 0)) (r_words site r (inputs_after count x) gs) (r_here site g (get_or r (inputs_after count x + count_by is_input gs) 0)))
    ∙ ap (λ (i : ℕ). r_words site r count (x ∷ gs) ++ r_here site g (get_or r i 0)) z

pub r_more : (site : Site) (r : List ℕ) (gates : List Gate) (k inputs : ℕ) (g : Gate) → k < length gates → g ≡ get_or gates k g → inputs ≡ count_by is_input (take k gates)
    → r_words site r 0 (take k gates) ++ r_here site g (get_or r inputs 0) ≡ r_words site r 0 (take (k + 1) gates)
r_more site r gates k inputs g l e i =
    let z : inputs ≡ 0 + count_by is_input (take k gates) = omega (arith, i) in
    ap (λ (n : ℕ). r_words site r 0 (take k gates) ++ r_here site g (get_or r n 0)) z
    ∙ sym (r_on site r (take k gates) g 0)
    ∙ ap (λ (x : Gate). r_words site r 0 (take k gates ++ x ∷ [])) e
    ∙ ap (r_words site r 0) (sym (take_more gates k g l))

count_on : (gs : List Gate) (g : Gate) → count_by is_input (gs ++ g ∷ []) ≡ count_by is_input gs + cond (is_input g) 1 0
count_on [] g = omega (arith, sum_by-cons (λ (y : Gate). cond (is_input y) 1 0) g [])
count_on (x ∷ gs) g =
    let h = count_on gs g in
    omega (arith, sum_by-cons (λ (y : Gate). cond (is_input y) 1 0) x gs, sum_by-cons (λ (y : Gate). cond (is_input y) 1 0) x (gs ++ g ∷ []))

-- how many Input gates there are with one gate more
pub inputs_more : (gates : List Gate) (k inputs next : ℕ) (g : Gate) → k < length gates → g ≡ get_or gates k g → inputs ≡ count_by is_input (take k gates) → next ≡ inputs_after inputs g → next ≡ count_by is_input (take (k + 1) gates)
inputs_more gates k inputs next g l e i n =
    n ∙ one_more g inputs ∙ ap (λ (m : ℕ). m + cond (is_input g) 1 0) i ∙ ap (λ (x : Gate). count_by is_input (take k gates) + cond (is_input x) 1 0) e
    ∙ sym (ap (count_by is_input) (take_more gates k g l) ∙ count_on (take k gates) (get_or gates k g))

pub one_input : (count : ℕ) (g : Gate) → inputs_after count g ≤ count + 1
one_input count g = omega (arith, one_more g count, at_most_one (is_input g))
