-- What both frames of a depth make of its And gates.
use Rattle.std.proofs.Common.{◌≡◌, ℕ, zero, suc, ◌+◌, ◌*◌, ◌<◌, List, [], ◌∷◌, length, get_or, set, map, take, refl, sym, ap, ◌∙◌, arith}
use Rattle.std.specs.Prelude.{slice_index}
use Rattle.std.specs.List.{fold, filter, flat_map, range_with_len}
use Rattle.std.proofs.lemmas.List.{length-map, length-set, get_or_default}
use Rattle.pdn_base.specs.Words.{◌⊕◌}
use Rattle.pdn_base.specs.declared.site.Site.{Site}
use Rattle.pdn_circuit.specs.declared.gate.Gate.{Gate}
use Rattle.pdn_circuit.specs.Gates.{Net, ands}
use Rattle.pdn_circuit.specs.Depths.{depths_of}
use Rattle.pdn_dealer.proofs.SectionWords.{length-ands}
use Rattle.pdn_dealer.specs.declared.parts.Triple.{Triple}
use Rattle.pdn_dealer.specs.Sections.{no_triple, five_count}
use Rattle.pdn_gmw.specs.Shares.{Masked, GateView, blank}
use Rattle.pdn_gmw.specs.Halves.{half_product}
use Rattle.pdn_gmw.specs.Rounds.{pick, put}
use Rattle.pdn_gmw.specs.Layers.{LayerAnd, number_of_and, and_of, is_layer_and, layer_of}
use Rattle.pdn_gmw.specs.Known.{no_view, view_at, own_triple, received, and_sends, heard_by, and_put, settled_by}
use Rattle.pdn_gmw.specs.Steps.{rounds_of, masked_words, masked_of}
use Rattle.pdn_gmw.proofs.Settling.{map_at}
use Rattle.pdn_gmw.proofs.Picking.{read_at, picked, pick_put, rounds_long}
use Rattle.pdn_gmw.proofs.Stepping.{triples_kept, heard_put, length-heard_by}

-- ---- one And gate more
settled_next : (site : Site) (views : List GateView) (ss : List LayerAnd) (sent heard shares : List ℕ) (k : ℕ) (o : LayerAnd) → k < length ss → 2 * k + 1 < length sent → 2 * k + 1 < length heard
    → settled_by site views (take (suc k) ss) sent heard shares
    ≡ set (settled_by site views (take k ss) sent heard shares) (get_or ss k o).gate
    (half_product site (own_triple (view_at views (get_or ss k o).number)) (get_or sent (2 * k) 0 ⊕ get_or heard (2 * k) 0) (get_or sent (2 * k + 1) 0 ⊕ get_or heard (2 * k + 1) 0))
settled_next site views [] sent heard shares k o l m n = absurd (omega arith)
settled_next site views (s ∷ ss) [] heard shares k o l m n = absurd (omega arith)
settled_next site views (s ∷ ss) (x ∷ []) heard shares k o l m n = absurd (omega arith)
settled_next site views (s ∷ ss) (x ∷ y ∷ sent) [] shares k o l m n = absurd (omega arith)
settled_next site views (s ∷ ss) (x ∷ y ∷ sent) (d ∷ []) shares k o l m n = absurd (omega arith)
settled_next site views (s ∷ ss) (x ∷ y ∷ sent) (d ∷ e ∷ heard) shares zero o l m n = refl
settled_next site views (s ∷ ss) (x ∷ y ∷ sent) (d ∷ e ∷ heard) shares (suc k) o l m n =
    let two : 2 * suc k ≡ suc (suc (2 * k)) = omega arith in
    let three : 2 * suc k + 1 ≡ suc (suc (2 * k + 1)) = omega arith in
    let now : List ℕ = set shares s.gate (half_product site (own_triple (view_at views s.number)) (x ⊕ d) (y ⊕ e)) in
    let t : Triple = own_triple (view_at views (get_or ss k o).number) in
    let all : List ℕ = settled_by site views (take k ss) sent heard now in
    settled_next site views ss sent heard now k o (omega arith) (omega arith) (omega arith)
    ∙ ap (λ (i : ℕ). set all (get_or ss k o).gate (half_product site t (get_or (x ∷ y ∷ sent) i 0 ⊕ get_or (d ∷ e ∷ heard) i 0) (get_or sent (2 * k + 1) 0 ⊕ get_or heard (2 * k + 1) 0))) (sym two)
    ∙ ap (λ (i : ℕ). set all (get_or ss k o).gate (half_product site t (get_or (x ∷ y ∷ sent) (2 * suc k) 0 ⊕ get_or (d ∷ e ∷ heard) (2 * suc k) 0) (get_or (x ∷ y ∷ sent) i 0 ⊕ get_or (d ∷ e ∷ heard) i 0))) (sym three)

triple_same : (views next : List GateView) (k : ℕ) → map own_triple next ≡ map own_triple views → own_triple (view_at views k) ≡ own_triple (view_at next k)
triple_same views next k e = sym (map_at own_triple views k no_view) ∙ ap (λ (ts : List Triple). get_or ts k no_triple) (sym e) ∙ map_at own_triple next k no_view

-- in code: the view as it was read, and two words of each frame
pub settled_more : (site : Site) (ss : List LayerAnd) (sent heard shares now : List ℕ) (views seen : List GateView) (k d e x y share : ℕ) (o : LayerAnd) (v : GateView) → k < length ss → length sent ≡ 2 * length ss → length heard ≡ 2 * length ss
    → now ≡ settled_by site views (take k ss) sent heard shares → seen ≡ heard_by (take k ss) heard views → (get_or ss k o).number < length seen → v ≡ get_or seen (get_or ss k o).number v
    → d ≡ get_or heard (2 * k) d → e ≡ get_or heard (2 * k + 1) e → x ≡ get_or sent (2 * k) x → y ≡ get_or sent (2 * k + 1) y
    → share ≡ half_product site (own_triple v) (x ⊕ d) (y ⊕ e)
    → set now (get_or ss k o).gate share ≡ settled_by site views (take (k + 1) ss) sent heard shares
settled_more site ss sent heard shares now views seen k d e x y share o v l ls lh en ev there rv rd re rx ry es =
    let s : LayerAnd = get_or ss k o in
    let one : suc k ≡ k + 1 = omega arith in
    let triple : own_triple v ≡ own_triple (view_at views s.number)
    = ap own_triple (rv ∙ get_or_default seen s.number v no_view there) ∙ sym (triple_same views seen s.number (ap (map own_triple) ev ∙ triples_kept (take k ss) heard views)) in
    let d0 : d ≡ get_or heard (2 * k) 0 = rd ∙ get_or_default heard (2 * k) d 0 (omega arith) in
    let e0 : e ≡ get_or heard (2 * k + 1) 0 = re ∙ get_or_default heard (2 * k + 1) e 0 (omega arith) in
    let x0 : x ≡ get_or sent (2 * k) 0 = rx ∙ get_or_default sent (2 * k) x 0 (omega arith) in
    let y0 : y ≡ get_or sent (2 * k + 1) 0 = ry ∙ get_or_default sent (2 * k + 1) y 0 (omega arith) in
    let all : List ℕ = settled_by site views (take k ss) sent heard shares in
    ap (λ (xs : List ℕ). set xs s.gate share) en
    ∙ ap (λ (w : ℕ). set all s.gate w)
    (es ∙ ap (λ (t : Triple). half_product site t (x ⊕ d) (y ⊕ e)) triple
    ∙ ap (λ (w : ℕ). half_product site (own_triple (view_at views s.number)) (x ⊕ w) (y ⊕ e)) d0
    ∙ ap (λ (w : ℕ). half_product site (own_triple (view_at views s.number)) (x ⊕ get_or heard (2 * k) 0) (y ⊕ w)) e0
    ∙ ap (λ (w : ℕ). half_product site (own_triple (view_at views s.number)) (w ⊕ get_or heard (2 * k) 0) (y ⊕ get_or heard (2 * k + 1) 0)) x0
    ∙ ap (λ (w : ℕ). half_product site (own_triple (view_at views s.number)) (get_or sent (2 * k) 0 ⊕ get_or heard (2 * k) 0) (w ⊕ get_or heard (2 * k + 1) 0)) y0)
    ∙ sym (settled_next site views ss sent heard shares k o l (omega arith) (omega arith))
    ∙ ap (λ (i : ℕ). settled_by site views (take i ss) sent heard shares) one

pub length-settled_by : (site : Site) (views : List GateView) (ss : List LayerAnd) (sent heard shares : List ℕ) → length (settled_by site views ss sent heard shares) ≡ length shares
length-settled_by site views [] sent heard shares = refl
length-settled_by site views (s ∷ ss) [] heard shares = refl
length-settled_by site views (s ∷ ss) (x ∷ []) heard shares = refl
length-settled_by site views (s ∷ ss) (x ∷ y ∷ sent) [] shares = refl
length-settled_by site views (s ∷ ss) (x ∷ y ∷ sent) (d ∷ []) shares = refl
length-settled_by site views (s ∷ ss) (x ∷ y ∷ sent) (d ∷ e ∷ heard) shares =
    let w : ℕ = half_product site (own_triple (view_at views s.number)) (x ⊕ d) (y ⊕ e) in
    length-settled_by site views ss sent heard (set shares s.gate w) ∙ length-set shares s.gate w

-- ---- the same from the views
abbrev head_of : List Masked → Masked
head_of [] = blank
head_of (m ∷ ms) = m

abbrev tail_of : List Masked → List Masked
tail_of [] = []
tail_of (m ∷ ms) = ms

same_value : (site : Site) (t u : Triple) (x y d e : ℕ) (m : Masked) → t ≡ u → ◌≡◌ {A = Masked} (record { d = d; e = e }) m
    → half_product site t ((x ⊕ t.a) ⊕ d) ((y ⊕ t.b) ⊕ e) ≡ half_product site u ((x ⊕ u.a) ⊕ m.d) ((y ⊕ u.b) ⊕ m.e)
same_value site t u x y d e m et em =
    ap (λ (w : Triple). half_product site w ((x ⊕ w.a) ⊕ d) ((y ⊕ w.b) ⊕ e)) et
    ∙ ap (λ (n : Masked). half_product site u ((x ⊕ u.a) ⊕ n.d) ((y ⊕ u.b) ⊕ n.e)) em

along : (site : Site) (views next : List GateView) (before : List ℕ) (ss : List LayerAnd) (heard shares : List ℕ) → map own_triple next ≡ map own_triple views → masked_of heard ≡ map (λ s. received (view_at next s.number)) ss
    → settled_by site views ss (flat_map (λ s. masked_words (and_sends views before s)) ss) heard shares ≡ fold (and_put site next before) shares ss
along site views next before [] heard shares et eh = refl
along site views next before (s ∷ ss) [] shares et eh = let z = ap length eh in absurd (omega (arith, z))
along site views next before (s ∷ ss) (d ∷ []) shares et eh = let z = ap length eh in absurd (omega (arith, z))
along site views next before (s ∷ ss) (d ∷ e ∷ heard) shares et eh =
    let sent : List ℕ = flat_map (λ r. masked_words (and_sends views before r)) ss in
    let same = same_value site (own_triple (view_at views s.number)) (own_triple (view_at next s.number)) (slice_index before s.x) (slice_index before s.y) d e (received (view_at next s.number)) (triple_same views next s.number et) (ap head_of eh) in
    ap (λ (w : ℕ). settled_by site views ss sent heard (set shares s.gate w)) same
    ∙ along site views next before ss heard (and_put site next before shares s) et (ap tail_of eh)

length-masked_of : (n : ℕ) (ws : List ℕ) → length ws ≡ 2 * n → length (masked_of ws) ≡ n
length-masked_of zero [] l = refl
length-masked_of zero (d ∷ ws) l = absurd (omega arith)
length-masked_of (suc n) [] l = absurd (omega arith)
length-masked_of (suc n) (d ∷ []) l = absurd (omega arith)
length-masked_of (suc n) (d ∷ e ∷ ws) l = ap suc (length-masked_of n ws (omega arith))

read_views : (next : List GateView) (gates : List Gate) (ks : List ℕ) → map (read_at (map received next)) (map (number_of_and gates) ks) ≡ map (λ s. received (view_at next s.number)) (map (and_of gates) ks)
read_views next gates [] = refl
read_views next gates (k ∷ ks) =
    ap (λ (m : Masked). m ∷ map (read_at (map received next)) (map (number_of_and gates) ks)) (map_at received next (number_of_and gates k) no_view)
    ∙ ap (λ (ms : List Masked). received (view_at next (number_of_and gates k)) ∷ ms) (read_views next gates ks)

-- what was heard stands in the views of the And gates
heard_there : (net : Net) (d : ℕ) (heard : List ℕ) (views : List GateView) → length views ≡ five_count net → length heard ≡ 2 * length (layer_of net.gates d).ands
    → masked_of heard ≡ map (λ s. received (view_at (heard_by (layer_of net.gates d).ands heard views) s.number)) (layer_of net.gates d).ands
heard_there net d heard views lv lh =
    let gates : List Gate = net.gates in
    let ks : List ℕ = filter (is_layer_and gates d) (range_with_len 0 (length gates)) in
    let ss : List LayerAnd = (layer_of gates d).ands in
    let next : List GateView = heard_by ss heard views in
    let before : List Masked = map received views in
    let all : map received next ≡ put d (rounds_of net) before (masked_of heard) = heard_put net d heard views lv in
    let long : length before ≡ length (rounds_of net) = omega (arith, length-map views received, lv, length-ands gates, rounds_long (slice_index (depths_of gates)) 0 gates) in
    let many : length (pick d (rounds_of net) before) ≡ length (masked_of heard)
    = ap length (picked gates d before (omega (arith, long, rounds_long (slice_index (depths_of gates)) 0 gates)))
    ∙ length-map (map (number_of_and gates) ks) (read_at before) ∙ length-map ks (number_of_and gates) ∙ sym (length-map ks (and_of gates)) ∙ sym (length-masked_of (length ss) heard lh) in
    let here : pick d (rounds_of net) (map received next) ≡ masked_of heard = ap (pick d (rounds_of net)) all ∙ pick_put d (rounds_of net) before (masked_of heard) long many in
    let kept : length (map received next) ≡ length (ands gates) = omega (arith, length-map next received, length-heard_by ss heard views, lv, length-ands gates) in
    sym here ∙ picked gates d (map received next) kept ∙ read_views next gates ks

-- so the code's shares are those of the And gates
pub exchanged : (site : Site) (net : Net) (d : ℕ) (sent heard shares : List ℕ) (views : List GateView) → length views ≡ five_count net → length heard ≡ 2 * length (layer_of net.gates d).ands
    → sent ≡ flat_map (λ s. masked_words (and_sends views shares s)) (layer_of net.gates d).ands
    → settled_by site views (layer_of net.gates d).ands sent heard shares ≡ fold (and_put site (heard_by (layer_of net.gates d).ands heard views) shares) shares (layer_of net.gates d).ands
exchanged site net d sent heard shares views lv lh es =
    let ss : List LayerAnd = (layer_of net.gates d).ands in
    ap (λ (ws : List ℕ). settled_by site views ss ws heard shares) es
    ∙ along site views (heard_by ss heard views) shares ss heard shares (triples_kept ss heard views) (heard_there net d heard views lv lh)
