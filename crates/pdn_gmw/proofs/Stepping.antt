-- One depth of a half: what it reads is there, its frame, and what comes of the one that comes in.
use Rattle.std.proofs.Common.{◌≡◌, ℕ, zero, suc, ◌+◌, ◌*◌, ◌<◌, ◌≤◌, Bool, true, not, List, [], ◌∷◌, ◌++◌, length, get_or, set, map, take, replicate, refl, sym, ap, ◌∙◌, subst, ⊎_elim, arith, All}
use Rattle.std.specs.Prelude.{slice_index, slice_index_or}
use Rattle.std.specs.List.{fold, filter, flat_map, range_with_len}
use lib.Lanes.{zip2}
use Rattle.std.proofs.lemmas.Bool.Decides.{leb_tells}
use Rattle.std.proofs.lemmas.List.{length-map, length-set, get_or-map}
use Rattle.std.proofs.lemmas.List.Elements.{filter_passes, All-filter}
use Rattle.std.proofs.lemmas.List.Filters.{length-filter_both}
use Rattle.std.proofs.lemmas.List.FromFn.{length-range_with_len, get_or-range_with_len}
use Rattle.pdn_base.specs.Words.{◌⊕◌}
use Rattle.pdn_base.specs.declared.site.Site.{Site}
use Rattle.pdn_circuit.specs.declared.gate.Gate.{Gate}
use Rattle.pdn_gmw.specs.declared.stage.Stage.{Stage}
use Rattle.pdn_gmw.specs.declared.stage.Stage.TheVariants.{Ready}
use Rattle.pdn_circuit.specs.declared.gate.Gate.TheVariants.{Const}
use Rattle.pdn_circuit.specs.Gates.{Net, InOrder, IsCircuit, NamesBelow}
use Rattle.pdn_circuit.specs.Depths.{and_rounds, depths_of}
use Rattle.pdn_circuit.proofs.Reading.{counts_on}
use Rattle.pdn_dealer.specs.declared.parts.Triple.{Triple}
use Rattle.pdn_dealer.specs.Sections.{five_count, PartWords}
use Rattle.pdn_circuit.specs.Gates.{is_and}
use Rattle.pdn_dealer.proofs.SectionWords.{length-ands}
use Rattle.pdn_gmw.specs.Shares.{Masked, GateView, blank, gate_view, UnitWords, r_words, other_site}
use Rattle.pdn_gmw.specs.Halves.{HalfWords, triple_at, half_walk, half_view, half_outputs}
use Rattle.pdn_gmw.specs.Rounds.{put}
use Rattle.pdn_gmw.specs.Layers.{LayerAnd, LayerWords, no_layer, first_of, second_of, gate_at, number_of_and, and_of, is_layer_and, is_layer_rest, layer_of, AreByDepth}
use Rattle.pdn_gmw.specs.Known.{HeldWords, held, no_view, view_at, own_triple, received, unheard, AndThere, AndsThere, and_sends, heard_by, and_share, and_put, linear_share, linear_settled, KnownTo}
use Rattle.pdn_gmw.specs.Steps.{HalfState, half_words, begun, after_take, frame_count, rounds_of, masked_words, masked_of, frame_words, shares_out, FinishedHalf, finished_of}
use Rattle.pdn_gmw.proofs.Progress.{length-sent_words, sent_at}
use Rattle.pdn_gmw.proofs.RoundLaws.{upto, put_later}
use Rattle.pdn_gmw.proofs.Hearing.{hears}
use Rattle.pdn_gmw.proofs.Settling.{layer_and, and_gate, after_and, map_at, known_later, known_more}
use Rattle.pdn_gmw.proofs.Picking.{read_at, picked, laid, put_laid}

-- ---- the gates of a layer
range_within : (n : ℕ) → All (λ k. k < n) (range_with_len 0 n)
range_within n = λ i d l. let m = length-range_with_len 0 n in omega (arith, get_or-range_with_len 0 n i d (omega (arith, m)))

pub layer_within : (p : ℕ → Bool) (n : ℕ) → All (λ k. k < n) (filter p (range_with_len 0 n))
layer_within p n = All-filter p (λ k. k < n) (range_with_len 0 n) (range_within n)

few_kept : (p : ℕ → Bool) (n : ℕ) → length (filter p (range_with_len 0 n)) ≤ n
few_kept p n = omega (arith, length-filter_both p (λ k. not (p k)) (λ k. refl) (range_with_len 0 n), length-range_with_len 0 n)

pub few_ands : (gates : List Gate) (d : ℕ) → length (layer_of gates d).ands ≤ length gates
few_ands gates d = omega (arith, length-map (filter (is_layer_and gates d) (range_with_len 0 (length gates))) (and_of gates), few_kept (is_layer_and gates d) (length gates))

pub rest_there : (gates : List Gate) (d m : ℕ) → m < length (layer_of gates d).rest → slice_index (layer_of gates d).rest m < length gates
rest_there gates d m l = layer_within (is_layer_rest gates d) (length gates) m 0 l

and_there : (net : Net) (d k views : ℕ) → IsCircuit net → views ≡ five_count net → k < length net.gates → is_layer_and net.gates d k ≡ true → AndThere views (length net.gates) (and_of net.gates k)
and_there net d k views is v l p =
    let gates : List Gate = net.gates in
    let g : Gate = gate_at gates k in
    let a = layer_and gates d k p in
    let below : (first_of g < k) × (second_of g < k) = subst (NamesBelow k) (and_gate g a.0) (is.gates.order.at k (Const 0) l) in
    let x = below.0 in let y = below.1 in
    (omega (arith, v, length-ands (take k gates), length-ands gates, counts_on is_and gates k (Const 0) l a.0), l, omega arith, omega arith)

pub ands_there : (net : Net) (d views shares : ℕ) → IsCircuit net → views ≡ five_count net → shares ≡ length net.gates → AndsThere (layer_of net.gates d).ands views shares
ands_there net d views shares is v s m other l =
    let gates : List Gate = net.gates in
    let ks : List ℕ = filter (is_layer_and gates d) (range_with_len 0 (length gates)) in
    let n : m < length ks = omega (arith, length-map ks (and_of gates)) in
    subst (λ (x : ℕ). AndThere views x (slice_index_or (layer_of gates d).ands m other)) (sym s)
    (subst (AndThere views (length gates)) (sym (get_or-map (and_of gates) ks m 0 other n))
    (and_there net d (get_or ks m 0) views is v (layer_within (is_layer_and gates d) (length gates) m 0 n) (filter_passes (is_layer_and gates d) (range_with_len 0 (length gates)) m 0 n)))

-- ---- the frame that goes out
frames_same : (f : ℕ → Masked) (h : ℕ → LayerAnd) (send : LayerAnd → Masked) (n : ℕ → ℕ) (ks : List ℕ) → ((i : ℕ) (d : ℕ) → i < length ks → f (n (get_or ks i d)) ≡ send (h (get_or ks i d)))
    → flat_map masked_words (map f (map n ks)) ≡ flat_map (λ s. masked_words (send s)) (map h ks)
frames_same f h send n [] e = refl
frames_same f h send n (k ∷ ks) e =
    ap (λ (m : Masked). masked_words m ++ flat_map masked_words (map f (map n ks))) (e 0 k (omega arith))
    ∙ ap (λ (ws : List ℕ). masked_words (send (h k)) ++ ws) (frames_same f h send n ks (λ i d l. e (suc i) d (omega arith)))

same_masked : (t u : Triple) (x y x' y' : ℕ) → t ≡ u → x ≡ x' → y ≡ y' → ◌≡◌ {A = Masked} (record { d = x ⊕ t.a; e = y ⊕ t.b }) (record { d = x' ⊕ u.a; e = y' ⊕ u.b })
same_masked t u x y x' y' e f g = rw (e, f, g) refl

sends_right : (hw : HeldWords) (views : List GateView) (heard : List Masked) (gates : List Gate) (t : ℕ) (shares : List ℕ) (k : ℕ) → InOrder gates → KnownTo (held hw views) heard gates t shares → k < length gates → is_layer_and gates (t + 1) k ≡ true
    → read_at (half_walk (held hw views) heard gates).sent (number_of_and gates k) ≡ and_sends views shares (and_of gates k)
sends_right hw views heard gates t shares k o known l p =
    let g : Gate = gate_at gates k in
    let a = layer_and gates (t + 1) k p in
    let after = after_and gates o k t l p in
    sent_at (held hw views) heard gates k (first_of g) (second_of g) (Const 0) o l (and_gate g a.0)
    ∙ same_masked (triple_at (held hw views) (number_of_and gates k)) (own_triple (view_at views (number_of_and gates k))) _ _ _ _ (map_at own_triple views (number_of_and gates k) no_view)
    (sym (known (first_of g) (omega (arith, after.0)) after.2)) (sym (known (second_of g) (omega (arith, after.1)) after.3))

pub frame_is : (hw : HeldWords) (views : List GateView) (heard : List Masked) (net : Net) (t : ℕ) (shares : List ℕ) → IsCircuit net → KnownTo (held hw views) heard net.gates t shares
    → frame_words net t (half_walk (held hw views) heard net.gates).sent ≡ flat_map (λ s. masked_words (and_sends views shares s)) (layer_of net.gates (t + 1)).ands
frame_is hw views heard net t shares is known =
    let gates : List Gate = net.gates in
    let sent : List Masked = (half_walk (held hw views) heard gates).sent in
    let ks : List ℕ = filter (is_layer_and gates (t + 1)) (range_with_len 0 (length gates)) in
    ap (flat_map masked_words) (picked gates (t + 1) sent (length-sent_words (held hw views) heard gates))
    ∙ frames_same (read_at sent) (and_of gates) (and_sends views shares) (number_of_and gates) ks
    (λ i d l. sends_right hw views heard gates t shares (get_or ks i d) is.gates.order known (layer_within (is_layer_and gates (t + 1)) (length gates) i d l) (filter_passes (is_layer_and gates (t + 1)) (range_with_len 0 (length gates)) i d l))

two_each : (send : LayerAnd → Masked) (ss : List LayerAnd) → length (flat_map (λ s. masked_words (send s)) ss) ≡ 2 * length ss
two_each send [] = refl
two_each send (s ∷ ss) = let h = two_each send ss in omega arith

pub frame_long : (hw : HeldWords) (views : List GateView) (heard : List Masked) (net : Net) (t : ℕ) (shares : List ℕ) → IsCircuit net → KnownTo (held hw views) heard net.gates t shares
    → length (frame_words net t (half_walk (held hw views) heard net.gates).sent) ≡ 2 * length (layer_of net.gates (t + 1)).ands
frame_long hw views heard net t shares is known = ap length (frame_is hw views heard net t shares is known) ∙ two_each (and_sends views shares) (layer_of net.gates (t + 1)).ands

-- ---- the one that comes in
map_set : {X Y : Type 0} (f : X → Y) (xs : List X) (k : ℕ) (x : X) → map f (set xs k x) ≡ set (map f xs) k (f x)
map_set f [] k x = refl
map_set f (y ∷ xs) zero x = refl
map_set f (y ∷ xs) (suc k) x = ap (λ ys. f y ∷ ys) (map_set f xs k x)

heard_as_laid : (h : ℕ → LayerAnd) (n : ℕ → ℕ) (ks : List ℕ) (frame : List ℕ) (views : List GateView) → ((k : ℕ) → (h k).number ≡ n k) → map received (heard_by (map h ks) frame views) ≡ laid (map n ks) (masked_of frame) (map received views)
heard_as_laid h n [] frame views e = refl
heard_as_laid h n (k ∷ ks) [] views e = refl
heard_as_laid h n (k ∷ ks) (d ∷ []) views e = refl
heard_as_laid h n (k ∷ ks) (d ∷ i ∷ frame) views e =
    heard_as_laid h n ks frame (set views (h k).number (hears (view_at views (h k).number) d i)) e
    ∙ ap (laid (map n ks) (masked_of frame)) (map_set received views (h k).number (hears (view_at views (h k).number) d i) ∙ ap (λ (j : ℕ). set (map received views) j (record { d = d; e = i })) (e k))

pub heard_put : (net : Net) (d : ℕ) (frame : List ℕ) (views : List GateView) → length views ≡ five_count net
    → map received (heard_by (layer_of net.gates d).ands frame views) ≡ put d (rounds_of net) (map received views) (masked_of frame)
heard_put net d frame views l =
    heard_as_laid (and_of net.gates) (number_of_and net.gates) (filter (is_layer_and net.gates d) (range_with_len 0 (length net.gates))) frame views (λ k. refl)
    ∙ sym (put_laid net.gates d (map received views) (masked_of frame) (length-map views received ∙ l))

triple_kept : (views : List GateView) (k d e : ℕ) → map own_triple (set views k (hears (view_at views k) d e)) ≡ map own_triple views
triple_kept [] k d e = refl
triple_kept (v ∷ views) zero d e = refl
triple_kept (v ∷ views) (suc k) d e = ap (λ (ts : List Triple). own_triple v ∷ ts) (triple_kept views k d e)

pub triples_kept : (ss : List LayerAnd) (frame : List ℕ) (views : List GateView) → map own_triple (heard_by ss frame views) ≡ map own_triple views
triples_kept [] frame views = refl
triples_kept (s ∷ ss) [] views = refl
triples_kept (s ∷ ss) (d ∷ []) views = refl
triples_kept (s ∷ ss) (d ∷ e ∷ frame) views = triples_kept ss frame (set views s.number (hears (view_at views s.number) d e)) ∙ triple_kept views s.number d e

pub held_kept : (hw : HeldWords) (ss : List LayerAnd) (frame : List ℕ) (views : List GateView) → held hw (heard_by ss frame views) ≡ held hw views
held_kept hw ss frame views = ap (λ (ts : List Triple). record (held hw views) { part = record (held hw views).part { triples = ts } }) (triples_kept ss frame views)

pub length-heard_by : (ss : List LayerAnd) (frame : List ℕ) (views : List GateView) → length (heard_by ss frame views) ≡ length views
length-heard_by [] frame views = refl
length-heard_by (s ∷ ss) [] views = refl
length-heard_by (s ∷ ss) (d ∷ []) views = refl
length-heard_by (s ∷ ss) (d ∷ e ∷ frame) views = length-heard_by ss frame (set views s.number (hears (view_at views s.number) d e)) ∙ length-set views s.number (hears (view_at views s.number) d e)

pub length-ands_put : (site : Site) (views : List GateView) (before : List ℕ) (ss : List LayerAnd) (shares : List ℕ) → length (fold (and_put site views before) shares ss) ≡ length shares
length-ands_put site views before [] shares = refl
length-ands_put site views before (s ∷ ss) shares = length-ands_put site views before ss (and_put site views before shares s) ∙ length-set shares s.gate (and_share site views before s)

pub length-linear_settled : (gates : List Gate) (shares rest : List ℕ) → length (fold (linear_settled gates) shares rest) ≡ length shares
length-linear_settled gates shares [] = refl
length-linear_settled gates shares (k ∷ rest) = length-linear_settled gates (linear_settled gates shares k) rest ∙ length-set shares k (linear_share shares (gate_at gates k))

-- all shares up to the next depth
pub known_next : (hw : HeldWords) (views next : List GateView) (net : Net) (t : ℕ) (frame shares after : List ℕ) → IsCircuit net → length views ≡ five_count net → length shares ≡ length net.gates → length after ≡ length net.gates
    → KnownTo (held hw views) (map received views) net.gates t shares → next ≡ heard_by (layer_of net.gates (t + 1)).ands frame views
    → after ≡ fold (and_put hw.site next shares) shares (layer_of net.gates (t + 1)).ands
    → KnownTo (held hw next) (map received next) net.gates (t + 1) (fold (linear_settled net.gates) after (layer_of net.gates (t + 1)).rest)
known_next hw views next net t frame shares after is lv ls la known en ea =
    let gates : List Gate = net.gates in
    let es : List ℕ = and_rounds gates (depths_of gates) in
    let ss : List LayerAnd = (layer_of gates (t + 1)).ands in
    let one : t + 1 ≡ suc t = omega arith in
    let same : map received next ≡ put (suc t) es (map received views) (masked_of frame)
    = ap (map received) en ∙ heard_put net (t + 1) frame views lv ∙ ap (λ (d : ℕ). put d es (map received views) (masked_of frame)) one in
    let as_before : upto t es (map received views) ≡ upto t es (map received next) = sym (ap (upto t es) same ∙ put_later t es (map received views) (masked_of frame)) in
    let half : held hw views ≡ held hw next = sym (ap (held hw) en ∙ held_kept hw ss frame views) in
    let later : KnownTo (held hw next) (map received next) gates t shares
    = subst (λ (h : HalfWords). KnownTo h (map received next) gates t shares) half (known_later (held hw views) (map received views) (map received next) gates t shares is.gates.order as_before known) in
    subst (λ (xs : List ℕ). KnownTo (held hw next) (map received next) gates (t + 1) (fold (linear_settled gates) xs (layer_of gates (t + 1)).rest)) (sym ea)
    (known_more hw next gates t shares is.gates.order ls (ap length (sym ea) ∙ la) later)

-- ---- the start and the end
pub views_begun : (ts : List Triple) → map own_triple (map unheard ts) ≡ ts
views_begun [] = refl
views_begun (t ∷ ts) = ap (λ (us : List Triple). t ∷ us) (views_begun ts)

pub nothing_heard : (ts : List Triple) → map received (map unheard ts) ≡ replicate (length ts) blank
nothing_heard [] = refl
nothing_heard (t ∷ ts) = ap (λ (ms : List Masked). blank ∷ ms) (nothing_heard ts)

pub views_whole : (views : List GateView) → zip2 gate_view (map own_triple views) (map received views) ≡ views
views_whole [] = refl
views_whole (v ∷ views) = ap (λ (vs : List GateView). v ∷ vs) (views_whole views)

past_layers : (layers : List LayerWords) (d : ℕ) → length layers ≤ d → slice_index_or layers d no_layer ≡ no_layer
past_layers [] d l = refl
past_layers (x ∷ xs) zero l = absurd (omega arith)
past_layers (x ∷ xs) (suc d) l = past_layers xs d (omega arith)

pub layers_small : (net : Net) (layers : List LayerWords) → IsCircuit net → AreByDepth net layers → (d : ℕ) → length (slice_index_or layers d no_layer).ands ≤ 16777216
layers_small net layers is are d =
    let few = is.few_gates in
    ⊎_elim
    (λ t. let e = ap (λ (l : LayerWords). length l.ands) (are.at d t.1) in omega (arith, e, few_ands net.gates d))
    (λ t. let u = t.1 in let e = ap (λ (l : LayerWords). length l.ands) (past_layers layers d (omega (arith, are.long))) in omega (arith, e))
    (leb_tells d (frame_count net))

-- in code: what was written is the frame
pub frame_made : (hw : HeldWords) (views vs : List GateView) (net : Net) (t : ℕ) (shares xs frame : List ℕ) (ss : List LayerAnd) → IsCircuit net → KnownTo (held hw views) (map received views) net.gates t shares
    → ss ≡ (layer_of net.gates (t + 1)).ands → vs ≡ views → xs ≡ shares → take (2 * length ss) frame ≡ flat_map (λ s. masked_words (and_sends vs xs s)) ss
    → take (2 * length (layer_of net.gates (t + 1)).ands) frame ≡ frame_words net t (half_walk (held hw views) (map received views) net.gates).sent
frame_made hw views vs net t shares xs frame ss is known es ev ex e =
    let layer : List LayerAnd = (layer_of net.gates (t + 1)).ands in
    ap (λ (zs : List LayerAnd). take (2 * length zs) frame) (sym es) ∙ e
    ∙ ap (λ (zs : List LayerAnd). flat_map (λ s. masked_words (and_sends vs xs s)) zs) es
    ∙ ap (λ (ws : List GateView). flat_map (λ s. masked_words (and_sends ws xs s)) layer) ev
    ∙ ap (λ (ys : List ℕ). flat_map (λ s. masked_words (and_sends views ys s)) layer) ex
    ∙ sym (frame_is hw views (map received views) net t shares is known)

pub finish_is : (net : Net) (hw : HeldWords) (views : List GateView) (own_r other_r outputs shares : List ℕ) → own_r ≡ r_words hw.site hw.r 0 net.gates → other_r ≡ r_words (other_site hw.site) hw.r 0 net.gates
    → outputs ≡ shares_out net (held hw []) shares → shares ≡ (half_walk (held hw views) (map received views) net.gates).shares
    → ◌≡◌ {A = FinishedHalf} (record { net = net; site = hw.site; own = hw.own; given = hw.given; view = record { own = own_r; other = other_r; gates = views; masks = hw.masks }; outputs = outputs })
    (finished_of net (held hw views) (half_view (held hw views) (map received views) net) (half_outputs (held hw views) (map received views) net))
finish_is net hw views own_r other_r outputs shares eo et e es =
    let h : HalfWords = held hw views in
    let all : outputs ≡ half_outputs h (map received views) net = e ∙ ap (shares_out net (held hw [])) es in
    let view : ◌≡◌ {A = UnitWords} (record { own = own_r; other = other_r; gates = views; masks = hw.masks }) (half_view h (map received views) net)
    = ap (λ (xs : List ℕ). record { own = xs; other = other_r; gates = views; masks = hw.masks }) eo
    ∙ ap (λ (xs : List ℕ). record { own = r_words hw.site hw.r 0 net.gates; other = xs; gates = views; masks = hw.masks }) et
    ∙ ap (λ (vs : List GateView). record { own = r_words hw.site hw.r 0 net.gates; other = r_words (other_site hw.site) hw.r 0 net.gates; gates = vs; masks = hw.masks }) (sym (views_whole views)) in
    ap (λ (v : UnitWords). record { net = net; site = hw.site; own = hw.own; given = hw.given; view = v; outputs = outputs }) view
    ∙ ap (finished_of net h (half_view h (map received views) net)) all

pub held_begun : (site : Site) (own given : List ℕ) (part now : PartWords) (views : List GateView) → part ≡ now → views ≡ map unheard part.triples
    → held (record { site = site; own = own; given = given; r = part.r; masks = part.masks }) views ≡ half_words site own given now
held_begun site own given part now views e f =
    ap (λ (vs : List GateView). held (record { site = site; own = own; given = given; r = part.r; masks = part.masks }) vs) f
    ∙ ap (λ (ts : List Triple). half_words site own given (record part { triples = ts })) (views_begun part.triples)
    ∙ ap (half_words site own given) e

pub state_begun : (net now : Net) (half start : HalfWords) (views : List GateView) (ts : List Triple) → net ≡ now → half ≡ start → views ≡ map unheard ts → length ts ≡ five_count now
    → ◌≡◌ {A = HalfState} (record { net = net; half = half; heard = map received views; taken = 0; stage = Ready }) (begun now start)
state_begun net now half start views ts en eh ev l =
    ap (λ (n : Net). record { net = n; half = half; heard = map received views; taken = 0; stage = Ready }) en
    ∙ ap (λ (h : HalfWords). record { net = now; half = h; heard = map received views; taken = 0; stage = Ready }) eh
    ∙ ap (λ (ms : List Masked). record { net = now; half = start; heard = ms; taken = 0; stage = Ready }) (ap (map received) ev ∙ nothing_heard ts ∙ ap (λ (n : ℕ). replicate n blank) l)

pub state_taken : (net : Net) (hw : HeldWords) (views next : List GateView) (t : ℕ) (frame : List ℕ) (stage : Stage) → length views ≡ five_count net → next ≡ heard_by (layer_of net.gates (t + 1)).ands frame views
    → ◌≡◌ {A = HalfState} (record { net = net; half = held hw next; heard = map received next; taken = t + 1; stage = Ready })
    (after_take (record { net = net; half = held hw views; heard = map received views; taken = t; stage = stage }) frame)
state_taken net hw views next t frame stage l e =
    ap (λ (h : HalfWords). record { net = net; half = h; heard = map received next; taken = t + 1; stage = Ready }) (ap (held hw) e ∙ held_kept hw (layer_of net.gates (t + 1)).ands frame views)
    ∙ ap (λ (ms : List Masked). record { net = net; half = held hw views; heard = ms; taken = t + 1; stage = Ready }) (ap (map received) e ∙ heard_put net (t + 1) frame views l)
